-- What `net` reads, compiles and writes.
use Rattle.std.proofs.Common.{◌≡◌, inl, inr, ℕ, suc, ◌+◌, ◌≤◌, Bool, true, false, List, [], ◌∷◌, ◌++◌, length, map, Option, Some, None, refl, sym, ap, ◌∙◌, subst, arith, append_assoc}
use Rattle.std.proofs.Common.{◌-◌, String, get_or, take, drop, take_all, string_bytes}
use Rattle.std.specs.Prelude.{◌&&◌, ◌==◌, not, nat_lt}
use Rattle.std.specs.List.{list_all}
use Rattle.std.proofs.lemmas.Bool.{ltb-true}
use Rattle.outside_io.specs.Causes.{Rose}
use Rattle.outside_io.specs.Files.{Files, Lacks, KeepsFiles}
use Rattle.j1_table.specs.Image.{Content}
use Rattle.net_file.specs.Net.{NetPlan, is_file_name, IsNetText}
use Rattle.net_file.specs.FirstBad.{IsFirstBadLine}
use Rattle.j1_workbench.specs.declared.status.Status.{Status}
use Rattle.j1_workbench.specs.declared.status.Status.TheVariants.{Missing, ReadFault, OutOfMemory, BadNet}
use Rattle.j1_workbench.specs.declared.answer.Answer.{Answer}
use Rattle.j1_workbench.specs.Notes.{named}
use Rattle.j1_workbench.specs.Surroundings.{FolderState, Surroundings, IsOnlyRead}
use Rattle.j1_workbench.specs.Files.{HoldsFile, IsRead, IsUnread, IsRefusedFile}
use Rattle.j1_workbench.specs.Sources.{IsRefusedSource}
use Rattle.j1_workbench.specs.Compiling.{CompilesSource}
use Rattle.j1_workbench.specs.Networking.{IsBadNet, IsNetFile, CompileEach, core_named, RefusesCores, net_status, net_output, WritesThen, Nets}

-- ---- the net file

pub net_unread : (file : List ℕ) (before after : FolderState) (status : Status) → IsUnread 65536 file before after status → IsRefusedFile 65536 IsBadNet file before after status
net_unread file before after status unread = inl unread

pub net_bad : (file content bytes : List ℕ) (before after : FolderState) (line : ℕ) → IsRead 65536 file before content → bytes ≡ content → IsFirstBadLine bytes line →
    IsRefusedFile 65536 IsBadNet file before after (BadNet line)
net_bad file content bytes before after line read same bad = inr (content, read, subst (λ b. IsFirstBadLine b line) same bad)

pub net_read : (file content bytes : List ℕ) (before : FolderState) (net : NetPlan) → IsRead 65536 file before content → bytes ≡ content → IsNetText bytes net → list_all is_file_name net.cores ≡ true →
    IsNetFile file before net
net_read file content bytes before net read same is names = record { text = content; read = read; is_net = subst (λ b. IsNetText b net) same is; names = names }

-- ---- a folder that was read before

holds_kept : (old new : Option Files) (name content : List ℕ) → KeepsFiles old new → HoldsFile new name content → HoldsFile old name content
holds_kept None new name content keeps holds = tt
holds_kept (Some files) None name content keeps holds = absurd keeps
holds_kept (Some files) (Some after) name content keeps holds = sym (keeps name) ∙ holds

lacks_kept : (old new : Option Files) (name : List ℕ) → KeepsFiles old new → Lacks new name → Lacks old name
lacks_kept None new name keeps lacks = tt
lacks_kept (Some files) None name keeps lacks = absurd keeps
lacks_kept (Some files) (Some after) name keeps lacks = sym (keeps name) ∙ lacks

rises : (a b c : ℕ) → a ≤ b → Rose b c → Rose a c
rises a b c h r = omega (arith, r)

compiles_kept : (source : List ℕ) (before middle : FolderState) (image : Content) → KeepsFiles before.files middle.files → CompilesSource source middle image → CompilesSource source before image
compiles_kept source before middle image keeps c = record {
  program = c.program;
  certificate = c.certificate;
  source_is = (c.source_is.0, holds_kept before.files middle.files source c.source_is.0 keeps c.source_is.1, c.source_is.2);
  compiled = c.compiled;
}

refused_kept : (n : ℕ) (source : List ℕ) (before middle after : FolderState) (status : Status) (name : List ℕ) → IsOnlyRead n before middle → IsRefusedSource source middle after status name → IsRefusedSource source before after status name
refused_kept n source before middle after Missing name read refused =
    (rises before.absences middle.absences after.absences read.absences refused.0, lacks_kept before.files middle.files source read.files refused.1)
refused_kept n source before middle after ReadFault name read refused = rises before.read_faults middle.read_faults after.read_faults read.read_faults refused
refused_kept n source before middle after OutOfMemory name read refused = tt
refused_kept n source before middle after status name read refused = (refused.0, holds_kept before.files middle.files source refused.0 read.files refused.1, refused.2)

each_kept : (sources : List (List ℕ)) (before middle : FolderState) (images : List Content) → KeepsFiles before.files middle.files → CompileEach sources middle images → CompileEach sources before images
each_kept [] before middle images keeps each = each
each_kept (source ∷ sources) before middle images keeps (image, others, same, first, rest) =
    (image, others, same, compiles_kept source before middle image keeps first, each_kept sources before middle others keeps rest)

kept_after : (old mid new : Option Files) → KeepsFiles old mid → KeepsFiles mid new → KeepsFiles old new
kept_after None mid new first second = tt
kept_after (Some files) None new first second = absurd first
kept_after (Some files) (Some middle) None first second = absurd second
kept_after (Some files) (Some middle) (Some after) first second = λ other. second other ∙ first other

pub read_then : (n m k : ℕ) (before middle after : FolderState) → n + m ≤ k → IsOnlyRead n before middle → IsOnlyRead m middle after → IsOnlyRead k before after
read_then n m k before middle after few first second = record {
  files = kept_after before.files middle.files after.files first.files second.files;
  calls = omega (arith, first.calls, second.calls);
  read_faults = omega (arith, first.read_faults, second.read_faults);
  write_faults = second.write_faults ∙ first.write_faults;
  absences = omega (arith, first.absences, second.absences);
}

-- a folder that was called n times, and then m times, for the cores
cores_kept : (n m : ℕ) (sources : List (List ℕ)) (before middle after : FolderState) (status : Status) (name : List ℕ) → IsOnlyRead n before middle → RefusesCores m sources middle after status name →
    RefusesCores (n + m) sources before after status name
cores_kept n m [] before middle after status name read (later, wanting) = (read_then n m (n + m) before middle after (omega arith) read later, wanting)
cores_kept n m (source ∷ sources) before middle after status name read (inl (later, (called, refused, is))) =
    inl (read_then n (suc m) (suc (n + m)) before middle after (omega arith) read later, (called, refused_kept n source before middle after status called read refused, is))
cores_kept n m (source ∷ sources) before middle after status name read (inr (image, first, rest)) =
    inr (image, compiles_kept source before middle image read.files first, subst (λ k. RefusesCores k sources before after status name) (omega arith) (cores_kept n (suc m) sources before middle after status name read rest))

-- ---- the sources of the cores

halves : (a b : Bool) → (a && b) ≡ true → (a ≡ true) × (b ≡ true)
halves true b e = (refl, e)
halves false b e = cc

pub file_short : (name : List ℕ) → is_file_name name ≡ true → length name ≤ 255
file_short [] e = omega arith
file_short (first ∷ rest) e =
    let parts = halves (not (first == 45)) (nat_lt (length rest) 255) e in
    let few = ltb-true (length rest) 255 parts.1 in
    omega arith

pub head_named : (source : List ℕ) (sources : List (List ℕ)) → list_all is_file_name (source ∷ sources) ≡ true → (is_file_name source ≡ true) × (list_all is_file_name sources ≡ true)
head_named source sources e = halves (is_file_name source) (list_all is_file_name sources) e

-- a source and those behind it
pub sources_split : {Z : Type 0} (sources : List (String Z)) (first : String Z) → first ≡ get_or sources 0 first → 1 ≤ length sources →
    map string_bytes sources ≡ string_bytes first ∷ map string_bytes (take (length sources - 1) (drop 1 sources))
sources_split [] first is some = absurd (omega arith)
sources_split (source ∷ sources) first is some =
    ap (λ s. string_bytes s ∷ map string_bytes sources) (sym is) ∙ ap (λ l. string_bytes first ∷ map string_bytes l) (sym (take_all (suc (length sources) - 1) sources (omega arith)))

-- the images of one source more
pub more_images : (old pushed new : List Content) (source : List ℕ) (sources all : List (List ℕ)) (before middle : FolderState) (image : Content) →
    all ≡ source ∷ sources → pushed ≡ old ++ image ∷ [] → CompilesSource source before image → IsOnlyRead 1 before middle →
    (more : List Content) × (new ≡ pushed ++ more) × CompileEach sources middle more →
    (more : List Content) × (new ≡ old ++ more) × CompileEach all before more
more_images old pushed new source sources all before middle image is push first read (more, same, each) = (
  image ∷ more,
  same ∙ ap (λ l. l ++ more) push ∙ append_assoc old (image ∷ []) more,
  subst (λ a. CompileEach a before (image ∷ more)) (sym is) (image, more, refl, first, each_kept sources before middle more read.files each),
)

-- the first source is refused, or a later one, or memory is wanting
pub later_refused : (source : List ℕ) (sources all : List (List ℕ)) (before middle after : FolderState) (image : Content) (status : Status) (name : List ℕ) →
    all ≡ source ∷ sources → CompilesSource source before image → IsOnlyRead 1 before middle → RefusesCores 0 sources middle after status name → RefusesCores 0 all before after status name
later_refused source sources all before middle after image status name is first read refuses =
    subst (λ a. RefusesCores 0 a before after status name) (sym is) (inr (image, first, cores_kept 1 0 sources before middle after status name read refuses))

pub first_refused : (source : List ℕ) (sources all : List (List ℕ)) (before after : FolderState) (status told : Status) (name called : List ℕ) →
    all ≡ source ∷ sources → IsOnlyRead 1 before after → IsRefusedSource source before after told called → status ≡ told → name ≡ core_named source told called → RefusesCores 0 all before after status name
first_refused source sources all before after status told name called is read refused same names =
    subst (λ a. RefusesCores 0 a before after status name) (sym is) (subst (λ s. RefusesCores 0 (source ∷ sources) before after s name) (sym same) (inl (read, (called, refused, names))))

pub wanting : (sources : List (List ℕ)) (before after : FolderState) (answer : Answer) → 1 ≤ length sources → IsOnlyRead 1 before after → answer ≡ record { status = OutOfMemory; name = None } →
    RefusesCores 0 sources before after answer.status (named answer.name)
wanting [] before after answer some read is = absurd (omega arith)
wanting (source ∷ sources) before after answer some read is = subst (λ a. RefusesCores 0 (source ∷ sources) before after a.status (named a.name)) (sym is) (inl (read, ([], tt, refl)))

-- memory is wanting behind the last of the sources
wanting_behind : (calls : ℕ) (sources : List (List ℕ)) (before after : FolderState) (images : List Content) (name : List ℕ) → CompileEach sources before images → IsOnlyRead (calls + length sources) before after →
    RefusesCores calls sources before after OutOfMemory name
wanting_behind calls [] before after images name each read = (subst (λ k. IsOnlyRead k before after) (omega arith) read, refl)
wanting_behind calls (source ∷ sources) before after images name (image, others, same, first, rest) read =
    inr (image, first, wanting_behind (suc calls) sources before after others name rest (subst (λ k. IsOnlyRead k before after) (omega arith) read))

-- there are as many images as sources
pub as_many : (sources : List (List ℕ)) (before : FolderState) (images : List Content) → CompileEach sources before images → length images ≡ length sources
as_many [] before images each = ap length each
as_many (source ∷ sources) before images (image, others, same, first, rest) = ap length same ∙ ap suc (as_many sources before others rest)

-- ---- the whole command

pub nets_unread : (file : List ℕ) (before after : Surroundings) (status : Status) (answer : Answer) → answer ≡ record { status = status; name = None } →
    IsOnlyRead 1 before.folder after.folder → IsRefusedFile 65536 IsBadNet file before.folder after.folder status → after.console ≡ before.console → after.out ≡ before.out → Nets file before after answer.status (named answer.name)
unfolding Nets
nets_unread file before after status answer is read refused console out =
    subst (λ a. Nets file before after a.status (named a.name)) (sym is) (console, inl (inl (read, refused, refl), out))

-- the folder was read for the net file, and then for so many cores
all_read : (before middle after : FolderState) (net : NetPlan) (sources : List (List ℕ)) (cores : ℕ) →
    IsOnlyRead 1 before middle → sources ≡ net.cores → cores ≡ length sources → IsOnlyRead cores middle after → IsOnlyRead (1 + length net.cores) before after
all_read before middle after net sources cores first same count second =
    let many : length sources ≡ length net.cores = ap length same in
    read_then 1 cores (1 + length net.cores) before middle after (omega arith) first second

pub nets_refused : (file : List ℕ) (before after : Surroundings) (middle : FolderState) (net : NetPlan) (sources : List (List ℕ)) (status : Status) (name : List ℕ) →
    IsOnlyRead 1 before.folder middle → IsNetFile file before.folder net → sources ≡ net.cores →
    RefusesCores 0 sources middle after.folder status name → after.console ≡ before.console → after.out ≡ before.out → Nets file before after status name
unfolding Nets
nets_refused file before after middle net sources status name first is same refuses console out =
    let refused : RefusesCores 0 net.cores middle after.folder status name = subst (λ s. RefusesCores 0 s middle after.folder status name) same refuses in
    (console, inl (inr (net, is, cores_kept 1 0 net.cores before.folder middle after.folder status name first refused), out))

pub nets_without_memory : (file : List ℕ) (before after : Surroundings) (middle : FolderState) (net : NetPlan) (sources : List (List ℕ)) (images : List Content) (cores : ℕ) (answer : Answer) →
    answer ≡ record { status = OutOfMemory; name = None } → IsOnlyRead 1 before.folder middle → IsNetFile file before.folder net → sources ≡ net.cores → cores ≡ length sources → IsOnlyRead cores middle after.folder →
    CompileEach sources middle images → after.console ≡ before.console → after.out ≡ before.out → Nets file before after answer.status (named answer.name)
unfolding Nets
nets_without_memory file before after middle net sources images cores answer is first found same count second each console out =
    let read = all_read before.folder middle after.folder net sources cores first same count second in
    let compiled : CompileEach net.cores before.folder images = each_kept net.cores before.folder middle images first.files (subst (λ s. CompileEach s middle images) same each) in
    subst (λ a. Nets file before after a.status (named a.name)) (sym is) (console, inl (inr (net, found, wanting_behind 1 net.cores before.folder after.folder images [] compiled read), out))

pub nets_run : (file : List ℕ) (before after : Surroundings) (middle : FolderState) (net : NetPlan) (sources : List (List ℕ)) (images built : List Content) (cores : ℕ) (lines : List ℕ) (ran status : Status) (answer : Answer) →
    answer ≡ record { status = status; name = None } → IsOnlyRead 1 before.folder middle → IsNetFile file before.folder net → sources ≡ net.cores → cores ≡ length sources → IsOnlyRead cores middle after.folder →
    CompileEach sources middle built → images ≡ built → lines ≡ net_output net images → ran ≡ net_status net images → after.console ≡ before.console → WritesThen before.out after.out lines ran status →
    Nets file before after answer.status (named answer.name)
unfolding Nets
nets_run file before after middle net sources images built cores lines ran status answer is first found same count second each equal told end console writes =
    let wrote : WritesThen before.out after.out (net_output net images) (net_status net images) status =
    subst (λ r. WritesThen before.out after.out (net_output net images) r status) end (subst (λ l. WritesThen before.out after.out l ran status) told writes) in
    let compiled : CompileEach net.cores before.folder images = each_kept net.cores before.folder middle images first.files (subst (λ s. CompileEach s middle images) same (subst (CompileEach sources middle) (sym equal) each)) in
    subst (λ a. Nets file before after a.status (named a.name)) (sym is) (
      console,
      inr (record {
        net = net;
        is_in = found;
        reads = all_read before.folder middle after.folder net sources cores first same count second;
        images = images;
        compiled = compiled;
        writes = wrote;
      }),
    )
