-- Each net file has its one answer, where nothing outside fails.
use Rattle.std.proofs.Common.{◌≡◌, ◌⊎◌, inl, inr, ℕ, suc, ◌≤◌, List, [], ◌∷◌, length, map, refl, sym, ap, ◌∙◌, subst, arith}
use Rattle.std.specs.Prelude.{Option}
use Rattle.outside_io.specs.Causes.{Rose}
use Rattle.outside_io.specs.Files.{Files}
use Rattle.forth_program.specs.Program.{SourceProgram}
use Rattle.depth_certifier.specs.Rounds.{OneRefusal}
use Rattle.j1_table.specs.Image.{Content}
use Rattle.net_file.specs.Net.{NetPlan, IsNetText}
use Rattle.net_file.specs.FirstBad.{IsFirstBadLine}
use Rattle.net_file.specs.Reading.{ToldNet, BadAt, net_told}
use Rattle.net_file.specs.Laws.{TellsNet, RefusesFirstBadLine}
use Rattle.j1_workbench.specs.declared.status.Status.{Status}
use Rattle.j1_workbench.specs.declared.status.Status.TheVariants.{OutOfMemory, BadNet}
use Rattle.j1_workbench.specs.Surroundings.{Stream, FolderState, Surroundings}
use Rattle.j1_workbench.specs.Sources.{HasCertificate}
use Rattle.j1_workbench.specs.Headline.{image_of}
use Rattle.j1_workbench.specs.Compiling.{CompilesSource}
use Rattle.j1_workbench.specs.Networking.{IsBadNet, IsNetFile, CompileEach, RefusesCores, net_status, WritesThen, Nets}
use Rattle.j1_workbench.specs.Completeness.{Tells, FailsNowhere, IsCompleteFile, AllCertified, IsFirstRefused, IsCompleteNet}
use Rattle.j1_workbench.proofs.FileCompleteness.{told_text, refused_file, AreApart, by_refusal}
use Rattle.j1_workbench.proofs.Completeness.{same_program, refused_not_certified, one_refusal, refused_source}

pub record NetLaws : Type 0 where
  pub tells : TellsNet
  pub first : RefusesFirstBadLine

-- ---- a text has one net, or one first bad line

one_net : NetLaws → (text : List ℕ) (net other : NetPlan) → IsNetText text net → IsNetText text other → other ≡ net
one_net laws text net other a b =
    let e : net_told text ≡ ToldNet net = (laws.tells text net).1 a in
    let f : net_told text ≡ ToldNet other = (laws.tells text other).1 b in
    cc

net_not_bad : NetLaws → (text : List ℕ) (net : NetPlan) (line : ℕ) → IsNetText text net → IsFirstBadLine text line → ⊥
net_not_bad laws text net line a b =
    let e : net_told text ≡ ToldNet net = (laws.tells text net).1 a in
    let f : net_told text ≡ BadAt line = (laws.first text line).1 b in
    cc

one_line : NetLaws → (text : List ℕ) (line other : ℕ) → IsFirstBadLine text line → IsFirstBadLine text other → line ≡ other
one_line laws text line other a b =
    let e : net_told text ≡ BadAt line = (laws.first text line).1 a in
    let f : net_told text ≡ BadAt other = (laws.first text other).1 b in
    cc

bad_net : (text : List ℕ) (status : Status) → IsBadNet text status → (line : ℕ) × (status ≡ BadNet line) × IsFirstBadLine text line
bad_net text (BadNet line) bad = (line, refl, bad)
bad_net text status bad = absurd bad

abbrev HasNet : List ℕ → Type 0
HasNet text = (net : NetPlan) × IsNetText text net

nets_apart : NetLaws → AreApart IsBadNet HasNet
nets_apart laws = record {
  one = λ text status other first second.
      let a = bad_net text status first in
      let b = bad_net text other second in
      a.1 ∙ (ap BadNet (one_line laws text a.0 b.0 a.2 b.2) ∙ sym b.1);
  bad = λ text status bad has. let a = bad_net text status bad in net_not_bad laws text has.0 a.0 has.1 a.2;
}

-- ---- the sources of the cores

-- the text of a source that has an image
certified : (source text : List ℕ) (before : FolderState) (image : Content) → Tells before.files source text → (c : CompilesSource source before image) → HasCertificate text c.program c.certificate
certified source text before image told c = subst (λ t. HasCertificate t c.program c.certificate) (told_text before.files source text c.source_is.0 told c.source_is.1) c.source_is.2

or_wanting : (status : Status) (P : Type 0) (A : Type 0) → (status ≡ OutOfMemory) ⊎ P → (P → A) → (status ≡ OutOfMemory) ⊎ A
or_wanting status P A (inl wanting) h = inl wanting
or_wanting status P A (inr found) h = inr (h found)

cores_refused : OneRefusal → (calls : ℕ) (sources : List (List ℕ)) (before after : FolderState) (status refusal : Status) (name : List ℕ) → (Rose before.read_faults after.read_faults → ⊥) →
    RefusesCores calls sources before after status name → IsFirstRefused before.files sources refusal → (status ≡ OutOfMemory) ⊎ (status ≡ refusal)
cores_refused one calls [] before after status refusal name calm (read, wanting) first = inl wanting
cores_refused one calls (source ∷ sources) before after status refusal name calm (inl (read, (called, refused, is))) (inl (text, other, told, bad)) =
    or_wanting status _ _ (refused_source source text before after status called told calm refused) (λ found. one_refusal one text status refusal called other found bad)
cores_refused one calls (source ∷ sources) before after status refusal name calm (inl (read, (called, refused, is))) (inr (text, program, certificate, told, good, later)) =
    or_wanting status _ _ (refused_source source text before after status called told calm refused) (λ found. absurd (refused_not_certified text status called program certificate found good))
cores_refused one calls (source ∷ sources) before after status refusal name calm (inr (image, compiles, rest)) (inl (text, other, told, bad)) =
    absurd (refused_not_certified text refusal other compiles.program compiles.certificate bad (certified source text before image told compiles))
cores_refused one calls (source ∷ sources) before after status refusal name calm (inr (image, compiles, rest)) (inr (text, program, certificate, told, good, later)) =
    cores_refused one (suc calls) sources before after status refusal name calm rest later

cores_certified : (calls : ℕ) (sources : List (List ℕ)) (before after : FolderState) (status : Status) (name : List ℕ) (programs : List SourceProgram) (A : Type 0) → (Rose before.read_faults after.read_faults → ⊥) →
    RefusesCores calls sources before after status name → AllCertified before.files sources programs → (status ≡ OutOfMemory) ⊎ A
cores_certified calls [] before after status name programs A calm (read, wanting) all = inl wanting
cores_certified calls (source ∷ sources) before after status name programs A calm (inl (read, (called, refused, is))) (text, program, certificate, others, same, told, good, rest) =
    or_wanting status _ _ (refused_source source text before after status called told calm refused) (λ found. absurd (refused_not_certified text status called program certificate found good))
cores_certified calls (source ∷ sources) before after status name programs A calm (inr (image, compiles, later)) (text, program, certificate, others, same, told, good, rest) =
    cores_certified (suc calls) sources before after status name others A calm later rest

images_refused : (sources : List (List ℕ)) (before : FolderState) (images : List Content) (refusal : Status) → CompileEach sources before images → IsFirstRefused before.files sources refusal → ⊥
images_refused [] before images refusal each first = first
images_refused (source ∷ sources) before images refusal (image, others, same, compiles, each) (inl (text, name, told, bad)) =
    refused_not_certified text refusal name compiles.program compiles.certificate bad (certified source text before image told compiles)
images_refused (source ∷ sources) before images refusal (image, others, same, compiles, each) (inr (text, program, certificate, told, good, later)) =
    images_refused sources before others refusal each later

-- the images of sources with certificates are those of their programs
images_are : (sources : List (List ℕ)) (before : FolderState) (images : List Content) (programs : List SourceProgram) → CompileEach sources before images → AllCertified before.files sources programs →
    images ≡ map image_of programs
images_are [] before images programs each all = each ∙ sym (ap (map image_of) all)
images_are (source ∷ sources) before images programs (image, others, same, compiles, each) (text, program, certificate, rest, is, told, good, all) =
    let here = certified source text before image told compiles in
    let one : compiles.program ≡ program = same_program text compiles.program program here.program_is good.program_is in
    same ∙ ap (λ i. i ∷ others) (compiles.compiled.laid ∙ ap image_of one) ∙ ap (λ l. image_of program ∷ l) (images_are sources before others rest each all) ∙ sym (ap (map image_of) is)

-- ---- the command

wrote : (before after : Stream) (text : List ℕ) (ran status : Status) → WritesThen before after text ran status → (Rose before.faults after.faults → ⊥) → status ≡ ran
wrote before after text ran status (inl (writes, is)) calm = is
wrote before after text ran status (inr (writes, is)) calm = absurd (calm writes.1)

told_net : (file text : List ℕ) (before : FolderState) (net : NetPlan) → Tells before.files file text → IsNetFile file before net → (length text ≤ 65536) × IsNetText text net
told_net file text before net told is =
    let same = told_text before.files file text is.text told is.read.holds in
    (subst (λ t. length t ≤ 65536) same is.read.short, subst (λ t. IsNetText t net) same is.is_net)

no_answer : (status : Status) (A : Type 0) → (status ≡ OutOfMemory) ⊎ ⊥ → (status ≡ OutOfMemory) ⊎ A
no_answer status A (inl wanting) = inl wanting
no_answer status A (inr none) = absurd none

by_file : (files : Option Files) (text : List ℕ) (status : Status) → IsCompleteFile 65536 IsBadNet HasNet text status (λ s. ⊥) → IsCompleteNet files text status
by_file files text status file = record {
  too_large = file.too_large;
  bad = λ line short first. file.refused (BadNet line) short first;
  refused = λ net refusal short is first. no_answer status _ (file.good short (net, is));
  run = λ net programs short is all. no_answer status _ (file.good short (net, is));
}

pub nets_complete : OneRefusal → NetLaws → (file text : List ℕ) (before after : Surroundings) (status : Status) (name : List ℕ) →
    Nets file before after status name → Tells before.folder.files file text → FailsNowhere before after → IsCompleteNet before.folder.files text status
unfolding Nets
nets_complete one laws file text before after status name (console, inl (inl (read, refused, none), out)) told calm =
    by_file before.folder.files text status
    (by_refusal 65536 IsBadNet HasNet (nets_apart laws) text status (λ s. ⊥) (refused_file 65536 IsBadNet file text before.folder after.folder status told calm.folder refused))
nets_complete one laws file text before after status name (console, inl (inr (net, is_in, refuses), out)) told calm =
    let good = told_net file text before.folder net told is_in in
    record {
      too_large = λ long. absurd (omega (arith, good.0));
      bad = λ line short first. absurd (net_not_bad laws text net line good.1 first);
      refused = λ other refusal short is first.
          cores_refused one 1 net.cores before.folder after.folder status refusal name calm.folder refuses (subst (λ (n : NetPlan). IsFirstRefused before.folder.files n.cores refusal) (one_net laws text net other good.1 is) first);
      run = λ other programs short is all.
          cores_certified 1 net.cores before.folder after.folder status name programs _ calm.folder refuses (subst (λ (n : NetPlan). AllCertified before.folder.files n.cores programs) (one_net laws text net other good.1 is) all);
    }
nets_complete one laws file text before after status name (console, inr ran) told calm =
    let good = told_net file text before.folder ran.net told ran.is_in in
    let answer = wrote before.out after.out _ _ status ran.writes calm.out in
    record {
      too_large = λ long. absurd (omega (arith, good.0));
      bad = λ line short first. absurd (net_not_bad laws text ran.net line good.1 first);
      refused = λ other refusal short is first.
          absurd (images_refused ran.net.cores before.folder ran.images refusal ran.compiled (subst (λ (n : NetPlan). IsFirstRefused before.folder.files n.cores refusal) (one_net laws text ran.net other good.1 is) first));
      run = λ other programs short is all.
          let same = one_net laws text ran.net other good.1 is in
          let images = images_are ran.net.cores before.folder ran.images programs ran.compiled (subst (λ (n : NetPlan). AllCertified before.folder.files n.cores programs) same all) in
          inr (answer ∙ ap (net_status ran.net) images ∙ sym (ap (λ n. net_status n (map image_of programs)) same));
    }
