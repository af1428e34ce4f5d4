-- Each image file and each assembly text has its one answer, where nothing outside fails.
use Rattle.std.proofs.Common.{◌≡◌, ◌⊎◌, inl, inr, ℕ, zero, suc, ◌<◌, ◌≤◌, List, length, refl, sym, ap, ◌∙◌, subst, arith}
use Rattle.std.specs.Prelude.{Option, Some, None, Result, Ok, Err}
use Rattle.outside_io.specs.Causes.{Rose}
use Rattle.outside_io.specs.Files.{Files, Lacks}
use Rattle.j1_table.specs.Image.{Content}
use Rattle.image_file.specs.File.{IsFile, image_bytes, FirstBad}
use Rattle.image_file.specs.Laws.{FilesAreImages, BadIsNoFile, OneFirstBad}
use Rattle.j1_assembler.specs.declared.refusal.AsmCause.{AsmCause}
use Rattle.j1_assembler.specs.Assembly.{Assembled, Refused, assembled}
use Rattle.j1_assembler.specs.Grammar.{Assembles, AssemblesByGrammar}
use Rattle.j1_assembler.specs.FirstBad.{IsFirstBad, RefusesFirstBad}
use Rattle.j1_workbench.specs.declared.status.Status.{Status}
use Rattle.j1_workbench.specs.declared.status.Status.TheVariants.{Done, Missing, ReadFault, WriteFault, OutOfMemory, TooLarge, BadImage, BadListing}
use Rattle.j1_workbench.specs.Surroundings.{Stream, FolderState, Surroundings}
use Rattle.j1_workbench.specs.Files.{HoldsFile, IsUnread, IsRefusedFile, IsPut}
use Rattle.j1_workbench.specs.Driving.{IsRunAnswer, Drives}
use Rattle.j1_workbench.specs.Certifying.{Writes}
use Rattle.j1_workbench.specs.Images.{IsBadImage, IsImageFile}
use Rattle.j1_workbench.specs.Executing.{RunsImage, Executes}
use Rattle.j1_workbench.specs.ListingImage.{Lists}
use Rattle.j1_workbench.specs.Assembling.{IsBadListing, AssemblesFile}
use Rattle.target_forth.specs.Kernel.{kernel}
use Rattle.j1_workbench.specs.Serving.{ended_status, RunsKernel}
use Rattle.j1_workbench.specs.WritingMemory.{WritesMemory}
use Rattle.j1_workbench.specs.WritingKernel.{WritesKernel}
use Rattle.j1_workbench.specs.Tracing.{traced_status, TracesImage, Traces}
use Rattle.j1_simulator.specs.declared.ends.End.{End}
use Rattle.j1_simulator.specs.declared.ends.End.TheVariants.{Halted, InputEnded, Outside}
use Rattle.j1_simulator.specs.declared.ends.Finish.{Finish}
use Rattle.j1_simulator.specs.declared.ends.Finish.TheVariants.{Ended, StepsUsed}
use Rattle.instruction_trace.specs.declared.traces.TraceError.{TraceError}
use Rattle.instruction_trace.specs.declared.traces.TraceError.TheVariants as trace
use Rattle.j1_workbench.specs.Statuses.{halted_status, status_of}
use Rattle.j1_workbench.specs.Completeness.{Tells, FailsNowhere, IsCompleteFile}

-- ---- what a command finds in a file that is told

pub told_text : (files : Option Files) (source text other : List ℕ) → Tells files source text → HoldsFile files source other → other ≡ text
told_text None source text other told holds = absurd told
told_text (Some files) source text other told holds = let e : Some other ≡ Some text = sym holds ∙ told in cc

pub not_missing : (files : Option Files) (source text : List ℕ) → Tells files source text → Lacks files source → ⊥
not_missing None source text told lacks = told
not_missing (Some files) source text told lacks = let e : Some text ≡ None = sym told ∙ lacks in cc

pub done_answer : (program_text : List ℕ) (before after : Stream) (status : Status) → Writes before after program_text status → (Rose before.faults after.faults → ⊥) → status ≡ Done
done_answer t before after Done writes calm = refl
done_answer t before after WriteFault writes calm = absurd (calm writes.1)
done_answer t before after status writes calm = absurd writes

pub run_answer : (status : Status) (P Q : Type 0) → (status ≡ ReadFault) ⊎ ((status ≡ WriteFault) ⊎ IsRunAnswer status) → (status ≡ ReadFault → P) → (status ≡ WriteFault → Q) → (P → ⊥) → (Q → ⊥) → IsRunAnswer status
run_answer status P Q (inl e) read write no_read no_write = absurd (no_read (read e))
run_answer status P Q (inr (inl e)) read write no_read no_write = absurd (no_write (write e))
run_answer status P Q (inr (inr answer)) read write no_read no_write = answer

-- a write that did not fail
pub done_put : (most : ℕ) (name content : List ℕ) (before after : FolderState) (status : Status) → IsPut most name content before after status →
    (Rose before.write_faults after.write_faults → ⊥) → (status ≡ OutOfMemory) ⊎ (status ≡ Done)
done_put most name content before after status (inl wrote) calm = inr (elim wrote.written [ inl done ↦ done.0 | inr failed ↦ absurd (calm failed.1) ])
done_put most name content before after status (inr wanting) calm = inl wanting.0

-- why a file that is told was not read
unread_file : (most : ℕ) (IsBad : List ℕ → Status → Type 0) (name content : List ℕ) (before after : FolderState) (status : Status) → Tells before.files name content → (Rose before.read_faults after.read_faults → ⊥) →
    IsUnread most name before after status → (status ≡ OutOfMemory) ⊎ (((status ≡ TooLarge) × (most < length content)) ⊎ ((length content ≤ most) × IsBad content status))
unread_file most IsBad name content before after Missing told calm unread = absurd (not_missing before.files name content told unread.1)
unread_file most IsBad name content before after ReadFault told calm unread = absurd (calm unread)
unread_file most IsBad name content before after OutOfMemory told calm unread = inl refl
unread_file most IsBad name content before after TooLarge told calm unread = inr (inl (refl, subst (λ c. most < length c) (told_text before.files name content unread.0 told unread.1) unread.2))
unread_file most IsBad name content before after status told calm unread = absurd unread

-- what refuses a file that is told
pub refused_file : (most : ℕ) (IsBad : List ℕ → Status → Type 0) (name content : List ℕ) (before after : FolderState) (status : Status) → Tells before.files name content → (Rose before.read_faults after.read_faults → ⊥) →
    IsRefusedFile most IsBad name before after status → (status ≡ OutOfMemory) ⊎ (((status ≡ TooLarge) × (most < length content)) ⊎ ((length content ≤ most) × IsBad content status))
refused_file most IsBad name content before after status told calm (inl unread) = unread_file most IsBad name content before after status told calm unread
refused_file most IsBad name content before after status told calm (inr found) =
    let same = told_text before.files name content found.0 told found.1.holds in
    inr (inr (subst (λ c. length c ≤ most) same found.1.short, subst (λ c. IsBad c status) same found.2))

-- a bad content has one refusal, and no good content is bad
pub record AreApart (IsBad : List ℕ → Status → Type 0) (IsGood : List ℕ → Type 0) : Type 0 where
  pub one : (content : List ℕ) (status other : Status) → IsBad content status → IsBad content other → status ≡ other
  pub bad : (content : List ℕ) (status : Status) → IsBad content status → IsGood content → ⊥

module _ (most : ℕ) (IsBad : List ℕ → Status → Type 0) (IsGood : List ℕ → Type 0) (apart : AreApart IsBad IsGood) (content : List ℕ) (status : Status) (IsAnswer : Status → Type 0) where
  pub by_refusal : (status ≡ OutOfMemory) ⊎ (((status ≡ TooLarge) × (most < length content)) ⊎ ((length content ≤ most) × IsBad content status)) → IsCompleteFile most IsBad IsGood content status IsAnswer
  by_refusal (inl wanting) = record { too_large = λ long. inl wanting; refused = λ refusal short bad. inl wanting; good = λ short good. inl wanting }
  by_refusal (inr (inl large)) = record { too_large = λ long. inr large.0; refused = λ refusal short bad. absurd (omega (arith, large.1)); good = λ short good. absurd (omega (arith, large.1)) }
  by_refusal (inr (inr found)) = record {
    too_large = λ long. absurd (omega (arith, found.0));
    refused = λ refusal short bad. inr (apart.one content status refusal found.1 bad);
    good = λ short good. absurd (apart.bad content status found.1 good);
  }

  by_answer : length content ≤ most → IsGood content → IsAnswer status → IsCompleteFile most IsBad IsGood content status IsAnswer
  by_answer short good answer = record {
    too_large = λ long. absurd (omega arith);
    refused = λ refusal short bad. absurd (apart.bad content refusal bad good);
    good = λ short good. inr answer;
  }

-- ---- image files

pub record ImageFileLaws : Type 0 where
  pub bad : BadIsNoFile
  pub one : OneFirstBad

bad_image : (content : List ℕ) (status : Status) → IsBadImage content status → (offset : ℕ) × (status ≡ BadImage offset) × FirstBad content offset
bad_image content (BadImage offset) bad = (offset, refl, bad)
bad_image content status bad = absurd bad

images_apart : ImageFileLaws → AreApart IsBadImage IsFile
images_apart laws = record {
  one = λ content status other first second.
      let a = bad_image content status first in
      let b = bad_image content other second in
      a.1 ∙ (ap BadImage (laws.one content a.0 b.0 a.2 b.2) ∙ sym b.1);
  bad = λ content status bad file. let a = bad_image content status bad in laws.bad content a.0 a.2 file;
}

-- the file of an image that is told
image_told : (name content : List ℕ) (before : FolderState) (image : Content) → Tells before.files name content → IsImageFile name before image → (length content ≤ 32768) × IsFile content
image_told name content before image told is =
    let same = told_text before.files name content is.content told is.read.holds in
    (subst (λ c. length c ≤ 32768) same is.read.short, (image, is.fits, sym same ∙ is.is))

pub execute_complete : ImageFileLaws → (file content : List ℕ) (steps : ℕ) (before after : Surroundings) (status : Status) →
    Executes file steps before after status → Tells before.folder.files file content → FailsNowhere before after → IsCompleteFile 32768 IsBadImage IsFile content status IsRunAnswer
unfolding Executes
execute_complete laws file content steps before after status (read, inl refused) told calm =
    by_refusal 32768 IsBadImage IsFile (images_apart laws) content status IsRunAnswer (refused_file 32768 IsBadImage file content before.folder after.folder status told calm.folder refused.0)
execute_complete laws file content steps before after status (read, inr ran) told calm =
    let is = image_told file content before.folder ran.image told ran.is_in in
    by_answer 32768 IsBadImage IsFile (images_apart laws) content status IsRunAnswer is.0 is.1
    (run_answer status _ _ ran.drives.answered ran.drives.read_fault ran.drives.write_fault calm.console calm.out)

pub list_complete : ImageFileLaws → (file content : List ℕ) (before after : Surroundings) (status : Status) →
    Lists file before after status → Tells before.folder.files file content → FailsNowhere before after → IsCompleteFile 32768 IsBadImage IsFile content status (λ s. s ≡ Done)
unfolding Lists
list_complete laws file content before after status (read, console, inl refused) told calm =
    by_refusal 32768 IsBadImage IsFile (images_apart laws) content status (λ s. s ≡ Done) (refused_file 32768 IsBadImage file content before.folder after.folder status told calm.folder refused.0)
list_complete laws file content before after status (read, console, inr wrote) told calm =
    let is = image_told file content before.folder wrote.image told wrote.is_in in
    by_answer 32768 IsBadImage IsFile (images_apart laws) content status (λ s. s ≡ Done) is.0 is.1 (done_answer _ before.out after.out status wrote.writes calm.out)

-- a file that holds the bytes of an image is run as that image
pub built_runs : (file : List ℕ) (steps : ℕ) (before after : Surroundings) (status : Status) (image : Content) → FilesAreImages → Tells before.folder.files file (image_bytes image) →
    RunsImage file steps before after status → Drives image steps before.console after.console before.out after.out status
built_runs file steps before after status image same told ran =
    let content = told_text before.folder.files file (image_bytes image) ran.is_in.content told ran.is_in.read.holds in
    subst (λ i. Drives i steps before.console after.console before.out after.out status) (same ran.image image (sym ran.is_in.is ∙ content)) ran.drives

pub memory_complete : ImageFileLaws → (name file content : List ℕ) (before after : Surroundings) (status : Status) →
    WritesMemory name file before after status → Tells before.folder.files name content → FailsNowhere before after → (Rose before.folder.write_faults after.folder.write_faults → ⊥) →
    IsCompleteFile 32768 IsBadImage IsFile content status (λ s. s ≡ Done)
unfolding WritesMemory
memory_complete laws name file content before after status (quiet, inl refused) told calm writes =
    by_refusal 32768 IsBadImage IsFile (images_apart laws) content status (λ s. s ≡ Done) (refused_file 32768 IsBadImage name content before.folder after.folder status told calm.folder refused.1)
memory_complete laws name file content before after status (quiet, inr wrote) told calm writes =
    let is = image_told name content before.folder wrote.image told wrote.is_in in
    elim (done_put 2 file _ before.folder after.folder status wrote.written writes) [
      | inl wanting ↦ by_refusal 32768 IsBadImage IsFile (images_apart laws) content status (λ s. s ≡ Done) (inl wanting)
      | inr done ↦ by_answer 32768 IsBadImage IsFile (images_apart laws) content status (λ s. s ≡ Done) is.0 is.1 done
    ]

-- ---- traces

halted_answer : (number : ℕ) → IsRunAnswer (halted_status number)
halted_answer zero = tt
halted_answer (suc number) = tt

ended_answer : (end : End) → IsRunAnswer (status_of (Some end))
ended_answer (Halted number) = halted_answer number
ended_answer InputEnded = tt
ended_answer (Outside address) = tt

trace_answer : (result : Result Finish TraceError) (P Q : Type 0) → (result ≡ Err trace.Read → P) → (result ≡ Err trace.Write → Q) → (P → ⊥) → (Q → ⊥) →
    (traced_status result ≡ OutOfMemory) ⊎ IsRunAnswer (traced_status result)
trace_answer (Ok (Ended end)) P Q read write no_read no_write = inr (ended_answer end)
trace_answer (Ok StepsUsed) P Q read write no_read no_write = inr tt
trace_answer (Err trace.Read) P Q read write no_read no_write = absurd (no_read (read refl))
trace_answer (Err trace.Write) P Q read write no_read no_write = absurd (no_write (write refl))
trace_answer (Err trace.OutOfMemory) P Q read write no_read no_write = inl refl

pub trace_complete : ImageFileLaws → (file content : List ℕ) (steps : ℕ) (before after : Surroundings) (status : Status) →
    Traces file steps before after status → Tells before.folder.files file content → FailsNowhere before after → IsCompleteFile 32768 IsBadImage IsFile content status IsRunAnswer
unfolding Traces
trace_complete laws file content steps before after status (read, inl refused) told calm =
    by_refusal 32768 IsBadImage IsFile (images_apart laws) content status IsRunAnswer (refused_file 32768 IsBadImage file content before.folder after.folder status told calm.folder refused.0)
trace_complete laws file content steps before after status (read, inr ran) told calm =
    let is = image_told file content before.folder ran.image told ran.is_in in
    elim (trace_answer ran.result _ _ ran.read_fault ran.write_fault calm.console calm.out) [
      | inl wanting ↦ by_refusal 32768 IsBadImage IsFile (images_apart laws) content status IsRunAnswer (inl (ran.status_is ∙ wanting))
      | inr answer ↦ by_answer 32768 IsBadImage IsFile (images_apart laws) content status IsRunAnswer is.0 is.1 (subst IsRunAnswer (sym ran.status_is) answer)
    ]

-- ---- the kernel's image

pub kernel_complete : (file : List ℕ) (before after : Surroundings) (status : Status) →
    WritesKernel file before after status → (Rose before.folder.write_faults after.folder.write_faults → ⊥) → (status ≡ OutOfMemory) ⊎ (status ≡ Done)
unfolding WritesKernel
kernel_complete file before after status (quiet, inl wanting) calm = inl wanting.0
kernel_complete file before after status (quiet, inr wrote) calm = done_put 1 file _ before.folder after.folder status wrote.1 calm

pub kernel_file_runs : FilesAreImages → (file : List ℕ) (steps : ℕ) (before after : Surroundings) (status : Status) →
    Tells before.folder.files file (image_bytes kernel) → RunsImage file steps before after status → RunsKernel steps before after (ended_status status)
kernel_file_runs same file steps before after status told ran =
    record { driven = status; drives = built_runs file steps before after status kernel same told ran; answer = refl }

-- ---- assembly texts

pub record TextLaws : Type 0 where
  pub grammar : AssemblesByGrammar
  pub first : RefusesFirstBad

bad_listing : (text : List ℕ) (status : Status) → IsBadListing text status → (line : ℕ) × (cause : AsmCause) × (status ≡ BadListing line) × IsFirstBad text line cause
bad_listing text (BadListing line) bad = (line, bad.0, refl, bad.1)
bad_listing text status bad = absurd bad

same_line : (text : List ℕ) (line other : ℕ) (cause reason : AsmCause) → assembled text ≡ Refused line cause → assembled text ≡ Refused other reason → line ≡ other
same_line text line other cause reason e f = cc

not_both : (text : List ℕ) (line : ℕ) (cause : AsmCause) (image : Content) → assembled text ≡ Refused line cause → assembled text ≡ Assembled image → ⊥
not_both text line cause image e f = cc

abbrev IsText : List ℕ → Type 0
IsText text = (image : Content) × Assembles text image

texts_apart : TextLaws → AreApart IsBadListing IsText
texts_apart laws = record {
  one = λ text status other first second.
      let a = bad_listing text status first in
      let b = bad_listing text other second in
      a.2 ∙ (ap BadListing (same_line text a.0 b.0 a.1 b.1 ((laws.first text a.0 a.1).1 a.3) ((laws.first text b.0 b.1).1 b.3)) ∙ sym b.2);
  bad = λ text status bad good. let a = bad_listing text status bad in not_both text a.0 a.1 good.0 ((laws.first text a.0 a.1).1 a.3) ((laws.grammar text good.0).1 good.1);
}

pub assemble_complete : TextLaws → (name file text : List ℕ) (before after : Surroundings) (status : Status) →
    AssemblesFile name file before after status → Tells before.folder.files name text → FailsNowhere before after → (Rose before.folder.write_faults after.folder.write_faults → ⊥) →
    IsCompleteFile 524288 IsBadListing (λ text. (image : Content) × Assembles text image) text status (λ s. s ≡ Done)
unfolding AssemblesFile
assemble_complete laws name file text before after status (quiet, inl refused) told calm writes =
    by_refusal 524288 IsBadListing IsText (texts_apart laws) text status (λ s. s ≡ Done) (refused_file 524288 IsBadListing name text before.folder after.folder status told calm.folder refused.1)
assemble_complete laws name file text before after status (quiet, inr wrote) told calm writes =
    let same = told_text before.folder.files name text wrote.text told wrote.read.holds in
    elim (done_put 2 file _ before.folder after.folder status wrote.written writes) [
      | inl wanting ↦ by_refusal 524288 IsBadListing IsText (texts_apart laws) text status (λ s. s ≡ Done) (inl wanting)
      | inr done ↦
          by_answer 524288 IsBadListing IsText (texts_apart laws) text status (λ s. s ≡ Done)
          (subst (λ c. length c ≤ 524288) same wrote.read.short) (wrote.image, subst (λ t. Assembles t wrote.image) same wrote.assembles) done
    ]
