-- What the relation of each command says, part by part.
use Rattle.std.proofs.Common.{◌≡◌, inl, inr, ℕ, ◌≤◌, Bool, true, false, List, [], ◌∷◌, ◌++◌, refl, sym, subst, arith}
use Rattle.std.specs.Prelude.{Option, Some, None, Result, decimal, slice_index_or}
use Rattle.j1_table.specs.Image.{Content}
use Rattle.decompiler.specs.Listing.{listing}
use Rattle.decompiler.specs.Laws.{AssemblesOnlyTo}
use Rattle.forth_program.specs.declared.item.DefId.{DefId}
use Rattle.forth_program.specs.Program.{SourceProgram}
use Rattle.library_laws.specs.Bodies.{whole_library}
use Rattle.code_layout.specs.Built.{IsBuilt}
use Rattle.code_layout.specs.Agreement.{AreBytes}
use Rattle.word_table.specs.declared.word.Vocabulary.TheVariants.{Source}
use Rattle.control_flow.specs.SourceLaw.{EachProgramIsSource}
use Rattle.depth_certifier.specs.Certificate.{Cert, IsValid}
use Rattle.depth_certifier.specs.CertificateText.{certificate_text}
use Rattle.step_certifier.specs.declared.bound.BoundCause.{BoundCause}
use Rattle.step_certifier.specs.Bound.{Bounded, Refused, step_bound}
use Rattle.step_certifier.specs.Law.{EndsOnChip}
use Rattle.j1_workbench.specs.declared.status.Status.{Status}
use Rattle.j1_workbench.specs.declared.status.Status.TheVariants.{BadWords, OutOfMemory, BoundRefused}
use Rattle.j1_workbench.specs.declared.answer.Answer.{Answer}
use Rattle.j1_workbench.specs.Words.{Request, Run, Build, Execute, ListImage, Assemble, Certify, Evaluate, Forth, Make, Bound, Net, WriteMemory, WriteKernel, Trace, request_of, steps_allowed}
use Rattle.j1_workbench.specs.Notes.{named}
use Rattle.j1_workbench.specs.Surroundings.{FolderState, Surroundings, IsOnlyRead}
use Rattle.j1_workbench.specs.Sources.{HasCertificate, IsRefusedSource, IsCertifiedSource}
use Rattle.j1_workbench.specs.Headline.{image_of, TextsAreBuilt, CertifiedTextsAgree}
use Rattle.j1_workbench.specs.Driving.{Drives}
use Rattle.j1_workbench.specs.Running.{Runs}
use Rattle.j1_workbench.specs.Compiling.{CompilesText, CompilesSource}
use Rattle.j1_workbench.specs.Building.{Builds}
use Rattle.j1_workbench.specs.Serving.{session_steps, Serves}
use Rattle.j1_workbench.specs.Executing.{Executes}
use Rattle.j1_workbench.specs.ListingImage.{Lists}
use Rattle.j1_workbench.specs.Assembling.{AssemblesFile}
use Rattle.j1_workbench.specs.Making.{Makes}
use Rattle.j1_workbench.specs.WritingMemory.{WritesMemory}
use Rattle.j1_workbench.specs.WritingKernel.{WritesKernel}
use Rattle.j1_workbench.specs.Tracing.{trace_steps, Traces}
use Rattle.j1_workbench.specs.Certifying.{Writes, Certifies}
use Rattle.j1_workbench.specs.Bounding.{Bounds}
use Rattle.j1_workbench.specs.Networking.{Nets}
use Rattle.j1_workbench.specs.Evaluating.{IsReading, IsReadSource, Evaluates, status_after as status_of_eval}
use Rattle.reference_eval.specs.declared.ends.EvalFinish.{EvalFinish}
use Rattle.reference_eval.specs.declared.ends.EvalError.{EvalError}
use Rattle.reference_eval.specs.Outside.{input_of}
use Rattle.reference_eval.specs.Evaluation.{Evaluates as EvaluatesRun}
use Rattle.j1_workbench.specs.Answers.{Does}
use Rattle.j1_workbench.proofs.Counts.{count_fits}

-- the program of a source file can be laid out
pub built : TextsAreBuilt → (source : List ℕ) (before : FolderState) (program : SourceProgram) (certificate : Cert) → IsCertifiedSource source before program certificate → IsBuilt whole_library program
built laws source before program certificate found = laws found.0 program found.2.program_is

pub text_built : TextsAreBuilt → (text : List ℕ) (program : SourceProgram) (certificate : Cert) → HasCertificate text program certificate → IsBuilt whole_library program
text_built laws text program certificate found = laws text program found.program_is

pub text_compiled : (text : List ℕ) (program : SourceProgram) (certificate : Cert) (image : Content) →
    CertifiedTextsAgree → HasCertificate text program certificate → image ≡ image_of program → AssemblesOnlyTo (listing image) image → CompilesText text program image
text_compiled text program certificate image laws found laid lists = record {
  certificate = certificate;
  certified = found;
  compiled = record { laid = laid; does = laws text program certificate found.program_is found.least.valid; lists = lists };
}

-- the image of a source file
pub compiled : (source : List ℕ) (before : FolderState) (program : SourceProgram) (certificate : Cert) (image : Content) →
    CertifiedTextsAgree → IsCertifiedSource source before program certificate → image ≡ image_of program → AssemblesOnlyTo (listing image) image → CompilesSource source before image
compiled source before program certificate image laws found laid lists = record {
  program = program;
  certificate = certificate;
  source_is = found;
  compiled = record { laid = laid; does = laws found.0 program certificate found.2.program_is found.2.least.valid; lists = lists };
}

-- its first data are bytes
pub has_bytes : EachProgramIsSource → (text : List ℕ) (program : SourceProgram) (certificate : Cert) → HasCertificate text program certificate → AreBytes program.first_space
has_bytes sources text program certificate found = (sources Source text program found.program_is).bytes

-- and its certificate is valid
pub is_valid : (source : List ℕ) (before : FolderState) (program : SourceProgram) (certificate : Cert) → IsCertifiedSource source before program certificate → IsValid program certificate
is_valid source before program certificate found = found.2.least.valid

-- ---- run

pub run_refused : (source : List ℕ) (steps : ℕ) (before after : Surroundings) (status : Status) (name : List ℕ) →
    IsOnlyRead 1 before.folder after.folder → IsRefusedSource source before.folder after.folder status name → after.console ≡ before.console → after.out ≡ before.out → Runs source steps before after status name
unfolding Runs
run_refused source steps before after status name read refused console out = (read, inl (refused, (console, out)))

pub run_without_memory : (source : List ℕ) (steps : ℕ) (before after : Surroundings) (name : List ℕ) →
    IsOnlyRead 1 before.folder after.folder → after.console ≡ before.console → after.out ≡ before.out → Runs source steps before after OutOfMemory name
unfolding Runs
run_without_memory source steps before after name read console out = (read, inl (tt, (console, out)))

pub run_driven : (source : List ℕ) (steps : ℕ) (before after : Surroundings) (status : Status) (answer : Answer) (image : Content) →
    answer ≡ record { status = status; name = None } → IsOnlyRead 1 before.folder after.folder → CompilesSource source before.folder image →
    Drives image steps before.console after.console before.out after.out status → Runs source steps before after answer.status (named answer.name)
unfolding Runs
run_driven source steps before after status answer image is read compiles drives =
    subst (λ a. Runs source steps before after a.status (named a.name)) (sym is) (read, inr (record { image = image; compiles = compiles; drives = drives }))

-- ---- certify

pub certify_refused : (source : List ℕ) (before after : Surroundings) (status : Status) (name : List ℕ) →
    IsOnlyRead 1 before.folder after.folder → IsRefusedSource source before.folder after.folder status name → after.console ≡ before.console → after.out ≡ before.out → Certifies source before after status name
unfolding Certifies
certify_refused source before after status name read refused console out = (read, console, inl (refused, out))

pub certify_without_memory : (source : List ℕ) (before after : Surroundings) (name : List ℕ) →
    IsOnlyRead 1 before.folder after.folder → after.console ≡ before.console → after.out ≡ before.out → Certifies source before after OutOfMemory name
unfolding Certifies
certify_without_memory source before after name read console out = (read, console, inl (tt, out))

pub certify_written : (source : List ℕ) (before after : Surroundings) (status : Status) (name text : List ℕ) (program : SourceProgram) (certificate : Cert) →
    IsOnlyRead 1 before.folder after.folder → IsCertifiedSource source before.folder program certificate → after.console ≡ before.console → text ≡ certificate_text program certificate →
    Writes before.out after.out text status → Certifies source before after status name
unfolding Certifies
certify_written source before after status name text program certificate read found console same writes = (
  read,
  console,
  inr (record {
    program = program;
    certificate = certificate;
    source_is = found;
    writes = subst (λ t. Writes before.out after.out t status) same writes;
  }),
)

-- ---- bound

pub bound_refused : (source : List ℕ) (before after : Surroundings) (status : Status) (name : List ℕ) →
    IsOnlyRead 1 before.folder after.folder → IsRefusedSource source before.folder after.folder status name → after.console ≡ before.console → after.out ≡ before.out → Bounds source before after status name
unfolding Bounds
bound_refused source before after status name read refused console out = (read, console, inl (refused, out))

pub bound_without_memory : (source : List ℕ) (before after : Surroundings) (name : List ℕ) →
    IsOnlyRead 1 before.folder after.folder → after.console ≡ before.console → after.out ≡ before.out → Bounds source before after OutOfMemory name
unfolding Bounds
bound_without_memory source before after name read console out = (read, console, inl (tt, out))

pub bound_written : (source : List ℕ) (before after : Surroundings) (status : Status) (answer : Answer) (program : SourceProgram) (certificate : Cert) (image : Content) (steps : ℕ) →
    answer ≡ record { status = status; name = None } → IsOnlyRead 1 before.folder after.folder → IsCertifiedSource source before.folder program certificate → after.console ≡ before.console → image ≡ image_of program →
    step_bound program ≡ Bounded steps → EndsOnChip image steps → Writes before.out after.out (decimal steps ++ 10 ∷ []) status → Bounds source before after answer.status (named answer.name)
unfolding Bounds
bound_written source before after status answer program certificate image steps is read found console laid bound ends writes =
    subst (λ a. Bounds source before after a.status (named a.name)) (sym is) (
      read,
      console,
      inr (record {
        program = program;
        certificate = certificate;
        source_is = found;
        answers = inl (record { steps = steps; bound = bound; ends = subst (λ i. EndsOnChip i steps) laid ends; writes = writes });
      }),
    )

pub bound_none : (source : List ℕ) (before after : Surroundings) (name : List ℕ) (program : SourceProgram) (certificate : Cert) (id : DefId) (cause : BoundCause) →
    IsOnlyRead 1 before.folder after.folder → IsCertifiedSource source before.folder program certificate → after.console ≡ before.console → after.out ≡ before.out →
    step_bound program ≡ Refused id.0 cause → name ≡ slice_index_or program.names id.0 [] → Bounds source before after (BoundRefused id cause) name
unfolding Bounds
bound_none source before after name program certificate id cause read found console out refused called = (
  read,
  console,
  inr (record {
    program = program;
    certificate = certificate;
    source_is = found;
    answers = inr (record { definition = id; cause = cause; refused = refused; status_is = refl; name_is = called; out = out });
  }),
)

-- ---- eval

pub eval_refused : (source : List ℕ) (steps : ℕ) (before after : Surroundings) (status : Status) (name : List ℕ) →
    IsOnlyRead 1 before.folder after.folder → IsRefusedSource source before.folder after.folder status name × IsReading status → after.console ≡ before.console → after.out ≡ before.out → Evaluates source steps before after status name
unfolding Evaluates
eval_refused source steps before after status name read refused console out = (read, inl (refused.0, refused.1, (console, out)))

pub eval_evaluated : (source : List ℕ) (steps : ℕ) (before after : Surroundings) (status : Status) (answer : Answer) (program : SourceProgram) (result : Result EvalFinish EvalError) →
    answer ≡ record { status = status; name = None } → status ≡ status_of_eval result → IsOnlyRead 1 before.folder after.folder → IsReadSource source before.folder program →
    EvaluatesRun program steps result (input_of before.console.bytes before.console.calls) (input_of after.console.bytes after.console.calls)
    before.console.faults after.console.faults before.out.bytes after.out.bytes before.out.faults after.out.faults →
    Evaluates source steps before after answer.status (named answer.name)
unfolding Evaluates
eval_evaluated source steps before after status answer program result is told read found evaluates =
    subst (λ a. Evaluates source steps before after a.status (named a.name)) (sym is) (
      read,
      inr (record { program = program; source_is = found; result = result; status_is = told; evaluates = evaluates }),
    )

-- ---- commands

pub does_nothing : (request : Option Request) (before after : Surroundings) (name : List ℕ) → request ≡ None → after ≡ before → Does request before after BadWords name
unfolding Does
does_nothing request before after name none same = subst (λ r. Does r before after BadWords name) (sym none) (refl, same)

pub does_run : (request : Option Request) (source : List ℕ) (steps : Option ℕ) (before after : Surroundings) (status : Status) (name : List ℕ) →
    request ≡ Some (Run source steps) → Runs source (steps_allowed steps) before after status name → Does request before after status name
unfolding Does
does_run request source steps before after status name asked runs = subst (λ r. Does r before after status name) (sym asked) runs

pub does_certify : (request : Option Request) (source : List ℕ) (before after : Surroundings) (status : Status) (name : List ℕ) →
    request ≡ Some (Certify source) → Certifies source before after status name → Does request before after status name
unfolding Does
does_certify request source before after status name asked certifies = subst (λ r. Does r before after status name) (sym asked) certifies

pub does_bound : (request : Option Request) (source : List ℕ) (before after : Surroundings) (status : Status) (name : List ℕ) →
    request ≡ Some (Bound source) → Bounds source before after status name → Does request before after status name
unfolding Does
does_bound request source before after status name asked bounds = subst (λ r. Does r before after status name) (sym asked) bounds

pub does_net : (request : Option Request) (file : List ℕ) (before after : Surroundings) (status : Status) (name : List ℕ) →
    request ≡ Some (Net file) → Nets file before after status name → Does request before after status name
unfolding Does
does_net request file before after status name asked nets = subst (λ r. Does r before after status name) (sym asked) nets

pub does_evaluate : (request : Option Request) (source : List ℕ) (steps : Option ℕ) (allowed : ℕ) (before after : Surroundings) (status : Status) (name : List ℕ) →
    request ≡ Some (Evaluate source steps) → allowed ≡ steps_allowed steps → Evaluates source allowed before after status name → Does request before after status name
unfolding Does
does_evaluate request source steps allowed before after status name asked few evaluates =
    subst (λ r. Does r before after status name) (sym asked) (subst (λ n. Evaluates source n before after status name) few evaluates)

pub does_build : (request : Option Request) (source file : List ℕ) (before after : Surroundings) (status : Status) (name : List ℕ) →
    request ≡ Some (Build source file) → Builds source file before after status name → Does request before after status name
unfolding Does
does_build request source file before after status name asked builds = subst (λ r. Does r before after status name) (sym asked) builds

pub does_execute : (request : Option Request) (file : List ℕ) (steps : Option ℕ) (before after : Surroundings) (status : Status) (answer : Answer) →
    request ≡ Some (Execute file steps) → answer ≡ record { status = status; name = None } → Executes file (steps_allowed steps) before after status → Does request before after answer.status (named answer.name)
unfolding Does
does_execute request file steps before after status answer asked is executes =
    subst (λ a. Does request before after a.status (named a.name)) (sym is) (subst (λ r. Does r before after status []) (sym asked) executes)

pub does_list : (request : Option Request) (file : List ℕ) (before after : Surroundings) (status : Status) (answer : Answer) →
    request ≡ Some (ListImage file) → answer ≡ record { status = status; name = None } → Lists file before after status → Does request before after answer.status (named answer.name)
unfolding Does
does_list request file before after status answer asked is lists =
    subst (λ a. Does request before after a.status (named a.name)) (sym is) (subst (λ r. Does r before after status []) (sym asked) lists)

pub does_assemble : (request : Option Request) (text file : List ℕ) (before after : Surroundings) (status : Status) (answer : Answer) →
    request ≡ Some (Assemble text file) → answer ≡ record { status = status; name = None } → AssemblesFile text file before after status → Does request before after answer.status (named answer.name)
unfolding Does
does_assemble request text file before after status answer asked is assembles =
    subst (λ a. Does request before after a.status (named a.name)) (sym is) (subst (λ r. Does r before after status []) (sym asked) assembles)

enough : 10000000 ≤ steps_allowed None
unfolding steps_allowed
enough = omega arith

pub does_make : (words : List (List ℕ)) (seed count steps : ℕ) (before after : Surroundings) (status : Status) (name : List ℕ) →
    request_of words ≡ Some (Make seed count) → steps ≡ steps_allowed None → (count ≤ 200 → 10000000 ≤ steps → Makes seed count steps before after status) → Does (request_of words) before after status name
unfolding Does
does_make words seed count steps before after status name asked same makes =
    subst (λ r. Does r before after status name) (sym asked)
    (subst (λ n. Makes seed count n before after status) same (makes (count_fits words seed count asked) (subst (λ n. 10000000 ≤ n) (sym same) enough)))

pub does_forth : (request : Option Request) (steps : Option ℕ) (allowed : ℕ) (before after : Surroundings) (status : Status) (answer : Answer) →
    request ≡ Some (Forth steps) → allowed ≡ session_steps steps → answer ≡ record { status = status; name = None } → Serves allowed before after status → Does request before after answer.status (named answer.name)
unfolding Does
does_forth request steps allowed before after status answer asked few same serves =
    subst (λ a. Does request before after a.status (named a.name)) (sym same)
    (subst (λ r. Does r before after status []) (sym asked) (subst (λ n. Serves n before after status) few serves))

pub does_memory : (request : Option Request) (name file : List ℕ) (before after : Surroundings) (status : Status) (answer : Answer) →
    request ≡ Some (WriteMemory name file) → answer ≡ record { status = status; name = None } → WritesMemory name file before after status →
    Does request before after answer.status (named answer.name)
unfolding Does
does_memory request name file before after status answer asked is writes =
    subst (λ a. Does request before after a.status (named a.name)) (sym is) (subst (λ r. Does r before after status []) (sym asked) writes)

pub does_kernel : (request : Option Request) (file : List ℕ) (before after : Surroundings) (status : Status) (answer : Answer) →
    request ≡ Some (WriteKernel file) → answer ≡ record { status = status; name = None } → WritesKernel file before after status →
    Does request before after answer.status (named answer.name)
unfolding Does
does_kernel request file before after status answer asked is writes =
    subst (λ a. Does request before after a.status (named a.name)) (sym is) (subst (λ r. Does r before after status []) (sym asked) writes)

pub does_trace : (request : Option Request) (file : List ℕ) (steps : Option ℕ) (allowed : ℕ) (before after : Surroundings) (status : Status) (answer : Answer) →
    request ≡ Some (Trace file steps) → allowed ≡ trace_steps steps → answer ≡ record { status = status; name = None } → Traces file allowed before after status →
    Does request before after answer.status (named answer.name)
unfolding Does
does_trace request file steps allowed before after status answer asked few is traces =
    subst (λ a. Does request before after a.status (named a.name)) (sym is)
    (subst (λ r. Does r before after status []) (sym asked) (subst (λ n. Traces file n before after status) few traces))
