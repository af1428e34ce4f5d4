-- Each source has its one answer, where nothing outside fails.
use Rattle.std.proofs.Common.{◌≡◌, ◌⊎◌, inl, inr, ℕ, zero, suc, ◌<◌, ◌≤◌, List, [], ◌∷◌, length, true, false, nat_le, refl, sym, ap, ◌∙◌, subst, arith}
use Rattle.std.proofs.lemmas.Bool.Decides.{nat_tests}
use Rattle.std.specs.Prelude.{Result, Ok, Err, slice_index_or}
use Rattle.std.specs.List.{All, list_all}
use Rattle.std.proofs.lemmas.Bool.{and_parts}
use Rattle.std.proofs.lemmas.List.Elements.{All-nil, All-cons}
use Rattle.outside_io.specs.Causes.{Rose}
use Rattle.forth_program.specs.Tree.{Node, Literal, Plain, Call, Child}
use Rattle.forth_program.specs.Program.{SourceProgram}
use Rattle.control_flow.specs.ParseResult.{ParseResult, Fine, Refused, Endless}
use Rattle.control_flow.specs.SourceText.{program_of_text}
use Rattle.word_table.specs.declared.word.Vocabulary.TheVariants.{Source}
use Rattle.control_flow.specs.SourceLaw.{is_read_token, EachIsJudged, EachProgramIsSource}
use Rattle.control_flow.specs.declared.refusal.SourceCause.{SourceCause}
use Rattle.control_flow.specs.declared.refusal.SourceRefusal.{SourceRefusal}
use Rattle.forth_program.specs.declared.item.DefId.{DefId}
use Rattle.depth_certifier.specs.declared.effect.CertCause.{CertCause}
use Rattle.depth_certifier.specs.Certificate.{Cert, IsValid}
use Rattle.depth_certifier.specs.Rounds.{Refusal, RoundsRefuse, ProperToken, RoundsEnd, RoundsFindTheLeast, RefusedHaveNone, OneRefusal}
use Rattle.j1_workbench.specs.declared.status.Status.{Status}
use Rattle.j1_workbench.specs.declared.status.Status.TheVariants.{Done, Missing, SourceRefused, NotCertified, ReadFault, OutOfMemory, TooLarge}
use Rattle.j1_workbench.specs.Surroundings.{Stream, FolderState, Surroundings}
use Rattle.j1_workbench.specs.Files.{HoldsFile}
use Rattle.j1_workbench.specs.Sources.{HasCertificate, IsUncertified, IsRefusedText, IsRefusedSource}
use Rattle.j1_workbench.specs.Driving.{IsRunAnswer}
use Rattle.j1_workbench.specs.Running.{Runs}
use Rattle.j1_workbench.specs.Compiling.{CompilesSource}
use Rattle.j1_workbench.specs.Certifying.{Certifies}
use Rattle.j1_workbench.specs.Bounding.{WritesBound, HasNoBound, Bounds}
use Rattle.j1_workbench.specs.Building.{Builds}
use Rattle.j1_workbench.specs.Making.{Makes}
use Rattle.j1_table.specs.Image.{Content}
use Rattle.image_file.specs.Laws.{FilesAreImages}
use Rattle.j1_workbench.proofs.Sessions.{session_complete}
use Rattle.j1_workbench.proofs.FileCompleteness.{ImageFileLaws, TextLaws, told_text, not_missing, done_answer, done_put, run_answer, execute_complete, list_complete, memory_complete, trace_complete, kernel_complete, kernel_file_runs, assemble_complete, built_runs}
use Rattle.reference_eval.specs.declared.ends.End.TheVariants as ends
use Rattle.reference_eval.specs.declared.ends.EvalFinish.{EvalFinish}
use Rattle.reference_eval.specs.declared.ends.EvalFinish.TheVariants as finish
use Rattle.reference_eval.specs.declared.ends.EvalError.{EvalError}
use Rattle.reference_eval.specs.declared.ends.EvalError.TheVariants as error
use Rattle.j1_workbench.specs.Statuses.{halted_status}
use Rattle.j1_workbench.specs.Evaluating.{IsReadText, IsReading, IsEvaluationAnswer, Evaluates, status_after as status_of_eval}
use Rattle.j1_workbench.specs.Completeness.{Tells, FailsNowhere, IsComplete, IsEvaluated, IsBoundAnswer, IsAnswerOfText, IsJudged, NetsAreComplete, AnswersAreComplete}

-- ---- a text has one outcome

pub same_program : (text : List ℕ) (p q : SourceProgram) → program_of_text text ≡ Fine p → program_of_text text ≡ Fine q → p ≡ q
same_program text p q e f = cc

clash : {A : Type 0} (text : List ℕ) → 65536 < length text → length text ≤ 65536 → A
clash text long short = absurd (omega arith)

-- the three kinds of a refused text
pub by_kind : (P : Status → Type 0) (text : List ℕ) (status : Status) (name : List ℕ) → IsRefusedText text status name →
    (65536 < length text → P TooLarge) →
    ((refusal : SourceRefusal) → length text ≤ 65536 → program_of_text text ≡ Refused refusal.token refusal.cause → P (SourceRefused refusal)) →
    ((id : DefId) (cause : CertCause) → IsUncertified text id.0 cause name → P (NotCertified id cause)) → P status
by_kind P text TooLarge name refused long faulty uncertified = long refused
by_kind P text (SourceRefused refusal) name refused long faulty uncertified = faulty refusal refused.0 refused.1
by_kind P text (NotCertified id cause) name refused long faulty uncertified = uncertified id cause refused
by_kind P text status name refused long faulty uncertified = absurd refused

pub refused_not_certified : (text : List ℕ) (status : Status) (name : List ℕ) (p : SourceProgram) (z : Cert) → IsRefusedText text status name → HasCertificate text p z → ⊥
refused_not_certified text status name p z refused c =
    by_kind (λ s. ⊥) text status name refused
    (λ long. clash text long c.short)
    (λ refusal short e. let f = c.program_is in cc)
    (λ id cause u. u.none z (subst (λ q. IsValid q z) (same_program text p u.program c.program_is u.program_is) c.least.valid))

same_outcome : (text : List ℕ) (r s : SourceRefusal) → program_of_text text ≡ Refused r.token r.cause → program_of_text text ≡ Refused s.token s.cause → SourceRefused r ≡ SourceRefused s
same_outcome text r s e f =
    let tokens : r.token ≡ s.token = cc in
    let causes : r.cause ≡ s.cause = cc in
    let between : SourceRefusal = record { token = s.token; cause = r.cause } in
    let first : r ≡ between = ap (λ (n : ℕ). record { token = n; cause = r.cause }) tokens in
    let second : between ≡ s = ap (λ (c : SourceCause). record { token = s.token; cause = c }) causes in
    ap SourceRefused (first ∙ second)

same_definition : (p : SourceProgram) (id other : DefId) (cause reason : CertCause) → OneRefusal → RoundsRefuse p (record { definition = id.0; reason = cause }) → RoundsRefuse p (record { definition = other.0; reason = reason }) →
    NotCertified id cause ≡ NotCertified other reason
same_definition p id other cause reason one first second =
    let same = one p (record { definition = id.0; reason = cause }) (record { definition = other.0; reason = reason }) first second in
    let numbers : id.0 ≡ other.0 = ap (λ (r : Refusal). r.definition) same in
    let causes : cause ≡ reason = ap (λ (r : Refusal). r.reason) same in
    let ids : id ≡ other = ap (λ (n : ℕ). record { 0 = n }) numbers in
    cc

-- a text has one refusal at most
pub one_refusal : OneRefusal → (text : List ℕ) (status other : Status) (name called : List ℕ) → IsRefusedText text status name → IsRefusedText text other called → status ≡ other
one_refusal one text status other name called first second =
    by_kind (λ s. s ≡ other) text status name first
    (λ long. by_kind (λ s. TooLarge ≡ s) text other called second (λ again. refl) (λ r short e. clash text long short) (λ id cause u. clash text long u.short))
    (λ r short e. by_kind (λ s. SourceRefused r ≡ s) text other called second (λ long. clash text long short) (λ s again f. same_outcome text r s e f) (λ id cause u. let f = u.program_is in cc))
    (λ id cause u. by_kind (λ s. NotCertified id cause ≡ s) text other called second (λ long. clash text long u.short) (λ r short e. let f = u.program_is in cc)
    (λ other reason v.
    same_definition u.program id other cause reason one u.refusal
    (subst (λ p. RoundsRefuse p (record { definition = other.0; reason = reason })) (same_program text v.program u.program v.program_is u.program_is)
    v.refusal)))

-- ---- what a command finds in a file that is told

refused_text : (source text : List ℕ) (before : FolderState) (status : Status) (name : List ℕ) → Tells before.files source text →
    (other : List ℕ) × HoldsFile before.files source other × IsRefusedText other status name → (status ≡ OutOfMemory) ⊎ IsRefusedText text status name
refused_text source text before status name told found = inr (subst (λ t. IsRefusedText t status name) (told_text before.files source text found.0 told found.1) found.2)

pub refused_source : (source text : List ℕ) (before after : FolderState) (status : Status) (name : List ℕ) → Tells before.files source text → (Rose before.read_faults after.read_faults → ⊥) →
    IsRefusedSource source before after status name → (status ≡ OutOfMemory) ⊎ IsRefusedText text status name
refused_source source text before after Missing name told calm refused = absurd (not_missing before.files source text told refused.1)
refused_source source text before after ReadFault name told calm refused = absurd (calm refused)
refused_source source text before after OutOfMemory name told calm refused = inl refl
refused_source source text before after status name told calm refused = refused_text source text before status name told refused

-- a refused text and a certified one
by_refusal : OneRefusal → (text : List ℕ) (status : Status) (name : List ℕ) (IsAnswer : Status → Type 0) → (status ≡ OutOfMemory) ⊎ IsRefusedText text status name → IsComplete text status IsAnswer
by_refusal one text status name IsAnswer (inl wanting) = record { refused = λ refusal called refused. inl wanting; certified = λ p z c. inl wanting }
by_refusal one text status name IsAnswer (inr found) = record {
  refused = λ refusal called refused. inr (one_refusal one text status refusal name called found refused);
  certified = λ p z c. absurd (refused_not_certified text status name p z found c);
}

by_certificate : (text : List ℕ) (status : Status) (IsAnswer : Status → Type 0) (p : SourceProgram) (z : Cert) → HasCertificate text p z → IsAnswer status → IsComplete text status IsAnswer
by_certificate text status IsAnswer p z found answer = record {
  refused = λ refusal called refused. absurd (refused_not_certified text refusal called p z refused found);
  certified = λ q y c. inr answer;
}

by_source : (source text : List ℕ) (before : FolderState) (status : Status) (IsAnswer : Status → Type 0) (image : Content) → Tells before.files source text →
    CompilesSource source before image → IsAnswer status → IsComplete text status IsAnswer
by_source source text before status IsAnswer image told c answer =
    by_certificate text status IsAnswer c.program c.certificate (subst (λ t. HasCertificate t c.program c.certificate) (told_text before.files source text c.source_is.0 told c.source_is.1) c.source_is.2) answer

-- ---- the commands

run_complete : OneRefusal → (source text : List ℕ) (steps : ℕ) (before after : Surroundings) (status : Status) (name : List ℕ) →
    Runs source steps before after status name → Tells before.folder.files source text → FailsNowhere before after → IsComplete text status IsRunAnswer
unfolding Runs
run_complete one source text steps before after status name (read, inl refused) told calm =
    by_refusal one text status name IsRunAnswer (refused_source source text before.folder after.folder status name told calm.folder refused.0)
run_complete one source text steps before after status name (read, inr ran) told calm =
    by_source source text before.folder status IsRunAnswer ran.image told ran.compiles
    (run_answer status _ _ ran.drives.answered ran.drives.read_fault ran.drives.write_fault calm.console calm.out)

certify_complete : OneRefusal → (source text : List ℕ) (before after : Surroundings) (status : Status) (name : List ℕ) →
    Certifies source before after status name → Tells before.folder.files source text → FailsNowhere before after → IsComplete text status (λ s. s ≡ Done)
unfolding Certifies
certify_complete one source text before after status name (read, console, inl refused) told calm =
    by_refusal one text status name (λ s. s ≡ Done) (refused_source source text before.folder after.folder status name told calm.folder refused.0)
certify_complete one source text before after status name (read, console, inr wrote) told calm =
    by_certificate text status (λ s. s ≡ Done) wrote.program wrote.certificate
    (subst (λ t. HasCertificate t wrote.program wrote.certificate) (told_text before.folder.files source text wrote.source_is.0 told wrote.source_is.1) wrote.source_is.2)
    (done_answer _ before.out after.out status wrote.writes calm.out)

bound_answer : (program : SourceProgram) (before after : Stream) (status : Status) (name : List ℕ) → WritesBound program before after status ⊎ HasNoBound program before after status name → (Rose before.faults after.faults → ⊥) →
    IsBoundAnswer program status
bound_answer program before after status name (inl wrote) calm =
    subst (IsBoundAnswer program) (sym (done_answer _ before after status wrote.writes calm)) (wrote.steps, wrote.bound)
bound_answer program before after status name (inr none) calm = subst (IsBoundAnswer program) (sym none.status_is) none.refused

bound_complete : OneRefusal → (source text : List ℕ) (before after : Surroundings) (status : Status) (name : List ℕ) →
    Bounds source before after status name → Tells before.folder.files source text → FailsNowhere before after → IsComplete text status (IsAnswerOfText text)
unfolding Bounds
bound_complete one source text before after status name (read, console, inl refused) told calm =
    by_refusal one text status name (IsAnswerOfText text) (refused_source source text before.folder after.folder status name told calm.folder refused.0)
bound_complete one source text before after status name (read, console, inr bounds) told calm =
    let found = subst (λ t. HasCertificate t bounds.program bounds.certificate) (told_text before.folder.files source text bounds.source_is.0 told bounds.source_is.1) bounds.source_is.2 in
    by_certificate text status (IsAnswerOfText text) bounds.program bounds.certificate found
    (bounds.program, found.program_is, bound_answer bounds.program before.out after.out status name bounds.answers calm.out)

build_complete : OneRefusal → (source file text : List ℕ) (before after : Surroundings) (status : Status) (name : List ℕ) →
    Builds source file before after status name → Tells before.folder.files source text → FailsNowhere before after → (Rose before.folder.write_faults after.folder.write_faults → ⊥) → IsComplete text status (λ s. s ≡ Done)
unfolding Builds
build_complete one source file text before after status name (quiet, inl refused) told calm writes =
    by_refusal one text status name (λ s. s ≡ Done) (refused_source source text before.folder after.folder status name told calm.folder refused.1)
build_complete one source file text before after status name (quiet, inr wrote) told calm writes =
    elim (done_put 2 file _ before.folder after.folder status wrote.written writes) [
      | inl wanting ↦ by_refusal one text status name (λ s. s ≡ Done) (inl wanting)
      | inr done ↦ by_source source text before.folder status (λ s. s ≡ Done) wrote.image told wrote.compiles done
    ]

make_complete : (seed count steps : ℕ) (before after : Surroundings) (status : Status) → Makes seed count steps before after status → FailsNowhere before after → (status ≡ OutOfMemory) ⊎ (status ≡ Done)
unfolding Makes
make_complete seed count steps before after status (folder, console, inl wanting) calm = inl wanting.0
make_complete seed count steps before after status (folder, console, inr ran) calm = elim ran.answer [ inl done ↦ inr done | inr failed ↦ absurd (calm.out failed.1) ]

-- ---- each text is judged

judged_program : RoundsEnd → RoundsFindTheLeast → RefusedHaveNone → (text : List ℕ) (p : SourceProgram) → length text ≤ 65536 → program_of_text text ≡ Fine p → All ProperToken p.tokens → IsJudged text
judged_program end least none text p short is proper =
    elim (end p) [
      | inl settled ↦ inr (p, settled.0, record { short = short; program_is = is; least = least p settled.0 proper settled.1 })
      | inr refused ↦ inl (
        NotCertified (record { 0 = refused.0.definition }) refused.0.reason,
        slice_index_or p.names refused.0.definition [],
        record { program = p; short = short; program_is = is; refusal = refused.1; none = λ z valid. none p refused.0 z refused.1 valid; name_is = refl },
      )
    ]

proper_token : (count : ℕ) (node : Node) → is_read_token count node ≡ true → ProperToken node
proper_token count (Literal value) e = tt
proper_token count (Plain word) e = e
proper_token count (Call definition) e = tt
proper_token count (Child definition address) e = tt
proper_token count node e = absurd cc

proper_tokens : (count : ℕ) (nodes : List Node) → list_all (is_read_token count) nodes ≡ true → All ProperToken nodes
proper_tokens count [] e = All-nil ProperToken
proper_tokens count (node ∷ nodes) e =
    let both = and_parts (is_read_token count node) (list_all (is_read_token count) nodes) e in
    All-cons ProperToken node nodes (proper_token count node both.0) (proper_tokens count nodes both.1)

judged_outcome : EachIsJudged → EachProgramIsSource → RoundsEnd → RoundsFindTheLeast → RefusedHaveNone → (text : List ℕ) (outcome : ParseResult SourceProgram) → program_of_text text ≡ outcome → length text ≤ 65536 → IsJudged text
judged_outcome each sources end least none text (Fine p) is short = judged_program end least none text p short is (proper_tokens (length p.bodies) p.tokens (sources Source text p is).token_items)
judged_outcome each sources end least none text (Refused token cause) is short = inl (SourceRefused (record { token = token; cause = cause }), [], (short, is))
judged_outcome each sources end least none text Endless is short = absurd (each Source text is)

judged : EachIsJudged → EachProgramIsSource → RoundsEnd → RoundsFindTheLeast → RefusedHaveNone → (text : List ℕ) → IsJudged text
judged each sources end least none text =
    elim (nat_le (length text) 65536) as (λ short. nat_le (length text) 65536 ≡ short → IsJudged text) [
      | true ↦ λ short. judged_outcome each sources end least none text (program_of_text text) refl (grind (arith, nat_tests))
      | false ↦ λ long. inl (TooLarge, [], grind (arith, nat_tests))
    ] refl

-- ---- eval

not_refused : (text : List ℕ) (status : Status) (name : List ℕ) (p : SourceProgram) → IsRefusedText text status name → IsReading status → IsReadText text p → ⊥
not_refused text status name p refused reading is =
    by_kind (λ s. IsReading s → ⊥) text status name refused
    (λ long r. clash text long is.short)
    (λ refusal short e r. let f = is.program_is in cc)
    (λ id cause u r. r)
    reading

eval_refusal : OneRefusal → (text : List ℕ) (status : Status) (name : List ℕ) → IsReading status → (status ≡ OutOfMemory) ⊎ IsRefusedText text status name → IsEvaluated text status
eval_refusal one text status name reading (inl wanting) = record { refused = λ refusal called refused r. inl wanting; read = λ p is. inl wanting }
eval_refusal one text status name reading (inr found) = record {
  refused = λ refusal called refused r. inr (one_refusal one text status refusal name called found refused);
  read = λ p is. absurd (not_refused text status name p found reading is);
}

halted_answer : (n : ℕ) → IsEvaluationAnswer (halted_status n)
halted_answer zero = tt
halted_answer (suc n) = tt

eval_answer : (result : Result EvalFinish EvalError) (P Q : Type 0) → (result ≡ Err error.Read → P) → (result ≡ Err error.Write → Q) → (P → ⊥) → (Q → ⊥) → (status_of_eval result ≡ OutOfMemory) ⊎ IsEvaluationAnswer (status_of_eval result)
eval_answer (Ok (finish.Ended (ends.Halted n))) P Q read write no_read no_write = inr (halted_answer n)
eval_answer (Ok (finish.Ended ends.InputEnded)) P Q read write no_read no_write = inr tt
eval_answer (Ok (finish.Ended (ends.Outside address))) P Q read write no_read no_write = inr tt
eval_answer (Ok finish.StepsUsed) P Q read write no_read no_write = inr tt
eval_answer (Ok finish.Underflow) P Q read write no_read no_write = inr tt
eval_answer (Ok finish.Unbalanced) P Q read write no_read no_write = inr tt
eval_answer (Err error.Read) P Q read write no_read no_write = absurd (no_read (read refl))
eval_answer (Err error.Write) P Q read write no_read no_write = absurd (no_write (write refl))
eval_answer (Err error.OutOfMemory) P Q read write no_read no_write = inl refl

eval_read : (text : List ℕ) (status : Status) (p : SourceProgram) → IsReadText text p → (status ≡ OutOfMemory) ⊎ IsEvaluationAnswer status → IsEvaluated text status
eval_read text status p is answer = record {
  refused = λ refusal called refused r. absurd (not_refused text refusal called p refused r is);
  read = λ q other. answer;
}

eval_complete : OneRefusal → (source text : List ℕ) (steps : ℕ) (before after : Surroundings) (status : Status) (name : List ℕ) →
    Evaluates source steps before after status name → Tells before.folder.files source text → FailsNowhere before after → IsEvaluated text status
unfolding Evaluates
eval_complete one source text steps before after status name (read, inl refused) told calm =
    eval_refusal one text status name refused.1 (refused_source source text before.folder after.folder status name told calm.folder refused.0)
eval_complete one source text steps before after status name (read, inr ran) told calm =
    eval_read text status ran.program
    (subst (λ t. IsReadText t ran.program) (told_text before.folder.files source text ran.source_is.0 told ran.source_is.1) ran.source_is.2)
    (subst (λ s. (s ≡ OutOfMemory) ⊎ IsEvaluationAnswer s) (sym ran.status_is) (eval_answer ran.result _ _ ran.evaluates.read_cause ran.evaluates.write_cause calm.console calm.out))

pub complete : EachIsJudged → EachProgramIsSource → RoundsEnd → RoundsFindTheLeast → RefusedHaveNone → OneRefusal → ImageFileLaws → TextLaws → FilesAreImages → NetsAreComplete → AnswersAreComplete
complete each sources end least none one files texts same nets = record {
  each = judged each sources end least none;
  run = run_complete one;
  certify = certify_complete one;
  bound = bound_complete one;
  eval = eval_complete one;
  net = nets;
  build = build_complete one;
  make = make_complete;
  memory_text = memory_complete files;
  trace = trace_complete files;
  kernel_file = kernel_complete;
  forth = session_complete;
  execute = execute_complete files;
  list = list_complete files;
  assemble = assemble_complete texts;
  kernel_runs = kernel_file_runs same;
  built = λ file steps before after status image fits told ran. built_runs file steps before after status image same told ran;
}
