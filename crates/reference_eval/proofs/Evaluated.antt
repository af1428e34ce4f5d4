-- From the steps of a machine to the run of its program.
use Rattle.std.proofs.Common.{◌≡◌, ◌+◌, ◌≤◌, ℕ, ◌-◌, ◌/◌, List, [], ◌∷◌, ◌++◌, length, map, Option, None, Some, Bool, true, false, refl, sym, ap, subst, ◌∙◌, arith}
use Rattle.std.specs.Prelude.{Result, Ok, Err, IfSome}
use Rattle.std.specs.List.{list_all}
use Rattle.std.proofs.lemmas.List.{append-nil}
use Rattle.std.specs.Io.KnownBytes.{Appends, Consumes}
use Rattle.outside_io.specs.Causes.{Rose}
use Rattle.cell_math.specs.Bytes.{cells_of_bytes, filled}
use Rattle.forth_program.specs.State.{World, State, End, Outcome, Goes, Ends}
use Rattle.forth_program.specs.State as run
use Rattle.forth_program.specs.Program.{SourceProgram, body_of}
use Rattle.forth_program.specs.Step.{before}
use Rattle.forth_program.specs.Run.{steps, source_run, first_world, first_state, world_of, leaves, end_of as end_of_run}
use Rattle.forth_program.specs.Form.{has_no_go, may_be_token}
use Rattle.forth_program.specs.RunLaws.{ProgramsStay}
use Rattle.reference_eval.specs.declared.machine.Machine.{Machine}
use Rattle.reference_eval.specs.declared.ends.End.TheVariants as end
use Rattle.reference_eval.specs.declared.ends.EvalFinish.{EvalFinish}
use Rattle.reference_eval.specs.declared.ends.EvalError.{EvalError}
use Rattle.reference_eval.specs.declared.ends.EvalFinish.TheVariants as finish
use Rattle.reference_eval.specs.declared.ends.EvalError.TheVariants as error
use Rattle.reference_eval.specs.declared.ends.Stop.{Stop}
use Rattle.reference_eval.specs.declared.ends.Stop.TheVariants as stop
use Rattle.reference_eval.specs.declared.ends.Halt.TheVariants as halt
use Rattle.reference_eval.specs.Work.{works}
use Rattle.reference_eval.specs.Outside.{MemoryState, Input, input_of, Scene, scene, Shows, Holds, HoldsFront, Written, Reach, Whole, Dry, NotRead, NotWritten, MayBeLeft, LosesBytes, Loses, asked_in_vain, IsWrittenOut, Caused, Leads, Later}
use Rattle.reference_eval.specs.Steps.{IsSame}
use Rattle.reference_eval.specs.Answers.{Answer, Gave, Ended, ReadFailed, WriteFailed, LacksMemory, reach_of}
use Rattle.reference_eval.specs.Machine.{state_of, RunsTo, Runs, answer_of_step, entry_of, frame_of}
use Rattle.reference_eval.specs.Evaluation.{RanAs, RanPart, Evaluates, AnswersRun, MayBeLeftBy, in_vain, HasStayed, finish_of}
use Rattle.reference_eval.proofs.SceneSteps.{failed_both}

-- ---- the start

pub record Begins (p : SourceProgram) (memory : MemoryState) (m : Machine) : Type 0 where
  pub memory_is : memory ≡ record { data_start = p.data_start; space = filled ((0x4000 - p.data_start) / 2) (cells_of_bytes p.first_space); waiting = []; failed = false }
  pub work : works m.tasks ≡ before (body_of p p.main_body) []
  pub empty : (m.entries ≡ []) × (m.callers ≡ []) × (m.cells ≡ [])

begins_at : (p : SourceProgram) (memory : MemoryState) (m : Machine) (input : List ℕ) → Begins p memory m → state_of m (first_world p input) ≡ first_state p input
begins_at p memory m input b =
    let at : State = state_of m (first_world p input) in
    ap (λ x. let s : State = record at { work = x } in s) b.work
    ∙ ap (λ x. let s : State = record at { work = before (body_of p p.main_body) []; entries = map entry_of x } in s) b.empty.0
    ∙ ap (λ x. let s : State = record at { work = before (body_of p p.main_body) []; entries = []; callers = map frame_of x } in s) b.empty.1
    ∙ ap (λ x. let s : State = record at { work = before (body_of p p.main_body) []; entries = []; callers = []; cells = x } in s) b.empty.2

holds_nothing : (held : Option (List ℕ)) → Holds held held [] []
holds_nothing None = tt
holds_nothing (Some old) = ([], sym (append-nil old), refl)

begins_shown : (p : SourceProgram) (memory : MemoryState) (m : Machine) (input : List ℕ) (left : Input) (reads : ℕ) (held : Option (List ℕ)) (writes : ℕ) → Begins p memory m → Shows held
    (scene memory left reads held writes) (first_world p input)
begins_shown p memory m input left reads held writes b =
    subst (λ x. Shows held (scene x left reads held writes) (first_world p input)) (sym b.memory_is) (record { start = refl; space = refl; written = holds_nothing held })

-- ---- what was written at last

front_of : (before now : Option (List ℕ)) (waiting printed : List ℕ) → Holds before now waiting printed → HoldsFront before now printed
front_of None now waiting printed h = tt
front_of (Some old) None waiting printed h = h
front_of (Some old) (Some new) waiting printed h = (h.0, h.1, waiting, h.2)

in_front : (failed : Bool) (before now : Option (List ℕ)) (waiting printed : List ℕ) → Written failed before now waiting printed → HoldsFront before now printed
in_front true before now waiting printed h = h
in_front false before now waiting printed h = front_of before now waiting printed h

appended : (before now : Option (List ℕ)) (printed : List ℕ) → Holds before now [] printed → Appends before now printed
appended None now printed h = tt
appended (Some old) None printed h = h
appended (Some old) (Some new) printed h = h.1 ∙ ap (λ x. old ++ x) (sym (append-nil h.0) ∙ h.2)

all_written : (failed : Bool) (before now : Option (List ℕ)) (waiting printed : List ℕ) → failed ≡ false → waiting ≡ [] → Written failed before now waiting printed → Appends before now printed
all_written true before now waiting printed e f h = absurd cc
all_written false before now waiting printed e f h = appended before now printed (subst (λ x. Holds before now x printed) f h)

abbrev no_input : Input
no_input = input_of (Some []) 0

nothing_taken : (took : List ℕ) → LosesBytes Whole took (Some []) (Some []) → took ≡ []
nothing_taken [] h = refl
nothing_taken (x ∷ took) h = absurd cc

-- flushing keeps the world
pub record Flushes (m n : MemoryState) (held held' : Option (List ℕ)) (writes writes' : ℕ) : Type 0 where
  pub shows : (before : Option (List ℕ)) (w : World) (left left' : Input) (reads reads' : ℕ) → Shows before (scene m left reads held writes) w → Shows before (scene n left' reads' held' writes') w
  pub faults : writes ≤ writes'
  pub failed : n.failed ≡ true → m.failed ≡ false → Rose writes writes'
  pub well : m.waiting ≡ [] → m.failed ≡ false → n.failed ≡ false

pub flushes : (m n : MemoryState) (held held' : Option (List ℕ)) (writes writes' : ℕ) → Leads IsSame Whole (scene m no_input 0 held writes) (scene n no_input 0 held' writes') → (m.waiting ≡ [] → m.failed ≡ false → n.failed ≡ false) →
    Flushes m n held held' writes writes'
flushes m n held held' writes writes' l well = record {
  shows = λ before w left left' reads reads' h.
      let x = l.meant before w w.input (ap (λ t. t ++ w.input) (sym (nothing_taken l.took l.loses.bytes))) tt (record { start = h.start; space = h.space; written = h.written }) in
      let s : Shows before (scene n no_input 0 held' writes') w = subst (λ v. Shows before (scene n no_input 0 held' writes') v) x.is_reached x.shows in
      record { start = s.start; space = s.space; written = s.written };
  faults = l.faults.writes;
  failed = l.faults.failed;
  well = well;
}

-- ---- what was taken

consumed : (reach : Reach) (took : List ℕ) (left left' : Option (List ℕ)) → LosesBytes reach took left left' → Consumes left left' took
consumed reach took None left' h = tt
consumed reach took (Some old) None h = h
consumed Whole took (Some old) (Some new) h = h
consumed Dry took (Some old) (Some new) h = h.0
consumed NotRead took (Some old) (Some new) h = h
consumed NotWritten took (Some old) (Some new) h = h

dried : (took : List ℕ) (left left' : Option (List ℕ)) → LosesBytes Dry took left left' → IfSome left (λ bytes. left' ≡ Some [])
dried took None left' h = tt
dried took (Some old) None h = absurd h
dried took (Some old) (Some new) h = ap (λ x. Some x) h.1

-- ---- the run

ran_from : (p : SourceProgram) (memory : MemoryState) (m : Machine) (input : List ℕ) (k : ℕ) → Begins p memory m → source_run p input k ≡ steps p k (state_of m (first_world p input))
unfolding source_run
ran_from p memory m input k b = ap (λ s. steps p k s) (sym (begins_at p memory m input b))

ran_as : (p : SourceProgram) (k : ℕ) (input rest : List ℕ) (o : Outcome) (end : Option End) (held now : Option (List ℕ)) → source_run p input k ≡ o → end_of_run o ≡ end → (world_of o).input ≡ rest →
    Appends held now (world_of o).printed → RanAs p k input rest end held now
ran_as p k input rest o end held now e f l a = record {
  end_is = ap end_of_run e ∙ f;
  left_is = ap (λ o. (world_of o).input) e ∙ l;
  printed = subst (λ o. Appends held now (world_of o).printed) (sym e) a;
}

-- after some of the steps
part_of : {A : Type 0} (a : Answer A) (p : SourceProgram) (k : ℕ) (s t : State) (later : World) → later ≡ t.world → RunsTo a p k s t later → (made : ℕ) × (made ≤ k) × (world_of (steps p made s) ≡ later)
part_of (Gave x) p k s t later e h = (k, omega arith, ap world_of h ∙ sym e)
part_of (Ended end) p k s t later e h = (k, omega arith, ap world_of h)
part_of ReadFailed p k s t later e h = (k, omega arith, ap world_of h)
part_of WriteFailed p k s t later e h = h
part_of LacksMemory p k s t later e h = h

ran_part : (p : SourceProgram) (memory : MemoryState) (m : Machine) (k : ℕ) (input rest : List ℕ) (later : World) (held now : Option (List ℕ)) → Begins p memory m → (made : ℕ) → made ≤ k → world_of
    (steps p made (state_of m (first_world p input))) ≡ later → later.input ≡ rest → HoldsFront held now later.printed → RanPart p k input rest held now
ran_part p memory m k input rest later held now b made h e l f =
    let w : world_of (source_run p input made) ≡ later = ap world_of (ran_from p memory m input made b) ∙ e in
    record { made = made; within = h; left_is = ap (λ w. w.input) w ∙ l; front = subst (λ w. HoldsFront held now w.printed) (sym w) f }

may_be_none : (reach : Reach) → MayBeLeft reach []
may_be_none Whole = tt
may_be_none Dry = refl
may_be_none NotRead = refl
may_be_none NotWritten = refl

-- ---- the whole

-- a later world, of a whole run
exact : (p : SourceProgram) (k : ℕ) (m0 : Machine) (memory memory1 memory2 : MemoryState) (left' : Input) (reads' : ℕ) (held held1 held2 : Option (List ℕ)) (writes1 writes2 : ℕ)
    (input rest : List ℕ) (o : World → Outcome) (end : Option End) →
    Begins p memory m0 → Flushes memory1 memory2 held1 held2 writes1 writes2 → memory2.failed ≡ false → memory2.waiting ≡ [] → ((w : World) → end_of_run (o w) ≡ end) → ((w : World) → world_of (o w) ≡ w) →
    Later (λ later. steps p k (state_of m0 (first_world p input)) ≡ o later) held (scene memory1 left' reads' held1 writes1) rest → RanAs p k input rest end held held2
exact p k m0 memory memory1 memory2 left' reads' held held1 held2 writes1 writes2 input rest o end b f e w ends same l =
    ran_as p k input rest (o l.world) end held held2 (ran_from p memory m0 input k b ∙ l.is_reached) (ends l.world) (ap (λ w. w.input) (same l.world) ∙ l.left)
    (subst (λ w. Appends held held2 w.printed) (sym (same l.world)) (all_written memory2.failed held held2 memory2.waiting l.world.printed e w (f.shows held l.world left' left' reads' reads' l.shows).written))

-- and of a part of one
partly : {A : Type 0} (a : Answer A) (p : SourceProgram) (k : ℕ) (m0 n : Machine) (memory memory1 memory2 : MemoryState) (left' : Input) (reads' : ℕ) (held held1 held2 : Option (List ℕ))
    (writes1 writes2 : ℕ) (input rest : List ℕ) →
    Begins p memory m0 → Flushes memory1 memory2 held1 held2 writes1 writes2 →
    Later (λ later. RunsTo a p k (state_of m0 (first_world p input)) (state_of n later) later) held (scene memory1 left' reads' held1 writes1) rest → RanPart p k input rest held held2
partly a p k m0 n memory memory1 memory2 left' reads' held held1 held2 writes1 writes2 input rest b f l =
    let q = part_of a p k (state_of m0 (first_world p input)) (state_of n l.world) l.world refl l.is_reached in
    ran_part p memory m0 k input rest l.world held held2 b q.0 q.1 q.2 l.left (in_front memory2.failed held held2 memory2.waiting l.world.printed (f.shows held l.world left' left' reads' reads' l.shows).written)

-- on the bytes that were taken alone
on_taken : (reached : World → World → Type 0) (reach : Reach) (p : SourceProgram) (m0 : Machine) (memory : MemoryState) (left : Input) (reads : ℕ) (held : Option (List ℕ)) (writes : ℕ)
    (t : Scene) → Begins p memory m0 → (l : Leads reached reach (scene memory left reads held writes) t) → Later (reached (first_world p l.took)) held t []
on_taken reached reach p m0 memory left reads held writes t b l = l.meant held (first_world p l.took) [] (sym (append-nil l.took)) (may_be_none reach) (begins_shown p memory m0 l.took left reads held writes b)

rose_at_last : (memory memory1 memory2 : MemoryState) (writes writes1 writes2 : ℕ) → memory.failed ≡ false → writes ≤ writes1 → writes1 ≤ writes2 → (memory1.failed ≡ true → memory.failed ≡ false →
    Rose writes writes1) → (memory2.failed ≡ true → memory1.failed ≡ false → Rose writes1 writes2) → memory2.failed ≡ true → Rose writes writes2
rose_at_last memory memory1 memory2 writes writes1 writes2 e h i f g t = failed_both memory1.failed writes writes1 writes2 h i (λ x. f x e) (λ x. g t x)

-- where something waits to be written at last, or a write has failed, the last question was answered
unasked : (reach : Reach) (took : List ℕ) (left left' : Input) (s t : Scene) → Loses reach took left left' → Caused reach s t → (IsWrittenOut t.memory → ⊥) → left'.calls ≤ left.calls + length took + 0
unasked Whole took left left' s t l c wanting = l.calls
unasked Dry took left left' s t l c wanting = absurd (wanting c)
unasked NotRead took left left' s t l c wanting = absurd (wanting c.1)
unasked NotWritten took left left' s t l c wanting = l.calls

-- out could not be written
pub not_all_written : (p : SourceProgram) (k : ℕ) (came : Result (Unit {0}) Stop) (m0 n : Machine) (memory memory1 memory2 : MemoryState) (left left' : Input) (reads reads' : ℕ)
    (held held1 held2 : Option (List ℕ)) (writes writes1 writes2 : ℕ) →
    Begins p memory m0 → Runs p k came m0 n (scene memory left reads held writes) (scene memory1 left' reads' held1 writes1) → Flushes memory1 memory2 held1 held2 writes1 writes2 → memory2.failed ≡ true →
    Evaluates p k (Err error.Write) left left' reads reads' held held2 writes writes2
not_all_written p k came m0 n memory memory1 memory2 left left' reads reads' held held1 held2 writes writes1 writes2 b r f t = record {
  took = r.leads.took;
  consumes = consumed (reach_of (answer_of_step came)) r.leads.took left.bytes left'.bytes r.leads.loses.bytes;
  calls = unasked (reach_of (answer_of_step came)) r.leads.took left left' (scene memory left reads held writes) (scene memory1 left' reads' held1 writes1) r.leads.loses r.leads.faults.caused
      (λ out. absurd (let e = f.well out.waiting out.well in cc));
  ended = λ e. absurd cc;
  answers = λ rest h. partly (answer_of_step came) p k m0 n memory memory1 memory2 left' reads' held held1 held2 writes1 writes2 r.leads.took [] b f (on_taken _ _ p m0 memory left reads held writes _ b r.leads);
  read_cause = λ e. absurd cc;
  write_cause = λ e. rose_at_last memory memory1 memory2 writes writes1 writes2 (ap (λ m. m.failed) b.memory_is) r.leads.faults.writes f.faults r.leads.faults.failed f.failed t;
  reads_failed = r.leads.faults.reads;
  writes_failed = omega (arith, r.leads.faults.writes, f.faults);
}

nothing_consumed : (left : Option (List ℕ)) → Consumes left left []
nothing_consumed None = tt
nothing_consumed (Some old) = refl

ends_dry : (came : Result (Unit {0}) Stop) (took : List ℕ) (left left' : Option (List ℕ)) → LosesBytes (reach_of (answer_of_step came)) took left left' →
    finish_of came ≡ Ok (finish.Ended end.InputEnded) → IfSome left (λ bytes. left' ≡ Some [])
ends_dry (Ok d) took left left' h e = absurd cc
ends_dry (Err (stop.Halt (halt.Ended (end.Halted n)))) took left left' h e = absurd cc
ends_dry (Err (stop.Halt (halt.Ended end.InputEnded))) took left left' h e = dried took left left' h
ends_dry (Err (stop.Halt (halt.Ended (end.Outside n)))) took left left' h e = absurd cc
ends_dry (Err (stop.Halt halt.Read)) took left left' h e = absurd cc
ends_dry (Err (stop.Halt halt.Write)) took left left' h e = absurd cc
ends_dry (Err stop.Underflow) took left left' h e = absurd cc
ends_dry (Err stop.Unbalanced) took left left' h e = absurd cc
ends_dry (Err (stop.Left address)) took left left' h e = absurd cc
ends_dry (Err stop.OutOfMemory) took left left' h e = absurd cc

vain_as_finished : (came : Result (Unit {0}) Stop) → asked_in_vain (reach_of (answer_of_step came)) ≤ in_vain (finish_of came)
vain_as_finished (Ok d) = omega arith
vain_as_finished (Err (stop.Halt (halt.Ended (end.Halted n)))) = omega arith
vain_as_finished (Err (stop.Halt (halt.Ended end.InputEnded))) = omega arith
vain_as_finished (Err (stop.Halt (halt.Ended (end.Outside n)))) = omega arith
vain_as_finished (Err (stop.Halt halt.Read)) = omega arith
vain_as_finished (Err (stop.Halt halt.Write)) = omega arith
vain_as_finished (Err stop.Underflow) = omega arith
vain_as_finished (Err stop.Unbalanced) = omega arith
vain_as_finished (Err (stop.Left address)) = omega arith
vain_as_finished (Err stop.OutOfMemory) = omega arith

read_rose : (came : Result (Unit {0}) Stop) (s t : Scene) → Caused (reach_of (answer_of_step came)) s t → finish_of came ≡ Err error.Read → Rose s.read_faults t.read_faults
read_rose (Ok d) s t h e = absurd cc
read_rose (Err (stop.Halt (halt.Ended x))) s t h e = absurd cc
read_rose (Err (stop.Halt halt.Read)) s t h e = h.0
read_rose (Err (stop.Halt halt.Write)) s t h e = absurd cc
read_rose (Err stop.Underflow) s t h e = absurd cc
read_rose (Err stop.Unbalanced) s t h e = absurd cc
read_rose (Err (stop.Left address)) s t h e = absurd cc
read_rose (Err stop.OutOfMemory) s t h e = absurd cc

write_rose : (came : Result (Unit {0}) Stop) (memory : MemoryState) (s t : Scene) → Caused (reach_of (answer_of_step came)) s t → finish_of came ≡ Err error.Write → t.memory.failed ≡ true
write_rose (Ok d) memory s t h e = absurd cc
write_rose (Err (stop.Halt (halt.Ended x))) memory s t h e = absurd cc
write_rose (Err (stop.Halt halt.Read)) memory s t h e = absurd cc
write_rose (Err (stop.Halt halt.Write)) memory s t h e = h
write_rose (Err stop.Underflow) memory s t h e = absurd cc
write_rose (Err stop.Unbalanced) memory s t h e = absurd cc
write_rose (Err (stop.Left address)) memory s t h e = absurd cc
write_rose (Err stop.OutOfMemory) memory s t h e = absurd cc

rose_before_flush : (x y z : ℕ) {b : Bool} → b ≡ true → (b ≡ true → Rose x y) → y ≤ z → Rose x z
rose_before_flush x y z e h k = let r = h e in omega (arith, r)

-- at a later world of an input of which these bytes are left
on_all : (reached : World → World → Type 0) (reach : Reach) (p : SourceProgram) (m0 : Machine) (memory : MemoryState) (left : Input) (reads : ℕ) (held : Option (List ℕ)) (writes : ℕ)
    (t : Scene) (rest : List ℕ) → Begins p memory m0 → (l : Leads reached reach (scene memory left reads held writes) t) → MayBeLeft reach rest → Later (reached (first_world p (l.took ++ rest))) held t rest
on_all reached reach p m0 memory left reads held writes t rest b l h = l.meant held (first_world p (l.took ++ rest)) rest refl h (begins_shown p memory m0 (l.took ++ rest) left reads held writes b)

well_answered : (p : SourceProgram) (k : ℕ) (came : Result (Unit {0}) Stop) (m0 n : Machine) (memory memory1 memory2 : MemoryState) (left left' : Input) (reads reads' : ℕ)
    (held held1 held2 : Option (List ℕ)) (writes writes1 writes2 : ℕ) →
    Begins p memory m0 → (r : Runs p k came m0 n (scene memory left reads held writes) (scene memory1 left' reads' held1 writes1)) → Flushes memory1 memory2 held1 held2 writes1 writes2 → memory2.failed ≡ false → memory2.waiting ≡ [] →
    (rest : List ℕ) → MayBeLeftBy (finish_of came) rest → AnswersRun (finish_of came) p k r.leads.took rest held held2
well_answered p k (Ok d) m0 n memory memory1 memory2 left left' reads reads' held held1 held2 writes writes1 writes2 b r f e w rest h =
    exact p k m0 memory memory1 memory2 left' reads' held held1 held2 writes1 writes2 _ rest (λ later. Goes (state_of n later)) None b f e w (λ x. refl) (λ x. refl) (on_all _ _ p m0 memory left reads held writes _ rest b r.leads tt)
well_answered p k (Err (stop.Halt (halt.Ended (end.Halted x)))) m0 n memory memory1 memory2 left left' reads reads' held held1 held2 writes writes1 writes2 b r f e w rest h =
    exact p k m0 memory memory1 memory2 left' reads' held held1 held2 writes1 writes2 _ rest (λ later. Ends (run.Halted x) later) (Some (run.Halted x)) b f e w (λ x. refl) (λ x. refl)
    (on_all _ _ p m0 memory left reads held writes _ rest b r.leads tt)
well_answered p k (Err (stop.Halt (halt.Ended end.InputEnded))) m0 n memory memory1 memory2 left left' reads reads' held held1 held2 writes writes1 writes2 b r f e w rest h =
    exact p k m0 memory memory1 memory2 left' reads' held held1 held2 writes1 writes2 _ rest (λ later. Ends (run.InputEnded) later) (Some (run.InputEnded)) b f e w (λ x. refl) (λ x. refl)
    (on_all _ _ p m0 memory left reads held writes _ rest b r.leads h)
well_answered p k (Err (stop.Halt (halt.Ended (end.Outside x)))) m0 n memory memory1 memory2 left left' reads reads' held held1 held2 writes writes1 writes2 b r f e w rest h =
    exact p k m0 memory memory1 memory2 left' reads' held held1 held2 writes1 writes2 _ rest (λ later. Ends (run.Outside x) later) (Some (run.Outside x)) b f e w (λ x. refl) (λ x. refl)
    (on_all _ _ p m0 memory left reads held writes _ rest b r.leads tt)
well_answered p k (Err stop.Underflow) m0 n memory memory1 memory2 left left' reads reads' held held1 held2 writes writes1 writes2 b r f e w rest h =
    exact p k m0 memory memory1 memory2 left' reads' held held1 held2 writes1 writes2 _ rest (λ later. Ends (run.Underflow) later) (Some (run.Underflow)) b f e w (λ x. refl) (λ x. refl)
    (on_all _ _ p m0 memory left reads held writes _ rest b r.leads tt)
well_answered p k (Err stop.Unbalanced) m0 n memory memory1 memory2 left left' reads reads' held held1 held2 writes writes1 writes2 b r f e w rest h =
    exact p k m0 memory memory1 memory2 left' reads' held held1 held2 writes1 writes2 _ rest (λ later. Ends (run.Unbalanced) later) (Some (run.Unbalanced)) b f e w (λ x. refl) (λ x. refl)
    (on_all _ _ p m0 memory left reads held writes _ rest b r.leads tt)
well_answered p k (Err (stop.Halt halt.Read)) m0 n memory memory1 memory2 left left' reads reads' held held1 held2 writes writes1 writes2 b r f e w rest h =
    exact p k m0 memory memory1 memory2 left' reads' held held1 held2 writes1 writes2 _ [] (λ later. Ends run.InputEnded later) (Some run.InputEnded) b f e w (λ x. refl) (λ x. refl)
    (on_taken _ _ p m0 memory left reads held writes _ b r.leads)
well_answered p k (Err (stop.Halt halt.Write)) m0 n memory memory1 memory2 left left' reads reads' held held1 held2 writes writes1 writes2 b r f e w rest h =
    partly {A = Unit {0}} WriteFailed p k m0 n memory memory1 memory2 left' reads' held held1 held2 writes1 writes2 _ [] b f (on_taken _ _ p m0 memory left reads held writes _ b r.leads)
well_answered p k (Err stop.OutOfMemory) m0 n memory memory1 memory2 left left' reads reads' held held1 held2 writes writes1 writes2 b r f e w rest h =
    partly {A = Unit {0}} LacksMemory p k m0 n memory memory1 memory2 left' reads' held held1 held2 writes1 writes2 _ rest b f (on_all _ _ p m0 memory left reads held writes _ rest b r.leads tt)
well_answered p k (Err (stop.Left address)) m0 n memory memory1 memory2 left left' reads reads' held held1 held2 writes writes1 writes2 b r f e w rest h =
    partly {A = Unit {0}} (Ended (run.Left address)) p k m0 n memory memory1 memory2 left' reads' held held1 held2 writes1 writes2 _ rest b f (on_all _ _ p m0 memory left reads held writes _ rest b r.leads tt)

-- where no body has GO, it has not led the run out
pub has_stayed : ProgramsStay → (p : SourceProgram) (k : ℕ) (came : Result (Unit {0}) Stop) (m0 n : Machine) (memory memory1 : MemoryState) (left left' : Input) (reads reads' : ℕ)
    (held held1 : Option (List ℕ)) (writes writes1 : ℕ) → has_no_go p ≡ true → list_all may_be_token p.tokens ≡ true →
    Begins p memory m0 → Runs p k came m0 n (scene memory left reads held writes) (scene memory1 left' reads' held1 writes1) → HasStayed came
has_stayed stay p k (Err (stop.Left address)) m0 n memory memory1 left left' reads reads' held held1 writes writes1 no_go tokens b r =
    let l = on_taken _ _ p m0 memory left reads held writes (scene memory1 left' reads' held1 writes1) b r.leads in
    let led : leaves (source_run p r.leads.took k) ≡ true = ap leaves (ran_from p memory m0 r.leads.took k b ∙ l.is_reached) in
    let none : leaves (source_run p r.leads.took k) ≡ false = stay p r.leads.took k no_go tokens in
    cc
has_stayed stay p k came m0 n memory memory1 left left' reads reads' held held1 writes writes1 no_go tokens b r = tt

-- memory was wanting before the first step
pub no_start : (p : SourceProgram) (k : ℕ) (left : Input) (reads : ℕ) (held : Option (List ℕ)) (writes : ℕ) → Evaluates p k (Err error.OutOfMemory) left left reads reads held held writes writes
unfolding source_run steps
no_start p k left reads held writes = record {
  took = [];
  consumes = nothing_consumed left.bytes;
  calls = omega arith;
  ended = λ e. absurd cc;
  answers = λ rest h. record { made = 0; within = omega arith; left_is = refl; front = front_of held held [] [] (holds_nothing held) };
  read_cause = λ e. absurd cc;
  write_cause = λ e. absurd cc;
  reads_failed = omega arith;
  writes_failed = omega arith;
}

-- all that was printed was written
pub all_well : (p : SourceProgram) (k : ℕ) (came : Result (Unit {0}) Stop) (m0 n : Machine) (memory memory1 memory2 : MemoryState) (left left' : Input) (reads reads' : ℕ)
    (held held1 held2 : Option (List ℕ)) (writes writes1 writes2 : ℕ) →
    Begins p memory m0 → Runs p k came m0 n (scene memory left reads held writes) (scene memory1 left' reads' held1 writes1) → Flushes memory1 memory2 held1 held2 writes1 writes2 →
    memory2.failed ≡ false → (memory2.failed ≡ false → memory2.waiting ≡ []) →
    Evaluates p k (finish_of came) left left' reads reads' held held2 writes writes2
all_well p k came m0 n memory memory1 memory2 left left' reads reads' held held1 held2 writes writes1 writes2 b r f e w = record {
  took = r.leads.took;
  consumes = consumed (reach_of (answer_of_step came)) r.leads.took left.bytes left'.bytes r.leads.loses.bytes;
  calls = let most = vain_as_finished came in omega (arith, r.leads.loses.calls, most);
  ended = ends_dry came r.leads.took left.bytes left'.bytes r.leads.loses.bytes;
  answers = well_answered p k came m0 n memory memory1 memory2 left left' reads reads' held held1 held2 writes writes1 writes2 b r f e (w e);
  read_cause = read_rose came (scene memory left reads held writes) (scene memory1 left' reads' held1 writes1) r.leads.faults.caused;
  write_cause = λ x. rose_before_flush writes writes1 writes2 {b = memory1.failed} (write_rose came memory1 (scene memory left reads held writes)
      (scene memory1 left' reads' held1 writes1) r.leads.faults.caused x) (λ t. r.leads.faults.failed t (ap (λ m. m.failed) b.memory_is)) f.faults;
  reads_failed = r.leads.faults.reads;
  writes_failed = omega (arith, r.leads.faults.writes, f.faults);
}

pub all_well_as : (p : SourceProgram) (k : ℕ) (result : Result EvalFinish EvalError) (came : Result (Unit {0}) Stop) (m0 n : Machine) (memory memory1 memory2 : MemoryState)
    (left left' : Input) (reads reads' : ℕ) (held held1 held2 : Option (List ℕ)) (writes writes1 writes2 : ℕ) →
    result ≡ finish_of came → Begins p memory m0 → Runs p k came m0 n (scene memory left reads held writes) (scene memory1 left' reads' held1 writes1) →
    Flushes memory1 memory2 held1 held2 writes1 writes2 → memory2.failed ≡ false → (memory2.failed ≡ false → memory2.waiting ≡ []) →
    Evaluates p k result left left' reads reads' held held2 writes writes2
all_well_as p k result came m0 n memory memory1 memory2 left left' reads reads' held held1 held2 writes writes1 writes2 e b r f x w =
    subst (λ r. Evaluates p k r left left' reads reads' held held2 writes writes2) (sym e) (all_well p k came m0 n memory memory1 memory2 left left' reads reads' held held1 held2 writes writes1 writes2 b r f x w)
