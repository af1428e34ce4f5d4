-- What accesses lead to.
use Rattle.std.proofs.Common.{◌≡◌, ◌+◌, ◌≤◌, ℕ, ◌-◌, ◌*◌, ◌%◌, ◌/◌, List, [], ◌∷◌, ◌++◌, Option, Some, None, Bool, true, false, refl, sym, ap, subst, ◌∙◌, arith, slice_get, drop, slice_index, slice_set}
use Rattle.std.specs.Prelude.{IfSome, Result, Ok, Err}
use Rattle.reference_eval.specs.declared.ends.Halt.{Halt}
use Rattle.reference_eval.specs.declared.ends.Halt.TheVariants as halt
use Rattle.reference_eval.specs.declared.ends.End.TheVariants as end
use Rattle.std.specs.Io.KnownBytes.{Appends}
use Rattle.outside_io.specs.Bytes.{AppendsFront}
use Rattle.outside_io.specs.Causes.{Rose, risen}
use Rattle.console_ports.specs.Ports.{access_at}
use Rattle.console_ports.specs.declared.ports.Access.{Access as Met}
use Rattle.console_ports.specs.declared.ports.Access.TheVariants as met
use Rattle.forth_program.specs.State.{World, Reply, Gives, Stops, InputEnded, Stored, Took}
use Rattle.forth_program.specs.State as run
use Rattle.forth_program.specs.Access.{fetch, fetch_by, store, store_by, taken, take_key}
use Rattle.reference_eval.specs.Outside.{MemoryState, Scene, Input, scene, Shows, Holds, HoldsFront, Written, Whole, Dry, NotRead, NotWritten, LosesBytes, Loses, IsWrittenOut, Leads}
use Rattle.reference_eval.specs.Steps.{IsSame, Prints}
use Rattle.reference_eval.specs.Answers.{Answer, Gave, Ended, ReadFailed, WriteFailed, Does, Reaches, reach_of, answer_of}
use Rattle.reference_eval.proofs.OutputContents.{holds_more, holds_flushed, holds_front, front_more}
use Rattle.reference_eval.proofs.SceneSteps.{stays, leads_as, leads_then, loses_nothing}

written_to : (failed : Bool) (before now after : Option (List ℕ)) (waiting printed : List ℕ) → failed ≡ false → Appends now after waiting → Written failed before now waiting printed → Written failed before after [] printed
written_to true before now after waiting printed e a h = absurd cc
written_to false before now after waiting printed e a h = holds_flushed before now after waiting printed h a

front_to : (failed : Bool) (before now after : Option (List ℕ)) (waiting printed : List ℕ) → failed ≡ false → AppendsFront now after waiting → Written failed before now waiting printed → HoldsFront before after printed
front_to true before now after waiting printed e a h = absurd cc
front_to false before now after waiting printed e a h = holds_front before now after waiting printed h a

-- what waits was written
pub flushed : (m n : MemoryState) (left : Input) (reads : ℕ) (held held' : Option (List ℕ)) (writes writes' : ℕ) → m.failed ≡ false → n ≡ record m { waiting = [] } → Appends held held' m.waiting → writes ≤ writes' →
    Leads IsSame Whole (scene m left reads held writes) (scene n left reads held' writes')
flushed m n left reads held held' writes writes' f e a h = subst (λ n. Leads IsSame Whole (scene m left reads held writes) (scene n left reads held' writes')) (sym e) (record {
  took = [];
  loses = loses_nothing left;
  faults = record { reads = omega arith; writes = h; failed = λ x y. absurd cc; caused = tt };
  meant = λ before w rest i t s. record {
    world = w;
    is_reached = refl;
    shows = record { start = s.start; space = s.space; written = written_to m.failed before held held' m.waiting w.printed f a s.written };
    left = i;
  };
})

-- or it was not
pub not_flushed : (m n : MemoryState) (waiting : List ℕ) (left : Input) (reads : ℕ) (held held' : Option (List ℕ)) (writes writes' : ℕ) → m.failed ≡ false →
    n ≡ record m { waiting = waiting; failed = true } → AppendsFront held held' m.waiting → writes ≤ writes' → Rose writes writes' →
    Leads IsSame Whole (scene m left reads held writes) (scene n left reads held' writes')
not_flushed m n waiting left reads held held' writes writes' f e a h r = subst (λ n. Leads IsSame Whole (scene m left reads held writes) (scene n left reads held' writes')) (sym e) (record {
  took = [];
  loses = loses_nothing left;
  faults = record { reads = omega arith; writes = h; failed = λ x y. r; caused = tt };
  meant = λ before w rest i t s. record {
    world = w;
    is_reached = refl;
    shows = record { start = s.start; space = s.space; written = front_to m.failed before held held' m.waiting w.printed f a s.written };
    left = i;
  };
})

-- a byte waits, or is dropped where a write has failed
written_more : (failed : Bool) (before now : Option (List ℕ)) (waiting waiting' printed bs : List ℕ) → (failed ≡ false → waiting' ≡ waiting ++ bs) → Written failed before now waiting printed →
    Written failed before now waiting' (printed ++ bs)
written_more true before now waiting waiting' printed bs e h = front_more before now printed bs h
written_more false before now waiting waiting' printed bs e h = subst (λ x. Holds before now x (printed ++ bs)) (sym (e refl)) (holds_more before now waiting printed bs h)

pub prints : (x : ℕ) (m n : MemoryState) (left : Input) (reads : ℕ) (held : Option (List ℕ)) (writes : ℕ) → n ≡ record m { waiting = n.waiting } → (m.failed ≡ false → n.waiting ≡ m.waiting ++ x % 256 ∷ []) →
    Leads (Prints x) Whole (scene m left reads held writes) (scene n left reads held writes)
prints x m n left reads held writes e f = record {
  took = [];
  loses = loses_nothing left;
  faults = record { reads = omega arith; writes = omega arith; failed = λ y z. absurd (let u = ap (λ n. n.failed) e in cc); caused = tt };
  meant = λ before w rest i t s. record {
    world = record w { printed = w.printed ++ x % 256 ∷ []; made = Stored 0x4000 x ∷ w.made };
    is_reached = refl;
    shows = subst (λ n. Shows before (scene n left reads held writes) (record w { printed = w.printed ++ x % 256 ∷ []; made = Stored 0x4000 x ∷ w.made })) (sym e)
        (record { start = s.start; space = s.space; written = written_more m.failed before held m.waiting n.waiting w.printed (x % 256 ∷ []) f s.written });
    left = i;
  };
}

-- ---- input bytes

abbrev pub AskedOk : Option ℕ → Option (List ℕ) → Option (List ℕ) → Type 0
AskedOk byte left left' = IfSome left (λ input. (byte ≡ slice_get input 0) × (left' ≡ Some (drop 1 input)))

loses_byte : (byte : ℕ) (left left' : Option (List ℕ)) → AskedOk (Some byte) left left' → LosesBytes Whole (byte ∷ []) left left'
loses_byte byte None left' h = tt
loses_byte byte (Some []) left' h = absurd (let e = h.0 in cc)
loses_byte byte (Some (x ∷ xs)) None h = absurd (let e = h.1 in cc)
loses_byte byte (Some (x ∷ xs)) (Some ys) h = let e = h.0 in let f = h.1 in cc

ends_input : (left left' : Option (List ℕ)) → AskedOk None left left' → LosesBytes Dry [] left left'
ends_input None left' h = tt
ends_input (Some []) None h = absurd (let e = h.1 in cc)
ends_input (Some []) (Some ys) h = (let f = h.1 in cc, let f = h.1 in cc)
ends_input (Some (x ∷ xs)) left' h = absurd (let e = h.0 in cc)

keeps_input : (left left' : Option (List ℕ)) → IfSome left (λ input. left' ≡ Some input) → LosesBytes NotRead [] left left'
keeps_input None left' h = tt
keeps_input (Some x) None h = absurd cc
keeps_input (Some x) (Some y) h = cc

same_input : (left : Option (List ℕ)) → LosesBytes NotWritten [] left left
same_input None = tt
same_input (Some x) = refl

taken_is : (byte : ℕ) (w : World) (rest : List ℕ) → w.input ≡ byte ∷ rest → taken w.input w ≡ Gives byte (record w { input = rest; made = Took byte ∷ w.made })
taken_is byte w rest e = ap (λ i. taken i w) e

none_is : (w : World) → w.input ≡ [] → taken w.input w ≡ Stops InputEnded w
none_is w e = ap (λ i. taken i w) e

pub took_byte : (byte : ℕ) (m : MemoryState) (left left' : Input) (reads reads' : ℕ) (held : Option (List ℕ)) (writes : ℕ) → AskedOk (Some byte) left.bytes left'.bytes → left'.calls ≤ left.calls + 1 → reads ≤ reads' →
    Does take_key (Gave byte) (scene m left reads held writes) (scene m left' reads' held writes)
took_byte byte m left left' reads reads' held writes a once h = record {
  leads = record {
    took = byte ∷ [];
    loses = record { bytes = loses_byte byte left.bytes left'.bytes a; calls = omega (arith, once) };
    faults = record { reads = h; writes = omega arith; failed = λ x y. absurd cc; caused = tt };
    meant = λ before w rest i t s. record {
      world = record w { input = rest; made = Took byte ∷ w.made };
      is_reached = taken_is byte w rest i;
      shows = record { start = s.start; space = s.space; written = s.written };
      left = refl;
    };
  };
}

pub input_ended : (m : MemoryState) (left left' : Input) (reads reads' : ℕ) (held : Option (List ℕ)) (writes : ℕ) → AskedOk None left.bytes left'.bytes → left'.calls ≤ left.calls + 1 → IsWrittenOut m → reads ≤ reads' →
    Does take_key (Ended InputEnded) (scene m left reads held writes) (scene m left' reads' held writes)
input_ended m left left' reads reads' held writes a once out h = record {
  leads = record {
    took = [];
    loses = record { bytes = ends_input left.bytes left'.bytes a; calls = omega (arith, once) };
    faults = record { reads = h; writes = omega arith; failed = λ x y. absurd cc; caused = out };
    meant = λ before w rest i t s. record { world = w; is_reached = none_is w (i ∙ t); shows = record { start = s.start; space = s.space; written = s.written }; left = i };
  };
}

pub not_read : (m : MemoryState) (left left' : Input) (reads reads' : ℕ) (held : Option (List ℕ)) (writes : ℕ) → IfSome left.bytes (λ input. left'.bytes ≡ Some input) →
    left'.calls ≤ left.calls + 1 → IsWrittenOut m → reads ≤ reads' → Rose reads reads' →
    Does take_key ReadFailed (scene m left reads held writes) (scene m left' reads' held writes)
not_read m left left' reads reads' held writes a once out h r = record {
  leads = record {
    took = [];
    loses = record { bytes = keeps_input left.bytes left'.bytes a; calls = omega (arith, once) };
    faults = record { reads = h; writes = omega arith; failed = λ x y. absurd cc; caused = (r, out) };
    meant = λ before w rest i t s. record { world = w; is_reached = none_is w (i ∙ t); shows = record { start = s.start; space = s.space; written = s.written }; left = i };
  };
}

pub not_written : (m : MemoryState) (left : Input) (reads : ℕ) (held : Option (List ℕ)) (writes : ℕ) → m.failed ≡ true →
    Does take_key WriteFailed (scene m left reads held writes) (scene m left reads held writes)
not_written m left reads held writes f = record {
  leads = record {
    took = [];
    loses = record { bytes = same_input left.bytes; calls = omega arith };
    faults = record { reads = omega arith; writes = omega arith; failed = λ x y. absurd cc; caused = f };
    meant = λ before w rest i t s. record { world = w; is_reached = none_is w (i ∙ t); shows = s; left = i };
  };
}

-- after what changes no world
pub after_same : {A : Type 0} (meaning : World → Reply A) (answer : Answer A) (s t u : Scene) → Leads IsSame Whole s t → Does meaning answer t u → Does meaning answer s u
after_same meaning answer s t u l d = record {
  leads = leads_then IsSame _ _ (reach_of answer) s t u (λ w x y e r. subst (λ x. Reaches answer (meaning x) y) e r) l d.leads;
}

-- ---- by what an address reaches

-- where nothing is changed outside
pub answers : {A : Type 0} (meaning : World → Reply A) (answer : Answer A) (s : Scene) → reach_of answer ≡ Whole → ((before : Option (List ℕ)) (w : World) → Shows before s w → Reaches answer (meaning w) w) → Does meaning answer s s
answers meaning answer s e here = record { leads = subst (λ r. Leads (λ w later. Reaches answer (meaning w) later) r s s) (sym e) (stays _ s here) }

pub met_fetch : (address : ℕ) (place : Met) (m : MemoryState) (w : World) → w.data_start ≡ m.data_start → place ≡ access_at m.data_start false address → fetch address w ≡ fetch_by w place
met_fetch address place m w e f = ap (λ d. fetch_by w (access_at d false address)) e ∙ ap (λ p. fetch_by w p) (sym f)

pub met_store : (address x : ℕ) (place : Met) (m : MemoryState) (w : World) → w.data_start ≡ m.data_start → place ≡ access_at m.data_start true address → store address x w ≡ store_by w x place
met_store address x place m w e f = ap (λ d. store_by w x (access_at d true address)) e ∙ ap (λ p. store_by w x p) (sym f)

pub fetched_cell : (address at : ℕ) (m : MemoryState) (left : Input) (reads : ℕ) (held : Option (List ℕ)) (writes : ℕ) → met.Data at ≡ access_at m.data_start false address →
    Does (fetch address) (Gave (slice_index m.space (at - m.data_start / 2))) (scene m left reads held writes) (scene m left reads held writes)
fetched_cell address at m left reads held writes e = answers _ _ _ refl (λ before w s.
    met_fetch address (met.Data at) m w s.start e ∙ ap (λ xs. Gives (slice_index xs (at - w.data_start / 2)) w) s.space ∙ ap (λ d. Gives (slice_index m.space (at - d / 2)) w) s.start)

pub fetched_end : (address : ℕ) (place : Met) (end : run.End) (m : MemoryState) (left : Input) (reads : ℕ) (held : Option (List ℕ)) (writes : ℕ) →
    place ≡ access_at m.data_start false address → reach_of {A = ℕ} (Ended end) ≡ Whole → ((w : World) → fetch_by w place ≡ Stops end w) →
    Does (fetch address) (Ended end) (scene m left reads held writes) (scene m left reads held writes)
fetched_end address place end m left reads held writes e f g = answers _ _ _ f (λ before w s. met_fetch address place m w s.start e ∙ g w)

pub fetched_key : (address : ℕ) (answer : Answer ℕ) (m : MemoryState) (left : Input) (reads : ℕ) (held : Option (List ℕ)) (writes : ℕ) (t : Scene) →
    met.Key ≡ access_at m.data_start false address → Does take_key answer (scene m left reads held writes) t →
    Does (fetch address) answer (scene m left reads held writes) t
fetched_key address answer m left reads held writes t e d = record {
  leads = leads_as _ _ (reach_of answer) _ t (λ before w later s r. subst (λ x. Reaches answer x later) (sym (met_fetch address met.Key m w s.start e)) r) d.leads;
}

pub stored_end : (address x : ℕ) (place : Met) (end : run.End) (m : MemoryState) (left : Input) (reads : ℕ) (held : Option (List ℕ)) (writes : ℕ) →
    place ≡ access_at m.data_start true address → reach_of {A = Unit {0}} (Ended end) ≡ Whole → ((w : World) → store_by w x place ≡ Stops end w) →
    Does (store address x) (Ended end) (scene m left reads held writes) (scene m left reads held writes)
stored_end address x place end m left reads held writes e f g = answers _ _ _ f (λ before w s. met_store address x place m w s.start e ∙ g w)

pub stored_cell : (address x at : ℕ) (m n : MemoryState) (left : Input) (reads : ℕ) (held : Option (List ℕ)) (writes : ℕ) → met.Data at ≡ access_at m.data_start true address →
    n ≡ record m { space = slice_set m.space (at - m.data_start / 2) x } →
    Does (store address x) (Gave tt) (scene m left reads held writes) (scene n left reads held writes)
stored_cell address x at m n left reads held writes e f = subst (λ n. Does (store address x) (Gave tt) (scene m left reads held writes) (scene n left reads held writes)) (sym f) (record {
  leads = record {
    took = [];
    loses = loses_nothing left;
    faults = record { reads = omega arith; writes = omega arith; failed = λ x y. absurd cc; caused = tt };
    meant = λ before w rest i t s. record {
      world = record w { space = slice_set w.space (at - w.data_start / 2) x; made = Stored (2 * at) x ∷ w.made };
      is_reached = met_store address x (met.Data at) m w s.start e;
      shows = record { start = s.start; space = ap (λ xs. slice_set xs (at - w.data_start / 2) x) s.space ∙ ap (λ d. slice_set m.space (at - d / 2) x) s.start; written = s.written };
      left = i;
    };
  };
})

pub stored_print : (address x : ℕ) (m : MemoryState) (left : Input) (reads : ℕ) (held : Option (List ℕ)) (writes : ℕ) (t : Scene) → met.Print ≡ access_at m.data_start true address → Leads
    (Prints x) Whole (scene m left reads held writes) t →
    Does (store address x) (Gave tt) (scene m left reads held writes) t
stored_print address x m left reads held writes t e l = record {
  leads = leads_as _ _ Whole _ t (λ before w later s r. met_store address x met.Print m w s.start e ∙ ap (λ y. Gives tt y) (sym r)) l;
}

-- ---- as the code has them

abbrev same_but : MemoryState → List ℕ → MemoryState
same_but m xs = record m { space = xs }

-- a question raises the count by one at most
asked_once : (calls calls' : ℕ) → calls' ≡ risen calls → calls' ≤ calls + 1
asked_once calls calls' e = subst (λ n. n ≤ calls + 1) (sym e) (omega arith)

pub took_as : (r : Result ℕ Halt) (x : ℕ) (asked : Option ℕ) (byte : ℕ) (m : MemoryState) (left left' : Input) (reads reads' : ℕ) (held : Option (List ℕ)) (writes : ℕ) → r ≡ Ok x →
    x ≡ byte → asked ≡ Some byte → AskedOk asked left.bytes left'.bytes → left'.calls ≡ risen left.calls → reads ≤ reads' →
    Does take_key (answer_of r) (scene m left reads held writes) (scene m left' reads' held writes)
took_as r x asked byte m left left' reads reads' held writes e f g a once h =
    subst (λ r. Does take_key (answer_of r) (scene m left reads held writes) (scene m left' reads' held writes)) (sym (e ∙ ap (λ y. Ok y) f))
    (took_byte byte m left left' reads reads' held writes (subst (λ k. AskedOk k left.bytes left'.bytes) g a) (asked_once left.calls left'.calls once) h)

pub ended_as : (r : Result ℕ Halt) (asked : Option ℕ) (m : MemoryState) (left left' : Input) (reads reads' : ℕ) (held : Option (List ℕ)) (writes : ℕ) → r ≡ Err (halt.Ended end.InputEnded) →
    asked ≡ None → AskedOk asked left.bytes left'.bytes → left'.calls ≡ risen left.calls → IsWrittenOut m → reads ≤ reads' →
    Does take_key (answer_of r) (scene m left reads held writes) (scene m left' reads' held writes)
ended_as r asked m left left' reads reads' held writes e g a once out h =
    subst (λ r. Does take_key (answer_of r) (scene m left reads held writes) (scene m left' reads' held writes)) (sym e)
    (input_ended m left left' reads reads' held writes (subst (λ k. AskedOk k left.bytes left'.bytes) g a) (asked_once left.calls left'.calls once) out h)

pub not_read_as : (r : Result ℕ Halt) (m : MemoryState) (left left' : Input) (reads reads' : ℕ) (held : Option (List ℕ)) (writes : ℕ) → r ≡ Err halt.Read →
    IfSome left.bytes (λ input. left'.bytes ≡ Some input) → left'.calls ≡ risen left.calls → IsWrittenOut m → reads ≤ reads' → Rose reads reads' →
    Does take_key (answer_of r) (scene m left reads held writes) (scene m left' reads' held writes)
not_read_as r m left left' reads reads' held writes e a once out h b =
    subst (λ r. Does take_key (answer_of r) (scene m left reads held writes) (scene m left' reads' held writes)) (sym e)
    (not_read m left left' reads reads' held writes a (asked_once left.calls left'.calls once) out h b)

pub fetched_as : (address at k x : ℕ) (xs : List ℕ) (m : MemoryState) (left : Input) (reads : ℕ) (held : Option (List ℕ)) (writes : ℕ) → met.Data at ≡ access_at m.data_start false address →
    x ≡ slice_index xs (at - k) → xs ≡ m.space → k ≡ m.data_start / 2 →
    Does (fetch address) (Gave x) (scene m left reads held writes) (scene m left reads held writes)
fetched_as address at k x xs m left reads held writes e f g h =
    subst (λ x. Does (fetch address) (Gave x) (scene m left reads held writes) (scene m left reads held writes)) (sym (f ∙ ap (λ xs. slice_index xs (at - k)) g ∙ ap (λ k. slice_index m.space (at - k)) h))
    (fetched_cell address at m left reads held writes e)

pub stored_as : (address x at k : ℕ) (m n : MemoryState) (left : Input) (reads : ℕ) (held : Option (List ℕ)) (writes : ℕ) → met.Data at ≡ access_at m.data_start true address →
    n ≡ record m { space = n.space } → n.space ≡ slice_set m.space (at - k) x → k ≡ m.data_start / 2 →
    Does (store address x) (Gave tt) (scene m left reads held writes) (scene n left reads held writes)
stored_as address x at k m n left reads held writes e f g h =
    stored_cell address x at m n left reads held writes e (f ∙ ap (λ xs. same_but m xs) (g ∙ ap (λ k. slice_set m.space (at - k) x) h))
