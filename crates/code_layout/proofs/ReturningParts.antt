-- What runs behind GO stand on, of cells, places and returns.
use Rattle.std.proofs.Common.{◌≡◌, ℕ, zero, suc, ◌+◌, ◌-◌, ◌*◌, ◌/◌, ◌<◌, ◌≤◌, ⊎_elim, cond, Bool, true, false, List, [], ◌∷◌, length, slice_index, Option, Some, refl, sym, ap, ◌∙◌, subst, arith}
use Rattle.std.specs.Prelude.{pos, negsuc, ◌+ℤ◌}
use Rattle.std.specs.List.{All}
use Rattle.std.proofs.lemmas.List.Elements.{All-head, All-tail}
use Rattle.std.proofs.lemmas.Bool.Decides.{leb_tells}
use Rattle.j1_simulator.specs.Effect.{following}
use Rattle.j1_simulator.specs.OpenMachine.{rest}
use Rattle.word_table.specs.declared.word.Word.TheVariants.{Go}
use Rattle.forth_program.specs.Tree.{Node, Literal, Plain, Call, Child, Text, If, Until, While, Again, Do, QDo, Case, Leave, Exit}
use Rattle.forth_program.specs.Tail.{ends_body}
use Rattle.forth_program.specs.State.{Entry, Cell, Loop, Work, Frame, World, State, End, Outcome, Goes, Ends}
use Rattle.forth_program.specs.Program.{SourceProgram}
use Rattle.forth_program.specs.Form.{may_be_token}
use Rattle.forth_program.specs.Step.{IsWord, first_in, first_work, step}
use Rattle.forth_program.specs.Run.{steps}
use Rattle.forth_program.specs.Cells.{AreCells, IsWorld}
use Rattle.forth_program.specs.Heights.{StepsFit, peak_of, back_of, execute_back, return_height}
use Rattle.forth_program.specs.Returns.{Return, IsReturn, world_back}
use Rattle.word_laws.specs.Standing.{return_places}
use Rattle.code_layout.specs.Layout.{Routine}
use Rattle.code_layout.proofs.Work.{Called, Frames}
use Rattle.code_layout.proofs.Runs.{steps_on, steps_end, no_steps}
use Rattle.code_layout.proofs.GoStep.{led_places}

-- some stacks are enough for any number of steps
pub some_fit : (p : SourceProgram) (k : ℕ) (s : State) → (high : ℕ) × (return_high : ℕ) × StepsFit p high return_high k s
some_fit p zero s = (0, 0, λ j t lt e. absurd (omega arith))
some_fit p (suc k) s = by (step p s) refl (λ m. some_fit p k m)
  where
    own : (more return_more : ℕ) (t : State) → s ≡ t →
        (length t.cells + peak_of t.callers (first_work t.work) ≤ length s.cells + peak_of s.callers (first_work s.work) + more)
        × (return_height t + back_of (first_work t.work) ≤ return_height s + back_of (first_work s.work) + execute_back p (first_work s.work) s.cells + return_more)
        × (return_height t + execute_back p (first_work t.work) t.cells ≤ return_height s + back_of (first_work s.work) + execute_back p (first_work s.work) s.cells + return_more)
    own more return_more t same =
        subst
        (λ x.
        (length x.cells + peak_of x.callers (first_work x.work) ≤ length s.cells + peak_of s.callers (first_work s.work) + more)
        × (return_height x + back_of (first_work x.work) ≤ return_height s + back_of (first_work s.work) + execute_back p (first_work s.work) s.cells + return_more)
        × (return_height x + execute_back p (first_work x.work) x.cells ≤ return_height s + back_of (first_work s.work) + execute_back p (first_work s.work) s.cells + return_more)) same
        (omega arith, omega arith, omega arith)

    fits : (high return_high : ℕ) (m : State) → step p s ≡ Goes m → StepsFit p high return_high k m →
        StepsFit p (length s.cells + peak_of s.callers (first_work s.work) + high) (return_height s + back_of (first_work s.work) + execute_back p (first_work s.work) s.cells + return_high) (suc k) s
    fits high return_high m q fit zero t lt e = own high return_high t (let f : Goes s ≡ Goes t = sym (no_steps p s) ∙ e in cc)
    fits high return_high m q fit (suc j) t lt e = let f = fit j t (omega arith) (sym (steps_on p s j 0 m q) ∙ e) in (omega (arith, f.0), omega (arith, f.1), omega (arith, f.2))

    ends : (end : End) (world : World) → step p s ≡ Ends end world →
        StepsFit p (length s.cells + peak_of s.callers (first_work s.work) + 0) (return_height s + back_of (first_work s.work) + execute_back p (first_work s.work) s.cells + 0) (suc k) s
    ends end world q zero t lt e = own 0 0 t (let f : Goes s ≡ Goes t = sym (no_steps p s) ∙ e in cc)
    ends end world q (suc j) t lt e = absurd (let f : Ends end world ≡ Goes t = sym (steps_end p s j 0 end world q) ∙ e in cc)

    by : (o : Outcome) → step p s ≡ o → ((m : State) → (high : ℕ) × (return_high : ℕ) × StepsFit p high return_high k m) → (high : ℕ) × (return_high : ℕ) × StepsFit p high return_high (suc k) s
    by (Goes m) q later =
        let l = later m in (
          length s.cells + peak_of s.callers (first_work s.work) + l.0,
          return_height s + back_of (first_work s.work) + execute_back p (first_work s.work) s.cells + l.1,
          fits l.0 l.1 m q l.2,
        )
    by (Ends end world) q later = (
      length s.cells + peak_of s.callers (first_work s.work) + 0,
      return_height s + back_of (first_work s.work) + execute_back p (first_work s.work) s.cells + 0,
      ends end world q,
    )

-- no token is GO
pub token_no_go : (node : Node) (w after : List Work) → may_be_token node ≡ true → first_in node w ≡ IsWord Go after → ⊥
token_no_go (Literal value) w after may e = cc
token_no_go (Plain word) w after may e = let same : word ≡ Go = cc in let f : false ≡ true = subst (λ x. may_be_token (Plain x) ≡ true) same may in cc
token_no_go (Call d) w after may e = cc
token_no_go (Child d address) w after may e = cc
token_no_go (Text kind address size) w after may e = cc
token_no_go (If first second) w after may e = let f : false ≡ true = may in cc
token_no_go (Until body) w after may e = let f : false ≡ true = may in cc
token_no_go (While test body) w after may e = let f : false ≡ true = may in cc
token_no_go (Again body) w after may e = let f : false ≡ true = may in cc
token_no_go (Do body plus) w after may e = let f : false ≡ true = may in cc
token_no_go (QDo body plus) w after may e = let f : false ≡ true = may in cc
token_no_go (Case arms rest) w after may e = let f : false ≡ true = may in cc
token_no_go Leave w after may e = cc
token_no_go Exit w after may e = cc

-- the top of the return places is known
pub known_top : (es : List Entry) (base : List (Option ℕ)) → ((x : ℕ) × (below : List (Option ℕ)) × (base ≡ Some x ∷ below)) → (x : ℕ) × (below : List (Option ℕ)) × (return_places es base ≡ Some x ∷ below)
known_top [] base h = h
known_top (Cell value ∷ es) base h = (value, return_places es base, refl)
known_top (Loop limit index ∷ es) base h = (_, _, refl)

pub known_base : (code : List ℕ) (place : Routine → ℕ) (p : SourceProgram) (fs : List Frame) (base : List (Option ℕ)) → Frames code place p fs base → (x : ℕ) × (below : List (Option ℕ)) × (base ≡ Some x ∷ below)
known_base code place p [] base h = (2, [], h)
known_base code place p (f ∷ fs) base h = by (ends_body f.work) h.1 (known_base code place p fs h.0 h.2)
  where
    by : (tail : Bool) → Called code place p tail f base h.0 → ((x : ℕ) × (below : List (Option ℕ)) × (h.0 ≡ Some x ∷ below)) → (x : ℕ) × (below : List (Option ℕ)) × (base ≡ Some x ∷ below)
    by true c later = let k = known_top f.entries h.0 later in (k.0, k.1, c.returns ∙ k.2)
    by false c later = (_, _, c.returns)

pub led_length : (tail : Bool) (pc : ℕ) (places : List (Option ℕ)) → length (led_places tail pc places) ≤ length places + 1
led_length true pc places = omega arith
led_length false pc places = omega arith

pub led_known : (tail : Bool) (pc : ℕ) (places : List (Option ℕ)) → ((x : ℕ) × (below : List (Option ℕ)) × (places ≡ Some x ∷ below)) → (x : ℕ) × (below : List (Option ℕ)) × (led_places tail pc places ≡ Some x ∷ below)
led_known true pc places h = h
led_known false pc places h = (2 * following pc, places, refl)

pub down_one : (n : ℕ) → pos (suc n) +ℤ negsuc 0 ≡ pos n
down_one n =
    ⊎_elim (λ t. absurd (omega (arith, t.1))) (λ t. ap (λ x. cond x (negsuc (1 - suc (suc n))) (pos (suc n - 1))) t.0 ∙ ap pos (omega arith)) (leb_tells (suc (suc n)) 1)

cells_small : (cells : List ℕ) → AreCells cells → (i : ℕ) → slice_index cells i < 65536
cells_small [] small zero = omega arith
cells_small [] small (suc i) = omega arith
cells_small (x ∷ cells) small zero = small.0
cells_small (x ∷ cells) small (suc i) = cells_small cells small.1 i

bytes_small : (input : List ℕ) → All (λ byte. byte < 256) input → (i : ℕ) → slice_index input i < 256
bytes_small [] bytes zero = omega arith
bytes_small [] bytes (suc i) = omega arith
bytes_small (byte ∷ input) bytes zero = All-head (λ byte. byte < 256) byte input bytes
bytes_small (byte ∷ input) bytes (suc i) = bytes_small input (All-tail (λ byte. byte < 256) byte input bytes) i

module _ (p : SourceProgram) where
  pub world_fits : (b : Return) (world : World) → IsReturn p b → IsWorld world → world.data_start ≡ p.data_start → IsWorld (world_back b world)
  world_fits b world is fits starts = record {
    data_start = fits.data_start;
    aligned = fits.aligned;
    room = omega (arith, is.size, ap (λ d. (0x4000 - d) / 2) starts);
    space = cells_small b.space is.cells;
    input = bytes_small b.input is.bytes;
  }
