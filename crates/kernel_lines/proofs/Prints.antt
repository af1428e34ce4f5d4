-- What is printed: bytes of data space, and a line feed.
use Rattle.std.proofs.Common.{◌≡◌, ℕ, zero, suc, ◌+◌, ◌-◌, ◌/◌, ◌%◌, ◌≤◌, ◌<◌, List, [], ◌∷◌, ◌++◌, length, refl, ap, ap₂, sym, ◌∙◌, subst}
use Rattle.std.proofs.Common.{arith}
use Rattle.std.specs.Prelude.{slice_index}
use Rattle.cell_math.specs.Cell.{sum_of}
use Rattle.forth_program.specs.State.{World, State, Work, Reply, Gives, ◌▸◌, Goes, Stored}
use Rattle.forth_program.specs.Access.{emit, byte_of}
use Rattle.forth_program.specs.ByteWords.{type_out}
use Rattle.forth_program.specs.Program.{SourceProgram}
use Rattle.forth_program.specs.Step.{on_cells, step}
use Rattle.forth_program.specs.Run.{steps, and_then}
use Rattle.forth_program.specs.Price.{spent, step_price}
use Rattle.kernel_words.specs.Memory.{IsDataSpace, data_cell, data_byte, data_bytes}
use Rattle.kernel_words.specs.Running.{Comes}
use Rattle.kernel_words.proofs.Memory.{byte_fetched, byte_fits}
use Rattle.kernel_words.proofs.Runs.{within, followed}
use Rattle.kernel_lines.specs.State.{kernel_state, OnlyChanges}
use Rattle.kernel_lines.proofs.States.{state_outside}
use Rattle.kernel_lines.proofs.Stores.{nothing_more}

-- a world in which more was printed, and nothing else is changed
pub record Prints (text : List ℕ) (w v : World) : Type 0 where
  pub start : v.data_start ≡ w.data_start
  pub cells : v.space ≡ w.space
  pub input : v.input ≡ w.input
  pub printed : v.printed ≡ w.printed ++ text

pub record Printed (text : List ℕ) (w : World) (r : Reply (Unit {0})) : Type 0 where
  pub after : World
  pub prints : r ≡ Gives tt after
  pub is : Prints text w after

pub joins : (a b c : List ℕ) → (a ++ b) ++ c ≡ a ++ (b ++ c)
joins [] b c = refl
joins (x ∷ a) b c = ap (λ t. x ∷ t) (joins a b c)

pub prints_then : (s t : List ℕ) (u v w : World) → Prints s u v → Prints t v w → Prints (s ++ t) u w
prints_then s t u v w f g = record {
  start = g.start ∙ f.start;
  cells = g.cells ∙ f.cells;
  input = g.input ∙ f.input;
  printed = g.printed ∙ ap (λ x. x ++ t) f.printed ∙ joins u.printed s t;
}

pub space_kept : (text : List ℕ) (w v : World) → Prints text w v → IsDataSpace w → IsDataSpace v
space_kept text w v f h = record {
  start = f.start ∙ h.start;
  room = subst (λ s. 4096 ≤ length s) (sym f.cells) h.room;
  cells = subst (λ s. (i : ℕ) → slice_index s i < 65536) (sym f.cells) h.cells;
}

pub cell_same : (text : List ℕ) (w v : World) → Prints text w v → (a : ℕ) → data_cell v a ≡ data_cell w a
unfolding data_cell
cell_same text w v f a = ap (λ s. slice_index s (a / 2 - 4096)) f.cells

pub byte_same : (text : List ℕ) (w v : World) → Prints text w v → (a : ℕ) → data_byte v a ≡ data_byte w a
unfolding data_byte
byte_same text w v f a = ap (byte_of a) (cell_same text w v f a)

pub bytes_same : (text : List ℕ) (w v : World) → Prints text w v → (n a : ℕ) → data_bytes v n a ≡ data_bytes w n a
bytes_same text w v f zero a = refl
bytes_same text w v f (suc n) a = ap₂ (λ b bs. b ∷ bs) (byte_same text w v f a) (bytes_same text w v f n (suc a))

pub nothing_changes : (text : List ℕ) (w v : World) → Prints text w v → IsDataSpace w → OnlyChanges [] w v
nothing_changes text w v f h = record { space = space_kept text w v f h; kept = λ a low out. byte_same text w v f a }

pub state_same : (text : List ℕ) (w v : World) → Prints text w v → IsDataSpace w → kernel_state v ≡ kernel_state w
state_same text w v f h = state_outside [] w v (nothing_changes text w v f h) refl

-- ---- a byte, and a text

printed_byte : ℕ → World → World
printed_byte x w = record w { printed = w.printed ++ x % 256 ∷ []; made = Stored 0x4000 x ∷ w.made }

byte_prints : (x : ℕ) (w : World) → x < 256 → Prints (x ∷ []) w (printed_byte x w)
unfolding printed_byte
byte_prints x w h = record { start = refl; cells = refl; input = refl; printed = ap (λ y. w.printed ++ y ∷ []) (small x h) }
  where
    small : (x : ℕ) → x < 256 → x % 256 ≡ x
    small x h = omega (arith, h)

emitted : (x : ℕ) (w : World) → emit x w ≡ Gives tt (printed_byte x w)
unfolding printed_byte
emitted x w = refl

pub line_feed : (w : World) → Printed (10 ∷ []) w (emit 10 w)
line_feed w = record { after = printed_byte 10 w; prints = emitted 10 w; is = byte_prints 10 w (omega arith) }

pub text_printed : (n a : ℕ) (w : World) → IsDataSpace w → 8192 ≤ a → a + n ≤ 16384 → Printed (data_bytes w n a) w (type_out n a w)
text_printed zero a w h low high = record {
  after = w;
  prints = refl;
  is = record { start = refl; cells = refl; input = refl; printed = nothing_more w.printed };
}
text_printed (suc n) a w h low high =
    let b = byte_prints (data_byte w a) w (byte_fits w a h) in
    let v = printed_byte (data_byte w a) w in
    let t = text_printed n (suc a) v (space_kept (data_byte w a ∷ []) w v b h) (omega (arith, low)) (omega (arith, high)) in
    record {
      after = t.after;
      prints = ap (λ r. r ▸ λ c w. emit c w ▸ λ _. type_out n (sum_of a 1)) (byte_fetched w a h low (omega (arith, high)))
          ∙ ap (λ r. r ▸ λ _. type_out n (sum_of a 1)) (emitted (data_byte w a) w)
          ∙ ap (λ m. type_out n m v) (next a (omega (arith, high))) ∙ t.prints;
      is = subst (λ bs. Prints (data_byte w a ∷ bs) w t.after) (bytes_same (data_byte w a ∷ []) w v b n (suc a))
          (prints_then (data_byte w a ∷ []) (data_bytes v n (suc a)) w v t.after b t.is);
    }
  where
    next : (a : ℕ) → a < 65535 → sum_of a 1 ≡ suc a
    next a h = omega (arith, h)

-- ---- in a run

module _ (p : SourceProgram) where
  one : {s t : State} → step p s ≡ Goes t → Comes p 1 (step_price s) s t
  unfolding steps spent
  one {s = s} e = record { count = 1; run = ap (λ o. and_then o (steps p 0)) e; few = omega arith; paid = rw e (omega arith) }

  -- a string word that prints its text
  pub by_text : {n b : ℕ} {s u : State} {after : List Work} {v : World} (address size m d : ℕ) →
      type_out size address s.world ≡ Gives tt v →
      step p s ≡ on_cells (type_out size address s.world ▸ λ _. Gives s.cells) (record s { work = after }) → 1 + m ≤ n →
      step_price s + d ≤ b →
      Comes p m d (record s { work = after; world = v }) u → Comes p n b s u
  by_text {s = s} {after = after} address size m d known e h g r =
      within p (1 + m) (step_price s + d) h g (followed p
      (one (e ∙ ap (λ x. on_cells (x ▸ λ _. Gives s.cells) (record s { work = after })) known)) r)
