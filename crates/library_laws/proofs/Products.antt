-- UM*
use Rattle.std.proofs.Common.{◌≡◌, ℕ, zero, suc, ◌+◌, ◌*◌, ◌/◌, ◌%◌, ◌^◌, ◌≤◌, ◌<◌, Bool, true, false, List, [], ◌∷◌, refl, ap, ◌∙◌, subst, arith, leb-true, ltb-false}
use Rattle.std.specs.Prelude.{nat_lt}
use Rattle.std.proofs.lemmas.Nat.{and_mask}
use Rattle.cell_math.specs.Cell.{flag, sum_of, high_cell}
use Rattle.word_table.specs.declared.word.Word.TheVariants.{UMStar, DropTop}
use Rattle.forth_program.specs.Tree.{Nodes, Plain}
use Rattle.forth_program.specs.State.{Entry, Loop, State, World, Frame, Work, Todo, Turn, Outcome, Goes}
use Rattle.forth_program.specs.Program.{SourceProgram}
use Rattle.forth_program.specs.Step.{step, before}
use Rattle.forth_program.specs.Meaning.{put}
use Rattle.library_laws.proofs.BodySteps.{body_steps, body_spent}
use Rattle.library_laws.specs.Bodies.{body_of_word}
use Rattle.library_laws.specs.Library.{entered, finished, DefinitionDoes}
use Rattle.library_laws.proofs.Comes.{Comes, by_way, at_once, meant_by}
use Rattle.library_laws.proofs.Cells.{by_bit}
use Rattle.library_laws.proofs.Loops.{loop_of, at_head, at_turn, sixteen, doubled}

abbrev times : Nodes
times = loop_of (body_of_word UMStar)

-- the high cell and the low cell after a turn
abbrev high_after : ℕ → ℕ → ℕ
high_after a h = sum_of (flag (nat_lt (sum_of a h) h) * 32768 % 65536) (sum_of a h / 2)

abbrev low_after : ℕ → ℕ → ℕ → ℕ
low_after a h l = sum_of (sum_of a h * 32768 % 65536) (l / 2)

halves : (b : Bool) (a h l s : ℕ) → (b ≡ true → s < h) → (b ≡ false → h ≤ s) → s ≡ (a + h) % 65536 → a < 65536 → h < 65536 → l < 65536 →
    2 * (sum_of (s * 32768 % 65536) (l / 2) + 65536 * sum_of (flag b * 32768 % 65536) (s / 2)) + l % 2 ≡ 65536 * (a + h) + l
halves true a h l s low high e fa fh fl = let less = low refl in omega (arith, less, e, fa, fh, fl)
halves false a h l s low high e fa fh fl = let less = high refl in omega (arith, less, e, fa, fh, fl)

-- 2^i times the double is u and what was added so far
pub record Product (u v p : ℕ) (h l w : ℕ) : Type 0 where
  pub sum : p * (l + 65536 * h) + w ≡ u + 65536 * (v * w)
  pub bits : w < p
  pub high_cell : h < 65536
  pub low_cell : l < 65536

-- a turn that adds b times v
turned_by : (b a u v p h l w : ℕ) → l % 2 ≡ b → a ≡ b * v → a < 65536 → Product u v p h l w → Product u v (2 * p) (high_after a h) (low_after a h l) (w + b * p)
turned_by b a u v p h l w e f fa m = record {
  sum = let half : 2 * (low_after a h l + 65536 * high_after a h) + l % 2 ≡ 65536 * (a + h) + l = halves (nat_lt (sum_of a h) h) a h l (sum_of a h) (λ e. leb-true _ _ e) (λ e. ltb-false _ _ e) refl fa m.high_cell m.low_cell in
      whole p (low_after a h l + 65536 * high_after a h) (l + 65536 * h) b (b * v) w u v (omega (arith, half, e, f)) m.sum;
  bits = grows (l % 2) b p w e (omega arith) m.bits;
  high_cell = omega arith;
  low_cell = omega arith;
}
  where
    whole : (p x y b t w u v : ℕ) → 2 * x + b ≡ y + 65536 * (b * v) → p * y + w ≡ u + 65536 * (v * w) → 2 * p * x + (w + b * p) ≡ u + 65536 * (v * (w + b * p))
    whole p x y b t w u v e f = let times_p : p * (2 * x + b) ≡ p * (y + 65536 * (b * v)) = ap (λ z. p * z) e in omega (arith, times_p, f)

    grows : (r b p w : ℕ) → r ≡ b → r < 2 → w < p → w + b * p < 2 * p
    grows zero b p w e h k = subst (λ b. w + b * p < 2 * p) e (omega (arith, k))
    grows (suc zero) b p w e h k = subst (λ b. w + b * p < 2 * p) e (omega (arith, k))
    grows (suc (suc r)) b p w e h k = let no : ⊥ = omega (arith, h) in absurd no

-- after 16 turns
done : (u v h l w : ℕ) → u < 65536 → v < 65536 → Product u v 65536 h l w → l + 65536 * h ≡ u * v
done u v h l w fu fv m =
    let same : w ≡ u = omega (arith, m.sum, m.bits, fu) in
    let s : 65536 * (l + 65536 * h) + u ≡ u + 65536 * (v * u) = subst (λ w. 65536 * (l + 65536 * h) + w ≡ u + 65536 * (v * w)) same m.sum in
    omega (arith, s)

-- a double on the cells
pub as_double : (d h l : ℕ) (c : List ℕ) → h < 65536 → l < 65536 → l + 65536 * h ≡ d → h ∷ l ∷ c ≡ put d c
as_double d h l c fh fl e = ap (λ z. z ∷ l ∷ c) (high d h l fh fl e) ∙ ap (λ z. high_cell d ∷ z ∷ c) (low d h l fh fl e)
  where
    high : (d h l : ℕ) → h < 65536 → l < 65536 → l + 65536 * h ≡ d → h ≡ d / 65536 % 65536
    high d h l fh fl e = omega (arith, fh, fl, e)

    low : (d h l : ℕ) → h < 65536 → l < 65536 → l + 65536 * h ≡ d → l ≡ d % 65536
    low d h l fh fl e = omega (arith, fh, fl, e)

-- the cells at the head of turn i
record Head (u v : ℕ) (c : List ℕ) (i : ℕ) (cells : List ℕ) : Type 0 where
  high : ℕ
  low : ℕ
  added : ℕ
  are : v ∷ high ∷ low ∷ c ≡ cells
  product : Product u v (2 ^ i) high low added

next_head : (u v : ℕ) (c : List ℕ) (i b a : ℕ) (cells : List ℕ) (r : Head u v c i cells) → r.low % 2 ≡ b → a ≡ b * v → a < 65536 → Head u v c (suc i) (v ∷ high_after a r.high ∷ low_after a r.high r.low ∷ c)
next_head u v c i b a cells r e f g = record {
  high = _;
  low = _;
  added = r.added + b * 2 ^ i;
  are = refl;
  product = subst (λ q. Product u v q (high_after a r.high) (low_after a r.high r.low) (r.added + b * 2 ^ i)) (doubled i) (turned_by b a u v (2 ^ i) r.high r.low r.added e f g r.product);
}

module _ (p : SourceProgram) (callers : List Frame) (o : World) where
  abbrev state_of : List Work → List Entry → List ℕ → State
  state_of work es c = record { work = work; entries = es; callers = callers; cells = c; world = o }

  -- a turn, by the lowest bit
  turn_0 : (after : List Work) (es : List Entry) (v h l : ℕ) (c : List ℕ) (n : ℕ) (x : Outcome) → l % 2 ≡ 0 →
      Comes p n (state_of (Turn times false ∷ after) es (v ∷ high_after 0 h ∷ low_after 0 h l ∷ c)) x →
      Comes p (38 + n) (state_of (before times (Turn times false ∷ after)) es (v ∷ h ∷ l ∷ c)) x
  unfolding step body_steps body_spent
  turn_0 after es v h l c n x e r = by_way p 4 (33 + n) refl (omega arith) (
      rw (and_mask l 1, e) (by_way p 22 n refl (omega arith) r))

  turn_1 : (after : List Work) (es : List Entry) (v h l : ℕ) (c : List ℕ) (n : ℕ) (x : Outcome) → l % 2 ≡ 1 →
      Comes p n (state_of (Turn times false ∷ after) es (v ∷ high_after v h ∷ low_after v h l ∷ c)) x →
      Comes p (38 + n) (state_of (before times (Turn times false ∷ after)) es (v ∷ h ∷ l ∷ c)) x
  unfolding step body_steps body_spent
  turn_1 after es v h l c n x e r = by_way p 4 (33 + n) refl (omega arith) (
      rw (and_mask l 1, e) (by_way p 23 n refl (omega arith) r))

  module _ (u v : ℕ) (fu : u < 65536) (fv : v < 65536) (c : List ℕ) where
    abbrev after : List Work
    after = Todo (Plain DropTop) ∷ []

    abbrev product_is : Outcome
    product_is = Goes (finished callers (put (u * v) c) o)

    turn : (i n : ℕ) (cells : List ℕ) → Head u v c i cells → ((cells' : List ℕ) → Head u v c (suc i) cells' → Comes p n (at_turn p (state_of [] [] []) times after [] i cells') product_is) →
        Comes p (38 + n) (at_head p (state_of [] [] []) times after [] i cells) product_is
    turn i n cells r next = subst (λ z. Comes p (38 + n) (at_head p (state_of [] [] []) times after [] i z) product_is) r.are (by_bit r.low
        (λ e. turn_0 after (Loop 16 i ∷ []) v r.high r.low c n _ e (next _ (next_head u v c i 0 0 cells r e (omega arith) (omega arith))))
        (λ e. turn_1 after (Loop 16 i ∷ []) v r.high r.low c n _ e (next _ (next_head u v c i 1 v cells r e (omega arith) fv))))

    rest : (cells : List ℕ) → Head u v c 16 cells → Comes p 1 (state_of after [] cells) product_is
    unfolding step body_steps body_spent
    rest cells r = subst (λ z. Comes p 1 (state_of after [] z) product_is) r.are
        (at_once p 1 (ap (λ z. Goes (finished callers z o)) (as_double (u * v) r.high r.low c r.product.high_cell r.product.low_cell (done u v r.high r.low r.added fu fv r.product))) (omega arith))

    product_comes : Comes p 816 (entered (body_of_word UMStar) callers (v ∷ u ∷ c) o) product_is
    unfolding step body_steps body_spent
    product_comes = by_way p 5 801 refl (omega arith) (sixteen p (state_of [] [] []) times after [] (Head u v c) 38 1 product_is turn rest _
        (record { high = 0; low = u; added = 0; are = refl; product = record { sum = omega arith; bits = omega arith; high_cell = omega arith; low_cell = fu } }))

pub um_star : DefinitionDoes (body_of_word UMStar) UMStar
um_star p callers (v ∷ u ∷ c) w need cells world = meant_by 816 (omega arith) refl need (product_comes p callers w u v cells.1.0 cells.0 c)
um_star p callers c w need cells world = let no : ⊥ = omega (arith, need) in absurd no
