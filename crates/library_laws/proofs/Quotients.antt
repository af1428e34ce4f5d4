-- UM/MOD
use Rattle.std.proofs.Common.{◌≡◌, ℕ, zero, suc, ◌+◌, ◌*◌, ◌/◌, ◌%◌, ◌^◌, ◌≤◌, ◌<◌, Bool, true, false, List, [], ◌∷◌, refl, ap, sym, subst, arith, leb-true, ltb-false, lt-ltb, le-ltb}
use Rattle.std.specs.Prelude.{nat_lt, Some, None}
use Rattle.std.proofs.Math.Nat.{div-eq_of_lt-le, div-lt_iff_lt-mul, div-add-mod}
use Rattle.cell_math.specs.Cell.{sum_of, difference_of, double}
use Rattle.cell_math.specs.Divisions.{unsigned_division}
use Rattle.word_table.specs.declared.word.Word.TheVariants.{UMSlashMod, DropTop, Swap}
use Rattle.forth_program.specs.Tree.{Nodes, Plain}
use Rattle.forth_program.specs.State.{Entry, State, World, Frame, Work, Todo, Outcome}
use Rattle.forth_program.specs.Program.{SourceProgram}
use Rattle.forth_program.specs.Step.{step, on_cells}
use Rattle.forth_program.specs.Meaning.{both}
use Rattle.library_laws.proofs.BodySteps.{body_steps, body_spent}
use Rattle.library_laws.specs.Bodies.{body_of_word}
use Rattle.library_laws.specs.Library.{entered, finished, DefinitionDoes}
use Rattle.library_laws.proofs.Comes.{Comes, by_way, at_once, meant_by, cheaper}
use Rattle.library_laws.proofs.Cells.{by_cases}
use Rattle.library_laws.proofs.Loops.{loop_of, at_head, at_turn, sixteen, doubled}

-- ---- divisions of numbers

-- a quotient and a remainder below the divisor are those of the division
pub division_is : (a b q r : ℕ) → q * b + r ≡ a → r < b → (a / b ≡ q) × (a % b ≡ r)
division_is a b q r e h = (quotient, let parts : b * (a / b) + a % b ≡ a = div-add-mod a b in rest (a / b) (a % b) quotient parts)
  where
    quotient : a / b ≡ q
    quotient = div-eq_of_lt-le {k = q} b {m = a} (omega (arith, e)) (omega (arith, e, h))

    rest : (x y : ℕ) → x ≡ q → b * x + y ≡ a → y ≡ r
    rest x y f g = let g' : b * q + y ≡ a = subst (λ z. b * z + y ≡ a) f g in omega (arith, g', e)

some_if : (b : Bool) (x : ℕ × ℕ) → b ≡ true → (elim b [ true ↦ Some x | false ↦ None ]) ≡ Some x
some_if true x e = refl
some_if false x e = let no : ⊥ = cc in absurd no

pub division_gives : (a b q r : ℕ) → q * b + r ≡ a → r < b → q < 65536 → unsigned_division a b ≡ Some (r, q)
division_gives a zero q r e h k = let no : ⊥ = omega (arith, h) in absurd no
division_gives a (suc b) q r e h k = let d = division_is a (suc b) q r e h in
    rw (d.0, d.1, lt-ltb q 65536 k) refl

pub division_none : (a b : ℕ) → b * 65536 ≤ a → unsigned_division a b ≡ None
division_none a zero h = refl
division_none a (suc b) h = rw (le-ltb (a / suc b) 65536 large) refl
  where
    large : 65536 ≤ a / suc b
    large = by_cases (nat_lt (a / suc b) 65536)
        (λ t. let less : a < 65536 * suc b = (div-lt_iff_lt-mul {k = suc b} {x = a} {y = 65536} (omega arith)).0 (leb-true _ _ t) in absurd (let no : ⊥ = omega (arith, less, h) in no))
        (λ t. ltb-false _ _ t)

-- ---- the loop

abbrev body : Nodes
body = loop_of (body_of_word UMSlashMod)

-- after i turns: q of i bits was taken off
record Quotient (u a p h l q : ℕ) : Type 0 where
  difference : l + 65536 * h + 65536 * (q * u) ≡ p * a + q
  bits : q < p
  rest : h < u
  low_cell : l < 65536

-- twice the double with its top bit
abbrev above : ℕ → ℕ → ℕ
above h l = sum_of (l / 32768) h

-- a turn with bit b
turned_by : (b u a p h l q h' l' : ℕ) → b < 2 → l' + 65536 * h' + 65536 * (b * u) ≡ 2 * (l + 65536 * h) + b → h' < u → l' < 65536 → Quotient u a p h l q → Quotient u a (2 * p) h' l' (2 * q + b)
turned_by b u a p h l q h' l' fb e f g r = record {
  difference = omega (arith, e, r.difference);
  bits = let k = r.bits in omega (arith, fb, k);
  rest = f;
  low_cell = g;
}

-- the bit is 0
step_0 : (u h l : ℕ) → u < 65536 → h < u → l < 65536 → above h l < difference_of u h →
    ((2 * l % 65536) + 65536 * sum_of h (above h l) + 65536 * (0 * u) ≡ 2 * (l + 65536 * h) + 0) × (sum_of h (above h l) < u)
step_0 u h l fu fh fl less = (omega (arith, fu, fh, fl, less), omega (arith, fu, fh, fl, less))

-- the bit is 1
step_1 : (u h l : ℕ) → u < 65536 → h < u → l < 65536 → difference_of u h ≤ above h l →
    (sum_of (2 * l % 65536) 1 + 65536 * difference_of (above h l) (difference_of u h) + 65536 * (1 * u) ≡ 2 * (l + 65536 * h) + 1) × (difference_of (above h l) (difference_of u h) < u)
step_1 u h l fu fh fl le = (omega (arith, fu, fh, fl, le), omega (arith, fu, fh, fl, le))

-- the cells at the head of turn i
record Head (u a : ℕ) (c : List ℕ) (i : ℕ) (cells : List ℕ) : Type 0 where
  high : ℕ
  low : ℕ
  taken : ℕ
  are : u ∷ high ∷ low ∷ c ≡ cells
  quotient : Quotient u a (2 ^ i) high low taken

next_head : (u a : ℕ) (c : List ℕ) (i b h' l' : ℕ) (cells : List ℕ) (r : Head u a c i cells) → b < 2 → l' + 65536 * h' + 65536 * (b * u) ≡ 2 * (r.low + 65536 * r.high) + b → h' < u → l' < 65536 → Head u a c (suc i) (u ∷ h' ∷ l' ∷ c)
next_head u a c i b h' l' cells r fb e f g = record {
  high = h';
  low = l';
  taken = 2 * r.taken + b;
  are = refl;
  quotient = subst (λ p. Quotient u a p h' l' (2 * r.taken + b)) (doubled i) (turned_by b u a (2 ^ i) r.high r.low r.taken h' l' fb e f g r.quotient);
}

-- after 16 turns
done : (u a h l q : ℕ) → Quotient u a 65536 h l q → unsigned_division a u ≡ Some (h, l)
done u a h l q r = division_gives a u l h (let s = subst (λ q. l + 65536 * h + 65536 * (q * u) ≡ 65536 * a + q) same r.difference in omega (arith, s)) r.rest r.low_cell
  where
    same : q ≡ l
    same = let d = r.difference in let b = r.bits in let k = r.low_cell in omega (arith, d, b, k)

module _ (p : SourceProgram) (callers : List Frame) (o : World) where
  abbrev state_of : List Work → List Entry → List ℕ → State
  state_of work es c = record { work = work; entries = es; callers = callers; cells = c; world = o }

  module _ (u h l : ℕ) (fu : u < 65536) (fh : h < 65536) (fl : l < 65536) (c : List ℕ) where
    abbrev after : List Work
    after = Todo (Plain DropTop) ∷ Todo (Plain Swap) ∷ []

    abbrev quotient_is : Outcome
    quotient_is = on_cells (both (unsigned_division (double l h) u) c o) (finished callers (u ∷ h ∷ l ∷ c) o)

    turn_by : (i n h' l' : ℕ) →
        (above h' l' < difference_of u h' → Comes p n (at_turn p (state_of [] [] []) body after [] i (u ∷ sum_of h' (above h' l') ∷ (2 * l' % 65536) ∷ c)) quotient_is) →
        (difference_of u h' ≤ above h' l' → Comes p n (at_turn p (state_of [] [] []) body after [] i (u ∷ difference_of (above h' l') (difference_of u h') ∷ sum_of (2 * l' % 65536) 1 ∷ c)) quotient_is) →
        Comes p (31 + n) (at_head p (state_of [] [] []) body after [] i (u ∷ h' ∷ l' ∷ c)) quotient_is
    unfolding step body_steps body_spent
    turn_by i n h' l' bit_0 bit_1 = by_way p 12 (14 + n) refl (omega arith) (by_cases (nat_lt (above h' l') (difference_of u h'))
        (λ e. rw e (by_way p 8 n refl (omega arith) (bit_0 (leb-true _ _ e))))
        (λ e. rw e (by_way p 9 n refl (omega arith) (bit_1 (ltb-false _ _ e)))))

    turn : (i n : ℕ) (cells : List ℕ) → Head u (double l h) c i cells → ((cells' : List ℕ) → Head u (double l h) c (suc i) cells' → Comes p n (at_turn p (state_of [] [] []) body after [] i cells') quotient_is) →
        Comes p (31 + n) (at_head p (state_of [] [] []) body after [] i cells) quotient_is
    turn i n cells r next = subst (λ z. Comes p (31 + n) (at_head p (state_of [] [] []) body after [] i z) quotient_is) r.are (turn_by i n r.high r.low
        (λ e. let s = step_0 u r.high r.low fu r.quotient.rest r.quotient.low_cell e in next _ (next_head u (double l h) c i 0 _ _ cells r (omega arith) s.0 s.1 (omega arith)))
        (λ e. let s = step_1 u r.high r.low fu r.quotient.rest r.quotient.low_cell e in next _ (next_head u (double l h) c i 1 _ _ cells r (omega arith) s.0 s.1 (omega arith))))

    rest : (cells : List ℕ) → Head u (double l h) c 16 cells → Comes p 2 (state_of after [] cells) quotient_is
    unfolding step body_steps body_spent
    rest cells r = subst (λ z. Comes p 2 (state_of after [] z) quotient_is) r.are
        (at_once p 2 (ap (λ d. on_cells (both d c o) (finished callers (u ∷ h ∷ l ∷ c) o)) (sym (done u (double l h) r.high r.low r.taken r.quotient))) (omega arith))

    quotient_comes : Comes p 711 (entered (body_of_word UMSlashMod) callers (u ∷ h ∷ l ∷ c) o) quotient_is
    unfolding step body_steps body_spent
    quotient_comes = by_way p 3 706 refl (omega arith) (by_cases (nat_lt h u)
        (λ e. rw e (by_way p 4 690 refl (omega arith) (sixteen p (state_of [] [] []) body after [] (Head u (double l h) c) 31 2 quotient_is turn rest _
        (record { high = h; low = l; taken = 0; are = refl; quotient = record { difference = omega arith; bits = omega arith; rest = leb-true _ _ e; low_cell = fl } }))))
        (λ e. rw e (cheaper p 7 (omega arith) (at_once p 4 (ap (λ d. on_cells (both d c o) (finished callers (u ∷ h ∷ l ∷ c) o)) (sym (division_none (double l h) u (let le : u ≤ h = ltb-false _ _ e in omega (arith, le))))) (omega arith)))))

pub um_slash_mod : DefinitionDoes (body_of_word UMSlashMod) UMSlashMod
um_slash_mod p callers (u ∷ h ∷ l ∷ c) w need cells world = meant_by 711 (omega arith) refl need (quotient_comes p callers w u h l cells.0 cells.1.0 cells.1.1.0 c)
um_slash_mod p callers c w need cells world = let no : ⊥ = omega (arith, need) in absurd no
