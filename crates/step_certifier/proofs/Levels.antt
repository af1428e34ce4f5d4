-- Heights and entries of a frame, what is known of the cells, and the ends of a body.
use Rattle.std.proofs.Common.{◌≡◌, ℕ, zero, suc, ◌+◌, ◌*◌, ◌<◌, ◌≤◌, ◌⊎◌, inr, ⊎_elim, Bool, true, false, if◌then◌else◌, List, [], ◌∷◌, length, Option, Some, None, refl, sym, ap, ◌∙◌, subst, arith}
use Rattle.std.proofs.Math.Nat.{mul-le-mul_left}
use Rattle.std.specs.Prelude.{◌==◌}
use Rattle.std.proofs.lemmas.Bool.Decides.{leb_tells}
use Rattle.word_table.specs.declared.word.Word.{Word}
use Rattle.word_table.specs.declared.word.Word.TheVariants.{Spaces, TypeOut, Fill, Move, Accept, ToNumber}
use Rattle.word_table.specs.Table.{entry_of}
use Rattle.cell_math.specs.Cell.{signed, sum_of}
use Rattle.forth_program.specs.State.{Entry, Cell, Loop, Work, World, Reply, Gives, Stops}
use Rattle.forth_program.specs.Tree.{Nodes, Empty, Then}
use Rattle.forth_program.specs.Step.{before, after_loop}
use Rattle.forth_program.specs.Access.{take_key, store_byte}
use Rattle.forth_program.specs.ByteWords.{positive, accept_begins, begun_by}
use Rattle.forth_program.specs.Price.{count, word_price}
use Rattle.step_certifier.specs.declared.bound.BoundCause.{BoundCause}
use Rattle.step_certifier.specs.declared.bound.BoundCause.TheVariants.{Recursion}
use Rattle.step_certifier.specs.Cost.{Last, Other, One, Two, TextSize, with_literal, literal_of, known_count, or_none}
use Rattle.step_certifier.specs.Refusal.{or_else, call_refusal, word_refusal}
use Rattle.step_certifier.proofs.Entries.{Height, Same, raised, Lowers}

-- ---- heights

abbrev pub At : Height → List Entry → Type 0
At None es = ⊥
At (Some n) es = length es ≡ n

pub same_at : (h w : Height) (es : List Entry) → Same h w → At h es → At w es
same_at None w es same at = absurd at
same_at (Some n) w es same at = subst (λ x. At x es) (sym same) at

pub raised_at : (h : Height) (entry : Entry) (es : List Entry) → At h es → At (raised h) (entry ∷ es)
raised_at None entry es at = absurd at
raised_at (Some n) entry es at = omega (arith, at)

pub lowers_to : (h w : Height) (entry : Entry) (es : List Entry) → Lowers h w → At h (entry ∷ es) → w ≡ Some (length es)
lowers_to None w entry es lowers at = absurd at
lowers_to (Some zero) w entry es lowers at = absurd (omega (arith, at))
lowers_to (Some (suc n)) w entry es lowers at = (let e : n ≡ length es = omega (arith, at) in lowers ∙ ap Some e)

pub lowered_at : (h w : Height) (entry : Entry) (es : List Entry) → Lowers h w → At h (entry ∷ es) → At w es
lowered_at h w entry es lowers at = subst (λ x. At x es) (sym (lowers_to h w entry es lowers at)) refl

-- ---- entries

-- these entries are the base with cells on it, or what is left of the base is shorter
abbrev pub Over : List Entry → List Entry → Type 0
Over base [] = Unit {0}
Over base (Cell value ∷ es) = Over base es
Over base (Loop limit index ∷ es) = (Loop limit index ∷ es ≡ base) ⊎ (suc (length es) < length base)

shorter : (base es : List Entry) → length es < length base → Over base es
shorter base [] lt = tt
shorter base (Cell value ∷ es) lt = shorter base es (omega (arith, lt))
shorter base (Loop limit index ∷ es) lt = inr (omega (arith, lt))

pub under : (base : List Entry) (limit index : ℕ) (es : List Entry) → Over base (Loop limit index ∷ es) → Over base es
under base limit index es over =
    ⊎_elim
    (λ e. let f : length (Loop limit index ∷ es) ≡ length base = ap length e in shorter base es (omega (arith, f)))
    (λ lt. shorter base es (omega (arith, lt)))
    over

-- where there are as many entries as in the base, a loop on top is that of the base
pub found : (base : List Entry) (limit index : ℕ) (es : List Entry) → Over base (Loop limit index ∷ es) → length base ≡ suc (length es) → Loop limit index ∷ es ≡ base
found base limit index es over same = ⊎_elim (λ e. e) (λ lt. absurd (omega (arith, lt, same))) over

-- a LEAVE comes to the height below the base
abbrev pub Inside : Height → List Entry → Type 0
Inside out base = (m : ℕ) → out ≡ Some m → length base ≡ suc m

-- ---- cells

abbrev pub Knows : Last → List ℕ → Type 0
Knows Other c = Unit {0}
Knows (One value) c = (rest : List ℕ) × (c ≡ value ∷ rest)
Knows (Two value next) c = (rest : List ℕ) × (c ≡ next ∷ value ∷ rest)
Knows (TextSize size) c = (rest : List ℕ) × (c ≡ size ∷ rest)

pub knows_literal : (last : Last) (value : ℕ) (c : List ℕ) → Knows last c → Knows (with_literal last value) (value ∷ c)
knows_literal Other value c knows = (c, refl)
knows_literal (One first) value c knows = (knows.0, ap (λ c. value ∷ c) knows.1)
knows_literal (Two first next) value c knows = (first ∷ knows.0, ap (λ c. value ∷ c) knows.1)
knows_literal (TextSize size) value c knows = (c, refl)

some_same : (x y : ℕ) → Some x ≡ Some y → x ≡ y
some_same x y h = cc

pub knows_value : (last : Last) (value : ℕ) (c : List ℕ) → Knows last c → literal_of last ≡ Some value → (rest : List ℕ) × (c ≡ value ∷ rest)
knows_value Other value c knows is = cc (is)
knows_value (TextSize size) value c knows is = cc (is)
knows_value (One first) value c knows is = (knows.0, knows.1 ∙ ap (λ x. x ∷ knows.0) (some_same first value is))
knows_value (Two first next) value c knows is = (first ∷ knows.0, knows.1 ∙ ap (λ x. x ∷ first ∷ knows.0) (some_same next value is))

-- ---- refusals

pub or_first : (x y : Option BoundCause) → or_else x y ≡ None → x ≡ None
or_first None y e = refl
or_first (Some cause) y e = cc (e)

pub or_next : (x y : Option BoundCause) → or_else x y ≡ None → y ≡ None
or_next None y e = e
or_next (Some cause) y e = cc (e)

pub call_earlier : (own definition : ℕ) → call_refusal own definition ≡ None → definition < own
call_earlier own definition r =
    ⊎_elim
    (λ t. let lt : definition < own = t.1 in lt)
    (λ t. let e : Some Recursion ≡ None = sym (ap (λ b. if b then None else Some Recursion) t.0) ∙ r in cc (e))
    (leb_tells (suc definition) own)

-- ---- prices of words

begun_most : {A : Type 0} (r : Reply A) (next : A → World → ℕ) (most : ℕ) → ((x : A) (w : World) → next x w ≤ most) → begun_by r next ≤ most
begun_most (Gives x w) next most h = h x w
begun_most (Stops end w) next most h = omega arith

accept_most : (n a : ℕ) (w : World) → accept_begins n a w ≤ n
accept_most zero a w = omega arith
accept_most (suc n) a w =
    let h = begun_most (take_key w) _ n (λ c w. of (λ b w. accept_most n b w) (c == 10) c w) in
    omega (arith, h)
  where
    of : ((b : ℕ) (w : World) → accept_begins n b w ≤ n) → (b : Bool) (c : ℕ) (w : World) → elim b [ true ↦ 0 | false ↦ begun_by (store_byte a c w) (λ _. accept_begins n (sum_of a 1)) ] ≤ n
    of rec true c w = omega arith
    of rec false c w = begun_most (store_byte a c w) _ n (λ u w. rec (sum_of a 1) w)

type_top : (value : ℕ) (c rest : List ℕ) (w : World) → c ≡ value ∷ rest → count TypeOut c w ≤ value
type_top value c rest w is = subst (λ c. count TypeOut c w ≤ value) (sym is) (of rest)
  where
    of : (rest : List ℕ) → count TypeOut (value ∷ rest) w ≤ value
    of [] = omega arith
    of (a ∷ rest) = omega arith

move_top : (value : ℕ) (c rest : List ℕ) (w : World) → c ≡ value ∷ rest → count Move c w ≤ value
move_top value c rest w is = subst (λ c. count Move c w ≤ value) (sym is) (of rest)
  where
    of : (rest : List ℕ) → count Move (value ∷ rest) w ≤ value
    of [] = omega arith
    of (a ∷ []) = omega arith
    of (a ∷ b ∷ rest) = omega arith

accept_top : (value : ℕ) (c rest : List ℕ) (w : World) → c ≡ value ∷ rest → count Accept c w ≤ value
accept_top value c rest w is = subst (λ c. count Accept c w ≤ value) (sym is) (of rest)
  where
    of : (rest : List ℕ) → count Accept (value ∷ rest) w ≤ value
    of [] = omega arith
    of (a ∷ rest) = accept_most value a w

spaces_top : (value : ℕ) (c rest : List ℕ) (w : World) → c ≡ value ∷ rest → count Spaces c w ≤ positive (signed value)
spaces_top value c rest w is = subst (λ c. count Spaces c w ≤ positive (signed value)) (sym is) (omega arith)

count_most : (word : Word) (last : Last) (c : List ℕ) (w : World) → Knows last c → word_refusal word last ≡ None → count word c w ≤ or_none (known_count word last)
count_most TypeOut Other c w knows r = cc (r)
count_most TypeOut (One value) c w knows r = type_top value c knows.0 w knows.1
count_most TypeOut (Two first value) c w knows r = type_top value c (first ∷ knows.0) w knows.1
count_most TypeOut (TextSize size) c w knows r = type_top size c knows.0 w knows.1
count_most Spaces Other c w knows r = cc (r)
count_most Spaces (One value) c w knows r = spaces_top value c knows.0 w knows.1
count_most Spaces (Two first value) c w knows r = spaces_top value c (first ∷ knows.0) w knows.1
count_most Spaces (TextSize size) c w knows r = cc (r)
count_most Move Other c w knows r = cc (r)
count_most Move (One value) c w knows r = move_top value c knows.0 w knows.1
count_most Move (Two first value) c w knows r = move_top value c (first ∷ knows.0) w knows.1
count_most Move (TextSize size) c w knows r = cc (r)
count_most Accept Other c w knows r = cc (r)
count_most Accept (One value) c w knows r = accept_top value c knows.0 w knows.1
count_most Accept (Two first value) c w knows r = accept_top value c (first ∷ knows.0) w knows.1
count_most Accept (TextSize size) c w knows r = cc (r)
count_most Fill last c w knows r = cc (r)
count_most ToNumber last c w knows r = cc (r)
count_most word last c w knows r = omega arith

price_of : (base per a b : ℕ) → a ≤ b → base + per * a ≤ base + per * b
price_of base per a b le = (let m : per * a ≤ per * b = mul-le-mul_left per le in omega (arith, m))

pub word_most : (word : Word) (last : Last) (c : List ℕ) (w : World) → Knows last c → word_refusal word last ≡ None → word_price word c w ≤ (entry_of word).base + (entry_of word).per * or_none (known_count word last)
word_most word last c w knows r = price_of (entry_of word).base (entry_of word).per (count word c w) (or_none (known_count word last)) (count_most word last c w knows r)

-- ---- work

pub after_items : (rest : Nodes) (after : List Work) → after_loop (before rest after) ≡ after_loop after
after_items Empty after = refl
after_items (Then node rest) after = after_items rest after
