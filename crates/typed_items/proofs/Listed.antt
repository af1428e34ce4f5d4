-- Listed words: a step of one is its meaning, it lacks cells where there are fewer than its need, and it costs something.
use Rattle.std.proofs.Common.{◌≡◌, ℕ, ◌≤◌, nat_le, Bool, true, false, List, [], ◌∷◌, length, refl, arith}
use Rattle.std.specs.Prelude.{not, ◌||◌}
use Rattle.std.proofs.lemmas.Bool.Decides.{nat_tests}
use Rattle.word_table.specs.declared.word.Word.{Word}
use Rattle.word_table.specs.declared.word.Word.TheVariants.{TwoSwap, TwoOver, Rot, StarSlash, StarSlashMod, Swap, Over, TwoDup, TwoDrop}
use Rattle.word_table.specs.declared.word.Word.TheVariants.{Plus, Minus, Star, Slash, Mod, SlashMod, Max, Min, And, Or, Xor}
use Rattle.word_table.specs.declared.word.Word.TheVariants.{LShift, RShift, Equal, Less, Greater, ULess, Dup, DropTop, QDup, OnePlus}
use Rattle.word_table.specs.declared.word.Word.TheVariants.{OneMinus, TwoStar, TwoSlash, Negate, Abs, Invert, ZeroEqual, ZeroLess, Emit}
use Rattle.word_table.specs.declared.word.Word.TheVariants.{Spaces}
use Rattle.word_table.specs.declared.word.Word.TheVariants.{Dot, UDot, Cr, Space, ToR, RFrom, RFetch, Index, OuterIndex, Unloop, Execute}
use Rattle.word_table.specs.Table.{entry_of}
use Rattle.forth_program.specs.State.{Entry, World, State}
use Rattle.forth_program.specs.Program.{SourceProgram}
use Rattle.forth_program.specs.Meaning.{meaning}
use Rattle.forth_program.specs.Step.{word_step, on_cells}
use Rattle.forth_program.specs.Run.{lacks}
use Rattle.forth_program.specs.Price.{word_price}
use Rattle.typed_items.specs.Items.{is_listed}

priced : (word : Word) → (not (is_listed word) || nat_le 1 (entry_of word).base) ≡ true
priced Dup = refl
priced word = refl

given : (a b : Bool) → (not a || b) ≡ true → a ≡ true → b ≡ true
given true b h e = h
given false b h e = absurd (let f : false ≡ true = e in cc)

pub word_costs : (word : Word) (c : List ℕ) (w : World) → is_listed word ≡ true → 1 ≤ word_price word c w
word_costs word c w e = let some = given (is_listed word) (nat_le 1 (entry_of word).base) (priced word) e in grind (arith, nat_tests)

pub word_step_is : (p : SourceProgram) (word : Word) (c : List ℕ) (es : List Entry) (s : State) → is_listed word ≡ true →
    word_step p word c es s ≡ on_cells (meaning word c s.world) s
word_step_is p ToR c es s e = absurd (let f : false ≡ true = e in cc)
word_step_is p RFrom c es s e = absurd (let f : false ≡ true = e in cc)
word_step_is p RFetch c es s e = absurd (let f : false ≡ true = e in cc)
word_step_is p Index c es s e = absurd (let f : false ≡ true = e in cc)
word_step_is p OuterIndex c es s e = absurd (let f : false ≡ true = e in cc)
word_step_is p Unloop c es s e = absurd (let f : false ≡ true = e in cc)
word_step_is p Execute c es s e = absurd (let f : false ≡ true = e in cc)
word_step_is p word c es s e = refl

one_cell : (x : ℕ) (c : List ℕ) → 1 ≤ length (x ∷ c)
one_cell x c = omega arith

two_cells : (y x : ℕ) (c : List ℕ) → 2 ≤ length (y ∷ x ∷ c)
two_cells y x c = omega arith

three_cells : (z y x : ℕ) (c : List ℕ) → 3 ≤ length (z ∷ y ∷ x ∷ c)
three_cells z y x c = omega arith

four_cells : (u z y x : ℕ) (c : List ℕ) → 4 ≤ length (u ∷ z ∷ y ∷ x ∷ c)
four_cells u z y x c = omega arith

pub word_needs : (word : Word) (c : List ℕ) (s : State) → is_listed word ≡ true → lacks (on_cells (meaning word c s.world) s) ≡ false →
    (entry_of word).need ≤ length c
word_needs TwoSwap [] s e l = absurd (let f : true ≡ false = l in cc)
word_needs TwoSwap (u ∷ []) s e l = absurd (let f : true ≡ false = l in cc)
word_needs TwoSwap (u ∷ z ∷ []) s e l = absurd (let f : true ≡ false = l in cc)
word_needs TwoSwap (u ∷ z ∷ y ∷ []) s e l = absurd (let f : true ≡ false = l in cc)
word_needs TwoSwap (u ∷ z ∷ y ∷ x ∷ c) s e l = four_cells u z y x c
word_needs TwoOver [] s e l = absurd (let f : true ≡ false = l in cc)
word_needs TwoOver (u ∷ []) s e l = absurd (let f : true ≡ false = l in cc)
word_needs TwoOver (u ∷ z ∷ []) s e l = absurd (let f : true ≡ false = l in cc)
word_needs TwoOver (u ∷ z ∷ y ∷ []) s e l = absurd (let f : true ≡ false = l in cc)
word_needs TwoOver (u ∷ z ∷ y ∷ x ∷ c) s e l = four_cells u z y x c
word_needs Rot [] s e l = absurd (let f : true ≡ false = l in cc)
word_needs Rot (z ∷ []) s e l = absurd (let f : true ≡ false = l in cc)
word_needs Rot (z ∷ y ∷ []) s e l = absurd (let f : true ≡ false = l in cc)
word_needs Rot (z ∷ y ∷ x ∷ c) s e l = three_cells z y x c
word_needs StarSlash [] s e l = absurd (let f : true ≡ false = l in cc)
word_needs StarSlash (z ∷ []) s e l = absurd (let f : true ≡ false = l in cc)
word_needs StarSlash (z ∷ y ∷ []) s e l = absurd (let f : true ≡ false = l in cc)
word_needs StarSlash (z ∷ y ∷ x ∷ c) s e l = three_cells z y x c
word_needs StarSlashMod [] s e l = absurd (let f : true ≡ false = l in cc)
word_needs StarSlashMod (z ∷ []) s e l = absurd (let f : true ≡ false = l in cc)
word_needs StarSlashMod (z ∷ y ∷ []) s e l = absurd (let f : true ≡ false = l in cc)
word_needs StarSlashMod (z ∷ y ∷ x ∷ c) s e l = three_cells z y x c
word_needs Swap [] s e l = absurd (let f : true ≡ false = l in cc)
word_needs Swap (y ∷ []) s e l = absurd (let f : true ≡ false = l in cc)
word_needs Swap (y ∷ x ∷ c) s e l = two_cells y x c
word_needs Over [] s e l = absurd (let f : true ≡ false = l in cc)
word_needs Over (y ∷ []) s e l = absurd (let f : true ≡ false = l in cc)
word_needs Over (y ∷ x ∷ c) s e l = two_cells y x c
word_needs TwoDup [] s e l = absurd (let f : true ≡ false = l in cc)
word_needs TwoDup (y ∷ []) s e l = absurd (let f : true ≡ false = l in cc)
word_needs TwoDup (y ∷ x ∷ c) s e l = two_cells y x c
word_needs TwoDrop [] s e l = absurd (let f : true ≡ false = l in cc)
word_needs TwoDrop (y ∷ []) s e l = absurd (let f : true ≡ false = l in cc)
word_needs TwoDrop (y ∷ x ∷ c) s e l = two_cells y x c
word_needs Plus [] s e l = absurd (let f : true ≡ false = l in cc)
word_needs Plus (y ∷ []) s e l = absurd (let f : true ≡ false = l in cc)
word_needs Plus (y ∷ x ∷ c) s e l = two_cells y x c
word_needs Minus [] s e l = absurd (let f : true ≡ false = l in cc)
word_needs Minus (y ∷ []) s e l = absurd (let f : true ≡ false = l in cc)
word_needs Minus (y ∷ x ∷ c) s e l = two_cells y x c
word_needs Star [] s e l = absurd (let f : true ≡ false = l in cc)
word_needs Star (y ∷ []) s e l = absurd (let f : true ≡ false = l in cc)
word_needs Star (y ∷ x ∷ c) s e l = two_cells y x c
word_needs Slash [] s e l = absurd (let f : true ≡ false = l in cc)
word_needs Slash (y ∷ []) s e l = absurd (let f : true ≡ false = l in cc)
word_needs Slash (y ∷ x ∷ c) s e l = two_cells y x c
word_needs Mod [] s e l = absurd (let f : true ≡ false = l in cc)
word_needs Mod (y ∷ []) s e l = absurd (let f : true ≡ false = l in cc)
word_needs Mod (y ∷ x ∷ c) s e l = two_cells y x c
word_needs SlashMod [] s e l = absurd (let f : true ≡ false = l in cc)
word_needs SlashMod (y ∷ []) s e l = absurd (let f : true ≡ false = l in cc)
word_needs SlashMod (y ∷ x ∷ c) s e l = two_cells y x c
word_needs Max [] s e l = absurd (let f : true ≡ false = l in cc)
word_needs Max (y ∷ []) s e l = absurd (let f : true ≡ false = l in cc)
word_needs Max (y ∷ x ∷ c) s e l = two_cells y x c
word_needs Min [] s e l = absurd (let f : true ≡ false = l in cc)
word_needs Min (y ∷ []) s e l = absurd (let f : true ≡ false = l in cc)
word_needs Min (y ∷ x ∷ c) s e l = two_cells y x c
word_needs And [] s e l = absurd (let f : true ≡ false = l in cc)
word_needs And (y ∷ []) s e l = absurd (let f : true ≡ false = l in cc)
word_needs And (y ∷ x ∷ c) s e l = two_cells y x c
word_needs Or [] s e l = absurd (let f : true ≡ false = l in cc)
word_needs Or (y ∷ []) s e l = absurd (let f : true ≡ false = l in cc)
word_needs Or (y ∷ x ∷ c) s e l = two_cells y x c
word_needs Xor [] s e l = absurd (let f : true ≡ false = l in cc)
word_needs Xor (y ∷ []) s e l = absurd (let f : true ≡ false = l in cc)
word_needs Xor (y ∷ x ∷ c) s e l = two_cells y x c
word_needs LShift [] s e l = absurd (let f : true ≡ false = l in cc)
word_needs LShift (y ∷ []) s e l = absurd (let f : true ≡ false = l in cc)
word_needs LShift (y ∷ x ∷ c) s e l = two_cells y x c
word_needs RShift [] s e l = absurd (let f : true ≡ false = l in cc)
word_needs RShift (y ∷ []) s e l = absurd (let f : true ≡ false = l in cc)
word_needs RShift (y ∷ x ∷ c) s e l = two_cells y x c
word_needs Equal [] s e l = absurd (let f : true ≡ false = l in cc)
word_needs Equal (y ∷ []) s e l = absurd (let f : true ≡ false = l in cc)
word_needs Equal (y ∷ x ∷ c) s e l = two_cells y x c
word_needs Less [] s e l = absurd (let f : true ≡ false = l in cc)
word_needs Less (y ∷ []) s e l = absurd (let f : true ≡ false = l in cc)
word_needs Less (y ∷ x ∷ c) s e l = two_cells y x c
word_needs Greater [] s e l = absurd (let f : true ≡ false = l in cc)
word_needs Greater (y ∷ []) s e l = absurd (let f : true ≡ false = l in cc)
word_needs Greater (y ∷ x ∷ c) s e l = two_cells y x c
word_needs ULess [] s e l = absurd (let f : true ≡ false = l in cc)
word_needs ULess (y ∷ []) s e l = absurd (let f : true ≡ false = l in cc)
word_needs ULess (y ∷ x ∷ c) s e l = two_cells y x c
word_needs Dup [] s e l = absurd (let f : true ≡ false = l in cc)
word_needs Dup (x ∷ c) s e l = one_cell x c
word_needs DropTop [] s e l = absurd (let f : true ≡ false = l in cc)
word_needs DropTop (x ∷ c) s e l = one_cell x c
word_needs QDup [] s e l = absurd (let f : true ≡ false = l in cc)
word_needs QDup (x ∷ c) s e l = one_cell x c
word_needs OnePlus [] s e l = absurd (let f : true ≡ false = l in cc)
word_needs OnePlus (x ∷ c) s e l = one_cell x c
word_needs OneMinus [] s e l = absurd (let f : true ≡ false = l in cc)
word_needs OneMinus (x ∷ c) s e l = one_cell x c
word_needs TwoStar [] s e l = absurd (let f : true ≡ false = l in cc)
word_needs TwoStar (x ∷ c) s e l = one_cell x c
word_needs TwoSlash [] s e l = absurd (let f : true ≡ false = l in cc)
word_needs TwoSlash (x ∷ c) s e l = one_cell x c
word_needs Negate [] s e l = absurd (let f : true ≡ false = l in cc)
word_needs Negate (x ∷ c) s e l = one_cell x c
word_needs Abs [] s e l = absurd (let f : true ≡ false = l in cc)
word_needs Abs (x ∷ c) s e l = one_cell x c
word_needs Invert [] s e l = absurd (let f : true ≡ false = l in cc)
word_needs Invert (x ∷ c) s e l = one_cell x c
word_needs ZeroEqual [] s e l = absurd (let f : true ≡ false = l in cc)
word_needs ZeroEqual (x ∷ c) s e l = one_cell x c
word_needs ZeroLess [] s e l = absurd (let f : true ≡ false = l in cc)
word_needs ZeroLess (x ∷ c) s e l = one_cell x c
word_needs Emit [] s e l = absurd (let f : true ≡ false = l in cc)
word_needs Emit (x ∷ c) s e l = one_cell x c
word_needs Spaces [] s e l = absurd (let f : true ≡ false = l in cc)
word_needs Spaces (x ∷ c) s e l = one_cell x c
word_needs Dot [] s e l = absurd (let f : true ≡ false = l in cc)
word_needs Dot (x ∷ c) s e l = one_cell x c
word_needs UDot [] s e l = absurd (let f : true ≡ false = l in cc)
word_needs UDot (x ∷ c) s e l = one_cell x c
word_needs Cr c s e l = omega arith
word_needs Space c s e l = omega arith
word_needs word c s e l = absurd (let f : false ≡ true = e in cc)
