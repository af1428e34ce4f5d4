-- Words that find too few cells.
use Rattle.std.proofs.Common.{◌≡◌, ℕ, [], ◌∷◌, Bool, true, false, refl}
use Rattle.word_table.specs.declared.word.Word.{Word}
use Rattle.word_table.specs.declared.word.Word.TheVariants.{Fetch}
use Rattle.forth_program.specs.State.{World, Stops, Underflow}
use Rattle.forth_program.specs.Meaning.{meaning}
use Rattle.reference_eval.specs.declared.shapes.Shape.{Shape}
use Rattle.reference_eval.specs.declared.shapes.Shape.TheVariants as shape
use Rattle.reference_eval.specs.Shapes.{shape_of}

-- whether a shape takes more cells than none, one, two and three
abbrev pub takes_one : Shape → Bool
takes_one shape.TakesOne = true
takes_one shape.TakesTwo = true
takes_one shape.TakesThree = true
takes_one shape.TakesFour = true
takes_one other = false

abbrev pub takes_two : Shape → Bool
takes_two shape.TakesTwo = true
takes_two shape.TakesThree = true
takes_two shape.TakesFour = true
takes_two other = false

abbrev pub takes_three : Shape → Bool
takes_three shape.TakesThree = true
takes_three shape.TakesFour = true
takes_three other = false

abbrev pub takes_four : Shape → Bool
takes_four shape.TakesFour = true
takes_four other = false

-- the first where it is so, else the second
abbrev where_so : {A : Type 0} → Bool → A → A → A
where_so true x y = x
where_so false x y = y

-- a word that takes a cell or more underflows where there is none, and so on up to four: computed at each word
ends_one : (word : Word) (w : World) → where_so (takes_one (shape_of word)) (meaning word [] w) (Stops Underflow w) ≡ Stops Underflow w
ends_one Fetch w = refl
ends_one word w = refl

ends_two : (word : Word) (x : ℕ) (w : World) → where_so (takes_two (shape_of word)) (meaning word (x ∷ []) w) (Stops Underflow w) ≡ Stops Underflow w
ends_two Fetch x w = refl
ends_two word x w = refl

ends_three : (word : Word) (y x : ℕ) (w : World) → where_so (takes_three (shape_of word)) (meaning word (y ∷ x ∷ []) w) (Stops Underflow w) ≡ Stops Underflow w
ends_three Fetch y x w = refl
ends_three word y x w = refl

ends_four : (word : Word) (z y x : ℕ) (w : World) → where_so (takes_four (shape_of word)) (meaning word (z ∷ y ∷ x ∷ []) w) (Stops Underflow w) ≡ Stops Underflow w
ends_four Fetch z y x w = refl
ends_four word z y x w = refl

pub without_one : (word : Word) → takes_one (shape_of word) ≡ true → (w : World) → meaning word [] w ≡ Stops Underflow w
without_one word e w = rw e at (ends_one word w)

pub without_two : (word : Word) (x : ℕ) → takes_two (shape_of word) ≡ true → (w : World) → meaning word (x ∷ []) w ≡ Stops Underflow w
without_two word x e w = rw e at (ends_two word x w)

pub without_three : (word : Word) (y x : ℕ) → takes_three (shape_of word) ≡ true → (w : World) → meaning word (y ∷ x ∷ []) w ≡ Stops Underflow w
without_three word y x e w = rw e at (ends_three word y x w)

pub without_four : (word : Word) (z y x : ℕ) → takes_four (shape_of word) ≡ true → (w : World) → meaning word (z ∷ y ∷ x ∷ []) w ≡ Stops Underflow w
without_four word z y x e w = rw e at (ends_four word z y x w)
