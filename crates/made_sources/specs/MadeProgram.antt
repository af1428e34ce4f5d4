-- The program of a made source, and a certificate of it.
use Rattle.std.specs.Prelude.{ℕ, zero, suc, ◌+◌, ◌*◌, ◌%◌, ◌++◌, ◌∷◌, [], List, Some, pos, codes, decimal}
use Rattle.word_table.specs.declared.word.Word.{Word}
use Rattle.word_table.specs.declared.word.Word.TheVariants.{Plus, Xor, Minus, Star, UDot}
use Rattle.forth_program.specs.Tree.{Nodes, Literal, Plain, Call, Empty, Then}
use Rattle.forth_program.specs.Program.{SourceProgram}
use Rattle.control_flow.specs.SourceText.{program_with, first_host}
use Rattle.depth_certifier.specs.declared.effect.Effect.{Effect}
use Rattle.depth_certifier.specs.Certificate.{Cert}
use Rattle.made_sources.specs.MadeSource.{next_number}

-- the number of a place: that of place 0 is the seed
abbrev pub number_at : ℕ → ℕ → ℕ
number_at seed zero = seed
number_at seed (suc place) = next_number (number_at seed place)

-- the word of a number, by its remainder modulo 4
abbrev pub operation_word : ℕ → Word
operation_word zero = Plus
operation_word (suc zero) = Xor
operation_word (suc (suc zero)) = Minus
operation_word remainder = Star

-- `V OP`
abbrev pub number_body : ℕ → Nodes
number_body number = Then (Literal number) (Then (Plain (operation_word (number % 4))) Empty)

-- `Wi`
abbrev pub made_name : ℕ → List ℕ
made_name place = 87 ∷ decimal place

-- one thing for each of so many definitions, in their order
abbrev pub for_each : {A : Type 0} → (ℕ → A) → ℕ → List A
for_each thing zero = []
for_each thing (suc count) = for_each thing count ++ thing count ∷ []

abbrev pub names_to : ℕ → List (List ℕ)
names_to count = for_each (λ definition. made_name (definition + 1)) count

-- definition 0 has the number of place 1
abbrev pub bodies_to : ℕ → ℕ → List Nodes
bodies_to seed count = for_each (λ definition. number_body (number_at seed (suc definition))) count

-- calls of so many definitions from one on, and `U.`
abbrev pub calls_and_print : ℕ → ℕ → Nodes
calls_and_print zero definition = Then (Plain UDot) Empty
calls_and_print (suc count) definition = Then (Call definition) (calls_and_print count (definition + 1))

-- MAIN calls each definition on 1 and prints what is left
abbrev pub made_program : ℕ → ℕ → SourceProgram
made_program seed count = program_with (names_to count ++ codes "MAIN" ∷ []) (bodies_to seed count ++ Then (Literal 1) (calls_and_print count 0) ∷ []) count (6 * count + 5) first_host

-- ---- its certificate: each definition takes a cell and leaves one

abbrev pub operation_effect : Word → Effect
operation_effect Star = record { need = 1; peak = 9; back = 6; exit = Some (pos 0, pos 0) }
operation_effect word = record { need = 1; peak = 1; back = 0; exit = Some (pos 0, pos 0) }

abbrev pub number_effect : ℕ → Effect
number_effect number = operation_effect (operation_word (number % 4))

abbrev pub effects_to : ℕ → ℕ → List Effect
effects_to seed count = for_each (λ definition. number_effect (number_at seed (suc definition))) count

-- MAIN takes the most where it prints
abbrev pub main_effect : Effect
main_effect = record { need = 0; peak = 15; back = 12; exit = Some (pos 0, pos 0) }

abbrev pub made_certificate : ℕ → ℕ → Cert
made_certificate seed count = record { effects = effects_to seed count ++ main_effect ∷ []; shared = main_effect; heads = [] }
