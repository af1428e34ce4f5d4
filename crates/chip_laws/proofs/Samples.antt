-- Small programs with GO on the chip, with what comes back: computed.
use Rattle.std.proofs.Common.{◌≡◌, ℕ, List, [], ◌∷◌, Some, refl}
use Rattle.std.specs.Prelude.{replicate}
use Rattle.j1_simulator.specs.declared.ends.End.TheVariants as chip
use Rattle.j1_simulator.specs.Step.{By}
use Rattle.word_table.specs.declared.word.Word.TheVariants.{Emit, Go}
use Rattle.forth_program.specs.Tree.{Node, Nodes, Literal, Plain, Call, Empty, Then}
use Rattle.forth_program.specs.Program.{SourceProgram}
use Rattle.code_layout.specs.Places.{place_by}
use Rattle.code_layout.specs.Returning.{run_returning}
use Rattle.code_layout.specs.ReturningChip.{RoundReturn, RoundConfiguration, round_returning_run}

abbrev items : List Node → Nodes
items [] = Empty
items (node ∷ nodes) = Then node (items nodes)

abbrev program : List Nodes → ℕ → SourceProgram
program bodies main = record { names = []; bodies = bodies; main_body = main; tokens = []; data_start = 8192; first_space = []; source_tokens = 16 }

-- it prints a byte, and leaves 77 in all places of the data ring and 88 in all of the return ring that are not kept
abbrev prints : ℕ → RoundReturn
prints byte = record { back = record { space = []; input = []; printed = byte ∷ [] }; t = 99; data_cells = replicate 32 77; return_cells = replicate 32 88 }

abbrev ends_with : List ℕ → RoundConfiguration → Type 0
ends_with printed w = (w.printed ≡ printed) × (w.stop ≡ Some (By (chip.Halted 0)))

-- : MAIN 65 8200 GO 66 EMIT EMIT ; with 65 in its place meanwhile
below_the_address : ends_with (72 ∷ 66 ∷ 65 ∷ []) (round_returning_run [] (program (items (Literal 65 ∷ Literal 8200 ∷ Plain Go ∷ Literal 66 ∷ Plain Emit ∷ Plain Emit ∷ []) ∷ []) 0) (prints 72 ∷ []) [] 40)
unfolding round_returning_run run_returning place_by
below_the_address = (refl, refl)

-- : SAY 8200 GO ; : MAIN 65 SAY SAY EMIT ; where GO is the last item, twice
last_item : ends_with (72 ∷ 73 ∷ 65 ∷ [])
    (round_returning_run [] (program (items (Literal 8200 ∷ Plain Go ∷ []) ∷ items (Literal 65 ∷ Call 0 ∷ Call 0 ∷ Plain Emit ∷ []) ∷ []) 1) (prints 72 ∷ prints 73 ∷ []) [] 60)
unfolding round_returning_run run_returning place_by
last_item = (refl, refl)

-- the same, where the second does not come back
comes_back_once : (round_returning_run [] (program (items (Literal 8200 ∷ Plain Go ∷ []) ∷ items (Literal 65 ∷ Call 0 ∷ Call 0 ∷ Plain Emit ∷ []) ∷ []) 1) (prints 72 ∷ []) [] 60).printed ≡ 72 ∷ []
unfolding round_returning_run run_returning place_by
comes_back_once = refl
