-- Bounds and refusals that the checker computes from the definitions.
use Rattle.std.proofs.Common.{◌≡◌, ℕ, zero, suc, List, [], ◌∷◌, Some, None, refl, true, false}
use Rattle.std.specs.Prelude.{nat_lt}
use Rattle.word_table.specs.declared.word.Word.TheVariants.{Emit, Dot, Index, Key, TypeOut, Spaces, Fill, Execute, Base, Store, Fetch, Unloop}
use Rattle.forth_program.specs.declared.item.TextKind.TheVariants as text
use Rattle.forth_program.specs.Tree.{Node, Nodes, Literal, Plain, Call, Text, If, Until, Do, QDo, Case, Leave, Exit, Empty, Then, NoArm, Arm}
use Rattle.forth_program.specs.Program.{SourceProgram}
use Rattle.step_certifier.specs.declared.bound.BoundCause.TheVariants as cause
use Rattle.step_certifier.specs.Turns.{turns}
use Rattle.forth_program.specs.State.{Halted}
use Rattle.forth_program.specs.Step.{step}
use Rattle.forth_program.specs.Run.{source_run, steps, end_of}
use Rattle.forth_program.specs.Price.{price, spent}
use Rattle.step_certifier.proofs.Entries.{LevelProgram}
use Rattle.step_certifier.specs.Bound.{Bounded, Refused, step_bound}

abbrev items : List Node → Nodes
items [] = Empty
items (node ∷ nodes) = Then node (items nodes)

abbrev program : List Nodes → ℕ → SourceProgram
program bodies main = record { names = []; bodies = bodies; main_body = main; tokens = []; data_start = 8192; first_space = []; source_tokens = 0 }

abbrev main : List Node → SourceProgram
main nodes = program (items nodes ∷ []) 0

-- 10 0 DO LOOP
counts_ten : step_bound (main (Literal 10 ∷ Literal 0 ∷ Do Empty false ∷ [])) ≡ Bounded 141
counts_ten = refl

-- 10 0 DO I . LOOP
prints_ten : step_bound (main (Literal 10 ∷ Literal 0 ∷ Do (items (Plain Index ∷ Plain Dot ∷ [])) false ∷ [])) ≡ Bounded 1200191
prints_ten = refl

-- BEGIN KEY EMIT 0 UNTIL
waits : step_bound (main (Until (items (Plain Key ∷ Plain Emit ∷ Literal 0 ∷ [])) ∷ [])) ≡ Refused 0 cause.BeginLoop
waits = refl

-- 0 10 DO I . -5 +LOOP
counts_down : step_bound (main (Literal 0 ∷ Literal 10 ∷ Do (items (Plain Index ∷ Plain Dot ∷ Literal 65531 ∷ [])) true ∷ [])) ≡ Bounded 360114
counts_down = refl

-- the oracle's numbers of turns
turns_of_steps : (turns 10 0 3 ≡ Some 4) × (turns 0 10 65531 ≡ Some 3) × (turns 5 5 65535 ≡ Some 1) × (turns 5 5 1 ≡ Some 65536) × (turns 32768 0 32768 ≡ Some 2)
turns_of_steps = (refl, refl, refl, refl, refl)

-- : F F ; : G F ; : MAIN 1 EMIT ; : MAIN G ;
unreached : step_bound (program (items (Call 0 ∷ []) ∷ items (Call 0 ∷ []) ∷ items (Literal 1 ∷ Plain Emit ∷ []) ∷ []) 2) ≡ Bounded 14
unreached = refl

recursive : step_bound (program (items (Call 0 ∷ []) ∷ items (Call 0 ∷ []) ∷ items (Call 1 ∷ []) ∷ []) 2) ≡ Refused 0 cause.Recursion
recursive = refl

-- IF 1 EMIT ELSE 1 THEN, between literals
branches : step_bound (main (Literal 1 ∷ If (items (Literal 1 ∷ Plain Emit ∷ [])) (items (Literal 1 ∷ [])) ∷ [])) ≡ Bounded 18
branches = refl

-- S" abc" TYPE, 3 SPACES, -1 SPACES, TYPE
counted : (step_bound (main (Text text.Address 8200 3 ∷ Plain TypeOut ∷ [])) ≡ Bounded 291) × (step_bound (main (Literal 3 ∷ Plain Spaces ∷ [])) ≡ Bounded 171) × (step_bound (main (Literal 65535 ∷ Plain Spaces ∷ [])) ≡ Bounded
    51) × (step_bound (main (Plain TypeOut ∷ [])) ≡ Refused 0 cause.OpenBounds)
counted = (refl, refl, refl, refl)

-- 5 5 ?DO LOOP
left_out : step_bound (main (Literal 5 ∷ Literal 5 ∷ QDo Empty false ∷ [])) ≡ Bounded 25
left_out = refl

-- 1 CASE 1 OF 65 EMIT ENDOF 2 OF 5 SPACES ENDOF 66 EMIT ENDCASE
cases : step_bound (main (Literal 1 ∷ Case (Arm (items (Literal 1 ∷ [])) (items (Literal 65 ∷ Plain Emit ∷ [])) (Arm (items (Literal 2 ∷ [])) (items (Literal 5 ∷ Plain Spaces ∷ [])) NoArm)) (items (Literal 66 ∷ Plain Emit ∷ []))
    ∷ [])) ≡ Bounded 266
cases = refl

-- the cause that stands first
first_cause : (step_bound (main (Do (items (Plain Execute ∷ [])) false ∷ [])) ≡ Refused 0 cause.OpenBounds) × (step_bound (main (Plain Execute ∷ Plain Fill ∷ [])) ≡ Refused 0 cause.Execute)
first_cause = (refl, refl)

-- four loops of 65536 turns, one in the other
abbrev nested : ℕ → Nodes
nested zero = Empty
nested (suc n) = items (Literal 0 ∷ Literal 0 ∷ Do (nested n) false ∷ [])

too_large : step_bound (program (nested 4 ∷ []) 0) ≡ Refused 0 cause.TooLarge
too_large = refl

-- Why the law asks for level entries: 20 0 DO 1 0 DO BASE @ IF 0 BASE ! UNLOOP THEN LOOP EXIT 20 +LOOP, on a BASE that is not 0.
-- It lacks nothing and ends well, but its inner loop turns on the entry of the outer one, twenty times in place of once
abbrev unlevel : SourceProgram
unlevel = record {
  names = [];
  bodies = items (Literal 20 ∷ Literal 0 ∷ Do (items (Literal 1 ∷ Literal 0 ∷ Do (items (Plain Base ∷ Plain Fetch ∷ If (items (Literal 0 ∷ Plain Base ∷ Plain Store ∷ Plain Unloop ∷ [])) Empty ∷ [])) false ∷ Exit ∷ Literal 20 ∷ [])) true
      ∷ []) ∷ [];
  main_body = 0;
  tokens = [];
  data_start = 8192;
  first_space = 10 ∷ [];
  source_tokens = 0;
}

unlevel_ends : end_of (source_run unlevel [] 100) ≡ Some (Halted 0)
unfolding source_run steps step
unlevel_ends = refl

unlevel_bound : step_bound unlevel ≡ Bounded 84
unlevel_bound = refl

unlevel_costs_more : nat_lt 84 (price unlevel [] 100) ≡ true
unfolding price spent step
unlevel_costs_more = refl

-- : MAIN 10 0 DO I IF LEAVE THEN LOOP ; keeps them level
abbrev leaves_early : SourceProgram
leaves_early = main (Literal 10 ∷ Literal 0 ∷ Do (items (Plain Index ∷ If (items (Leave ∷ [])) Empty ∷ [])) false ∷ [])

level : LevelProgram leaves_early (λ d. true)
level zero = (Some 0, (Some 0, refl, (Some 0, refl, (Some 0, (Some 1, (Some 1, refl, (Some 1, ((None, refl, tt), refl), refl)), (refl, refl)), refl))), refl)
level (suc d) = (Some 0, refl, refl)
