-- The run of a made program.
use Rattle.std.proofs.Common.{◌≡◌, ℕ, zero, suc, ◌+◌, ◌*◌, ◌%◌, ◌<◌, ◌≤◌, false, List, [], ◌∷◌, refl, ap, sym, subst, ◌∙◌, arith}
use Rattle.std.specs.Prelude.{bit_xor}
use Rattle.std.proofs.lemmas.Nat.{xor_lt}
use Rattle.cell_math.specs.Cell.{sum_of, difference_of}
use Rattle.word_table.specs.declared.word.Word.TheVariants.{UDot}
use Rattle.forth_program.specs.Tree.{Literal, Plain, Call, Empty, Then}
use Rattle.forth_program.specs.State.{Work, Todo, World, State, Reply, Gives, Stops, ◌▸◌, Halted, Goes, Ends}
use Rattle.forth_program.specs.Program.{SourceProgram, body_of}
use Rattle.forth_program.specs.Step.{before, on_cells, step}
use Rattle.forth_program.specs.Run.{and_then, steps, first_world, first_state, source_run, world_of, end_of}
use Rattle.forth_program.specs.Price.{step_price, spent_after, spent, price}
use Rattle.forth_program.specs.PicturedOutput.{print_number}
use Rattle.made_sources.specs.MadeProgram.{number_at, operation_word, number_body, calls_and_print, made_program}
use Rattle.made_sources.specs.Laws.{MadeProgramsHaltWell}
use Rattle.made_sources.proofs.Lists.{behind_all, among_all}
use Rattle.made_sources.proofs.Printing.{Given, IsReady, prints}

-- k steps from a state halt with 0, take no input, and cost at most so much
record Halts (p : SourceProgram) (input : List ℕ) (k most : ℕ) (s : State) : Type 0 where
  world : World
  ends : steps p k s ≡ Ends (Halted 0) world
  keeps : world.input ≡ input
  cheap : (total : ℕ) → spent p total k s ≤ total + most

-- one step before
stepped : (p : SourceProgram) (input : List ℕ) (k most cost : ℕ) (s t : State) → step p s ≡ Goes t → step_price s ≤ cost → Halts p input k most t → Halts p input (suc k) (cost + most) s
unfolding steps spent
stepped p input k most cost s t goes little rest = record {
  world = rest.world;
  ends = ap (λ o. and_then o (steps p k)) goes ∙ rest.ends;
  keeps = rest.keeps;
  cheap = λ total.
      subst (λ o. spent_after (total + step_price s) o (spent p (total + step_price s) k) ≤ total + (cost + most)) (sym goes)
      (let c = rest.cheap (total + step_price s) in omega (arith, c, little));
}

ended : (p : SourceProgram) (input : List ℕ) (s : State) (w : World) → step p s ≡ Ends (Halted 0) w → w.input ≡ input → step_price s ≤ 1 → Halts p input 1 1 s
unfolding steps spent
ended p input s w ends keeps little = record {
  world = w;
  ends = ap (λ o. and_then o (steps p 0)) ends;
  keeps = keeps;
  cheap = λ total. subst (λ o. spent_after (total + step_price s) o (spent p (total + step_price s) 0) ≤ total + 1) (sym ends) (omega (arith, little));
}

-- ---- an operation

abbrev result_of : ℕ → ℕ → ℕ → ℕ
result_of zero x y = sum_of x y
result_of (suc zero) x y = bit_xor x y
result_of (suc (suc zero)) x y = difference_of x y
result_of (suc (suc (suc kind))) x y = x * y % 65536

result_fits : (kind x y : ℕ) → x < 65536 → y < 65536 → result_of kind x y < 65536
result_fits zero x y h k = omega arith
result_fits (suc zero) x y h k = xor_lt 16 x y h k
result_fits (suc (suc zero)) x y h k = omega arith
result_fits (suc (suc (suc kind))) x y h k = omega arith

-- four steps a call, and two more
abbrev steps_for : ℕ → ℕ
steps_for zero = 2
steps_for (suc count) = suc (suc (suc (suc (steps_for count))))

abbrev cost_for : ℕ → ℕ
cost_for zero = 120001
cost_for (suc count) = 1 + (2 + (1200 + (1 + cost_for count)))

module _ (p : SourceProgram) (input : List ℕ) where
  -- a definition that stands over MAIN
  abbrev over : List Work → List Work → List ℕ → World → State
  over work below cells w = record { work = work; entries = []; callers = record { work = below; entries = [] } ∷ []; cells = cells; world = w }

  abbrev in_main : List Work → List ℕ → World → State
  in_main work cells w = record { work = work; entries = []; callers = []; cells = cells; world = w }

  operated : (kind x v : ℕ) (below : List Work) (w : World) → step p (over (Todo (Plain (operation_word kind)) ∷ []) below (v ∷ x ∷ []) w) ≡ Goes (over [] below (result_of kind x v ∷ []) w)
  unfolding step
  operated zero x v below w = refl
  operated (suc zero) x v below w = refl
  operated (suc (suc zero)) x v below w = refl
  operated (suc (suc (suc kind))) x v below w = refl

  operation_price : (kind x v : ℕ) (below : List Work) (w : World) → step_price (over (Todo (Plain (operation_word kind)) ∷ []) below (v ∷ x ∷ []) w) ≤ 1200
  operation_price zero x v below w = omega arith
  operation_price (suc zero) x v below w = omega arith
  operation_price (suc (suc zero)) x v below w = omega arith
  operation_price (suc (suc (suc kind))) x v below w = omega arith

  -- a call of a definition, and its run
  called_once : (definition v x k most : ℕ) (below : List Work) (w : World) → body_of p definition ≡ number_body v → Halts p input k most (in_main below (result_of (v % 4) x v ∷ []) w) →
      Halts p input (suc (suc (suc (suc k)))) (1 + (2 + (1200 + (1 + most)))) (in_main (Todo (Call definition) ∷ below) (x ∷ []) w)
  unfolding step
  called_once definition v x k most below w body rest =
      stepped p input _ _ 1 _ (over (before (number_body v) []) below (x ∷ []) w) (ap (λ b. Goes (over (before b []) below (x ∷ []) w)) body) (omega arith)
      (stepped p input _ _ 2 _ (over (Todo (Plain (operation_word (v % 4))) ∷ []) below (v ∷ x ∷ []) w) refl (omega arith)
      (stepped p input _ _ 1200 _ (over [] below (result_of (v % 4) x v ∷ []) w) (operated (v % 4) x v below w) (operation_price (v % 4) x v below w)
      (stepped p input _ _ 1 _ (in_main below (result_of (v % 4) x v ∷ []) w) refl (omega arith) rest)))

  -- the print and the end of MAIN
  finished : (x : ℕ) (w : World) → Given (print_number x false w) (λ _ v. v.input ≡ input) → Halts p input 2 120001 (in_main (Todo (Plain UDot) ∷ []) (x ∷ []) w)
  unfolding step
  finished x w given = by_print (print_number x false w) refl given
    where
      by_print : (r : Reply (Unit {0})) → print_number x false w ≡ r → Given r (λ _ v. v.input ≡ input) → Halts p input 2 120001 (in_main (Todo (Plain UDot) ∷ []) (x ∷ []) w)
      by_print (Gives u v) same keeps =
          stepped p input 1 1 120000 (in_main (Todo (Plain UDot) ∷ []) (x ∷ []) w) (in_main [] [] v)
          (ap (λ r. on_cells (r ▸ λ _. Gives []) (in_main [] (x ∷ []) w)) same) (omega arith)
          (ended p input (in_main [] [] v) v refl keeps (omega arith))
      by_print (Stops end v) same none = absurd none

  calls_halt : (seed count definition last x : ℕ) (w : World) → definition + count ≡ last → ((d : ℕ) → d < last → body_of p d ≡ number_body (number_at seed (suc d))) → x < 65536 → IsReady input 8288 w →
      Halts p input (steps_for count) (cost_for count) (in_main (before (calls_and_print count definition) []) (x ∷ []) w)
  calls_halt seed zero definition last x w sum bodies small ready = finished x w (prints input x 8288 w small ready)
  calls_halt seed (suc count) definition last x w sum bodies small ready =
      let v = number_at seed (suc definition) in
      called_once definition v x (steps_for count) (cost_for count) (before (calls_and_print count (definition + 1)) []) w (bodies definition (omega arith))
      (calls_halt seed count (definition + 1) last (result_of (v % 4) x v) w (omega arith) bodies (result_fits (v % 4) x v small (omega arith)) ready)

cost_is : (count : ℕ) → cost_for count ≡ 1204 * count + 120001
cost_is zero = refl
cost_is (suc count) = let r = cost_is count in omega arith

halts : (seed count : ℕ) (input : List ℕ) → Halts (made_program seed count) input (suc (steps_for count)) (2 + cost_for count) (first_state (made_program seed count) input)
unfolding step
halts seed count input =
    let p = made_program seed count in
    let w = first_world p input in
    let main = Then (Literal 1) (calls_and_print count 0) in
    let start : first_state p input ≡ in_main p input (before main []) [] w = ap (λ b. in_main p input (before b []) [] w) (behind_all (λ d. number_body (number_at seed (suc d))) Empty count main []) in
    subst (Halts p input (suc (steps_for count)) (2 + cost_for count)) (sym start)
    (stepped p input (steps_for count) (cost_for count) 2 (in_main p input (before main []) [] w) (in_main p input (before (calls_and_print count 0) []) (1 ∷ []) w) refl (omega arith)
    (calls_halt p input seed count 0 count 1 w (omega arith) (λ d inside. among_all (λ d. number_body (number_at seed (suc d))) Empty count d (main ∷ []) inside) (omega arith)
    (record { start = refl; base = refl; holds = refl; room = omega arith; keeps = refl })))

pub programs_halt : MadeProgramsHaltWell
unfolding source_run price
programs_halt seed count input small =
    let p = made_program seed count in
    let h = halts seed count input in
    let k = suc (steps_for count) in
    record {
      steps = k;
      ends = ap end_of h.ends;
      takes_nothing = ap (λ o. (world_of o).input) h.ends ∙ h.keeps;
      cheap = (let c = h.cheap 8 in let e = cost_is count in omega (arith, c));
    }
