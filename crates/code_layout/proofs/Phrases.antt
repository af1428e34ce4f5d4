-- Words one after the other: their code does what they do.
use Rattle.std.proofs.Common.{◌≡◌, ℕ, ◌+◌, ◌-◌, ◌/◌, ◌≤◌, Bool, true, false, refl, List, [], ◌∷◌, ◌++◌, length, Option, sym, ap, ◌∙◌, subst, length-append}
use Rattle.std.specs.List.{list_all}
use Rattle.word_table.specs.declared.word.Word.{Word}
use Rattle.word_table.specs.declared.word.Word.TheVariants.{Depth, Base, Here, Decimal, Hex}
use Rattle.word_table.specs.Table.{entry_of, cells_of, cells_from}
use Rattle.forth_program.specs.State.{State, Outcome, Goes, Ends}
use Rattle.forth_program.specs.Program.{SourceProgram}
use Rattle.forth_program.specs.Step.{word_step}
use Rattle.forth_program.specs.Run.{and_then, lacks}
use Rattle.j1_simulator.specs.OpenMachine.{open_storage}
use Rattle.j1_simulator.specs.Run.{run}
use Rattle.word_laws.specs.Rings.{BeforeEach}
use Rattle.word_laws.specs.Bounds.{StaysWithin}
use Rattle.forth_program.specs.Cells.{AreCells, AreEntries, IsWorld}
use Rattle.word_laws.specs.Standing.{return_places, standing_as, HasCome, StandIn, machine_at}
use Rattle.word_laws.specs.Words.{stands_plain, return_need, CellsApply, IsReady}
use Rattle.code_layout.proofs.Machine.{Laws, Runs, both, stand_split, wider, runs_then}

-- the cells of words
abbrev pub phrase : List Word → List ℕ
phrase [] = []
phrase (word ∷ words) = cells_of word ++ phrase words

-- a word whose cells ask for nothing but data cells and return entries
abbrev pub is_free : Word → Bool
is_free Depth = false
is_free Base = false
is_free Here = false
is_free Decimal = false
is_free Hex = false
is_free word = stands_plain word

free_applies : (word : Word) (c : List ℕ) → is_free word ≡ true → (stands_plain word ≡ true) × CellsApply word c
free_applies Depth c e = absurd (let f : false ≡ true = e in cc)
free_applies Base c e = absurd (let f : false ≡ true = e in cc)
free_applies Here c e = absurd (let f : false ≡ true = e in cc)
free_applies Decimal c e = absurd (let f : false ≡ true = e in cc)
free_applies Hex c e = absurd (let f : false ≡ true = e in cc)
free_applies word c e = (e, tt)

-- it has the same cells wherever data space begins
free_cells : (data_start : ℕ) (word : Word) → is_free word ≡ true → cells_of word ≡ cells_from data_start word
free_cells data_start Base e = absurd (let f : false ≡ true = e in cc)
free_cells data_start Here e = absurd (let f : false ≡ true = e in cc)
free_cells data_start Decimal e = absurd (let f : false ≡ true = e in cc)
free_cells data_start Hex e = absurd (let f : false ≡ true = e in cc)
free_cells data_start word e = refl

abbrev on_state : Outcome → (State → Type 0) → Type 0
on_state (Goes s) holds = holds s
on_state (Ends end world) holds = Unit {0}

module _ (p : SourceProgram) (high return_high : ℕ) (base : List (Option ℕ)) where
  -- what words do
  abbrev pub outcome : List Word → State → Outcome
  outcome [] s = Goes s
  outcome (word ∷ words) s = and_then (word_step p word s.cells s.entries s) (outcome words)

  -- so many cells are enough for them
  abbrev pub CellsSuffice : List Word → State → Type 0
  CellsSuffice [] s = Unit {0}
  CellsSuffice (word ∷ words) s =
      (length s.cells + (entry_of word).peak ≤ high) × (length (return_places s.entries base) + (entry_of word).back ≤ return_high) × on_state (word_step p word s.cells s.entries s) (CellsSuffice words)

  module _ (laws : Laws) (code : List ℕ) (size : length code ≡ p.data_start / 2) where
    pub word_ready : (word : Word) (s : State) (pc next : ℕ) → stands_plain word ≡ true → CellsApply word s.cells → lacks (word_step p word s.cells s.entries s) ≡ false →
        StandIn code pc (cells_from p.data_start word) next → AreCells s.cells → AreEntries s.entries → s.world.data_start ≡ p.data_start → IsReady word code pc next s
    word_ready word s pc next plain applies sound stands cells entries starts =
        let met = (laws.word_needs p word s.cells s.entries s plain).0 sound in
        record {
          plain = plain;
          code_size = size ∙ ap (λ d. d / 2) (sym starts);
          in_code = subst (λ d. StandIn code pc (cells_from d word) next) (sym starts) stands;
          need = met.0;
          finds = met.1;
          cells = cells;
          entries = entries;
          applies = applies;
        }

    -- before each instruction of a word both stacks are within its peak and its back
    pub word_bounded : (word : Word) (s : State) (pc next : ℕ) (data_above return_above : List (Option ℕ)) → IsReady word code pc next s → s.world.data_start ≡ p.data_start →
        length s.cells + (entry_of word).peak ≤ high → length (return_places s.entries base) + (entry_of word).back ≤ return_high →
        BeforeEach (StaysWithin 0 high 0 return_high) p.data_start (length (cells_of word)) (standing_as s (machine_at code pc base data_above return_above))
    word_bounded word s pc next data_above return_above ready starts peak back =
        let low = length s.cells - (entry_of word).need in
        let most = length s.cells + (entry_of word).peak in
        let return_low = length (return_places s.entries base) - return_need word in
        let return_most = length (return_places s.entries base) + (entry_of word).back in
        wider laws p.data_start low most return_low return_most high return_high (length (cells_of word)) (standing_as s (machine_at code pc base data_above return_above)) peak back
        (subst
        (λ d.
        BeforeEach
        (StaysWithin (length s.cells - (entry_of word).need) (length s.cells + (entry_of word).peak)
        (length (return_places s.entries base) - return_need word) (length (return_places s.entries base) + (entry_of word).back)) d
        (length (cells_of word)) (standing_as s (machine_at code pc base data_above return_above)))
        starts (laws.word_bounds word (machine_at code pc base data_above return_above) next s ready))

    -- a word comes to what it does
    pub word_comes : (word : Word) (s : State) (pc next : ℕ) (data_above return_above : List (Option ℕ)) (o : Outcome) → IsReady word code pc next s → s.world.data_start ≡ p.data_start → word_step p word s.cells s.entries s ≡ o →
        HasCome code next base (run open_storage p.data_start (length (cells_of word)) (standing_as s (machine_at code pc base data_above return_above))) o
    word_comes word s pc next data_above return_above o ready starts e =
        subst (λ d. HasCome code next base (run open_storage d (length (cells_of word)) (standing_as s (machine_at code pc base data_above return_above))) o) starts
        (subst
        (HasCome code next base
        (run open_storage s.world.data_start (length (cells_of word)) (standing_as s (machine_at code pc base data_above return_above)))) e
        (laws.words p word (machine_at code pc base data_above return_above) next s ready))

    pub phrase_runs : (words : List Word) (s t : State) (pc next : ℕ) (data_above return_above : List (Option ℕ)) → list_all is_free words ≡ true → outcome words s ≡ Goes t → CellsSuffice words s →
        StandIn code pc (phrase words) next → AreCells s.cells → AreEntries s.entries → IsWorld s.world → s.world.data_start ≡ p.data_start →
        (above : List (Option ℕ)) × (above' : List (Option ℕ))
        × Runs p.data_start high return_high (length (phrase words)) (standing_as s (machine_at code pc base data_above return_above))
        (standing_as t (machine_at code next base above above'))
    phrase_runs [] s t pc next data_above return_above free leads enough stands cells entries world starts =
        let same : s ≡ t = cc in (
          data_above,
          return_above,
          record { makes = ap (λ x. standing_as x (machine_at code pc base data_above return_above)) same ∙ ap (λ q. standing_as t (machine_at code q base data_above return_above)) stands; bounds = tt },
        )
    phrase_runs (word ∷ words) s t pc next data_above return_above free leads enough stands cells entries world starts =
        first_runs (word_step p word s.cells s.entries s) refl leads enough.2
        (λ m q data_above return_above leads enough stands cells entries world starts.
        phrase_runs words m t q next data_above return_above (both (is_free word) (list_all is_free words) free).1 leads enough stands cells entries
        world starts)
      where
        first_runs : (o : Outcome) → word_step p word s.cells s.entries s ≡ o → and_then o (outcome words) ≡ Goes t → on_state o (CellsSuffice words) →
            ((m : State) (q : ℕ) (data_above return_above : List (Option ℕ)) → outcome words m ≡ Goes t → CellsSuffice words m →
            StandIn code q (phrase words) next → AreCells m.cells → AreEntries m.entries → IsWorld m.world → m.world.data_start ≡ p.data_start →
            (above : List (Option ℕ)) × (above' : List (Option ℕ))
            × Runs p.data_start high return_high (length (phrase words)) (standing_as m (machine_at code q base data_above return_above))
            (standing_as t (machine_at code next base above above'))) →
            (above : List (Option ℕ)) × (above' : List (Option ℕ))
            × Runs p.data_start high return_high (length (cells_of word ++ phrase words)) (standing_as s (machine_at code pc base data_above return_above))
            (standing_as t (machine_at code next base above above'))
        first_runs (Ends end world) e leads more later = absurd (cc)
        first_runs (Goes m) e leads more later =
            let split = stand_split code (cells_of word) (phrase words) pc next stands in
            let v = standing_as s (machine_at code pc base data_above return_above) in
            let applies = free_applies word s.cells (both (is_free word) (list_all is_free words) free).0 in
            let ready =
            word_ready word s pc split.0 applies.0 applies.1 (ap lacks e)
            (subst (λ cells. StandIn code pc cells split.0) (free_cells p.data_start word (both (is_free word) (list_all is_free words) free).0)
            split.1) cells entries starts in
            let come = word_comes word s pc split.0 data_above return_above (Goes m) ready starts e in
            let bounds = word_bounded word s pc split.0 data_above return_above ready starts enough.0 enough.1 in
            let kept = laws.word_cells p word s m applies.0 cells entries world e in
            let rest = later m split.0 come.0 come.1 leads more split.2 kept.cells kept.entries kept.world (kept.data_start ∙ starts) in (
              rest.0,
              rest.1,
              subst (λ n. Runs p.data_start high return_high n v (standing_as t (machine_at code next base rest.0 rest.1))) (sym (length-append (cells_of word) (phrase words)))
                  (runs_then laws p.data_start high return_high (length (cells_of word)) (length (phrase words)) v
                  (standing_as m (machine_at code split.0 base come.0 come.1)) (standing_as t (machine_at code next base rest.0 rest.1)) (record { makes = come.2; bounds = bounds })
                  rest.2),
            )
