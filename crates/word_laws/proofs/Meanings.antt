-- Words that stand in code do their meaning and keep their bounds.
use Rattle.std.proofs.Common.{◌∙◌, ◌≡◌, ℕ, suc, ◌+◌, ◌-◌, ◌≤◌, true, false, List, [], ◌∷◌, length, Option, pos, refl, ap, subst, arith}
use Rattle.std.specs.Prelude.{map}
use Rattle.j1_table.specs.Instruction.{decoded}
use Rattle.word_table.specs.declared.word.Word.{Word}
use Rattle.word_table.specs.declared.word.Word.TheVariants.{Base, Here, Decimal, Hex, RFrom, RFetch, Index, OuterIndex, Unloop}
use Rattle.word_table.specs.Table.{entry_of, cells_of, cells_from}
use Rattle.forth_program.specs.State.{Entry, Cell, Loop, Halted, InputEnded, Outside, Underflow, Unbalanced, Left, Outcome, Goes, Ends}
use Rattle.forth_program.specs.Step.{word_step}
use Rattle.j1_simulator.specs.OpenMachine.{open_storage}
use Rattle.j1_simulator.specs.Run.{run}
use Rattle.word_laws.specs.Rings.{BeforeEach}
use Rattle.word_laws.specs.Bounds.{StaysWithin}
use Rattle.word_laws.specs.Standing.{return_places, standing_as, HasCome, StandIn}
use Rattle.word_laws.specs.Words.{stands_plain, finds_entries, return_need, WordsDoTheirMeaning, WordsKeepTheirBounds, WordsEndWithinBounds}
use Rattle.word_laws.proofs.Rows.{instructions_of, instructions_are, HasAll, when}
use Rattle.word_laws.proofs.Walk.{word_stays}
use Rattle.word_laws.proofs.WordWalks.{words_stay, ends_stay}
use Rattle.word_laws.proofs.WordRows.{word_row, Row}
use Rattle.word_laws.proofs.Needs.{fails, finds}
use Rattle.word_laws.proofs.CellRows.{MayEnd, has_all, row_comes, row_stays, row_ends, within_widens, each_widens}

-- an end that the machine has
may_end : (x : Outcome) → fails x ≡ false → MayEnd x
may_end (Goes s) e = tt
may_end (Ends (Halted status) world) e = (_, refl)
may_end (Ends InputEnded world) e = (_, refl)
may_end (Ends (Outside address) world) e = (_, refl)
may_end (Ends Underflow world) e = let no : ⊥ = cc in absurd no
may_end (Ends Unbalanced world) e = let no : ⊥ = cc in absurd no
may_end (Ends (Left address) world) e = let no : ⊥ = cc in absurd no

-- entries that are found have their places
return_places_found : (word : Word) (es : List Entry) (base : List (Option ℕ)) → finds_entries word es ≡ true → return_need word ≤ length (return_places es base)
return_places_found RFrom (Cell x ∷ es) base e = omega arith
return_places_found RFrom [] base e = let no : ⊥ = cc in absurd no
return_places_found RFrom (Loop l i ∷ es) base e = let no : ⊥ = cc in absurd no
return_places_found RFetch (Cell x ∷ es) base e = omega arith
return_places_found RFetch [] base e = let no : ⊥ = cc in absurd no
return_places_found RFetch (Loop l i ∷ es) base e = let no : ⊥ = cc in absurd no
return_places_found Index (Loop l i ∷ es) base e = omega arith
return_places_found Index [] base e = let no : ⊥ = cc in absurd no
return_places_found Index (Cell x ∷ es) base e = let no : ⊥ = cc in absurd no
return_places_found Unloop (Loop l i ∷ es) base e = omega arith
return_places_found Unloop [] base e = let no : ⊥ = cc in absurd no
return_places_found Unloop (Cell x ∷ es) base e = let no : ⊥ = cc in absurd no
return_places_found OuterIndex (Loop l i ∷ Loop m j ∷ es) base e = omega arith
return_places_found OuterIndex [] base e = let no : ⊥ = cc in absurd no
return_places_found OuterIndex (Cell x ∷ es) base e = let no : ⊥ = cc in absurd no
return_places_found OuterIndex (Loop l i ∷ []) base e = let no : ⊥ = cc in absurd no
return_places_found OuterIndex (Loop l i ∷ Cell x ∷ es) base e = let no : ⊥ = cc in absurd no
return_places_found word es base e = omega arith

as_many : (data_start : ℕ) (word : Word) → length (instructions_of data_start word) ≡ length (cells_of word)
as_many data_start Base = refl
as_many data_start Here = refl
as_many data_start Decimal = refl
as_many data_start Hex = refl
as_many data_start word = all (cells_of word)
  where
    all : (cells : List ℕ) → length (map decoded cells) ≡ length cells
    all [] = refl
    all (cell ∷ cells) = ap suc (all cells)

-- a word's instructions stand where its cells stand
word_stands : (data_start : ℕ) (word : Word) (code : List ℕ) (pc next : ℕ) → StandIn code pc (cells_from data_start word) next → HasAll code pc (instructions_of data_start word) next
word_stands data_start word code pc next h = subst (λ is. HasAll code pc is next) (instructions_are data_start word) (has_all code (cells_from data_start word) pc next h)

parts : (k n : ℕ) → k ≤ n → n ≡ (n - k) + k
parts k n h = omega arith

pub words_do_their_meaning : WordsDoTheirMeaning
words_do_their_meaning p word m next s r =
    subst (λ n. HasCome m.code next m.returns (run open_storage s.world.data_start n (standing_as s m)) (word_step p word s.cells s.entries s)) (as_many s.world.data_start word)
    (row_comes s.world.data_start m.code r.code_size false (instructions_of s.world.data_start word) m.pc next s.cells (return_places s.entries m.returns) m.returns m.data_above m.return_above s.world
    (length s.cells - (entry_of word).need) (entry_of word).need (length (return_places s.entries m.returns) - return_need word) (return_need word)
    ((entry_of word).need + (entry_of word).peak) (return_need word + (entry_of word).back) (word_step p word s.cells s.entries s)
    (parts (entry_of word).need (length s.cells) r.need)
    (parts (return_need word) (length (return_places s.entries m.returns)) (return_places_found word s.entries m.returns r.finds))
    (when (stands_plain word) (word_stays s.world.data_start false word ≡ true) r.plain (words_stay s.world.data_start word))
    (word_stands s.world.data_start word m.code m.pc next r.in_code)
    (when (stands_plain word) (Row p s.work s.callers s.world m.code r.code_size m.returns m.pc m.data_above m.return_above (pos (length s.cells)) (pos (length (return_places s.entries m.returns))) word s.cells s.entries) r.plain
    (word_row p s.work s.callers s.world m.code r.code_size m.returns m.pc m.data_above m.return_above (pos (length s.cells)) (pos (length (return_places s.entries m.returns))) word s.cells s.entries refl r.cells r.entries r.applies))
    (may_end (word_step p word s.cells s.entries s)
    (when (stands_plain word) (fails (word_step p word s.cells s.entries s) ≡ false) r.plain (finds p s word s.cells s.entries r.need r.finds))))

pub words_keep_their_bounds : WordsKeepTheirBounds
words_keep_their_bounds word m next s r =
    let c = parts (entry_of word).need (length s.cells) r.need in
    let b = parts (return_need word) (length (return_places s.entries m.returns)) (return_places_found word s.entries m.returns r.finds) in
    subst
    (λ n.
    BeforeEach
    (StaysWithin (length s.cells - (entry_of word).need) (length s.cells + (entry_of word).peak)
    (length (return_places s.entries m.returns) - return_need word) (length (return_places s.entries m.returns) + (entry_of word).back)) s.world.data_start n
    (standing_as s m)) (as_many s.world.data_start word)
    (each_widens s.world.data_start _ _ _ _ _ _ _ _ (length (instructions_of s.world.data_start word)) (standing_as s m) (omega arith) (omega (arith, c)) (omega arith) (omega (arith, b))
    (row_stays s.world.data_start m.code r.code_size false (instructions_of s.world.data_start word) m.pc next s.cells (return_places s.entries m.returns) m.data_above m.return_above s.world
    (length s.cells - (entry_of word).need) (entry_of word).need (length (return_places s.entries m.returns) - return_need word) (return_need word)
    ((entry_of word).need + (entry_of word).peak) (return_need word + (entry_of word).back) c b
    (when (stands_plain word) (word_stays s.world.data_start false word ≡ true) r.plain (words_stay s.world.data_start word))
    (word_stands s.world.data_start word m.code m.pc next r.in_code)))

pub words_end_within_bounds : WordsEndWithinBounds
words_end_within_bounds p word m next s end world r ends =
    let c = parts (entry_of word).need (length s.cells) r.need in
    let b = parts (return_need word) (length (return_places s.entries m.returns)) (return_places_found word s.entries m.returns r.finds) in
    let has = word_stands s.world.data_start word m.code m.pc next r.in_code in
    let w = standing_as s m in
    let come = subst (HasCome m.code next m.returns (run open_storage s.world.data_start (length (cells_of word)) w)) ends (words_do_their_meaning p word m next s r) in
    let many = as_many s.world.data_start word in
    subst
    (λ n.
    StaysWithin (length s.cells - (entry_of word).need) (length s.cells + (entry_of word).peak)
    (length (return_places s.entries m.returns) - return_need word) (length (return_places s.entries m.returns) + (entry_of word).back)
    (run open_storage s.world.data_start n w)) many
    (within_widens _ _ _ _ _ _ _ _ (omega arith) (omega (arith, c)) (omega arith) (omega (arith, b)) (run open_storage s.world.data_start (length (instructions_of s.world.data_start word)) w)
    (row_ends s.world.data_start m.code r.code_size true refl (instructions_of s.world.data_start word) m.pc next s.cells (return_places s.entries m.returns) m.data_above m.return_above s.world
    (length s.cells - (entry_of word).need) (entry_of word).need (length (return_places s.entries m.returns) - return_need word) (return_need word)
    ((entry_of word).need + (entry_of word).peak) (return_need word + (entry_of word).back) come.0 c b
    (when (stands_plain word) (word_stays s.world.data_start true word ≡ true) r.plain (ends_stay s.world.data_start p s word s.cells s.entries end world r.need ends))
    has (ap (λ n. (run open_storage s.world.data_start n w).stop) many ∙ come.2.stop_is)))
