-- The cells of a number do what it means and keep its bounds.
use Rattle.std.proofs.Common.{◌≡◌, ℕ, ◌+◌, ◌-◌, ◌<◌, Bool, true, false, nat_lt, List, [], ◌∷◌, length, Option, ℤ, pos, ◌+ℤ◌, refl, ap, ◌∙◌, subst, arith}
use Rattle.std.specs.Prelude.{if◌then◌else◌}
use Rattle.j1_table.specs.declared.instr.Instr.{Instr}
use Rattle.j1_table.specs.declared.instr.Instr.TheVariants.{Literal}
use Rattle.j1_table.specs.Instruction.{decoded}
use Rattle.forth_program.specs.State.{World}
use Rattle.forth_program.specs.Step.{IsLiteral, act}
use Rattle.j1_simulator.specs.Effect.{following}
use Rattle.j1_simulator.specs.OpenMachine.{rest, open_storage}
use Rattle.j1_simulator.specs.Run.{run}
use Rattle.word_laws.specs.Rings.{BeforeEach}
use Rattle.word_laws.specs.Bounds.{StaysWithin}
use Rattle.word_laws.specs.Standing.{return_places, standing, standing_as, HasCome, StandIn, machine_at}
use Rattle.word_laws.specs.Numbers.{NumbersDoTheirMeaning, NumbersKeepTheirBounds}
use Rattle.word_laws.proofs.Rows.{literal_of, feed, past, data_past, return_past, HasAll}
use Rattle.word_laws.proofs.Walk.{stays}
use Rattle.word_laws.proofs.CellRows.{row_comes, row_stays, each_widens}

-- the instructions of a number, by its size
abbrev number_instructions : Bool → ℕ → List Instr
number_instructions true value = Literal value ∷ []
number_instructions false value = Literal (0xffff - value) ∷ decoded 0x6600 ∷ []

number_walk : (small : Bool) (value : ℕ) → stays false 1 0 (number_instructions small value) 0 0 0 0 ≡ true
number_walk true value = refl
number_walk false value = refl

number_has_all : (small : Bool) (value : ℕ) (code : List ℕ) (pc q : ℕ) → StandIn code pc (if small then (0x8000 + value) ∷ [] else (0x8000 + (0xffff - value)) ∷ 0x6600 ∷ []) q → HasAll code pc (number_instructions small value) q
number_has_all true value code pc q h = ((ap decoded h.0 ∙ literal_of value, h.1), h.2)
number_has_all false value code pc q h = ((ap decoded h.0 ∙ literal_of (0xffff - value), h.1), ((ap decoded h.2.0, h.2.1), h.2.2))

number_size : (small : Bool) (value : ℕ) → length (number_instructions small value) ≡ length (if small then (0x8000 + value) ∷ [] else (0x8000 + (0xffff - value)) ∷ 0x6600 ∷ [])
number_size true value = refl
number_size false value = refl

inverted_twice : (value : ℕ) → value < 0x10000 → 0xffff - (0xffff - value) ≡ value
inverted_twice value h = omega arith

-- a number on the data cells
number_row : (small : Bool) (value : ℕ) → value < 0x10000 → (data_start : ℕ) (code : List ℕ) (pc : ℕ) (c : List ℕ) (r da ra : List (Option ℕ)) (d b : ℤ) (o : World) →
    (da' : List (Option ℕ)) × (ra' : List (Option ℕ))
    × (feed data_start (number_instructions small value) (standing (machine_at code pc r da ra) c d b o)
    ≡ standing (machine_at code (past pc (number_instructions small value)) r da' ra') (value ∷ c) (data_past d (number_instructions small value)) (return_past b (number_instructions small value)) o)
number_row true value h data_start code pc [] r da ra d b o = (_, _, refl)
number_row true value h data_start code pc (y ∷ c) r da ra d b o = (_, _, refl)
number_row false value h data_start code pc [] r da ra d b o =
    (rest da, ra, ap (λ x. standing (machine_at code (following (following pc)) r (rest da) ra) (x ∷ []) (d +ℤ pos 1 +ℤ pos 0) (b +ℤ pos 0 +ℤ pos 0) o) (inverted_twice value h))
number_row false value h data_start code pc (y ∷ c) r da ra d b o =
    (rest da, ra, ap (λ x. standing (machine_at code (following (following pc)) r (rest da) ra) (x ∷ y ∷ c) (d +ℤ pos 1 +ℤ pos 0) (b +ℤ pos 0 +ℤ pos 0) o) (inverted_twice value h))

nothing_more : (n : ℕ) → n ≡ n + 0
nothing_more n = omega arith

pub numbers_do_their_meaning : NumbersDoTheirMeaning
numbers_do_their_meaning p after value m next s r =
    let small = nat_lt value 0x8000 in
    subst (λ n. HasCome m.code next m.returns (run open_storage s.world.data_start n (standing_as s m)) (act p (IsLiteral value after) s)) (number_size small value)
    (row_comes s.world.data_start m.code r.code_size false (number_instructions small value) m.pc next s.cells (return_places s.entries m.returns) m.returns m.data_above m.return_above s.world
    (length s.cells) 0 (length (return_places s.entries m.returns)) 0 1 0 (act p (IsLiteral value after) s)
    (nothing_more (length s.cells)) (nothing_more (length (return_places s.entries m.returns))) (number_walk small value) (number_has_all small value m.code m.pc next r.in_code)
    (number_row small value r.is_cell s.world.data_start m.code m.pc s.cells (return_places s.entries m.returns) m.data_above m.return_above (pos (length s.cells)) (pos (length (return_places s.entries m.returns))) s.world) tt)

pub numbers_keep_their_bounds : NumbersKeepTheirBounds
numbers_keep_their_bounds value m next s r =
    let small = nat_lt value 0x8000 in
    subst
    (λ n.
    BeforeEach (StaysWithin (length s.cells) (length s.cells + 1) (length (return_places s.entries m.returns)) (length (return_places s.entries m.returns)))
    s.world.data_start n (standing_as s m)) (number_size small value)
    (each_widens s.world.data_start _ _ _ _ _ _ _ _ (length (number_instructions small value)) (standing_as s m) (omega arith) (omega arith) (omega arith) (omega arith)
    (row_stays s.world.data_start m.code r.code_size false (number_instructions small value) m.pc next s.cells (return_places s.entries m.returns) m.data_above m.return_above s.world
    (length s.cells) 0 (length (return_places s.entries m.returns)) 0 1 0
    (nothing_more (length s.cells)) (nothing_more (length (return_places s.entries m.returns))) (number_walk small value) (number_has_all small value m.code m.pc next r.in_code)))
