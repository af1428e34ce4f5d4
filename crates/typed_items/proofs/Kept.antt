-- What keeps typed code.
use Rattle.std.proofs.Common.{◌≡◌, ℕ, ◌+◌, ◌-◌, ◌<◌, ◌≤◌, List, [], ◌∷◌, ◌++◌, length, sym, ap, ◌∙◌, arith, length-append}
use Rattle.std.proofs.lemmas.List.{get_or-append_right}
use Rattle.std.specs.Prelude.{slice_index}
use Rattle.word_table.specs.declared.word.Word.{Word}
use Rattle.j1_simulator.specs.Effect.{following}
use Rattle.forth_program.specs.Program.{SourceProgram}
use Rattle.word_laws.specs.Standing.{StandIn}
use Rattle.typed_items.specs.Items.{TypedItems, typed_cells}
use Rattle.typed_items.specs.Laws.{ItemsStand, DefinitionStands, KeepsBehind, TypedCodeIsKept}
use Rattle.typed_items.proofs.Built.{items_size_is}

module _ (code space after : List ℕ) (size : length code ≡ 0x1000) (kept : KeepsBehind space after) where
  same_cell : (at : ℕ) → 4284 ≤ at → slice_index (code ++ after) at ≡ slice_index (code ++ space) at
  same_cell at low =
      let same : slice_index after (at - 0x1000) ≡ slice_index space (at - 0x1000) = kept.same (at - 0x1000) (omega arith) in
      get_or-append_right code after 0x1000 at 0 size (omega arith) ∙ same
      ∙ sym (get_or-append_right code space 0x1000 at 0 size (omega arith))

  same_size : length (code ++ after) ≡ length (code ++ space)
  same_size = length-append code after ∙ ap (λ n. length code + n) kept.size ∙ sym (length-append code space)

  stand_kept : (cells : List ℕ) (at next : ℕ) → 4284 ≤ at → at + length cells < 0x2000 → StandIn (code ++ space) at cells next →
      StandIn (code ++ after) at cells next
  stand_kept [] at next low below h = h
  stand_kept (cell ∷ cells) at next low below h =
      let one : following at ≡ at + 1 = omega (arith, below) in
      let inside = h.1 in (
        same_cell at low ∙ h.0,
        omega (arith, inside, same_size),
        stand_kept cells (following at) next (omega (arith, one, low))
            (omega (arith, one, below)) h.2,
      )

  module _ (token : Word → ℕ) (place : ℕ → ℕ) where
    pub items_kept : (definitions at next : ℕ) (items : TypedItems) → ItemsStand (code ++ space) token place definitions at next items →
        ItemsStand (code ++ after) token place definitions at next items
    items_kept definitions at next items h =
        let sized = items_size_is (code ++ space) token place items at in
        let e = h.end in
        let below = h.high in
        record {
          typed = h.typed;
          nested = h.nested;
          low = h.low;
          end = h.end;
          high = h.high;
          cells = stand_kept (typed_cells token place at items) at next h.low (omega (arith, sized, e, below)) h.cells;
        }

    definition_kept : (p : SourceProgram) (d : ℕ) → DefinitionStands (code ++ space) token place p d →
        DefinitionStands (code ++ after) token place p d
    definition_kept p d h =
        let e = h.stand.end in
        let low = h.stand.low in
        let below = h.stand.high in
        record {
          items = h.items;
          end = h.end;
          are_body = h.are_body;
          stand = items_kept (length p.bodies) (place d) h.end h.items h.stand;
          returns = stand_kept (0x700C ∷ []) h.end (h.end + 1) (omega (arith, e, low)) (omega (arith, below)) h.returns;
        }

pub typed_code_is_kept : TypedCodeIsKept
typed_code_is_kept code space after token place p size kept = (
  λ t. record {
    size = t.size;
    listed = t.listed;
    definitions =
        λ d lt. definition_kept code space after size kept token place p d (t.definitions d lt);
  },
  items_kept code space after size kept token place,
)
