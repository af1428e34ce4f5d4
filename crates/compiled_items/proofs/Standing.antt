-- Cells that stand in data space stand in memory.
use Rattle.std.proofs.Common.{◌≡◌, ℕ, ◌+◌, ◌-◌, ◌*◌, ◌/◌, ◌<◌, ◌≤◌, List, [], ◌∷◌, ◌++◌, length, refl, ap, ◌∙◌, subst, arith}
use Rattle.std.proofs.Common.{length-append}
use Rattle.std.specs.Prelude.{slice_index}
use Rattle.std.proofs.lemmas.List.{get_or-append_right}
use Rattle.j1_simulator.specs.Effect.{following}
use Rattle.forth_program.specs.State.{World}
use Rattle.kernel_words.specs.Memory.{IsDataSpace, data_cell}
use Rattle.kernel_definitions.specs.TypedItems as kernel
use Rattle.word_laws.specs.Standing.{StandIn}
use Rattle.typed_items.specs.Items.{items_size, typed_cells}
use Rattle.typed_items.proofs.Built.{items_size_is}
use Rattle.compiled_items.specs.Agreement.{DefinitionsStand}
use Rattle.compiled_items.proofs.Agreement.{cells_agree}

module _ (code : List ℕ) (w : World) (size : length code ≡ 0x1000) (space : IsDataSpace w) where
  -- the cell of data space at an address is that of memory at its place
  cell_there : (a at : ℕ) → a ≡ 2 * at → 4096 ≤ at → slice_index (code ++ w.space) at ≡ data_cell w a
  unfolding data_cell
  cell_there a at e low =
      let half : at - 0x1000 ≡ a / 2 - 4096 = omega (arith, e) in
      get_or-append_right code w.space 0x1000 at 0 size low ∙ ap (slice_index w.space) half

  long : 0x2000 ≤ length (code ++ w.space)
  long = let room = space.room in omega (arith, room, length-append code w.space, size)

  stand_there : (cells : List ℕ) (a at next : ℕ) → a ≡ 2 * at → 4096 ≤ at → at + length cells < 0x2000 → next ≡ at + length cells →
      kernel.CellsStand w a cells → StandIn (code ++ w.space) at cells next
  stand_there [] a at next e low high n h = omega (arith, n)
  stand_there (cell ∷ cells) a at next e low high n h =
      let one : at + 1 ≡ following at = omega (arith, high) in (
        cell_there a at e low ∙ h.0,
        omega (arith, long, high),
        subst (λ pc. StandIn (code ++ w.space) pc cells next) one
            (stand_there cells (a + 2) (at + 1) next (omega (arith, e)) (omega (arith, low)) (omega (arith, high)) (omega (arith, n)) h.1),
      )

  -- cells behind others
  parted : (cells more : List ℕ) (a : ℕ) → kernel.CellsStand w a (cells ++ more) →
      kernel.CellsStand w a cells × kernel.CellsStand w (a + 2 * length cells) more
  parted [] more a h = (tt, subst (λ b. kernel.CellsStand w b more) (omega arith) h)
  parted (cell ∷ cells) more a h =
      let rest = parted cells more (a + 2) h.1 in
      ((h.0, rest.0), subst (λ b. kernel.CellsStand w b more) (omega arith) rest.1)

pub definitions_stand : DefinitionsStand
definitions_stand code w token place p definition items size space typed nested are low high laid =
    let at = place definition in
    let many : length (typed_cells token place at items) ≡ items_size items = items_size_is (code ++ w.space) token place items at in
    let parts = parted code w size space (typed_cells token place at items) (0x700C ∷ []) (2 * at)
    (subst (kernel.CellsStand w (2 * at)) (cells_agree token place (length p.bodies) at items typed).definition laid) in
    let end = at + items_size items in
    record {
      items = items;
      end = end;
      are_body = are;
      stand = record {
        typed = typed;
        nested = nested;
        low = low;
        end = refl;
        high = high;
        cells = stand_there code w size space (typed_cells token place at items) (2 * at) at end refl (omega (arith, low))
            (omega (arith, many, high)) (omega (arith, many)) parts.0;
      };
      returns = stand_there code w size space (0x700C ∷ []) (2 * at + 2 * length (typed_cells token place at items)) end (end + 1)
          (omega (arith, many)) (omega (arith, low)) (omega (arith, high)) refl parts.1;
    }
