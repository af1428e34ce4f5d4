use Rattle.std.proofs.Common.{refl, ◌+◌}
use Rattle.forth_program.specs.Access as access
use Rattle.cell_math.specs.Cell.{sum_of}
use Rattle.forth_program.specs.State.{Gives}
use Rattle.console_ports.specs.Ports.{even}
use Rattle.reference_eval.proofs.AccessSequences as does
use Rattle.reference_eval.proofs.access_words.no_cell_word.Goals as goal
use Rattle.word_table.specs.declared.word.Word.TheVariants as table

pub returns-in-Here : goal.returns-in-Here
returns-in-Here g c = does.means c.args.word table.Here _ (c.args.cells.now) _ _ _ _ c.in-Here.is (refl) (λ w. refl) (c.put_cell.ensures _ _ _ c.here.ensures)

pub returns-in-Key : goal.returns-in-Key
returns-in-Key g c = does.means c.args.word table.Key _ (c.args.cells.now) _ _ _ _ c.in-Key.is (refl) (λ w. refl) (c.put_cell-in-Key.ensures _ _ _ c.fetch.ensures)

pub returns-in-Decimal : goal.returns-in-Decimal
returns-in-Decimal g c = does.means c.args.word table.Decimal _ (c.args.cells.now) _ _ _ _ c.in-Decimal.is (refl) (λ w. refl) (c.done.ensures _ (c.args.cells.now) _ _ (c.set_base.ensures _ _))

pub returns-in-Hex : goal.returns-in-Hex
returns-in-Hex g c = does.means c.args.word table.Hex _ (c.args.cells.now) _ _ _ _ c.in-Hex.is (refl) (λ w. refl) (c.done-in-Hex.ensures _ (c.args.cells.now) _ _ (c.set_base-in-Hex.ensures _ _))

pub returns-in-Align : goal.returns-in-Align
returns-in-Align g c = does.means c.args.word table.Align _ (c.args.cells.now) _ _ _ _ c.in-Align.is (refl) (λ w. does.nested (access.here w) (λ h w. access.store (w.data_start + 4) (even
    (sum_of h 1)) w) (λ _. Gives c.args.cells.now)) (c.done-in-Align.ensures _ (c.args.cells.now) _ _ c.align_here.ensures)

pub returns-in-Cr : goal.returns-in-Cr
returns-in-Cr g c = does.means c.args.word table.Cr _ (c.args.cells.now) _ _ _ _ c.in-Cr.is (refl) (λ w. refl) (c.done-in-Cr.ensures _ (c.args.cells.now) _ _ (c.store.ensures _ _))

pub returns-in-Space : goal.returns-in-Space
returns-in-Space g c = does.means c.args.word table.Space _ (c.args.cells.now) _ _ _ _ c.in-Space.is (refl) (λ w. refl) (c.done-in-Space.ensures _ (c.args.cells.now) _ _ (c.store-in-Space.ensures _ _))

pub returns-in-LessSharp : goal.returns-in-LessSharp
returns-in-LessSharp g c = does.means c.args.word table.LessSharp _ (c.args.cells.now) _ _ _ _ c.in-LessSharp.is (refl) (λ w. refl) (c.done-in-LessSharp.ensures _ (c.args.cells.now) _ _ (c.open_picture.ensures _ _))
