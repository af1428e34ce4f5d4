use Rattle.std.proofs.Common.{◌≡◌, ◌++◌, ◌∙◌, ap}
use Rattle.std.proofs.Common.{w8, rules}
use Rattle.std.proofs.lemmas.Int.{to_z-of_z}
use Rattle.std.proofs.lemmas.Result.{on_ok_weaker}
use Rattle.std.specs.List.{flat_map}
use Rattle.j1_table.specs.Fields.{return_move_of, data_move_of}
use Rattle.decompiler.specs.Listing.{spaced, move_field}
use Rattle.decompiler.proofs.Spaced.{two_parts}
use Rattle.decompiler.proofs.code.add_moves.Goals as goal

pub returns : goal.returns
returns c =
    let old = c.args.text.now.items in
    let first = c.add_move.new.text.items in
    let word = c.args.word in
    let one : first ≡ old ++ flat_map spaced (move_field 114 (return_move_of word)) = c.in_ok-add_move.ensures ∙ ap (λ z. old ++ flat_map spaced (move_field 114 z)) (to_z-of_z w8 c.r_move.result (search rules) ∙ c.r_move.ensures) in
    on_ok_weaker c.add_move-2.result
    (λ e.
    two_parts old first c.add_move-2.new.text.items (move_field 114 (return_move_of word)) (move_field 100 (data_move_of word)) one
    (e ∙ ap (λ z. first ++ flat_map spaced (move_field 100 z)) (to_z-of_z w8 c.d_move.result (search rules) ∙ c.d_move.ensures))) c.add_move-2.ensures
