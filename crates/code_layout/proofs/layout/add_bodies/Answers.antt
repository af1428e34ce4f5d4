use Rattle.std.proofs.Common.{◌<◌, length, take, arith}
use Rattle.std.proofs.lemmas.List.{length-take-le}
use Rattle.forth_program.specs.ItemTrees.{tree_of}
use Rattle.code_layout.specs.Places.{place_by, word_count, definition_count}
use Rattle.code_layout.proofs.DefinitionPlaces.{body_added, body_laid}
use Rattle.code_layout.proofs.layout.add_bodies.Goals as goal

pub loop-definition-preserved : goal.loop-definition-preserved
loop-definition-preserved c =
    let l = c.loop-definition in
    let bodies = take c.args.count c.args.program.now.bodies in
    let inside : l.definition < length bodies = omega (arith, length-take-le c.args.count c.args.program.now.bodies c.requires.count) in
    body_added c.args.data_start (place_by c.args.places.now) (word_count c.args.places.now) (definition_count c.args.places.now) _ l.code.items
    c.add_body.new.code.items bodies l.definition (tree_of c.body_of.result.now) inside c.body_of.ensures
    c.in_ok-add_body.ensures l.invariant

pub add_body-requires-clause-laid_out : goal.add_body-requires-clause-laid_out
add_body-requires-clause-laid_out c =
    let l = c.loop-definition in
    let bodies = take c.args.count c.args.program.now.bodies in
    let inside : l.definition < length bodies = omega (arith, length-take-le c.args.count c.args.program.now.bodies c.requires.count) in
    body_laid (word_count c.args.places.now) (definition_count c.args.places.now) bodies l.definition (tree_of c.body_of.result.now) inside c.body_of.ensures l.invariant.1
