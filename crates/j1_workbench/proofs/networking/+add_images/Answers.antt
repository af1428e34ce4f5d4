use Rattle.std.proofs.Common.{◌∷◌, length, map, string_bytes, take, drop, ◌-◌, sym, ap, ◌∙◌, arith, rules}
use Rattle.std.proofs.lemmas.List.{length-map}
use Rattle.j1_workbench.specs.Notes.{named}
use Rattle.j1_workbench.proofs.FilesRead.{on_either}
use Rattle.j1_workbench.proofs.NetCommand.{sources_split, more_images, later_refused, wanting}
use Rattle.j1_workbench.proofs.networking.+add_images.Goals as goal

pub returns-then-is_err-clause-found : goal.returns-then-is_err-clause-found
returns-then-is_err-clause-found g t c =
    wanting (map string_bytes c.args.sources.now) _ _ c.answered.result (omega (arith, length-map c.args.sources.now string_bytes, c.in-len1-up.len_at_least)) c.compiled_source.ensures.read c.answered.ensures

pub returns-else-is_err-clause-found : goal.returns-else-is_err-clause-found
returns-else-is_err-clause-found g t c =
    let split = sources_split c.args.sources.now c.source-item.result c.source-item.is c.in-len1-up.len_at_least
    ∙ ap (λ s. s ∷ map string_bytes (take (length c.args.sources.now - 1) (drop 1 c.args.sources.now))) (sym c.as_str.ensures.value) in
    on_either _ _ _ _ c.add_images.result
    (λ done found. more_images c.args.images.now.items c.push.new.self.items c.add_images.new.images.items c.as_str.result.now _ (map string_bytes c.args.sources.now) _ _ c.in-Ok.image split
    (search rules) c.in-Ok.ensures.found c.compiled_source.ensures.read found)
    (λ answer refuses. later_refused c.as_str.result.now _ (map string_bytes c.args.sources.now) _ _ _ c.in-Ok.image answer.status (named answer.name) split c.in-Ok.ensures.found c.compiled_source.ensures.read refuses)
    c.add_images.ensures.found
