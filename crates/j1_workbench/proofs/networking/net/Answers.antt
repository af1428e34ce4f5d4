use Rattle.std.proofs.Common.{◌++◌, length, map, string_bytes, refl, sym, ap, ◌∙◌}
use Rattle.std.proofs.lemmas.List.{length-map}
use Rattle.j1_workbench.specs.Notes.{named}
use Rattle.j1_workbench.proofs.NetCommand.{as_many, nets_unread, nets_refused, nets_without_memory, nets_run}
use Rattle.j1_workbench.proofs.networking.net.Goals as goal

pub returns-in-Err : goal.returns-in-Err
returns-in-Err g c = λ console. nets_unread c.args.file.now _ _ c.in-Err.status c.answered.result c.answered.ensures c.net_in.ensures.read c.in-Err.ensures.found refl refl

pub returns-in-Err-add_images : goal.returns-in-Err-add_images
returns-in-Err-add_images g c = λ console.
    nets_refused c.args.file.now _ _ _ c.in-Ok.net (map string_bytes c.cores.result.now) c.in-Err-add_images.answer.status (named c.in-Err-add_images.answer.name)
    c.net_in.ensures.read c.in-Ok.ensures.found c.cores.ensures c.in-Err-add_images.ensures.found refl refl

pub run_cores-requires-clause-images : goal.run_cores-requires-clause-images
run_cores-requires-clause-images g c =
    let found = c.in-Ok-add_images.ensures.found in
    ap length (c.as_slice.ensures.value ∙ found.1 ∙ ap (λ l. l ++ found.0) c.new-images.ensures.items) ∙ as_many (map string_bytes c.cores.result.now) _ found.0 found.2 ∙ ap length c.cores.ensures

pub returns-in-Ok-run_cores : goal.returns-in-Ok-run_cores
returns-in-Ok-run_cores g c = λ console.
    let found = c.in-Ok-add_images.ensures.found in
    let same = c.as_slice.ensures.value ∙ found.1 ∙ ap (λ l. l ++ found.0) c.new-images.ensures.items in
    nets_run c.args.file.now _ _ _ c.in-Ok.net (map string_bytes c.cores.result.now) c.as_slice.result.now found.0
    (length c.cores.result.now) c.as_slice-in-Ok-run_cores.result.now c.in-Ok-run_cores.ran c.write_lines.result c.answered-in-Ok-run_cores.result
    c.answered-in-Ok-run_cores.ensures c.net_in.ensures.read c.in-Ok.ensures.found c.cores.ensures (sym (length-map c.cores.result.now string_bytes)) c.add_images.ensures.read
    found.2 same (c.as_slice-in-Ok-run_cores.ensures.value ∙ c.in-Ok-run_cores.ensures.lines) c.in-Ok-run_cores.ensures.status refl c.write_lines.ensures

pub returns : goal.returns
returns g c = λ console.
    let found = c.in-Ok-add_images.ensures.found in
    nets_without_memory c.args.file.now _ _ _ c.in-Ok.net (map string_bytes c.cores.result.now) found.0 (length c.cores.result.now) c.answered-in-Err-run_cores.result
    c.answered-in-Err-run_cores.ensures c.net_in.ensures.read c.in-Ok.ensures.found c.cores.ensures (sym (length-map c.cores.result.now string_bytes)) c.add_images.ensures.read found.2 refl refl
