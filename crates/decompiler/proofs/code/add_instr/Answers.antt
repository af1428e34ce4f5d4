use Rattle.std.proofs.Common.{◌≡◌, ◌++◌, ◌∷◌, [], sym, subst}
use Rattle.std.proofs.Common.{OnOk, codes}
use Rattle.std.specs.List.{flat_map}
use Rattle.decompiler.specs.Listing.{hex4, spaced, instruction_fields}
use Rattle.decompiler.proofs.code.add_instr.Goals as goal

pub returns-in-Branch : goal.returns-in-Branch
returns-in-Branch c =
    let r = c.add_number-in-Branch.result in
    let old = c.args.text.now.items in
    let new = c.add_number-in-Branch.new.text.items in
    subst (λ i. OnOk r (new ≡ old ++ flat_map spaced (instruction_fields i))) (sym c.in-Branch.is)
    (subst (λ n. OnOk r (new ≡ old ++ flat_map spaced (codes "branch" ∷ hex4 n ∷ []))) c.get-in-Branch.ensures.value c.add_number-in-Branch.ensures)
