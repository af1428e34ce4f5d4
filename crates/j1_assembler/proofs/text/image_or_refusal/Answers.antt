use Rattle.std.proofs.Common.{◌≡◌, sym, ◌∙◌, ap, subst}
use Rattle.std.proofs.Math.Path.{fun_ext}
use Rattle.j1_assembler.specs.Text.{lines_of}
use Rattle.j1_assembler.specs.Labels.{found_in, defined, labels_from}
use Rattle.j1_assembler.specs.Assembly.{lines_outcome, opened, assembled}
use Rattle.j1_assembler.specs.Answers.{Gives}
use Rattle.j1_assembler.proofs.text.image_or_refusal.Goals as goal

pub returns-in-Ok-opening_of : goal.returns-in-Ok-opening_of
returns-in-Ok-opening_of c =
    let text = c.args.bytes.now in
    let opening = c.in-Ok-opening_of.opening in
    let found : found_in c.in-Ok.labels ≡ defined (labels_from 1 (lines_of text)) = fun_ext c.in-Ok.ensures in
    let same : lines_outcome (found_in c.in-Ok.labels) opening.number (opened opening.data_start) (lines_of opening.rest.now) ≡ assembled text =
    ap (λ find. lines_outcome find opening.number (opened opening.data_start) (lines_of opening.rest.now)) found ∙ sym (c.in-Ok-opening_of.ensures.same (defined (labels_from 1 (lines_of text)))) in
    subst (λ assembly. Gives (λ image. image) c.image_of.result assembly) same c.image_of.ensures
