-- From its start to its first line.
use Rattle.std.proofs.Common.{◌≡◌, [], refl, ap, sym, ◌∙◌, subst}
use Rattle.forth_program.specs.Program.{body_of}
use Rattle.forth_program.specs.Step.{before}
use Rattle.forth_program.specs.Run.{first_world, first_state}
use Rattle.kernel_words.specs.Running.{Comes}
use Rattle.kernel_lines.specs.Bodies.{HasLines, main_body}
use Rattle.kernel_lines.specs.State.{cells_at}
use Rattle.kernel_lines.specs.Laws.{set_back, set_back_cells, KernelIsSetBack, TextsStay}
use Rattle.kernel_lines.specs.Main.{main_begins, line_begins, FirstLineBegins}
use Rattle.target_forth.specs.Kernel.{kernel_program}
use Rattle.target_forth.specs.FirstState.{KernelBegins, FirstLinesBegin}
use Rattle.target_forth.proofs.ReadText.{main_is}

pub first_lines_begin : KernelBegins → HasLines kernel_program → KernelIsSetBack → FirstLineBegins → TextsStay → FirstLinesBegin
first_lines_begin begins lines sets_back first stay input =
    let b = begins input in
    let back = sets_back kernel_program [] (first_world kernel_program input) lines b.space in
    record {
      at = back.after;
      way = subst (λ s. Comes kernel_program 31 56 s (line_begins back.after))
          (sym (starts (ap (body_of kernel_program) main_is ∙ lines.main)))
          (first kernel_program (first_world kernel_program input) lines back);
      space = back.others.space;
      texts = stay (cells_at set_back_cells) (first_world kernel_program input) back.after back.others refl b.texts;
      state = back.state_is ∙ ap set_back b.state;
      left = back.input;
      printed = back.printed;
    }
  where
    starts : body_of kernel_program kernel_program.main_body ≡ main_body →
        first_state kernel_program input ≡ main_begins (first_world kernel_program input)
    starts e = ap (λ body. record {
      work = before body [];
      entries = [];
      callers = [];
      cells = [];
      world = first_world kernel_program input;
    }) e
