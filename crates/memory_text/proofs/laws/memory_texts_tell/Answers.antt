use Rattle.std.proofs.Common.{◌*◌, ap, ◌∙◌, arith}
use Rattle.j1_simulator.specs.Run.{memory_of}
use Rattle.memory_text.specs.MemoryText.{memory_text}
use Rattle.memory_text.proofs.Lines.{cells_alone, lines_size, line_at}
use Rattle.memory_text.proofs.Memory.{begins_with}
use Rattle.memory_text.proofs.laws.memory_texts_tell.Goals as goal

pub returns : goal.returns
unfolding memory_text
returns c = λ image room.
    let begins = begins_with image room in
    record {
      begins = begins;
      size = lines_size (memory_of image) ∙ ap (λ n. 5 * n) begins.size;
      lines = λ i h. line_at (memory_of image) i (omega (arith, begins.size, h));
      alone = λ other same. cells_alone (memory_of other) (memory_of image) same;
    }
