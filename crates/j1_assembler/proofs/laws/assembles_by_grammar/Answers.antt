use Rattle.j1_assembler.proofs.Inversion.{image_of_text}
use Rattle.j1_assembler.proofs.Forward.{text_of_image}
use Rattle.j1_assembler.proofs.laws.assembles_by_grammar.Goals as goal

pub returns : goal.returns
returns c = λ text image. (image_of_text text image, text_of_image text image)
