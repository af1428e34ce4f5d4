-- The program that is read is the kernel's, and so is its image.
use Rattle.std.proofs.Common.{◌≡◌, List, ℕ, sym, ap, ◌∙◌, subst}
use Rattle.std.specs.Prelude.{Result, IfOk}
use Rattle.word_table.specs.declared.word.Vocabulary.TheVariants.{Kernel}
use Rattle.j1_table.specs.Image.{Content}
use Rattle.forth_program.specs.Program.{SourceProgram}
use Rattle.library_laws.specs.Bodies.{whole_library}
use Rattle.code_layout.specs.Layout.{laid_out}
use Rattle.control_flow.specs.ParseResult.{Fine}
use Rattle.control_flow.specs.SourceText.{program_in}
use Rattle.target_forth.specs.Kernel.{program_read, kernel_program, kernel}

pub same_program : {text bytes : List ℕ} {p q : SourceProgram} → program_in Kernel text ≡ Fine p → bytes ≡ text → program_in Kernel bytes ≡ Fine q → p ≡ q
same_program first same second = ap program_read (sym first ∙ ap (program_in Kernel) (sym same) ∙ second)

pub same_image : {E : Type 0} {p : SourceProgram} (result : Result Content E) → kernel_program ≡ p →
    IfOk result (λ image. image ≡ laid_out whole_library p) → IfOk result (λ image. image ≡ kernel)
same_image result same is = subst (λ q. IfOk result (λ image. image ≡ laid_out whole_library q)) (sym same) is
