-- What an image and a refusal of a text mean.
use Rattle.std.proofs.Common.{ℕ, List}
use Rattle.std.specs.Prelude.{Result, Ok, Err, IfOk, IfErr}
use Rattle.j1_table.specs.Image.{Content}
use Rattle.j1_assembler.specs.declared.refusal.AsmError.{AsmError}
use Rattle.j1_assembler.specs.declared.refusal.AsmError.TheVariants as errors
use Rattle.j1_assembler.specs.Assembly.{assembled}
use Rattle.j1_assembler.specs.Answers.{Gives}
use Rattle.j1_assembler.specs.Grammar.{Assembles, AssemblesByGrammar}
use Rattle.j1_assembler.specs.FirstBad.{RefusesFirstBad, IsRefusal}

pub image_is : (result : Result Content AsmError) (text : List ℕ) → AssemblesByGrammar → Gives (λ image. image) result (assembled text) → IfOk result (λ image. Assembles text image)
image_is (Ok image) text grammar gives = (grammar text image).0 gives
image_is (Err error) text grammar gives = tt

refused_by : (error : AsmError) (text : List ℕ) → RefusesFirstBad → Gives {A = Content} (λ image. image) (Err error) (assembled text) → IsRefusal text error
refused_by (errors.Refused number cause) text first gives = (first text number cause).0 gives
refused_by errors.OutOfMemory text first gives = tt

pub refusal_is : (result : Result Content AsmError) (text : List ℕ) → RefusesFirstBad → Gives (λ image. image) result (assembled text) → IfErr result (λ error. IsRefusal text error)
refusal_is (Ok image) text first gives = tt
refusal_is (Err error) text first gives = refused_by error text first gives
