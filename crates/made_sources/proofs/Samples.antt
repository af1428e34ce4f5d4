-- Small made sources, as the checker reads, certifies and runs them by the definitions.
use Rattle.std.proofs.Common.{◌≡◌, true, [], refl, Some}
use Rattle.std.specs.Prelude.{codes}
use Rattle.std.specs.Fmt.{digits}
use Rattle.control_flow.specs.ParseResult.{Fine}
use Rattle.control_flow.specs.Items.{items_at}
use Rattle.control_flow.specs.SourceText.{program_of_text, source_at}
use Rattle.forth_program.specs.State.{Halted}
use Rattle.forth_program.specs.Run.{source_run, steps, world_of, end_of}
use Rattle.forth_program.specs.Step.{step}
use Rattle.forth_program.specs.Price.{price, spent}
use Rattle.depth_certifier.specs.Checking.{is_valid}
use Rattle.made_sources.specs.MadeSource.{made_source}
use Rattle.made_sources.specs.MadeProgram.{made_program, made_certificate}

text_of_two : made_source 0 2 ≡ codes ": W1 13849 XOR ;\n: W2 48742 - ;\n: MAIN 1 W1 W2 U. ;\n"
unfolding made_source digits
text_of_two = refl

two_are_read : program_of_text (made_source 0 2) ≡ Fine (made_program 0 2)
unfolding made_source digits items_at source_at
two_are_read = refl

ten_are_read : program_of_text (made_source 7 10) ≡ Fine (made_program 7 10)
unfolding made_source digits items_at source_at
ten_are_read = refl

two_are_certified : is_valid (made_program 0 2) (made_certificate 0 2) ≡ true
unfolding digits
two_are_certified = refl

ten_are_certified : is_valid (made_program 7 10) (made_certificate 7 10) ≡ true
unfolding digits
ten_are_certified = refl

two_end : end_of (source_run (made_program 0 2) [] 11) ≡ Some (Halted 0)
unfolding source_run steps step
two_end = refl

two_print : (world_of (source_run (made_program 0 2) [] 11)).printed ≡ codes "30642 "
unfolding source_run steps step
two_print = refl

two_cost : price (made_program 0 2) [] 11 ≡ 120024
unfolding price spent step
two_cost = refl
