-- The premises of the agreement on the chip, from a certificate.
use Rattle.std.proofs.Common.{◌≡◌, ℕ, ◌≤◌, true, false, List, [], ◌∷◌, length, refl, arith}
use Rattle.std.specs.List.{list_all}
use Rattle.std.proofs.lemmas.Bool.{and_from, and_parts}
use Rattle.forth_program.specs.Tree.{Node, Nodes, Literal, Plain, Call, Child}
use Rattle.forth_program.specs.Program.{SourceProgram}
use Rattle.forth_program.specs.Form.{has_no_go, may_be_token}
use Rattle.forth_program.specs.RunLaws.{ProgramsStay}
use Rattle.forth_program.specs.Heights.{StacksFit, IsSafe}
use Rattle.code_layout.specs.Built.{is_laid_out, token_is_laid_out, IsBuilt}
use Rattle.code_layout.specs.Library.{IsLibrary, LibraryMeans}
use Rattle.code_layout.specs.Agreement.{AreBytes}
use Rattle.code_layout.specs.Chip.{AgreesOnChip, ChipsAgree}
use Rattle.depth_certifier.specs.Certificate.{Cert, IsValid}
use Rattle.depth_certifier.specs.Soundness.{most_cells, most_return_cells, CertifiedRunsFit}
use Rattle.chip_laws.specs.Certified.{KeepsTight, CertifiedChipsAgree, CertifiedChipsKeepTight}

-- a chip with more cells holds a run too
fits_more : (p : SourceProgram) (input : List ℕ) (high return_high k : ℕ) → high ≤ 33 → return_high ≤ 32 → StacksFit p input high return_high k → StacksFit p input 33 32 k
fits_more p input high return_high k few few_returns fit j s early is =
    let f = fit j s early is in
    (omega (arith, f.0, few), omega (arith, f.1, few_returns), omega (arith, f.2, few_returns))

may : (words count : ℕ) (node : Node) → token_is_laid_out words count node ≡ true → may_be_token node ≡ true
may words count (Plain word) e = (and_parts (may_be_token (Plain word)) (is_laid_out false words count (Plain word)) e).0
may words count (Literal value) e = refl
may words count (Call definition) e = refl
may words count (Child definition address) e = refl
may words count node e = absurd (let f : false ≡ true = e in cc)

-- what is laid out as a token may be one
all_may : (words count : ℕ) (tokens : List Node) → list_all (token_is_laid_out words count) tokens ≡ true → list_all may_be_token tokens ≡ true
all_may words count [] e = refl
all_may words count (node ∷ tokens) e =
    let both = and_parts (token_is_laid_out words count node) (list_all (token_is_laid_out words count) tokens) e in
    and_from (may_be_token node) (list_all may_be_token tokens) (may words count node both.0) (all_may words count tokens both.1)

module _ (agree : ChipsAgree) (fit : CertifiedRunsFit) (stay : ProgramsStay) (library : List Nodes) (p : SourceProgram) (input : List ℕ) (z : Cert)
    (form : IsLibrary library) (means : LibraryMeans library) (built : IsBuilt library p) (space : AreBytes p.first_space) (bytes : AreBytes input) (lacks_go : has_no_go p ≡ true) (valid : IsValid p z) where
  agrees : AgreesOnChip library p input
  agrees =
      let f = fit p z valid in
      agree library p input form means built space bytes (f.2 input).goes_well (λ k. stay p input k lacks_go (all_may (length library) (length p.bodies) p.tokens built.token_items))
      (λ k. fits_more p input (most_cells p z) (most_return_cells p z) k f.0 f.1 ((f.2 input).stacks_fit k))

  keeps_tight : KeepsTight library p input z
  keeps_tight =
      let within = (fit p z valid).2 input in
      record {
        data_stack = λ n. (agrees.stacks_hold (most_cells p z) (most_return_cells p z) within.stacks_fit n).0;
        return_stack = λ n. (agrees.stacks_hold (most_cells p z) (most_return_cells p z) within.stacks_fit n).1;
      }

pub certified_chips : ChipsAgree → CertifiedRunsFit → ProgramsStay → CertifiedChipsAgree
certified_chips agree fit stay library p input form means built space bytes lacks_go z = agrees agree fit stay library p input z.0 form means built space bytes lacks_go z.1

pub certified_tight : ChipsAgree → CertifiedRunsFit → ProgramsStay → CertifiedChipsKeepTight
certified_tight agree fit stay library p input z form means built space bytes lacks_go valid = keeps_tight agree fit stay library p input z form means built space bytes lacks_go valid
