-- The premises of the agreement behind GO, from a certificate.
use Rattle.std.proofs.Common.{ℕ, ◌≤◌, List, arith}
use Rattle.forth_program.specs.State.{State, Goes}
use Rattle.forth_program.specs.Program.{SourceProgram}
use Rattle.forth_program.specs.Returns.{Return}
use Rattle.depth_certifier.specs.Certificate.{Cert, IsValid}
use Rattle.depth_certifier.specs.Soundness.{most_cells, most_return_cells, CertifiedRunsFit, CertifiedRunsFitBehindGo}
use Rattle.code_layout.specs.Agreement.{word_steps}
use Rattle.code_layout.specs.Returning.{backs_of, IsSafeReturning, StacksFitReturning, ImagesReturn}
use Rattle.code_layout.specs.ReturningChip.{RoundReturn, round_backs, AgreesReturningOnChip, ChipsReturn}
use Rattle.chip_laws.specs.Returning.{CertifiedImagesReturn, CertifiedChipsReturn, CertifiedChipsReturnTight}

module _ (fit : CertifiedRunsFitBehindGo) (p : SourceProgram) (z : Cert) (backs : List Return) (input : List ℕ) (valid : IsValid p z) where
  safe : (k : ℕ) → IsSafeReturning p backs input k
  safe k =
      let within = fit p z backs input valid in
      record { lacks_nothing = within.lacks_nothing k; depth_fits = λ j s early is. within.depths_fit j s is }

  fits : (k : ℕ) → StacksFitReturning p backs input (most_cells p z) (most_return_cells p z) k
  fits k j s early is = (fit p z backs input valid).stacks_fit j s is

  -- a chip with more cells holds a run too
  fits_more : (high return_high k : ℕ) → most_cells p z ≤ high → most_return_cells p z ≤ return_high → StacksFitReturning p backs input high return_high k
  fits_more high return_high k few few_returns j s early is = let f = fits k j s early is in (omega (arith, f.0, few), omega (arith, f.1, few_returns), omega (arith, f.2, few_returns))

pub certified_return : ImagesReturn → CertifiedRunsFitBehindGo → CertifiedImagesReturn
certified_return images fit library p returns input form means built has_go space bytes proper z = record {
  forward = λ k. images.forward library p returns input k form means built has_go space bytes proper (safe fit p z.0 (backs_of returns) input z.1 k);
  backward = λ n. images.backward library p returns input n form means built has_go space bytes proper (safe fit p z.0 (backs_of returns) input z.1 (word_steps p n));
  stacks = λ n. images.stacks library p returns input n form means built has_go space bytes proper (safe fit p z.0 (backs_of returns) input z.1 (word_steps p n));
}

pub certified_chips : ChipsReturn → CertifiedRunsFit → CertifiedRunsFitBehindGo → CertifiedChipsReturn
certified_chips chips limits fit library p rounds input form means built has_go space bytes proper sized z =
    let few = limits p z.0 z.1 in
    chips library p rounds input form means built has_go space bytes proper sized (safe fit p z.0 (round_backs rounds) input z.1) (λ k. fits_more fit p z.0 (round_backs rounds) input z.1 33 32 k few.0 few.1)

pub certified_tight : ChipsReturn → CertifiedRunsFit → CertifiedRunsFitBehindGo → CertifiedChipsReturnTight
certified_tight chips limits fit library p rounds input z form means built has_go space bytes proper sized valid =
    let agrees = certified_chips chips limits fit library p rounds input form means built has_go space bytes proper sized (z, valid) in
    let holds = agrees.stacks_hold (most_cells p z) (most_return_cells p z) (fits fit p z (round_backs rounds) input valid) in
    record { data_stack = λ n. (holds n).0; return_stack = λ n. (holds n).1 }
