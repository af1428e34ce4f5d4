-- What may stand behind a call.
use Rattle.std.proofs.Common.{◌≡◌, ◌≢◌, ℕ, ◌+◌, ◌<◌, ◌≤◌, ◌⊎◌, ⊎_elim, Bool, true, false, ◌&&◌, ◌||◌, List, [], ◌∷◌, length, slice_index, refl, sym, ap, ◌∙◌, subst, arith}
use Rattle.std.specs.Prelude.{nat_lt, nat_le}
use Rattle.std.specs.List.{list_all}
use Rattle.std.proofs.lemmas.Bool.{cases_lt}
use Rattle.std.proofs.lemmas.Bool.Decides.{nat_tests}
use Rattle.j1_table.specs.declared.instr.Instr.TheVariants.{Jump, Branch, Call as CallTo}
use Rattle.j1_table.specs.Instruction.{decoded}
use Rattle.j1_simulator.specs.Effect.{following}
use Rattle.word_laws.specs.Standing.{StandIn}
use Rattle.code_layout.specs.Layout.{cell_if, size_if}
use Rattle.code_layout.proofs.Machine.{both}
use Rattle.code_layout.proofs.LaidCode.{onward}

-- the cells of calls, jumps and branches
pub call_is : (cell target : ℕ) → decoded cell ≡ CallTo target → (0x4000 ≤ cell) × (cell < 0x6000)
call_is cell target e = grind (arith, nat_tests)

pub jump_is : (cell target : ℕ) → decoded cell ≡ Jump target → (cell ≡ target) × (target < 0x2000)
jump_is cell target e = grind (arith, nat_tests)

pub is_jump : (cell : ℕ) → cell < 0x2000 → decoded cell ≡ Jump cell
is_jump cell h = grind (arith, nat_tests)

pub is_branch : (target : ℕ) → target < 0x2000 → decoded (0x2000 + target) ≡ Branch target
is_branch target h = grind (arith, nat_tests)

abbrev pub is_no_call : ℕ → Bool
is_no_call cell = nat_lt cell 0x4000 || nat_le 0x6000 cell

no_call : (cell : ℕ) → is_no_call cell ≡ true → 0x4000 ≤ cell → cell < 0x6000 → ⊥
no_call cell e h k = grind (arith, nat_tests)

module _ (code : List ℕ) where
  -- a jump or a branch behind a place leads back to it
  abbrev pub Later : ℕ → Type 0
  Later r = (from : ℕ) × (r < from) × (from < length code) × ((slice_index code from ≡ r) ⊎ (slice_index code from ≡ 0x2000 + r))

  -- a place that may stand behind a call: no return stands there, nor a jump on to a return, unless a way leads back to it
  pub record MayFollow (pc : ℕ) : Type 0 where
    pub returns : slice_index code pc ≡ 0x700C → Later pc
    pub jumps : (r : ℕ) → pc < r → r < 0x2000 → slice_index code pc ≡ r → slice_index code r ≡ 0x700C → Later r

  -- all calls from a place up to another are followed so
  abbrev pub CallsFollowed : ℕ → ℕ → Type 0
  CallsFollowed from to = (c : ℕ) → from ≤ c → c < to → 0x4000 ≤ slice_index code c → slice_index code c < 0x6000 → MayFollow (c + 1)

  pub followed_join : (from middle to : ℕ) → CallsFollowed from middle → CallsFollowed middle to → CallsFollowed from to
  followed_join from middle to a b c h k l m = ⊎_elim (λ lt. a c h lt l m) (λ le. b c le k l m) (cases_lt c middle)

  -- a cell that is neither a return nor a jump
  pub other_cell : (pc cell : ℕ) → slice_index code pc ≡ cell → 0x2000 ≤ cell → cell ≢ 0x700C → MayFollow pc
  other_cell pc cell e h n = record { returns = λ r. absurd (n (sym e ∙ r)); jumps = λ r lt low j back. absurd (omega (arith, e, j)) }

  -- a jump back, or to a cell that is no return
  pub jump_back : (pc target : ℕ) → slice_index code pc ≡ target → target < 0x2000 → target ≤ pc → MayFollow pc
  jump_back pc target e low le = record { returns = λ r. absurd (omega (arith, e, r)); jumps = λ r lt low' j back. absurd (omega (arith, e, j)) }

  pub jump_on : (pc target : ℕ) → slice_index code pc ≡ target → target < 0x2000 → (slice_index code target ≡ 0x700C → Later target) → MayFollow pc
  jump_on pc target e low may = record {
    returns = λ r. absurd (omega (arith, e, r));
    jumps = λ r lt low' j back. let same : r ≡ target = sym j ∙ e in subst Later (sym same) (may (ap (slice_index code) (sym same) ∙ back));
  }

  pub return_with_way_back : (pc : ℕ) → slice_index code pc ≡ 0x700C → Later pc → MayFollow pc
  return_with_way_back pc e later = record { returns = λ r. later; jumps = λ r lt low j back. absurd (omega (arith, e, j)) }

  -- cells without calls
  pub no_calls : (pc n : ℕ) (cells : List ℕ) (next : ℕ) → list_all is_no_call cells ≡ true → length cells ≡ n → pc + n < 8192 → StandIn code pc cells next → CallsFollowed pc (pc + n)
  no_calls pc n [] next none len lt h c a b l m = absurd (omega (arith, len))
  no_calls pc n (cell ∷ cells) next none len lt h c a b l m =
      let first = both (is_no_call cell) (list_all is_no_call cells) none in
      ⊎_elim
      (λ after. no_calls (pc + 1) (length cells) cells next first.1 refl (omega (arith, len)) (onward code pc cell cells next (omega (arith, len)) h) c (omega arith) (omega (arith, len)) l m)
      (λ here. let same : c ≡ pc = omega arith in let e : slice_index code c ≡ cell = ap (slice_index code) same ∙ h.0 in absurd (no_call cell first.0 (omega (arith, e)) (omega (arith, e))))
      (cases_lt pc c)

  pub one_no_call : (pc cell : ℕ) (more : List ℕ) (next : ℕ) → is_no_call cell ≡ true → pc + 1 < 8192 → StandIn code pc (cell ∷ more) next → CallsFollowed pc (pc + 1)
  one_no_call pc cell more next none lt h = no_calls pc 1 (cell ∷ []) (following pc) (ap (λ b. b && true) none) refl lt (h.0, h.1, refl)

  pub cell_if_no_call : (reached : Bool) (pc cell next : ℕ) → is_no_call cell ≡ true → pc + size_if reached < 8192 → StandIn code pc (cell_if reached cell) next → CallsFollowed pc (pc + size_if reached)
  cell_if_no_call true pc cell next none lt h = one_no_call pc cell [] next none lt h
  cell_if_no_call false pc cell next none lt h = λ c a b l m. absurd (omega arith)
