-- A return behind GO on the chip.
use Rattle.std.proofs.Common.{◌≡◌, ℕ, zero, suc, ◌+◌, ◌-◌, ◌/◌, ◌%◌, ◌<◌, List, [], ◌∷◌, ◌++◌, length, map, get_or, slice_index, Option}
use Rattle.std.proofs.Common.{Some, None, ℤ, negsuc, ◌+ℤ◌, refl, sym, ap, ◌∙◌, subst, arith}
use Rattle.std.proofs.lemmas.List.{set-get_or}
use Rattle.j1_simulator.specs.Step.{Stop, Missing}
use Rattle.j1_simulator.specs.OpenMachine.{tape_moved, open_storage}
use Rattle.j1_simulator.specs.RoundMachine.{RingCells, around, ring_moved, ring_top, round_storage}
use Rattle.j1_simulator.specs.Run.{advanced, run}
use Rattle.word_laws.specs.Rings.{OpenConfiguration, BeforeEach, FitsRings, CellAgrees, StackAgrees, Agrees, place_below, kept_below, InstructionDoesTheSame, PointersGoDown}
use Rattle.word_laws.specs.Bounds.{BoundsFitRings, EndsStay}
use Rattle.code_layout.specs.ReturningChip.{RoundConfiguration, RoundReturn, counted, top_back, ring_back, round_back}
use Rattle.typed_code.specs.Standing.{Surroundings, stands_at, called_from, place_of}
use Rattle.typed_code.specs.WayBack.{given_back, ReturnsGoBackOnChip}
use Rattle.typed_code.proofs.Instructions.{height_le, height_length, down_one}

pub record RingLaws : Type 0 where
  pub instruction : InstructionDoesTheSame
  pub down : PointersGoDown
  pub fit : BoundsFitRings
  pub ended : EndsStay

-- both machines do the same up to where the open one goes on
agrees_on : (laws : RingLaws) (n : ℕ) (w : OpenConfiguration) (v : RoundConfiguration) → Agrees w v → BeforeEach FitsRings 0x2000 n w → (run open_storage 0x2000 n w).stop ≡ None →
    Agrees (run open_storage 0x2000 n w) (run round_storage 0x2000 n v)
agrees_on laws zero w v same fits goes = same
agrees_on laws (suc n) w v same fits goes =
    agrees_on laws n (advanced w.stop open_storage 0x2000 w) (advanced v.stop round_storage 0x2000 v)
    (laws.instruction 0x2000 w v same fits.0 (λ missing. stays (advanced w.stop open_storage 0x2000 w) missing goes)) fits.1 goes
  where
    stays : (u : OpenConfiguration) → u.stop ≡ Some Missing → (run open_storage 0x2000 n u).stop ≡ None → ⊥
    stays u missing on = let e : (run open_storage 0x2000 n u).stop ≡ u.stop = ap (λ x. x.stop) (laws.ended 0 0 0 0 n 0x2000 u Missing missing).0 in cc

-- a known cell
one_cell : (cells : List (Option ℕ)) (addresses : List ℕ) (j x y : ℕ) → cells ≡ map Some addresses → j < length cells → CellAgrees (get_or cells j None) x → CellAgrees (get_or cells j None) y → x ≡ y
one_cell [] addresses j x y e lt p q = absurd (omega arith)
one_cell (cell ∷ cells) [] j x y e lt p q = cc
one_cell (None ∷ cells) (a ∷ addresses) zero x y e lt p q = absurd cc
one_cell (Some n ∷ cells) (a ∷ addresses) zero x y e lt p q = sym p ∙ q
one_cell (cell ∷ cells) (a ∷ addresses) (suc j) x y e lt p q = one_cell cells addresses j x y (let f : cells ≡ map Some addresses = cc in f) (omega arith) p q

-- a ring that has kept so many cells is the one that is given back
kept_same : (n : ℕ) (ring : RingCells) (others : List ℕ) → ((j : ℕ) → j < n → slice_index ring.cells (place_below j ring) ≡ slice_index others (place_below j ring)) → kept_below n ring others ≡ others
kept_same zero ring others same = refl
kept_same (suc n) ring others same =
    rw (kept_same n ring others (λ j lt. same j (omega arith)), same n (omega arith)) (set-get_or others (place_below n ring) 0)

same_ring : (ring other : RingCells) → ring.cells ≡ other.cells → ring.at ≡ other.at → ring ≡ other
same_ring ring other e f = ap (λ c. record { cells = c; at = ring.at }) e ∙ ap (λ a. record { cells = other.cells; at = a }) f

-- a machine by its parts
abbrev chip_of : ℕ → ℕ → RingCells → RingCells → List ℕ → List ℕ → List ℕ → ℤ → ℤ → Option Stop → RoundConfiguration
chip_of pc t data_stack return_stack memory input printed data_depth return_depth stop =
    record {
      core = record { pc = pc; t = t; data_stack = data_stack; return_stack = return_stack; memory = memory };
      input = input;
      printed = printed;
      data_depth = data_depth;
      return_depth = return_depth;
      stop = stop;
    }

by_parts : (f : ℕ → ℕ → RingCells → RingCells → List ℕ → List ℕ → List ℕ → ℤ → ℤ → Option Stop → RoundConfiguration)
    (a a' b b' : ℕ) (c c' d d' : RingCells) (e e' g g' h h' : List ℕ) (i i' j j' : ℤ) (k k' : Option Stop) →
    a ≡ a' → b ≡ b' → c ≡ c' → d ≡ d' → e ≡ e' → g ≡ g' → h ≡ h' → i ≡ i' → j ≡ j' → k ≡ k' → f a b c d e g h i j k ≡ f a' b' c' d' e' g' h' i' j' k'
by_parts f a a' b b' c c' d d' e e' g g' h h' i i' j j' k k' p q r s t u v w x y = cc

same_chip : (z y : RoundConfiguration) → z.core.pc ≡ y.core.pc → z.core.t ≡ y.core.t → z.core.data_stack ≡ y.core.data_stack → z.core.return_stack ≡ y.core.return_stack →
    z.core.memory ≡ y.core.memory → z.input ≡ y.input → z.printed ≡ y.printed → z.data_depth ≡ y.data_depth → z.return_depth ≡ y.return_depth → z.stop ≡ y.stop → z ≡ y
same_chip z y p q r s t u v w x e = by_parts chip_of _ _ _ _ _ _ _ _ _ _ _ _ _ _ _ _ _ _ _ _ p q r s t u v w x e

-- what both stand at before and behind makes the return
module _ (code memory space input printed addresses : List ℕ) (place address : ℕ) (s : Surroundings) (da ra da' ra' : List (Option ℕ)) (chip z : RoundConfiguration)
    (a : Agrees (stands_at place [] memory (called_from address s) da ra) chip)
    (b : Agrees (stands_at (place_of address) [] (code ++ space) (record s { input = input; printed = s.printed ++ printed }) da' (Some address ∷ ra')) z)
    (few : length s.returns < 32) (known : s.returns ≡ map Some addresses)
    (down : StackAgrees (tape_moved (negsuc 0) (stands_at place [] memory (called_from address s) da ra).core.return_stack) (ring_moved (negsuc 0) chip.core.return_stack)) where
  abbrev returned : RoundReturn
  returned = record { back = given_back space input printed; t = z.core.t; data_cells = z.core.data_stack.cells; return_cells = z.core.return_stack.cells }

  no_data : counted chip.data_depth ≡ 0
  no_data = ap counted (sym a.data_depth)

  below : counted chip.return_depth - 1 ≡ length s.returns
  below = let e : counted chip.return_depth ≡ suc (length s.returns) = ap counted (sym a.return_depth) in omega (arith, e)

  top : address ≡ ring_top chip.core.return_stack
  top = let ring = chip.core.return_stack in a.core.return_stack.cells 0 (omega arith) ∙ ap (slice_index ring.cells) (omega (arith, a.core.return_stack.low))

  at_same : z.core.return_stack.at ≡ (ring_moved (negsuc 0) chip.core.return_stack).at
  at_same = b.core.return_stack.at ∙ sym (down.at ∙ ap around (down_one (length s.returns)))

  place_same : (j : ℕ) → place_below j z.core.return_stack ≡ place_below j (ring_moved (negsuc 0) chip.core.return_stack)
  place_same j = ap (λ n. (n + 32 - j) % 32) at_same

  cells_same : (j : ℕ) → j < length s.returns →
      slice_index chip.core.return_stack.cells (place_below j (ring_moved (negsuc 0) chip.core.return_stack)) ≡ slice_index z.core.return_stack.cells (place_below j (ring_moved (negsuc 0) chip.core.return_stack))
  cells_same j lt =
      one_cell s.returns addresses j _ _ known lt (down.cells j (omega arith))
      (subst (λ n. CellAgrees (get_or s.returns j None) (slice_index z.core.return_stack.cells n)) (place_same j) (b.core.return_stack.cells j (omega arith)))

  pub is_return : z ≡ round_back code returned chip
  is_return =
      same_chip z (round_back code returned chip) (sym b.core.pc ∙ ap (λ n. n / 2 % 0x2000) top) (sym (ap (λ n. top_back n z.core.t chip.core.t) no_data))
      (same_ring z.core.data_stack (ring_back (counted chip.data_depth - 1) z.core.data_stack.cells chip.core.data_stack)
      (sym (ap (λ n. kept_below (n - 1) chip.core.data_stack z.core.data_stack.cells) no_data)) (b.core.data_stack.at ∙ sym a.core.data_stack.at))
      (same_ring z.core.return_stack (ring_back (counted chip.return_depth - 1) z.core.return_stack.cells (ring_moved (negsuc 0) chip.core.return_stack))
      (sym
      (ap (λ n. kept_below n (ring_moved (negsuc 0) chip.core.return_stack) z.core.return_stack.cells) below
      ∙ kept_same (length s.returns) (ring_moved (negsuc 0) chip.core.return_stack) z.core.return_stack.cells cells_same)) at_same) (sym b.core.memory) (sym b.input)
      (sym b.printed ∙ ap (λ x. x ++ printed) a.printed) (sym b.data_depth ∙ a.data_depth)
      (sym b.return_depth ∙ sym (down_one (length s.returns)) ∙ ap (λ d. d +ℤ negsuc 0) a.return_depth) (sym b.stop ∙ a.stop)

pub returns_go_back_on_chip : RingLaws → ReturnsGoBackOnChip
returns_go_back_on_chip laws count high return_high place address memory code space input printed addresses s da ra chip come h h' few known a =
    let w : OpenConfiguration = stands_at place [] memory (called_from address s) da ra in
    let z : RoundConfiguration = run round_storage 0x2000 count chip in
    let b = subst (λ u. Agrees u z) come.makes (agrees_on laws count w chip a (laws.fit 0 high 0 return_high count 0x2000 w h h' come.bounds) (ap (λ u. u.stop) come.makes)) in
    let down = laws.down w.core.return_stack chip.core.return_stack a.core.return_stack (height_le (suc (length s.returns)) 32 (Some address ∷ s.returns) (omega arith) (height_length (Some address ∷ s.returns))) in
    record {
      returned = returned code memory space input printed addresses place address s da ra come.data_above come.return_above chip z a b (omega arith) known down;
      back_is = refl;
      rings = record { data_size = b.core.data_stack.size; return_size = b.core.return_stack.size };
      makes = is_return code memory space input printed addresses place address s da ra come.data_above come.return_above chip z a b (omega arith) known down;
    }
