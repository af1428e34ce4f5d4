-- The definitions compute.
use Rattle.std.proofs.Common.{◌≡◌, ℕ, ◌+◌, ◌%◌, List, [], ◌∷◌, length, Some, refl, pos, negsuc, ◌+ℤ◌, ℤ, Option}
use Rattle.j1_table.specs.Image.{Content}
use Rattle.j1_table.specs.Instruction.{decoded}
use Rattle.j1_simulator.specs.Effect.{effect}
use Rattle.j1_simulator.specs.Step.{Advances, applied}
use Rattle.j1_simulator.specs.declared.effects.Output.TheVariants.{Silent}
use Rattle.j1_simulator.specs.OpenMachine.{Tape, open_storage}
use Rattle.j1_simulator.specs.Run.{round_run, open_run}

-- T+N, d-1, on any open stack whose two topmost cells are known
adds : (pc x y : ℕ) (data_start : ℕ) (below above : List (Option ℕ)) (at : ℤ) (back : Tape) (memory : List ℕ) →
    applied open_storage data_start (effect pc (decoded 0x6203)) (record { pc = pc; t = Some x; data_stack = record { below = Some y ∷ below; above = above; at = at }; return_stack = back; memory = memory })
    ≡ Advances
    (record {
      pc = (pc + 1) % 0x2000;
      t = Some ((x + y) % 0x10000);
      data_stack = record { below = below; above = Some y ∷ above; at = at +ℤ negsuc 0 };
      return_stack = record back { at = back.at +ℤ pos 0 };
      memory = memory;
    }) Silent
adds pc x y data_start below above at back memory = refl

hi : Content
hi = record { cells = 0x8048 ∷ 0xC000 ∷ 0x6023 ∷ 0x6103 ∷ []; bytes = []; data_start = 8192 }

-- prints H in 3 instructions (8048, C000 = literal 4000, store)
prints : (round_run hi [] 4).printed ≡ 0x48 ∷ []
unfolding hi
prints = refl

prints_open : (open_run hi [] 4).printed ≡ 0x48 ∷ []
unfolding hi
prints_open = refl

twice : (round_run hi [] 8).printed ≡ 0x48 ∷ 0x48 ∷ []
unfolding hi
twice = refl

many : length (round_run hi [] 160).printed ≡ 32
unfolding hi
many = refl

many_open : length (open_run hi [] 160).printed ≡ 32
unfolding hi
many_open = refl
