-- Depths that are held at the ends of 64 bits.
use Rattle.std.proofs.Common.{◌≡◌, refl, ap, arith, true, false, pos, negsuc, ℤ}
use Rattle.std.specs.Prelude.{Bool, ◌&&◌, IsTrue}
use Rattle.std.proofs.lemmas.Bool.Decides.{nat_tests}
use Rattle.j1_simulator.specs.MachineState.{held}
use Rattle.j1_simulator.specs.Drive.{in_64_bits}

pub both_hold : (a b : Bool) → IsTrue (a && b) → IsTrue a × IsTrue b
both_hold true b h = (refl, h)
both_hold false b h = cc

pub held_fits : (z : ℤ) → IsTrue (in_64_bits z) → held z ≡ z
held_fits (pos n) h = ap pos (grind (arith, nat_tests))
held_fits (negsuc n) h = ap negsuc (grind (arith, nat_tests))
