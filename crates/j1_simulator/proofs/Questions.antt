-- How often the console is asked, and what it has given.
use Rattle.std.proofs.Common.{◌≡◌, ℕ, ◌+◌, ◌≤◌, List, [], ◌∷◌, ◌++◌, Option, Some, None, refl, sym, ap, ◌∙◌, subst, arith, append_assoc}
use Rattle.std.specs.Prelude.{Result, Ok, Err}
use Rattle.outside_io.specs.Causes.{risen}
use Rattle.std.specs.Io.KnownBytes.{Consumes}
use Rattle.j1_simulator.specs.declared.ends.End.{End}
use Rattle.j1_simulator.specs.declared.ends.End.TheVariants.{Outside, InputEnded, Halted}
use Rattle.j1_simulator.specs.declared.ends.Finish.{Finish}
use Rattle.j1_simulator.specs.declared.ends.DriveError.{DriveError}
use Rattle.j1_simulator.specs.declared.ends.DriveError.TheVariants.{Read, Write}
use Rattle.j1_simulator.specs.Drive.{in_vain}
use Rattle.j1_simulator.specs.Turn.{LeftAfter, asks}

-- a question that met the end of the input
abbrev pub vain : Option End → ℕ
vain None = 0
vain (Some InputEnded) = 1
vain (Some (Outside address)) = 0
vain (Some (Halted status)) = 0

pub vain_grows : (old new : Option End) → ((end : End) → old ≡ Some end → new ≡ Some end) → vain old ≤ vain new
vain_grows None new over = omega arith
vain_grows (Some end) new over = let e : vain new ≡ vain (Some end) = ap vain (over end refl) in omega (arith, e)

-- it was in vain
pub vain_in : (result : Result Finish DriveError) (end : Option End) → vain end ≤ in_vain result end
vain_in (Ok finish) None = omega arith
vain_in (Ok finish) (Some InputEnded) = omega arith
vain_in (Ok finish) (Some (Outside address)) = omega arith
vain_in (Ok finish) (Some (Halted status)) = omega arith
vain_in (Err Read) None = omega arith
vain_in (Err Read) (Some InputEnded) = omega arith
vain_in (Err Read) (Some (Outside address)) = omega arith
vain_in (Err Read) (Some (Halted status)) = omega arith
vain_in (Err Write) None = omega arith
vain_in (Err Write) (Some InputEnded) = omega arith
vain_in (Err Write) (Some (Outside address)) = omega arith
vain_in (Err Write) (Some (Halted status)) = omega arith

-- a question that failed
abbrev pub read_failed : Result (Option End) DriveError → ℕ
read_failed (Err Read) = 1
read_failed (Err Write) = 0
read_failed (Ok end) = 0

-- a question for a byte that was not given by hand
abbrev pub asked : Option (Option ℕ) → Option (Option ℕ) → ℕ
asked None (Some byte) = 1
asked None None = 0
asked (Some key) taken = 0

pub asks_at_most : (r : Result (Option End) DriveError) (given taken : Option (Option ℕ)) → asks r given taken ≤ asked given taken + read_failed r
asks_at_most (Err Read) None None = omega arith
asks_at_most (Err Read) None (Some byte) = omega arith
asks_at_most (Err Read) (Some key) taken = omega arith
asks_at_most (Err Write) None None = omega arith
asks_at_most (Err Write) None (Some byte) = omega arith
asks_at_most (Err Write) (Some key) taken = omega arith
asks_at_most (Ok end) None None = omega arith
asks_at_most (Ok end) None (Some byte) = omega arith
asks_at_most (Ok end) (Some key) taken = omega arith

risen_most : (count : ℕ) → risen count ≤ count + 1
risen_most count = omega arith

one_byte : (r : Result (Option End) DriveError) (byte : Option ℕ) → 1 ≤ asks r None (Some byte)
one_byte (Err Read) byte = omega arith
one_byte (Err Write) byte = omega arith
one_byte (Ok end) byte = omega arith

-- a question that was answered
pub asked_once : (r : Result (Option End) DriveError) (given : Option (Option ℕ)) (byte : Option ℕ) (before now : ℕ) → given ≡ None → now ≡ risen before → now ≤ before + asks r given (Some byte)
asked_once r given byte before now none e =
    subst (λ g. now ≤ before + asks r g (Some byte)) (sym none) (let one = one_byte r byte in let most = risen_most before in omega (arith, one, most, e))

-- a question that failed
pub asked_badly : (r : Result (Option End) DriveError) (given taken : Option (Option ℕ)) (before now : ℕ) → r ≡ Err Read → now ≡ risen before → now ≤ before + asks r given taken
asked_badly r given taken before now failed e =
    subst (λ r. now ≤ before + asks r given taken) (sym failed) (let most = risen_most before in omega (arith, most, e))

-- ---- the bytes that a console has given, over one instruction

pub took_hand : (told left after : Option (List ℕ)) (bytes : List ℕ) → after ≡ left → Consumes told left bytes → Consumes told after bytes
took_hand told left after bytes e t = subst (λ l. Consumes told l bytes) (sym e) t

pub took_none : (told left after : Option (List ℕ)) (bytes : List ℕ) → LeftAfter None left after → Consumes told left bytes → Consumes told after bytes
took_none None left after bytes l t = tt
took_none (Some all) None after bytes l t = absurd t
took_none (Some all) (Some input) after bytes l t = subst (λ x. Consumes (Some all) x bytes) (sym l) t

pub took_no_byte : (told left after : Option (List ℕ)) (bytes : List ℕ) → LeftAfter (Some None) left after → Consumes told left bytes → Consumes told after bytes
took_no_byte None left after bytes l t = tt
took_no_byte (Some all) None after bytes l t = absurd t
took_no_byte (Some all) (Some []) after bytes l t = subst (λ x. Consumes (Some all) x bytes) (sym l.1) t
took_no_byte (Some all) (Some (byte ∷ input)) after bytes l t = let clash : None ≡ Some byte = l.0 in cc

pub took_byte : (told left after : Option (List ℕ)) (bytes : List ℕ) (byte : ℕ) → LeftAfter (Some (Some byte)) left after → Consumes told left bytes → Consumes told after (bytes ++ byte ∷ [])
took_byte None left after bytes byte l t = tt
took_byte (Some all) None after bytes byte l t = absurd t
took_byte (Some all) (Some []) after bytes byte l t = let clash : Some byte ≡ None = l.0 in cc
took_byte (Some all) (Some (first ∷ input)) after bytes byte l t =
    let same : byte ≡ first = cc in
    let whole : all ≡ (bytes ++ byte ∷ []) ++ input = t ∙ ap (λ b. bytes ++ b ∷ input) (sym same) ∙ sym (append_assoc bytes (byte ∷ []) input) in
    subst (λ x. Consumes (Some all) x (bytes ++ byte ∷ [])) (sym l.1) whole
