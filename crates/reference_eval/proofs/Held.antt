-- Numeric output, part by part.
use Rattle.std.proofs.Common.{◌≡◌, ℕ, ◌+◌, Bool, true, false, refl, if◌then◌else◌}
use Rattle.forth_program.specs.State.{World, Reply, Stops, ◌▸◌, Halted}
use Rattle.forth_program.specs.Access.{store, store_byte, emit}
use Rattle.forth_program.specs.ByteWords.{type_out}
use Rattle.forth_program.specs.PicturedOutput.{hold_sign, hold_all, picture}
use Rattle.reference_eval.specs.Outside.{Scene}
use Rattle.reference_eval.specs.Steps.{is_in_hold_buffer}
use Rattle.reference_eval.specs.Answers.{Answer, Ended, Does}
use Rattle.reference_eval.proofs.AccessSequences.{at_start, picks_true, picks_false, halts}

-- a byte is held at this address
abbrev pub holds_at : ℕ → ℕ → World → Reply (Unit {0})
holds_at address byte w = store (w.data_start + 2) address w ▸ λ _. store_byte address byte

-- where the address lies in the hold buffer
abbrev pub may_hold : ℕ → ℕ → World → Reply (Unit {0})
may_hold address byte w = if is_in_hold_buffer w.data_start address then holds_at address byte w else Stops (Halted 12) w

pub has_room : (address byte : ℕ) (answer : Answer (Unit {0})) (s t : Scene) → is_in_hold_buffer s.memory.data_start address ≡ true → Does (holds_at address byte) answer s t → Does (may_hold address byte) answer s t
has_room address byte answer s t b d =
    at_start (λ start w. if is_in_hold_buffer start address then holds_at address byte w else Stops (Halted 12) w) s.memory.data_start answer s t refl
    (picks_true (is_in_hold_buffer s.memory.data_start address) (holds_at address byte) (λ w. Stops (Halted 12) w) answer s t b d)

pub has_no_room : (address byte : ℕ) (s : Scene) → is_in_hold_buffer s.memory.data_start address ≡ false → Does (may_hold address byte) (Ended (Halted 12)) s s
has_no_room address byte s b =
    at_start (λ start w. if is_in_hold_buffer start address then holds_at address byte w else Stops (Halted 12) w) s.memory.data_start (Ended (Halted 12)) s s refl
    (picks_false (is_in_hold_buffer s.memory.data_start address) (holds_at address byte) (λ w. Stops (Halted 12) w) (Ended (Halted 12)) s s b (halts 12 s))

-- what is left of printing a number: after its picture, after its sign, after its digits, and after the hold buffer was emptied
abbrev pub prints_picture : ℕ × ℕ → World → Reply (Unit {0})
prints_picture p w = type_out p.1 p.0 w ▸ λ _. emit 32

abbrev pub prints_held : World → Reply (Unit {0})
prints_held w = picture w ▸ prints_picture

abbrev pub prints_signed : Bool → World → Reply (Unit {0})
prints_signed negative w = hold_sign negative w ▸ λ _. prints_held

abbrev pub prints_digits : ℕ → Bool → World → Reply (Unit {0})
prints_digits size negative w = hold_all size w ▸ λ _. prints_signed negative
