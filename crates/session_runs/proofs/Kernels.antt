-- A kernel whose text and called code follow the sessions of all admitted lines answers sessions.
use Rattle.std.proofs.Common.{◌≡◌, ℕ, ◌<◌, nat_le, Bool, true, false, ◌&&◌, IsTrue, List, length, get_or, refl, arith}
use Rattle.std.specs.List.{list_all}
use Rattle.std.proofs.lemmas.List.Sums.{AllPass-from_list_all}
use Rattle.j1_simulator.specs.RoundMachine.{round_storage}
use Rattle.j1_simulator.specs.Laws.{OnlyGrows}
use Rattle.code_layout.specs.Agreement.{AreBytes}
use Rattle.session_machine.specs.Admitted.{is_typed}
use Rattle.session_runs.specs.Laws.{KernelsAnswerSessions}
use Rattle.session_runs.proofs.InWords.{forward, backward}

first_of : (a b : Bool) → IsTrue (a && b) → IsTrue a
first_of true b h = refl
first_of false b h = absurd (let g : false ≡ true = h in cc)

second_of : (a b : Bool) → IsTrue (a && b) → IsTrue b
second_of true b h = h
second_of false b h = absurd (let g : false ≡ true = h in cc)

typed_is_byte : (byte : ℕ) → IsTrue (is_typed byte) → byte < 256
typed_is_byte byte h = let k : IsTrue (nat_le byte 126) = second_of (nat_le 32 byte) (nat_le byte 126) h in grind (arith, k)

typed_are_bytes : (bytes : List ℕ) → IsTrue (list_all is_typed bytes) → AreBytes bytes
typed_are_bytes bytes h = λ k d lt. typed_is_byte (get_or bytes k d) (AllPass-from_list_all is_typed bytes h k d lt)

pub kernels : OnlyGrows round_storage → KernelsAnswerSessions
kernels grow library p each = record {
  forward = λ lines more k admitted bytes. let f = each lines more admitted bytes in
      forward grow (record { library = library; p = p; lines = lines; more = more; calls = f.calls }) f.agrees f.follows k;
  backward = λ lines more n admitted u.
      let f = each lines more admitted (typed_are_bytes more (second_of (nat_le (length more) 80) (list_all is_typed more) u)) in
      backward grow (record { library = library; p = p; lines = lines; more = more; calls = f.calls }) f.agrees f.follows n u;
}
