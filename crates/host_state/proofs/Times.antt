-- The definitions compute: the checker lays down cells and bytes.
use Rattle.std.proofs.Common.{◌≡◌, [], refl}
use Rattle.std.specs.Prelude.{ℕ, zero, suc, ◌%◌}
use Rattle.host_state.specs.HostCells.{Host, Reply, Gives, Refuses, ◌▸◌, push}
use Rattle.host_state.specs.HostMemory.{first_space, here_of}
use Rattle.host_state.specs.HostWords.{word_done}
use Rattle.host_state.specs.declared.word.HostWord.TheVariants.{Comma, CComma}

-- n cells laid down
commas : ℕ → Host → Reply (Unit {0})
commas zero s = Gives tt s
commas (suc n) s = (push (suc n) s ▸ λ _. word_done Comma) ▸ λ _. commas n

here_after : Reply (Unit {0}) → ℕ
here_after (Gives _ s) = here_of s.space
here_after (Refuses c) = 0

first : Host
first = record { stack = []; space = first_space 8192; tokens = [] }

two_hundred : here_after (commas 200 first) ≡ 8720
unfolding commas here_after first
two_hundred = refl

-- n bytes laid down
byte_commas : ℕ → Host → Reply (Unit {0})
byte_commas zero s = Gives tt s
byte_commas (suc n) s = (push (n % 256) s ▸ λ _. word_done CComma) ▸ λ _. byte_commas n

four_hundred : here_after (byte_commas 400 first) ≡ 8720
unfolding byte_commas here_after first
four_hundred = refl
