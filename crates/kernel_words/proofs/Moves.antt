-- MOVE between places that are apart.
use Rattle.std.proofs.Common.{◌≡◌, ◌≢◌, ℕ, zero, suc, ◌+◌, ◌%◌, ◌≤◌, ◌<◌, refl, ap, sym, ◌∙◌, subst, arith}
use Rattle.std.specs.Prelude.{if◌then◌else◌, nat_lt}
use Rattle.cell_math.specs.Cell.{sum_of}
use Rattle.forth_program.specs.State.{World, Reply, Gives, ◌▸◌}
use Rattle.forth_program.specs.Access.{store_byte}
use Rattle.forth_program.specs.ByteWords.{copy_byte, move_down, move_up, move}
use Rattle.kernel_words.specs.Memory.{IsDataSpace, KeepsConsole, data_byte, with_data_byte}
use Rattle.kernel_words.proofs.Cases.{by_cases, by_less}
use Rattle.kernel_words.proofs.Memory.{byte_fetched, byte_storing, byte_fits, after_byte_store, same_console, console_then, byte_stored, byte_beside}

pub record Moved (n a b : ℕ) (w : World) (r : Reply (Unit {0})) : Type 0 where
  pub after : World
  pub moves : r ≡ Gives tt after
  pub console : KeepsConsole w after
  pub copy : (i : ℕ) → i < n → data_byte after (b + i) ≡ data_byte w (a + i)
  pub rest : (x : ℕ) → 8192 ≤ x → ((i : ℕ) → i < n → x ≢ b + i) → data_byte after x ≡ data_byte w x

copied : (w : World) (a b : ℕ) → IsDataSpace w → 8192 ≤ a → a < 16384 → 8192 ≤ b → b < 16384 → copy_byte a b w ≡ Gives tt (with_data_byte b (data_byte w a) w)
copied w a b h low high low' high' = ap (λ r. r ▸ λ c. store_byte b c) (byte_fetched w a h low high) ∙ byte_storing w b (data_byte w a) h low' high'

-- the last byte first
pub moved_down : (n a b : ℕ) (w : World) → IsDataSpace w → 8192 ≤ a → a + n ≤ 16384 → 8192 ≤ b → b + n ≤ 16384 → ((i j : ℕ) → i < n → j < n → a + i ≢ b + j) → Moved n a b w (move_down n a b w)
moved_down zero a b w h low high low' high' apart = record { after = w; moves = refl; console = same_console w h; copy = λ i k. absurd (omega (arith, k)); rest = λ x k away. refl }
moved_down (suc n) a b w h low high low' high' apart =
    let v = with_data_byte (b + n) (data_byte w (a + n)) w in
    let hv : KeepsConsole w v = after_byte_store w (b + n) (data_byte w (a + n)) h in
    let m = moved_down n a b v hv.space low (omega (arith, high)) low' (omega (arith, high')) (λ i j k l. apart i j (omega (arith, k)) (omega (arith, l))) in
    record {
      after = m.after;
      moves = rw (at_sum a n (omega (arith, high)), at_sum b n (omega (arith, high'))) (ap (λ r. r ▸ λ _. move_down n a b)
          (copied w (a + n) (b + n) h (omega (arith, low)) (omega (arith, high)) (omega (arith, low')) (omega (arith, high'))) ∙ m.moves);
      console = console_then w v m.after hv m.console;
      copy = λ i k. by_less i n
          (λ less. m.copy i less ∙ byte_beside w (b + n) (a + i) (data_byte w (a + n)) h (omega (arith, low')) (omega (arith, high')) (omega (arith, low)) (apart i n (omega (arith, k)) (omega arith)))
          (λ last. let same : i ≡ n = omega (arith, last, k) in
          ap (λ j. data_byte m.after (b + j)) same ∙ m.rest (b + n) (omega (arith, low')) (λ j l e. omega (arith, l, e)) ∙ byte_stored w (b + n) (data_byte w (a + n)) h (omega (arith, low')) (omega (arith, high'))
          ∙ small (data_byte w (a + n)) (byte_fits w (a + n) h) ∙ ap (λ j. data_byte w (a + j)) (sym same));
      rest = λ x k away. m.rest x k (λ i l. away i (omega (arith, l))) ∙ byte_beside w (b + n) x (data_byte w (a + n)) h (omega (arith, low')) (omega (arith, high')) k (away n (omega arith));
    }
  where
    at_sum : (a n : ℕ) → a + n < 65536 → sum_of a n ≡ a + n
    at_sum a n h = omega (arith, h)

    small : (x : ℕ) → x < 256 → x % 256 ≡ x
    small x h = omega (arith, h)

-- MOVE, the first byte first
pub moved_up : (n a b : ℕ) (w : World) → IsDataSpace w → 8192 ≤ a → a + n ≤ 16384 → 8192 ≤ b → b + n ≤ 16384 → ((i j : ℕ) → i < n → j < n → a + i ≢ b + j) → Moved n a b w (move_up n a b w)
moved_up zero a b w h low high low' high' apart = record { after = w; moves = refl; console = same_console w h; copy = λ i k. absurd (omega (arith, k)); rest = λ x k away. refl }
moved_up (suc n) a b w h low high low' high' apart =
    let v = with_data_byte b (data_byte w a) w in
    let hv : KeepsConsole w v = after_byte_store w b (data_byte w a) h in
    let m = moved_up n (a + 1) (b + 1) v hv.space (omega (arith, low)) (omega (arith, high)) (omega (arith, low')) (omega (arith, high'))
    (λ i j k l e. apart (suc i) (suc j) (omega (arith, k)) (omega (arith, l)) (omega (arith, e))) in
    record {
      after = m.after;
      moves = rw (next a (omega (arith, high)), next b (omega (arith, high'))) (ap (λ r. r ▸ λ _. move_up n (a + 1) (b + 1)) (copied w a b h low (omega (arith, high)) low' (omega (arith, high'))) ∙ m.moves);
      console = console_then w v m.after hv m.console;
      copy = first m.after (m.rest b low' (λ j l e. omega (arith, e))) m.copy;
      rest = λ x k away. m.rest x k (λ i l e. away (suc i) (omega (arith, l)) (omega (arith, e))) ∙ byte_beside w b x (data_byte w a) h low' (omega (arith, high')) k (λ e. away 0 (omega arith) (omega (arith, e)));
    }
  where
    next : (a : ℕ) → a < 65535 → sum_of a 1 ≡ a + 1
    next a h = omega (arith, h)

    plus_zero : (b : ℕ) → b + 0 ≡ b
    plus_zero b = omega arith

    plus_one : (b i : ℕ) → b + suc i ≡ b + 1 + i
    plus_one b i = omega arith

    small : (x : ℕ) → x < 256 → x % 256 ≡ x
    small x h = omega (arith, h)

    first : (u : World) → data_byte u b ≡ data_byte (with_data_byte b (data_byte w a) w) b → ((i : ℕ) → i < n → data_byte u (b + 1 + i) ≡ data_byte (with_data_byte b (data_byte w a) w) (a + 1 + i)) →
        (i : ℕ) → i < suc n → data_byte u (b + i) ≡ data_byte w (a + i)
    first u start more zero k = ap (data_byte u) (plus_zero b) ∙ start ∙ byte_stored w b (data_byte w a) h low' (omega (arith, high')) ∙ small (data_byte w a) (byte_fits w a h) ∙ ap (data_byte w) (sym (plus_zero a))
    first u start more (suc i) k = ap (data_byte u) (plus_one b i) ∙ more i (omega (arith, k)) ∙ byte_beside w b (a + 1 + i) (data_byte w a) h low' (omega (arith, high')) (omega (arith, low))
        (λ e. apart (suc i) 0 k (omega arith) (omega (arith, e))) ∙ ap (data_byte w) (sym (plus_one a i))

pub moved : (n a b : ℕ) (w : World) → IsDataSpace w → 8192 ≤ a → a + n ≤ 16384 → 8192 ≤ b → b + n ≤ 16384 → ((i j : ℕ) → i < n → j < n → a + i ≢ b + j) → Moved n a b w (move n a b w)
moved n a b w h low high low' high' apart = by_cases (nat_lt a b)
    (λ e. subst (λ t. Moved n a b w (if t then move_down n a b w else move_up n a b w)) (sym e) (moved_down n a b w h low high low' high' apart))
    (λ e. subst (λ t. Moved n a b w (if t then move_down n a b w else move_up n a b w)) (sym e) (moved_up n a b w h low high low' high' apart))
