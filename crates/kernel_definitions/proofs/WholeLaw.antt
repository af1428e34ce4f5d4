-- A whole definition is read off a line: its beginning, its words, and its end.
use Rattle.std.proofs.Common.{◌≡◌, ◌≢◌, ◌⊎◌, inl, inr, ℕ, suc, ◌+◌, ◌-◌, ◌*◌, ◌/◌, ◌%◌, ◌≤◌, ◌<◌, ◌==◌, length, refl, ap₂, sym, ◌∙◌, subst}
use Rattle.std.proofs.Common.{arith}
use Rattle.std.specs.Prelude.{if◌then◌else◌}
use Rattle.forth_program.specs.State.{World}
use Rattle.kernel_words.specs.Places.{base_cell, latest_cell, length_cell, reached_cell, source_cell, error_cell, word_buffer}
use Rattle.kernel_words.specs.Running.{Comes}
use Rattle.kernel_words.specs.Memory.{data_cell, data_byte, data_bytes, leading_bytes}
use Rattle.kernel_words.specs.Laws.{place_past}
use Rattle.kernel_words.proofs.Runs.{followed, within}
use Rattle.kernel_words.proofs.Memory.{cell_alike, console_then}
use Rattle.kernel_lines.specs.Places.{first_here_cell, user_count_cell, state_cell, new_cell, kept_here_cell, kept_latest_cell}
use Rattle.kernel_lines.specs.Places.{open_count_cell}
use Rattle.kernel_lines.specs.Places.{leaves_cell, loops_cell}
use Rattle.kernel_definitions.specs.Places.{code_of_token}
use Rattle.kernel_definitions.specs.TypedItems.{items_size, words_of}
use Rattle.kernel_definitions.specs.Interpreting.{IsFound}
use Rattle.kernel_definitions.specs.Turns.{before_test, MeetsWord}
use Rattle.kernel_definitions.specs.WholeLine.{IsLine, WordsStand, turn_steps, turn_price, BodiesAreRead}
use Rattle.kernel_definitions.specs.Opening.{DefinitionsAreOpened}
use Rattle.kernel_definitions.specs.Ending.{DefinitionsAreKept}
use Rattle.kernel_definitions.specs.WholeDefinition.{DefinitionsAreTyped}
use Rattle.kernel_definitions.proofs.ColonLaw.{bytes_alike}
use Rattle.kernel_definitions.proofs.LineLaw.{SameLine, word_fits, word_kept, words_kept, line_kept}

-- ---- what keeps the line

-- the bytes below the open structures, but for those of HERE, of the cells from >IN to WORD-BUFFER and from STATE to KEPT-LATEST
abbrev Keeps : World → World → Type 0
Keeps w v = (b : ℕ) → 8192 ≤ b → b / 2 ≢ 4098 → (b < 8402) ⊎ (8488 ≤ b) → (b < 8492) ⊎ (8500 ≤ b) → b < 8568 → data_byte v b ≡ data_byte w b

module _ (w v : World) (keeps : Keeps w v) where
  cell : (b : ℕ) → b % 2 ≡ 0 → 8192 ≤ b → b / 2 ≢ 4098 → (b < 8401) ⊎ (8488 ≤ b) → (b < 8491) ⊎ (8500 ≤ b) → b < 8567 →
      data_cell v b ≡ data_cell w b
  cell b even low here k n top =
      cell_alike v w b even (keeps b low here (under k) (below n) (omega (arith, top)))
      (keeps (suc b) (omega (arith, low)) (λ z. here (omega (arith, z, even))) (under_too k) (below_too n) (omega (arith, top)))
    where
      under : (b < 8401) ⊎ (8488 ≤ b) → (b < 8402) ⊎ (8488 ≤ b)
      under (inl f) = inl (omega (arith, f))
      under (inr f) = inr f

      under_too : (b < 8401) ⊎ (8488 ≤ b) → (suc b < 8402) ⊎ (8488 ≤ suc b)
      under_too (inl f) = inl (omega (arith, f))
      under_too (inr f) = inr (omega (arith, f))

      below : (b < 8491) ⊎ (8500 ≤ b) → (b < 8492) ⊎ (8500 ≤ b)
      below (inl f) = inl (omega (arith, f))
      below (inr f) = inr f

      below_too : (b < 8491) ⊎ (8500 ≤ b) → (suc b < 8492) ⊎ (8500 ≤ suc b)
      below_too (inl f) = inl (omega (arith, f))
      below_too (inr f) = inr (omega (arith, f))

  same_line : (a : ℕ) → IsLine w a → SameLine w v
  same_line a l =
      let low = l.low in
      let high = l.high in
      record {
        source = cell source_cell refl (omega arith) (λ z. omega (arith, z)) (inr (omega arith)) (inl (omega arith)) (omega arith);
        size = cell length_cell refl (omega arith) (λ z. omega (arith, z)) (inl (omega arith)) (inl (omega arith)) (omega arith);
        base = cell base_cell refl (omega arith) (λ z. omega (arith, z)) (inl (omega arith)) (inl (omega arith)) (omega arith);
        first_here = cell first_here_cell refl (omega arith) (λ z. omega (arith, z)) (inr (omega arith)) (inr (omega arith)) (omega arith);
        users = cell user_count_cell refl (omega arith) (λ z. omega (arith, z)) (inr (omega arith)) (inr (omega arith)) (omega arith);
        error = cell error_cell refl (omega arith) (λ z. omega (arith, z)) (inr (omega arith)) (inl (omega arith)) (omega arith);
        bytes = λ b f g. keeps b (omega (arith, f, low)) (λ z. omega (arith, z, f, low)) (inl (omega (arith, g, high)))
            (inl (omega (arith, g, high))) (omega (arith, g, high));
      }

-- an address outside some bytes is none of them
not_at : (b a first end : ℕ) → first ≤ a → a + 2 ≤ end → a % 2 ≡ 0 → (b < first) ⊎ (end ≤ b) → b / 2 ≢ a / 2
not_at b a first end f g even (inl h) z = omega (arith, f, g, even, h, z)
not_at b a first end f g even (inr h) z = omega (arith, f, g, even, h, z)

from_buffer : (b : ℕ) → (b < 8402) ⊎ (8488 ≤ b) → (b < word_buffer) ⊎ (word_buffer + 82 ≤ b)
from_buffer b (inl f) = inl (omega (arith, f))
from_buffer b (inr f) = inr f

none_of : (b size : ℕ) → (b < 8402) ⊎ (8488 ≤ b) → size ≤ 80 → (i : ℕ) → i ≤ size → b ≢ word_buffer + i
none_of b size (inl f) few i g z = omega (arith, f, few, g, z)
none_of b size (inr f) few i g z = omega (arith, f, few, g, z)

pub definitions_are_typed : DefinitionsAreOpened → BodiesAreRead → DefinitionsAreKept → DefinitionsAreTyped
definitions_are_typed opens bodies keeps p c w first size first' size' last last_size h a older items d space meets =
    let colon = meets.begins in
    let line = colon.line in
    let start = colon.low in
    let header = colon.header in
    let code = colon.code in
    let room = meets.room in
    let under : 8640 ≤ h = omega (arith, start, header) in
    let beyond : h + 6 + size' ≤ a = omega (arith, code) in
    let o = opens p c w first size first' size' h a older d space colon in
    let v1 = o.after in
    let keeps1 : Keeps w v1 = λ b low here k n top. o.rest b low here (not_at b reached_cell 8402 8488 (omega arith) (omega arith) refl k)
    (not_at b latest_cell 8402 8488 (omega arith) (omega arith) refl k) (from_buffer b k)
    (not_at b state_cell 8492 8500 (omega arith) (omega arith) refl n) (not_at b new_cell 8492 8500 (omega arith) (omega arith) refl n)
    (λ z. omega (arith, z, top)) (λ z. omega (arith, z, top)) (λ z. omega (arith, z, top)) (inl (omega (arith, top, under))) in
    let same1 = same_line w v1 keeps1 a line in
    let stand1 : WordsStand v1 older (data_cell v1 reached_cell) (words_of items) meets.behind =
    subst (λ at. WordsStand v1 older at (words_of items) meets.behind) (sym o.place)
    (words_kept w v1 same1 older (place_past w (data_cell w source_cell) first' size') (words_of items) meets.behind meets.body) in
    let body = bodies p items c v1 h a (data_bytes w size' first') older meets.behind d o.open_now
    (line_kept w v1 same1 a line) meets.nested
    (omega (arith, room)) stand1 in
    let v2 = body.after in
    let keeps2 : Keeps v1 v2 = λ b low here k n top. body.rest b
    (record { low = low; here = here; entries = inl top; code = inl (omega (arith, top, under, beyond)) })
    (not_at b reached_cell 8402 8488 (omega arith) (omega arith) refl k) (from_buffer b k) in
    let both : Keeps w v2 = λ b low here k n top. keeps2 b low here k n top ∙ keeps1 b low here k n top in
    let same = same_line w v2 both a line in
    let line2 = line_kept w v2 same a line in
    let end = word_kept w v2 same meets.behind last last_size meets.end in
    let first_low = line2.low in
    let first_high = line2.high in
    let m : MeetsWord v2 last last_size = record {
      no_error = line2.no_error;
      source = record {
        low = omega (arith, first_low);
        high = omega (arith, first_high);
        place = subst (λ r. r ≤ data_cell v2 length_cell) (sym body.place) end.place;
      };
      apart = inl first_high;
      word = record {
        begins = subst (λ r. last ≡ data_cell v2 source_cell + r
            + leading_bytes v2 32 (data_cell v2 length_cell - r) (data_cell v2 source_cell + r)) (sym body.place) end.begins;
        ends = end.ends;
      };
      some = end.some;
      few = end.few;
      users = line2.users;
      base_low = line2.base_low;
      base_high = line2.base_high;
    } in
    let begins = meets.end.begins in
    let ends = meets.end.ends in
    let some = meets.end.some in
    let few = meets.end.few in
    let fits = word_fits w (data_cell w source_cell + data_cell w length_cell - last) last in
    let found : IsFound older (data_bytes v2 last_size last) 1 (code_of_token 6) =
    subst (λ text. IsFound older text 1 (code_of_token 6))
    (sym (bytes_alike v2 w last_size last last (λ i f. same.bytes (last + i) (omega (arith, begins)) (omega (arith, f, ends, fits, some)))))
    meets.semicolon in
    let k = keeps p c v2 last last_size h a (data_bytes w size' first') older items d body.still_open room line2.first_here m found in
    let size1 = same1.size in
    let size2 = same.size in
    record {
      after = k.after;
      run = λ work es callers. within p
          (800 * (data_cell w length_cell + 1) + 4000 * (length older + 1) + 250
          + (length (words_of items) * turn_steps (data_cell w length_cell) (length older)
          + (400 * (data_cell v2 length_cell + 1) + 4000 * (length older + 1) + 250)))
          (500 * data_cell w length_cell + 4000 * (length older + 1) + 160 * size' + 1600
          + (length (words_of items) * turn_price (data_cell w length_cell) (length older)
          + (250 * data_cell v2 length_cell + 4000 * (length older + 1) + 1000)))
          (sum_steps (length (words_of items) * turn_steps (data_cell w length_cell) (length older)) (data_cell w length_cell)
          (data_cell v2 length_cell) (length older) size2)
          (sum_price (length (words_of items) * turn_price (data_cell w length_cell) (length older)) (data_cell w length_cell)
          (data_cell v2 length_cell) (length older) size' size2)
          (followed p (o.run work es callers)
          (followed p
          (subst (λ n. Comes p (length (words_of items) * turn_steps n (length older))
          (length (words_of items) * turn_price n (length older))
          (before_test work es callers c v1) (before_test work es callers c v2)) size1 (body.run work es callers))
          (k.run work es callers)));
      console = console_then w v2 k.after (console_then w v1 v2 o.console body.console) k.console;
      cells = k.cells;
      here = k.here;
      latest = k.latest;
      chain = k.chain;
      lie = k.lie;
      state = k.state;
      new = k.new;
      kept_here = k.kept_here;
      kept_latest = k.kept_latest;
      place = k.place ∙ ap₂ (λ st l. if last + last_size == st + l then l else last + last_size + 1 - st) same.source same.size;
      rest = λ b low here places states entries code.
          k.rest b low here (not_at b latest_cell 8402 8488 (omega arith) (omega arith) refl places)
          (not_at b state_cell 8492 8500 (omega arith) (omega arith) refl states)
          (not_at b new_cell 8492 8500 (omega arith) (omega arith) refl states)
          (not_at b kept_here_cell 8492 8500 (omega arith) (omega arith) refl states)
          (not_at b kept_latest_cell 8492 8500 (omega arith) (omega arith) refl states)
          (not_at b reached_cell 8402 8488 (omega arith) (omega arith) refl places) (none_of b last_size places few)
          (not_code b (a + items_size items) h (omega (arith, beyond)) code)
          ∙ body.rest b (record {
            low = low;
            here = here;
            entries = not_entries b entries;
            code = outside b (a + items_size items) a h (omega (arith, beyond)) code;
          })
          (not_at b reached_cell 8402 8488 (omega arith) (omega arith) refl places) (from_buffer b places)
          ∙ o.rest b low here (not_at b reached_cell 8402 8488 (omega arith) (omega arith) refl places)
          (not_at b latest_cell 8402 8488 (omega arith) (omega arith) refl places) (from_buffer b places)
          (not_at b state_cell 8492 8500 (omega arith) (omega arith) refl states)
          (not_at b new_cell 8492 8500 (omega arith) (omega arith) refl states)
          (not_at b open_count_cell 8568 8640 (omega arith) (omega arith) refl entries)
          (not_at b leaves_cell 8568 8640 (omega arith) (omega arith) refl entries)
          (not_at b loops_cell 8568 8640 (omega arith) (omega arith) refl entries)
          (apart b (a + items_size items) h (h + 6 + size') (omega (arith, beyond)) code);
    }
  where
    sum_steps : (n l m o : ℕ) → m ≡ l →
        800 * (l + 1) + 4000 * (o + 1) + 250 + (n + (400 * (m + 1) + 4000 * (o + 1) + 250)) ≤ n + 1200 * (l + 1) + 8000 * (o + 1) + 500
    sum_steps n l m o e = omega (arith, e)

    sum_price : (n l m o s : ℕ) → m ≡ l →
        500 * l + 4000 * (o + 1) + 160 * s + 1600 + (n + (250 * m + 4000 * (o + 1) + 1000)) ≤ n + 750 * l + 8000 * (o + 1) + 160 * s + 2600
    sum_price n l m o s e = omega (arith, e)

    not_code : (b end h : ℕ) → h + 6 ≤ end → (b < h) ⊎ (end + 2 ≤ b) → b / 2 ≢ end / 2
    not_code b end h f (inl g) z = omega (arith, f, g, z)
    not_code b end h f (inr g) z = omega (arith, g, z)

    not_entries : (b : ℕ) → (b < 8568) ⊎ (8640 ≤ b) → (b < 8568) ⊎ (8634 ≤ b)
    not_entries b (inl f) = inl f
    not_entries b (inr f) = inr (omega (arith, f))

    outside : (b end a h : ℕ) → h + 6 ≤ a → (b < h) ⊎ (end + 2 ≤ b) → (b < a) ⊎ (end ≤ b)
    outside b end a h f (inl g) = inl (omega (arith, f, g))
    outside b end a h f (inr g) = inr (omega (arith, g))

    apart : (b end h top : ℕ) → top ≤ end + 2 → (b < h) ⊎ (end + 2 ≤ b) → (b < h) ⊎ (top ≤ b)
    apart b end h top f (inl g) = inl g
    apart b end h top f (inr g) = inr (omega (arith, f, g))
