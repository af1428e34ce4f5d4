-- The words of a definition are read off a line, one after the other.
use Rattle.std.proofs.Common.{◌≡◌, ◌≢◌, ◌⊎◌, inl, inr, ℕ, zero, suc, ◌+◌, ◌-◌, ◌*◌, ◌/◌, ◌%◌, ◌≤◌, ◌<◌, ◌==◌, Bool, true, false, List, []}
use Rattle.std.proofs.Common.{◌∷◌, length, refl, ap, ap₂, sym, ◌∙◌, subst, arith}
use Rattle.std.specs.Prelude.{if◌then◌else◌}
use Rattle.forth_program.specs.State.{World}
use Rattle.forth_program.specs.Program.{SourceProgram}
use Rattle.kernel_words.specs.Places.{base_cell, length_cell, reached_cell, word_buffer, source_cell, error_cell}
use Rattle.kernel_words.specs.Running.{Comes}
use Rattle.kernel_words.specs.Memory.{data_cell, data_byte, data_bytes, leading_bytes, bytes_before}
use Rattle.kernel_words.specs.Headers.{Header}
use Rattle.kernel_words.specs.Laws.{place_past}
use Rattle.kernel_words.proofs.Runs.{followed, there, within}
use Rattle.kernel_words.proofs.Memory.{cell_alike, console_then, same_console}
use Rattle.kernel_lines.specs.Places.{first_here_cell, user_count_cell}
use Rattle.kernel_definitions.specs.Bodies.{HasDefiningWords}
use Rattle.kernel_definitions.specs.TypedItems.{TypedWord, items_size, words_of}
use Rattle.kernel_definitions.specs.OpenDefinition.{OpenItems, nothing_read, end_of, IsOpen, IsOutside}
use Rattle.kernel_definitions.specs.Compiling.{ReadsTo, nesting}
use Rattle.kernel_definitions.specs.Interpreting.{StandsFor}
use Rattle.kernel_definitions.specs.Turns.{before_test, MeetsWord, TurnsAreMade}
use Rattle.kernel_definitions.specs.WholeLine.{IsWordAt, WordsStand, IsLine, turn_steps, turn_price, WordsAreDone, LinesOfWordsAreRead}
use Rattle.kernel_definitions.specs.WholeLine.{BodiesAreRead}
use Rattle.kernel_definitions.proofs.ColonLaw.{bytes_alike}
use Rattle.kernel_definitions.proofs.ItemWords.{items_are_read}

-- ---- bytes that are kept
leading_kept : (v w : World) (c n a : ℕ) → ((b : ℕ) → a ≤ b → b < a + n → data_byte v b ≡ data_byte w b) →
    leading_bytes v c n a ≡ leading_bytes w c n a
leading_kept v w c zero a same = refl
leading_kept v w c (suc n) a same = ap₂ (λ x y. if c == x then suc y else 0) (same a (omega arith) (omega arith))
    (leading_kept v w c n (suc a) (λ b f g. same b (omega (arith, f)) (omega (arith, g))))

before_kept : (v w : World) (c n a : ℕ) → ((b : ℕ) → a ≤ b → b < a + n → data_byte v b ≡ data_byte w b) →
    bytes_before v c n a ≡ bytes_before w c n a
before_kept v w c zero a same = refl
before_kept v w c (suc n) a same = ap₂ (λ x y. if c == x then 0 else suc y) (same a (omega arith) (omega arith))
    (before_kept v w c n (suc a) (λ b f g. same b (omega (arith, f)) (omega (arith, g))))

-- the line is as it was
pub record SameLine (w v : World) : Type 0 where
  pub source : data_cell v source_cell ≡ data_cell w source_cell
  pub size : data_cell v length_cell ≡ data_cell w length_cell
  pub base : data_cell v base_cell ≡ data_cell w base_cell
  pub first_here : data_cell v first_here_cell ≡ data_cell w first_here_cell
  pub users : data_cell v user_count_cell ≡ data_cell w user_count_cell
  pub error : data_cell v error_cell ≡ data_cell w error_cell
  pub bytes : (b : ℕ) → data_cell w source_cell ≤ b → b < data_cell w source_cell + data_cell w length_cell → data_byte v b ≡ data_byte w b

pub word_fits : (w : World) (n a : ℕ) → bytes_before w 32 n a ≤ n
word_fits w zero a = omega arith
word_fits w (suc n) a = fits (32 == data_byte w a) (bytes_before w 32 n (suc a)) (word_fits w n (suc a))
  where
    fits : (t : Bool) (x : ℕ) → x ≤ n → (if t then 0 else suc x) ≤ suc n
    fits true x f = omega arith
    fits false x f = omega (arith, f)

module _ (w v : World) (k : SameLine w v) where
  pub word_kept : (r first size : ℕ) → IsWordAt w r first size → IsWordAt v r first size
  word_kept r first size t =
      let place = t.place in
      let same_size = k.size in
      let begins = t.begins in
      record {
        place = omega (arith, place, same_size);
        begins = t.begins ∙ ap (λ n. data_cell w source_cell + r + n)
            (sym (leading_kept v w 32 (data_cell w length_cell - r) (data_cell w source_cell + r)
            (λ b f g. k.bytes b (omega (arith, f)) (omega (arith, g, place)))))
            ∙ ap₂ (λ s l. s + r + leading_bytes v 32 (l - r) (s + r)) (sym k.source) (sym k.size);
        ends = t.ends
            ∙ sym (before_kept v w 32 (data_cell w source_cell + data_cell w length_cell - first) first
            (λ b f g. k.bytes b (omega (arith, f, begins)) (omega (arith, f, g))))
            ∙ ap₂ (λ s l. bytes_before v 32 (s + l - first) first) (sym k.source) (sym k.size);
        some = t.some;
        few = t.few;
      }

  pub words_kept : (older : List Header) (r : ℕ) (words : List TypedWord) (r' : ℕ) → WordsStand w older r words r' →
      WordsStand v older r words r'
  words_kept older r [] r' s = s
  words_kept older r (word ∷ words) r' s =
      let first = s.0 in
      let size = s.1 in
      let t = s.2 in
      let begins = t.begins in
      let ends = t.ends in
      let fits = word_fits w (data_cell w source_cell + data_cell w length_cell - first) first in
      let some = t.some in (
        first,
        size,
        word_kept r first size t,
        s.3,
        subst (λ radix. StandsFor older radix (data_bytes v size first) word) (sym k.base)
            (subst (λ text. StandsFor older (data_cell w base_cell) text word)
            (sym (bytes_alike v w size first first (λ i f. k.bytes (first + i) (omega (arith, begins))
            (omega (arith, f, ends, fits))))) s.4),
        subst (λ at. WordsStand v older at words r')
            (sym (ap₂ (λ st l. if first + size == st + l then l else first + size + 1 - st) k.source k.size))
            (words_kept older (place_past w (data_cell w source_cell) first size) words r' s.5),
      )

  pub line_kept : (a : ℕ) → IsLine w a → IsLine v a
  line_kept a l =
      let source = k.source in
      let size = k.size in
      let base = k.base in
      let first = k.first_here in
      let users = k.users in
      let low = l.low in
      let high = l.high in
      let most = l.users in
      let base_low = l.base_low in
      let base_high = l.base_high in
      let behind = l.first_here in
      record {
        low = omega (arith, low, source);
        high = omega (arith, high, source, size);
        no_error = k.error ∙ l.no_error;
        users = omega (arith, users, most);
        base_low = omega (arith, base, base_low);
        base_high = omega (arith, base, base_high);
        first_here = omega (arith, first, behind);
      }

once_more : (n t : ℕ) → suc n * t ≡ t + n * t
once_more n t = grind arith

outside_sooner : (a end end' b : ℕ) → end' ≤ end → IsOutside a end b → IsOutside a end' b
outside_sooner a end end' b f o = record { low = o.low; here = o.here; entries = o.entries; code = by o.code }
  where
    by : (b < a) ⊎ (end ≤ b) → (b < a) ⊎ (end' ≤ b)
    by (inl under) = inl under
    by (inr over) = inr (omega (arith, over, f))

module _ (turns : TurnsAreMade) (p : SourceProgram) (d : HasDefiningWords p) (c : List ℕ) (h a : ℕ) (name : List ℕ) (older : List Header)
    (most end : ℕ) (few : most ≤ 16) (room : end ≤ 16288) (last : OpenItems) where
  read : (words : List TypedWord) (w : World) (items : OpenItems) (r' : ℕ) → IsOpen w h a name older items → IsLine w a →
      ReadsTo most end a words items last → WordsStand w older (data_cell w reached_cell) words r' →
      WordsAreDone p (length words) end c w h a name older last r'
  read [] w items r' o l e s = record {
    after = w;
    run = λ work es callers. there p;
    console = same_console w o.space;
    still_open = subst (λ x. IsOpen w h a name older x) e o;
    place = s;
    rest = λ b f g k. refl;
  }
  read (word ∷ words) w items r' o l e s =
      let next = e.0 in
      let entries_fit = e.2 in
      let ends = e.3 in
      let first = s.0 in
      let size = s.1 in
      let t = s.2 in
      let few_bytes = t.few in
      let low = l.low in
      let high = l.high in
      let code = o.low in
      let m : MeetsWord w first size = record {
        no_error = l.no_error;
        source = record { low = omega (arith, low); high = omega (arith, high); place = t.place };
        apart = inl high;
        word = record { begins = t.begins; ends = t.ends };
        some = t.some;
        few = t.few;
        users = l.users;
        base_low = l.base_low;
        base_high = l.base_high;
      } in
      let turn = turns p word c w first size h a name older items next d s.3 o e.1 (omega (arith, ends, room))
      (omega (arith, entries_fit, few)) l.first_here m s.4 in
      let v = turn.after in
      let outside = λ (b : ℕ) (f : 8192 ≤ b) (g : b / 2 ≢ 4098) (k : b < 8568). out next b f g k code in
      let byte = λ (b : ℕ) (f : 8192 ≤ b) (g : b / 2 ≢ 4098) (n : b / 2 ≢ 4201) (k : (b < 8406) ⊎ (8488 ≤ b)) (top : b < 8568). turn.rest b
      (outside b f g top) n (apart b size k few_bytes) in
      let cell = λ (b : ℕ) (even : b % 2 ≡ 0) (f : 8192 ≤ b) (g : b / 2 ≢ 4098) (n : b / 2 ≢ 4201) (k : (b < 8405) ⊎ (8488 ≤ b))
      (top : b < 8567).
      cell_alike v w b even (byte b f g n (sooner b k) (omega (arith, top)))
      (byte (suc b) (omega (arith, f)) (λ z. g (omega (arith, z, even))) (λ z. n (omega (arith, z, even))) (later b k)
      (omega (arith, top))) in
      let same : SameLine w v = record {
        source = cell source_cell refl (omega arith) (λ z. omega (arith, z)) (λ z. omega (arith, z)) (inr (omega arith)) (omega arith);
        size = cell length_cell refl (omega arith) (λ z. omega (arith, z)) (λ z. omega (arith, z)) (inl (omega arith)) (omega arith);
        base = cell base_cell refl (omega arith) (λ z. omega (arith, z)) (λ z. omega (arith, z)) (inl (omega arith)) (omega arith);
        first_here = cell first_here_cell refl (omega arith) (λ z. omega (arith, z)) (λ z. omega (arith, z)) (inr (omega arith))
            (omega arith);
        users = cell user_count_cell refl (omega arith) (λ z. omega (arith, z)) (λ z. omega (arith, z)) (inr (omega arith)) (omega arith);
        error = cell error_cell refl (omega arith) (λ z. omega (arith, z)) (λ z. omega (arith, z)) (inr (omega arith)) (omega arith);
        bytes = λ b f g. byte b (omega (arith, f, low)) (λ z. omega (arith, z, f, low)) (λ z. omega (arith, z, g, high))
            (inl (omega (arith, g, high))) (omega (arith, g, high));
      } in
      let others = read words v next r' turn.still_open (line_kept w v same a l) e.4
      (subst (λ at. WordsStand v older at words r') (sym turn.place)
      (words_kept w v same older (place_past w (data_cell w source_cell) first size) words r' s.5)) in
      record {
        after = others.after;
        run = λ work es callers. within p
            (400 * (data_cell w length_cell + 1) + 4000 * (length older + 1) + 1000 * (size + 1) + 250
            + length words * turn_steps (data_cell w length_cell) (length older))
            (250 * data_cell w length_cell + 4000 * (length older + 1) + 1300 * (size + 1) + 1000
            + length words * turn_price (data_cell w length_cell) (length older))
            (sum (length words) (turn_steps (data_cell w length_cell) (length older))
            (400 * (data_cell w length_cell + 1) + 4000 * (length older + 1) + 1000 * (size + 1) + 250) (omega (arith, few_bytes)))
            (sum (length words) (turn_price (data_cell w length_cell) (length older))
            (250 * data_cell w length_cell + 4000 * (length older + 1) + 1300 * (size + 1) + 1000) (omega (arith, few_bytes)))
            (followed p (turn.run work es callers)
            (subst (λ n. Comes p (length words * turn_steps n (length older)) (length words * turn_price n (length older))
            (before_test work es callers c v) (before_test work es callers c others.after)) same.size
            (others.run work es callers)));
        console = console_then w v others.after turn.console others.console;
        still_open = others.still_open;
        place = others.place;
        rest = λ b f g k. others.rest b f g k ∙ turn.rest b (outside_sooner a end (end_of next a) b ends f) g
            (apart_too b size k few_bytes);
      }
    where
      out : (next : OpenItems) (b : ℕ) → 8192 ≤ b → b / 2 ≢ 4098 → b < 8568 → 8640 ≤ a → IsOutside a (end_of next a) b
      out next b f g k code = record { low = f; here = g; entries = inl k; code = inl (omega (arith, k, code)) }

      apart : (b size : ℕ) → (b < 8406) ⊎ (8488 ≤ b) → size ≤ 80 → (i : ℕ) → i ≤ size → b ≢ word_buffer + i
      apart b size (inl under) f i g z = omega (arith, under, z)
      apart b size (inr over) f i g z = omega (arith, over, f, g, z)

      apart_too : (b size : ℕ) → (b < word_buffer) ⊎ (word_buffer + 82 ≤ b) → size ≤ 80 → (i : ℕ) → i ≤ size → b ≢ word_buffer + i
      apart_too b size (inl under) f i g z = omega (arith, under, z)
      apart_too b size (inr over) f i g z = omega (arith, over, f, g, z)

      sooner : (b : ℕ) → (b < 8405) ⊎ (8488 ≤ b) → (b < 8406) ⊎ (8488 ≤ b)
      sooner b (inl under) = inl (omega (arith, under))
      sooner b (inr over) = inr over

      later : (b : ℕ) → (b < 8405) ⊎ (8488 ≤ b) → (suc b < 8406) ⊎ (8488 ≤ suc b)
      later b (inl under) = inl (omega (arith, under))
      later b (inr over) = inr (omega (arith, over))

      sum : (n t x : ℕ) → x ≤ t → x + n * t ≤ suc n * t
      sum n t x f = let e = once_more n t in omega (arith, e, f)

pub lines_of_words_are_read : TurnsAreMade → LinesOfWordsAreRead
lines_of_words_are_read turns p words c w most end h a name older items last r' d o l e few room s =
    read turns p d c h a name older most end few room last words w items r' o l e s

pub bodies_are_read : TurnsAreMade → BodiesAreRead
bodies_are_read turns p items c w h a name older r' d o l deep room s =
    lines_of_words_are_read turns p (words_of items) c w (2 * nesting items) (a + items_size items) h a name older nothing_read
    (record { around = []; done = items }) r' d o l (items_are_read items a) (omega (arith, deep)) room s
