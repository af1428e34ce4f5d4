-- `:` begins a definition.
use Rattle.std.proofs.Common.{◌≡◌, ◌≢◌, ◌⊎◌, inl, inr, ℕ, zero, suc, ◌+◌, ◌-◌, ◌*◌, ◌/◌, ◌%◌, ◌≤◌, ◌<◌, false, List, [], ◌∷◌, refl, ap, ap₂}
use Rattle.std.proofs.Common.{sym, ◌∙◌, subst, arith, lt-ltb}
use Rattle.std.specs.Prelude.{slice_index}
use Rattle.console_ports.specs.Ports.{even}
use Rattle.forth_program.specs.State.{World}
use Rattle.forth_program.specs.Program.{SourceProgram}
use Rattle.kernel_words.specs.Places.{here_cell, latest_cell, length_cell, reached_cell, source_cell, word_buffer}
use Rattle.kernel_words.specs.Bodies.{next_word_body}
use Rattle.kernel_words.specs.Memory.{IsDataSpace, KeepsConsole, data_cell, data_byte, data_bytes, with_data_cell}
use Rattle.kernel_words.specs.Headers.{Header, Headers}
use Rattle.kernel_words.specs.Laws.{kept_size, WordIsKept, NextWordsAreKept, HeaderFits, HeaderIsMade, HeadersAreMade, AreBelow}
use Rattle.kernel_words.specs.Laws.{ListIsLonger}
use Rattle.kernel_words.proofs.Runs.{within}
use Rattle.kernel_words.proofs.Memory.{by_bit, cell_alike, cell_fits, cell_kept, console_then}
use Rattle.kernel_lines.specs.Places.{state_cell, new_cell, open_count_cell, leaves_cell, loops_cell}
use Rattle.kernel_definitions.specs.Bodies.{HasDefiningWords, kernel_colon_body}
use Rattle.kernel_definitions.specs.Stores.{stored}
use Rattle.kernel_definitions.specs.OpenDefinition.{LieBelow}
use Rattle.kernel_definitions.specs.Beginning.{MayBegin, IsBegun, DefinitionsAreBegun}
use Rattle.kernel_definitions.proofs.Stores.{AreCells, stored_keep, missed, hit}
use Rattle.kernel_definitions.proofs.Standing.{Alike, byte_alike, chain_kept}
use Rattle.kernel_definitions.proofs.ColonRun.{define_returns, colon_returns}

-- ---- cells by their bytes
one_cell : (w : World) (a b : ℕ) → a / 2 ≡ b / 2 → data_cell w a ≡ data_cell w b
unfolding data_cell
one_cell w a b same = ap (λ i. slice_index w.space (i - 4096)) same

pub alike_by_bytes : (v w : World) (low high : ℕ) → low % 2 ≡ 0 → high % 2 ≡ 0 →
    ((b : ℕ) → low ≤ b → b < high → data_byte v b ≡ data_byte w b) → Alike v w low high
alike_by_bytes v w low high el eh same b f g = by_bit b
    (λ e. cell_alike v w b e (same b f g) (same (suc b) (omega (arith, f)) (omega (arith, g, e, eh))))
    (λ e. let down : b ≡ suc (b - 1) = omega (arith, e) in
    let half : b / 2 ≡ (b - 1) / 2 = omega (arith, e) in
    one_cell v b (b - 1) half
    ∙ cell_alike v w (b - 1) (omega (arith, e)) (same (b - 1) (omega (arith, f, e, el)) (omega (arith, g)))
    (ap (data_byte v) (sym down) ∙ same b f g ∙ ap (data_byte w) down)
    ∙ sym (one_cell w b (b - 1) half))

pub bytes_alike : (v w : World) (n a b : ℕ) → ((i : ℕ) → i < n → data_byte v (a + i) ≡ data_byte w (b + i)) →
    data_bytes v n a ≡ data_bytes w n b
bytes_alike v w zero a b f = refl
bytes_alike v w (suc n) a b f = ap₂ (λ x xs. x ∷ xs) (ap (data_byte v) (none a) ∙ f 0 (omega arith) ∙ ap (data_byte w) (sym (none b)))
    (bytes_alike v w n (suc a) (suc b) (λ i g. ap (data_byte v) (next a i) ∙ f (suc i) (omega (arith, g))
    ∙ ap (data_byte w) (sym (next b i))))
  where
    none : (a : ℕ) → a ≡ a + 0
    none a = omega arith

    next : (a i : ℕ) → suc a + i ≡ a + suc i
    next a i = omega arith

-- ---- lists of headers
lie_wider : (w : World) (end end' h : ℕ) (headers : List Header) → end ≤ end' → LieBelow w end h headers → LieBelow w end' h headers
lie_wider w end end' h [] f l = tt
lie_wider w end end' h (header ∷ older) f l = let room = l.1 in
    (l.0, omega (arith, room, f), lie_wider w end end' (data_cell w h) older f l.2)

below : (w : World) (end h : ℕ) (headers : List Header) → LieBelow w end h headers → AreBelow w end h headers
below w end h [] l = tt
below w end h (header ∷ older) l = let low = l.0 in (l.1, (λ j f e. omega (arith, low, e)), below w end (data_cell w h) older l.2)

whole : (n : ℕ) → n ≤ 31 → kept_size n ≡ n
whole n f = rw (lt-ltb n 80 (omega (arith, f))) refl

-- the stores of `:` behind the header
module _ (u : World) (s : IsDataSpace u) (h old : ℕ) (fh : h < 65536) (fo : old < 65536) where
  abbrev stores : List (ℕ × ℕ)
  stores = (state_cell, 65535) ∷ (loops_cell, 0) ∷ (leaves_cell, 0) ∷ (open_count_cell, 0) ∷ (latest_cell, old) ∷ (new_cell, h) ∷ []

  abbrev v : World
  v = stored stores u

  stores_are_cells : AreCells stores
  stores_are_cells = (omega arith, (omega arith, (omega arith, (omega arith, (fo, (fh, tt))))))

  keeps : KeepsConsole u v
  keeps = stored_keep stores u s stores_are_cells

  -- what none of them changes
  passed : (b : ℕ) → 8192 ≤ b → b / 2 ≢ state_cell / 2 → b / 2 ≢ loops_cell / 2 → b / 2 ≢ leaves_cell / 2 → b / 2 ≢ open_count_cell / 2 →
      b / 2 ≢ latest_cell / 2 → b / 2 ≢ new_cell / 2 → data_cell v b ≡ data_cell u b
  passed b low f1 f2 f3 f4 f5 f6 = missed stores u b low
      (omega arith, f1, (omega arith, f2, (omega arith, f3, (omega arith, f4, (omega arith, f5, (omega arith, f6, tt))))))

  above : (b : ℕ) → 8640 ≤ b → data_cell v b ≡ data_cell u b
  above b low = passed b (omega (arith, low)) (λ e. omega (arith, e, low)) (λ e. omega (arith, e, low)) (λ e. omega (arith, e, low))
      (λ e. omega (arith, e, low)) (λ e. omega (arith, e, low)) (λ e. omega (arith, e, low))

  state_is : data_cell v state_cell ≡ 65535
  state_is = hit ((loops_cell, 0) ∷ (leaves_cell, 0) ∷ (open_count_cell, 0) ∷ (latest_cell, old) ∷
      (new_cell, h) ∷ []) u state_cell 65535 state_cell s (omega arith, (omega arith, (omega arith, (fo, (fh, tt))))) (omega arith)
      (omega arith) refl

  count_is : data_cell v open_count_cell ≡ 0
  count_is = missed ((state_cell, 65535) ∷ (loops_cell, 0) ∷ (leaves_cell, 0) ∷ [])
      (stored ((open_count_cell, 0) ∷ (latest_cell, old) ∷ (new_cell, h) ∷ []) u) open_count_cell (omega arith)
      (omega arith, (λ e. omega (arith, e)), (omega arith, (λ e. omega (arith, e)), (omega arith, (λ e. omega (arith, e)), tt)))
      ∙ hit ((latest_cell, old) ∷ (new_cell, h) ∷ []) u open_count_cell 0 open_count_cell s (fo, (fh, tt)) (omega arith) (omega arith) refl

  latest_is : data_cell v latest_cell ≡ old
  latest_is = missed ((state_cell, 65535) ∷ (loops_cell, 0) ∷ (leaves_cell, 0) ∷ (open_count_cell, 0) ∷ [])
      (stored ((latest_cell, old) ∷ (new_cell, h) ∷ []) u) latest_cell (omega arith) (
        omega arith,
        (λ e. omega (arith, e)),
        (
          omega arith,
          (λ e. omega (arith, e)),
          (omega arith, (λ e. omega (arith, e)), (omega arith, (λ e. omega (arith, e)), tt)),
        ),
      )
      ∙ hit ((new_cell, h) ∷ []) u latest_cell old latest_cell s (fh, tt) (omega arith) (omega arith) refl

  new_is : data_cell v new_cell ≡ h
  new_is = missed ((state_cell, 65535) ∷ (loops_cell, 0) ∷ (leaves_cell, 0) ∷ (open_count_cell, 0) ∷ (latest_cell, old) ∷ [])
      (stored ((new_cell, h) ∷ []) u) new_cell (omega arith) (
        omega arith,
        (λ e. omega (arith, e)),
        (
          omega arith,
          (λ e. omega (arith, e)),
          (omega arith, (λ e. omega (arith, e)), (omega arith, (λ e. omega (arith, e)), (omega arith, (λ e. omega (arith, e)), tt))),
        ),
      )
      ∙ hit [] u new_cell h new_cell s tt (omega arith) (omega arith) refl

  here_is : data_cell v here_cell ≡ data_cell u here_cell
  here_is = passed here_cell (omega arith) (λ e. omega (arith, e)) (λ e. omega (arith, e)) (λ e. omega (arith, e)) (λ e. omega (arith, e))
      (λ e. omega (arith, e)) (λ e. omega (arith, e))

module _ (list : ListIsLonger) (p : SourceProgram) (d : HasDefiningWords p) (c : List ℕ) (w : World) (first size h a : ℕ)
    (older : List Header) (o : MayBegin w first size h a older)
    (t : WordIsKept p next_word_body (400 * (data_cell w length_cell + 1)) (300 + 250 * data_cell w length_cell) c c w
    (data_cell w source_cell) first size size) where
  -- ---- behind NEXT-WORD
  kept_cell : (b : ℕ) → b % 2 ≡ 0 → 8192 ≤ b → (b < 8402) ⊎ (8488 ≤ b) → data_cell t.after b ≡ data_cell w b
  kept_cell b e low (inl under) = let few = o.few in cell_alike t.after w b e
      (t.rest b low (λ z. omega (arith, z, under, e)) (λ i f z. omega (arith, z, under)))
      (t.rest (suc b) (omega (arith, low)) (λ z. omega (arith, z, under, e)) (λ i f z. omega (arith, z, under)))
  kept_cell b e low (inr over) = let few = o.few in cell_alike t.after w b e
      (t.rest b low (λ z. omega (arith, z, over, e)) (λ i f z. omega (arith, z, over, f, few)))
      (t.rest (suc b) (omega (arith, low)) (λ z. omega (arith, z, over, e)) (λ i f z. omega (arith, z, over, f, few)))

  here1 : data_cell t.after here_cell ≡ data_cell w here_cell
  here1 = kept_cell here_cell refl (omega arith) (inl (omega arith))

  latest1 : data_cell t.after latest_cell ≡ data_cell w latest_cell
  latest1 = let few = o.few in cell_alike t.after w latest_cell refl
      (t.rest latest_cell (omega arith) (λ z. omega (arith, z)) (λ i f z. omega (arith, z)))
      (t.rest 8405 (omega arith) (λ z. omega (arith, z)) (λ i f z. omega (arith, z)))

  -- h and a
  even_header : h % 2 ≡ 0
  even_header = let e = o.header in omega (arith, e)

  header_low : data_cell w here_cell ≤ h
  header_low = let e = o.header in omega (arith, e)

  header_room : h + 6 + size ≤ a
  header_room = let e = o.code in omega (arith, e)

  fits : HeaderFits t.after word_buffer size h
  fits =
      let low = o.low in
      let few = o.few in
      let e = here1 in
      let f = header_low in
      let g = header_room in
      let room = o.room in
      record {
        size = t.count;
        few = o.few;
        old = omega (arith, low, e);
        place = o.header ∙ ap (λ x. even (x + 1)) (sym here1);
        room = omega (arith, g, room);
        low = omega arith;
        high = omega (arith, few);
        text = λ i k. ((λ z. omega (arith, z)), inl (omega (arith, k, few, f, low)));
        latest = λ j k z. omega (arith, z, f, low);
      }

  module _ (m : HeaderIsMade p a word_buffer size h c t.after) where
    low_header : 8640 ≤ h
    low_header = let low = o.low in let f = header_low in omega (arith, low, f)

    high_header : h < 16384
    high_header = let g = header_room in let room = o.room in omega (arith, g, room)

    even_code : a % 2 ≡ 0
    even_code = let e = o.code in omega (arith, e)

    old_fits : data_cell t.after latest_cell < 65536
    old_fits = cell_fits t.after latest_cell t.console.space

    -- from behind the open structures up to the header nothing is changed
    same1 : Alike t.after w 8640 h
    same1 = let few = o.few in alike_by_bytes t.after w 8640 h refl even_header
        (λ b f g. t.rest b (omega (arith, f)) (λ z. omega (arith, z, f)) (λ i k z. omega (arith, z, f, k, few)))

    same2 : Alike m.after t.after 8640 h
    same2 = alike_by_bytes m.after t.after 8640 h refl even_header
        (λ b f g. m.rest b (omega (arith, f)) (λ z. omega (arith, z, f)) (λ z. omega (arith, z, f)) (inl g))

    name_is : data_bytes t.after size (word_buffer + 1) ≡ data_bytes w size first
    name_is = bytes_alike t.after w size (word_buffer + 1) first t.bytes

    abbrev new_header : Header
    new_header = record { name = data_bytes w size first; code = a; immediate = false }

    chain1 : Headers t.after (data_cell w latest_cell) older × LieBelow t.after (data_cell w here_cell) (data_cell w latest_cell) older
    chain1 = let f = header_low in chain_kept t.after w (data_cell w here_cell) (data_cell w latest_cell) older
        (λ b g k. same1 b g (omega (arith, k, f))) o.chain o.lie

    chain2 : Headers m.after h (new_header ∷ older)
    chain2 = subst (λ n. Headers m.after h (record { name = n; code = a; immediate = false } ∷ older)) name_is
        (list p a word_buffer size h c t.after older fits o.some (subst (λ l. Headers t.after l older) (sym latest1) chain1.0)
        (subst (λ l. AreBelow t.after (data_cell t.after here_cell) l older) (sym latest1)
        (subst (λ e. AreBelow t.after e (data_cell w latest_cell) older) (sym here1)
        (below t.after (data_cell w here_cell) (data_cell w latest_cell) older chain1.1))) m)

    lie2 : LieBelow m.after a h (new_header ∷ older)
    lie2 =
        let f = header_low in
        let g = header_room in
        let n = m.size in (
          low_header,
          omega (arith, g, n),
          subst (λ l. LieBelow m.after a l older) (sym (m.link ∙ latest1))
              (lie_wider m.after (data_cell w here_cell) a (data_cell w latest_cell) older (omega (arith, f, g))
              (chain_kept m.after t.after (data_cell w here_cell) (data_cell w latest_cell) older
              (λ b k l. same2 b k (omega (arith, l, f))) chain1.0 chain1.1).1),
        )

    abbrev last : World
    last = stored ((state_cell, 65535) ∷ (loops_cell, 0) ∷ (leaves_cell, 0) ∷ (open_count_cell, 0) ∷
        (latest_cell, data_cell t.after latest_cell) ∷ (new_cell, h) ∷ []) m.after

    fh : h < 65536
    fh = let f = high_header in omega (arith, f)

    chain3 : Headers last h (new_header ∷ older) × LieBelow last a h (new_header ∷ older)
    chain3 = chain_kept last m.after a h (new_header ∷ older)
        (λ b f g. above m.after m.console.space h (data_cell t.after latest_cell) fh old_fits b f) chain2 lie2

    console3 : KeepsConsole w last
    console3 = console_then w m.after last (console_then w t.after m.after t.console m.console)
        (keeps m.after m.console.space h (data_cell t.after latest_cell) fh old_fits)

    begun : IsBegun p kernel_colon_body (76 + 400 * (data_cell w length_cell + 1))
        (991 + 250 * data_cell w length_cell + 160 * size) c w c first size h a older
    begun =
        let few = o.few in
        let low = low_header in
        let high = high_header in
        let room = o.room in
        let g = header_room in
        let f = header_low in
        let lowest = o.low in
        let e1 = here1 in
        let s2 = m.console.space in
        let link : data_cell (with_data_cell new_cell h m.after) h ≡ data_cell t.after latest_cell =
        cell_kept m.after new_cell h h (omega arith) (omega (arith, low)) (λ z. omega (arith, z, low)) ∙ m.link in
        record {
          after = last;
          run = λ work es callers. within p (24 + (52 + 400 * (data_cell w length_cell + 1)))
              (41 + (650 + (300 + 250 * data_cell w length_cell) + 160 * size)) (omega arith) (omega arith)
              (colon_returns p d (52 + 400 * (data_cell w length_cell + 1)) (650 + (300 + 250 * data_cell w length_cell) + 160 * size) h
              (data_cell t.after latest_cell) c w m.after s2
              (define_returns p d (400 * (data_cell w length_cell + 1))
              (300 + 250 * data_cell w length_cell) size h a c w t.after m.after t.console.space t.run t.count o.some o.few
              (omega (arith, e1, f, high)) (o.header ∙ ap (λ x. even (x + 1))
              (sym here1)) o.code m.run) m.latest high low link old_fits work es callers);
          console = console3;
          open_now = record {
            space = console3.space;
            state = state_is m.after s2 h (data_cell t.after latest_cell) fh old_fits;
            new = new_is m.after s2 h (data_cell t.after latest_cell) fh old_fits;
            some = omega (arith, low);
            chain = chain3.0;
            lie = chain3.1;
            latest = latest_is m.after s2 h (data_cell t.after latest_cell) fh old_fits
                ∙ sym (above m.after s2 h (data_cell t.after latest_cell) fh old_fits h low ∙ m.link);
            even = even_code;
            low = omega (arith, low, g);
            here = here_is m.after s2 h (data_cell t.after latest_cell) fh old_fits ∙ m.here ∙ sym o.code ∙ none a;
            high = omega (arith, room);
            outer = tt;
            done = tt;
            count = count_is m.after s2 h (data_cell t.after latest_cell) fh old_fits;
            few = omega arith;
            structures = tt;
          };
          latest = latest_is m.after s2 h (data_cell t.after latest_cell) fh old_fits ∙ latest1;
          place = passed m.after s2 h (data_cell t.after latest_cell) fh old_fits reached_cell (omega arith) (λ e. omega (arith, e))
              (λ e. omega (arith, e)) (λ e. omega (arith, e)) (λ e. omega (arith, e)) (λ e. omega (arith, e)) (λ e. omega (arith, e))
              ∙ cell_alike m.after t.after reached_cell refl
              (m.rest reached_cell (omega arith) (λ z. omega (arith, z)) (λ z. omega (arith, z)) (inl (omega (arith, low))))
              (m.rest 8403 (omega arith) (λ z. omega (arith, z)) (λ z. omega (arith, z)) (inl (omega (arith, low)))) ∙ t.place;
          rest = λ b bl not_here not_reached not_latest not_word not_state not_new not_count not_leaves not_loops apart.
              byte_alike last m.after b (passed m.after s2 h
              (data_cell t.after latest_cell) fh old_fits b bl not_state not_loops not_leaves not_count not_latest not_new)
              ∙ m.rest b bl not_here not_latest apart ∙ t.rest b bl not_reached not_word;
        }
      where
        none : (n : ℕ) → n ≡ n + 0
        none n = omega arith

pub definitions_are_begun : NextWordsAreKept → HeadersAreMade → ListIsLonger → DefinitionsAreBegun
definitions_are_begun next made list p c w first size h a older d o =
    let few = o.few in
    let room = o.room in
    let code = o.code in
    let t : WordIsKept p next_word_body (400 * (data_cell w length_cell + 1)) (300 + 250 * data_cell w length_cell) c c w
    (data_cell w source_cell) first size size =
    subst (λ k. WordIsKept p next_word_body (400 * (data_cell w length_cell + 1)) (300 + 250 * data_cell w length_cell) c c w
    (data_cell w source_cell) first size k) (whole size few)
    (next p c w first size d.kernel o.space o.source o.apart o.word) in
    begun list p d c w first size h a older o t (made p a word_buffer size h c t.after d.kernel t.console.space (omega (arith, room))
    (fits list p d c w first size h a older o t))
