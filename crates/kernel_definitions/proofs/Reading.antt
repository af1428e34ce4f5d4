-- Each word of an open definition keeps what stands for the items that were read.
use Rattle.std.proofs.Common.{◌≡◌, ◌≢◌, ◌⊎◌, inl, inr, ℕ, suc, ◌+◌, ◌-◌, ◌/◌, ◌%◌, ◌≤◌, ◌<◌, false, List, [], ◌∷◌, ◌++◌, refl, sym, ◌∙◌}
use Rattle.std.proofs.Common.{subst, arith, le-ltb, lt-ltb}
use Rattle.forth_program.specs.State.{World}
use Rattle.forth_program.specs.Program.{SourceProgram}
use Rattle.kernel_words.specs.Places.{here_cell, latest_cell}
use Rattle.kernel_words.specs.Memory.{KeepsConsole, data_cell}
use Rattle.kernel_words.specs.Headers.{Header}
use Rattle.kernel_words.proofs.Runs.{within}
use Rattle.kernel_words.proofs.Cases.{by_less}
use Rattle.kernel_words.proofs.Memory.{console_then}
use Rattle.kernel_lines.specs.Places.{state_cell, new_cell, open_count_cell}
use Rattle.kernel_definitions.specs.Bodies.{HasDefiningWords, compile_literal_body, compile_call_body, kernel_if_body, kernel_begin_body}
use Rattle.kernel_definitions.specs.Stores.{stored, laid, entry, opened, HasRoom}
use Rattle.kernel_definitions.specs.TypedItems.{TypedItem, Number, Called, TypedItems, NoItem, added, item_size, items_size, number_size}
use Rattle.kernel_definitions.specs.TypedItems.{number_cells, item_cells, items_cells, CellsStand}
use Rattle.kernel_definitions.specs.OpenDefinition.{OpenStructure, InIf, InElse, InBegin, InWhile, OpenItems, inner, end_of, OuterStand}
use Rattle.kernel_definitions.specs.OpenDefinition.{entries, EntriesStand, IsOpen}
use Rattle.kernel_definitions.specs.Compiling.{IsRead}
use Rattle.kernel_definitions.proofs.Compiling.{compile_call_returns, compile_small_returns, compile_large_returns}
use Rattle.kernel_definitions.proofs.Structures.{if_returns, begin_returns}
use Rattle.kernel_definitions.proofs.Standing.{Alike, stand_join, items_length, size_added, items_kept, stand_added, inner_least}
use Rattle.kernel_definitions.proofs.Standing.{outer_kept, entries_kept, chain_kept}
use Rattle.kernel_definitions.proofs.Changes.{by_laid, by_opened}

pub items_even : (items : TypedItems) → items_size items % 2 ≡ 0
items_even items = let e = items_length items 0 in omega (arith, e)

pub inner_even : (around : List OpenStructure) (a : ℕ) → a % 2 ≡ 0 → inner around a % 2 ≡ 0
inner_even [] a e = e
inner_even (InIf before ∷ outer) a e = let f = inner_even outer a e in let g = items_even before in omega (arith, f, g)
inner_even (InElse before first ∷ outer) a e = let f = inner_even outer a e in let g = items_even before in
    let k = items_even first in omega (arith, f, g, k)
inner_even (InBegin before ∷ outer) a e = let f = inner_even outer a e in let g = items_even before in omega (arith, f, g)
inner_even (InWhile before test ∷ outer) a e = let f = inner_even outer a e in let g = items_even before in
    let k = items_even test in omega (arith, f, g, k)

-- where the innermost items begin and end
pub record Ends (a s e : ℕ) : Type 0 where
  pub least : a ≤ s
  pub even_start : s % 2 ≡ 0
  pub even_end : e % 2 ≡ 0

pub ends : (around : List OpenStructure) (done : TypedItems) (a : ℕ) → a % 2 ≡ 0 →
    Ends a (inner around a) (inner around a + items_size done)
ends around done a e =
    let f = inner_even around a e in
    let g = items_even done in
    record { least = inner_least around a; even_start = f; even_end = omega (arith, f, g) }

-- what is outside is apart from a cell of the code
pub away_from : (a b end e : ℕ) → (b < a) ⊎ (end ≤ b) → a ≤ e → e + 2 ≤ end → a % 2 ≡ 0 → e % 2 ≡ 0 → b / 2 ≢ e / 2
away_from a b end e (inl under) f g h k z = omega (arith, under, f, h, k, z)
away_from a b end e (inr over) f g h k z = omega (arith, over, g, k, z)

-- cells behind items
pub items_then : (w : World) (a : ℕ) (items : TypedItems) (ys : List ℕ) → CellsStand w a (items_cells items a) →
    CellsStand w (a + items_size items) ys → CellsStand w a (items_cells items a ++ ys)
items_then w a items ys s t = stand_join w a (items_cells items a) ys s
    (subst (λ n. CellsStand w (a + n) ys) (sym (items_length items a)) t)

pub less_one : (h : ℕ) → 1 ≤ h → h ≡ suc (h - 1)
less_one h f = omega (arith, f)

module _ (p : SourceProgram) (d : HasDefiningWords p) (c : List ℕ) (w : World) (h a : ℕ) (name : List ℕ) (older : List Header) where
  abbrev pub items_at : List OpenStructure → TypedItems → OpenItems
  items_at around done = record { around = around; done = done }

  pub still_open : (v : World) (items next : OpenItems) → IsOpen w h a name older items → KeepsConsole w v → Alike v w 8400 8568 →
      Alike v w 8640 a → data_cell v here_cell ≡ end_of next a → end_of next a ≤ 16384 →
      OuterStand v a next.around → CellsStand v (inner next.around a) (items_cells next.done (inner next.around a)) →
      data_cell v open_count_cell ≡ entries next.around → entries next.around ≤ 16 →
      EntriesStand v a next.around → IsOpen v h a name older next
  still_open v items next o k low code here high outer done count few structures =
      let chain = chain_kept v w a h (record { name = name; code = a; immediate = false } ∷ older) code o.chain o.lie in
      let l = o.lie.0 in
      let r = o.lie.1 in
      record {
        space = k.space;
        state = low state_cell (omega arith) (omega arith) ∙ o.state;
        new = low new_cell (omega arith) (omega arith) ∙ o.new;
        some = o.some;
        chain = chain.0;
        lie = chain.1;
        latest = low latest_cell (omega arith) (omega arith) ∙ o.latest ∙ sym (code h l (omega (arith, r)));
        even = o.even;
        low = o.low;
        here = here;
        high = high;
        outer = outer;
        done = done;
        count = count;
        few = few;
        structures = structures;
      }

  -- ---- a whole item
  pub item_read : (around : List OpenStructure) (done : TypedItems) (item : TypedItem) (v : World) →
      IsOpen w h a name older (items_at around done) →
      KeepsConsole w v → Alike v w 8400 (inner around a + items_size done) →
      CellsStand v (inner around a + items_size done) (item_cells item (inner around a + items_size done)) →
      data_cell v here_cell ≡ inner around a + items_size done + item_size item → inner around a + items_size (added done item) ≤ 16384 →
      IsOpen v h a name older (items_at around (added done item))
  item_read around done item v o k below stands here high =
      let at = ends around done a o.even in
      let least = at.least in
      let low = o.low in
      let few = o.few in
      let sum = size_added done item in
      still_open v (items_at around done) (items_at around (added done item)) o k (λ b f g. below b f (omega (arith, g, least, low)))
      (λ b f g. below b (omega (arith, f)) (omega (arith, g, least)))
      (omega (arith, here, sum)) high
      (outer_kept v w a around (λ b f g. below b (omega (arith, f, low)) (omega (arith, g))) o.outer)
      (stand_added v (inner around a) done item (items_kept v w (inner around a) done
      (λ b f g. below b (omega (arith, f, least, low)) g) o.done) stands)
      (below open_count_cell (omega arith) (omega (arith, least, low)) ∙ o.count) few
      (entries_kept v w a around (λ b f g. below b (omega (arith, f)) (omega (arith, g, few, least, low))) o.structures)

  pub called_read : (address : ℕ) (around : List OpenStructure) (done : TypedItems) → address < 65536 →
      IsOpen w h a name older (items_at around done) → inner around a + items_size (added done (Called address)) ≤ 16384 →
      IsRead p compile_call_body 78 280 (address ∷ c) w c h a name older (items_at around (added done (Called address)))
  called_read address around done f o high =
      let at = ends around done a o.even in
      let least = at.least in
      let low = o.low in
      let even = o.even in
      let ev = at.even_end in
      let sum = size_added done (Called address) in
      let e : ℕ = inner around a + items_size done in
      let room : HasRoom w (inner around a + items_size done) 2 =
      record { space = o.space; here = o.here; even = ev; low = omega (arith, least, low); high = omega (arith, high, sum) } in
      let l = by_laid w (inner around a + items_size done) (16384 + address / 2) o.space (omega (arith, least, low)) ev
      (omega (arith, high, sum)) (omega (arith, f)) in
      record {
        after = stored (laid (inner around a + items_size done) (16384 + address / 2)) w;
        run = λ work es callers. within p 8 57 (omega arith) (omega arith)
            (compile_call_returns p d address (inner around a + items_size done) c w room f work es callers);
        console = l.console;
        still_open = item_read around done (Called address)
            (stored (laid (inner around a + items_size done) (16384 + address / 2)) w) o l.console l.below (l.cell, tt) l.here high;
        rest = λ b r. l.outside b r.low r.here (away_from a b (inner around a + items_size (added done (Called address)))
            (inner around a + items_size done) r.code (omega (arith, least)) (omega (arith, sum)) even ev);
      }

  pub number_read : (x : ℕ) (around : List OpenStructure) (done : TypedItems) → x < 65536 → IsOpen w h a name older (items_at around done) →
      inner around a + items_size (added done (Number x)) ≤ 16384 →
      IsRead p compile_literal_body 78 280 (x ∷ c) w c h a name older (items_at around (added done (Number x)))
  number_read x around done f o high =
      let at = ends around done a o.even in
      let least = at.least in
      let low = o.low in
      let even = o.even in
      let ev = at.even_end in
      let sum = size_added done (Number x) in
      by_less x 32768
      (λ less.
      let size : number_size x ≡ 2 = rw (lt-ltb x 32768 less) refl in
      let cells : number_cells x ≡ (32768 + x) ∷ [] = rw (lt-ltb x 32768 less) refl in
      let room : HasRoom w (inner around a + items_size done) 2 =
      record { space = o.space; here = o.here; even = ev; low = omega (arith, least, low); high = omega (arith, high, sum, size) } in
      let l = by_laid w (inner around a + items_size done) (32768 + x) o.space (omega (arith, least, low)) ev
      (omega (arith, high, sum, size)) (omega (arith, less)) in
      record {
        after = stored (laid (inner around a + items_size done) (32768 + x)) w;
        run = λ work es callers. within p 9 58 (omega arith) (omega arith)
            (compile_small_returns p d x (inner around a + items_size done) c w room less work es callers);
        console = l.console;
        still_open = item_read around done (Number x) (stored (laid (inner around a + items_size done) (32768 + x)) w) o l.console l.below
            (subst (λ ys. CellsStand (stored (laid (inner around a + items_size done) (32768 + x)) w) (inner around a + items_size done) ys)
            (sym cells) (l.cell, tt)) (omega (arith, l.here, size)) high;
        rest = λ b r. l.outside b r.low r.here (away_from a b (inner around a + items_size (added done (Number x)))
            (inner around a + items_size done) r.code (omega (arith, least)) (omega (arith, sum, size)) even ev);
      })
      (λ all.
      let size : number_size x ≡ 4 = rw (le-ltb x 32768 all) refl in
      let cells : number_cells x ≡ (98303 - x) ∷ 26112 ∷ [] = rw (le-ltb x 32768 all) refl in
      let room : HasRoom w (inner around a + items_size done) 4 =
      record { space = o.space; here = o.here; even = ev; low = omega (arith, least, low); high = omega (arith, high, sum, size) } in
      let u = stored (laid (inner around a + items_size done) (98303 - x)) w in
      let l = by_laid w (inner around a + items_size done) (98303 - x) o.space (omega (arith, least, low)) ev
      (omega (arith, high, sum, size)) (omega (arith, all, f)) in
      let v = stored (laid (inner around a + items_size done + 2) 26112) u in
      let m = by_laid u (inner around a + items_size done + 2) 26112 l.console.space (omega (arith, least, low)) (omega (arith, ev))
      (omega (arith, high, sum, size)) (omega arith) in
      record {
        after = v;
        run = λ work es callers. within p 15 112 (omega arith) (omega arith)
            (compile_large_returns p d x (inner around a + items_size done) c w room all f work es callers);
        console = console_then w u v l.console m.console;
        still_open = item_read around done (Number x) v o (console_then w u v l.console m.console)
            (λ b g k. m.below b g (omega (arith, k)) ∙ l.below b g k)
            (subst (λ ys. CellsStand v (inner around a + items_size done) ys) (sym cells)
            (m.below (inner around a + items_size done) (omega (arith, least, low)) (omega arith) ∙ l.cell, (m.cell, tt)))
            (omega (arith, m.here, size)) high;
        rest = λ b r. m.outside b r.low r.here (away_from a b (inner around a + items_size (added done (Number x)))
            (inner around a + items_size done + 2) r.code (omega (arith, least)) (omega (arith, sum, size)) even (omega (arith, ev)))
            ∙ l.outside b r.low r.here (away_from a b (inner around a + items_size (added done (Number x)))
            (inner around a + items_size done) r.code (omega (arith, least)) (omega (arith, sum, size)) even ev);
      })

  -- ---- IF and BEGIN
  pub if_read : (around : List OpenStructure) (done : TypedItems) → IsOpen w h a name older (items_at around done) →
      inner around a + items_size done + 2 + 0 ≤ 16384 → entries around + 1 ≤ 16 →
      IsRead p kernel_if_body 78 280 c w c h a name older (items_at (InIf done ∷ around) NoItem)
  if_read around done o high few =
      let at = ends around done a o.even in
      let least = at.least in
      let low = o.low in
      let even = o.even in
      let ev = at.even_end in
      let n : ℕ = entries around in
      let new : data_cell w new_cell ≡ suc (h - 1) = o.new ∙ less_one h o.some in
      let room : HasRoom w (inner around a + items_size done) 2 =
      record { space = o.space; here = o.here; even = ev; low = omega (arith, least, low); high = omega (arith, high) } in
      let u = stored (opened (entries around) 1 (inner around a + items_size done)) w in
      let q = by_opened w (entries around) 1 (inner around a + items_size done) o.space (omega (arith, few)) (omega arith)
      (omega (arith, high)) in
      let v = stored (laid (inner around a + items_size done) 8192) u in
      let l = by_laid u (inner around a + items_size done) 8192 q.console.space (omega (arith, least, low)) ev (omega (arith, high))
      (omega arith) in
      let k = console_then w u v q.console l.console in
      let code : Alike v w 8640 (inner around a + items_size done) =
      λ b f g. l.below b (omega (arith, f)) g ∙ q.above b (omega (arith, f)) in
      record {
        after = v;
        run = λ work es callers. within p 30 131 (omega arith) (omega arith)
            (if_returns p d (entries around) (inner around a + items_size done) (h - 1) c w room
            (record { count = o.count; few = omega (arith, few) }) new work es callers);
        console = k;
        still_open = still_open v (items_at around done) (items_at (InIf done ∷ around) NoItem) o k
            (λ b f g. l.below b f (omega (arith, g, least, low)) ∙ q.low b f g) (λ b f g. code b f (omega (arith, g, least)))
            (omega (arith, l.here)) high (
              items_kept v w (inner around a) done (λ b f g. code b (omega (arith, f, least, low)) g) o.done,
              l.cell,
              outer_kept v w a around
                  (λ b f g. code b (omega (arith, f, low)) (omega (arith, g))) o.outer,
            )
            tt (l.below open_count_cell (omega arith) (omega (arith, least, low)) ∙ q.count) few (
              (
                l.below (entry (entries around)) (omega arith) (omega (arith, few, least, low))
                    ∙ q.entry_is.0,
                l.below (entry (entries around) + 2) (omega arith) (omega (arith, few, least, low)) ∙ q.entry_is.1,
              ),
              entries_kept v w a around (λ b f g. l.below b (omega (arith, f)) (omega (arith, g, few, least, low))
                  ∙ q.under b f g) o.structures,
            );
        rest = λ b r. l.outside b r.low r.here (away_from a b (inner around a + items_size done + 2 + 0)
            (inner around a + items_size done) r.code (omega (arith, least)) (omega arith) even ev) ∙ q.outside b r.low r.entries;
      }

  pub begin_read : (around : List OpenStructure) (done : TypedItems) → IsOpen w h a name older (items_at around done) →
      inner around a + items_size done + 0 ≤ 16384 → entries around + 1 ≤ 16 →
      IsRead p kernel_begin_body 78 280 c w c h a name older (items_at (InBegin done ∷ around) NoItem)
  begin_read around done o high few =
      let at = ends around done a o.even in
      let least = at.least in
      let low = o.low in
      let ev = at.even_end in
      let new : data_cell w new_cell ≡ suc (h - 1) = o.new ∙ less_one h o.some in
      let room : HasRoom w (inner around a + items_size done) 0 =
      record { space = o.space; here = o.here; even = ev; low = omega (arith, least, low); high = omega (arith, high) } in
      let v = stored (opened (entries around) 2 (inner around a + items_size done)) w in
      let q = by_opened w (entries around) 2 (inner around a + items_size done) o.space (omega (arith, few)) (omega arith)
      (omega (arith, high)) in
      record {
        after = v;
        run = λ work es callers. within p 26 79 (omega arith) (omega arith)
            (begin_returns p d (entries around) (inner around a + items_size done) (h - 1) c w room
            (record { count = o.count; few = omega (arith, few) }) new work es callers);
        console = q.console;
        still_open = still_open v (items_at around done) (items_at (InBegin done ∷ around) NoItem) o q.console q.low
            (λ b f g. q.above b (omega (arith, f)))
            (q.here ∙ o.here ∙ none (inner around a + items_size done)) high (
              items_kept v w (inner around a) done (λ b f g. q.above b (omega (arith, f, least, low))) o.done,
              outer_kept v w a around
                  (λ b f g. q.above b (omega (arith, f, low))) o.outer,
            )
            tt q.count few (q.entry_is, entries_kept v w a around q.under o.structures);
        rest = λ b r. q.outside b r.low r.entries;
      }
    where
      none : (n : ℕ) → n ≡ n + 0
      none n = omega arith
