-- Cells that stand in data space, and what keeps them.
use Rattle.std.proofs.Common.{◌≡◌, ℕ, zero, suc, ◌+◌, ◌*◌, ◌/◌, ◌≤◌, ◌<◌, List, [], ◌∷◌, ◌++◌, length, refl, ap, ap₂, sym, ◌∙◌, subst}
use Rattle.std.proofs.Common.{arith, le-ltb, lt-ltb, length-append}
use Rattle.forth_program.specs.State.{World}
use Rattle.forth_program.specs.Access.{byte_of}
use Rattle.kernel_words.specs.Memory.{data_cell, data_byte, data_bytes}
use Rattle.kernel_words.specs.Headers.{Header, Headers}
use Rattle.kernel_words.proofs.Cases.{by_less}
use Rattle.kernel_definitions.specs.TypedItems.{TypedItem, Number, Called, IfThen, IfElse, BeginUntil, BeginWhile, TypedItems, NoItem, Item}
use Rattle.kernel_definitions.specs.TypedItems.{added, number_size, item_size, items_size, number_cells, item_cells, items_cells}
use Rattle.kernel_definitions.specs.TypedItems.{CellsStand}
use Rattle.kernel_definitions.specs.OpenDefinition.{OpenStructure, InIf, InElse, InBegin, InWhile, inner, OuterStand, entries, EntriesStand}
use Rattle.kernel_definitions.specs.OpenDefinition.{LieBelow}
use Rattle.kernel_definitions.specs.Stores.{entry}

-- from low to high the cells of one world are those of another
abbrev pub Alike : World → World → ℕ → ℕ → Type 0
Alike v w low high = (b : ℕ) → low ≤ b → b < high → data_cell v b ≡ data_cell w b

pub narrower : (v w : World) (low high low' high' : ℕ) → Alike v w low high → low ≤ low' → high' ≤ high → Alike v w low' high'
narrower v w low high low' high' same f g b h k = same b (omega (arith, f, h)) (omega (arith, g, k))

-- ---- lists of cells
pub stand_kept : (v w : World) (a : ℕ) (cells : List ℕ) → Alike v w a (a + 2 * length cells) → CellsStand w a cells → CellsStand v a cells
stand_kept v w a [] same s = tt
stand_kept v w a (cell ∷ cells) same s = (
  same a (omega arith) (omega arith)
      ∙ s.0,
  stand_kept v w (a + 2) cells (λ b f g. same b (omega (arith, f)) (omega (arith, g))) s.1,
)

pub stand_join : (w : World) (a : ℕ) (xs ys : List ℕ) → CellsStand w a xs → CellsStand w (a + 2 * length xs) ys → CellsStand w a (xs ++ ys)
stand_join w a [] ys s t = subst (λ b. CellsStand w b ys) (none a) t
  where
    none : (a : ℕ) → a + 2 * 0 ≡ a
    none a = omega arith
stand_join w a (x ∷ xs) ys s t = (s.0, stand_join w (a + 2) xs ys s.1 (subst (λ b. CellsStand w b ys) (more a (length xs)) t))
  where
    more : (a n : ℕ) → a + 2 * suc n ≡ a + 2 + 2 * n
    more a n = omega arith

-- ---- sizes
number_length : (x : ℕ) → 2 * length (number_cells x) ≡ number_size x
number_length x = by_less x 32768 (λ less. rw (lt-ltb x 32768 less) refl) (λ all. rw (le-ltb x 32768 all) refl)

mutual
  pub item_length : (item : TypedItem) (a : ℕ) → 2 * length (item_cells item a) ≡ item_size item
  item_length (Number value) a = number_length value
  item_length (Called address) a = refl
  item_length (IfThen first) a = let e = items_length first (a + 2) in omega (arith, e)
  item_length (IfElse first second) a =
      let e = items_length first (a + 2) in
      let f = items_length second (a + 2 + items_size first + 2) in
      omega (
        arith,
        e,
        f,
        length-append (items_cells first (a + 2))
            ((a + 2 + items_size first + 2 + items_size second) / 2 ∷ items_cells second (a + 2 + items_size first + 2)),
      )
  item_length (BeginUntil body) a = let e = items_length body a in
      omega (arith, e, length-append (items_cells body a) ((8192 + a / 2) ∷ []))
  item_length (BeginWhile test body) a =
      let e = items_length test a in
      let f = items_length body (a + items_size test + 2) in
      omega (
        arith,
        e,
        f,
        length-append (items_cells test a) ((8192 + (a + items_size test + 2 + items_size body + 2) / 2) ∷
            (items_cells body (a + items_size test + 2) ++ a / 2 ∷ [])),
        length-append (items_cells body (a + items_size test + 2)) (a / 2 ∷ []),
      )

  pub items_length : (items : TypedItems) (a : ℕ) → 2 * length (items_cells items a) ≡ items_size items
  items_length NoItem a = refl
  items_length (Item item rest) a =
      let e = item_length item a in
      let f = items_length rest (a + item_size item) in
      omega (arith, e, f, length-append (item_cells item a) (items_cells rest (a + item_size item)))

pub size_added : (before : TypedItems) (item : TypedItem) → items_size (added before item) ≡ items_size before + item_size item
size_added NoItem item = omega arith
size_added (Item first rest) item = let e = size_added rest item in omega (arith, e)

-- ---- an item more
pub stand_split : (w : World) (a : ℕ) (xs ys : List ℕ) → CellsStand w a (xs ++ ys) → CellsStand w a xs × CellsStand w (a + 2 * length xs) ys
stand_split w a [] ys s = (tt, subst (λ b. CellsStand w b ys) (none a) s)
  where
    none : (a : ℕ) → a ≡ a + 2 * 0
    none a = omega arith
stand_split w a (x ∷ xs) ys s = let r = stand_split w (a + 2) xs ys s.1 in
    ((s.0, r.0), subst (λ b. CellsStand w b ys) (more a (length xs)) r.1)
  where
    more : (a n : ℕ) → a + 2 + 2 * n ≡ a + 2 * suc n
    more a n = omega arith

pub items_kept : (v w : World) (a : ℕ) (items : TypedItems) → Alike v w a (a + items_size items) → CellsStand w a (items_cells items a) →
    CellsStand v a (items_cells items a)
items_kept v w a items same s = stand_kept v w a (items_cells items a)
    (λ b f g. same b f (let e = items_length items a in omega (arith, g, e))) s

pub stand_added : (w : World) (s : ℕ) (before : TypedItems) (item : TypedItem) → CellsStand w s (items_cells before s) →
    CellsStand w (s + items_size before) (item_cells item (s + items_size before)) →
    CellsStand w s (items_cells (added before item) s)
stand_added w s NoItem item before last = stand_join w s (item_cells item s) []
    (subst (λ b. CellsStand w b (item_cells item b)) (none s) last) tt
  where
    none : (s : ℕ) → s + 0 ≡ s
    none s = omega arith
stand_added w s (Item first rest) item before last =
    let parts = stand_split w s (item_cells first s) (items_cells rest (s + item_size first)) before in
    let at : s + 2 * length (item_cells first s) ≡ s + item_size first = ap (λ n. s + n) (item_length first s) in
    stand_join w s (item_cells first s) (items_cells (added rest item) (s + item_size first)) parts.0
    (subst (λ b. CellsStand w b (items_cells (added rest item) (s + item_size first))) (sym at)
    (stand_added w (s + item_size first) rest item (subst (λ b. CellsStand w b (items_cells rest (s + item_size first))) at parts.1)
    (subst (λ b. CellsStand w b (item_cells item b)) (further s (item_size first) (items_size rest)) last)))
  where
    further : (s m n : ℕ) → s + (m + n) ≡ s + m + n
    further s m n = omega arith

-- ---- the open structures
pub inner_least : (around : List OpenStructure) (a : ℕ) → a ≤ inner around a
inner_least [] a = omega arith
inner_least (InIf before ∷ outer) a = let e = inner_least outer a in omega (arith, e)
inner_least (InElse before first ∷ outer) a = let e = inner_least outer a in omega (arith, e)
inner_least (InBegin before ∷ outer) a = let e = inner_least outer a in omega (arith, e)
inner_least (InWhile before test ∷ outer) a = let e = inner_least outer a in omega (arith, e)

pub outer_kept : (v w : World) (a : ℕ) (around : List OpenStructure) → Alike v w a (inner around a) → OuterStand w a around →
    OuterStand v a around
outer_kept v w a [] same s = tt
outer_kept v w a (InIf before ∷ outer) same s =
    let e = inner_least outer a in (
      items_kept v w (inner outer a) before (λ b f g. same b (omega (arith, e, f)) (omega (arith, g))) s.0,
      same (inner outer a + items_size before) (omega (arith, e)) (omega arith) ∙ s.1,
      outer_kept v w a outer (λ b f g. same b f (omega (arith, g))) s.2,
    )
outer_kept v w a (InElse before first ∷ outer) same s =
    let e = inner_least outer a in (
      items_kept v w (inner outer a) before (λ b f g. same b (omega (arith, e, f)) (omega (arith, g))) s.0,
      same (inner outer a + items_size before) (omega (arith, e)) (omega arith) ∙ s.1,
      items_kept v w (inner outer a + items_size before + 2) first (λ b f g. same b (omega (arith, e, f)) (omega (arith, g))) s.2,
      same (inner outer a + items_size before + 2 + items_size first) (omega (arith, e)) (omega arith) ∙ s.3,
      outer_kept v w a outer (λ b f g. same b f (omega (arith, g))) s.4,
    )
outer_kept v w a (InBegin before ∷ outer) same s =
    let e = inner_least outer a in (
      items_kept v w (inner outer a) before (λ b f g. same b (omega (arith, e, f)) (omega (arith, g))) s.0,
      outer_kept v w a outer (λ b f g. same b f (omega (arith, g))) s.1,
    )
outer_kept v w a (InWhile before test ∷ outer) same s =
    let e = inner_least outer a in (
      items_kept v w (inner outer a) before (λ b f g. same b (omega (arith, e, f)) (omega (arith, g))) s.0,
      items_kept v w (inner outer a + items_size before) test (λ b f g. same b (omega (arith, e, f)) (omega (arith, g))) s.1,
      same (inner outer a + items_size before + items_size test) (omega (arith, e)) (omega arith) ∙ s.2,
      outer_kept v w a outer (λ b f g. same b f (omega (arith, g))) s.3,
    )

pub entries_kept : (v w : World) (a : ℕ) (around : List OpenStructure) → Alike v w 8570 (entry (entries around)) → EntriesStand w a around →
    EntriesStand v a around
entries_kept v w a [] same s = tt
entries_kept v w a (InIf before ∷ outer) same s = (
  (
    same (entry (entries outer)) (omega arith) (omega arith) ∙ s.0.0,
    same (entry (entries outer) + 2) (omega arith) (omega arith)
        ∙ s.0.1,
  ),
  entries_kept v w a outer (λ b f g. same b f (omega (arith, g))) s.1,
)
entries_kept v w a (InElse before first ∷ outer) same s = (
  (
    same (entry (entries outer)) (omega arith) (omega arith) ∙ s.0.0,
    same (entry (entries outer) + 2) (omega arith) (omega arith)
        ∙ s.0.1,
  ),
  entries_kept v w a outer (λ b f g. same b f (omega (arith, g))) s.1,
)
entries_kept v w a (InBegin before ∷ outer) same s = (
  (
    same (entry (entries outer)) (omega arith) (omega arith) ∙ s.0.0,
    same (entry (entries outer) + 2) (omega arith) (omega arith)
        ∙ s.0.1,
  ),
  entries_kept v w a outer (λ b f g. same b f (omega (arith, g))) s.1,
)
entries_kept v w a (InWhile before test ∷ outer) same s = (
  (same (entry (entries outer)) (omega arith) (omega arith) ∙ s.0.0, same (entry (entries outer) + 2) (omega arith) (omega arith) ∙ s.0.1),
  (
    same (entry (entries outer + 1)) (omega arith) (omega arith) ∙ s.1.0,
    same (entry (entries outer + 1) + 2) (omega arith) (omega arith)
        ∙ s.1.1,
  ),
  entries_kept v w a outer (λ b f g. same b f (omega (arith, g))) s.2,
)

-- ---- headers
pub byte_alike : (v w : World) (b : ℕ) → data_cell v b ≡ data_cell w b → data_byte v b ≡ data_byte w b
unfolding data_byte
byte_alike v w b e = ap (byte_of b) e

bytes_kept : (v w : World) (n a : ℕ) → Alike v w a (a + n) → data_bytes v n a ≡ data_bytes w n a
bytes_kept v w zero a same = refl
bytes_kept v w (suc n) a same = ap₂ (λ x xs. x ∷ xs) (byte_alike v w a (same a (omega arith) (omega arith)))
    (bytes_kept v w n (suc a) (λ b f g. same b (omega (arith, f)) (omega (arith, g))))

pub chain_kept : (v w : World) (end h : ℕ) (headers : List Header) → Alike v w 8640 end → Headers w h headers → LieBelow w end h headers →
    Headers v h headers × LieBelow v end h headers
chain_kept v w end h [] same d l = (d, tt)
chain_kept v w end h (header ∷ older) same d l =
    let under = l.0 in
    let room = l.1 in
    let link : data_cell v h ≡ data_cell w h = same h under (omega (arith, room)) in
    let size : data_byte v (h + 4) ≡ data_byte w (h + 4) =
    byte_alike v w (h + 4) (same (h + 4) (omega (arith, under)) (omega (arith, room))) in
    let high = d.0.high in
    let older_one = d.0.older in
    let some = d.0.some in
    let few = d.0.few in
    let rest = chain_kept v w end (data_cell w h) older same d.1 l.2 in (
      (
        record {
          even = d.0.even;
          low = d.0.low;
          high = omega (arith, high, size);
          older = omega (arith, older_one, link);
          code = same (h + 2) (omega (arith, under)) (omega (arith, room)) ∙ d.0.code;
          some = omega (arith, some, size);
          few = omega (arith, few, size);
          immediate = byte_alike v w (h + 5) (same (h + 5) (omega (arith, under)) (omega (arith, room))) ∙ d.0.immediate;
          name = ap (λ n. data_bytes v n (h + 6)) size ∙ bytes_kept v w (data_byte w (h + 4)) (h + 6)
              (λ b f g. same b (omega (arith, f, under)) (omega (arith, g, room))) ∙ d.0.name;
        },
        subst (λ o. Headers v o older) (sym link) rest.0,
      ),
      (under, omega (arith, room, size), subst (λ o. LieBelow v end o older) (sym link) rest.1),
    )
