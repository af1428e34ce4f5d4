-- THEN, ELSE, UNTIL, WHILE and REPEAT keep what stands for the items that were read.
use Rattle.std.proofs.Common.{◌≡◌, ℕ, suc, ◌+◌, ◌-◌, ◌/◌, ◌≤◌, List, [], ◌∷◌, ◌++◌, ◌∙◌, arith}
use Rattle.forth_program.specs.State.{World}
use Rattle.forth_program.specs.Program.{SourceProgram}
use Rattle.kernel_words.specs.Places.{here_cell}
use Rattle.kernel_words.specs.Memory.{data_cell}
use Rattle.kernel_words.specs.Headers.{Header}
use Rattle.kernel_words.proofs.Runs.{within}
use Rattle.kernel_words.proofs.Memory.{console_then}
use Rattle.kernel_lines.specs.Places.{new_cell, open_count_cell}
use Rattle.kernel_definitions.specs.Bodies.{HasDefiningWords, kernel_then_body, kernel_else_body, kernel_until_body, kernel_while_body}
use Rattle.kernel_definitions.specs.Bodies.{kernel_repeat_body}
use Rattle.kernel_definitions.specs.Stores.{stored, laid, entry, opened, closed, HasRoom, IsNewest, IsPatched}
use Rattle.kernel_definitions.specs.TypedItems.{IfThen, IfElse, BeginUntil, BeginWhile, TypedItems, NoItem, added, items_size, items_cells}
use Rattle.kernel_definitions.specs.OpenDefinition.{OpenStructure, InIf, InElse, InBegin, InWhile, OpenItems, inner, entries, IsOpen}
use Rattle.kernel_definitions.specs.Compiling.{IsRead}
use Rattle.kernel_definitions.proofs.Structures.{then_returns, else_returns, until_returns, while_returns, repeat_returns}
use Rattle.kernel_definitions.proofs.Standing.{Alike, size_added, items_kept, stand_added, outer_kept, entries_kept}
use Rattle.kernel_definitions.proofs.Changes.{by_laid, by_opened, by_closed, by_patched}
use Rattle.kernel_definitions.proofs.Reading.{ends, away_from, items_then, less_one, still_open, items_even}

pub zero_more : (n : ℕ) → 0 + n ≡ n
zero_more n = omega arith

module _ (p : SourceProgram) (d : HasDefiningWords p) (c : List ℕ) (w : World) (h a : ℕ) (name : List ℕ) (older : List Header) where
  abbrev read : List OpenStructure → TypedItems → OpenItems
  read around done = record { around = around; done = done }

  -- ---- UNTIL: BEGIN body UNTIL
  pub until_read : (outer : List OpenStructure) (before body : TypedItems) → IsOpen w h a name older (read (InBegin before ∷ outer) body) →
      inner outer a + items_size (added before (BeginUntil body)) ≤ 16384 →
      IsRead p kernel_until_body 78 280 c w c h a name older (read outer (added before (BeginUntil body)))
  until_read outer before body o high =
      let around = InBegin before ∷ outer in
      let at = ends (InBegin before ∷ outer) body a o.even in
      let out = ends outer before a o.even in
      let least = out.least in
      let low = o.low in
      let even = o.even in
      let ev = at.even_end in
      let few = o.few in
      let sum = size_added before (BeginUntil body) in
      let room : HasRoom w (inner outer a + items_size before + items_size body) 2 =
      record { space = o.space; here = o.here; even = ev; low = omega (arith, least, low); high = omega (arith, high, sum) } in
      let newest : IsNewest w (entries outer) 2 (inner outer a + items_size before) =
      record { count = o.count; few = omega (arith, few); kind_is = o.structures.0.0; place_is = o.structures.0.1 } in
      let u = stored (closed (entries outer)) w in
      let q = by_closed w (entries outer) o.space (omega (arith, few)) in
      let v = stored (laid (inner outer a + items_size before + items_size body) (8192 + (inner outer a + items_size before) / 2)) u in
      let l = by_laid u (inner outer a + items_size before + items_size body)
      (8192 + (inner outer a + items_size before) / 2) q.console.space (omega (arith, least, low)) ev (omega (arith, high, sum))
      (omega (arith, high, sum)) in
      let code : Alike v w 8640 (inner outer a + items_size before + items_size body) =
      λ b f g. l.below b (omega (arith, f)) g ∙ q.above b (omega (arith, f)) in
      record {
        after = v;
        run = λ work es callers. within p 32 130 (omega arith) (omega arith)
            (until_returns p d (entries outer) (inner outer a + items_size before)
            (inner outer a + items_size before + items_size body) c w room newest (omega (arith, high, sum)) work es callers);
        console = console_then w u v q.console l.console;
        still_open = still_open p d c w h a name older v (read (InBegin before ∷ outer) body)
            (read outer (added before (BeginUntil body))) o (console_then w u v q.console l.console)
            (λ b f g. l.below b f (omega (arith, g, least, low)) ∙ q.low b f g) (λ b f g. code b f (omega (arith, g, least)))
            (omega (arith, l.here, sum)) high
            (outer_kept v w a outer (λ b f g. code b (omega (arith, f, low)) (omega (arith, g))) o.outer.1)
            (stand_added v (inner outer a) before (BeginUntil body)
            (items_kept v w (inner outer a) before (λ b f g. code b (omega (arith, f, least, low)) (omega (arith, g))) o.outer.0)
            (items_then v (inner outer a + items_size before) body ((8192 + (inner outer a + items_size before) / 2) ∷ [])
            (items_kept v w (inner outer a + items_size before) body (λ b f g. code b (omega (arith, f, least, low)) g) o.done)
            (l.cell, tt)))
            (l.below open_count_cell (omega arith) (omega (arith, least, low)) ∙ q.count) (omega (arith, few))
            (entries_kept v w a outer (λ b f g. l.below b (omega (arith, f)) (omega (arith, g, few, least, low))
            ∙ q.above b f) o.structures.1);
        rest = λ b r. l.outside b r.low r.here (away_from a b (inner outer a + items_size (added before (BeginUntil body)))
            (inner outer a + items_size before + items_size body) r.code (omega (arith, least)) (omega (arith, sum)) even ev)
            ∙ q.outside b r.low r.entries;
      }

  -- ---- THEN: IF first THEN
  pub then_read : (outer : List OpenStructure) (before first : TypedItems) → IsOpen w h a name older (read (InIf before ∷ outer) first) →
      inner outer a + items_size (added before (IfThen first)) ≤ 16384 →
      IsRead p kernel_then_body 78 280 c w c h a name older (read outer (added before (IfThen first)))
  then_read outer before first o high =
      let at = ends (InIf before ∷ outer) first a o.even in
      let out = ends outer before a o.even in
      let least = out.least in
      let low = o.low in
      let even = o.even in
      let ev = at.even_end in
      let ep = out.even_end in
      let few = o.few in
      let sum = size_added before (IfThen first) in
      let place : ℕ = inner outer a + items_size before in
      let e : ℕ = inner outer a + items_size before + 2 + items_size first in
      let room : HasRoom w (inner outer a + items_size before + 2 + items_size first) 0 =
      record { space = o.space; here = o.here; even = ev; low = omega (arith, least, low); high = omega (arith, high, sum) } in
      let newest : IsNewest w (entries outer) 1 (inner outer a + items_size before) =
      record { count = o.count; few = omega (arith, few); kind_is = o.structures.0.0; place_is = o.structures.0.1 } in
      let patched : IsPatched w (inner outer a + items_size before) 8192 (inner outer a + items_size before + 2 + items_size first) =
      record { cell = o.outer.1; low = omega (arith, least, low); high = omega (arith, high, sum); fits = omega (arith, high, sum) } in
      let u = stored (closed (entries outer)) w in
      let q = by_closed w (entries outer) o.space (omega (arith, few)) in
      let v = stored ((inner outer a + items_size before, 8192 + (inner outer a + items_size before + 2 + items_size first) / 2) ∷ []) u in
      let l = by_patched u (inner outer a + items_size before)
      (8192 + (inner outer a + items_size before + 2 + items_size first) / 2) q.console.space (omega (arith, least, low)) ep
      (omega (arith, high, sum)) (omega (arith, high, sum)) in
      let code : Alike v w 8640 (inner outer a + items_size before) =
      λ b f g. l.below b (omega (arith, f)) g ∙ q.above b (omega (arith, f)) in
      record {
        after = v;
        run = λ work es callers. within p 30 104 (omega arith) (omega arith)
            (then_returns p d (entries outer) (inner outer a + items_size before) 8192
            (inner outer a + items_size before + 2 + items_size first) c w room newest patched work es callers);
        console = console_then w u v q.console l.console;
        still_open = still_open p d c w h a name older v (read (InIf before ∷ outer) first) (read outer (added before (IfThen first))) o
            (console_then w u v q.console l.console)
            (λ b f g. l.below b (omega (arith, f)) (omega (arith, g, least, low)) ∙ q.low b f g)
            (λ b f g. code b f (omega (arith, g, least)))
            (l.below here_cell (omega arith) (omega (arith, least, low)) ∙ q.here ∙ omega (arith, o.here, sum)) high
            (outer_kept v w a outer (λ b f g. code b (omega (arith, f, low)) (omega (arith, g))) o.outer.2)
            (stand_added v (inner outer a) before (IfThen first)
            (items_kept v w (inner outer a) before (λ b f g. code b (omega (arith, f, least, low)) g) o.outer.0) (
              l.cell,
              items_kept v w (inner outer a + items_size before + 2) first
                  (λ b f g. l.above b f ∙ q.above b (omega (arith, f, least, low))) o.done,
            ))
            (l.below open_count_cell (omega arith) (omega (arith, least, low)) ∙ q.count) (omega (arith, few))
            (entries_kept v w a outer (λ b f g. l.below b (omega (arith, f)) (omega (arith, g, few, least, low))
            ∙ q.above b f) o.structures.1);
        rest = λ b r. l.outside b r.low (away_from a b (inner outer a + items_size (added before (IfThen first)))
            (inner outer a + items_size before) r.code (omega (arith, least)) (omega (arith, sum)) even ep)
            ∙ q.outside b r.low r.entries;
      }

  -- ---- THEN: IF first ELSE second THEN
  pub else_then_read : (outer : List OpenStructure) (before first second : TypedItems) →
      IsOpen w h a name older (read (InElse before first ∷ outer) second) →
      inner outer a + items_size (added before (IfElse first second)) ≤ 16384 →
      IsRead p kernel_then_body 78 280 c w c h a name older (read outer (added before (IfElse first second)))
  else_then_read outer before first second o high =
      let at = ends (InElse before first ∷ outer) second a o.even in
      let out = ends outer before a o.even in
      let least = out.least in
      let low = o.low in
      let even = o.even in
      let ev = at.even_end in
      let ep = out.even_end in
      let ef = items_even first in
      let few = o.few in
      let sum = size_added before (IfElse first second) in
      let room : HasRoom w (inner outer a + items_size before + 2 + items_size first + 2 + items_size second) 0 =
      record { space = o.space; here = o.here; even = ev; low = omega (arith, least, low); high = omega (arith, high, sum) } in
      let newest : IsNewest w (entries outer) 1 (inner outer a + items_size before + 2 + items_size first) =
      record { count = o.count; few = omega (arith, few); kind_is = o.structures.0.0; place_is = o.structures.0.1 } in
      let patched : IsPatched w (inner outer a + items_size before + 2 + items_size first) 0
      (inner outer a + items_size before + 2 + items_size first + 2 + items_size second) =
      record { cell = o.outer.3; low = omega (arith, least, low); high = omega (arith, high, sum); fits = omega (arith, high, sum) } in
      let u = stored (closed (entries outer)) w in
      let q = by_closed w (entries outer) o.space (omega (arith, few)) in
      let v = stored ((
        inner outer a + items_size before + 2 + items_size first,
        0
            + (inner outer a + items_size before + 2 + items_size first + 2 + items_size second) / 2,
      ) ∷ []) u in
      let l = by_patched u (inner outer a + items_size before + 2 + items_size first)
      (0 + (inner outer a + items_size before + 2 + items_size first + 2 + items_size second) / 2) q.console.space
      (omega (arith, least, low)) (omega (arith, ep, ef)) (omega (arith, high, sum)) (omega (arith, high, sum)) in
      let code : Alike v w 8640 (inner outer a + items_size before + 2 + items_size first) =
      λ b f g. l.below b (omega (arith, f)) g ∙ q.above b (omega (arith, f)) in
      record {
        after = v;
        run = λ work es callers. within p 30 104 (omega arith) (omega arith)
            (then_returns p d (entries outer) (inner outer a + items_size before + 2 + items_size first) 0
            (inner outer a + items_size before + 2 + items_size first + 2 + items_size second) c w room newest patched work es callers);
        console = console_then w u v q.console l.console;
        still_open = still_open p d c w h a name older v (read (InElse before first ∷ outer) second)
            (read outer (added before (IfElse first second))) o (console_then w u v q.console l.console)
            (λ b f g. l.below b (omega (arith, f)) (omega (arith, g, least, low)) ∙ q.low b f g)
            (λ b f g. code b f (omega (arith, g, least)))
            (l.below here_cell (omega arith) (omega (arith, least, low)) ∙ q.here ∙ omega (arith, o.here, sum)) high
            (outer_kept v w a outer (λ b f g. code b (omega (arith, f, low)) (omega (arith, g))) o.outer.4)
            (stand_added v (inner outer a) before (IfElse first second)
            (items_kept v w (inner outer a) before (λ b f g. code b (omega (arith, f, least, low)) (omega (arith, g))) o.outer.0) (
              code (inner outer a + items_size before) (omega (arith, least, low)) (omega arith) ∙ o.outer.1,
              items_then v (inner outer a + items_size before + 2) first
                  ((inner outer a + items_size before + 2 + items_size first + 2 + items_size second) / 2 ∷ items_cells second
                  (inner outer a + items_size before + 2 + items_size first + 2))
                  (items_kept v w (inner outer a + items_size before + 2) first
                  (λ b f g. code b (omega (arith, f, least, low)) g) o.outer.2) (
                    l.cell ∙ zero_more ((inner outer a + items_size before + 2 + items_size first + 2 + items_size second) / 2),
                    items_kept v w (inner outer a + items_size before + 2 + items_size first + 2) second
                        (λ b f g. l.above b f ∙ q.above b (omega (arith, f, least, low))) o.done,
                  ),
            ))
            (l.below open_count_cell (omega arith) (omega (arith, least, low)) ∙ q.count) (omega (arith, few))
            (entries_kept v w a outer (λ b f g. l.below b (omega (arith, f)) (omega (arith, g, few, least, low))
            ∙ q.above b f) o.structures.1);
        rest = λ b r. l.outside b r.low (away_from a b (inner outer a + items_size (added before (IfElse first second)))
            (inner outer a + items_size before + 2 + items_size first) r.code (omega (arith, least)) (omega (arith, sum)) even
            (omega (arith, ep, ef)))
            ∙ q.outside b r.low r.entries;
      }

  -- ---- ELSE
  pub else_read : (outer : List OpenStructure) (before first : TypedItems) → IsOpen w h a name older (read (InIf before ∷ outer) first) →
      inner outer a + items_size before + 2 + items_size first + 2 + 0 ≤ 16384 →
      IsRead p kernel_else_body 78 280 c w c h a name older (read (InElse before first ∷ outer) NoItem)
  else_read outer before first o high =
      let at = ends (InIf before ∷ outer) first a o.even in
      let out = ends outer before a o.even in
      let least = out.least in
      let low = o.low in
      let even = o.even in
      let ev = at.even_end in
      let ep = out.even_end in
      let few = o.few in
      let new : data_cell w new_cell ≡ suc (h - 1) = o.new ∙ less_one h o.some in
      let room : HasRoom w (inner outer a + items_size before + 2 + items_size first) 2 =
      record { space = o.space; here = o.here; even = ev; low = omega (arith, least, low); high = omega (arith, high) } in
      let newest : IsNewest w (entries outer) 1 (inner outer a + items_size before) =
      record { count = o.count; few = omega (arith, few); kind_is = o.structures.0.0; place_is = o.structures.0.1 } in
      let patched : IsPatched w (inner outer a + items_size before) 8192 (inner outer a + items_size before + 2 + items_size first + 2) =
      record { cell = o.outer.1; low = omega (arith, least, low); high = omega (arith, high); fits = omega (arith, high) } in
      let u1 = stored (closed (entries outer)) w in
      let q1 = by_closed w (entries outer) o.space (omega (arith, few)) in
      let u2 = stored (opened (entries outer) 1 (inner outer a + items_size before + 2 + items_size first)) u1 in
      let q2 = by_opened u1 (entries outer) 1 (inner outer a + items_size before + 2 + items_size first) q1.console.space
      (omega (arith, few)) (omega arith) (omega (arith, high)) in
      let u3 = stored (laid (inner outer a + items_size before + 2 + items_size first) 0) u2 in
      let q3 = by_laid u2 (inner outer a + items_size before + 2 + items_size first) 0 q2.console.space (omega (arith, least, low)) ev
      (omega (arith, high)) (omega arith) in
      let v = stored ((inner outer a + items_size before, 8192 + (inner outer a + items_size before + 2 + items_size first + 2) / 2) ∷
      []) u3 in
      let l = by_patched u3 (inner outer a + items_size before)
      (8192 + (inner outer a + items_size before + 2 + items_size first + 2) / 2) q3.console.space (omega (arith, least, low)) ep
      (omega (arith, high)) (omega (arith, high)) in
      let k = console_then w u3 v (console_then w u2 u3 (console_then w u1 u2 q1.console q2.console) q3.console) l.console in
      let code : Alike v w 8640 (inner outer a + items_size before) =
      λ b f g. l.below b (omega (arith, f)) g ∙ q3.below b (omega (arith, f)) (omega (arith, g)) ∙ q2.above b (omega (arith, f))
      ∙ q1.above b (omega (arith, f)) in
      record {
        after = v;
        run = λ work es callers. within p 59 234 (omega arith) (omega arith)
            (else_returns p d (entries outer) (inner outer a + items_size before) 8192
            (inner outer a + items_size before + 2 + items_size first) (h - 1) c w room newest new patched
            (omega arith) work es callers);
        console = k;
        still_open = still_open p d c w h a name older v (read (InIf before ∷ outer) first) (read (InElse before first ∷ outer) NoItem) o k
            (λ b f g. l.below b (omega (arith, f)) (omega (arith, g, least, low)) ∙ q3.below b f (omega (arith, g, least, low))
            ∙ q2.low b f g ∙ q1.low b f g) (λ b f g. code b f (omega (arith, g, least)))
            (l.below here_cell (omega arith) (omega (arith, least, low)) ∙ omega (arith, q3.here)) high (
              items_kept v w (inner outer a) before (λ b f g. code b (omega (arith, f, least, low)) g) o.outer.0,
              l.cell,
              items_kept v w (inner outer a + items_size before + 2) first
                  (λ b f g. l.above b f ∙ q3.below b (omega (arith, f, least, low)) g ∙ q2.above b (omega (arith, f, least, low))
                  ∙ q1.above b (omega (arith, f, least, low))) o.done,
              l.above (inner outer a + items_size before + 2 + items_size first) (omega arith) ∙ q3.cell,
              outer_kept v w a outer (λ b f g. code b (omega (arith, f, low)) (omega (arith, g))) o.outer.2,
            )
            tt (l.below open_count_cell (omega arith) (omega (arith, least, low))
            ∙ q3.below open_count_cell (omega arith) (omega (arith, least, low)) ∙ q2.count) few (
              (
                l.below (entry (entries outer)) (omega arith) (omega (arith, few, least, low))
                    ∙ q3.below (entry (entries outer)) (omega arith) (omega (arith, few, least, low)) ∙ q2.entry_is.0,
                l.below (entry (entries outer) + 2) (omega arith) (omega (arith, few, least, low))
                    ∙ q3.below (entry (entries outer) + 2) (omega arith) (omega (arith, few, least, low)) ∙ q2.entry_is.1,
              ),
              entries_kept v w a outer (λ b f g. l.below b (omega (arith, f)) (omega (arith, g, few, least, low))
                  ∙ q3.below b (omega (arith, f)) (omega (arith, g, few, least, low)) ∙ q2.under b f g ∙ q1.above b f) o.structures.1,
            );
        rest = λ b r. l.outside b r.low (away_from a b (inner outer a + items_size before + 2 + items_size first + 2 + 0)
            (inner outer a + items_size before) r.code (omega (arith, least)) (omega arith) even ep)
            ∙ q3.outside b r.low r.here (away_from a b (inner outer a + items_size before + 2 + items_size first + 2 + 0)
            (inner outer a + items_size before + 2 + items_size first) r.code (omega (arith, least)) (omega arith) even ev)
            ∙ q2.outside b r.low r.entries ∙ q1.outside b r.low r.entries;
      }

  -- ---- WHILE
  pub while_read : (outer : List OpenStructure) (before test : TypedItems) → IsOpen w h a name older (read (InBegin before ∷ outer) test) →
      inner outer a + items_size before + items_size test + 2 + 0 ≤ 16384 → entries outer + 2 ≤ 16 →
      IsRead p kernel_while_body 78 280 c w c h a name older (read (InWhile before test ∷ outer) NoItem)
  while_read outer before test o high few =
      let at = ends (InBegin before ∷ outer) test a o.even in
      let out = ends outer before a o.even in
      let least = out.least in
      let low = o.low in
      let even = o.even in
      let ev = at.even_end in
      let new : data_cell w new_cell ≡ suc (h - 1) = o.new ∙ less_one h o.some in
      let room : HasRoom w (inner outer a + items_size before + items_size test) 2 =
      record { space = o.space; here = o.here; even = ev; low = omega (arith, least, low); high = omega (arith, high) } in
      let newest : IsNewest w (entries outer) 2 (inner outer a + items_size before) =
      record { count = o.count; few = omega (arith, few); kind_is = o.structures.0.0; place_is = o.structures.0.1 } in
      let u1 = stored (closed (entries outer)) w in
      let q1 = by_closed w (entries outer) o.space (omega (arith, few)) in
      let u2 = stored (opened (entries outer) 1 (inner outer a + items_size before + items_size test)) u1 in
      let q2 = by_opened u1 (entries outer) 1 (inner outer a + items_size before + items_size test) q1.console.space (omega (arith, few))
      (omega arith) (omega (arith, high)) in
      let u3 = stored (laid (inner outer a + items_size before + items_size test) 8192) u2 in
      let q3 = by_laid u2 (inner outer a + items_size before + items_size test) 8192 q2.console.space (omega (arith, least, low)) ev
      (omega (arith, high)) (omega arith) in
      let v = stored (opened (entries outer + 1) 2 (inner outer a + items_size before)) u3 in
      let l = by_opened u3 (entries outer + 1) 2 (inner outer a + items_size before) q3.console.space (omega (arith, few)) (omega arith)
      (omega (arith, high)) in
      let k = console_then w u3 v (console_then w u2 u3 (console_then w u1 u2 q1.console q2.console) q3.console) l.console in
      let code : Alike v w 8640 (inner outer a + items_size before + items_size test) =
      λ b f g. l.above b (omega (arith, f)) ∙ q3.below b (omega (arith, f)) g ∙ q2.above b (omega (arith, f))
      ∙ q1.above b (omega (arith, f)) in
      record {
        after = v;
        run = λ work es callers. within p 78 280 (omega arith) (omega arith)
            (while_returns p d (entries outer) (inner outer a + items_size before) (inner outer a + items_size before + items_size test)
            (h - 1) c w room newest new (omega (arith, high)) (omega (arith, few)) work es callers);
        console = k;
        still_open = still_open p d c w h a name older v (read (InBegin before ∷ outer) test)
            (read (InWhile before test ∷ outer) NoItem) o k
            (λ b f g. l.low b f g ∙ q3.below b f (omega (arith, g, least, low)) ∙ q2.low b f g ∙ q1.low b f g)
            (λ b f g. code b f (omega (arith, g, least)))
            (l.here ∙ omega (arith, q3.here)) high (
              items_kept v w (inner outer a) before (λ b f g. code b (omega (arith, f, least, low)) (omega (arith, g))) o.outer.0,
              items_kept v w (inner outer a + items_size before) test (λ b f g. code b (omega (arith, f, least, low)) g) o.done,
              l.above (inner outer a + items_size before + items_size test) (omega (arith, least, low)) ∙ q3.cell,
              outer_kept v w a outer (λ b f g. code b (omega (arith, f, low)) (omega (arith, g))) o.outer.1,
            )
            tt (l.count ∙ omega arith) few (
              (
                l.under (entry (entries outer)) (omega arith) (omega arith)
                    ∙ q3.below (entry (entries outer)) (omega arith) (omega (arith, few, least, low)) ∙ q2.entry_is.0,
                l.under (entry (entries outer) + 2) (omega arith) (omega arith)
                    ∙ q3.below (entry (entries outer) + 2) (omega arith) (omega (arith, few, least, low)) ∙ q2.entry_is.1,
              ),
              l.entry_is,
              entries_kept v w a outer (λ b f g. l.under b f (omega (arith, g))
                  ∙ q3.below b (omega (arith, f)) (omega (arith, g, few, least, low)) ∙ q2.under b f g ∙ q1.above b f) o.structures.1,
            );
        rest = λ b r. l.outside b r.low r.entries
            ∙ q3.outside b r.low r.here (away_from a b (inner outer a + items_size before + items_size test + 2 + 0)
            (inner outer a + items_size before + items_size test) r.code (omega (arith, least)) (omega arith) even ev)
            ∙ q2.outside b r.low r.entries ∙ q1.outside b r.low r.entries;
      }

  -- ---- REPEAT
  pub repeat_read : (outer : List OpenStructure) (before test body : TypedItems) →
      IsOpen w h a name older (read (InWhile before test ∷ outer) body) →
      inner outer a + items_size (added before (BeginWhile test body)) ≤ 16384 →
      IsRead p kernel_repeat_body 78 280 c w c h a name older (read outer (added before (BeginWhile test body)))
  repeat_read outer before test body o high =
      let at = ends (InWhile before test ∷ outer) body a o.even in
      let out = ends outer before a o.even in
      let least = out.least in
      let low = o.low in
      let even = o.even in
      let ev = at.even_end in
      let ep = out.even_end in
      let et = items_even test in
      let few = o.few in
      let sum = size_added before (BeginWhile test body) in
      let room : HasRoom w (inner outer a + items_size before + items_size test + 2 + items_size body) 2 =
      record { space = o.space; here = o.here; even = ev; low = omega (arith, least, low); high = omega (arith, high, sum) } in
      let newest : IsNewest w (entries outer + 1) 2 (inner outer a + items_size before) =
      record { count = o.count ∙ omega arith; few = omega (arith, few); kind_is = o.structures.1.0; place_is = o.structures.1.1 } in
      let patched : IsPatched w (inner outer a + items_size before + items_size test) 8192
      (inner outer a + items_size before + items_size test + 2 + items_size body + 2) =
      record { cell = o.outer.2; low = omega (arith, least, low); high = omega (arith, high, sum); fits = omega (arith, high, sum) } in
      let u1 = stored (closed (entries outer + 1)) w in
      let q1 = by_closed w (entries outer + 1) o.space (omega (arith, few)) in
      let u2 = stored (laid (inner outer a + items_size before + items_size test + 2 + items_size body)
      ((inner outer a + items_size before) / 2)) u1 in
      let q2 = by_laid u1 (inner outer a + items_size before + items_size test + 2 + items_size body)
      ((inner outer a + items_size before) / 2) q1.console.space (omega (arith, least, low)) ev (omega (arith, high, sum))
      (omega (arith, high, sum)) in
      let u3 = stored (closed (entries outer)) u2 in
      let q3 = by_closed u2 (entries outer) q2.console.space (omega (arith, few)) in
      let v = stored ((
        inner outer a + items_size before + items_size test,
        8192
            + (inner outer a + items_size before + items_size test + 2 + items_size body + 2) / 2,
      ) ∷ []) u3 in
      let l = by_patched u3 (inner outer a + items_size before + items_size test)
      (8192 + (inner outer a + items_size before + items_size test + 2 + items_size body + 2) / 2) q3.console.space
      (omega (arith, least, low)) (omega (arith, ep, et)) (omega (arith, high, sum)) (omega (arith, high, sum)) in
      let k = console_then w u3 v (console_then w u2 u3 (console_then w u1 u2 q1.console q2.console) q3.console) l.console in
      let code : Alike v w 8640 (inner outer a + items_size before + items_size test) =
      λ b f g. l.below b (omega (arith, f)) g ∙ q3.above b (omega (arith, f)) ∙ q2.below b (omega (arith, f)) (omega (arith, g))
      ∙ q1.above b (omega (arith, f)) in
      record {
        after = v;
        run = λ work es callers. within p 61 232 (omega arith) (omega arith)
            (repeat_returns p d (entries outer) (inner outer a + items_size before + items_size test)
            (inner outer a + items_size before) 8192
            (inner outer a + items_size before + items_size test + 2 + items_size body) c w room newest
            o.structures.0.0 o.structures.0.1 (omega (arith, high, sum)) patched (omega arith) work es callers);
        console = k;
        still_open = still_open p d c w h a name older v (read (InWhile before test ∷ outer) body)
            (read outer (added before (BeginWhile test body))) o k
            (λ b f g. l.below b (omega (arith, f)) (omega (arith, g, least, low)) ∙ q3.low b f g
            ∙ q2.below b f (omega (arith, g, least, low)) ∙ q1.low b f g) (λ b f g. code b f (omega (arith, g, least)))
            (l.below here_cell (omega arith) (omega (arith, least, low)) ∙ q3.here ∙ omega (arith, q2.here, sum)) high
            (outer_kept v w a outer (λ b f g. code b (omega (arith, f, low)) (omega (arith, g))) o.outer.3)
            (stand_added v (inner outer a) before (BeginWhile test body)
            (items_kept v w (inner outer a) before (λ b f g. code b (omega (arith, f, least, low)) (omega (arith, g))) o.outer.0)
            (items_then v (inner outer a + items_size before) test
            ((8192 + (inner outer a + items_size before + items_size test + 2 + items_size body + 2) / 2) ∷
            (items_cells body (inner outer a + items_size before + items_size test + 2)
            ++ (inner outer a + items_size before) / 2 ∷ []))
            (items_kept v w (inner outer a + items_size before) test (λ b f g. code b (omega (arith, f, least, low)) g) o.outer.1) (
              l.cell,
              items_then v (inner outer a + items_size before + items_size test + 2) body ((inner outer a + items_size before) / 2 ∷ [])
                  (items_kept v w (inner outer a + items_size before + items_size test + 2) body
                  (λ b f g. l.above b f ∙ q3.above b (omega (arith, f, least, low)) ∙ q2.below b (omega (arith, f, least, low)) g
                  ∙ q1.above b (omega (arith, f, least, low))) o.done) (
                    l.above (inner outer a + items_size before + items_size test + 2 + items_size body) (omega arith)
                        ∙ q3.above (inner outer a + items_size before + items_size test + 2 + items_size body) (omega (arith, least, low))
                        ∙ q2.cell,
                    tt,
                  ),
            )))
            (l.below open_count_cell (omega arith) (omega (arith, least, low)) ∙ q3.count) (omega (arith, few))
            (entries_kept v w a outer (λ b f g. l.below b (omega (arith, f)) (omega (arith, g, few, least, low)) ∙ q3.above b f
            ∙ q2.below b (omega (arith, f)) (omega (arith, g, few, least, low)) ∙ q1.above b f) o.structures.2);
        rest = λ b r. l.outside b r.low (away_from a b (inner outer a + items_size (added before (BeginWhile test body)))
            (inner outer a + items_size before + items_size test) r.code (omega (arith, least)) (omega (arith, sum)) even
            (omega (arith, ep, et)))
            ∙ q3.outside b r.low r.entries
            ∙ q2.outside b r.low r.here (away_from a b (inner outer a + items_size (added before (BeginWhile test body)))
            (inner outer a + items_size before + items_size test + 2 + items_size body) r.code (omega (arith, least))
            (omega (arith, sum)) even ev)
            ∙ q1.outside b r.low r.entries;
      }
