-- K-HEADER: the bytes that it lays, from what each of its words lays.
use Rattle.std.proofs.Common.{◌≡◌, ◌≢◌, inl, inr, ℕ, suc, ◌+◌, ◌/◌, ◌%◌, ◌≤◌, ◌<◌, List, ◌∷◌, refl, ap, sym, ◌∙◌, subst, arith}
use Rattle.console_ports.specs.Ports.{even}
use Rattle.word_table.specs.declared.word.Word.TheVariants.{Comma, CComma, Align}
use Rattle.forth_program.specs.State.{World, Reply, Gives}
use Rattle.forth_program.specs.Program.{SourceProgram}
use Rattle.forth_program.specs.ByteWords.{move}
use Rattle.forth_program.specs.Meaning.{meaning}
use Rattle.kernel_words.specs.Places.{here_cell, latest_cell, line_buffer}
use Rattle.kernel_words.specs.Bodies.{IsKernel}
use Rattle.kernel_words.specs.Memory.{IsDataSpace, KeepsConsole, data_cell, data_byte, with_data_cell}
use Rattle.kernel_words.specs.Laws.{IsApart, HeaderFits, HeaderIsMade, HeadersAreMade}
use Rattle.kernel_words.proofs.Memory.{after_store, console_then, cell_stored, cell_kept, byte_kept, cell_alike, cell_fits}
use Rattle.kernel_words.proofs.Moves.{Moved, moved}
use Rattle.kernel_words.proofs.Laying.{Laid, laid_cell, laid_byte, allotted, aligned_here}
use Rattle.kernel_words.proofs.HeaderRun.{header_returns}

-- what is apart is kept
keeps : {k : ℕ} {v : World} {c : List ℕ} {r : Reply (List ℕ)} (l : Laid k v c r) (first end b : ℕ) → first ≤ data_cell v here_cell → data_cell v here_cell + k ≤ end → 8192 ≤ b → b / 2 ≢ here_cell / 2 →
    IsApart b first end → data_byte l.after b ≡ data_byte v b
keeps l first end b f g low away (inl under) = l.below b low away (omega (arith, f, under))
keeps l first end b f g low away (inr over) = l.above b low away (omega (arith, g, over))

module _ (p : SourceProgram) (k : IsKernel p) (x a n h : ℕ) (c : List ℕ) (w : World) (hw : IsDataSpace w) (fx : x < 65536) (s : HeaderFits w a n h)
    (v2 : World) (aligns : meaning Align (x ∷ a ∷ c) w ≡ Gives (x ∷ a ∷ c) v2) (q2 : KeepsConsole w v2) (here2 : data_cell v2 here_cell ≡ h) (latest2 : data_cell v2 latest_cell ≡ data_cell w latest_cell)
    (kept2 : (b : ℕ) → 8192 ≤ b → b / 2 ≢ here_cell / 2 → data_byte v2 b ≡ data_byte w b)
    (l3 : Laid 2 v2 (x ∷ a ∷ c) (meaning Comma (data_cell w latest_cell ∷ x ∷ a ∷ c) v2)) (c3 : data_cell l3.after (data_cell v2 here_cell) ≡ data_cell w latest_cell)
    (l4 : Laid 2 l3.after (a ∷ c) (meaning Comma (x ∷ a ∷ c) l3.after)) (c4 : data_cell l4.after (data_cell l3.after here_cell) ≡ x)
    (l5 : Laid 1 l4.after (a ∷ c) (meaning CComma (n ∷ a ∷ c) l4.after)) (c5 : data_byte l5.after (data_cell l4.after here_cell) ≡ n % 256)
    (l6 : Laid 1 l5.after (a ∷ c) (meaning CComma (0 ∷ a ∷ c) l5.after)) (c6 : data_byte l6.after (data_cell l5.after here_cell) ≡ 0)
    (v7 : World) (e7 : v7 ≡ with_data_cell here_cell (data_cell l6.after here_cell + n) l6.after) (m : Moved n (a + 1) (h + 6) v7 (move n (a + 1) (h + 6) v7)) where
  here3 : data_cell l3.after here_cell ≡ h + 2
  here3 = let e = l3.here in omega (arith, e, here2)

  here4 : data_cell l4.after here_cell ≡ h + 4
  here4 = let e = l4.here in let f = here3 in omega (arith, e, f)

  here5 : data_cell l5.after here_cell ≡ h + 5
  here5 = let e = l5.here in let f = here4 in omega (arith, e, f)

  here6 : data_cell l6.after here_cell ≡ h + 6
  here6 = let e = l6.here in let f = here5 in omega (arith, e, f)

  abbrev IsOut : ℕ → Type 0
  IsOut b = IsApart b h (h + 6 + n)

  out4 : (b : ℕ) → 8192 ≤ b → b / 2 ≢ here_cell / 2 → IsOut b → data_byte l4.after b ≡ data_byte w b
  out4 b low away apart = let f = here3 in keeps l4 h (h + 6 + n) b (omega (arith, f)) (omega (arith, f)) low away apart ∙ keeps l3 h (h + 6 + n) b (omega (arith, here2)) (omega (arith, here2)) low away apart ∙ kept2 b low away

  out6 : (b : ℕ) → 8192 ≤ b → b / 2 ≢ here_cell / 2 → IsOut b → data_byte l6.after b ≡ data_byte w b
  out6 b low away apart = let f = here4 in let g = here5 in keeps l6 h (h + 6 + n) b (omega (arith, g)) (omega (arith, g)) low away apart ∙ keeps l5 h (h + 6 + n) b (omega (arith, f))
      (omega (arith, f)) low away apart ∙ out4 b low away apart

  q6 : KeepsConsole w l6.after
  q6 = console_then w l5.after l6.after (console_then w l4.after l5.after (console_then w l3.after l4.after (console_then w v2 l3.after q2 l3.console) l4.console) l5.console) l6.console

  kept7 : (b : ℕ) → 8192 ≤ b → b / 2 ≢ here_cell / 2 → data_byte v7 b ≡ data_byte l6.after b
  kept7 b low away = ap (λ v. data_byte v b) e7 ∙ byte_kept l6.after here_cell b (data_cell l6.after here_cell + n) (omega arith) low away

  here7 : data_cell v7 here_cell ≡ h + 6 + n
  here7 = ap (λ v. data_cell v here_cell) e7 ∙ cell_stored l6.after here_cell here_cell (data_cell l6.after here_cell + n) q6.space (omega arith) (omega arith) refl ∙ ap (λ y. y + n) here6

  old : line_buffer ≤ h
  old = let e = s.place in let f = s.old in omega (arith, e, f)

  here8 : data_cell m.after here_cell ≡ h + 6 + n
  here8 = let f = old in cell_alike m.after v7 here_cell refl (m.rest here_cell (omega arith) (λ i g e. omega (arith, e, f))) (m.rest 8197 (omega arith) (λ i g e. omega (arith, e, f))) ∙ here7

  q8 : KeepsConsole w m.after
  q8 = let f = here6 in let r = s.room in console_then w l6.after m.after q6 (console_then l6.after v7 m.after
      (subst (λ v. KeepsConsole l6.after v) (sym e7) (after_store l6.after here_cell (data_cell l6.after here_cell + n) q6.space (omega (arith, f, r)))) m.console)

  abbrev v9 : World
  v9 = with_data_cell here_cell (even (data_cell m.after here_cell + 1)) m.after

  q9 : KeepsConsole w v9
  q9 = let f = here8 in let r = s.room in console_then w m.after v9 q8 (after_store m.after here_cell (even (data_cell m.after here_cell + 1)) q8.space (omega (arith, f, r)))

  abbrev last : World
  last = with_data_cell latest_cell h v9

  tail : (b : ℕ) → 8192 ≤ b → b / 2 ≢ here_cell / 2 → b / 2 ≢ latest_cell / 2 → data_byte last b ≡ data_byte m.after b
  tail b low away away' = byte_kept v9 latest_cell b h (omega arith) low away' ∙ byte_kept m.after here_cell b (even (data_cell m.after here_cell + 1)) (omega arith) low away

  -- the bytes before the name stay as they are laid
  front : (j : ℕ) → j < 6 → data_byte last (h + j) ≡ data_byte l6.after (h + j)
  front j f = let o = old in tail (h + j) (omega (arith, o)) (λ e. omega (arith, o, e)) (s.latest j (omega (arith, f))) ∙ m.rest (h + j) (omega (arith, o)) (λ i g e. omega (arith, e, f)) ∙ kept7
      (h + j) (omega (arith, o)) (λ e. omega (arith, o, e))

  -- and those before are kept by each word
  under6 : (b : ℕ) → h ≤ b → b < h + 5 → data_byte l6.after b ≡ data_byte l5.after b
  under6 b f g = let o = old in let e = here5 in l6.below b (omega (arith, o, f)) (λ z. omega (arith, z, o, f)) (omega (arith, e, g))

  under5 : (b : ℕ) → h ≤ b → b < h + 4 → data_byte l6.after b ≡ data_byte l4.after b
  under5 b f g = let o = old in let e = here4 in under6 b f (omega (arith, g)) ∙ l5.below b (omega (arith, o, f)) (λ z. omega (arith, z, o, f)) (omega (arith, e, g))

  under4 : (b : ℕ) → h ≤ b → b < h + 2 → data_byte l6.after b ≡ data_byte l3.after b
  under4 b f g = let o = old in let e = here3 in under5 b f (omega (arith, g)) ∙ l4.below b (omega (arith, o, f)) (λ z. omega (arith, z, o, f)) (omega (arith, e, g))

  even_place : h % 2 ≡ 0
  even_place = let e = s.place in omega (arith, e)

  at : (u : World) (j : ℕ) → data_byte u (h + j) ≡ data_byte u (h + j)
  at u j = refl

  made : HeaderIsMade p x a n h c w
  made =
      let ev = even_place in
      let o = old in
      let room = s.room in
      record {
        after = last;
        run = header_returns p k x a n (data_cell w latest_cell) h c w v2 l3.after l4.after l5.after l6.after v7 m.after v9 (record {
          aligns = aligns;
          space2 = q2.space;
          here2 = here2;
          latest2 = latest2;
          links = l3.gives;
          codes = l4.gives;
          space4 = (console_then w l3.after l4.after (console_then w v2 l3.after q2 l3.console) l4.console).space;
          size4 = out4 a s.low (let t = s.text 0 (omega arith) in subst (λ b. b / 2 ≢ here_cell / 2) (zero_more a) t.0) (let t = s.text 0 (omega arith) in subst IsOut (zero_more a) t.1) ∙ s.size;
          sizes = l5.gives;
          flags = l6.gives;
          space6 = q6.space;
          size6 = out6 a s.low (let t = s.text 0 (omega arith) in subst (λ b. b / 2 ≢ here_cell / 2) (zero_more a) t.0) (let t = s.text 0 (omega arith) in subst IsOut (zero_more a) t.1) ∙ s.size;
          here6 = here6;
          allots = (let f = here6 in allotted n (n ∷ (h + 6) ∷ (a + 1) ∷ c) l6.after q6.space (omega (arith, f, room))) ∙ ap (λ v. Gives (n ∷ (h + 6) ∷ (a + 1) ∷ c) v) (sym e7);
          moves = m.moves;
          aligns_again = (let f = here8 in aligned_here c m.after q8.space (omega (arith, f, room)));
          space9 = q9.space;
        }) s.low (let r = s.high in omega (arith, r));
        console = console_then w v9 last q9 (after_store v9 latest_cell h q9.space (omega (arith, room)));
        link = cell_alike last l3.after h ev (ap (data_byte last) (zero_more' h) ∙ front 0 (omega arith) ∙ ap (data_byte l6.after) (zero_more h) ∙ under4 h (omega arith) (omega arith))
            (ap (data_byte last) (one_more h) ∙ front 1 (omega arith) ∙ ap (data_byte l6.after) (sym (one_more h)) ∙ under4 (suc h) (omega arith) (omega arith))
            ∙ ap (data_cell l3.after) (sym here2) ∙ c3;
        code = cell_alike last l4.after (h + 2) (omega (arith, ev)) (front 2 (omega arith) ∙ under5 (h + 2) (omega arith) (omega arith))
            (ap (data_byte last) (next h 2) ∙ front 3 (omega arith) ∙ under5 (h + 3) (omega arith) (omega arith) ∙ ap (data_byte l4.after) (sym (next h 2)))
            ∙ ap (data_cell l4.after) (sym here3) ∙ c4;
        size = front 4 (omega arith) ∙ under6 (h + 4) (omega arith) (omega arith) ∙ ap (data_byte l5.after) (sym here4) ∙ c5 ∙ small n s.few;
        immediate = front 5 (omega arith) ∙ ap (data_byte l6.after) (sym here5) ∙ c6;
        name = λ i f. let t = s.text (suc i) (omega (arith, f)) in
            let low = s.low in
            tail (h + 6 + i) (omega (arith, o)) (λ e. omega (arith, o, e)) (λ e. s.latest (6 + i) (omega (arith, f)) (ap (λ b. b / 2) (assoc h i) ∙ e))
            ∙ m.copy i f ∙ kept7 (a + 1 + i) (omega (arith, low)) (λ e. t.0 (ap (λ b. b / 2) (later a i) ∙ e))
            ∙ out6 (a + 1 + i) (omega (arith, low)) (λ e. t.0 (ap (λ b. b / 2) (later a i) ∙ e)) (subst IsOut (later a i) t.1);
        latest = cell_stored v9 latest_cell latest_cell h q9.space (omega arith) (omega arith) refl;
        here = cell_kept v9 latest_cell here_cell h (omega arith) (omega arith) (λ e. omega (arith, e)) ∙ cell_stored m.after here_cell here_cell (even (data_cell m.after here_cell + 1)) q8.space
            (omega arith) (omega arith) refl ∙ ap (λ y. even (y + 1)) here8;
        rest = λ b low away away' apart. tail b low away away' ∙ m.rest b low (λ i f e. inside b i f e apart) ∙ kept7 b low away ∙ out6 b low away apart;
      }
    where
      zero_more : (a : ℕ) → a + 0 ≡ a
      zero_more a = omega arith

      zero_more' : (a : ℕ) → a ≡ a + 0
      zero_more' a = omega arith

      one_more : (a : ℕ) → suc a ≡ a + 1
      one_more a = omega arith

      next : (a j : ℕ) → suc (a + j) ≡ a + suc j
      next a j = omega arith

      small : (n : ℕ) → n ≤ 31 → n % 256 ≡ n
      small n f = omega (arith, f)

      assoc : (h i : ℕ) → h + (6 + i) ≡ h + 6 + i
      assoc h i = omega arith

      later : (a i : ℕ) → a + suc i ≡ a + 1 + i
      later a i = omega arith

      inside : (b i : ℕ) → i < n → b ≡ h + 6 + i → IsApart b h (h + 6 + n) → ⊥
      inside b i f e (inl under) = omega (arith, e, under)
      inside b i f e (inr over) = omega (arith, e, over, f)

module _ (p : SourceProgram) (k : IsKernel p) (x a n h : ℕ) (c : List ℕ) (w : World) (hw : IsDataSpace w) (fx : x < 65536) (s : HeaderFits w a n h)
    (v2 : World) (aligns : meaning Align (x ∷ a ∷ c) w ≡ Gives (x ∷ a ∷ c) v2) (q2 : KeepsConsole w v2) (here2 : data_cell v2 here_cell ≡ h) (latest2 : data_cell v2 latest_cell ≡ data_cell w latest_cell)
    (kept2 : (b : ℕ) → 8192 ≤ b → b / 2 ≢ here_cell / 2 → data_byte v2 b ≡ data_byte w b) where
  at_least : line_buffer ≤ h
  at_least = let e = s.place in let f = s.old in omega (arith, e, f)

  is_even : h % 2 ≡ 0
  is_even = let e = s.place in omega (arith, e)

  apart : (i j : ℕ) → i < n → j < n → a + 1 + i ≢ h + 6 + j
  apart i j f g e = by (s.text (suc i) (omega (arith, f))).1
    where
      by : IsApart (a + suc i) h (h + 6 + n) → ⊥
      by (inl under) = omega (arith, under, e)
      by (inr over) = omega (arith, over, e, g)

  from6 : (l3 : Laid 2 v2 (x ∷ a ∷ c) (meaning Comma (data_cell w latest_cell ∷ x ∷ a ∷ c) v2)) → data_cell l3.after (data_cell v2 here_cell) ≡ data_cell w latest_cell →
      (l4 : Laid 2 l3.after (a ∷ c) (meaning Comma (x ∷ a ∷ c) l3.after)) → data_cell l4.after (data_cell l3.after here_cell) ≡ x →
      (l5 : Laid 1 l4.after (a ∷ c) (meaning CComma (n ∷ a ∷ c) l4.after)) → data_byte l5.after (data_cell l4.after here_cell) ≡ n % 256 →
      (l6 : Laid 1 l5.after (a ∷ c) (meaning CComma (0 ∷ a ∷ c) l5.after)) → data_byte l6.after (data_cell l5.after here_cell) ≡ 0 → HeaderIsMade p x a n h c w
  from6 l3 c3 l4 c4 l5 c5 l6 c6 =
      let e3 = l3.here in
      let e4 = l4.here in
      let e5 = l5.here in
      let e6 = l6.here in
      let o = at_least in
      let room = s.room in
      let low = s.low in
      let high = s.high in
      let q = l6.console in
      made p k x a n h c w hw fx s v2 aligns q2 here2 latest2 kept2 l3 c3 l4 c4 l5 c5 l6 c6 (with_data_cell here_cell (data_cell l6.after here_cell + n) l6.after) refl
      (moved n (a + 1) (h + 6) (with_data_cell here_cell (data_cell l6.after here_cell + n) l6.after)
      (after_store l6.after here_cell (data_cell l6.after here_cell + n) q.space (omega (arith, here2, e3, e4, e5, e6, room))).space (omega (arith, low)) high (omega (arith, o)) room apart)

  from5 : (l3 : Laid 2 v2 (x ∷ a ∷ c) (meaning Comma (data_cell w latest_cell ∷ x ∷ a ∷ c) v2)) → data_cell l3.after (data_cell v2 here_cell) ≡ data_cell w latest_cell →
      (l4 : Laid 2 l3.after (a ∷ c) (meaning Comma (x ∷ a ∷ c) l3.after)) → data_cell l4.after (data_cell l3.after here_cell) ≡ x →
      (l5 : Laid 1 l4.after (a ∷ c) (meaning CComma (n ∷ a ∷ c) l4.after)) → data_byte l5.after (data_cell l4.after here_cell) ≡ n % 256 → HeaderIsMade p x a n h c w
  from5 l3 c3 l4 c4 l5 c5 =
      let e3 = l3.here in
      let e4 = l4.here in
      let e5 = l5.here in
      let o = at_least in
      let room = s.room in
      let l = laid_byte 0 (a ∷ c) l5.after l5.console.space (omega (arith, here2, e3, e4, e5, o)) (omega (arith, here2, e3, e4, e5, room)) in
      from6 l3 c3 l4 c4 l5 c5 l.0 l.1

  from4 : (l3 : Laid 2 v2 (x ∷ a ∷ c) (meaning Comma (data_cell w latest_cell ∷ x ∷ a ∷ c) v2)) → data_cell l3.after (data_cell v2 here_cell) ≡ data_cell w latest_cell →
      (l4 : Laid 2 l3.after (a ∷ c) (meaning Comma (x ∷ a ∷ c) l3.after)) → data_cell l4.after (data_cell l3.after here_cell) ≡ x → HeaderIsMade p x a n h c w
  from4 l3 c3 l4 c4 =
      let e3 = l3.here in
      let e4 = l4.here in
      let o = at_least in
      let room = s.room in
      let l = laid_byte n (a ∷ c) l4.after l4.console.space (omega (arith, here2, e3, e4, o)) (omega (arith, here2, e3, e4, room)) in
      from5 l3 c3 l4 c4 l.0 l.1

  from3 : (l3 : Laid 2 v2 (x ∷ a ∷ c) (meaning Comma (data_cell w latest_cell ∷ x ∷ a ∷ c) v2)) → data_cell l3.after (data_cell v2 here_cell) ≡ data_cell w latest_cell → HeaderIsMade p x a n h c w
  from3 l3 c3 =
      let e3 = l3.here in
      let o = at_least in
      let ev = is_even in
      let room = s.room in
      let l = laid_cell x (a ∷ c) l3.after l3.console.space fx (omega (arith, here2, e3, ev)) (omega (arith, here2, e3, o)) (omega (arith, here2, e3, room)) in
      from4 l3 c3 l.0 l.1

  from2 : HeaderIsMade p x a n h c w
  from2 =
      let o = at_least in
      let ev = is_even in
      let room = s.room in
      let l = laid_cell (data_cell w latest_cell) (x ∷ a ∷ c) v2 q2.space (cell_fits w latest_cell hw) (omega (arith, here2, ev)) (omega (arith, here2, o)) (omega (arith, here2, room)) in
      from3 l.0 l.1

pub headers_are_made : HeadersAreMade
headers_are_made p x a n h c w k hw fx s =
    let place = s.place in
    let room = s.room in
    from2 p k x a n h c w hw fx s (with_data_cell here_cell h w)
    (aligned_here (x ∷ a ∷ c) w hw (omega (arith, place, room)) ∙ ap (λ y. Gives (x ∷ a ∷ c) (with_data_cell here_cell y w)) (sym place))
    (after_store w here_cell h hw (omega (arith, room)))
    (cell_stored w here_cell here_cell h hw (omega arith) (omega arith) refl)
    (cell_kept w here_cell latest_cell h (omega arith) (omega arith) (λ e. omega (arith, e)))
    (λ b low away. byte_kept w here_cell b h (omega arith) low away)
