-- A turn of INTERPRET's loop with `:` and the name behind it.
use Rattle.std.proofs.Common.{◌≡◌, ◌≢◌, ◌⊎◌, inl, inr, ℕ, ◌+◌, ◌-◌, ◌*◌, ◌/◌, ◌%◌, ◌≤◌, ◌<◌, ◌∷◌, length, refl, ap, sym, ◌∙◌}
use Rattle.std.proofs.Common.{subst, arith}
use Rattle.std.specs.Prelude.{◌==◌, if◌then◌else◌}
use Rattle.console_ports.specs.Ports.{even}
use Rattle.kernel_words.specs.Places.{base_cell, here_cell, latest_cell, length_cell, word_buffer, source_cell, error_cell}
use Rattle.kernel_words.specs.Bodies.{next_word_body}
use Rattle.kernel_words.specs.Memory.{data_cell, data_bytes, leading_bytes}
use Rattle.kernel_words.specs.Headers.{Headers}
use Rattle.kernel_words.specs.Laws.{WordIsKept, NextWordsAreKept, place_past}
use Rattle.kernel_words.proofs.Runs.{within}
use Rattle.kernel_words.proofs.Memory.{cell_alike, console_then}
use Rattle.kernel_lines.specs.Places.{state_cell, first_here_cell, user_count_cell}
use Rattle.kernel_definitions.specs.Places.{code_of_token}
use Rattle.kernel_definitions.specs.Bodies.{interpret_word_body}
use Rattle.kernel_definitions.specs.OpenDefinition.{nothing_read, LieBelow, IsOpen}
use Rattle.kernel_definitions.specs.Beginning.{MayBegin, IsBegun}
use Rattle.kernel_definitions.specs.Interpreting.{IsFound, text_at, TextsAreRead, ColonsAreRead}
use Rattle.kernel_definitions.specs.Opening.{DefinitionsAreOpened}
use Rattle.kernel_definitions.proofs.Standing.{Alike, chain_kept}
use Rattle.kernel_definitions.proofs.Reading.{less_one}
use Rattle.kernel_definitions.proofs.ColonLaw.{alike_by_bytes, bytes_alike}
use Rattle.kernel_definitions.proofs.TurnLaw.{check_returns, keep_returns, turn_comes, whole, kept_cell, text_is}
use Rattle.kernel_definitions.proofs.LineLaw.{SameLine, word_kept, word_fits}

apart_from : (b size : ℕ) → (b < word_buffer) ⊎ (word_buffer + 82 ≤ b) → size ≤ 80 → (i : ℕ) → i ≤ size → b ≢ word_buffer + i
apart_from b size (inl under) f i g z = omega (arith, under, z)
apart_from b size (inr over) f i g z = omega (arith, over, f, g, z)

pub definitions_are_opened : NextWordsAreKept → TextsAreRead → ColonsAreRead → DefinitionsAreOpened
definitions_are_opened words texts colons p c w first size first' size' h a older d s o =
    let m = o.meets in
    let l = o.line in
    let few = m.few in
    let line_low = l.low in
    let line_high = l.high in
    let start = o.low in
    let header = o.header in
    let code = o.code in
    let room = o.room in
    let few' = o.few in
    let t : WordIsKept p next_word_body (400 * (data_cell w length_cell + 1)) (300 + 250 * data_cell w length_cell) c c w
    (data_cell w source_cell) first size size =
    subst (λ k. WordIsKept p next_word_body (400 * (data_cell w length_cell + 1)) (300 + 250 * data_cell w length_cell) c c w
    (data_cell w source_cell) first size k) (whole size few)
    (words p c w first size d.kernel s m.source m.apart m.word) in
    let v = t.after in
    let kept = kept_cell texts p d c w first size few (400 * (data_cell w length_cell + 1)) (300 + 250 * data_cell w length_cell)
    (data_cell w source_cell) t in
    let k : SameLine w v = record {
      source = kept source_cell refl (omega arith) (inr (inr (omega arith)));
      size = kept length_cell refl (omega arith) (inl (omega arith));
      base = kept base_cell refl (omega arith) (inl (omega arith));
      first_here = kept first_here_cell refl (omega arith) (inr (inr (omega arith)));
      users = kept user_count_cell refl (omega arith) (inr (inr (omega arith)));
      error = kept error_cell refl (omega arith) (inr (inr (omega arith)));
      bytes = λ b f g. t.rest b (omega (arith, f, line_low)) (λ z. omega (arith, z, g, line_high))
          (λ i n z. omega (arith, z, g, line_high));
    } in
    let here1 : data_cell v here_cell ≡ data_cell w here_cell = kept here_cell refl (omega arith) (inl (omega arith)) in
    let latest1 : data_cell v latest_cell ≡ data_cell w latest_cell =
    kept latest_cell refl (omega arith) (inr (inl (omega arith, omega arith))) in
    let state1 : data_cell v state_cell ≡ 0 = kept state_cell refl (omega arith) (inr (inr (omega arith))) ∙ o.outside in
    let source1 = k.source in
    let size1 = k.size in
    let word = word_kept w v k (place_past w (data_cell w source_cell) first size) first' size' o.name in
    let place1 = t.place in
    let word_place = word.place in
    let under : data_cell w here_cell ≤ h = omega (arith, header) in
    let even_h : h % 2 ≡ 0 = omega (arith, header) in
    let beyond : h + 6 + size' ≤ a = omega (arith, code) in
    let same1 : Alike v w 8640 h = alike_by_bytes v w 8640 h refl even_h
    (λ b f g. t.rest b (omega (arith, f)) (λ z. omega (arith, z, f)) (λ i n z. omega (arith, z, f, n, few))) in
    let chain1 = chain_kept v w (data_cell w here_cell) (data_cell w latest_cell) older
    (λ b f g. same1 b f (omega (arith, g, under))) o.chain o.lie in
    let may : MayBegin v first' size' h a older = record {
      space = t.console.space;
      source = record {
        low = omega (arith, line_low, source1);
        high = omega (arith, line_high, source1, size1);
        place = omega (arith, place1, word_place);
      };
      apart = inl (omega (arith, line_high, source1, size1));
      word = record {
        begins = subst (λ r. first' ≡ data_cell v source_cell + r
            + leading_bytes v 32 (data_cell v length_cell - r) (data_cell v source_cell + r)) (sym t.place) word.begins;
        ends = word.ends;
      };
      some = word.some;
      few = o.few;
      low = omega (arith, start, here1);
      header = o.header ∙ ap (λ x. even (x + 1)) (sym here1);
      code = o.code;
      room = omega (arith, room);
      chain = subst (λ at. Headers v at older) (sym latest1) chain1.0;
      lie = subst (λ at. LieBelow v (data_cell v here_cell) at older) (sym latest1)
          (subst (λ e. LieBelow v e (data_cell w latest_cell) older) (sym here1) chain1.1);
    } in
    let count = t.count in
    let found : IsFound older (text_at v word_buffer) 65535 (code_of_token 5) =
    subst (λ text. IsFound older text 65535 (code_of_token 5))
    (sym (text_is texts p d c w first size few (400 * (data_cell w length_cell + 1)) (300 + 250 * data_cell w length_cell)
    (data_cell w source_cell) t)) o.colon in
    let r : IsBegun p interpret_word_body (4000 * (length older + 1) + 400 * (data_cell v length_cell + 1) + 200)
    (4000 * (length older + 1) + 250 * data_cell v length_cell + 160 * size' + 1100) (word_buffer ∷ c) v
    (0 ∷ c) first' size' h a older =
    colons p word_buffer c v first' size' h a older d state1 may (omega arith) (omega (arith, count, few)) found in
    let u = r.after in
    let byte = λ (b : ℕ) (f : 8490 ≤ b) (g : b < 8568) (x : b / 2 ≢ 4246) (y : b / 2 ≢ 4247). r.rest b (omega (arith, f))
    (λ z. omega (arith, z, f)) (λ z. omega (arith, z, f)) (λ z. omega (arith, z, f)) (λ i n z. omega (arith, z, f, n, few'))
    x y (λ z. omega (arith, z, g)) (λ z. omega (arith, z, g)) (λ z. omega (arith, z, g)) (inl (omega (arith, g, start, under))) in
    let users : data_cell u user_count_cell ≡ data_cell v user_count_cell =
    cell_alike u v user_count_cell refl (byte user_count_cell (omega arith) (omega arith) (λ z. omega (arith, z))
    (λ z. omega (arith, z))) (byte 8503 (omega arith) (omega arith) (λ z. omega (arith, z)) (λ z. omega (arith, z))) in
    let first_place : data_cell u first_here_cell ≡ data_cell v first_here_cell =
    cell_alike u v first_here_cell refl (byte first_here_cell (omega arith) (omega arith) (λ z. omega (arith, z))
    (λ z. omega (arith, z))) (byte 8501 (omega arith) (omega arith) (λ z. omega (arith, z)) (λ z. omega (arith, z))) in
    let error : data_cell u error_cell ≡ 0 = cell_alike u v error_cell refl
    (byte error_cell (omega arith) (omega arith) (λ z. omega (arith, z)) (λ z. omega (arith, z)))
    (byte 8491 (omega arith) (omega arith) (λ z. omega (arith, z)) (λ z. omega (arith, z))) ∙ k.error ∙ m.no_error in
    let users1 = k.users in
    let first1 = k.first_here in
    let at_most = m.users in
    let behind = l.first_here in
    let here = r.open_now.here in
    let begins = word.begins in
    let ends = word.ends in
    let fits = word_fits v (data_cell v source_cell + data_cell v length_cell - first') first' in
    let some' = word.some in
    let name : data_bytes v size' first' ≡ data_bytes w size' first' =
    bytes_alike v w size' first' first' (λ i f. k.bytes (first' + i) (omega (arith, begins, source1))
    (omega (arith, f, ends, fits, some', source1, size1))) in
    record {
      after = u;
      run = λ work es callers. within p (13 + 400 * (data_cell w length_cell + 1)
          + (4000 * (length older + 1) + 400 * (data_cell v length_cell + 1) + 200) + 15 + 7)
          (49 + (300 + 250 * data_cell w length_cell) + (4000 * (length older + 1) + 250 * data_cell v length_cell + 160 * size' + 1100)
          + 21 + 9) (omega (arith, size1)) (omega (arith, size1))
          (turn_comes p d (400 * (data_cell w length_cell + 1)) (300 + 250 * data_cell w length_cell)
          (4000 * (length older + 1) + 400 * (data_cell v length_cell + 1) + 200)
          (4000 * (length older + 1) + 250 * data_cell v length_cell + 160 * size' + 1100) 15 21 7 9
          (size - 1) c w v u u u s t.console.space m.no_error t.run (t.count ∙ less_one size m.some) r.run
          (check_returns p d c u r.console.space (omega (arith, users, users1, at_most)) (omega (arith, first_place, first1, behind, here))
          (omega (arith, here, room)))
          (keep_returns p d (h - 1) c u r.console.space error (r.open_now.new ∙ less_one h r.open_now.some)) work es callers);
      console = console_then w v u t.console r.console;
      open_now = subst (λ n. IsOpen u h a n older nothing_read) name r.open_now;
      latest = r.latest ∙ latest1;
      place = r.place ∙ past (data_cell v source_cell) (data_cell w source_cell) (data_cell v length_cell)
          (data_cell w length_cell) source1 size1;
      rest = λ b f g1 g2 g3 g4 g5 g6 g7 g8 g9 g10. r.rest b f g1 g2 g3 (apart_from b size' g4 (omega (arith, few'))) g5 g6 g7 g8 g9 g10
          ∙ t.rest b f g2 (apart_from b size g4 few);
    }
  where
    past : (s s' n n' : ℕ) → s ≡ s' → n ≡ n' → (if first' + size' == s + n then n else first' + size' + 1 - s)
        ≡ (if first' + size' == s' + n' then n' else first' + size' + 1 - s')
    past s s' n n' e f = subst (λ x. (if first' + size' == s + n then n else first' + size' + 1 - s)
        ≡ (if first' + size' == x + n' then n' else first' + size' + 1 - x)) e
        (ap (λ y. if first' + size' == s + y then y else first' + size' + 1 - s) f)
