-- IF ELSE THEN BEGIN UNTIL WHILE REPEAT and `;`.
use Rattle.std.proofs.Common.{◌≡◌, ◌⊎◌, inl, inr, ℕ, suc, ◌+◌, ◌/◌, ◌≤◌, ◌<◌, List, [], ◌∷◌, ◌++◌, refl, ap, ◌∙◌, arith}
use Rattle.cell_math.specs.Cell.{flag}
use Rattle.word_table.specs.declared.word.Word.TheVariants.{Fetch, Here, Store, ZeroEqual}
use Rattle.forth_program.specs.State.{World, Gives}
use Rattle.forth_program.specs.Program.{SourceProgram}
use Rattle.forth_program.specs.Step.{step}
use Rattle.forth_program.specs.Run.{steps}
use Rattle.forth_program.specs.Price.{spent}
use Rattle.kernel_words.specs.Places.{here_cell, latest_cell, kernel_cell_place}
use Rattle.kernel_words.specs.Running.{Returns}
use Rattle.kernel_words.specs.Memory.{IsDataSpace, data_cell, with_data_cell}
use Rattle.kernel_words.proofs.Cases.{unequal}
use Rattle.kernel_words.proofs.Runs.{by_way, by_word, by_call, there}
use Rattle.kernel_words.proofs.Memory.{reads, writes, cell_fits}
use Rattle.kernel_words.proofs.Laying.{reads_here}
use Rattle.kernel_lines.specs.Places.{state_cell, new_cell, open_count_cell}
use Rattle.kernel_definitions.specs.Places.{open_place, close_place, patch_place, compile_jump_place, compile_branch_place}
use Rattle.kernel_definitions.specs.Places.{compile_return_place, kernel_if_place, kernel_then_place}
use Rattle.kernel_definitions.specs.Bodies.{HasDefiningWords, kernel_if_body, kernel_then_body, kernel_else_body, kernel_begin_body}
use Rattle.kernel_definitions.specs.Bodies.{kernel_until_body, kernel_while_body, kernel_repeat_body, kernel_semicolon_body}
use Rattle.kernel_definitions.specs.Stores.{stored, laid, entry, opened, closed, HasRoom, MayOpen, IsNewest, IsPatched}
use Rattle.kernel_definitions.proofs.Stores.{room_stays, stored_keep, missed, hit, opened_cells, closed_cells, laid_cells, opened_miss}
use Rattle.kernel_definitions.proofs.Stores.{closed_miss, laid_miss}
use Rattle.kernel_definitions.proofs.Compiling.{lay_returns, room_on, compile_jump_returns, compile_branch_returns, compile_return_returns}
use Rattle.kernel_definitions.proofs.Compiling.{patch_returns, open_returns, close_returns}

-- an entry is closed: what stands where
pub record Closed (w after : World) (n h m header : ℕ) : Type 0 where
  pub room : HasRoom after h m
  pub count : data_cell after open_count_cell ≡ n
  pub new : data_cell after new_cell ≡ header

pub closes : (w : World) (n h m header : ℕ) → n < 16 → HasRoom w h m → data_cell w new_cell ≡ header →
    Closed w (stored (closed n) w) n h m header
closes w n h m header few r new = record {
  room = room_stays (closed n) w h m r (closed_cells n few) (closed_miss n here_cell (inl (omega arith)));
  count = hit [] w open_count_cell n open_count_cell r.space tt (omega arith) (omega arith) refl;
  new = missed (closed n) w new_cell (omega arith) (closed_miss n new_cell (inl (omega arith))) ∙ new;
}

-- one is opened
pub record Opened (w after : World) (n h m header : ℕ) : Type 0 where
  pub room : HasRoom after h m
  pub count : data_cell after open_count_cell ≡ n + 1
  pub new : data_cell after new_cell ≡ header

pub opens : (w : World) (n kind place h m header : ℕ) → n < 16 → kind < 65536 → place < 65536 → HasRoom w h m →
    data_cell w new_cell ≡ header → Opened w (stored (opened n kind place) w) n h m header
opens w n kind place h m header few fk fp r new = record {
  room = room_stays (opened n kind place) w h m r (opened_cells n kind place few fk fp)
      (opened_miss n kind place here_cell few (inl (omega arith)));
  count = hit ((entry n + 2, place) ∷ (entry n, kind) ∷ []) w open_count_cell (n + 1) open_count_cell r.space (fp, (fk, tt)) (omega arith)
      (omega arith) refl;
  new = missed (opened n kind place) w new_cell (omega arith) (opened_miss n kind place new_cell few (inl (omega arith))) ∙ new;
}

module _ (p : SourceProgram) (d : HasDefiningWords p) where
  pub if_returns : (n h header : ℕ) (c : List ℕ) (w : World) → HasRoom w h 2 → MayOpen w n → data_cell w new_cell ≡ suc header →
      Returns p kernel_if_body 30 131 c w c (stored (laid h 8192 ++ opened n 1 h) w)
  unfolding step steps spent
  if_returns n h header c w r m new work es callers =
      let high = r.high in
      let v = stored (opened n 1 h) w in
      let o = opens w n 1 h h 2 (suc header) m.few (omega arith) (omega (arith, high)) r new in
      (by_word p Here 29 129 (reads_here c w r.space ∙ ap (λ y. Gives (y ∷ c) w) r.here) refl (omega arith) (omega arith)
      (by_way p 1 28 127 refl (omega arith) (omega arith)
      (by_call p open_place 22 73 5 53 d.opens (open_returns p d n 1 h header c w r.space m new (omega arith) (omega (arith, high))) refl
      (omega arith) (omega arith)
      (by_way p 1 4 51 refl (omega arith) (omega arith)
      (by_call p kernel_cell_place 2 49 1 1 d.kernel.kernel_cell (lay_returns p d 8192 h c v o.room (omega arith)) refl (omega arith)
      (omega arith)
      (by_way p 1 0 0 refl (omega arith) (omega arith)
      (there p)))))))

  pub then_returns : (n place x h : ℕ) (c : List ℕ) (w : World) → HasRoom w h 0 → IsNewest w n 1 place → IsPatched w place x h →
      Returns p kernel_then_body 30 104 c w c (stored ((place, x + h / 2) ∷ closed n) w)
  unfolding step steps spent
  then_returns n place x h c w s m q work es callers =
      let low = q.low in
      let high = q.high in
      let v = stored (closed n) w in
      let o = closes w n h 0 (data_cell w new_cell) m.few s refl in
      (by_way p 1 29 102 refl (omega arith) (omega arith)
      (by_call p close_place 20 68 8 33 d.closes (close_returns p d n 1 place c w s.space m) refl (omega arith) (omega arith)
      (by_call p patch_place 6 31 1 1 d.patch (patch_returns p d place x h c v o.room.space o.room.here (omega (arith, low))
      (omega (arith, high)) (missed (closed n) w place (omega (arith, low)) (closed_miss n place (inr (omega (arith, low))))
      ∙ q.cell) q.fits) refl (omega arith) (omega arith)
      (by_way p 1 0 0 refl (omega arith) (omega arith)
      (there p)))))

  pub else_returns : (n place x h header : ℕ) (c : List ℕ) (w : World) → HasRoom w h 2 → IsNewest w n 1 place →
      data_cell w new_cell ≡ suc header → IsPatched w place x (h + 2) → place + 2 ≤ h →
      Returns p kernel_else_body 59 234 c w c (stored ((place, x + (h + 2) / 2) ∷ (laid h 0 ++ opened n 1 h ++ closed n)) w)
  unfolding step steps spent
  else_returns n place x h header c w r m new q before work es callers =
      let low = q.low in
      let high = q.high in
      let top = r.high in
      let even = r.even in
      let v1 = stored (closed n) w in
      let o1 = closes w n h 2 (suc header) m.few r new in
      let v2 = stored (opened n 1 h) v1 in
      let o2 = opens v1 n 1 h h 2 (suc header) m.few (omega arith) (omega (arith, top)) o1.room o1.new in
      let v3 = stored (laid h 0) v2 in
      let r3 : HasRoom v3 (h + 2) 0 = room_on p d 0 h v2
      (record { space = o2.room.space; here = o2.room.here; even = o2.room.even; low = o2.room.low; high = omega (arith, top) })
      (omega arith) in
      let kept : data_cell v3 place ≡ x =
      missed (laid h 0) v2 place (omega (arith, low)) (laid_miss h 0 place r.low (λ e. omega (arith, e, low))
      (λ e. omega (arith, e, before, even)))
      ∙ missed (opened n 1 h) v1 place (omega (arith, low)) (opened_miss n 1 h place m.few (inr (omega (arith, low))))
      ∙ missed (closed n) w place (omega (arith, low)) (closed_miss n place (inr (omega (arith, low)))) ∙ q.cell in
      (by_way p 1 58 232 refl (omega arith) (omega arith)
      (by_call p close_place 20 68 37 163 d.closes (close_returns p d n 1 place c w r.space m) refl (omega arith) (omega arith)
      (by_word p Here 36 161 (reads_here (place ∷ c) v1 o1.room.space ∙ ap (λ y. Gives (y ∷ place ∷ c) v1) o1.room.here) refl (omega arith)
      (omega arith)
      (by_way p 1 35 159 refl (omega arith) (omega arith)
      (by_call p open_place 22 73 12 85 d.opens (open_returns p d n 1 h header (place ∷ c) v1 o1.room.space
      (record { count = o1.count; few = m.few }) o1.new (omega arith) (omega (arith, top))) refl (omega arith) (omega arith)
      (by_way p 1 11 83 refl (omega arith) (omega arith)
      (by_call p kernel_cell_place 2 49 8 33 d.kernel.kernel_cell (lay_returns p d 0 h (place ∷ c) v2 o2.room (omega arith)) refl
      (omega arith) (omega arith)
      (by_call p patch_place 6 31 1 1 d.patch (patch_returns p d place x (h + 2) c v3 r3.space r3.here (omega (arith, low))
      (omega (arith, high)) kept q.fits) refl (omega arith) (omega arith)
      (by_way p 1 0 0 refl (omega arith) (omega arith)
      (there p))))))))))

  pub begin_returns : (n h header : ℕ) (c : List ℕ) (w : World) → HasRoom w h 0 → MayOpen w n → data_cell w new_cell ≡ suc header →
      Returns p kernel_begin_body 26 79 c w c (stored (opened n 2 h) w)
  unfolding step steps spent
  begin_returns n h header c w r m new work es callers =
      let high = r.high in
      (by_word p Here 25 77 (reads_here c w r.space ∙ ap (λ y. Gives (y ∷ c) w) r.here) refl (omega arith) (omega arith)
      (by_way p 1 24 75 refl (omega arith) (omega arith)
      (by_call p open_place 22 73 1 1 d.opens (open_returns p d n 2 h header c w r.space m new (omega arith) (omega (arith, high))) refl
      (omega arith) (omega arith)
      (by_way p 1 0 0 refl (omega arith) (omega arith)
      (there p)))))

  pub until_returns : (n place h : ℕ) (c : List ℕ) (w : World) → HasRoom w h 2 → IsNewest w n 2 place → place < 65536 →
      Returns p kernel_until_body 32 130 c w c (stored (laid h (8192 + place / 2) ++ closed n) w)
  unfolding step steps spent
  until_returns n place h c w r m f work es callers =
      let v = stored (closed n) w in
      let o = closes w n h 2 (data_cell w new_cell) m.few r refl in
      (by_way p 1 31 128 refl (omega arith) (omega arith)
      (by_call p close_place 20 68 10 59 d.closes (close_returns p d n 2 place c w r.space m) refl (omega arith) (omega arith)
      (by_call p compile_branch_place 8 57 1 1 d.compile_branch (compile_branch_returns p d place h c v o.room f) refl (omega arith)
      (omega arith)
      (by_way p 1 0 0 refl (omega arith) (omega arith)
      (there p)))))

  pub while_returns : (n place h header : ℕ) (c : List ℕ) (w : World) → HasRoom w h 2 → IsNewest w n 2 place →
      data_cell w new_cell ≡ suc header → place < 65536 → n + 1 < 16 →
      Returns p kernel_while_body 78 280 c w c (stored (opened (n + 1) 2 place ++ laid h 8192 ++ opened n 1 h ++ closed n) w)
  unfolding step steps spent
  while_returns n place h header c w r m new f few work es callers =
      let top = r.high in
      let low = r.low in
      let v1 = stored (closed n) w in
      let o1 = closes w n h 2 (suc header) m.few r new in
      let u = stored (opened n 1 h) v1 in
      let o2 = opens v1 n 1 h h 2 (suc header) m.few (omega arith) (omega (arith, top)) o1.room o1.new in
      let v2 = stored (laid h 8192) u in
      let s2 : IsDataSpace v2 = (stored_keep (laid h 8192) u o2.room.space (laid_cells h 8192 top (omega arith))).space in
      let count2 : data_cell v2 open_count_cell ≡ n + 1 =
      missed (laid h 8192) u open_count_cell (omega arith)
      (laid_miss h 8192 open_count_cell low (λ e. omega (arith, e)) (λ e. omega (arith, e, low))) ∙ o2.count in
      let new2 : data_cell v2 new_cell ≡ suc header = missed (laid h 8192) u new_cell (omega arith)
      (laid_miss h 8192 new_cell low (λ e. omega (arith, e)) (λ e. omega (arith, e, low))) ∙ o2.new in
      (by_way p 1 77 278 refl (omega arith) (omega arith)
      (by_call p close_place 20 68 56 209 d.closes (close_returns p d n 2 place c w r.space m) refl (omega arith) (omega arith)
      (by_call p kernel_if_place 30 131 25 77 d.kernel_if
      (if_returns n h header (place ∷ c) v1 o1.room (record { count = o1.count; few = m.few }) o1.new) refl (omega arith) (omega arith)
      (by_way p 1 24 75 refl (omega arith) (omega arith)
      (by_call p open_place 22 73 1 1 d.opens (open_returns p d (n + 1) 2 place header c v2 s2 (record { count = count2; few = few }) new2
      (omega arith) f) refl (omega arith) (omega arith)
      (by_way p 1 0 0 refl (omega arith) (omega arith)
      (there p)))))))

  pub repeat_returns : (n place back x h : ℕ) (c : List ℕ) (w : World) → HasRoom w h 2 → IsNewest w (n + 1) 2 back →
      data_cell w (entry n) ≡ 1 → data_cell w (entry n + 2) ≡ place → back < 65536 → IsPatched w place x (h + 2) → place + 2 ≤ h →
      Returns p kernel_repeat_body 61 232 c w c (stored ((place, x + (h + 2) / 2) ∷ (closed n ++ laid h (back / 2) ++ closed (n + 1))) w)
  unfolding step steps spent
  repeat_returns n place back x h c w r m kind_is place_is f q before work es callers =
      let top = r.high in
      let low = r.low in
      let even = r.even in
      let few = m.few in
      let under = q.low in
      let v1 = stored (closed (n + 1)) w in
      let o1 = closes w (n + 1) h 2 (data_cell w new_cell) m.few r refl in
      let v2 = stored (laid h (back / 2)) v1 in
      let r2 : HasRoom v2 (h + 2) 0 = room_on p d (back / 2) h v1
      (record { space = o1.room.space; here = o1.room.here; even = o1.room.even; low = o1.room.low; high = omega (arith, top) })
      (omega (arith, f)) in
      let count2 : data_cell v2 open_count_cell ≡ n + 1 =
      missed (laid h (back / 2)) v1 open_count_cell (omega arith)
      (laid_miss h (back / 2) open_count_cell low (λ e. omega (arith, e)) (λ e. omega (arith, e, low))) ∙ o1.count in
      let kept = λ (b : ℕ) (g : 8570 ≤ b) (a : (b < 8568) ⊎ (8570 ≤ b)) (k : b < 8640). missed (laid h (back / 2)) v1 b (omega (arith, g))
      (laid_miss h (back / 2) b low (λ e. omega (arith, e, g)) (λ e. omega (arith, e, low, k)))
      ∙ missed (closed (n + 1)) w b (omega (arith, g)) (closed_miss (n + 1) b a) in
      let kept_place : data_cell v2 place ≡ data_cell w place =
      missed (laid h (back / 2)) v1 place (omega (arith, under))
      (laid_miss h (back / 2) place low (λ e. omega (arith, e, under)) (λ e. omega (arith, e, before, even)))
      ∙ missed (closed (n + 1)) w place (omega (arith, under)) (closed_miss (n + 1) place (inr (omega (arith, under)))) in
      (by_way p 1 60 230 refl (omega arith) (omega arith)
      (by_call p close_place 20 68 39 161 d.closes (close_returns p d (n + 1) 2 back c w r.space m) refl (omega arith) (omega arith)
      (by_call p compile_jump_place 6 54 32 106 d.compile_jump (compile_jump_returns p d back h c v1 o1.room f) refl (omega arith)
      (omega arith)
      (by_call p kernel_then_place 30 104 1 1 d.kernel_then
      (then_returns n place x (h + 2) c v2 r2 (record {
        count = count2;
        few = omega (arith, few);
        kind_is = kept (entry n) (omega arith) (inr (omega arith)) (omega (arith, few)) ∙ kind_is;
        place_is = kept (entry n + 2) (omega arith) (inr (omega arith)) (omega (arith, few)) ∙ place_is;
      })
      (record { cell = kept_place ∙ q.cell; low = q.low; high = q.high; fits = q.fits })) refl (omega arith) (omega arith)
      (by_way p 1 0 0 refl (omega arith) (omega arith)
      (there p))))))

  pub semicolon_returns : (h header : ℕ) (c : List ℕ) (w : World) → HasRoom w h 2 → data_cell w new_cell ≡ suc header →
      data_cell w open_count_cell ≡ 0 → Returns p kernel_semicolon_body 24 84 c w c
      (stored ((state_cell, 0) ∷ (new_cell, 0) ∷ (latest_cell, suc header) ∷ laid h 28684) w)
  unfolding step steps spent
  semicolon_returns h header c w r new none work es callers =
      let top = r.high in
      let low = r.low in
      let fits : suc header < 65536 = (let k = cell_fits w new_cell r.space in omega (arith, k, new)) in
      let v1 = stored (laid h 28684) w in
      let s1 : IsDataSpace v1 = (stored_keep (laid h 28684) w r.space (laid_cells h 28684 top (omega arith))).space in
      let new1 : data_cell v1 new_cell ≡ suc header = missed (laid h 28684) w new_cell (omega arith)
      (laid_miss h 28684 new_cell low (λ e. omega (arith, e)) (λ e. omega (arith, e, low))) ∙ new in
      let v2 = with_data_cell latest_cell (suc header) v1 in
      let s2 : IsDataSpace v2 = (stored_keep ((latest_cell, suc header) ∷ []) v1 s1 (fits, tt)).space in
      let v3 = with_data_cell new_cell 0 v2 in
      let s3 : IsDataSpace v3 = (stored_keep ((new_cell, 0) ∷ []) v2 s2 (omega arith, tt)).space in
      (by_way p 1 23 82 refl (omega arith) (omega arith)
      (by_word p Fetch 22 81 (reads w new_cell c r.space (omega arith) (omega arith) ∙ ap (λ y. Gives (y ∷ c) w) new) refl (omega arith)
      (omega arith)
      (by_word p ZeroEqual 21 79 (ap (λ t. Gives (flag t ∷ c) w) (unequal (suc header) 0 (λ e. omega (arith, e)))) refl (omega arith)
      (omega arith)
      (by_way p 1 20 77 refl (omega arith) (omega arith)
      (by_word p Fetch 19 76 (reads w open_count_cell (0 ∷ c) r.space (omega arith) (omega arith) ∙ ap (λ y. Gives (y ∷ 0 ∷ c) w) none) refl
      (omega arith) (omega arith)
      (by_way p 2 17 74 refl (omega arith) (omega arith)
      (by_call p compile_return_place 5 53 11 20 d.compile_return (compile_return_returns p d h c w r) refl (omega arith) (omega arith)
      (by_way p 1 10 18 refl (omega arith) (omega arith)
      (by_word p Fetch 9 17 (reads v1 new_cell c s1 (omega arith) (omega arith) ∙ ap (λ y. Gives (y ∷ c) v1) new1) refl (omega arith)
      (omega arith)
      (by_way p 1 8 15 refl (omega arith) (omega arith)
      (by_word p Store 7 13 (writes v1 latest_cell (suc header) c s1 (omega arith) (omega arith)) refl (omega arith) (omega arith)
      (by_way p 2 5 9 refl (omega arith) (omega arith)
      (by_word p Store 4 7 (writes v2 new_cell 0 c s2 (omega arith) (omega arith)) refl (omega arith) (omega arith)
      (by_way p 2 2 3 refl (omega arith) (omega arith)
      (by_word p Store 1 1 (writes v3 state_cell 0 c s3 (omega arith) (omega arith)) refl (omega arith) (omega arith)
      (by_way p 1 0 0 refl (omega arith) (omega arith)
      (there p)))))))))))))))))
