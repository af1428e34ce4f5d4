-- STRUCTURE, FOUND, PUT and INTERPRET-WORD, while a definition is open.
use Rattle.std.proofs.Common.{◌≡◌, ℕ, suc, ◌+◌, List, ◌∷◌, refl, ap, ◌∙◌, arith}
use Rattle.std.specs.Int.Bits.{and_zero_l}
use Rattle.word_table.specs.declared.word.Word.TheVariants.{And, Fetch}
use Rattle.forth_program.specs.State.{World, Gives}
use Rattle.forth_program.specs.Program.{SourceProgram}
use Rattle.forth_program.specs.Step.{step}
use Rattle.forth_program.specs.Run.{steps}
use Rattle.forth_program.specs.Price.{spent}
use Rattle.kernel_words.specs.Places.{kernel_find_place, kernel_number_place}
use Rattle.kernel_words.specs.Bodies.{kernel_find_body, kernel_number_body}
use Rattle.kernel_words.specs.Running.{Returns}
use Rattle.kernel_words.specs.Memory.{IsDataSpace, data_cell}
use Rattle.kernel_words.proofs.Runs.{by_way, by_word, by_call, there}
use Rattle.kernel_words.proofs.Memory.{reads}
use Rattle.kernel_lines.specs.Places.{state_cell}
use Rattle.kernel_definitions.specs.Places.{compile_call_place, compile_literal_place, structure_place, found_place, put_place}
use Rattle.kernel_definitions.specs.Places.{code_of_token}
use Rattle.kernel_definitions.specs.Places.{kernel_colon_place, kernel_semicolon_place, kernel_if_place, kernel_else_place}
use Rattle.kernel_definitions.specs.Places.{kernel_then_place, kernel_begin_place, kernel_until_place, kernel_while_place}
use Rattle.kernel_definitions.specs.Places.{kernel_repeat_place}
use Rattle.kernel_definitions.specs.Bodies.{HasDefiningWords, compile_call_body, compile_literal_body, structure_body, found_body, put_body}
use Rattle.kernel_definitions.specs.Bodies.{interpret_word_body}
use Rattle.kernel_definitions.specs.Bodies.{kernel_colon_body, kernel_semicolon_body, kernel_if_body, kernel_else_body, kernel_then_body}
use Rattle.kernel_definitions.specs.Bodies.{kernel_begin_body, kernel_until_body, kernel_while_body, kernel_repeat_body}

module _ (p : SourceProgram) (d : HasDefiningWords p) (n b : ℕ) (c : List ℕ) (w w' : World) where
  -- ---- STRUCTURE: the nine words by their codes
  pub colon_is_done : Returns p kernel_colon_body n b c w c w' →
      Returns p structure_body (13 + n) (21 + b) (code_of_token 5 ∷ c) w (0 ∷ c) w'
  unfolding step steps spent
  colon_is_done r work es callers =
      by_way p 10 (3 + n) (4 + b) refl (omega arith) (omega arith)
      (by_call p kernel_colon_place n b 2 3 d.kernel_colon r refl (omega arith) (omega arith)
      (by_way p 2 0 0 refl (omega arith) (omega arith) (there p)))

  pub semicolon_is_done : Returns p kernel_semicolon_body n b c w c w' →
      Returns p structure_body (17 + n) (26 + b) (code_of_token 6 ∷ c) w (0 ∷ c) w'
  unfolding step steps spent
  semicolon_is_done r work es callers =
      by_way p 14 (3 + n) (4 + b) refl (omega arith) (omega arith)
      (by_call p kernel_semicolon_place n b 2 3 d.kernel_semicolon r refl (omega arith) (omega arith)
      (by_way p 2 0 0 refl (omega arith) (omega arith) (there p)))

  pub if_is_done : Returns p kernel_if_body n b c w c w' → Returns p structure_body (21 + n) (31 + b) (code_of_token 7 ∷ c) w (0 ∷ c) w'
  unfolding step steps spent
  if_is_done r work es callers =
      by_way p 18 (3 + n) (4 + b) refl (omega arith) (omega arith)
      (by_call p kernel_if_place n b 2 3 d.kernel_if r refl (omega arith) (omega arith)
      (by_way p 2 0 0 refl (omega arith) (omega arith) (there p)))

  pub else_is_done : Returns p kernel_else_body n b c w c w' → Returns p structure_body (25 + n) (36 + b) (code_of_token 8 ∷ c) w (0 ∷ c) w'
  unfolding step steps spent
  else_is_done r work es callers =
      by_way p 22 (3 + n) (4 + b) refl (omega arith) (omega arith)
      (by_call p kernel_else_place n b 2 3 d.kernel_else r refl (omega arith) (omega arith)
      (by_way p 2 0 0 refl (omega arith) (omega arith) (there p)))

  pub then_is_done : Returns p kernel_then_body n b c w c w' → Returns p structure_body (29 + n) (41 + b) (code_of_token 9 ∷ c) w (0 ∷ c) w'
  unfolding step steps spent
  then_is_done r work es callers =
      by_way p 26 (3 + n) (4 + b) refl (omega arith) (omega arith)
      (by_call p kernel_then_place n b 2 3 d.kernel_then r refl (omega arith) (omega arith)
      (by_way p 2 0 0 refl (omega arith) (omega arith) (there p)))

  pub begin_is_done : Returns p kernel_begin_body n b c w c w' →
      Returns p structure_body (33 + n) (46 + b) (code_of_token 10 ∷ c) w (0 ∷ c) w'
  unfolding step steps spent
  begin_is_done r work es callers =
      by_way p 30 (3 + n) (4 + b) refl (omega arith) (omega arith)
      (by_call p kernel_begin_place n b 2 3 d.kernel_begin r refl (omega arith) (omega arith)
      (by_way p 2 0 0 refl (omega arith) (omega arith) (there p)))

  pub until_is_done : Returns p kernel_until_body n b c w c w' →
      Returns p structure_body (37 + n) (51 + b) (code_of_token 11 ∷ c) w (0 ∷ c) w'
  unfolding step steps spent
  until_is_done r work es callers =
      by_way p 34 (3 + n) (4 + b) refl (omega arith) (omega arith)
      (by_call p kernel_until_place n b 2 3 d.kernel_until r refl (omega arith) (omega arith)
      (by_way p 2 0 0 refl (omega arith) (omega arith) (there p)))

  pub while_is_done : Returns p kernel_while_body n b c w c w' →
      Returns p structure_body (41 + n) (56 + b) (code_of_token 12 ∷ c) w (0 ∷ c) w'
  unfolding step steps spent
  while_is_done r work es callers =
      by_way p 38 (3 + n) (4 + b) refl (omega arith) (omega arith)
      (by_call p kernel_while_place n b 2 3 d.kernel_while r refl (omega arith) (omega arith)
      (by_way p 2 0 0 refl (omega arith) (omega arith) (there p)))

  pub repeat_is_done : Returns p kernel_repeat_body n b c w c w' →
      Returns p structure_body (45 + n) (61 + b) (code_of_token 13 ∷ c) w (0 ∷ c) w'
  unfolding step steps spent
  repeat_is_done r work es callers =
      by_way p 42 (3 + n) (4 + b) refl (omega arith) (omega arith)
      (by_call p kernel_repeat_place n b 2 3 d.kernel_repeat r refl (omega arith) (omega arith)
      (by_way p 2 0 0 refl (omega arith) (omega arith) (there p)))

  -- ---- FOUND: an immediate word is done, and another is compiled where STATE is -1
  pub immediate_is_done : (code : ℕ) → IsDataSpace w → Returns p structure_body n b (code ∷ c) w (0 ∷ c) w' →
      Returns p found_body (7 + n) (9 + b) (1 ∷ code ∷ c) w (0 ∷ c) w'
  unfolding step steps spent
  immediate_is_done code s r work es callers =
      by_way p 2 (5 + n) (5 + b) refl (omega arith) (omega arith)
      (by_word p Fetch (4 + n) (4 + b) (reads w state_cell (0 ∷ code ∷ c) s (omega arith) (omega arith)) refl (omega arith) (omega arith)
      (by_word p And (3 + n) (3 + b) (ap (λ y. Gives (y ∷ code ∷ c) w) (and_zero_l (data_cell w state_cell))) refl (omega arith)
      (omega arith)
      (by_way p 1 (2 + n) (2 + b) refl (omega arith) (omega arith)
      (by_call p structure_place n b 1 1 d.structure r refl (omega arith) (omega arith)
      (by_way p 1 0 0 refl (omega arith) (omega arith) (there p))))))

  pub call_is_compiled : (code : ℕ) → IsDataSpace w → data_cell w state_cell ≡ 65535 → Returns p compile_call_body n b (code ∷ c) w c w' →
      Returns p found_body (9 + n) (12 + b) (65535 ∷ code ∷ c) w (0 ∷ c) w'
  unfolding step steps spent
  call_is_compiled code s e r work es callers =
      by_way p 2 (7 + n) (8 + b) refl (omega arith) (omega arith)
      (by_word p Fetch (6 + n) (7 + b) (reads w state_cell (65535 ∷ code ∷ c) s (omega arith) (omega arith)
      ∙ ap (λ y. Gives (y ∷ 65535 ∷ code ∷ c) w) e) refl (omega arith) (omega arith)
      (by_way p 2 (4 + n) (5 + b) refl (omega arith) (omega arith)
      (by_call p compile_call_place n b 3 4 d.compile_call r refl (omega arith) (omega arith)
      (by_way p 3 0 0 refl (omega arith) (omega arith) (there p)))))

  pub outside_is_done : (code : ℕ) → IsDataSpace w → data_cell w state_cell ≡ 0 → Returns p structure_body n b (code ∷ c) w (0 ∷ c) w' →
      Returns p found_body (7 + n) (9 + b) (65535 ∷ code ∷ c) w (0 ∷ c) w'
  unfolding step steps spent
  outside_is_done code s e r work es callers =
      by_way p 2 (5 + n) (5 + b) refl (omega arith) (omega arith)
      (by_word p Fetch (4 + n) (4 + b) (reads w state_cell (65535 ∷ code ∷ c) s (omega arith) (omega arith)
      ∙ ap (λ y. Gives (y ∷ 65535 ∷ code ∷ c) w) e) refl (omega arith) (omega arith)
      (by_way p 2 (2 + n) (2 + b) refl (omega arith) (omega arith)
      (by_call p structure_place n b 1 1 d.structure r refl (omega arith) (omega arith)
      (by_way p 1 0 0 refl (omega arith) (omega arith) (there p)))))

  -- ---- PUT: a number is compiled where STATE is -1
  pub number_is_compiled : (x : ℕ) → IsDataSpace w → data_cell w state_cell ≡ 65535 → Returns p compile_literal_body n b (x ∷ c) w c w' →
      Returns p put_body (6 + n) (7 + b) (x ∷ c) w c w'
  unfolding step steps spent
  number_is_compiled x s e r work es callers =
      by_way p 1 (5 + n) (5 + b) refl (omega arith) (omega arith)
      (by_word p Fetch (4 + n) (4 + b) (reads w state_cell (x ∷ c) s (omega arith) (omega arith) ∙ ap (λ y. Gives (y ∷ x ∷ c) w) e) refl
      (omega arith) (omega arith)
      (by_way p 1 (3 + n) (3 + b) refl (omega arith) (omega arith)
      (by_call p compile_literal_place n b 2 2 d.compile_literal r refl (omega arith) (omega arith)
      (by_way p 2 0 0 refl (omega arith) (omega arith) (there p)))))

  -- ---- INTERPRET-WORD: a name that is found, and a number
  pub found_is_interpreted : (i j a flag code : ℕ) → Returns p kernel_find_body i j (a ∷ c) w (suc flag ∷ code ∷ c) w →
      Returns p found_body n b (suc flag ∷ code ∷ c) w (0 ∷ c) w' →
      Returns p interpret_word_body (6 + i + n) (17 + j + b) (a ∷ c) w (0 ∷ c) w'
  unfolding step steps spent
  found_is_interpreted i j a flag code find r work es callers =
      by_call p kernel_find_place i j (5 + n) (16 + b) d.kernel.kernel_find find refl (omega arith) (omega arith)
      (by_way p 2 (3 + n) (3 + b) refl (omega arith) (omega arith)
      (by_call p found_place n b 2 2 d.found r refl (omega arith) (omega arith)
      (by_way p 2 0 0 refl (omega arith) (omega arith) (there p))))

  pub number_is_interpreted : (i j k l a x : ℕ) → Returns p kernel_find_body i j (a ∷ c) w (0 ∷ a ∷ c) w →
      Returns p kernel_number_body k l (a ∷ c) w (65535 ∷ x ∷ c) w → Returns p put_body n b (x ∷ c) w c w' →
      Returns p interpret_word_body (9 + i + k + n) (21 + j + l + b) (a ∷ c) w (0 ∷ c) w'
  unfolding step steps spent
  number_is_interpreted i j k l a x find number r work es callers =
      by_call p kernel_find_place i j (8 + k + n) (20 + l + b) d.kernel.kernel_find find refl (omega arith) (omega arith)
      (by_way p 2 (6 + k + n) (7 + l + b) refl (omega arith) (omega arith)
      (by_call p kernel_number_place k l (5 + n) (6 + b) d.kernel.kernel_number number refl (omega arith) (omega arith)
      (by_way p 1 (4 + n) (5 + b) refl (omega arith) (omega arith)
      (by_call p put_place n b 3 4 d.put r refl (omega arith) (omega arith)
      (by_way p 3 0 0 refl (omega arith) (omega arith) (there p))))))
