-- Each call of an image is followed by what may stand behind a call.
use Rattle.std.proofs.Common.{◌≡◌, ◌≢◌, ℕ, ◌+◌, ◌-◌, ◌<◌, ◌≤◌, inl, inr, Bool, true, false, ◌&&◌, ◌||◌, List, [], ◌∷◌, ◌++◌, length, slice_index, Option, Some, None, refl, sym, ap, ◌∙◌, subst, arith}
use Rattle.std.specs.Prelude.{not, nat_lt, nat_le, nat_eq, if◌then◌else◌}
use Rattle.std.specs.List.{list_all}
use Rattle.std.proofs.lemmas.Bool.Decides.{nat_tests}
use Rattle.word_table.specs.declared.word.Word.{Word}
use Rattle.word_table.specs.declared.word.Word.TheVariants.{Dup, Base, Here, Decimal, Hex}
use Rattle.word_table.specs.Table.{cells_of, cells_from}
use Rattle.forth_program.specs.Tree.{Node, Nodes, Arms, Literal, Plain, Call, Child, Text, If, Until, While, Again, Do, QDo, Case, Leave, Exit, Empty, Then, NoArm, Arm}
use Rattle.forth_program.specs.Tail.{is_tail}
use Rattle.forth_program.specs.Form.{everywhere, inside, in_arms, leaves_fit, leave_fits, arms_fit}
use Rattle.word_laws.specs.Numbers.{number_cells}
use Rattle.word_laws.specs.Standing.{StandIn}
use Rattle.word_laws.specs.Words.{stands_plain}
use Rattle.forth_program.specs.declared.item.TextKind.{TextKind}
use Rattle.forth_program.specs.declared.item.TextKind.TheVariants as text
use Rattle.code_layout.specs.Layout.{Routine, Definition, Library, Executing, Aborting, Leaving, type_routine, routine_of, word_falls_through, text_falls_through}
use Rattle.code_layout.specs.Layout.{word_size, text_size, word_cells, text_cells, jump_to, branch_to, call_cell, return_cell, do_cells, turn_cells, out_cells}
use Rattle.code_layout.specs.Layout.{turn_size, q_do_cells, of_cells, end_case_cells, falls_through, reaches_end, cell_if, size_if, node_size, size, arms_size}
use Rattle.code_layout.specs.Layout.{body_size, else_place, while_place, out_place, arm_place, others_place, loop_code, arm_code, node_cells, nodes_cells}
use Rattle.code_layout.specs.Layout.{arms_cells, body_cells}
use Rattle.code_layout.specs.Built.{word_is_laid_out, is_laid_out}
use Rattle.code_layout.specs.LastCalls.{begins_well}
use Rattle.code_layout.proofs.Machine.{both}
use Rattle.code_layout.proofs.LaidCode.{if_size_is, from_size, arm_size_is, node_size_is, size_is, arms_size_is, either, cut, onward, turn_size_is}
use Rattle.code_layout.proofs.Followed.{Later, MayFollow, CallsFollowed, is_no_call, followed_join, other_cell, jump_back, jump_on, return_with_way_back, no_calls, one_no_call, cell_if_no_call}

-- ---- the cells of words and numbers

abbrev starts_well : List ℕ → Bool
starts_well [] = false
starts_well (cell ∷ cells) = nat_le 0x2000 cell && not (nat_eq cell 0x700C)

words_start_well : (word : Word) → (not (stands_plain word && begins_well (Plain word)) || starts_well (cells_of word)) ≡ true
words_start_well Dup = refl
words_start_well word = refl

third : (a b c : Bool) → (not (a && b) || c) ≡ true → a ≡ true → b ≡ true → c ≡ true
third true true c h e f = h
third true false c h e f = absurd (let g : false ≡ true = f in cc)
third false b c h e f = absurd (let g : false ≡ true = e in cc)

pub words_have_no_calls : (data_start : ℕ) (word : Word) → list_all is_no_call (cells_from data_start word) ≡ true
words_have_no_calls data_start Base = grind (arith, nat_tests)
words_have_no_calls data_start Here = grind (arith, nat_tests)
words_have_no_calls data_start Decimal = grind (arith, nat_tests)
words_have_no_calls data_start Hex = grind (arith, nat_tests)
words_have_no_calls data_start word = refl

pub numbers_have_no_calls : (value : ℕ) → list_all is_no_call (number_cells value) ≡ true
numbers_have_no_calls value =
    elim (nat_lt value 0x8000) as (λ b. list_all is_no_call (if b then (0x8000 + value) ∷ [] else (0x8000 + (0xffff - value)) ∷ 0x6600 ∷ []) ≡ true) [ true ↦ grind (arith, nat_tests) | false ↦ grind (arith, nat_tests) ]

turns_have_no_calls : (plus : Bool) (body_at out_at : ℕ) → body_at < 8192 → out_at < 8192 → list_all is_no_call (turn_cells plus body_at out_at) ≡ true
turns_have_no_calls false body_at out_at h k = grind (arith, nat_tests)
turns_have_no_calls true body_at out_at h k = grind (arith, nat_tests)

module _ (code : List ℕ) where
  cells_start : (cells : List ℕ) (at next : ℕ) → starts_well cells ≡ true → StandIn code at cells next → MayFollow code at
  cells_start [] at next e h = absurd (let f : false ≡ true = e in cc)
  cells_start (cell ∷ cells) at next e h =
      let t = both (nat_le 0x2000 cell) (not (nat_eq cell 0x700C)) e in
      let high : 0x2000 ≤ cell = let a = t.0 in grind (arith, nat_tests) in
      other_cell code at cell h.0 high (λ f. let b = t.1 in absurd (grind (arith, nat_tests)))

  word_starts : (data_start : ℕ) (word : Word) (at next : ℕ) → starts_well (cells_of word) ≡ true → StandIn code at (cells_from data_start word) next → MayFollow code at
  word_starts data_start Base at next e h = other_cell code at (0x8000 + data_start) h.0 (omega arith) (λ f. absurd (omega (arith, f)))
  word_starts data_start Here at next e h = other_cell code at (0x8000 + (data_start + 4)) h.0 (omega arith) (λ f. absurd (omega (arith, f)))
  word_starts data_start Decimal at next e h = other_cell code at 0x800A h.0 (omega arith) (λ f. absurd (omega (arith, f)))
  word_starts data_start Hex at next e h = other_cell code at 0x8010 h.0 (omega arith) (λ f. absurd (omega (arith, f)))
  word_starts data_start word at next e h = cells_start (cells_of word) at next e h

  number_starts : (value at next : ℕ) → StandIn code at (number_cells value) next → MayFollow code at
  number_starts value at next =
      elim (nat_lt value 0x8000) as (λ b. StandIn code at (if b then (0x8000 + value) ∷ [] else (0x8000 + (0xffff - value)) ∷ 0x6600 ∷ []) next → MayFollow code at) [
        | true ↦ λ h. other_cell code at (0x8000 + value) h.0 (omega arith) (λ e. absurd (omega arith))
        | false ↦ λ h. other_cell code at (0x8000 + (0xffff - value)) h.0 (omega arith) (λ e. absurd (omega arith))
      ]

  turn_starts : (plus : Bool) (body_at out_at at next : ℕ) (more : List ℕ) → StandIn code at (turn_cells plus body_at out_at ++ more) next → MayFollow code at
  turn_starts false body_at out_at at next more h = other_cell code at 0x6B8D h.0 (omega arith) (λ e. absurd (omega (arith, e)))
  turn_starts true body_at out_at at next more h = other_cell code at 0x6B8D h.0 (omega arith) (λ e. absurd (omega (arith, e)))

  jump_stands : (reached : Bool) (at target next : ℕ) → reached ≡ true → StandIn code at (cell_if reached target) next → slice_index code at ≡ target
  jump_stands true at target next e h = h.0
  jump_stands false at target next e h = absurd (let f : false ≡ true = e in cc)

  -- in the code of a definition or library word that begins at a place, whose calls lead no further than there
  module _ (data_start : ℕ) (place : Routine → ℕ) (low : (r : Routine) → place r < 8192) (executes : Bool) (words count : ℕ) (goes_back : Node → Bool) (start : ℕ)
      (near_call : (d : ℕ) → is_laid_out executes words count (Call d) ≡ true → goes_back (Call d) ≡ true → place (Definition d) ≤ start)
      (near_word : (number : ℕ) → nat_lt number words ≡ true → place (Library number) ≤ start)
      (near_stubs : executes ≡ true → place Executing ≤ start) (no_return : executes ≡ true → slice_index code (place Leaving) ≢ 0x700C) where
    abbrev pub laid : Node → Bool
    laid = is_laid_out executes words count

    abbrev cells_of_node : ℕ → ℕ → Bool → Bool → Node → List ℕ
    cells_of_node out_at at tail reached node = node_cells data_start place out_at at tail reached node

    abbrev cells_of_nodes : ℕ → ℕ → Bool → Bool → Nodes → List ℕ
    cells_of_nodes out_at at tail reached nodes = nodes_cells data_start place out_at at tail reached nodes

    record Suits (in_do : Bool) (node : Node) : Type 0 where
      is_laid : laid node ≡ true
      parts_laid : inside laid node ≡ true
      back : goes_back node ≡ true
      parts_back : inside goes_back node ≡ true
      has_cells : begins_well node ≡ true
      parts_have_cells : inside begins_well node ≡ true
      leaves : leave_fits in_do node ≡ true

    pub record AllSuit (in_do : Bool) (nodes : Nodes) : Type 0 where
      pub are_laid : everywhere laid nodes ≡ true
      pub all_back : everywhere goes_back nodes ≡ true
      pub have_cells : everywhere begins_well nodes ≡ true
      pub leaves : leaves_fit in_do nodes ≡ true

    two_suit : (in_do : Bool) (first second : Nodes) → (everywhere laid first && everywhere laid second) ≡ true →
        (everywhere goes_back first && everywhere goes_back second) ≡ true → (everywhere begins_well first && everywhere begins_well second) ≡ true →
        (leaves_fit in_do first && leaves_fit in_do second) ≡ true → AllSuit in_do first × AllSuit in_do second
    two_suit in_do first second a b c d =
        let a' = both (everywhere laid first) (everywhere laid second) a in
        let b' = both (everywhere goes_back first) (everywhere goes_back second) b in
        let c' = both (everywhere begins_well first) (everywhere begins_well second) c in
        let d' = both (leaves_fit in_do first) (leaves_fit in_do second) d in
        (record { are_laid = a'.0; all_back = b'.0; have_cells = c'.0; leaves = d'.0 }, record { are_laid = a'.1; all_back = b'.1; have_cells = c'.1; leaves = d'.1 })

    one_suits : (test : Node → Bool) (node : Node) (rest : Nodes) → everywhere test (Then node rest) ≡ true → (test node ≡ true) × (inside test node ≡ true) × (everywhere test rest ≡ true)
    one_suits test node rest e =
        let a = both (test node && inside test node) (everywhere test rest) e in
        let b = both (test node) (inside test node) a.0 in
        (b.0, b.1, a.1)

    list_suits : (in_do : Bool) (node : Node) (rest : Nodes) → AllSuit in_do (Then node rest) → Suits in_do node × AllSuit in_do rest
    list_suits in_do node rest s =
        let a = one_suits laid node rest s.are_laid in
        let b = one_suits goes_back node rest s.all_back in
        let c = one_suits begins_well node rest s.have_cells in
        let d = both (leave_fits in_do node) (leaves_fit in_do rest) s.leaves in (
          record { is_laid = a.0; parts_laid = a.1; back = b.0; parts_back = b.1; has_cells = c.0; parts_have_cells = c.1; leaves = d.0 },
          record { are_laid = a.2; all_back = b.2; have_cells = c.2; leaves = d.1 },
        )

    record ArmsSuit (in_do : Bool) (arms : Arms) : Type 0 where
      are_laid : in_arms laid arms ≡ true
      all_back : in_arms goes_back arms ≡ true
      have_cells : in_arms begins_well arms ≡ true
      leaves : arms_fit in_do arms ≡ true

    case_suits : (in_do : Bool) (arms : Arms) (rest : Nodes) → Suits in_do (Case arms rest) → ArmsSuit in_do arms × AllSuit in_do rest
    case_suits in_do arms rest s =
        let a = both (in_arms laid arms) (everywhere laid rest) s.parts_laid in
        let b = both (in_arms goes_back arms) (everywhere goes_back rest) s.parts_back in
        let c = both (in_arms begins_well arms) (everywhere begins_well rest) s.parts_have_cells in
        let d = both (arms_fit in_do arms) (leaves_fit in_do rest) s.leaves in
        (record { are_laid = a.0; all_back = b.0; have_cells = c.0; leaves = d.0 }, record { are_laid = a.1; all_back = b.1; have_cells = c.1; leaves = d.1 })

    three : (a b c : Bool) → (a && b && c) ≡ true → (a ≡ true) × (b ≡ true) × (c ≡ true)
    three true true true e = (refl, refl, refl)
    three true true false e = absurd (let f : false ≡ true = e in cc)
    three true false c e = absurd (let f : false ≡ true = e in cc)
    three false b c e = absurd (let f : false ≡ true = e in cc)

    arm_suits : (in_do : Bool) (tests body : Nodes) (others : Arms) → ArmsSuit in_do (Arm tests body others) → AllSuit in_do tests × AllSuit in_do body × ArmsSuit in_do others
    arm_suits in_do tests body others s =
        let a = three (everywhere laid tests) (everywhere laid body) (in_arms laid others) s.are_laid in
        let b = three (everywhere goes_back tests) (everywhere goes_back body) (in_arms goes_back others) s.all_back in
        let c = three (everywhere begins_well tests) (everywhere begins_well body) (in_arms begins_well others) s.have_cells in
        let d = three (leaves_fit in_do tests) (leaves_fit in_do body) (arms_fit in_do others) s.leaves in (
          record { are_laid = a.0; all_back = b.0; have_cells = c.0; leaves = d.0 },
          record { are_laid = a.1; all_back = b.1; have_cells = c.1; leaves = d.1 },
          record { are_laid = a.2; all_back = b.2; have_cells = c.2; leaves = d.2 },
        )

    -- what a case begins with is no EXIT
    no_exit_last : (rest : Nodes) → begins_well (Case NoArm rest) ≡ true → is_tail rest false ≡ true → ⊥
    no_exit_last Empty e f = let g : false ≡ true = f in cc
    no_exit_last (Then Exit rest) e f = let g : false ≡ true = e in cc
    no_exit_last (Then node rest) e f = let g : false ≡ true = f in cc

    no_exit_first : (tests body : Nodes) (others : Arms) (rest : Nodes) → begins_well (Case (Arm tests body others) rest) ≡ true → is_tail tests false ≡ true → ⊥
    no_exit_first Empty body others rest e f = let g : false ≡ true = f in cc
    no_exit_first (Then Exit tests) body others rest e f = let g : false ≡ true = e in cc
    no_exit_first (Then node tests) body others rest e f = let g : false ≡ true = f in cc

    exit_size : (nodes : Nodes) → is_tail nodes false ≡ true → 0 < size false true nodes
    exit_size Empty e = absurd (let f : false ≡ true = e in cc)
    exit_size (Then Exit rest) e = omega arith
    exit_size (Then node rest) e = absurd (let f : false ≡ true = e in cc)

    -- what drops the innermost loop
    abbrev Inner : Bool → ℕ → Type 0
    Inner in_do out_at = in_do ≡ true → slice_index code out_at ≡ 0x6B8D

    call_starts : (tail : Bool) (r : Routine) (at next : ℕ) → place r ≤ start → start ≤ at → StandIn code at (call_cell tail (place r) ∷ []) next → MayFollow code at
    call_starts true r at next near after h = jump_back code at (place r) h.0 (low r) (omega arith)
    call_starts false r at next near after h = let l = low r in other_cell code at (0x4000 + place r) h.0 (omega arith) (λ e. absurd (omega (arith, e, l)))

    -- that of GO stands further on, but begins with no return
    leaving_starts : (tail : Bool) (at next : ℕ) → slice_index code (place Leaving) ≢ 0x700C → StandIn code at (call_cell tail (place Leaving) ∷ []) next → MayFollow code at
    leaving_starts true at next other h = jump_on code at (place Leaving) h.0 (low Leaving) (λ e. absurd (other e))
    leaving_starts false at next other h = let l = low Leaving in other_cell code at (0x4000 + place Leaving) h.0 (omega arith) (λ e. absurd (omega (arith, e, l)))

    plain_starts : (word : Word) (found : Option Routine) (tail : Bool) (at next : ℕ) → word_is_laid_out executes words found word ≡ true →
        begins_well (Plain word) ≡ true → start ≤ at → StandIn code at (word_cells data_start place tail found word) next → MayFollow code at
    plain_starts word None tail at next fit some after h =
        let well = words_start_well word in
        word_starts data_start word at next (third (stands_plain word) (begins_well (Plain word)) (starts_well (cells_of word)) well fit some) h
    plain_starts word (Some (Library number)) tail at next fit some after h = call_starts tail (Library number) at next (near_word number fit) after h
    plain_starts word (Some Executing) tail at next fit some after h = call_starts tail Executing at next (near_stubs fit) after h
    plain_starts word (Some Leaving) tail at next fit some after h = leaving_starts tail at next (no_return fit) h
    plain_starts word (Some (Definition d)) tail at next fit some after h = absurd (let f : false ≡ true = fit in cc)
    plain_starts word (Some Aborting) tail at next fit some after h = absurd (let f : false ≡ true = fit in cc)

    -- the first cells of an item that is not EXIT may stand behind a call
    mutual
      starts : (node : Node) (tail reached in_do : Bool) (out_at at next : ℕ) → Suits in_do node → Inner in_do out_at → out_at < 8192 →
          is_tail (Then node Empty) false ≡ false → start ≤ at → StandIn code at (cells_of_node out_at at tail reached node) next →
          at + node_size tail reached node < 8192 → MayFollow code at
      starts (Literal value) tail reached in_do out_at at next s inner lt other after h n = number_starts value at next h
      starts (Plain word) tail reached in_do out_at at next s inner lt other after h n = plain_starts word (routine_of word) tail at next s.is_laid s.has_cells after h
      starts (Call d) tail reached in_do out_at at next s inner lt other after h n = call_starts tail (Definition d) at next (near_call d s.is_laid s.back) after h
      starts (Child d address) tail reached in_do out_at at next s inner lt other after h n =
          let c = cut code at (length (number_cells address)) (number_cells address) (call_cell tail (place (Definition d)) ∷ []) next refl (omega (arith, n)) h in
          number_starts address at (at + length (number_cells address)) c.0
      starts (Text kind address characters) tail reached in_do out_at at next s inner lt other after h n =
          let c = cut code at (length (number_cells address)) (number_cells address) (number_cells characters ++ text_cells place tail kind) next refl (omega (arith, n)) h in
          number_starts address at (at + length (number_cells address)) c.0
      starts (If first second) tail reached in_do out_at at next s inner lt other after h n = other_cell code at (0x2000 + else_place at tail first second) h.0 (omega arith) (λ e. absurd (omega (arith, e, n)))
      starts (Until body) tail reached in_do out_at at next s inner lt other after h n =
          let end = at + size false true body in
          let c = cut code at (size false true body) (cells_of_nodes out_at at false true body) (branch_to at ∷ []) next (size_is body data_start place out_at at false true) (omega (arith, n)) h in
          starts_all body in_do out_at at end (record { are_laid = s.parts_laid; all_back = s.parts_back; have_cells = s.parts_have_cells; leaves = s.leaves }) inner lt after c.0 (omega (arith, n))
          (λ e. let some = exit_size body e in (end, omega (arith, some), c.1.1, inr c.1.0))
          (λ none. let same : end ≡ at = omega (arith, none) in other_cell code at (0x2000 + at) (ap (slice_index code) (sym same) ∙ c.1.0) (omega arith) (λ e. absurd (omega (arith, e, n))))
      starts (While test body) tail reached in_do out_at at next s inner lt other after h n =
          let test_end = at + size false true test in
          let target = while_place at test + size false true body + 1 in
          let body_end = while_place at test + size false true body in
          let body_code = cells_of_nodes out_at (while_place at test) false true body in
          let suits = two_suit in_do test body s.parts_laid s.parts_back s.parts_have_cells s.leaves in
          let c = cut code at (size false true test) (cells_of_nodes out_at at false true test) (branch_to target ∷ (body_code ++ jump_to at ∷ [])) next (size_is test data_start place out_at at false true) (omega (arith, n)) h in
          let d =
          cut code (while_place at test) (size false true body) body_code (jump_to at ∷ []) next
          (size_is body data_start place out_at (while_place at test) false true) (omega (arith, n))
          (onward code test_end (branch_to target) (body_code ++ jump_to at ∷ []) next (omega (arith, n)) c.1) in
          starts_all test in_do out_at at test_end suits.0 inner lt after c.0 (omega (arith, n))
          (λ e. let some = exit_size test e in (body_end, omega (arith, some), d.1.1, inl d.1.0))
          (λ none. let same : test_end ≡ at = omega (arith, none) in other_cell code at (0x2000 + target) (ap (slice_index code) (sym same) ∙ c.1.0) (omega arith) (λ e. absurd (omega (arith, e, n))))
      starts (Do body plus) tail reached in_do out_at at next s inner lt other after h n = other_cell code at 0x6180 h.0 (omega arith) (λ e. absurd (omega (arith, e)))
      starts (Again body) tail reached in_do out_at at next s inner lt other after h n =
          let end = at + size false true body in
          let c = cut code at (size false true body) (cells_of_nodes out_at at false true body) (jump_to at ∷ []) next (size_is body data_start place out_at at false true) (omega (arith, n)) h in
          starts_all body in_do out_at at end (record { are_laid = s.parts_laid; all_back = s.parts_back; have_cells = s.parts_have_cells; leaves = s.leaves }) inner lt after c.0 (omega (arith, n))
          (λ e. let some = exit_size body e in (end, omega (arith, some), c.1.1, inl c.1.0))
          (λ none. let same : end ≡ at = omega (arith, none) in jump_back code at at (ap (slice_index code) (sym same) ∙ c.1.0) (omega (arith, n)) (omega arith))
      starts (QDo body plus) tail reached in_do out_at at next s inner lt other after h n = other_cell code at 0x6181 h.0 (omega arith) (λ e. absurd (omega (arith, e)))
      starts (Case NoArm rest) tail reached in_do out_at at next s inner lt other after h n =
          let suits = case_suits in_do NoArm rest s in
          let same : at + 0 ≡ at = omega arith in
          let end = at + size false true rest in
          let here = subst (λ x. StandIn code at (cells_of_nodes out_at x false true rest ++ end_case_cells) next) same h in
          let c = cut code at (size false true rest) (cells_of_nodes out_at at false true rest) end_case_cells next (size_is rest data_start place out_at at false true) (omega (arith, n)) here in
          starts_all rest in_do out_at at end suits.1 inner lt after c.0 (omega (arith, n))
          (λ e. absurd (no_exit_last rest s.has_cells e))
          (λ none. let there : end ≡ at = omega (arith, none) in other_cell code at 0x6103 (ap (slice_index code) (sym there) ∙ c.1.0) (omega arith) (λ e. absurd (omega (arith, e))))
      starts (Case (Arm tests body others) rest) tail reached in_do out_at at next s inner lt other after h n =
          let suits = case_suits in_do (Arm tests body others) rest s in
          let own_suits = arm_suits in_do tests body others suits.0 in
          let end_at = at + arms_size tail (Arm tests body others) + size false true rest + 1 in
          let rest_at = at + arms_size tail (Arm tests body others) in
          let rest_code = cells_of_nodes out_at rest_at false true rest ++ end_case_cells in
          let of_at = at + size false true tests in
          let tests_code = cells_of_nodes out_at at false true tests in
          let body_code = cells_of_nodes out_at (arm_place at tests) tail true body in
          let own = size false true tests + 4 + size tail true body + size_if (reaches_end tail true body) in
          let others_code = arms_cells data_start place out_at (others_place at tail tests body) tail end_at others in
          let more = of_cells (others_place at tail tests body) ++ (body_code ++ cell_if (reaches_end tail true body) (jump_to end_at)) in
          let a =
          cut code at (arms_size tail (Arm tests body others)) (arm_code at tail end_at tests body tests_code body_code ++ others_code) rest_code next
          (arms_size_is (Arm tests body others) data_start place out_at at tail end_at) (omega (arith, n)) h in
          let b =
          cut code at own (arm_code at tail end_at tests body tests_code body_code) others_code rest_at
          (arm_size_is at tail end_at tests body tests_code body_code (size_is tests data_start place out_at at false true)
          (size_is body data_start place out_at (arm_place at tests) tail true)) (omega (arith, n)) a.0 in
          let c = cut code at (size false true tests) tests_code more (at + own) (size_is tests data_start place out_at at false true) (omega (arith, n)) b.0 in
          starts_all tests in_do out_at at of_at own_suits.0 inner lt after c.0 (omega (arith, n))
          (λ e. absurd (no_exit_first tests body others rest s.has_cells e))
          (λ none. let there : of_at ≡ at = omega (arith, none) in other_cell code at 0x6181 (ap (slice_index code) (sym there) ∙ c.1.0) (omega arith) (λ e. absurd (omega (arith, e))))
      starts Leave tail reached in_do out_at at next s inner lt other after h n = jump_on code at out_at h.0 lt (λ r. absurd (let e = inner s.leaves in omega (arith, e, r)))
      starts Exit tail reached in_do out_at at next s inner lt other after h n = absurd (let e : true ≡ false = other in cc)

      -- and so may items of a loop, to whose begin a way leads back
      starts_all : (nodes : Nodes) (in_do : Bool) (out_at at next : ℕ) → AllSuit in_do nodes → Inner in_do out_at → out_at < 8192 → start ≤ at →
          StandIn code at (cells_of_nodes out_at at false true nodes) next → at + size false true nodes < 8192 →
          (is_tail nodes false ≡ true → Later code at) → (size false true nodes ≡ 0 → MayFollow code at) → MayFollow code at
      starts_all Empty in_do out_at at next s inner lt after h n later none = none refl
      starts_all (Then Exit rest) in_do out_at at next s inner lt after h n later none = return_with_way_back code at h.0 (later refl)
      starts_all (Then node rest) in_do out_at at next s inner lt after h n later none =
          let suits = list_suits in_do node rest s in
          let here = is_tail rest false in
          let c =
          cut code at (node_size here true node) (cells_of_node out_at at here true node)
          (cells_of_nodes out_at (at + node_size here true node) false (falls_through here node) rest) next
          (node_size_is node data_start place out_at at here true) (omega (arith, n)) h in
          starts node here true in_do out_at at (at + node_size here true node) suits.0 inner lt refl after c.0 (omega (arith, n))

    -- what follows an item that is not in tail position
    next_may : (rest : Nodes) (tail reached in_do : Bool) (out_at at next : ℕ) → AllSuit in_do rest → Inner in_do out_at → out_at < 8192 → start ≤ at →
        StandIn code at (cells_of_nodes out_at at tail reached rest) next → at + size tail reached rest < 8192 → is_tail rest tail ≡ false → reached ≡ true →
        (tail ≡ false → reaches_end tail reached rest ≡ true → MayFollow code (at + size tail reached rest)) → MayFollow code at
    next_may Empty tail reached in_do out_at at next s inner lt after h n e g k = let same : at + 0 ≡ at = omega arith in subst (MayFollow code) same (k e g)
    next_may (Then Exit more) tail reached in_do out_at at next s inner lt after h n e g k = absurd (let f : true ≡ false = e in cc)
    next_may (Then node more) tail reached in_do out_at at next s inner lt after h n e g k =
        let suits = list_suits in_do node more s in
        let here = is_tail more tail in
        let c =
        cut code at (node_size here reached node) (cells_of_node out_at at here reached node)
        (cells_of_nodes out_at (at + node_size here reached node) tail (falls_through here node) more) next
        (node_size_is node data_start place out_at at here reached) (omega (arith, n)) h in
        starts node here reached in_do out_at at (at + node_size here reached node) suits.0 inner lt refl after c.0 (omega (arith, n))

    call_followed : (tail : Bool) (r : Routine) (at : ℕ) → StandIn code at (call_cell tail (place r) ∷ []) (at + 1) → at + 1 < 8192 → (tail ≡ false → not tail ≡ true → MayFollow code (at + 1)) → CallsFollowed code at (at + 1)
    call_followed true r at h n k = one_no_call code at (place r) [] (at + 1) (let l = low r in grind (arith, nat_tests)) n h
    call_followed false r at h n k = λ c a b l m. let same : at ≡ c = omega arith in subst (λ x. MayFollow code (x + 1)) same (k refl refl)

    word_followed : (word : Word) (found : Option Routine) (tail : Bool) (at : ℕ) → StandIn code at (word_cells data_start place tail found word) (at + word_size found word) → at + word_size found word < 8192 →
        (tail ≡ false → word_falls_through found tail ≡ true → MayFollow code (at + word_size found word)) → CallsFollowed code at (at + word_size found word)
    word_followed word None tail at h n k = no_calls code at (length (cells_of word)) (cells_from data_start word) (at + length (cells_of word)) (words_have_no_calls data_start word) (from_size data_start word) n h
    word_followed word (Some r) tail at h n k = call_followed tail r at h n k

    text_followed : (kind : TextKind) (tail : Bool) (at : ℕ) → StandIn code at (text_cells place tail kind) (at + text_size kind) → at + text_size kind < 8192 →
        (tail ≡ false → text_falls_through kind tail ≡ true → MayFollow code (at + text_size kind)) → CallsFollowed code at (at + text_size kind)
    text_followed text.Address tail at h n k = λ c a b l m. absurd (omega arith)
    text_followed text.Print tail at h n k = call_followed tail type_routine at h n k
    text_followed text.Abort tail at h n k = call_followed tail Aborting at h n k

    -- a loop, by the calls in its body
    loop_followed : (body : Nodes) (plus : Bool) (at last : ℕ) (inner : List ℕ) → length inner ≡ size false true body →
        StandIn code at (loop_code at body plus inner) last → last ≡ at + (8 + size false true body + turn_size plus + 4) → last < 8192 →
        (StandIn code (at + 8) inner (at + 8 + size false true body) → slice_index code (out_place at body plus) ≡ 0x6B8D →
        MayFollow code (at + 8 + size false true body) → CallsFollowed code (at + 8) (at + 8 + size false true body)) → CallsFollowed code at last
    loop_followed body plus at last inner e h end n body_followed =
        let drop_at = out_place at body plus in
        let turn_at = at + 8 + size false true body in
        let turn = turn_cells plus (at + 8) (out_place at body plus) in
        let c = cut code at 8 do_cells (inner ++ (turn ++ out_cells)) last refl (omega (arith, n, end)) h in
        let d = cut code (at + 8) (size false true body) inner (turn ++ out_cells) last e (omega (arith, n, end)) c.1 in
        let g = cut code turn_at (turn_size plus) turn out_cells last (turn_size_is plus (at + 8) (out_place at body plus)) (omega (arith, n, end)) d.1 in
        let same : last ≡ out_place at body plus + 4 = omega (arith, end) in
        let one = no_calls code at 8 do_cells (at + 8) refl refl (omega (arith, n, end)) c.0 in
        let two = body_followed d.0 g.1.0 (turn_starts plus (at + 8) (out_place at body plus) turn_at last out_cells d.1) in
        let three =
        no_calls code turn_at (turn_size plus) turn (out_place at body plus)
        (turns_have_no_calls plus (at + 8) (out_place at body plus) (omega (arith, n, end)) (omega (arith, n, end)))
        (turn_size_is plus (at + 8) (out_place at body plus)) (omega (arith, n, end)) g.0 in
        let four = no_calls code (out_place at body plus) 4 out_cells last refl refl (omega (arith, n, end)) g.1 in
        subst (CallsFollowed code at) (sym same)
        (followed_join code at (at + 8) (out_place at body plus + 4) one (followed_join code (at + 8) turn_at (out_place at body plus + 4) two (followed_join code turn_at drop_at (out_place at body plus + 4) three four)))

    mutual
      followed : (node : Node) (tail reached in_do : Bool) (out_at at : ℕ) → Suits in_do node → Inner in_do out_at → out_at < 8192 → start ≤ at →
          StandIn code at (cells_of_node out_at at tail reached node) (at + node_size tail reached node) → at + node_size tail reached node < 8192 →
          (tail ≡ false → falls_through tail node ≡ true → MayFollow code (at + node_size tail reached node)) → CallsFollowed code at (at + node_size tail reached node)
      followed (Literal value) tail reached in_do out_at at s inner lt after h n k = no_calls code at (length (number_cells value)) (number_cells value) (at + length (number_cells value)) (numbers_have_no_calls value) refl n h
      followed (Plain word) tail reached in_do out_at at s inner lt after h n k = word_followed word (routine_of word) tail at h n k
      followed (Call d) tail reached in_do out_at at s inner lt after h n k = call_followed tail (Definition d) at h n k
      followed (Child d address) tail reached in_do out_at at s inner lt after h n k =
          let next = at + length (number_cells address) in
          let last = at + (length (number_cells address) + 1) in
          let c = cut code at (length (number_cells address)) (number_cells address) (call_cell tail (place (Definition d)) ∷ []) last refl (omega (arith, n)) h in
          let e : last ≡ next + 1 = omega arith in
          let one = no_calls code at (length (number_cells address)) (number_cells address) next (numbers_have_no_calls address) refl (omega (arith, n)) c.0 in
          let two = call_followed tail (Definition d) next (subst (StandIn code next (call_cell tail (place (Definition d)) ∷ [])) e c.1) (omega (arith, n)) (λ t g. subst (MayFollow code) e (k t g)) in
          subst (CallsFollowed code at) (sym e) (followed_join code at next (next + 1) one two)
      followed (Text kind address characters) tail reached in_do out_at at s inner lt after h n k =
          let middle = at + length (number_cells address) in
          let next = at + length (number_cells address) + length (number_cells characters) in
          let last = at + (length (number_cells address) + length (number_cells characters) + text_size kind) in
          let c = cut code at (length (number_cells address)) (number_cells address) (number_cells characters ++ text_cells place tail kind) last refl (omega (arith, n)) h in
          let d = cut code middle (length (number_cells characters)) (number_cells characters) (text_cells place tail kind) last refl (omega (arith, n)) c.1 in
          let e : last ≡ next + text_size kind = omega arith in
          let one = no_calls code at (length (number_cells address)) (number_cells address) middle (numbers_have_no_calls address) refl (omega (arith, n)) c.0 in
          let two = no_calls code middle (length (number_cells characters)) (number_cells characters) next (numbers_have_no_calls characters) refl (omega (arith, n)) d.0 in
          let three = text_followed kind tail next (subst (StandIn code next (text_cells place tail kind)) e d.1) (omega (arith, n)) (λ t g. subst (MayFollow code) e (k t g)) in
          subst (CallsFollowed code at) (sym e) (followed_join code at middle (next + text_size kind) one (followed_join code middle next (next + text_size kind) two three))
      followed (If first Empty) tail reached in_do out_at at s inner lt after h n k =
          let last = at + node_size tail reached (If first Empty) in
          let target = else_place at tail first Empty in
          let suits = two_suit in_do first Empty s.parts_laid s.parts_back s.parts_have_cells s.leaves in
          let first_code = cells_of_nodes out_at (at + 1) tail true first in
          let c = cut code (at + 1) (size tail true first) first_code [] last (size_is first data_start place out_at (at + 1) tail true) (omega (arith, n)) (onward code at (branch_to target) (first_code ++ []) last (omega (arith, n)) h) in
          let e : at + node_size tail reached (If first Empty) ≡ at + 1 + size tail true first = omega arith in
          let one = one_no_call code at (branch_to target) (first_code ++ []) last (grind (arith, nat_tests, n)) (omega (arith, n)) h in
          let two = all_followed first tail true in_do out_at (at + 1) suits.0 inner lt (omega arith) c.0 (omega (arith, n)) (λ t g. subst (MayFollow code) e (k t (either (reaches_end tail true first) true refl))) in
          subst (CallsFollowed code at) (sym e) (followed_join code at (at + 1) (at + 1 + size tail true first) one two)
      followed (If first (Then node rest)) tail reached in_do out_at at s inner lt after h n k =
          let second = Then node rest in
          let last = at + node_size tail reached (If first (Then node rest)) in
          let second_at = else_place at tail first (Then node rest) in
          let target = else_place at tail first (Then node rest) + size tail true (Then node rest) in
          let g1 = reaches_end tail true first in
          let suits = two_suit in_do first (Then node rest) s.parts_laid s.parts_back s.parts_have_cells s.leaves in
          let first_code = cells_of_nodes out_at (at + 1) tail true first in
          let second_code = cells_of_nodes out_at (else_place at tail first (Then node rest)) tail true (Then node rest) in
          let c =
          cut code (at + 1) (size tail true first) first_code (cell_if g1 (jump_to target) ++ second_code) last
          (size_is first data_start place out_at (at + 1) tail true) (omega (arith, n))
          (onward code at (branch_to second_at) (first_code ++ (cell_if g1 (jump_to target) ++ second_code)) last (omega (arith, n)) h) in
          let d = cut code (at + 1 + size tail true first) (size_if g1) (cell_if g1 (jump_to target)) second_code last (if_size_is g1 (jump_to target)) (omega (arith, n)) c.1 in
          let e : last ≡ target = omega arith in
          let k' : tail ≡ false → falls_through tail (If first (Then node rest)) ≡ true → MayFollow code (else_place at tail first (Then node rest) + size tail true (Then node rest)) = λ t g. subst (MayFollow code) e (k t g) in
          let one = one_no_call code at (branch_to second_at) (first_code ++ (cell_if g1 (jump_to target) ++ second_code)) last (grind (arith, nat_tests, n)) (omega (arith, n)) h in
          let two = all_followed first tail true in_do out_at (at + 1) suits.0 inner lt (omega arith) c.0 (omega (arith, n))
          (λ t g.
          jump_on code (at + 1 + size tail true first) target
          (jump_stands g1 (at + 1 + size tail true first) target (at + 1 + size tail true first + size_if g1) g d.0) (omega (arith, n))
          (k' t (ap (λ b. b || reaches_end tail true (Then node rest)) g)).returns) in
          let three = cell_if_no_call code g1 (at + 1 + size tail true first) (jump_to target) (at + 1 + size tail true first + size_if g1) (grind (arith, nat_tests, n)) (omega (arith, n)) d.0 in
          let four =
          all_followed (Then node rest) tail true in_do out_at (else_place at tail first (Then node rest)) suits.1 inner lt (omega arith)
          (subst (StandIn code (else_place at tail first (Then node rest)) second_code) e d.1) (omega (arith, n))
          (λ t g. k' t (either (reaches_end tail true first) (reaches_end tail true (Then node rest)) g)) in
          subst (CallsFollowed code at) (sym e)
          (followed_join code at (at + 1) target one (followed_join code (at + 1) (at + 1 + size tail true first) target two (followed_join code (at + 1 + size tail true first) second_at target three four)))
      followed (Until body) tail reached in_do out_at at s inner lt after h n k =
          let end = at + size false true body in
          let c = cut code at (size false true body) (cells_of_nodes out_at at false true body) (branch_to at ∷ []) (at + (size false true body + 1)) (size_is body data_start place out_at at false true) (omega (arith, n)) h in
          let e : at + (size false true body + 1) ≡ at + size false true body + 1 = omega arith in
          let one = all_followed body false true in_do out_at at (record { are_laid = s.parts_laid; all_back = s.parts_back; have_cells = s.parts_have_cells; leaves = s.leaves }) inner lt after c.0 (omega (arith, n))
          (λ t g. other_cell code (at + size false true body) (0x2000 + at) c.1.0 (omega arith) (λ f. absurd (omega (arith, f, n)))) in
          let two = one_no_call code (at + size false true body) (branch_to at) [] (at + (size false true body + 1)) (grind (arith, nat_tests, n)) (omega (arith, n)) c.1 in
          subst (CallsFollowed code at) (sym e) (followed_join code at end (at + size false true body + 1) one two)
      followed (While test body) tail reached in_do out_at at s inner lt after h n k =
          let last = at + node_size tail reached (While test body) in
          let test_end = at + size false true test in
          let body_at = while_place at test in
          let target = while_place at test + size false true body + 1 in
          let body_end = while_place at test + size false true body in
          let body_code = cells_of_nodes out_at (while_place at test) false true body in
          let suits = two_suit in_do test body s.parts_laid s.parts_back s.parts_have_cells s.leaves in
          let c = cut code at (size false true test) (cells_of_nodes out_at at false true test) (branch_to target ∷ (body_code ++ jump_to at ∷ [])) last (size_is test data_start place out_at at false true) (omega (arith, n)) h in
          let d =
          cut code (while_place at test) (size false true body) body_code (jump_to at ∷ []) last
          (size_is body data_start place out_at (while_place at test) false true) (omega (arith, n))
          (onward code test_end (branch_to target) (body_code ++ jump_to at ∷ []) last (omega (arith, n)) c.1) in
          let e : last ≡ target = omega arith in
          let one = all_followed test false true in_do out_at at suits.0 inner lt after c.0 (omega (arith, n)) (λ t g. other_cell code (at + size false true test) (0x2000 + target) c.1.0 (omega arith) (λ f. absurd (omega (arith, f, n)))) in
          let two = one_no_call code (at + size false true test) (branch_to target) (body_code ++ jump_to at ∷ []) last (grind (arith, nat_tests, n)) (omega (arith, n)) c.1 in
          let three =
          all_followed body false true in_do out_at (while_place at test) suits.1 inner lt (omega arith) d.0 (omega (arith, n))
          (λ t g. jump_back code (while_place at test + size false true body) at d.1.0 (omega (arith, n)) (omega arith)) in
          let four = one_no_call code (while_place at test + size false true body) (jump_to at) [] last (grind (arith, nat_tests, n)) (omega (arith, n)) d.1 in
          subst (CallsFollowed code at) (sym e)
          (followed_join code at test_end target one (followed_join code test_end body_at target two (followed_join code body_at body_end target three four)))
      followed (Again body) tail reached in_do out_at at s inner lt after h n k =
          let end = at + size false true body in
          let c = cut code at (size false true body) (cells_of_nodes out_at at false true body) (jump_to at ∷ []) (at + (size false true body + 1)) (size_is body data_start place out_at at false true) (omega (arith, n)) h in
          let e : at + (size false true body + 1) ≡ at + size false true body + 1 = omega arith in
          let one = all_followed body false true in_do out_at at (record { are_laid = s.parts_laid; all_back = s.parts_back; have_cells = s.parts_have_cells; leaves = s.leaves }) inner lt after c.0 (omega (arith, n))
          (λ t g. jump_back code (at + size false true body) at c.1.0 (omega (arith, n)) (omega arith)) in
          let two = one_no_call code (at + size false true body) (jump_to at) [] (at + (size false true body + 1)) (grind (arith, nat_tests, n)) (omega (arith, n)) c.1 in
          subst (CallsFollowed code at) (sym e) (followed_join code at end (at + size false true body + 1) one two)
      followed (Do body plus) tail reached in_do out_at at s inner lt after h n k =
          loop_followed body plus at (at + node_size tail reached (Do body plus)) (cells_of_nodes (out_place at body plus) (at + 8) false true body) (size_is body data_start place (out_place at body plus) (at + 8) false true) h refl n
          (λ stands drop may.
          all_followed body false true true (out_place at body plus) (at + 8)
          (record { are_laid = s.parts_laid; all_back = s.parts_back; have_cells = s.parts_have_cells; leaves = s.leaves }) (λ t. drop)
          (omega (arith, n)) (omega arith) stands (omega (arith, n)) (λ t f. may))
      followed (QDo body plus) tail reached in_do out_at at s inner lt after h n k =
          let last = at + node_size tail reached (QDo body plus) in
          let body_code = cells_of_nodes (out_place (at + 7) body plus) (at + 7 + 8) false true body in
          let end_at = out_place (at + 7) body plus + 4 in
          let c = cut code at 7 (q_do_cells (at + 7) end_at) (loop_code (at + 7) body plus body_code) last refl (omega (arith, n)) h in
          let one = no_calls code at 7 (q_do_cells (at + 7) end_at) (at + 7) (grind (arith, nat_tests, n)) refl (omega (arith, n)) c.0 in
          let two = loop_followed body plus (at + 7) last body_code (size_is body data_start place (out_place (at + 7) body plus) (at + 7 + 8) false true) c.1 (omega arith) n
          (λ stands drop may.
          all_followed body false true true (out_place (at + 7) body plus) (at + 7 + 8)
          (record { are_laid = s.parts_laid; all_back = s.parts_back; have_cells = s.parts_have_cells; leaves = s.leaves }) (λ t. drop)
          (omega (arith, n)) (omega arith) stands (omega (arith, n)) (λ t f. may)) in
          followed_join code at (at + 7) last one two
      followed (Case arms rest) tail reached in_do out_at at s inner lt after h n k =
          let last = at + node_size tail reached (Case arms rest) in
          let rest_at = at + arms_size tail arms in
          let drop_at = rest_at + size false true rest in
          let end_at = at + arms_size tail arms + size false true rest + 1 in
          let rest_code = cells_of_nodes out_at rest_at false true rest in
          let suits = case_suits in_do arms rest s in
          let c = cut code at (arms_size tail arms) (arms_cells data_start place out_at at tail end_at arms) (rest_code ++ end_case_cells) last (arms_size_is arms data_start place out_at at tail end_at) (omega (arith, n)) h in
          let d = cut code rest_at (size false true rest) rest_code end_case_cells last (size_is rest data_start place out_at rest_at false true) (omega (arith, n)) c.1 in
          let e : last ≡ end_at = omega arith in
          let one = arms_followed arms tail in_do out_at at end_at suits.0 inner lt after c.0 (omega (arith, n)) (omega (arith, n)) (λ t. subst (MayFollow code) e (k t refl)) in
          let two = all_followed rest false true in_do out_at rest_at suits.1 inner lt (omega arith) d.0 (omega (arith, n)) (λ t g. other_cell code drop_at 0x6103 d.1.0 (omega arith) (λ f. absurd (omega (arith, f)))) in
          let three = one_no_call code drop_at 0x6103 [] last refl (omega (arith, n)) d.1 in
          subst (CallsFollowed code at) (sym e) (followed_join code at rest_at end_at one (followed_join code rest_at drop_at end_at two three))
      followed Leave tail reached in_do out_at at s inner lt after h n k = one_no_call code at out_at [] (at + 1) (grind (arith, nat_tests)) n h
      followed Exit tail reached in_do out_at at s inner lt after h n k = cell_if_no_call code reached at return_cell (at + size_if reached) refl n h

      all_followed : (nodes : Nodes) (tail reached in_do : Bool) (out_at at : ℕ) → AllSuit in_do nodes → Inner in_do out_at → out_at < 8192 → start ≤ at →
          StandIn code at (cells_of_nodes out_at at tail reached nodes) (at + size tail reached nodes) → at + size tail reached nodes < 8192 →
          (tail ≡ false → reaches_end tail reached nodes ≡ true → MayFollow code (at + size tail reached nodes)) → CallsFollowed code at (at + size tail reached nodes)
      all_followed Empty tail reached in_do out_at at s inner lt after h n k = λ c a b l m. absurd (omega arith)
      all_followed (Then node rest) tail reached in_do out_at at s inner lt after h n k =
          let suits = list_suits in_do node rest s in
          let here = is_tail rest tail in
          let middle = at + node_size here reached node in
          let next_reached = falls_through here node in
          let c =
          cut code at (node_size here reached node) (cells_of_node out_at at here reached node) (cells_of_nodes out_at middle tail next_reached rest)
          (at + (node_size here reached node + size tail next_reached rest)) (node_size_is node data_start place out_at at here reached)
          (omega (arith, n)) h in
          let e : at + (node_size here reached node + size tail next_reached rest) ≡ middle + size tail next_reached rest = omega arith in
          let rest_stands = subst (StandIn code middle (cells_of_nodes out_at middle tail next_reached rest)) e c.1 in
          let k' : tail ≡ false → reaches_end tail next_reached rest ≡ true → MayFollow code (middle + size tail next_reached rest) = λ t g. subst (MayFollow code) e (k t g) in
          let one =
          followed node here reached in_do out_at at suits.0 inner lt after c.0 (omega (arith, n))
          (λ t g.
          next_may rest tail next_reached in_do out_at middle (middle + size tail next_reached rest) suits.1 inner lt (omega arith) rest_stands
          (omega (arith, n)) t g k') in
          let two = all_followed rest tail next_reached in_do out_at middle suits.1 inner lt (omega arith) rest_stands (omega (arith, n)) k' in
          subst (CallsFollowed code at) (sym e) (followed_join code at middle (middle + size tail next_reached rest) one two)

      arms_followed : (arms : Arms) (tail in_do : Bool) (out_at at end_at : ℕ) → ArmsSuit in_do arms → Inner in_do out_at → out_at < 8192 → start ≤ at →
          StandIn code at (arms_cells data_start place out_at at tail end_at arms) (at + arms_size tail arms) → at + arms_size tail arms < 8192 →
          end_at < 8192 →
          (tail ≡ false → MayFollow code end_at) → CallsFollowed code at (at + arms_size tail arms)
      arms_followed NoArm tail in_do out_at at end_at s inner lt after h n low k = λ c a b l m. absurd (omega arith)
      arms_followed (Arm tests body others) tail in_do out_at at end_at s inner lt after h n low k =
          let suits = arm_suits in_do tests body others s in
          let of_at = at + size false true tests in
          let body_at = arm_place at tests in
          let body_end = body_at + size tail true body in
          let other_at = others_place at tail tests body in
          let reached = reaches_end tail true body in
          let last = at + arms_size tail (Arm tests body others) in
          let tests_code = cells_of_nodes out_at at false true tests in
          let body_code = cells_of_nodes out_at body_at tail true body in
          let others_code = arms_cells data_start place out_at other_at tail end_at others in
          let own = size false true tests + 4 + size tail true body + size_if reached in
          let a =
          cut code at own (arm_code at tail end_at tests body tests_code body_code) others_code last
          (arm_size_is at tail end_at tests body tests_code body_code (size_is tests data_start place out_at at false true)
          (size_is body data_start place out_at body_at tail true)) (omega (arith, n)) h in
          let c = cut code at (size false true tests) tests_code (of_cells other_at ++ (body_code ++ cell_if reached (jump_to end_at))) (at + own) (size_is tests data_start place out_at at false true) (omega (arith, n)) a.0 in
          let o = cut code of_at 4 (of_cells other_at) (body_code ++ cell_if reached (jump_to end_at)) (at + own) refl (omega (arith, n)) c.1 in
          let d = cut code body_at (size tail true body) body_code (cell_if reached (jump_to end_at)) (at + own) (size_is body data_start place out_at body_at tail true) (omega (arith, n)) o.1 in
          let e : at + own ≡ other_at = omega arith in
          let e' : last ≡ other_at + arms_size tail others = omega arith in
          let one = all_followed tests false true in_do out_at at suits.0 inner lt after c.0 (omega (arith, n)) (λ t g. other_cell code of_at 0x6181 c.1.0 (omega arith) (λ f. absurd (omega (arith, f)))) in
          let two = no_calls code of_at 4 (of_cells other_at) body_at (grind (arith, nat_tests, n)) refl (omega (arith, n)) o.0 in
          let three = all_followed body tail true in_do out_at body_at suits.1 inner lt (omega arith) d.0 (omega (arith, n)) (λ t g. jump_on code body_end end_at (jump_stands reached body_end end_at (at + own) g d.1) low (k t).returns) in
          let four = cell_if_no_call code reached body_end (jump_to end_at) (at + own) (grind (arith, nat_tests, low)) (omega (arith, n)) d.1 in
          let five = arms_followed others tail in_do out_at other_at end_at suits.2 inner lt (omega arith) (subst (StandIn code other_at others_code) e' (subst (λ x. StandIn code x others_code last) e a.1)) (omega (arith, n)) low k in
          subst (CallsFollowed code at) (sym e')
          (followed_join code at of_at (other_at + arms_size tail others) one (followed_join code of_at body_at (other_at + arms_size tail others) two
          (followed_join code body_at body_end (other_at + arms_size tail others) three (followed_join code body_end other_at (other_at + arms_size tail others) four five))))

    -- the code of the definition
    pub body_followed : (body : Nodes) → AllSuit false body → StandIn code start (body_cells data_start place start body) (start + body_size body) → start + body_size body < 8192 → CallsFollowed code start (start + body_size body)
    body_followed body s h n =
        let reached = reaches_end true true body in
        let c = cut code start (size true true body) (nodes_cells data_start place 0 start true true body) (cell_if reached return_cell) (start + body_size body) (size_is body data_start place 0 start true true) (omega (arith, n)) h in
        let e : start + body_size body ≡ start + size true true body + size_if reached = omega arith in
        let one = all_followed body true true false 0 start s (λ t. absurd (let f : false ≡ true = t in cc)) (omega arith) (omega arith) c.0 (omega (arith, n)) (λ t. absurd (let f : true ≡ false = t in cc)) in
        let two = cell_if_no_call code reached (start + size true true body) return_cell (start + body_size body) refl (omega (arith, n)) c.1 in
        subst (CallsFollowed code start) (sym e) (followed_join code start (start + size true true body) (start + size true true body + size_if reached) one two)
