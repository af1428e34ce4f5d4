-- Last calls are jumps: no call of an image stands before a return.
use Rattle.std.proofs.Common.{◌≡◌, ◌≢◌, ℕ, zero, suc, ◌+◌, ◌<◌, ◌≤◌, inl, inr, ⊎_elim, Bool, true, false, ◌&&◌, List, [], ◌∷◌, ◌++◌, length, slice_index, Option, Some, None, refl, sym, ap, ◌∙◌, subst, length-append, arith}
use Rattle.std.specs.List.{list_all}
use Rattle.std.proofs.lemmas.Bool.{cases_lt}
use Rattle.std.proofs.lemmas.Bool.Decides.{nat_tests}
use Rattle.std.proofs.lemmas.List.{append-nil, get_or_past}
use Rattle.j1_table.specs.Instruction.{decoded}
use Rattle.word_table.specs.declared.word.Word.{Word}
use Rattle.word_table.specs.Table.{cells_from}
use Rattle.forth_program.specs.Tree.{Node, Nodes, Literal, Plain, Call, Child}
use Rattle.forth_program.specs.Program.{SourceProgram}
use Rattle.forth_program.specs.Form.{everywhere, has_id_below, calls_go_back, leaves_fit, has_no_go}
use Rattle.word_laws.specs.Numbers.{number_cells}
use Rattle.word_laws.specs.Standing.{StandIn, CellsStand}
use Rattle.code_layout.specs.Numbering.{library_number}
use Rattle.code_layout.specs.Layout.{Routine, Definition, Library, Executing, Aborting, Leaving, type_routine, jump_to, branch_to, call_to, return_cell, body_size}
use Rattle.code_layout.specs.Layout.{body_cells, bodies_cells, begins_at, bodies_size, execute_cells, abort_cells, word_token_cells, word_token_place}
use Rattle.code_layout.specs.Layout.{token_cells, token_size, tokens_size, leaving_cells, leaving_size, tokens_cells, token_place, token_jumps, library_place, execute_place, abort_place, first_place}
use Rattle.code_layout.specs.Layout.{tokens_place, leaving_place, routine_place, header, laid_out}
use Rattle.code_layout.specs.Built.{is_laid_out, IsBuilt}
use Rattle.code_layout.specs.Library.{each_uses_earlier, IsLibrary}
use Rattle.code_layout.specs.LastCalls.{IsReturn, IsCallCell, LastCalls, begins_well, all_begin_well}
use Rattle.code_layout.proofs.Machine.{both}
use Rattle.code_layout.proofs.LaidCode.{body_size_is, token_size_is, tokens_size_is, leaving_size_is, cut, onward}
use Rattle.code_layout.proofs.Image.{begins_low, bodies_size_is, jumps_length}
use Rattle.code_layout.proofs.Followed.{Later, MayFollow, CallsFollowed, call_is, jump_is, is_jump, is_branch, is_no_call, followed_join, other_cell, no_calls}
use Rattle.code_layout.proofs.CallsFollowed.{words_have_no_calls, numbers_have_no_calls, body_followed}

-- ---- code without calls

all_joined : (a b : List ℕ) → list_all is_no_call a ≡ true → list_all is_no_call b ≡ true → list_all is_no_call (a ++ b) ≡ true
all_joined [] b e f = f
all_joined (x ∷ a) b e f = let h = both (is_no_call x) (list_all is_no_call a) e in true_both (is_no_call x) (list_all is_no_call (a ++ b)) h.0 (all_joined a b h.1 f)
  where
    true_both : (s t : Bool) → s ≡ true → t ≡ true → (s && t) ≡ true
    true_both true t e f = f
    true_both false t e f = absurd (let g : false ≡ true = e in cc)

leaving_has_none : (lacking : Bool) → list_all is_no_call (leaving_cells lacking) ≡ true
leaving_has_none true = refl
leaving_has_none false = refl

module _ (data_start : ℕ) (place : Routine → ℕ) (low : (r : Routine) → place r < 8192) where
  word_token_has_none : (word : Word) (found : Option ℕ) → list_all is_no_call (word_token_cells data_start found word) ≡ true
  word_token_has_none word None = all_joined (cells_from data_start word) (return_cell ∷ []) (words_have_no_calls data_start word) refl
  word_token_has_none word (Some number) = refl

  token_has_none : (node : Node) → list_all is_no_call (token_cells data_start place node) ≡ true
  token_has_none (Literal value) = all_joined (number_cells value) (return_cell ∷ []) (numbers_have_no_calls value) refl
  token_has_none (Plain word) = word_token_has_none word (library_number word)
  token_has_none (Child d address) = all_joined (number_cells address) (jump_to (place (Definition d)) ∷ []) (numbers_have_no_calls address) (let l = low (Definition d) in grind (arith, nat_tests))
  token_has_none node = refl

  tokens_have_none : (tokens : List Node) → list_all is_no_call (tokens_cells data_start place tokens) ≡ true
  tokens_have_none [] = refl
  tokens_have_none (node ∷ tokens) = all_joined (token_cells data_start place node) (tokens_cells data_start place tokens) (token_has_none node) (tokens_have_none tokens)

  word_place_low : (found : Option ℕ) (at : ℕ) → at < 8192 → word_token_place place at found < 8192
  word_place_low None at lt = lt
  word_place_low (Some number) at lt = low (Library number)

  place_low : (node : Node) (at : ℕ) → at < 8192 → token_place place at node < 8192
  place_low (Call d) at lt = low (Definition d)
  place_low (Plain word) at lt = word_place_low (library_number word) at lt
  place_low node at lt = lt

  jumps_have_none : (at : ℕ) (tokens : List Node) → at + length (tokens_cells data_start place tokens) < 8192 → list_all is_no_call (token_jumps place at tokens) ≡ true
  jumps_have_none at [] n = refl
  jumps_have_none at (node ∷ tokens) n =
      let len = length-append (token_cells data_start place node) (tokens_cells data_start place tokens) in
      let own = token_size_is node data_start place in
      let l = place_low node at (omega (arith, n)) in
      all_joined (jump_to (token_place place at node) ∷ []) (token_jumps place (at + token_size node) tokens) (grind (arith, nat_tests)) (jumps_have_none (at + token_size node) tokens (omega (arith, n, len, own)))

-- ---- library words and definitions

module _ (code : List ℕ) (data_start : ℕ) (place : Routine → ℕ) (low : (r : Routine) → place r < 8192) where
  library_followed : (at number next : ℕ) (bodies : List Nodes) → ((k : ℕ) → k < number → place (Library k) ≤ at) → ((k : ℕ) → k < length bodies → begins_at at bodies k ≡ place (Library (number + k))) →
      each_uses_earlier number bodies ≡ true → list_all (everywhere begins_well) bodies ≡ true → list_all (leaves_fit false) bodies ≡ true →
      StandIn code at (bodies_cells data_start place at bodies) next → at + length (bodies_cells data_start place at bodies) + 1 < 8192 → CallsFollowed code at (at + length (bodies_cells data_start place at bodies))
  library_followed at number next [] near begins laid cells leaves h n = λ c a b l m. absurd (omega arith)
  library_followed at number next (body ∷ bodies) near begins laid cells leaves h n =
      let a = both (everywhere (is_laid_out false number 0) body) (each_uses_earlier (suc number) bodies) laid in
      let c = both (everywhere begins_well body) (list_all (everywhere begins_well) bodies) cells in
      let d = both (leaves_fit false body) (list_all (leaves_fit false) bodies) leaves in
      let rest = bodies_cells data_start place (at + body_size body) bodies in
      let whole = length-append (body_cells data_start place at body) rest in
      let own = body_size_is data_start place at body in
      let parts = cut code at (body_size body) (body_cells data_start place at body) rest next (body_size_is data_start place at body) (omega (arith, n, whole, own)) h in
      let own_at : place (Library number) ≡ at = let e : number + 0 ≡ number = omega arith in ap (λ k. place (Library k)) (sym e) ∙ sym (begins 0 (omega arith)) in
      let near' : (k : ℕ) → k < suc number → place (Library k) ≤ at = λ k lt. ⊎_elim (λ before. near k before) (λ le. let same : k ≡ number = omega arith in omega (arith, ap (λ k. place (Library k)) same, own_at)) (cases_lt k number) in
      let one =
      body_followed code data_start place low false number 0 (is_laid_out false number 0) at (λ d e f. absurd (grind (arith, nat_tests)))
      (λ k e. near k (grind (arith, nat_tests))) (λ e. absurd (let f : false ≡ true = e in cc)) (λ e. absurd (let f : false ≡ true = e in cc)) body
      (record { are_laid = a.0; all_back = a.0; have_cells = c.0; leaves = d.0 }) parts.0 (omega (arith, n, whole, own)) in
      let two = library_followed (at + body_size body) (suc number) next bodies (λ k lt. let m = near' k lt in omega (arith, m))
      (λ k lt. let e : number + suc k ≡ suc number + k = omega arith in begins (suc k) (omega arith) ∙ ap (λ k. place (Library k)) e) a.1 c.1 d.1 parts.1 (omega (arith, n, whole, own)) in
      let e : at + length (bodies_cells data_start place at (body ∷ bodies)) ≡ at + body_size body + length rest = omega (arith, whole, own) in
      subst (CallsFollowed code at) (sym e) (followed_join code at (at + body_size body) (at + body_size body + length rest) one two)

  bodies_followed : (words count first : ℕ) → ((number : ℕ) → number < words → place (Library number) ≤ first) → place Executing ≤ first → slice_index code (place Leaving) ≢ 0x700C →
      (at definition next : ℕ) (bodies : List Nodes) → first ≤ at → ((d : ℕ) → d < definition → place (Definition d) ≤ at) →
      ((k : ℕ) → k < length bodies → begins_at at bodies k ≡ place (Definition (definition + k))) →
      list_all (everywhere (is_laid_out true words count)) bodies ≡ true → calls_go_back definition bodies ≡ true → list_all (everywhere begins_well) bodies ≡ true → list_all (leaves_fit false) bodies ≡ true →
      StandIn code at (bodies_cells data_start place at bodies) next → at + length (bodies_cells data_start place at bodies) + 1 < 8192 → CallsFollowed code at (at + length (bodies_cells data_start place at bodies))
  bodies_followed words count first near_words near_execute no_return at definition next [] from near begins laid back cells leaves h n = λ c a b l m. absurd (omega arith)
  bodies_followed words count first near_words near_execute no_return at definition next (body ∷ bodies) from near begins laid back cells leaves h n =
      let a = both (everywhere (is_laid_out true words count) body) (list_all (everywhere (is_laid_out true words count)) bodies) laid in
      let b = both (everywhere (has_id_below (suc definition)) body) (calls_go_back (suc definition) bodies) back in
      let c = both (everywhere begins_well body) (list_all (everywhere begins_well) bodies) cells in
      let d = both (leaves_fit false body) (list_all (leaves_fit false) bodies) leaves in
      let rest = bodies_cells data_start place (at + body_size body) bodies in
      let whole = length-append (body_cells data_start place at body) rest in
      let own = body_size_is data_start place at body in
      let parts = cut code at (body_size body) (body_cells data_start place at body) rest next (body_size_is data_start place at body) (omega (arith, n, whole, own)) h in
      let own_at : place (Definition definition) ≡ at = let e : definition + 0 ≡ definition = omega arith in ap (λ k. place (Definition k)) (sym e) ∙ sym (begins 0 (omega arith)) in
      let near' : (k : ℕ) → k < suc definition → place (Definition k) ≤ at = λ k lt.
      ⊎_elim (λ before. near k before) (λ le. let same : k ≡ definition = omega arith in omega (arith, ap (λ k. place (Definition k)) same, own_at))
      (cases_lt k definition) in
      let one =
      body_followed code data_start place low true words count (has_id_below (suc definition)) at (λ d e f. near' d (grind (arith, nat_tests)))
      (λ k e. let l = near_words k (grind (arith, nat_tests)) in omega (arith, l, from)) (λ e. omega (arith, near_execute, from)) (λ e. no_return) body
      (record { are_laid = a.0; all_back = b.0; have_cells = c.0; leaves = d.0 }) parts.0 (omega (arith, n, whole, own)) in
      let two = bodies_followed words count first near_words near_execute no_return (at + body_size body) (suc definition) next bodies (omega arith) (λ k lt. let m = near' k lt in omega (arith, m))
      (λ k lt. let e : definition + suc k ≡ suc definition + k = omega arith in begins (suc k) (omega arith) ∙ ap (λ k. place (Definition k)) e) a.1 b.1 c.1 d.1 parts.1 (omega (arith, n, whole, own)) in
      let e : at + length (bodies_cells data_start place at (body ∷ bodies)) ≡ at + body_size body + length rest = omega (arith, whole, own) in
      subst (CallsFollowed code at) (sym e) (followed_join code at (at + body_size body) (at + body_size body + length rest) one two)

  -- EXECUTE has no calls, and behind the call in ABORT" stands a number
  execute_followed : (at count next : ℕ) → count < 8192 → at + 15 < 8192 → StandIn code at (execute_cells at count) next → CallsFollowed code at (at + 15)
  execute_followed at count next few n h = no_calls code at 15 (execute_cells at count) next (grind (arith, nat_tests)) refl n h

  abort_followed : (at type_at next : ℕ) → type_at < 8192 → at + 15 < 8192 → StandIn code at (abort_cells at type_at) next → CallsFollowed code at (at + 15)
  abort_followed at type_at next few n h =
      let before = 0x6147 ∷ 0x6147 ∷ branch_to (at + 10) ∷ 0x6B8D ∷ 0x6B8D ∷ [] in
      let behind = 0x8002 ∷ 0xC004 ∷ 0x6023 ∷ 0x6103 ∷ 0x6B8D ∷ 0x6103 ∷ 0x6B8D ∷ 0x6103 ∷ return_cell ∷ [] in
      let c = cut code at 5 (0x6147 ∷ 0x6147 ∷ branch_to (at + 10) ∷ 0x6B8D ∷ 0x6B8D ∷ []) (call_to type_at ∷ behind) next refl (omega (arith, n)) h in
      let d = onward code (at + 5) (call_to type_at) behind next (omega (arith, n)) c.1 in
      let one = no_calls code at 5 (0x6147 ∷ 0x6147 ∷ branch_to (at + 10) ∷ 0x6B8D ∷ 0x6B8D ∷ []) (at + 5) (grind (arith, nat_tests)) refl (omega (arith, n)) c.0 in
      let two : CallsFollowed code (at + 5) (at + 5 + 1) = λ q a b l m. let same : at + 5 + 1 ≡ q + 1 = omega arith in subst (MayFollow code) same (other_cell code (at + 5 + 1) 0x8002 d.0 (omega arith) (λ e. absurd (omega (arith, e)))) in
      let three = no_calls code (at + 5 + 1) 9 behind next refl refl (omega (arith, n)) d in
      let e : at + 5 + 1 + 9 ≡ at + 15 = omega arith in
      subst (CallsFollowed code at) e (followed_join code at (at + 5) (at + 5 + 1 + 9) one (followed_join code (at + 5) (at + 5 + 1) (at + 5 + 1 + 9) two three))

-- library words begin before EXECUTE
begins_before : (at : ℕ) (bodies : List Nodes) (k : ℕ) → k < length bodies → begins_at at bodies k ≤ at + bodies_size bodies
begins_before at [] k lt = absurd (omega arith)
begins_before at (body ∷ bodies) zero lt = omega arith
begins_before at (body ∷ bodies) (suc k) lt = let h = begins_before (at + body_size body) bodies k (omega arith) in omega (arith, h)

module _ (cells_stand : CellsStand) (library : List Nodes) (p : SourceProgram) (form : IsLibrary library)
    (library_well : list_all (everywhere begins_well) library ≡ true) (built : IsBuilt library p) (back : calls_go_back 0 p.bodies ≡ true)
    (well : all_begin_well p ≡ true) where
  abbrev cells : List ℕ
  cells = (laid_out library p).cells

  abbrev place : Routine → ℕ
  place = routine_place library p

  abbrev jumps : List ℕ
  jumps = token_jumps (routine_place library p) (tokens_place library p) p.tokens

  abbrev of_library : List ℕ
  of_library = bodies_cells p.data_start (routine_place library p) (library_place p) library

  abbrev of_execute : List ℕ
  of_execute = execute_cells (execute_place library p) (length p.tokens)

  abbrev of_abort : List ℕ
  of_abort = abort_cells (abort_place library p) (routine_place library p type_routine)

  abbrev of_program : List ℕ
  of_program = bodies_cells p.data_start (routine_place library p) (first_place library p) p.bodies

  abbrev of_tokens : List ℕ
  of_tokens = tokens_cells p.data_start (routine_place library p) p.tokens

  abbrev of_leaving : List ℕ
  of_leaving = leaving_cells (has_no_go p)

  whole : length (laid_out library p).cells ≡ tokens_place library p + length (tokens_cells p.data_start (routine_place library p) p.tokens) + leaving_size (has_no_go p)
  whole =
      omega (
        arith,
        length-append jumps (of_library ++ (of_execute ++ (of_abort ++ (of_program ++ (of_tokens ++ of_leaving))))),
        length-append of_library (of_execute ++ (of_abort ++ (of_program ++ (of_tokens ++ of_leaving)))),
        length-append of_program (of_tokens ++ of_leaving),
        length-append of_tokens of_leaving,
        leaving_size_is (has_no_go p),
        jumps_length (routine_place library p) (tokens_place library p) p.tokens,
        bodies_size_is p.data_start (routine_place library p) (library_place p) library,
        bodies_size_is p.data_start (routine_place library p) (first_place library p) p.bodies,
      )

  short : length (laid_out library p).cells ≤ 8000
  short = let few = built.code_fits in let most = built.data_start.at_most in omega (arith, few, most)

  low : (r : Routine) → routine_place library p r < 8192
  low (Definition d) = let h = short in begins_low (first_place library p) 0 p.bodies d (omega (arith, whole))
  low (Library number) = let h = short in begins_low (library_place p) 0 library number (omega (arith, whole))
  low Executing = let h = short in omega (arith, whole)
  low Aborting = let h = short in omega (arith, whole)
  low Leaving = let h = short in omega (arith, whole, tokens_size_is p.data_start (routine_place library p) p.tokens)

  abbrev end : ℕ
  end = 0 + length (laid_out library p).cells

  stand : StandIn cells 0 cells (0 + length cells)
  stand = let h = short in subst (λ code. StandIn code 0 cells (0 + length cells)) (append-nil cells) (cells_stand [] cells [] (omega (arith, h)))

  -- no return stands where that of GO begins
  no_return_at_go : (lacking : Bool) → has_no_go p ≡ lacking → slice_index cells (leaving_place library p) ≢ 0x700C
  no_return_at_go true e f =
      let size = tokens_size_is p.data_start (routine_place library p) p.tokens in
      let past : slice_index cells (leaving_place library p) ≡ 0 = get_or_past cells (leaving_place library p) 0 (omega (arith, whole, size, ap leaving_size e)) in
      let g : 0 ≡ 0x700C = sym past ∙ f in
      absurd (omega (arith, g))
  no_return_at_go false e f =
      let h = short in
      let w = whole in
      let size = tokens_size_is p.data_start (routine_place library p) p.tokens in
      let words_size = bodies_size_is p.data_start (routine_place library p) (library_place p) library in
      let defined_size = bodies_size_is p.data_start (routine_place library p) (first_place library p) p.bodies in
      let a = cut cells 0 8 (header (routine_place library p (Definition p.main_body))) (jumps ++ (of_library ++ (of_execute ++ (of_abort ++ (of_program ++ (of_tokens ++ of_leaving)))))) end refl (omega arith) stand in
      let b = cut cells 8 (length p.tokens) jumps (of_library ++ (of_execute ++ (of_abort ++ (of_program ++ (of_tokens ++ of_leaving))))) end
      (jumps_length (routine_place library p) (tokens_place library p) p.tokens) (omega (arith, h, w)) a.1 in
      let c = cut cells (library_place p) (bodies_size library) of_library (of_execute ++ (of_abort ++ (of_program ++ (of_tokens ++ of_leaving)))) end words_size (omega (arith, h, w)) b.1 in
      let d = cut cells (execute_place library p) 15 of_execute (of_abort ++ (of_program ++ (of_tokens ++ of_leaving))) end refl (omega (arith, h, w)) c.1 in
      let g = cut cells (abort_place library p) 15 of_abort (of_program ++ (of_tokens ++ of_leaving)) end refl (omega (arith, h, w)) d.1 in
      let i = cut cells (first_place library p) (bodies_size p.bodies) of_program (of_tokens ++ of_leaving) end defined_size (omega (arith, h, w)) g.1 in
      let j = cut cells (tokens_place library p) (tokens_size p.tokens) of_tokens of_leaving end size (omega (arith, h, w, size)) i.1 in
      let k = subst (λ lacking. StandIn cells (leaving_place library p) (leaving_cells lacking) end) e j.1 in
      let l : 0x6147 ≡ 0x700C = sym k.0 ∙ f in
      absurd (omega (arith, l))

  all_followed : CallsFollowed cells 0 (length cells)
  all_followed =
      let h = short in
      let size = whole in
      let fixed = cut cells 1 7 (0x8000 ∷ 0xC004 ∷ 0x6023 ∷ 0 ∷ 0 ∷ 0 ∷ 0 ∷ []) (jumps ++ (of_library ++ (of_execute ++ (of_abort ++ (of_program ++ (of_tokens ++ of_leaving)))))) end refl (omega arith) stand.2 in
      let a = cut cells 8 (length p.tokens) jumps (of_library ++ (of_execute ++ (of_abort ++ (of_program ++ (of_tokens ++ of_leaving))))) end
      (jumps_length (routine_place library p) (tokens_place library p) p.tokens) (omega (arith, h, size)) fixed.1 in
      let b =
      cut cells (library_place p) (bodies_size library) of_library (of_execute ++ (of_abort ++ (of_program ++ (of_tokens ++ of_leaving)))) end
      (bodies_size_is p.data_start (routine_place library p) (library_place p) library) (omega (arith, h, size)) a.1 in
      let c = cut cells (execute_place library p) 15 of_execute (of_abort ++ (of_program ++ (of_tokens ++ of_leaving))) end refl (omega (arith, h, size)) b.1 in
      let d = cut cells (abort_place library p) 15 of_abort (of_program ++ (of_tokens ++ of_leaving)) end refl (omega (arith, h, size)) c.1 in
      let g = cut cells (first_place library p) (bodies_size p.bodies) of_program (of_tokens ++ of_leaving) end (bodies_size_is p.data_start (routine_place library p) (first_place library p) p.bodies) (omega (arith, h, size)) d.1 in
      let one : CallsFollowed cells 0 1 = λ c a b l m. let same : 1 ≡ c + 1 = omega arith in subst (MayFollow cells) same (other_cell cells 1 0x8000 stand.2.0 (omega arith) (λ e. absurd (omega (arith, e)))) in
      let two = no_calls cells 1 7 (0x8000 ∷ 0xC004 ∷ 0x6023 ∷ 0 ∷ 0 ∷ 0 ∷ 0 ∷ []) 8 refl refl (omega arith) fixed.0 in
      let three =
      no_calls cells 8 (length p.tokens) jumps (library_place p)
      (jumps_have_none p.data_start (routine_place library p) low (tokens_place library p) p.tokens (omega (arith, h, size)))
      (jumps_length (routine_place library p) (tokens_place library p) p.tokens) (omega (arith, h, size)) a.0 in
      let words_size = bodies_size_is p.data_start (routine_place library p) (library_place p) library in
      let defined_size = bodies_size_is p.data_start (routine_place library p) (first_place library p) p.bodies in
      let four =
      library_followed cells p.data_start (routine_place library p) low (library_place p) 0 (execute_place library p) library
      (λ k lt. absurd (omega arith)) (λ k lt. ap (λ k. routine_place library p (Library k)) (zero_plus k)) form.items library_well form.leaves_in_loops
      b.0 (omega (arith, h, size, words_size)) in
      let five = execute_followed cells p.data_start (routine_place library p) low (execute_place library p) (length p.tokens) (abort_place library p) (omega (arith, h, size)) (omega (arith, h, size)) c.0 in
      let six = abort_followed cells p.data_start (routine_place library p) low (abort_place library p) (routine_place library p type_routine) (first_place library p) (low type_routine) (omega (arith, h, size)) d.0 in
      let begin = both (list_all (everywhere begins_well) p.bodies) (list_all begins_well p.tokens) well in
      let seven =
      bodies_followed cells p.data_start (routine_place library p) low (length library) (length p.bodies) (first_place library p)
      (λ k lt. let m = begins_before (library_place p) library k lt in omega (arith, m)) (omega arith) (no_return_at_go (has_no_go p) refl) (first_place library p) 0
      (tokens_place library p) p.bodies (omega arith)
      (λ d lt. absurd (omega arith)) (λ k lt. ap (λ k. routine_place library p (Definition k)) (zero_plus k)) built.items back begin.0 built.leaves_in_loops g.0 (omega (arith, h, size, defined_size)) in
      let k = cut cells (tokens_place library p) (length of_tokens) of_tokens of_leaving end refl (omega (arith, h, size)) g.1 in
      let eight = no_calls cells (tokens_place library p) (length of_tokens) of_tokens (tokens_place library p + length of_tokens) (tokens_have_none p.data_start (routine_place library p) low p.tokens) refl (omega (arith, h, size)) k.0 in
      let nine = no_calls cells (tokens_place library p + length of_tokens) (leaving_size (has_no_go p)) of_leaving end (leaving_has_none (has_no_go p)) (leaving_size_is (has_no_go p)) (omega (arith, h, size)) k.1 in
      let words_end : library_place p + length (bodies_cells p.data_start (routine_place library p) (library_place p) library) ≡ execute_place library p = omega (arith, words_size) in
      let program_end : first_place library p + length (bodies_cells p.data_start (routine_place library p) (first_place library p) p.bodies) ≡ tokens_place library p = omega (arith, defined_size) in
      let last : tokens_place library p + length of_tokens + leaving_size (has_no_go p) ≡ length cells = sym whole in
      followed_join cells 0 1 (length cells) one (followed_join cells 1 8 (length cells) two (followed_join cells 8 (library_place p) (length cells) three
      (followed_join cells (library_place p) (execute_place library p) (length cells) (subst (CallsFollowed cells (library_place p)) words_end four)
      (followed_join cells (execute_place library p) (abort_place library p) (length cells) five (followed_join cells (abort_place library p) (first_place library p) (length cells) six
      (followed_join cells (first_place library p) (tokens_place library p) (length cells) (subst (CallsFollowed cells (first_place library p)) program_end seven)
      (followed_join cells (tokens_place library p) (tokens_place library p + length of_tokens) (length cells) eight (subst (CallsFollowed cells (tokens_place library p + length of_tokens)) last nine))))))))
    where
      zero_plus : (k : ℕ) → k ≡ 0 + k
      zero_plus k = omega arith

  -- what may stand behind a call, by instructions
  follows : (at : ℕ) → IsCallCell cells at → suc at < length cells → MayFollow cells (suc at)
  follows at call lt =
      let c = call_is (slice_index cells at) call.0 call.1 in
      let same : at + 1 ≡ suc at = omega arith in
      subst (MayFollow cells) same (all_followed at (omega arith) (omega arith) c.0 c.1)

  no_way : (r : ℕ) → IsReturn cells r → Later cells r → ⊥
  no_way r ret later =
      let few = short in
      let size = later.2 in
      let before = later.1 in
      ⊎_elim
      (λ e. ret.no_way_back later.0 later.1 later.2 (inl (ap decoded e ∙ is_jump r (omega (arith, few, size, before)))))
      (λ e. ret.no_way_back later.0 later.1 later.2 (inr (ap decoded e ∙ is_branch r (omega (arith, few, size, before)))))
      later.3

  pub last_calls : LastCalls cells
  last_calls = record {
    none_before = λ at call ret. no_way (suc at) ret ((follows at call ret.is_cell).returns ret.returns);
    none_before_jump = λ at r call jump lt ret.
        let j = jump_is (slice_index cells (suc at)) r jump in
        let inside = ret.is_cell in
        no_way r ret ((follows at call (omega (arith, lt, inside))).jumps r lt j.1 j.0 ret.returns);
  }
