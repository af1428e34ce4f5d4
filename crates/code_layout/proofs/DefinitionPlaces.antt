-- The places of definitions, and the image that they make.
use Rattle.std.proofs.Common.{◌≡◌, ℕ, zero, suc, ◌+◌, ◌<◌, ◌≤◌, nat_lt, Bool, true, false, ◌&&◌, List, [], ◌∷◌, ◌++◌, length, drop, get_or, map, slice_index, Option, Some, None, refl, sym, ap, ◌∙◌, subst, append_assoc, length-append, arith}
use Rattle.std.specs.Prelude.{not, slice_index_or}
use Rattle.std.specs.List.{list_all}
use Rattle.std.proofs.lemmas.Bool.Decides.{nat_tests}
use Rattle.std.proofs.Math.Path.{fun_ext}
use Rattle.std.proofs.lemmas.List.{drop_more, get_or_past}
use Rattle.word_table.specs.declared.word.Word.{Word}
use Rattle.forth_program.specs.Tree.{Node, Nodes, Literal, Plain, Call, Child, Arms, Text, If, Until, While, Again, Do, QDo, Case, Leave, Exit, Empty, Then, NoArm, Arm}
use Rattle.forth_program.specs.declared.program.Token.{Token}
use Rattle.forth_program.specs.Parts.{token_node}
use Rattle.forth_program.specs.Program.{SourceProgram}
use Rattle.forth_program.specs.Form.{everywhere, inside, in_arms, has_no_go}
use Rattle.code_layout.specs.declared.places.Places.{Places}
use Rattle.code_layout.specs.Layout.{Routine, Definition, Library, Executing, Aborting, Leaving, routine_of, type_routine, body_size, body_cells, bodies_cells}
use Rattle.code_layout.specs.Layout.{begins_at, bodies_size, execute_cells, abort_cells, token_cells, token_size, tokens_size, leaving_cells, leaving_size, tokens_cells, token_place, token_jumps}
use Rattle.code_layout.specs.Layout.{jump_to, library_place, execute_place, abort_place, first_place, tokens_place, leaving_place, routine_place, header, laid_out}
use Rattle.code_layout.specs.Built.{word_is_laid_out, is_laid_out, token_is_laid_out, IsBuilt}
use Rattle.code_layout.specs.Library.{each_uses_earlier, IsLibrary}
use Rattle.code_layout.specs.Places.{ArePlaces, PlacesOf, places_from, place_by, word_count, definition_count}
use Rattle.code_layout.proofs.Image.{bodies_size_is, jumps_length}
use Rattle.code_layout.proofs.LaidCode.{body_size_is, tokens_size_is, leaving_size_is}
use Rattle.code_layout.proofs.Machine.{both}
use Rattle.code_layout.proofs.AddedCells.{cells_more}

-- all parts of an image fit
pub room : (library : List Nodes) (p : SourceProgram) → IsBuilt library p → leaving_place library p + leaving_size (has_no_go p) ≤ 8000
room library p built =
    let fits = built.code_fits in
    let most = built.data_start.at_most in
    let place = routine_place library p in
    let jumps = token_jumps (routine_place library p) (tokens_place library p) p.tokens in
    let of_library = bodies_cells p.data_start (routine_place library p) (library_place p) library in
    let of_program = bodies_cells p.data_start (routine_place library p) (first_place library p) p.bodies in
    let of_tokens = tokens_cells p.data_start (routine_place library p) p.tokens in
    let of_leaving = leaving_cells (has_no_go p) in
    let stubs = execute_cells (execute_place library p) (length p.tokens) ++ (abort_cells (abort_place library p) (routine_place library p type_routine) ++ (of_program ++ (of_tokens ++ of_leaving))) in
    omega (
      arith,
      fits,
      most,
      length-append jumps (of_library ++ stubs),
      length-append of_library stubs,
      length-append of_program (of_tokens ++ of_leaving),
      length-append of_tokens of_leaving,
      leaving_size_is (has_no_go p),
      jumps_length (routine_place library p) (tokens_place library p) p.tokens,
      bodies_size_is p.data_start (routine_place library p) (library_place p) library,
      bodies_size_is p.data_start (routine_place library p) (first_place library p) p.bodies,
      tokens_size_is p.data_start (routine_place library p) p.tokens,
    )

pub places_length : (at : ℕ) (bodies : List Nodes) → length (places_from at bodies) ≡ length bodies
places_length at [] = refl
places_length at (body ∷ bodies) = ap suc (places_length (at + body_size body) bodies)

pub places_low : (at : ℕ) (bodies : List Nodes) (k : ℕ) → at + bodies_size bodies ≤ 8000 → slice_index (places_from at bodies) k < 8192
places_low at [] k h = omega arith
places_low at (body ∷ bodies) zero h = omega (arith, h)
places_low at (body ∷ bodies) (suc k) h = places_low (at + body_size body) bodies k (omega (arith, h))

place_is : (at : ℕ) (bodies : List Nodes) (k : ℕ) → slice_index (places_from at bodies) k ≡ begins_at at bodies k
place_is at [] k = refl
place_is at (body ∷ bodies) zero = refl
place_is at (body ∷ bodies) (suc k) = place_is (at + body_size body) bodies k

-- ---- what is laid out where there are so many words and definitions is laid out where there are more

three : (a b c : Bool) → a ≡ true → b ≡ true → c ≡ true → a && b && c ≡ true
three true true c e f g = g
three true false c e f g = cc
three false b c e f g = cc

two : (a b : Bool) → a ≡ true → b ≡ true → a && b ≡ true
two true b e f = f
two false b e f = cc

module _ (words count words' count' : ℕ) (more_words : words ≤ words') (more : count ≤ count') where
  word_laid : (word : Word) (found : Option Routine) → word_is_laid_out false words found word ≡ true → word_is_laid_out true words' found word ≡ true
  word_laid word None h = h
  word_laid word (Some (Library number)) h = let e = h in grind (arith, nat_tests)
  word_laid word (Some Executing) h = cc
  word_laid word (Some Leaving) h = cc
  word_laid word (Some (Definition d)) h = cc
  word_laid word (Some Aborting) h = cc

  mutual
    node_laid : (node : Node) → is_laid_out false words count node ≡ true → is_laid_out true words' count' node ≡ true
    node_laid (Literal value) h = h
    node_laid (Plain word) h = word_laid word (routine_of word) h
    node_laid (Call d) h = let e = h in grind (arith, nat_tests)
    node_laid (Child d address) h =
        let e = both (nat_lt d count) (nat_lt address 0x8000) h in
        two (nat_lt d count') (nat_lt address 0x8000) (let f = e.0 in grind (arith, nat_tests)) e.1
    node_laid (Text kind address n) h = cc
    node_laid (If first second) h = h
    node_laid (Until body) h = h
    node_laid (While test body) h = h
    node_laid (Again body) h = h
    node_laid (Do body plus) h = h
    node_laid (QDo body plus) h = h
    node_laid (Case arms rest) h = h
    node_laid Leave h = h
    node_laid Exit h = h

    inside_laid : (node : Node) → inside (is_laid_out false words count) node ≡ true → inside (is_laid_out true words' count') node ≡ true
    inside_laid (Literal value) h = h
    inside_laid (Plain word) h = h
    inside_laid (Call d) h = h
    inside_laid (Child d address) h = h
    inside_laid (Text kind address n) h = h
    inside_laid (If first second) h =
        let e = both (everywhere (is_laid_out false words count) first) (everywhere (is_laid_out false words count) second) h in
        two (everywhere (is_laid_out true words' count') first) (everywhere (is_laid_out true words' count') second) (nodes_laid first e.0) (nodes_laid second e.1)
    inside_laid (Until body) h = nodes_laid body h
    inside_laid (While test body) h =
        let e = both (everywhere (is_laid_out false words count) test) (everywhere (is_laid_out false words count) body) h in
        two (everywhere (is_laid_out true words' count') test) (everywhere (is_laid_out true words' count') body) (nodes_laid test e.0) (nodes_laid body e.1)
    inside_laid (Again body) h = nodes_laid body h
    inside_laid (Do body plus) h = nodes_laid body h
    inside_laid (QDo body plus) h = nodes_laid body h
    inside_laid (Case arms rest) h =
        let e = both (in_arms (is_laid_out false words count) arms) (everywhere (is_laid_out false words count) rest) h in
        two (in_arms (is_laid_out true words' count') arms) (everywhere (is_laid_out true words' count') rest) (arms_laid arms e.0) (nodes_laid rest e.1)
    inside_laid Leave h = h
    inside_laid Exit h = h

    arms_laid : (arms : Arms) → in_arms (is_laid_out false words count) arms ≡ true → in_arms (is_laid_out true words' count') arms ≡ true
    arms_laid NoArm h = h
    arms_laid (Arm tests body others) h =
        let e = both (everywhere (is_laid_out false words count) tests && everywhere (is_laid_out false words count) body) (in_arms (is_laid_out false words count) others) h in
        let f = both (everywhere (is_laid_out false words count) tests) (everywhere (is_laid_out false words count) body) e.0 in
        three (everywhere (is_laid_out true words' count') tests) (everywhere (is_laid_out true words' count') body) (in_arms (is_laid_out true words' count') others) (nodes_laid tests f.0) (nodes_laid body f.1) (arms_laid others e.1)

    nodes_laid : (nodes : Nodes) → everywhere (is_laid_out false words count) nodes ≡ true → everywhere (is_laid_out true words' count') nodes ≡ true
    nodes_laid Empty h = h
    nodes_laid (Then node rest) h =
        let e = both (is_laid_out false words count node && inside (is_laid_out false words count) node) (everywhere (is_laid_out false words count) rest) h in
        let f = both (is_laid_out false words count node) (inside (is_laid_out false words count) node) e.0 in
        three (is_laid_out true words' count' node) (inside (is_laid_out true words' count') node) (everywhere (is_laid_out true words' count') rest) (node_laid node f.0) (inside_laid node f.1) (nodes_laid rest e.1)

pub library_laid : (from words count : ℕ) (bodies : List Nodes) → from + length bodies ≤ words → each_uses_earlier from bodies ≡ true → list_all (everywhere (is_laid_out true words count)) bodies ≡ true
library_laid from words count [] h all = refl
library_laid from words count (body ∷ bodies) h all =
    let e = both (everywhere (is_laid_out false from 0) body) (each_uses_earlier (suc from) bodies) all in
    two (everywhere (is_laid_out true words count) body) (list_all (everywhere (is_laid_out true words count)) bodies)
    (nodes_laid from 0 words count (omega arith) (omega arith) body e.0) (library_laid (suc from) words count bodies (omega arith) e.1)

-- ---- definitions one after the other

-- a definition, and those after it
next_body : (bodies : List Nodes) (k : ℕ) (body : Nodes) → k < length bodies → body ≡ slice_index_or bodies k Empty → drop k bodies ≡ body ∷ drop (k + 1) bodies
next_body bodies k body lt e = drop_more bodies k Empty lt ∙ ap (λ b. b ∷ drop (k + 1) bodies) (sym e)

-- where definitions were added, and these are to follow: they give the whole, are laid out and fit
abbrev pub Before : ℕ → (Routine → ℕ) → ℕ → ℕ → List ℕ → List ℕ → List Nodes → Type 0
Before data_start place words count whole code bodies =
    (code ++ bodies_cells data_start place (length code) bodies ≡ whole) × (list_all (everywhere (is_laid_out true words count)) bodies ≡ true) × (length code + bodies_size bodies ≤ 8000)

-- one of them is added
pub body_added : (data_start : ℕ) (place : Routine → ℕ) (words count : ℕ) (whole code after : List ℕ) (bodies : List Nodes) (k : ℕ) (body : Nodes) →
    k < length bodies → body ≡ slice_index_or bodies k Empty → after ≡ code ++ body_cells data_start place (length code) body →
    Before data_start place words count whole code (drop k bodies) → Before data_start place words count whole after (drop (k + 1) bodies)
body_added data_start place words count whole code after bodies k body lt is added before =
    let rest = drop (k + 1) bodies in
    let now : Before data_start place words count whole code (body ∷ rest) = subst (Before data_start place words count whole code) (next_body bodies k body lt is) before in
    let cells = body_cells data_start place (length code) body in
    let longer : length after ≡ length code + body_size body = cells_more code after (body_cells data_start place (length code) body) added ∙ ap (λ n. length code + n) (body_size_is data_start place (length code) body) in
    let fits = now.2 in (
      ap (λ xs. xs ++ bodies_cells data_start place (length after) rest) added ∙ append_assoc code cells (bodies_cells data_start place (length after) rest) ∙ ap (λ q. code ++ (cells ++ bodies_cells data_start place q rest)) longer ∙ now.0,
      (both (everywhere (is_laid_out true words count) body) (list_all (everywhere (is_laid_out true words count)) rest) now.1).1,
      omega (arith, longer, fits),
    )

-- the next of them is laid out
pub body_laid : (words count : ℕ) (bodies : List Nodes) (k : ℕ) (body : Nodes) → k < length bodies → body ≡ slice_index_or bodies k Empty →
    list_all (everywhere (is_laid_out true words count)) (drop k bodies) ≡ true → everywhere (is_laid_out true words count) body ≡ true
body_laid words count bodies k body lt is all =
    (both (everywhere (is_laid_out true words count) body) (list_all (everywhere (is_laid_out true words count)) (drop (k + 1) bodies))
    (subst (λ xs. list_all (everywhere (is_laid_out true words count)) xs ≡ true) (next_body bodies k body lt is) all)).0

pub past_places : (places : List ℕ) (k : ℕ) → length places ≤ k → slice_index places k ≡ 0
past_places places k past = get_or_past places k 0 past

-- ---- tokens one after the other

-- where the jumps of tokens were added, and these are to follow
abbrev pub JumpsBefore : (Routine → ℕ) → ℕ → ℕ → List ℕ → List ℕ → ℕ → List Token → Type 0
JumpsBefore place words count whole code at tokens =
    (code ++ token_jumps place at (map token_node tokens) ≡ whole) × (list_all (token_is_laid_out words count) (map token_node tokens) ≡ true) × (at + tokens_size (map token_node tokens) ≤ 8000)

next_token : (tokens : List Token) (i : ℕ) (d : Token) → i < length tokens → drop i tokens ≡ get_or tokens i d ∷ drop (i + 1) tokens
next_token tokens i d lt = drop_more tokens i d lt

pub token_laid : (words count : ℕ) (tokens : List Token) (i : ℕ) (d : Token) → i < length tokens →
    list_all (token_is_laid_out words count) (map token_node (drop i tokens)) ≡ true → token_is_laid_out words count (token_node (get_or tokens i d)) ≡ true
token_laid words count tokens i d lt all =
    (both (token_is_laid_out words count (token_node (get_or tokens i d))) (list_all (token_is_laid_out words count) (map token_node (drop (i + 1) tokens)))
    (subst (λ xs. list_all (token_is_laid_out words count) (map token_node xs) ≡ true) (next_token tokens i d lt) all)).0

pub token_fits : (tokens : List Token) (i at : ℕ) (d : Token) → i < length tokens → at + tokens_size (map token_node (drop i tokens)) ≤ 8000 → at + token_size (token_node (get_or tokens i d)) ≤ 8000
token_fits tokens i at d lt room = omega (arith, room, ap (λ xs. tokens_size (map token_node xs)) (next_token tokens i d lt))

pub jump_added : (place : Routine → ℕ) (words count : ℕ) (whole code after : List ℕ) (at at' : ℕ) (tokens : List Token) (i : ℕ) (d : Token) →
    i < length tokens → after ≡ code ++ jump_to (token_place place at (token_node (get_or tokens i d))) ∷ [] →
    at' ≡ at + token_size (token_node (get_or tokens i d)) → JumpsBefore place words count whole code at (drop i tokens) → JumpsBefore place words count whole after at' (drop (i + 1) tokens)
jump_added place words count whole code after at at' tokens i d lt added moved before =
    let rest = drop (i + 1) tokens in
    let now : JumpsBefore place words count whole code at (get_or tokens i d ∷ rest) = subst (JumpsBefore place words count whole code at) (next_token tokens i d lt) before in
    let room = now.2 in (
      ap (λ xs. xs ++ token_jumps place at' (map token_node rest)) added ∙ append_assoc code (jump_to (token_place place at (token_node (get_or tokens i d))) ∷ []) (token_jumps place at' (map token_node rest))
          ∙ ap (λ q. code ++ jump_to (token_place place at (token_node (get_or tokens i d))) ∷ token_jumps place q (map token_node rest)) moved ∙ now.0,
      (both (token_is_laid_out words count (token_node (get_or tokens i d))) (list_all (token_is_laid_out words count) (map token_node rest)) now.1).1,
      omega (arith, room, moved),
    )

-- where the code of tokens was added, and that of these is to follow
abbrev pub TokensBefore : ℕ → (Routine → ℕ) → ℕ → ℕ → List ℕ → List ℕ → List Token → Type 0
TokensBefore data_start place words count whole code tokens = (code ++ tokens_cells data_start place (map token_node tokens) ≡ whole) × (list_all (token_is_laid_out words count) (map token_node tokens) ≡ true)

pub token_added : (data_start : ℕ) (place : Routine → ℕ) (words count : ℕ) (whole code after : List ℕ) (tokens : List Token) (i : ℕ) (d : Token) →
    i < length tokens → after ≡ code ++ token_cells data_start place (token_node (get_or tokens i d)) →
    TokensBefore data_start place words count whole code (drop i tokens) → TokensBefore data_start place words count whole after (drop (i + 1) tokens)
token_added data_start place words count whole code after tokens i d lt added before =
    let rest = drop (i + 1) tokens in
    let now : TokensBefore data_start place words count whole code (get_or tokens i d ∷ rest) = subst (TokensBefore data_start place words count whole code) (next_token tokens i d lt) before in (
      ap (λ xs. xs ++ tokens_cells data_start place (map token_node rest)) added ∙ append_assoc code (token_cells data_start place (token_node (get_or tokens i d))) (tokens_cells data_start place (map token_node rest)) ∙ now.0,
      (both (token_is_laid_out words count (token_node (get_or tokens i d))) (list_all (token_is_laid_out words count) (map token_node rest)) now.1).1,
    )

pub not_not : (b : Bool) → not (not b) ≡ b
not_not true = refl
not_not false = refl

-- parts one after the other
six_parts : (a b c d e f : List ℕ) (u v w x y z t : List ℕ) → b ≡ a ++ u → c ≡ b ++ (v ++ (w ++ x)) → d ≡ c ++ y → e ≡ d ++ z → f ≡ e ++ t → f ≡ a ++ (u ++ (v ++ (w ++ (x ++ (y ++ (z ++ t))))))
six_parts a b c d e f u v w x y z t first second third fourth fifth = simp (fifth, fourth, third, second, first, append_assoc) refl

pub three_parts : (a b c d : List ℕ) (u w x : List ℕ) → b ≡ a ++ u → c ≡ b ++ w → d ≡ c ++ x → d ≡ a ++ (u ++ (w ++ x))
three_parts a b c d u w x first second third = simp (third, second, first, append_assoc) refl

pub after_jumps : (place : Routine → ℕ) (head jumped : List ℕ) (main_at tokens_at : ℕ) (tokens : List Node) → head ≡ header main_at → jumped ≡ head ++ token_jumps place tokens_at tokens → length jumped ≡ 8 + length tokens
after_jumps place head jumped main_at tokens_at tokens head_is jumped_is =
    omega (arith, ap length jumped_is ∙ length-append head (token_jumps place tokens_at tokens), jumps_length place tokens_at tokens, ap length head_is)

pub after_library : (data_start : ℕ) (place : Routine → ℕ) (jumped routines : List ℕ) (library : List Nodes) (execute count abort type_at : ℕ) →
    routines ≡ jumped ++ (bodies_cells data_start place (length jumped) library ++ (execute_cells execute count ++ abort_cells abort type_at)) →
    length routines ≡ length jumped + bodies_size library + 30
after_library data_start place jumped routines library execute count abort type_at routines_is =
    let stubs = execute_cells execute count ++ abort_cells abort type_at in
    let of_library = bodies_cells data_start place (length jumped) library in
    omega (arith, ap length routines_is ∙ length-append jumped (of_library ++ stubs), length-append of_library stubs, bodies_size_is data_start place (length jumped) library)

-- ---- the image

module _ (library : List Nodes) (p : SourceProgram) (built : IsBuilt library p) (places : Places) (are : PlacesOf library p places) where
  -- the places of all routines
  pub routines_are : (r : Routine) → place_by places r ≡ routine_place library p r
  unfolding place_by
  routines_are (Definition d) = ap (λ xs. slice_index xs d) are.definitions ∙ place_is (first_place library p) p.bodies d
  routines_are (Library number) = ap (λ xs. slice_index xs number) are.words ∙ place_is (library_place p) library number
  routines_are Executing = are.execute
  routines_are Aborting = are.abort
  routines_are Leaving = are.leaving

  pub words_are : word_count places ≡ length library
  words_are = ap length are.words ∙ places_length (library_place p) library

  pub definitions_are : definition_count places ≡ length p.bodies
  definitions_are = ap length are.definitions ∙ places_length (first_place library p) p.bodies

  definition_low : (k : ℕ) → slice_index places.definitions.items k < 8192
  definition_low k = subst (λ xs. slice_index xs k < 8192) (sym are.definitions) (places_low (first_place library p) p.bodies k (let h = room library p built in omega (arith, h)))

  pub are_places : ArePlaces places
  are_places =
      let h = room library p built in
      let execute = are.execute in
      let abort = are.abort in
      let leaving = are.leaving in
      record {
        words = λ k lt. subst (λ xs. slice_index xs k < 8192) (sym are.words) (places_low (library_place p) library k (omega (arith, h)));
        definitions = λ k lt. definition_low k;
        execute = omega (arith, h, execute);
        abort = omega (arith, h, abort);
        leaving = omega (arith, h, leaving);
      }

  pub main_low : (main_at main : ℕ) → main_at ≡ slice_index places.definitions.items main → main_at < 8192
  main_low main_at main e = subst (λ n. n < 8192) (sym e) (definition_low main)

  pub library_items : IsLibrary library → list_all (everywhere (is_laid_out true (word_count places) (definition_count places))) library ≡ true
  library_items form = library_laid 0 (word_count places) (definition_count places) library (omega (arith, words_are)) form.items

  pub program_items : list_all (everywhere (is_laid_out true (word_count places) (definition_count places))) p.bodies ≡ true
  program_items =
      subst (λ n. list_all (everywhere (is_laid_out true n (definition_count places))) p.bodies ≡ true) (sym words_are)
      (subst (λ n. list_all (everywhere (is_laid_out true (length library) n)) p.bodies ≡ true) (sym definitions_are) built.items)

  pub token_items : list_all (token_is_laid_out (word_count places) (definition_count places)) p.tokens ≡ true
  token_items =
      subst (λ n. list_all (token_is_laid_out n (definition_count places)) p.tokens ≡ true) (sym words_are)
      (subst (λ n. list_all (token_is_laid_out (length library) n) p.tokens ≡ true) (sym definitions_are) built.token_items)

  pub main_is : (main main_at : ℕ) → main_at ≡ slice_index places.definitions.items main → main ≡ p.main_body → main_at ≡ routine_place library p (Definition p.main_body)
  unfolding place_by
  main_is main main_at e same = e ∙ ap (λ d. slice_index places.definitions.items d) same ∙ routines_are (Definition p.main_body)

  -- the header, and each part after it
  pub cells_are : (head jumped routines defined tokened code : List ℕ) (main_at tokens_at : ℕ) → main_at ≡ routine_place library p (Definition p.main_body) → tokens_at ≡ tokens_place library p → head ≡ header main_at →
      jumped ≡ head ++ token_jumps (place_by places) tokens_at p.tokens →
      routines ≡ jumped ++ (bodies_cells p.data_start (place_by places) (length jumped) library ++ (execute_cells places.execute (length p.tokens) ++ abort_cells places.abort (place_by places type_routine))) →
      defined ≡ routines ++ bodies_cells p.data_start (place_by places) (length routines) p.bodies → tokened ≡ defined ++ tokens_cells p.data_start (place_by places) p.tokens → code ≡ tokened ++ leaving_cells (has_no_go p) →
      code ≡ (laid_out library p).cells
  cells_are head jumped routines defined tokened code main_at tokens_at main tokens head_is jumped_is routines_is defined_is tokened_is code_is =
      let same : place_by places ≡ routine_place library p = fun_ext routines_are in
      let eight : length head ≡ 8 = ap length head_is in
      let jumps = token_jumps (place_by places) tokens_at p.tokens in
      let after_jumps : length jumped ≡ library_place p = omega (arith, ap length jumped_is ∙ length-append head jumps, jumps_length (place_by places) tokens_at p.tokens, eight) in
      let stubs = execute_cells places.execute (length p.tokens) ++ abort_cells places.abort (place_by places type_routine) in
      let of_library = bodies_cells p.data_start (place_by places) (length jumped) library in
      let after_routines : length routines ≡ first_place library p =
      omega (
        arith,
        ap length routines_is ∙ length-append jumped (of_library ++ stubs),
        length-append of_library stubs,
        bodies_size_is p.data_start (place_by places) (length jumped) library,
        after_jumps,
      ) in
      six_parts head jumped routines defined tokened code (token_jumps (place_by places) tokens_at p.tokens)
      (bodies_cells p.data_start (place_by places) (length jumped) library) (execute_cells places.execute (length p.tokens))
      (abort_cells places.abort (place_by places type_routine))
      (bodies_cells p.data_start (place_by places) (length routines) p.bodies) (tokens_cells p.data_start (place_by places) p.tokens) (leaving_cells (has_no_go p)) jumped_is routines_is defined_is tokened_is code_is
      ∙ ap
      (λ q.
      head
      ++ (token_jumps (place_by places) tokens_at p.tokens
      ++ (bodies_cells p.data_start (place_by places) q library
      ++ (execute_cells places.execute (length p.tokens)
      ++ (abort_cells places.abort (place_by places type_routine)
      ++ (bodies_cells p.data_start (place_by places) (length routines) p.bodies ++ (tokens_cells p.data_start (place_by places) p.tokens ++ leaving_cells (has_no_go p))))))))
      after_jumps
      ∙ ap
      (λ q.
      head
      ++ (token_jumps (place_by places) tokens_at p.tokens
      ++ (bodies_cells p.data_start (place_by places) (library_place p) library
      ++ (execute_cells places.execute (length p.tokens)
      ++ (abort_cells places.abort (place_by places type_routine)
      ++ (bodies_cells p.data_start (place_by places) q p.bodies ++ (tokens_cells p.data_start (place_by places) p.tokens ++ leaving_cells (has_no_go p)))))))) after_routines
      ∙ ap
      (λ (f : Routine → ℕ).
      head
      ++ (token_jumps f tokens_at p.tokens
      ++ (bodies_cells p.data_start f (library_place p) library
      ++ (execute_cells places.execute (length p.tokens)
      ++ (abort_cells places.abort (f type_routine)
      ++ (bodies_cells p.data_start f (first_place library p) p.bodies ++ (tokens_cells p.data_start f p.tokens ++ leaving_cells (has_no_go p)))))))) same
      ∙ ap
      (λ q.
      head
      ++ (token_jumps (routine_place library p) q p.tokens
      ++ (bodies_cells p.data_start (routine_place library p) (library_place p) library
      ++ (execute_cells places.execute (length p.tokens)
      ++ (abort_cells places.abort (routine_place library p type_routine)
      ++ (bodies_cells p.data_start (routine_place library p) (first_place library p) p.bodies
      ++ (tokens_cells p.data_start (routine_place library p) p.tokens ++ leaving_cells (has_no_go p)))))))) tokens
      ∙ ap
      (λ q.
      head
      ++ (token_jumps (routine_place library p) (tokens_place library p) p.tokens
      ++ (bodies_cells p.data_start (routine_place library p) (library_place p) library
      ++ (execute_cells q (length p.tokens)
      ++ (abort_cells places.abort (routine_place library p type_routine)
      ++ (bodies_cells p.data_start (routine_place library p) (first_place library p) p.bodies
      ++ (tokens_cells p.data_start (routine_place library p) p.tokens ++ leaving_cells (has_no_go p)))))))) are.execute
      ∙ ap
      (λ q.
      head
      ++ (token_jumps (routine_place library p) (tokens_place library p) p.tokens
      ++ (bodies_cells p.data_start (routine_place library p) (library_place p) library
      ++ (execute_cells (execute_place library p) (length p.tokens)
      ++ (abort_cells q (routine_place library p type_routine)
      ++ (bodies_cells p.data_start (routine_place library p) (first_place library p) p.bodies
      ++ (tokens_cells p.data_start (routine_place library p) p.tokens ++ leaving_cells (has_no_go p)))))))) are.abort
      ∙ ap
      (λ xs.
      xs
      ++ (token_jumps (routine_place library p) (tokens_place library p) p.tokens
      ++ (bodies_cells p.data_start (routine_place library p) (library_place p) library
      ++ (execute_cells (execute_place library p) (length p.tokens)
      ++ (abort_cells (abort_place library p) (routine_place library p type_routine)
      ++ (bodies_cells p.data_start (routine_place library p) (first_place library p) p.bodies
      ++ (tokens_cells p.data_start (routine_place library p) p.tokens ++ leaving_cells (has_no_go p)))))))) (head_is ∙ ap header main)
