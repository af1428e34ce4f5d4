-- The code of a program has no more cells than its weight, beside its library and the code of its tokens.
use Rattle.std.proofs.Common.{◌≡◌, ℕ, ◌+◌, ◌-◌, ◌≤◌, ◌++◌, nat_le, nat_lt, ◌&&◌, IsTrue, Bool, true, false, List, [], ◌∷◌, length, refl, ap, arith, length-append}
use Rattle.std.specs.Prelude.{if◌then◌else◌}
use Rattle.std.proofs.lemmas.Bool.Decides.{nat_tests}
use Rattle.word_table.specs.declared.word.Word.{Word}
use Rattle.word_table.specs.declared.word.Word.TheVariants.{Dup}
use Rattle.word_table.specs.Table.{entry_of}
use Rattle.forth_program.specs.Tree.{Node, Nodes, Arms, Literal, Plain, Call, Child, Text, If, Until, While, Again, Do, QDo, Case, Leave, Exit, Empty, Then, NoArm, Arm}
use Rattle.forth_program.specs.Tail.{is_tail}
use Rattle.forth_program.specs.Weight.{text_weight, else_weight, turn_weight, node_weight, weight, arms_weight, bodies_weight}
use Rattle.word_laws.specs.Numbers.{number_cells}
use Rattle.forth_program.specs.declared.item.TextKind.{TextKind}
use Rattle.forth_program.specs.declared.item.TextKind.TheVariants as text
use Rattle.forth_program.specs.Form.{everywhere, inside, in_arms, has_no_go}
use Rattle.std.specs.List.{list_all}
use Rattle.code_layout.specs.Built.{text_is_laid_out, is_laid_out}
use Rattle.code_layout.specs.Layout.{routine_of, type_routine, word_size, word_token_size, text_size, bodies_size, token_jumps, leaving_cells, tokens_cells, execute_cells}
use Rattle.code_layout.specs.Layout.{abort_cells, library_place, execute_place, abort_place, first_place, tokens_place, turn_size, falls_through, reaches_end}
use Rattle.code_layout.specs.Layout.{size_if, else_size, node_size, size, arms_size, bodies_cells, routine_place}
use Rattle.code_layout.specs.Weights.{CodeIsLight, ItemsAreLight, TokensAreLight}
use Rattle.code_layout.specs.Numbering.{library_number}
use Rattle.code_layout.proofs.Image.{bodies_size_is, jumps_length}
use Rattle.code_layout.proofs.LaidCode.{tokens_size_is, leaving_size_is}
use Rattle.code_layout.proofs.Machine.{both}

number_light : (value : ℕ) → length (number_cells value) ≤ 2
number_light value = elim (nat_lt value 0x8000) as (λ b. length (if b then (0x8000 + value) ∷ [] else (0x8000 + (0xffff - value)) ∷ 0x6600 ∷ []) ≤ 2) [ true ↦ omega arith | false ↦ omega arith ]

number_one : (value : ℕ) → nat_lt value 0x8000 ≡ true → length (number_cells value) ≡ 1
number_one value small = ap (λ b. length (if b then (0x8000 + value) ∷ [] else (0x8000 + (0xffff - value)) ∷ 0x6600 ∷ [])) small

word_test : (word : Word) → IsTrue (nat_le (word_size (routine_of word) word) (entry_of word).weight)
word_test Dup = refl
word_test word = refl

word_light : (word : Word) → word_size (routine_of word) word ≤ (entry_of word).weight
word_light word = let light = word_test word in grind (arith, nat_tests)

text_light : (kind : TextKind) → 2 + text_size kind ≤ text_weight kind
text_light text.Address = omega arith
text_light text.Print = omega arith
text_light text.Abort = omega arith

if_light : (reached : Bool) → size_if reached ≤ 1
if_light true = omega arith
if_light false = omega arith

else_light : (tail : Bool) (first second : Nodes) → else_size tail first second ≤ else_weight second
else_light tail first Empty = omega arith
else_light tail first (Then node rest) = if_light (reaches_end tail true first)

turn_light : (plus : Bool) → turn_size plus + 4 ≤ turn_weight plus
turn_light false = omega arith
turn_light true = omega arith

module _ (words count : ℕ) where
  abbrev laid : Node → Bool
  laid = is_laid_out true words count

  mutual
    node_light : (node : Node) (tail reached : Bool) → laid node ≡ true → inside laid node ≡ true → node_size tail reached node ≤ node_weight node
    node_light (Literal value) tail reached e f = number_light value
    node_light (Plain word) tail reached e f = word_light word
    node_light (Call d) tail reached e f = omega arith
    node_light (Child d address) tail reached e f = let a = both (nat_lt d count) (nat_lt address 0x8000) e in omega (arith, number_one address a.1)
    node_light (Text kind address characters) tail reached e f =
        let a = both (true && text_is_laid_out words kind && nat_lt address 0x8000) (nat_lt characters 0x8000) e in
        let b = both (true && text_is_laid_out words kind) (nat_lt address 0x8000) a.0 in
        omega (arith, number_one address b.1, number_one characters a.1, text_light kind)
    node_light (If first second) tail reached e f =
        let a = both (everywhere laid first) (everywhere laid second) f in
        omega (arith, light first tail true a.0, else_light tail first second, light second tail true a.1)
    node_light (Until body) tail reached e f = omega (arith, light body false true f)
    node_light (While test body) tail reached e f = let a = both (everywhere laid test) (everywhere laid body) f in omega (arith, light test false true a.0, light body false true a.1)
    node_light (Again body) tail reached e f = omega (arith, light body false true f)
    node_light (Do body plus) tail reached e f = omega (arith, light body false true f, turn_light plus)
    node_light (QDo body plus) tail reached e f = omega (arith, light body false true f, turn_light plus)
    node_light (Case arms rest) tail reached e f = let a = both (in_arms laid arms) (everywhere laid rest) f in omega (arith, arms_light arms tail a.0, light rest false true a.1)
    node_light Leave tail reached e f = omega arith
    node_light Exit tail reached e f = if_light reached

    light : (nodes : Nodes) (tail reached : Bool) → everywhere laid nodes ≡ true → size tail reached nodes ≤ weight nodes
    light Empty tail reached e = omega arith
    light (Then node rest) tail reached e =
        let a = both (laid node && inside laid node) (everywhere laid rest) e in
        let b = both (laid node) (inside laid node) a.0 in
        omega (arith, node_light node (is_tail rest tail) reached b.0 b.1, light rest tail (falls_through (is_tail rest tail) node) a.1)

    arms_light : (arms : Arms) (tail : Bool) → in_arms laid arms ≡ true → arms_size tail arms ≤ arms_weight arms
    arms_light NoArm tail e = omega arith
    arms_light (Arm tests body others) tail e =
        let a = both (everywhere laid tests && everywhere laid body) (in_arms laid others) e in
        let b = both (everywhere laid tests) (everywhere laid body) a.0 in
        omega (arith, light tests false true b.0, light body tail true b.1, if_light (reaches_end tail true body), arms_light others tail a.1)

  bodies_light : (bodies : List Nodes) → list_all (everywhere laid) bodies ≡ true → bodies_size bodies ≤ bodies_weight bodies
  bodies_light [] e = omega arith
  bodies_light (body ∷ bodies) e =
      let a = both (everywhere laid body) (list_all (everywhere laid) bodies) e in
      omega (arith, light body true true a.0, if_light (reaches_end true true body), bodies_light bodies a.1)

pub items_are_light : ItemsAreLight
items_are_light words count node tail reached e f = node_light words count node tail reached e f

token_test : (word : Word) → IsTrue (nat_le (1 + word_token_size (library_number word) word) (2 + (entry_of word).weight))
token_test Dup = refl
token_test word = refl

pub tokens_are_light : TokensAreLight
tokens_are_light words count (Literal value) e = omega (arith, number_light value)
tokens_are_light words count (Plain word) e = let light = token_test word in grind (arith, nat_tests)
tokens_are_light words count (Child definition address) e = omega (arith, number_light address)
tokens_are_light words count node e = omega arith

pub code_is_light : CodeIsLight
code_is_light library p items =
    let jumps = token_jumps (routine_place library p) (tokens_place library p) p.tokens in
    let of_library = bodies_cells p.data_start (routine_place library p) (library_place p) library in
    let of_program = bodies_cells p.data_start (routine_place library p) (first_place library p) p.bodies in
    let of_tokens = tokens_cells p.data_start (routine_place library p) p.tokens in
    let of_leaving = leaving_cells (has_no_go p) in
    let stubs = execute_cells (execute_place library p) (length p.tokens) ++ (abort_cells (abort_place library p) (routine_place library p type_routine) ++ (of_program ++ (of_tokens ++ of_leaving))) in
    omega (
      arith,
      length-append jumps (of_library ++ stubs),
      length-append of_library stubs,
      length-append of_program (of_tokens ++ of_leaving),
      length-append of_tokens of_leaving,
      leaving_size_is (has_no_go p),
      jumps_length (routine_place library p) (tokens_place library p) p.tokens,
      bodies_size_is p.data_start (routine_place library p) (library_place p) library,
      bodies_size_is p.data_start (routine_place library p) (first_place library p) p.bodies,
      tokens_size_is p.data_start (routine_place library p) p.tokens,
      bodies_light (length library) (length p.bodies) p.bodies items,
    )
