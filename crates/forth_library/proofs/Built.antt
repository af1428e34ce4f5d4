-- Each program of a text can be laid out with the whole library.
use Rattle.std.proofs.Common.{◌≡◌, ℕ, ◌+◌, ◌≤◌, IsTrue, Bool, true, false, List, [], ◌∷◌, length, refl, arith}
use Rattle.std.specs.List.{list_all}
use Rattle.std.proofs.lemmas.Bool.{and_from, and_parts}
use Rattle.word_table.specs.declared.word.Word.{Word}
use Rattle.word_table.specs.declared.word.Word.TheVariants.{Dup}
use Rattle.forth_program.specs.declared.item.TextKind.TheVariants as text
use Rattle.forth_program.specs.Tree.{Node, Literal, Plain, Call, Child, Text}
use Rattle.forth_program.specs.Form.{everywhere, may_be_token, has_no_go}
use Rattle.control_flow.specs.Ticks.{tokens_weight}
use Rattle.control_flow.specs.SourceLaw.{is_plain, is_read, is_read_token, TestsWiden}
use Rattle.library_laws.specs.Bodies.{whole_library}
use Rattle.code_layout.specs.Layout.{routine_of, bodies_size, leaving_size, tokens_size}
use Rattle.code_layout.specs.Weights.{CodeIsLight, TokensAreLight}
use Rattle.code_layout.specs.Built.{word_is_laid_out, is_laid_out, token_is_laid_out}
use Rattle.forth_library.specs.Linked.{SourcesAreBuilt}

-- ---- words, as the table has them

abbrev implied : Bool → Bool → Bool
implied true consequence = consequence
implied false consequence = true

follows : (premise consequence : Bool) → IsTrue (implied premise consequence) → premise ≡ true → consequence ≡ true
follows true consequence h e = h
follows false consequence h e = absurd cc

plain_test : (word : Word) → IsTrue (implied (is_plain word) (word_is_laid_out true 42 (routine_of word) word))
plain_test Dup = refl
plain_test word = refl

plain_laid : (word : Word) → is_plain word ≡ true → word_is_laid_out true 42 (routine_of word) word ≡ true
plain_laid word e = follows (is_plain word) (word_is_laid_out true 42 (routine_of word) word) (plain_test word) e

read_laid : (count : ℕ) (node : Node) → is_read count node ≡ true → is_laid_out true 42 count node ≡ true
read_laid count (Literal value) e = e
read_laid count (Plain word) e = plain_laid word e
read_laid count (Call definition) e = e
read_laid count (Child definition address) e = e
read_laid count (Text text.Address address size) e = e
read_laid count (Text text.Print address size) e = e
read_laid count (Text text.Abort address size) e = e
read_laid count node e = refl

token_test : (word : Word) → IsTrue (implied (may_be_token (Plain word)) (word_is_laid_out false 42 (routine_of word) word))
token_test Dup = refl
token_test word = refl

token_laid : (count : ℕ) (node : Node) → is_read_token count node ≡ true → token_is_laid_out 42 count node ≡ true
token_laid count (Literal value) e = e
token_laid count (Plain word) e = and_from _ _ e (follows (may_be_token (Plain word)) (word_is_laid_out false 42 (routine_of word) word) (token_test word) e)
token_laid count (Call definition) e = e
token_laid count (Child definition address) e = e
token_laid count node e = absurd cc

tokens_laid : (count : ℕ) (nodes : List Node) → list_all (is_read_token count) nodes ≡ true → list_all (token_is_laid_out 42 count) nodes ≡ true
tokens_laid count [] e = refl
tokens_laid count (node ∷ nodes) e =
    let both = and_parts (is_read_token count node) (list_all (is_read_token count) nodes) e in
    and_from _ _ (token_laid count node both.0) (tokens_laid count nodes both.1)

-- tokens weigh as much as their code with their jumps, or more
tokens_light : TokensAreLight → (count : ℕ) (nodes : List Node) → list_all (token_is_laid_out 42 count) nodes ≡ true → length nodes + tokens_size nodes ≤ tokens_weight nodes
tokens_light light count [] e = omega arith
tokens_light light count (node ∷ nodes) e =
    let both = and_parts (token_is_laid_out 42 count node) (list_all (token_is_laid_out 42 count) nodes) e in
    omega (arith, light 42 count node both.0, tokens_light light count nodes both.1)

-- ---- programs

-- the code of GO has two cells
few_leaving : (lacks_go : Bool) → leaving_size lacks_go ≤ 2
few_leaving true = omega arith
few_leaving false = omega arith

-- the weights of a source leave room for its code
pub sources_built : TestsWiden → CodeIsLight → TokensAreLight → bodies_size whole_library ≡ 814 → SourcesAreBuilt
sources_built widen light tokens size p s =
    let laid : list_all (everywhere (is_laid_out true 42 (length p.bodies))) p.bodies ≡ true = widen (is_read (length p.bodies)) (is_laid_out true 42 (length p.bodies)) (read_laid (length p.bodies)) p.bodies s.items in
    let token_items = tokens_laid (length p.bodies) p.tokens s.token_items in
    record {
      has_main = s.form.main_in_range;
      items = laid;
      token_items = token_items;
      leaves_in_loops = s.form.leaves_in_loops;
      data_start = s.form.data_start;
      code_fits = omega (arith, light whole_library p laid, few_leaving (has_no_go p), size, s.light, s.form.data_start.at_least, tokens_light tokens (length p.bodies) p.tokens token_items);
      tokens_counted = s.counted;
    }
