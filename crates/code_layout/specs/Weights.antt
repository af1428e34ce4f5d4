-- The code of a program has no more cells than its weight, beside the header, its tokens, EXECUTE, ABORT" and GO, and its library.
use Rattle.std.specs.Prelude.{◌≡◌, ℕ, ◌+◌, ◌≤◌, Bool, true, List, length}
use Rattle.std.specs.List.{list_all}
use Rattle.forth_program.specs.Tree.{Node, Nodes}
use Rattle.forth_program.specs.Program.{SourceProgram}
use Rattle.forth_program.specs.Form.{everywhere, inside, has_no_go}
use Rattle.forth_program.specs.Weight.{node_weight, bodies_weight, token_weight}
use Rattle.code_layout.specs.Layout.{leaving_size, node_size, bodies_size, token_size, tokens_size, laid_out}
use Rattle.code_layout.specs.Built.{is_laid_out, token_is_laid_out}

abbrev pub CodeIsLight : Type 0
CodeIsLight =
    (library : List Nodes) (p : SourceProgram) → list_all (everywhere (is_laid_out true (length library) (length p.bodies))) p.bodies ≡ true →
    length (laid_out library p).cells ≤ 38 + leaving_size (has_no_go p) + length p.tokens + bodies_size library + bodies_weight p.bodies + tokens_size p.tokens

-- an item that is laid out takes at most its weight in cells, with all that it contains
abbrev pub ItemsAreLight : Type 0
ItemsAreLight =
    (words count : ℕ) (node : Node) (tail reached : Bool) → is_laid_out true words count node ≡ true → inside (is_laid_out true words count) node ≡ true →
    node_size tail reached node ≤ node_weight node

-- and so does a token, with its jump
abbrev pub TokensAreLight : Type 0
TokensAreLight = (words count : ℕ) (node : Node) → token_is_laid_out words count node ≡ true → 1 + token_size node ≤ token_weight node
