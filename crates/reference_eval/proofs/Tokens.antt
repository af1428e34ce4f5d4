-- EXECUTE, by the tokens of a program.
use Rattle.std.proofs.Common.{◌≡◌, ◌≢◌, ℕ, zero, suc, ◌-◌, List, [], ◌∷◌, map, Some, refl, sym, ap, ◌∙◌, arith, slice_get, get_or, length, ◌<◌}
use Rattle.forth_program.specs.declared.program.Token.{Token}
use Rattle.forth_program.specs.Parts.{token_node}
use Rattle.forth_program.specs.Program.{SourceProgram, token_of}
use Rattle.forth_program.specs.Tree.{Node}
use Rattle.forth_program.specs.State.{State, Goes, Todo}
use Rattle.forth_program.specs.Step.{word_step, with_token}
use Rattle.word_table.specs.declared.word.Word.TheVariants.{Execute}

get_map : (tokens : List Token) (i : ℕ) (t : Token) → slice_get tokens i ≡ Some t → slice_get (map token_node tokens) i ≡ Some (token_node t)
get_map [] i t e = cc
get_map (x ∷ xs) zero t e = cc
get_map (x ∷ xs) (suc i) t e = get_map xs i t e

-- where a place is in range, what stands there
pub got_at : (tokens : List Token) (i : ℕ) (t : Token) → i < length tokens → t ≡ get_or tokens i t → slice_get tokens i ≡ Some t
got_at [] i t h e = absurd (omega arith)
got_at (x ∷ xs) zero t h e = ap (λ y. Some y) (sym e)
got_at (x ∷ xs) (suc i) t h e = got_at xs i t (omega arith) e

pub token_is : (p : SourceProgram) (tokens : List Token) (token i : ℕ) (t : Token) → map token_node tokens ≡ p.tokens → token ≢ 0 → i ≡ token - 1 → slice_get tokens i ≡ Some t → token_of p token ≡ Some (token_node t)
token_is p tokens zero i t m n e f = absurd (n refl)
token_is p tokens (suc j) i t m n e f =
    let h : i ≡ j = omega arith in
    ap (λ ts. slice_get ts j) (sym m) ∙ get_map tokens j t (ap (λ k. slice_get tokens k) (sym h) ∙ f)

pub executes : (p : SourceProgram) (token : ℕ) (cells c : List ℕ) (node : Node) (s : State) → cells ≡ token ∷ c → token_of p token ≡ Some node → word_step p Execute cells s.entries s ≡ Goes
    (record s { cells = c; work = Todo node ∷ s.work })
executes p token cells c node s e f = ap (λ cells. word_step p Execute cells s.entries s) e ∙ ap (λ o. with_token o (record s { cells = c })) f
