-- The texts of small certificates.
use Rattle.std.proofs.Common.{◌≡◌, ℕ, List, [], ◌∷◌, ◌++◌, Option, Some, None, Result, Ok, Err, refl, ap, ◌∙◌, arith}
use Rattle.std.specs.Prelude.{ℤ, pos, negsuc, codes, decimal}
use Rattle.std.proofs.lemmas.Fmt.{decimal_digit}
use Rattle.word_table.specs.declared.word.Word.TheVariants.{Emit, Execute}
use Rattle.forth_program.specs.Tree.{Node, Nodes, Literal, Plain, Call, Empty, Then}
use Rattle.forth_program.specs.Program.{SourceProgram}
use Rattle.depth_certifier.specs.declared.effect.Effect.{Effect}
use Rattle.depth_certifier.specs.Certificate.{Cert}
use Rattle.depth_certifier.specs.Rounds.{Refusal, after_rounds}
use Rattle.depth_certifier.specs.CertificateText.{exit_text, ended, effect_line, certificate_text}

abbrev items : List Node → Nodes
items [] = Empty
items (node ∷ nodes) = Then node (items nodes)

abbrev text_of : SourceProgram → Result Cert Refusal → List ℕ
text_of p (Ok z) = certificate_text p z
text_of p (Err r) = []

abbrev program : List (List ℕ) → List Nodes → ℕ → List Node → SourceProgram
program names bodies main tokens = record { names = names; bodies = bodies; main_body = main; tokens = tokens; data_start = 8192; first_space = []; source_tokens = 0 }

abbrev effect : ℕ → ℕ → ℕ → Option (ℤ × ℤ) → Effect
effect need peak back exit = record { need = need; peak = peak; back = back; exit = exit }

written : (name : List ℕ) (need peak back : ℕ) (exit : Option (ℤ × ℤ)) (n p b x : List ℕ) → decimal need ≡ n → decimal peak ≡ p → decimal back ≡ b → exit_text exit ≡ x →
    effect_line name (effect need peak back exit) ≡ ended (name ∷ codes " need " ∷ n ∷ codes " peak " ∷ p ∷ codes " back " ∷ b ∷ codes " exit " ∷ x ∷ [])
written name need peak back exit n p b x is_need is_peak is_back is_exit =
    ap (λ v. ended (name ∷ codes " need " ∷ v ∷ codes " peak " ∷ decimal peak ∷ codes " back " ∷ decimal back ∷ codes " exit " ∷ exit_text exit ∷ [])) is_need
    ∙ ap (λ v. ended (name ∷ codes " need " ∷ n ∷ codes " peak " ∷ v ∷ codes " back " ∷ decimal back ∷ codes " exit " ∷ exit_text exit ∷ [])) is_peak
    ∙ ap (λ v. ended (name ∷ codes " need " ∷ n ∷ codes " peak " ∷ p ∷ codes " back " ∷ v ∷ codes " exit " ∷ exit_text exit ∷ [])) is_back
    ∙ ap (λ v. ended (name ∷ codes " need " ∷ n ∷ codes " peak " ∷ p ∷ codes " back " ∷ b ∷ codes " exit " ∷ v ∷ [])) is_exit

zero_is : decimal 0 ≡ codes "0"
zero_is = decimal_digit 0 (omega arith)

one_is : decimal 1 ≡ codes "1"
one_is = decimal_digit 1 (omega arith)

two_is : decimal 2 ≡ codes "2"
two_is = decimal_digit 2 (omega arith)

even_is : exit_text (Some (pos 0, pos 0)) ≡ codes "0 0"
even_is = ap (λ v. v ++ (codes " " ++ v)) zero_is

one_less_is : exit_text (Some (negsuc 0, negsuc 0)) ≡ codes "-1 -1"
one_less_is = ap (λ v. (45 ∷ v) ++ (codes " " ++ (45 ∷ v))) one_is

-- : MAIN 1 EMIT ;
abbrev prints : SourceProgram
prints = program (codes "MAIN" ∷ []) (items (Literal 1 ∷ Plain Emit ∷ []) ∷ []) 0 []

prints_text : text_of prints (after_rounds prints 2) ≡ codes "MAIN need 0 peak 2 back 0 exit 0 0\n"
prints_text = ap (λ line. (line ++ []) ++ []) (written (codes "MAIN") 0 2 0 (Some (pos 0, pos 0)) (codes "0") (codes "2") (codes "0") (codes "0 0") zero_is two_is zero_is even_is)

-- : LOOPY 65 EMIT RECURSE ; : MAIN LOOPY ;
abbrev loops_for_ever : SourceProgram
loops_for_ever = program (codes "LOOPY" ∷ codes "MAIN" ∷ []) (items (Literal 65 ∷ Plain Emit ∷ Call 0 ∷ []) ∷ items (Call 0 ∷ []) ∷ []) 1 []

loops_text : text_of loops_for_ever (after_rounds loops_for_ever 3) ≡ codes "LOOPY need 0 peak 2 back 0 exit never\nMAIN need 0 peak 2 back 0 exit never\n"
loops_text =
    ap (λ line. (line ++ (effect_line (codes "MAIN") (effect 0 2 0 None) ++ [])) ++ []) (written (codes "LOOPY") 0 2 0 None (codes "0") (codes "2") (codes "0") (codes "never") zero_is two_is zero_is refl)
    ∙ ap (λ line. (codes "LOOPY need 0 peak 2 back 0 exit never\n" ++ (line ++ [])) ++ []) (written (codes "MAIN") 0 2 0 None (codes "0") (codes "2") (codes "0") (codes "never") zero_is two_is zero_is refl)

-- a body with EXECUTE: the shared effect has a line of its own
abbrev executes : Cert
executes = record { effects = []; shared = effect 1 1 0 (Some (negsuc 0, negsuc 0)); heads = [] }

executes_text : certificate_text (program [] (items (Plain Execute ∷ []) ∷ []) 0 []) executes ≡ codes "* need 1 peak 1 back 0 exit -1 -1\n"
executes_text = written (codes "*") 1 1 0 (Some (negsuc 0, negsuc 0)) (codes "1") (codes "1") (codes "0") (codes "-1 -1") one_is one_is zero_is one_less_is
