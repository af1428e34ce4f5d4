-- Small texts, as the checker reads them by the definitions.
use Rattle.std.proofs.Common.{◌≡◌, [], ◌∷◌, ◌++◌, replicate, refl}
use Rattle.std.specs.Prelude.{ℕ, List, zero, suc, true, false, codes}
use Rattle.word_table.specs.declared.word.Vocabulary.TheVariants as vocabulary
use Rattle.word_table.specs.declared.word.Word.TheVariants.{Emit, Dup, Index, TypeOut, Execute, Go}
use Rattle.forth_program.specs.declared.item.TextKind.TheVariants as text
use Rattle.forth_program.specs.Tree.{Literal, Plain, Call, Text, If, Until, While, Again, Do, QDo, Case, Leave, Exit, Empty, Then, NoArm, Arm}
use Rattle.host_state.specs.declared.entry.Known.TheVariants as known
use Rattle.host_state.specs.declared.entry.Ticked.TheVariants as ticked
use Rattle.host_state.specs.HostCells.{Space}
use Rattle.control_flow.specs.declared.refusal.SourceCause.TheVariants as cause
use Rattle.control_flow.specs.ParseResult.{Fine, Refused}
use Rattle.control_flow.specs.Brackets.{bracket_at}
use Rattle.control_flow.specs.Items.{items_at}
use Rattle.control_flow.specs.HostParts.{host_part_at}
use Rattle.control_flow.specs.SourceText.{program_with, source_at, first_host, program_in, program_of_text}

empty_body : program_of_text (codes ": MAIN ;") ≡ Fine (program_with (codes "MAIN" ∷ []) (Empty ∷ []) 0 3 first_host)
unfolding items_at source_at
empty_body = refl

-- the name stays as it is written, and words are known in either case
one_number : program_of_text (codes ": main 65 emit ; ") ≡ Fine (program_with (codes "main" ∷ []) ((Then (Literal 65) (Then (Plain Emit) Empty)) ∷ []) 0 5 first_host)
unfolding items_at source_at
one_number = refl

-- comments anywhere, each of which is a token; in a name's place there is none
comments : program_of_text (codes "( a) : MAIN ( b c) -1 ( d) DUP ; \\ e ;") ≡ Fine (program_with (codes "MAIN" ∷ []) ((Then (Literal 65535) (Then (Plain Dup) Empty)) ∷ []) 0 9 first_host)
unfolding items_at source_at
comments = refl

-- a name is found from its `;` on, and the newest one is
redefined : program_of_text (codes ": A 65 EMIT ; : A A 66 EMIT ; : MAIN a ;") ≡
    Fine (program_with (codes "A" ∷ codes "A" ∷ codes "MAIN" ∷ [])
    ((Then (Literal 65) (Then (Plain Emit) Empty)) ∷ (Then (Call 0) (Then (Literal 66) (Then (Plain Emit) Empty))) ∷ (Then (Call 1) Empty) ∷ []) 2 15 first_host)
unfolding items_at source_at
redefined = refl

-- a name hides a word, and RECURSE is the definition itself
hidden : program_of_text (codes ": DUP RECURSE ; : MAIN DUP ;") ≡ Fine (program_with (codes "DUP" ∷ codes "MAIN" ∷ []) ((Then (Call 0) Empty) ∷ (Then (Call 0) Empty) ∷ []) 1 8 first_host)
unfolding items_at source_at
hidden = refl

structures : program_of_text (codes ": MAIN 1 IF 2 ELSE EXIT THEN BEGIN DUP UNTIL BEGIN 3 WHILE 4 REPEAT BEGIN AGAIN ;") ≡
    Fine (program_with (codes "MAIN" ∷ []) ((Then (Literal 1) (Then (If (Then (Literal 2) Empty) (Then Exit Empty)) (Then (Until (Then (Plain Dup) Empty))
    (Then (While (Then (Literal 3) Empty) (Then (Literal 4) Empty)) (Then (Again Empty) Empty))))) ∷ []) 0 19 first_host)
unfolding items_at source_at
structures = refl

loops : program_of_text (codes ": MAIN DO I IF LEAVE THEN LOOP ?DO LOOP DO +LOOP ;") ≡
    Fine (program_with (codes "MAIN" ∷ []) ((Then (Do (Then (Plain Index) (Then (If (Then Leave Empty) Empty) Empty)) false) (Then (QDo Empty false) (Then (Do Empty true) Empty))) ∷ []) 0 13 first_host)
unfolding items_at source_at
loops = refl

cases : program_of_text (codes ": MAIN CASE 1 OF 65 ENDOF 2 OF ENDOF 67 ENDCASE ;") ≡
    Fine (program_with (codes "MAIN" ∷ []) ((Then (Case (Arm (Then (Literal 1) Empty) (Then (Literal 65) Empty) (Arm (Then (Literal 2) Empty) Empty NoArm)) (Then (Literal 67) Empty)) Empty) ∷ []) 0 13 first_host)
unfolding items_at source_at
cases = refl

-- the newest MAIN
two_mains : program_of_text (codes ": MAIN 1 ; : main 2 ;") ≡ Fine (program_with (codes "MAIN" ∷ codes "main" ∷ []) ((Then (Literal 1) Empty) ∷ (Then (Literal 2) Empty) ∷ []) 1 8 first_host)
unfolding items_at source_at
two_mains = refl

prefixes : program_of_text (codes ": MAIN $-1 %101 'A' ;") ≡ Fine (program_with (codes "MAIN" ∷ []) ((Then (Literal 65535) (Then (Literal 5) (Then (Literal 65) Empty))) ∷ []) 0 6 first_host)
unfolding items_at source_at
prefixes = refl

nothing : program_of_text [] ≡ Refused 1 cause.NoMain
unfolding source_at
nothing = refl

other_name : program_of_text (codes ": MAINS ;") ≡ Refused 4 cause.NoMain
unfolding items_at source_at
other_name = refl

open_comment : program_of_text (codes "( abc") ≡ Refused 1 cause.OpenComment
unfolding source_at
open_comment = refl

out_of_range : program_of_text (codes ": MAIN 65536 DROP ;") ≡ Refused 3 cause.NumberRange
unfolding items_at source_at
out_of_range = refl

unknown_word : program_of_text (codes ": MAIN 1 X2 . ;") ≡ Refused 4 cause.UnknownWord
unfolding items_at source_at
unknown_word = refl

no_binary : program_of_text (codes ": MAIN %2 ;") ≡ Refused 3 cause.UnknownWord
unfolding items_at source_at
no_binary = refl

open_if : program_of_text (codes ": F IF ; : MAIN ;") ≡ Refused 4 cause.BadNest
unfolding items_at source_at
open_if = refl

of_alone : program_of_text (codes ": F OF ;") ≡ Refused 3 cause.BadNest
unfolding items_at source_at
of_alone = refl

leave_alone : program_of_text (codes ": F BEGIN LEAVE UNTIL ;") ≡ Refused 4 cause.BadNest
unfolding items_at source_at
leave_alone = refl

seventeen : program_of_text (codes ": MAIN 0 IF 0 IF 0 IF 0 IF 0 IF 0 IF 0 IF 0 IF 0 IF 0 IF 0 IF 0 IF 0 IF 0 IF 0 IF 0 IF 0 IF") ≡ Refused 36 cause.TooDeep
unfolding items_at source_at
seventeen = refl

semicolon_as_name : program_of_text (codes ": ; ;") ≡ Refused 2 cause.NeedsName
unfolding source_at
semicolon_as_name = refl

open_definition : program_of_text (codes ": MAIN 1") ≡ Refused 4 cause.OpenDefinition
unfolding items_at source_at
open_definition = refl

foreign_byte : program_of_text (codes ": MAIN ." ++ 0 ∷ []) ≡ Refused 3 cause.NotText
unfolding items_at source_at
foreign_byte = refl

unknown_in_part : program_of_text (codes ": MAIN CREATE X2 ;") ≡ Refused 4 cause.UnknownWord
unfolding items_at host_part_at source_at
unknown_in_part = refl

word_outside : program_of_text (codes "X : MAIN ;") ≡ Refused 1 cause.UnknownWord
unfolding source_at
word_outside = refl

word_behind : program_of_text (codes ": MAIN ; X") ≡ Refused 4 cause.UnknownWord
unfolding items_at source_at
word_behind = refl

-- ---- texts, ticks, brackets and bases

-- data space at first, with other cells behind the fixed ones
abbrev pub space_with : ℕ → List ℕ → Space
space_with here cells = record { data_start = 8192; cells = 10 ∷ 8288 ∷ here ∷ replicate 61 0 ++ cells }

texts : program_of_text (codes ": MAIN S\" ab\" TYPE .\" c\" ABORT\" \" ;") ≡
    Fine (program_with (codes "MAIN" ∷ []) ((Then (Text text.Address 8320 2) (Then (Plain TypeOut) (Then (Text text.Print 8322 1) (Then (Text text.Abort 8323 0) Empty)))) ∷ []) 0 7
    (record { stack = []; space = space_with 8323 (25185 ∷ 99 ∷ []); tokens = [] }))
unfolding items_at source_at
texts = refl

open_string : program_of_text (codes ": MAIN .\" abc") ≡ Refused 3 cause.OpenString
unfolding items_at source_at
open_string = refl

-- a definition that is ticked twice has one token
ticks : program_of_text (codes ": A ; : MAIN ['] a ['] DUP ['] A EXECUTE ;") ≡
    Fine (program_with (codes "A" ∷ codes "MAIN" ∷ []) (Empty ∷ (Then (Literal 1) (Then (Literal 2) (Then (Literal 1) (Then (Plain Execute) Empty)))) ∷ []) 1 13
    (record first_host { tokens = ticked.Entry (record { number = 0; known = known.Definition 0 }) ∷ ticked.Word Dup ∷ [] }))
unfolding items_at source_at
ticks = refl

no_token : program_of_text (codes ": MAIN ['] EXECUTE") ≡ Refused 4 cause.NeedsName
unfolding items_at source_at
no_token = refl

unknown_tick : program_of_text (codes ": MAIN ['] 5") ≡ Refused 4 cause.UnknownWord
unfolding items_at source_at
unknown_tick = refl

brackets : program_of_text (codes ": MAIN [ 5 2 * ( c) ] LITERAL 1 [ 7 , ] ;") ≡
    Fine (program_with (codes "MAIN" ∷ []) ((Then (Literal 10) (Then (Literal 1) Empty)) ∷ []) 0 15
    (record { stack = []; space = space_with 8322 (7 ∷ []); tokens = [] }))
unfolding items_at bracket_at source_at
brackets = refl

-- a cell from before the definition, and BASE at each number
bases : program_of_text (codes ": A [ 5 HEX ] FF ; : MAIN LITERAL 10 [ 2 BASE ! ] 10 [ DECIMAL ] 10 ;") ≡
    Fine (program_with (codes "A" ∷ codes "MAIN" ∷ []) ((Then (Literal 255) Empty) ∷ (Then (Literal 5) (Then (Literal 16) (Then (Literal 2) (Then (Literal 10) Empty)))) ∷ []) 1 23 first_host)
unfolding items_at bracket_at source_at
bases = refl

no_base : program_of_text (codes ": MAIN [ 1 BASE ! ] 0") ≡ Refused 8 cause.UnknownWord
unfolding items_at bracket_at source_at
no_base = refl

no_literal : program_of_text (codes ": MAIN LITERAL ;") ≡ Refused 3 cause.HostUnderflow
unfolding items_at source_at
no_literal = refl

open_bracket : program_of_text (codes ": MAIN [ 1") ≡ Refused 5 cause.OpenDefinition
unfolding items_at bracket_at source_at
open_bracket = refl

lone_bracket : program_of_text (codes ": MAIN ] ;") ≡ Refused 3 cause.BadNest
unfolding items_at source_at
lone_bracket = refl

-- what is no host word cannot stand in brackets, and a string word reads its text first
semicolon_in_brackets : program_of_text (codes ": MAIN [ ;") ≡ Refused 4 cause.NotInDefinition
unfolding items_at bracket_at source_at
semicolon_in_brackets = refl

text_in_brackets : program_of_text (codes ": MAIN [ S\" a\"") ≡ Refused 4 cause.NotInDefinition
unfolding items_at bracket_at source_at
text_in_brackets = refl

open_string_in_brackets : program_of_text (codes ": MAIN [ S\" a") ≡ Refused 4 cause.OpenString
unfolding items_at bracket_at source_at
open_string_in_brackets = refl

-- CREATE has to be the first item
late_create : program_of_text (codes ": X [ ] CREATE") ≡ Refused 5 cause.NotInDefinition
unfolding items_at bracket_at source_at
late_create = refl

no_body : program_of_text (codes ": MAIN [ 5 >BODY ]") ≡ Refused 5 cause.NeedsName
unfolding items_at bracket_at source_at
no_body = refl

here_outside : program_of_text (codes ": MAIN [ -1 ALLOT ]") ≡ Refused 5 cause.DataFull
unfolding items_at bracket_at source_at
here_outside = refl

-- ---- weights: a text of DUPs, each of weight 1, in one definition and in two

abbrev dups : ℕ → List ℕ → List ℕ
dups zero rest = rest
dups (suc n) rest = 68 ∷ 85 ∷ 80 ∷ 32 ∷ dups n rest

too_heavy_at_the_end : program_of_text (codes ": MAIN " ++ dups 2400 (codes ";")) ≡ Refused 2403 cause.CodeFull
unfolding items_at source_at
too_heavy_at_the_end = refl

too_heavy_loop : program_of_text (codes ": MAIN DO " ++ dups 2381 (codes "LOOP ;")) ≡ Refused 2385 cause.CodeFull
unfolding items_at source_at
too_heavy_loop = refl

-- ---- GO, a word of kernels alone

go_in_kernel : program_in vocabulary.Kernel (codes ": MAIN 5 go ;") ≡ Fine (program_with (codes "MAIN" ∷ []) ((Then (Literal 5) (Then (Plain Go) Empty)) ∷ []) 0 5 first_host)
unfolding items_at source_at
go_in_kernel = refl

go_in_source : program_of_text (codes ": MAIN 5 GO ;") ≡ Refused 4 cause.UnknownWord
unfolding items_at source_at
go_in_source = refl

ticked_go : program_in vocabulary.Kernel (codes ": MAIN ['] GO") ≡ Refused 4 cause.NeedsName
unfolding items_at source_at
ticked_go = refl

go_in_brackets : program_in vocabulary.Kernel (codes ": MAIN [ GO") ≡ Refused 4 cause.NotInDefinition
unfolding items_at source_at bracket_at
go_in_brackets = refl

go_outside : program_in vocabulary.Kernel (codes "GO") ≡ Refused 1 cause.OnlyInDefinition
unfolding source_at
go_outside = refl
