-- Small texts with words outside definitions, as the checker reads them by the definitions.
use Rattle.std.proofs.Common.{◌≡◌, [], ◌∷◌, refl}
use Rattle.std.specs.Prelude.{codes}
use Rattle.word_table.specs.declared.word.Word.TheVariants.{Emit, Execute, Decimal, Swap, Cells, Plus}
use Rattle.forth_program.specs.Tree.{Literal, Plain, Child, Empty, Then}
use Rattle.host_state.specs.declared.entry.Known.TheVariants as known
use Rattle.host_state.specs.declared.entry.Ticked.TheVariants as ticked
use Rattle.host_state.specs.HostMemory.{first_space}
use Rattle.control_flow.specs.declared.refusal.SourceCause.TheVariants as cause
use Rattle.control_flow.specs.ParseResult.{Fine, Refused}
use Rattle.control_flow.specs.Brackets.{bracket_at}
use Rattle.control_flow.specs.Items.{items_at}
use Rattle.control_flow.specs.HostParts.{host_part_at}
use Rattle.control_flow.specs.SourceText.{program_with, source_at, first_host, program_of_text}
use Rattle.control_flow.proofs.Examples.{space_with}

-- ---- names

constant : program_of_text (codes "5 CONSTANT FIVE : MAIN [ FIVE 2 * ] LITERAL ;") ≡
    Fine (program_with (codes "MAIN" ∷ []) ((Then (Literal 10) Empty) ∷ []) 0 12 (first_host))
unfolding items_at bracket_at host_part_at source_at
constant = refl

no_name : program_of_text (codes "1 CONSTANT") ≡ Refused 3 cause.NeedsName
unfolding items_at host_part_at source_at
no_name = refl

-- its cell comes before its name
no_cell : program_of_text (codes "CONSTANT X") ≡ Refused 1 cause.HostUnderflow
unfolding items_at host_part_at source_at
no_cell = refl

reserved_name : program_of_text (codes "VARIABLE ;") ≡ Refused 2 cause.NeedsName
unfolding items_at host_part_at source_at
reserved_name = refl

variable : program_of_text (codes "VARIABLE V V @ : MAIN LITERAL ;") ≡
    Fine (program_with (codes "MAIN" ∷ []) ((Then (Literal 0) Empty) ∷ []) 0 8 (record { stack = []; space = space_with 8322 (0 ∷ []); tokens = [] }))
unfolding items_at bracket_at host_part_at source_at
variable = refl

char : program_of_text (codes "CHAR A : MAIN LITERAL ;") ≡
    Fine (program_with (codes "MAIN" ∷ []) ((Then (Literal 65) Empty) ∷ []) 0 6 (first_host))
unfolding items_at bracket_at host_part_at source_at
char = refl

-- BASE stays as it is left
base : program_of_text (codes "HEX : MAIN 10 DECIMAL ;") ≡
    Fine (program_with (codes "MAIN" ∷ []) ((Then (Literal 16) (Then (Plain Decimal) Empty)) ∷ []) 0 6 (record { stack = []; space = record { data_start = 8192; cells = 16 ∷ 8288 ∷ 8320 ∷ [] }; tokens = [] }))
unfolding items_at bracket_at host_part_at source_at
base = refl

-- ---- execution tokens

executed : program_of_text (codes ": A 65 EMIT ; ' A CONSTANT TA : MAIN TA EXECUTE 0 EXECUTE ;") ≡
    Fine (program_with (codes "A" ∷ codes "MAIN" ∷ []) ((Then (Literal 65) (Then (Plain Emit) Empty)) ∷ (Then (Literal 1) (Then (Plain Execute) (Then (Literal 0) (Then (Plain Execute) Empty)))) ∷ []) 1 16
    (record first_host { tokens = ticked.Entry (record { number = 0; known = known.Definition 0 }) ∷ [] }))
unfolding items_at bracket_at host_part_at source_at
executed = refl

ticked_address : program_of_text (codes "CREATE T 7 , ' T >BODY @ CONSTANT S : MAIN S ;") ≡
    Fine (program_with (codes "MAIN" ∷ []) ((Then (Literal 7) Empty) ∷ []) 0 14 (record { stack = []; space = space_with 8322 (7 ∷ []); tokens = ticked.Entry (record { number = 0; known = known.Address 8320 }) ∷ [] }))
unfolding items_at bracket_at host_part_at source_at
ticked_address = refl

ticked_unknown : program_of_text (codes "' DUP2") ≡ Refused 2 cause.UnknownWord
unfolding items_at host_part_at source_at
ticked_unknown = refl

ticked_execute : program_of_text (codes "' EXECUTE") ≡ Refused 2 cause.NeedsName
unfolding items_at host_part_at source_at
ticked_execute = refl

-- ---- defining words

array : program_of_text (codes ": ARRAY CREATE CELLS ALLOT DOES> SWAP CELLS + ; 4 ARRAY SQ : MAIN 0 SQ ;") ≡
    Fine (program_with (codes "ARRAY" ∷ codes "MAIN" ∷ []) ((Then (Plain Swap) (Then (Plain Cells) (Then (Plain Plus) Empty))) ∷ (Then (Literal 0) (Then (Child 0 8320) Empty)) ∷ []) 1 18
    (record { stack = []; space = record { data_start = 8192; cells = 10 ∷ 8288 ∷ 8328 ∷ [] }; tokens = [] }))
unfolding items_at bracket_at host_part_at source_at
array = refl

-- without DOES> it names an address
two_fields : program_of_text (codes ": FIELDS CREATE 1 , 2 , ; FIELDS P : MAIN P ;") ≡
    Fine (program_with (codes "MAIN" ∷ []) ((Then (Literal 8320) Empty) ∷ []) 0 14 (record { stack = []; space = space_with 8324 (1 ∷ 2 ∷ []); tokens = [] }))
unfolding items_at bracket_at host_part_at source_at
two_fields = refl

-- a host part is done where the word is used, behind its name
part_at_use : program_of_text (codes ": Y CREATE -1 ALLOT ; Y Z") ≡ Refused 7 cause.DataFull
unfolding items_at host_part_at source_at
part_at_use = refl

part_behind_name : program_of_text (codes ": Y CREATE -1 ALLOT ; Y ;") ≡ Refused 8 cause.NeedsName
unfolding items_at host_part_at source_at
part_behind_name = refl

defining_in_definition : program_of_text (codes ": Y CREATE ; : MAIN Y") ≡ Refused 7 cause.NotInDefinition
unfolding items_at host_part_at source_at
defining_in_definition = refl

recurse_in_part : program_of_text (codes ": X CREATE DOES> RECURSE ;") ≡ Refused 5 cause.NotInDefinition
unfolding items_at host_part_at source_at
recurse_in_part = refl

does_in_part : program_of_text (codes ": X CREATE DOES> DOES>") ≡ Refused 5 cause.NotInDefinition
unfolding items_at host_part_at source_at
does_in_part = refl

body_in_host_part : program_of_text (codes ": X CREATE >BODY") ≡ Refused 4 cause.NotInDefinition
unfolding items_at host_part_at source_at
body_in_host_part = refl

bracket_in_host_part : program_of_text (codes ": X CREATE ]") ≡ Refused 4 cause.NotInDefinition
unfolding items_at host_part_at source_at
bracket_in_host_part = refl

open_host_part : program_of_text (codes ": X CREATE 1") ≡ Refused 5 cause.OpenDefinition
unfolding items_at host_part_at source_at
open_host_part = refl

-- ---- where data space begins

-- comments may stand before it
cells_of_code : program_of_text (codes "( a) 3000 ( b) CODE-CELLS : MAIN ;") ≡
    Fine (program_with (codes "MAIN" ∷ []) (Empty ∷ []) 0 7 (record { stack = []; space = first_space 6000; tokens = [] }))
unfolding items_at bracket_at host_part_at source_at
cells_of_code = refl

few_cells : program_of_text (codes "1 CODE-CELLS") ≡ Refused 2 cause.BadSplit
unfolding items_at host_part_at source_at
few_cells = refl

late_cells : program_of_text (codes ": MAIN ; 3000 CODE-CELLS") ≡ Refused 5 cause.BadSplit
unfolding items_at host_part_at source_at
late_cells = refl

second_number : program_of_text (codes "1 3000 CODE-CELLS") ≡ Refused 3 cause.BadSplit
unfolding items_at host_part_at source_at
second_number = refl

no_cells : program_of_text (codes "CODE-CELLS") ≡ Refused 1 cause.HostUnderflow
unfolding items_at host_part_at source_at
no_cells = refl

-- ---- what can stand only in a definition

if_outside : program_of_text (codes "IF") ≡ Refused 1 cause.OnlyInDefinition
unfolding items_at host_part_at source_at
if_outside = refl

does_outside : program_of_text (codes "DOES>") ≡ Refused 1 cause.OnlyInDefinition
unfolding items_at host_part_at source_at
does_outside = refl

-- a string word reads its text first
text_outside : program_of_text (codes ".\" a\"") ≡ Refused 1 cause.OnlyInDefinition
unfolding items_at host_part_at source_at
text_outside = refl

open_text_outside : program_of_text (codes ".\" a") ≡ Refused 1 cause.OpenString
unfolding items_at host_part_at source_at
open_text_outside = refl

definition_outside : program_of_text (codes ": A ; A") ≡ Refused 4 cause.OnlyInDefinition
unfolding items_at host_part_at source_at
definition_outside = refl

number_outside : program_of_text (codes "65536") ≡ Refused 1 cause.NumberRange
unfolding items_at host_part_at source_at
number_outside = refl
