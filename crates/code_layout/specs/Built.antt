-- The programs that have an image.
use Rattle.std.specs.Prelude.{◌≡◌, ℕ, ◌/◌, ◌<◌, ◌≤◌, nat_lt, Bool, true, false, ◌&&◌, List, length, Option, Some, None}
use Rattle.std.specs.List.{list_all}
use Rattle.word_table.specs.declared.word.Word.{Word}
use Rattle.forth_program.specs.declared.item.TextKind.{TextKind}
use Rattle.forth_program.specs.declared.item.TextKind.TheVariants as text
use Rattle.forth_program.specs.Tree.{Node, Nodes, Literal, Plain, Call, Child, Text}
use Rattle.forth_program.specs.Program.{SourceProgram}
use Rattle.forth_program.specs.SourceTokens.{all_tokens}
use Rattle.forth_program.specs.Form.{everywhere, leaves_fit, may_be_token}
use Rattle.console_ports.specs.DataSpace.{IsDataStart}
use Rattle.word_laws.specs.Words.{stands_plain}
use Rattle.code_layout.specs.Layout.{Routine, Library, Executing, Leaving, routine_of, laid_out}

-- a word that is laid out: one of the first so many of the library, EXECUTE and GO if they are allowed, or an inline word or a word on
-- return entries
abbrev pub word_is_laid_out : Bool → ℕ → Option Routine → Word → Bool
word_is_laid_out executes words None word = stands_plain word
word_is_laid_out executes words (Some (Library number)) word = nat_lt number words
word_is_laid_out executes words (Some Executing) word = executes
word_is_laid_out executes words (Some Leaving) word = executes
word_is_laid_out executes words (Some routine) word = false

-- a text is printed by TYPE
abbrev pub text_is_laid_out : ℕ → TextKind → Bool
text_is_laid_out words text.Address = true
text_is_laid_out words kind = nat_lt 34 words

-- an item that is laid out, where there are so many library words and definitions, and where EXECUTE, GO and texts may stand or not: numbers are
-- cells, calls and children lead to definitions, and the addresses of children and texts and the length of a text are below 0x8000
abbrev pub is_laid_out : Bool → ℕ → ℕ → Node → Bool
is_laid_out executes words count (Literal value) = nat_lt value 0x10000
is_laid_out executes words count (Plain word) = word_is_laid_out executes words (routine_of word) word
is_laid_out executes words count (Call definition) = nat_lt definition count
is_laid_out executes words count (Child definition address) = nat_lt definition count && nat_lt address 0x8000
is_laid_out executes words count (Text kind address characters) = executes && text_is_laid_out words kind && nat_lt address 0x8000 && nat_lt characters 0x8000
is_laid_out executes words count node = true

-- a token that is laid out: a definition, a child, a number, or a word that is neither EXECUTE nor GO nor of class structure
abbrev pub token_is_laid_out : ℕ → ℕ → Node → Bool
token_is_laid_out words count (Literal value) = nat_lt value 0x10000
token_is_laid_out words count (Plain word) = may_be_token (Plain word) && is_laid_out false words count (Plain word)
token_is_laid_out words count (Call definition) = nat_lt definition count
token_is_laid_out words count (Child definition address) = nat_lt definition count && nat_lt address 0x8000
token_is_laid_out words count node = false

pub record IsBuilt (library : List Nodes) (p : SourceProgram) : Type 0 where
  pub has_main : p.main_body < length p.bodies
  pub items : list_all (everywhere (is_laid_out true (length library) (length p.bodies))) p.bodies ≡ true
  pub token_items : list_all (token_is_laid_out (length library) (length p.bodies)) p.tokens ≡ true
  pub leaves_in_loops : list_all (leaves_fit false) p.bodies ≡ true
  pub data_start : IsDataStart p.data_start
  pub code_fits : length (laid_out library p).cells ≤ p.data_start / 2
  pub tokens_counted : all_tokens p.bodies ≤ p.source_tokens
