-- What holds of each source text, and of the program of each.
use Rattle.std.specs.Prelude.{◌≡◌, ℕ, ◌+◌, ◌-◌, ◌/◌, ◌<◌, ◌≤◌, nat_lt, Bool, true, false, ◌&&◌, List, length}
use Rattle.std.specs.List.{All, list_all}
use Rattle.word_table.specs.declared.word.Vocabulary.{Vocabulary}
use Rattle.word_table.specs.declared.word.Word.{Word}
use Rattle.word_table.specs.declared.word.Word.TheVariants.{ToR, RFrom, RFetch, Index, OuterIndex, Unloop}
use Rattle.word_table.specs.Table.{entry_of}
use Rattle.forth_program.specs.Tree.{Node, Nodes, Literal, Plain, Call, Child, Text}
use Rattle.forth_program.specs.Form.{IsProgram, everywhere, calls_go_back, is_code_class, may_be_token, has_no_go}
use Rattle.forth_program.specs.Weight.{bodies_weight}
use Rattle.forth_program.specs.Program.{SourceProgram}
use Rattle.forth_program.specs.SourceTokens.{all_tokens}
use Rattle.control_flow.specs.ParseResult.{Fine, Endless, ◌>>=◌}
use Rattle.control_flow.specs.Ticks.{tokens_weight}
use Rattle.control_flow.specs.SourceText.{program_of_source, program_in, program_of_text}
use Rattle.control_flow.specs.Pieces.{source_in}

-- a text has a program or a first refusal, in each vocabulary
abbrev pub EachIsJudged : Type 0
EachIsJudged = (words : Vocabulary) (text : List ℕ) → program_in words text ≡ Endless → ⊥

-- the program of a text is that of what the text has come to at its end
abbrev pub EachEndsInItsSource : Type 0
EachEndsInItsSource = (words : Vocabulary) (text : List ℕ) → program_in words text ≡ (source_in words text >>= λ last. program_of_source last last.at)

-- inline and library words, and the six on return entries
abbrev pub is_plain : Word → Bool
is_plain ToR = true
is_plain RFrom = true
is_plain RFetch = true
is_plain Index = true
is_plain OuterIndex = true
is_plain Unloop = true
is_plain word = is_code_class (entry_of word).class

-- an item that is read, where there are so many definitions: numbers are cells, words are plain, calls and children lead to
-- definitions, and the addresses of children and texts and the length of a text are below 0x8000
abbrev pub is_read : ℕ → Node → Bool
is_read count (Literal value) = nat_lt value 0x10000
is_read count (Plain word) = is_plain word
is_read count (Call definition) = nat_lt definition count
is_read count (Child definition address) = nat_lt definition count && nat_lt address 0x8000
is_read count (Text kind address size) = nat_lt address 0x8000 && nat_lt size 0x8000
is_read count node = true

-- what an execution token stands for: a number that is a cell, a word that has a token, a definition or a child
abbrev pub is_read_token : ℕ → Node → Bool
is_read_token count (Literal value) = nat_lt value 0x10000
is_read_token count (Plain word) = may_be_token (Plain word)
is_read_token count (Call definition) = nat_lt definition count
is_read_token count (Child definition address) = nat_lt definition count && nat_lt address 0x8000
is_read_token count node = false

-- what a test says of every item of definitions, a wider test says too
abbrev pub TestsWiden : Type 0
TestsWiden =
    (narrow wide : Node → Bool) → ((node : Node) → narrow node ≡ true → wide node ≡ true) →
    (bodies : List Nodes) → list_all (everywhere narrow) bodies ≡ true → list_all (everywhere wide) bodies ≡ true

-- what holds of the program of a text, in each vocabulary
pub record IsSource (program : SourceProgram) : Type 0 where
  pub form : IsProgram program
  pub few : length program.bodies ≤ 512
  pub items : list_all (everywhere (is_read (length program.bodies))) program.bodies ≡ true
  pub token_items : list_all (is_read_token (length program.bodies)) program.tokens ≡ true
  pub light : bodies_weight program.bodies + tokens_weight program.tokens ≤ program.data_start / 2 - 1696
  pub counted : all_tokens program.bodies ≤ program.source_tokens
  pub bytes : All (λ byte. byte < 256) program.first_space
  -- each call leads to the definition in which it stands, or to one before it
  pub calls_back : calls_go_back 0 program.bodies ≡ true

abbrev pub EachProgramIsSource : Type 0
EachProgramIsSource = (words : Vocabulary) (text : List ℕ) (program : SourceProgram) → program_in words text ≡ Fine program → IsSource program

-- no program of a source has GO
abbrev pub SourcesHaveNoGo : Type 0
SourcesHaveNoGo = (text : List ℕ) (program : SourceProgram) → program_of_text text ≡ Fine program → has_no_go program ≡ true
