-- The program of its parts.
use Rattle.std.specs.Prelude.{map}
use Rattle.forth_program.specs.declared.program.ProgramParts.{ProgramParts}
use Rattle.forth_program.specs.declared.program.Token.{Token}
use Rattle.forth_program.specs.declared.program.Token.TheVariants as token
use Rattle.forth_program.specs.Tree.{Node, Literal, Plain, Call, Child}
use Rattle.forth_program.specs.Program.{SourceProgram}
use Rattle.forth_program.specs.ItemTrees.{tree_of}

-- what EXECUTE does with a token, as an item
abbrev pub token_node : Token → Node
token_node (token.Def id) = Call id.0
token_node (token.Table word) = Plain word
token_node (token.Value value) = Literal value
token_node (token.Child id address) = Child id.0 address

-- the plain record that contracts see
abbrev pub program_of : ProgramParts → SourceProgram
program_of parts = record {
  names = parts.names.items;
  bodies = map tree_of (parts.bodies.items);
  main_body = parts.main.0;
  tokens = map token_node (parts.tokens.items);
  data_start = parts.data_start;
  first_space = parts.space.items;
  source_tokens = parts.source_tokens;
}
