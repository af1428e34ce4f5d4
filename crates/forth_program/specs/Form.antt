-- What holds of each program.
use Rattle.std.specs.Prelude.{◌≡◌, ℕ, suc, ◌-◌, ◌<◌, ◌≤◌, nat_lt, Bool, true, false, ◌&&◌, List, [], ◌∷◌, length, IsTrue}
use Rattle.std.specs.List.{list_all}
use Rattle.word_table.specs.declared.word.Word.TheVariants.{ToR, RFrom, RFetch, Index, OuterIndex, Unloop, Execute, Go}
use Rattle.word_table.specs.declared.word.Class.{Class}
use Rattle.word_table.specs.declared.word.Class.TheVariants as class
use Rattle.word_table.specs.Table.{entry_of}
use Rattle.forth_program.specs.Tree.{Node, Nodes, Arms, Literal, Plain, Call, Child, If, Until, While, Again, Do, QDo, Case, Leave, Empty, Then, NoArm, Arm}
use Rattle.forth_program.specs.Program.{SourceProgram}
use Rattle.console_ports.specs.DataSpace.{IsDataStart}

-- whether a test holds of every item, also in structures
abbrev mutual
  pub everywhere : (Node → Bool) → Nodes → Bool
  everywhere test Empty = true
  everywhere test (Then node rest) = test node && inside test node && everywhere test rest

  pub inside : (Node → Bool) → Node → Bool
  inside test (If first second) = everywhere test first && everywhere test second
  inside test (Until body) = everywhere test body
  inside test (While first second) = everywhere test first && everywhere test second
  inside test (Again body) = everywhere test body
  inside test (Do body plus) = everywhere test body
  inside test (QDo body plus) = everywhere test body
  inside test (Case arms rest) = in_arms test arms && everywhere test rest
  inside test node = true

  pub in_arms : (Node → Bool) → Arms → Bool
  in_arms test NoArm = true
  in_arms test (Arm tests body others) = everywhere test tests && everywhere test body && in_arms test others

-- whether the definition that an item names is one of so many
abbrev pub has_id_below : ℕ → Node → Bool
has_id_below count (Call definition) = nat_lt definition count
has_id_below count (Child definition address) = nat_lt definition count
has_id_below count node = true

-- each call leads to the definition in which it stands, or to one before it; these definitions are those from a number on
abbrev pub calls_go_back : ℕ → List Nodes → Bool
calls_go_back definition [] = true
calls_go_back definition (body ∷ bodies) = everywhere (has_id_below (suc definition)) body && calls_go_back (suc definition) bodies

-- inline and library words
abbrev pub is_code_class : Class → Bool
is_code_class class.Inline = true
is_code_class class.Library = true
is_code_class kind = false

-- an item's word is inline or library, or works on return entries
abbrev pub may_stand : Node → Bool
may_stand (Plain ToR) = true
may_stand (Plain RFrom) = true
may_stand (Plain RFetch) = true
may_stand (Plain Index) = true
may_stand (Plain OuterIndex) = true
may_stand (Plain Unloop) = true
may_stand (Plain word) = is_code_class ((entry_of word).class)
may_stand node = true

-- a token stands for a definition, a child, a number, or a word that is inline or library, and neither EXECUTE nor GO
abbrev pub may_be_token : Node → Bool
may_be_token (Plain Execute) = false
may_be_token (Plain Go) = false
may_be_token (Plain word) = is_code_class ((entry_of word).class)
may_be_token (Literal value) = true
may_be_token (Call definition) = true
may_be_token (Child definition address) = true
may_be_token node = false

-- an item that is not GO
abbrev pub is_not_go : Node → Bool
is_not_go (Plain Go) = false
is_not_go node = true

-- no body has GO: so it is with the programs of sources
abbrev pub has_no_go : SourceProgram → Bool
has_no_go p = list_all (everywhere is_not_go) p.bodies

-- whether each LEAVE stands inside a DO or a ?DO, where these items stand inside one or not
abbrev mutual
  pub leaves_fit : Bool → Nodes → Bool
  leaves_fit in_do Empty = true
  leaves_fit in_do (Then node rest) = leave_fits in_do node && leaves_fit in_do rest

  pub leave_fits : Bool → Node → Bool
  leave_fits in_do Leave = in_do
  leave_fits in_do (If first second) = leaves_fit in_do first && leaves_fit in_do second
  leave_fits in_do (Until body) = leaves_fit in_do body
  leave_fits in_do (While first second) = leaves_fit in_do first && leaves_fit in_do second
  leave_fits in_do (Again body) = leaves_fit in_do body
  leave_fits in_do (Do body plus) = leaves_fit true body
  leave_fits in_do (QDo body plus) = leaves_fit true body
  leave_fits in_do (Case arms rest) = arms_fit in_do arms && leaves_fit in_do rest
  leave_fits in_do node = true

  pub arms_fit : Bool → Arms → Bool
  arms_fit in_do NoArm = true
  arms_fit in_do (Arm tests body others) = leaves_fit in_do tests && leaves_fit in_do body && arms_fit in_do others

-- the condition on the parts of a program
pub record IsProgram (p : SourceProgram) : Type 0 where
  pub named : length p.names ≡ length p.bodies
  pub few_bodies : length p.bodies ≤ 65535
  pub few_tokens : length p.tokens ≤ 65535
  -- so there is at least one body
  pub main_in_range : p.main_body < length p.bodies
  pub ids_in_range : IsTrue (list_all (everywhere (has_id_below (length p.bodies))) p.bodies)
  pub token_ids_in_range : IsTrue (list_all (has_id_below (length p.bodies)) p.tokens)
  pub leaves_in_loops : IsTrue (list_all (leaves_fit false) p.bodies)
  pub words_allowed : IsTrue (list_all (everywhere may_stand) p.bodies)
  pub tokens_allowed : IsTrue (list_all may_be_token p.tokens)
  pub data_start : IsDataStart p.data_start
  pub space_fits : length p.first_space ≤ 0x4000 - p.data_start
