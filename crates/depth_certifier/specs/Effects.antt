-- The effects of items.
use Rattle.std.specs.Prelude.{ℕ, ◌+◌, ◌-◌, max, Bool, true, false, List, ◌∷◌, Option, Some, None, ℤ, pos, ◌+ℤ◌, ◌-ℤ◌, slice_index_or}
use Rattle.word_table.specs.declared.word.Word.{Word}
use Rattle.word_table.specs.declared.word.Word.TheVariants.{ToR, RFrom, RFetch, Index, OuterIndex, Unloop, Execute}
use Rattle.word_table.specs.declared.word.Word.TheVariants as table
use Rattle.word_table.specs.Table.{entry_of}
use Rattle.forth_program.specs.declared.item.TextKind.{TextKind}
use Rattle.forth_program.specs.declared.item.TextKind.TheVariants as text
use Rattle.forth_program.specs.Tree.{Nodes, If, Exit, Empty, Then}
use Rattle.forth_program.specs.Form.{is_code_class}
use Rattle.forth_program.specs.Heights.{address_height}
use Rattle.depth_certifier.specs.declared.effect.Effect.{Effect}
pub use Rattle.depth_certifier.specs.declared.follow.Next.{Next}
pub use Rattle.depth_certifier.specs.declared.follow.Next.TheVariants.{Return, Flag, More}
use Rattle.depth_certifier.specs.Place.{OfCell, OfLoop, Shape}

-- what the table says
abbrev pub table_effect : Word → Effect
table_effect word = record { need = (entry_of word).need; peak = (entry_of word).peak; back = (entry_of word).back; exit = (entry_of word).exit }

-- an interval that is moved
abbrev pub moved_by : ℤ → Option (ℤ × ℤ) → Option (ℤ × ℤ)
moved_by n None = None
moved_by n (Some exit) = Some (exit.0 +ℤ n, exit.1 +ℤ n)

-- the effects of definitions, and the one that contains those of all execution tokens
pub record Known : Type 0 where
  pub definitions : List Effect
  pub shared : Effect

-- that of a definition without items
abbrev pub idle : Effect
idle = record { need = 0; peak = 0; back = 0; exit = Some (pos 0, pos 0) }

abbrev pub effect_of : Known → ℕ → Effect
effect_of known definition = slice_index_or known.definitions definition idle

-- ---- what follows an item: the end of the definition (it is in tail position), IF or WHILE, or more

-- what follows an item that stands before these, where the last of them is followed so
abbrev pub next_of : Next → Nodes → Next
next_of next Empty = next
next_of next (Then Exit rest) = Return
next_of next (Then (If first second) rest) = Flag
next_of next (Then node rest) = More

-- what follows the last item of a branch
abbrev pub branch_next : Next → Next
branch_next Return = Return
branch_next Flag = More
branch_next More = More

-- whether a call is a jump: it is in tail position
abbrev pub is_jump : Next → Bool
is_jump Return = true
is_jump Flag = false
is_jump More = false

abbrev pub called_effect : Next → Effect → Effect
called_effect next x = record { need = x.need; peak = x.peak; back = x.back + address_height (is_jump next); exit = x.exit }

-- ---- words

-- EXECUTE takes a token, and then does its word, by a call
abbrev pub execute_effect : Effect → Effect
execute_effect x = record {
  need = 1 + x.need;
  peak = max (entry_of Execute).peak (x.peak - 1);
  back = max (entry_of Execute).back (1 + x.back);
  exit = moved_by (pos 0 -ℤ pos 1) x.exit;
}

abbrev pub word_effect : Effect → Word → Effect
word_effect shared Execute = execute_effect shared
word_effect shared word = table_effect word

-- inline and library words keep the entries, and no other words stand in a body
abbrev pub kept_by : Bool → Shape → Option Shape
kept_by true shape = Some shape
kept_by false shape = None

-- what a word does to the return entries, if they are those that it asks for
abbrev pub shape_after : Word → Shape → Option Shape
shape_after ToR shape = Some (OfCell ∷ shape)
shape_after RFrom (OfCell ∷ shape) = Some shape
shape_after RFrom shape = None
shape_after RFetch (OfCell ∷ shape) = Some (OfCell ∷ shape)
shape_after RFetch shape = None
shape_after Index (OfLoop ∷ shape) = Some (OfLoop ∷ shape)
shape_after Index shape = None
shape_after OuterIndex (OfLoop ∷ OfLoop ∷ shape) = Some (OfLoop ∷ OfLoop ∷ shape)
shape_after OuterIndex shape = None
shape_after Unloop (OfLoop ∷ shape) = Some shape
shape_after Unloop shape = None
shape_after word shape = kept_by (is_code_class (entry_of word).class) shape

abbrev pub keep : Shape → Option Shape
keep shape = Some shape

abbrev pub push_loop : Shape → Option Shape
push_loop shape = Some (OfLoop ∷ shape)

-- the string words
abbrev pub text_word : TextKind → Word
text_word text.Address = table.SQuote
text_word text.Print = table.DotQuote
text_word text.Abort = table.AbortQuote

abbrev pub turn_word : Bool → Word
turn_word false = table.Loop
turn_word true = table.PlusLoop

-- OF takes two cells where they are equal, and else one
abbrev pub of_effect : ℤ → Effect
of_effect change = record { need = (entry_of table.Of).need; peak = (entry_of table.Of).peak; back = (entry_of table.Of).back; exit = Some (change, change) }

-- ---- execution tokens

-- a child is a literal and then a call
abbrev pub child_effect : Effect → Effect
child_effect x = record { need = x.need - 1; peak = x.peak + 1; back = x.back + 1; exit = moved_by (pos 1) x.exit }
