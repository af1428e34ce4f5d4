-- The items of a body, as plain trees. All that is said of the source's meaning is said over these.
use Rattle.std.specs.Prelude.{ℕ, Bool}
use Rattle.word_table.specs.declared.word.Word.{Word}
use Rattle.forth_program.specs.declared.item.TextKind.{TextKind}

mutual
  pub data Node : Type 0 where
    Literal : (value : ℕ) → Node
    -- a word of the table
    Plain : (word : Word) → Node
    Call : (definition : ℕ) → Node
    -- a child of a DOES> word: its data address, and then the code part
    Child : (definition address : ℕ) → Node
    -- a string word with the byte address and the size of its text
    Text : (kind : TextKind) (address size : ℕ) → Node
    -- the true branch and the false one
    If : (first second : Nodes) → Node
    -- BEGIN body UNTIL, and BEGIN test WHILE body REPEAT
    Until : (body : Nodes) → Node
    While : (test body : Nodes) → Node
    -- BEGIN body AGAIN
    Again : (body : Nodes) → Node
    -- DO body LOOP, or +LOOP where the flag is true
    Do : (body : Nodes) (plus : Bool) → Node
    -- the same by ?DO, which leaves the loop out where limit and start are equal
    QDo : (body : Nodes) (plus : Bool) → Node
    -- CASE with its arms, and then items and ENDCASE
    Case : (arms : Arms) (rest : Nodes) → Node
    Leave : Node
    Exit : Node

  pub data Nodes : Type 0 where
    Empty : Nodes
    Then : (node : Node) (rest : Nodes) → Nodes

  -- the arms of a CASE: each has tests, OF, a body and ENDOF
  pub data Arms : Type 0 where
    NoArm : Arms
    Arm : (tests body : Nodes) (others : Arms) → Arms

-- one list of items after another
abbrev pub joined : Nodes → Nodes → Nodes
joined Empty more = more
joined (Then node rest) more = Then node (joined rest more)
