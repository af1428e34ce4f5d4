-- Which programs keep their return entries level: wherever a loop turns, there are as many entries as where it began.
-- Heights are numbers of entries of a frame; nothing stands for a place that is not reached.
use Rattle.std.specs.Prelude.{◌≡◌, ℕ, suc, Bool, true, false, Option, Some, None}
use Rattle.word_table.specs.declared.word.Word.{Word}
use Rattle.word_table.specs.declared.word.Word.TheVariants.{ToR, RFrom, Unloop, AbortRun, Quit, Execute}
use Rattle.forth_program.specs.Tree.{Node, Nodes, Arms, Plain, Call, Child, If, Until, While, Again, Do, QDo, Case, Leave, Exit, Empty, Then, NoArm, Arm}
use Rattle.forth_program.specs.Program.{SourceProgram, body_of}

abbrev pub Height : Type 0
Height = Option ℕ

-- the same height, one more, and one less
abbrev pub Same : Height → Height → Type 0
Same None after = Unit {0}
Same (Some n) after = after ≡ Some n

abbrev pub raised : Height → Height
raised None = None
raised (Some n) = Some (suc n)

abbrev pub Lowers : Height → Height → Type 0
Lowers (Some (suc n)) after = after ≡ Some n
Lowers height after = Unit {0}

-- a word; EXECUTE is refused, and ABORT and QUIT end the run
abbrev pub WordLevel : Word → Height → Height → Type 0
WordLevel ToR before after = Same (raised before) after
WordLevel RFrom before after = Lowers before after
WordLevel Unloop before after = Lowers before after
WordLevel AbortRun before after = Unit {0}
WordLevel Quit before after = Unit {0}
WordLevel Execute before after = Unit {0}
WordLevel word before after = Same before after

-- a call of a definition that comes back, and of one that does not
abbrev pub CallLevel : Bool → Height → Height → Type 0
CallLevel true before after = Same before after
CallLevel false before after = Unit {0}

-- the end of a body is reached only where the definition comes back
abbrev pub EndLevel : Bool → Height → Type 0
EndLevel comes_back None = Unit {0}
EndLevel comes_back (Some n) = comes_back ≡ true

-- the same height, where both are reached
abbrev pub Alike : Height → Height → Type 0
Alike (Some n) (Some m) = m ≡ n
Alike before after = Unit {0}

-- the end of a loop's content: the loop turns at the height of its head
abbrev pub TurnLevel : Height → Height → Height → Type 0
TurnLevel before None after = Alike before after
TurnLevel before (Some n) after = (raised before ≡ Some n) × Same before after

module _ (comes_back : ℕ → Bool) (own : ℕ) where
  -- items lead from one height to another, and each LEAVE of the loop around them to the height `out`. BEGIN is refused
  abbrev mutual
    pub NodeLevel : Height → Node → Height → Height → Type 0
    NodeLevel out (Plain word) before after = WordLevel word before after
    NodeLevel out (Call definition) before after = CallLevel (comes_back definition) before after
    NodeLevel out (Child definition address) before after = CallLevel (comes_back definition) before after
    NodeLevel out (If first second) before after = Level out first before after × Level out second before after
    NodeLevel out (Do body plus) before after = (end : Height) × Level after body (raised before) end × TurnLevel before end after
    NodeLevel out (QDo body plus) before after = (end : Height) × Level after body (raised before) end × TurnLevel before end after × Same before after
    NodeLevel out (Case arms rest) before after = ArmsLevel out arms (λ height. Level out rest height after) before after
    NodeLevel out (Until body) before after = Unit {0}
    NodeLevel out (While test body) before after = Unit {0}
    NodeLevel out (Again body) before after = Unit {0}
    NodeLevel out Leave before after = Lowers before out
    NodeLevel out Exit before after = EndLevel (comes_back own) before
    NodeLevel out node before after = Same before after

    pub Level : Height → Nodes → Height → Height → Type 0
    Level out Empty before after = Same before after
    Level out (Then node rest) before after = (middle : Height) × NodeLevel out node before middle × Level out rest middle after

    -- and then the last items from a height
    pub ArmsLevel : Height → Arms → (Height → Type 0) → Height → Height → Type 0
    ArmsLevel out NoArm Last before after = Last before
    ArmsLevel out (Arm tests body others) Last before after =
        (middle : Height) × Level out tests before middle × Level out body middle after × ArmsLevel out others Last middle after

  -- a body begins with no entries, and a LEAVE stands in a loop
  abbrev pub BodyLevel : Nodes → Type 0
  BodyLevel body = (after : Height) × Level None body (Some 0) after × EndLevel (comes_back own) after

-- so it is in each definition of a program, where these come back
abbrev pub LevelProgram : SourceProgram → (ℕ → Bool) → Type 0
LevelProgram p comes_back = (d : ℕ) → BodyLevel comes_back d (body_of p d)
