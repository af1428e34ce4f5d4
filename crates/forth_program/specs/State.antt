-- The state of a source run: frames, data cells and the world, all of them unbounded lists.
use Rattle.std.specs.Prelude.{ℕ, List, Bool}
use Rattle.forth_program.specs.Tree.{Node, Nodes, Arms}

-- an entry of a frame's return stack: one cell, or one loop with its limit and its index
-- (the return stack and loop-sys of ANS Forth)
pub data Entry : Type 0 where
  Cell : (value : ℕ) → Entry
  Loop : (limit index : ℕ) → Entry

-- what a frame still has to do: an item, or one of nine marks, each with the loop or the case that it belongs to
pub data Work : Type 0 where
  Todo : (node : Node) → Work
  -- the end of a true branch, which a false branch follows
  TrueEnd : Work
  UntilTest : (body : Nodes) → Work
  WhileTest : (test body : Nodes) → Work
  Repeat : (test body : Nodes) → Work
  BeginAgain : (body : Nodes) → Work
  -- the turn of a DO loop, which ends by +LOOP where the flag is true
  Turn : (body : Nodes) (plus : Bool) → Work
  -- OF with its body and the rest of its case
  OfTest : (body : Nodes) (others : Arms) (rest : Nodes) → Work
  EndOf : Work
  EndCase : Work

-- a definition that was called: its work, the next first, and its return entries, the newest first
pub record Frame : Type 0 where
  pub work : List Work
  pub entries : List Entry

-- an access that was made and that did not end the run: a store with its address without bit 0, or an input byte
-- that was taken
pub data Access : Type 0 where
  Stored : (address cell : ℕ) → Access
  Took : (byte : ℕ) → Access

-- what words change beside the stacks: the cells of data space (cell i has the byte address data_start + 2 * i),
-- the input bytes left, the bytes printed, and the accesses made so far, the newest first
pub record World : Type 0 where
  pub data_start : ℕ
  pub space : List ℕ
  pub input : List ℕ
  pub printed : List ℕ
  pub made : List Access

-- the newest frame's work and return entries, the frames below it, the newest first, the data cells with the top
-- first, and the world
pub record State : Type 0 where
  pub work : List Work
  pub entries : List Entry
  pub callers : List Frame
  pub cells : List ℕ
  pub world : World

-- how a run ends
pub data End : Type 0 where
  Halted : (status : ℕ) → End
  -- an input byte was due and none was left
  InputEnded : End
  -- an access behind the fence, by its address without bit 0
  Outside : (address : ℕ) → End
  -- a word found too few data cells
  Underflow : End
  -- a word found other return entries than it needs, or a body ended with entries left
  Unbalanced : End
  -- GO has called the code at an address, which is not the source's
  Left : (address : ℕ) → End

-- where something leads: to a value and the world after it, or to the end of the run
pub data Reply (A : Type 0) : Type 0 where
  Gives : (value : A) (world : World) → Reply A
  Stops : (end : End) (world : World) → Reply A

-- one thing and then the next, where the first does not end the run
infixr 1 ◌▸◌
abbrev pub ◌▸◌ : {A B : Type 0} → Reply A → (A → World → Reply B) → Reply B
Gives value world ▸ next = next value world
Stops end world ▸ next = Stops end world

-- where a step leads: on from a state, or to the end of the run
pub data Outcome : Type 0 where
  Goes : (state : State) → Outcome
  Ends : (end : End) (world : World) → Outcome
