-- Rows of tests by computation: each row is a Bool, and of a list of rows the numbers of those that fail are told, from 0.
use Rattle.std.specs.Prelude.{ℕ, ◌+◌, ◌==◌, ◌&&◌, Bool, true, false, List, [], ◌∷◌, ◌++◌, take, slice_set, Option, Some, None}
use Rattle.cell_math.specs.Bytes.{cells_of_bytes, filled}
use Rattle.forth_program.specs.Tree.{Node, Nodes, Empty, Then}
use Rattle.forth_program.specs.State.{Entry, Cell, Loop, Todo, State, Access, Stored, Took, End, Halted, InputEnded, Outside, Underflow, Unbalanced, Left, Outcome, Goes, Ends}
use Rattle.forth_program.specs.Program.{SourceProgram}
use Rattle.forth_program.specs.Step.{step}
use Rattle.forth_program.specs.Run.{source_run, world_of, end_of}
use Rattle.forth_program.specs.Price.{step_price, price}

abbrev pub failing_from : ℕ → List Bool → List ℕ
failing_from n [] = []
failing_from n (true ∷ rest) = failing_from (n + 1) rest
failing_from n (false ∷ rest) = n ∷ failing_from (n + 1) rest

abbrev pub failing : List Bool → List ℕ
failing rows = failing_from 0 rows

-- ---- what is compared, as lists of numbers

abbrev pub same : List ℕ → List ℕ → Bool
same [] [] = true
same (x ∷ xs) (y ∷ ys) = (x == y) && same xs ys
same xs ys = false

abbrev entries_code : List Entry → List ℕ
entries_code [] = []
entries_code (Cell x ∷ entries) = 1 ∷ x ∷ entries_code entries
entries_code (Loop limit index ∷ entries) = 2 ∷ limit ∷ index ∷ entries_code entries

abbrev made_code : List Access → List ℕ
made_code [] = []
made_code (Stored address cell ∷ made) = 1 ∷ address ∷ cell ∷ made_code made
made_code (Took byte ∷ made) = 2 ∷ byte ∷ made_code made

abbrev end_code : Option End → List ℕ
end_code None = []
end_code (Some (Halted status)) = 1 ∷ status ∷ []
end_code (Some InputEnded) = 2 ∷ []
end_code (Some (Outside address)) = 3 ∷ address ∷ []
end_code (Some Underflow) = 4 ∷ []
end_code (Some Unbalanced) = 5 ∷ []
end_code (Some (Left address)) = 6 ∷ address ∷ []

-- an end leaves no cells and no entries to look at
abbrev cells_after : Outcome → List ℕ
cells_after (Goes s) = s.cells
cells_after (Ends end w) = []

abbrev entries_after : Outcome → List Entry
entries_after (Goes s) = s.entries
entries_after (Ends end w) = []

-- bytes with some of them written, each by its place
abbrev written : List (ℕ × ℕ) → List ℕ → List ℕ
written [] space = space
written (write ∷ writes) space = written writes (slice_set space write.0 write.1)

-- ---- one step of one item

-- the fixed cells of a source with no data, and 32 bytes behind HERE, of the 200 that are looked at; data space begins at 8192
abbrev first_cells : List ℕ
first_cells = 10 ∷ 0 ∷ 96 ∷ 32 ∷ 128 ∷ 32 ∷ []

abbrev some_bytes : List ℕ
some_bytes =
    131 ∷ 138 ∷ 145 ∷ 152 ∷ 159 ∷ 166 ∷ 173 ∷ 180 ∷ 187 ∷ 194 ∷ 201 ∷ 208 ∷ 215 ∷ 222 ∷ 229 ∷ 236
    ∷ 243 ∷ 250 ∷ 1 ∷ 8 ∷ 15 ∷ 22 ∷ 29 ∷ 36 ∷ 43 ∷ 50 ∷ 57 ∷ 64 ∷ 71 ∷ 78 ∷ 85 ∷ 92 ∷ []

abbrev space_before : List (ℕ × ℕ) → List ℕ
space_before writes = written writes (filled 200 (filled 128 first_cells ++ some_bytes))

abbrev no_program : SourceProgram
no_program = record { names = []; bodies = []; main_body = 0; tokens = []; data_start = 8192; first_space = []; source_tokens = 0 }

abbrev state_before : Node → List ℕ → List Entry → List (ℕ × ℕ) → List ℕ → State
state_before node cells entries writes input = record {
  work = Todo node ∷ [];
  entries = entries;
  callers = [];
  cells = cells;
  world = record { data_start = 8192; space = cells_of_bytes (space_before writes); input = input; printed = []; made = [] };
}

-- An item, and before its step: the cells (the top first), the return entries (the newest first), bytes written into data
-- space, and the input. After it: the end, if it brought one, the cells, the entries, bytes written, the input left, what was
-- printed, and the accesses (the last first). At the end the price of the step.
abbrev pub vector : Node → List ℕ → List Entry → List (ℕ × ℕ) → List ℕ → Option End → List ℕ → List Entry → List (ℕ × ℕ) → List ℕ → List ℕ → List Access → ℕ → Bool
vector node cells entries writes input end cells' entries' writes' left printed made price =
    let s : State = state_before node cells entries writes input in
    let o : Outcome = step no_program s in
    same (end_code (end_of o)) (end_code end) && same (cells_after o) cells' && same (entries_code (entries_after o)) (entries_code entries')
    && same ((world_of o).space) (cells_of_bytes (written writes' (space_before writes))) && same ((world_of o).input) left
    && same ((world_of o).printed) printed && same (made_code ((world_of o).made)) (made_code made) && step_price s == price

-- nothing but the cells changes: they are given before and after
abbrev pub gives : Node → List ℕ → List ℕ → ℕ → Bool
gives node cells cells' price = vector node cells [] [] [] None cells' [] [] [] [] [] price

-- with this input the run ends, and nothing changes
abbrev pub stops : Node → List ℕ → List ℕ → End → ℕ → Bool
stops node cells input end price = vector node cells [] [] input (Some end) [] [] [] input [] [] price

-- cells and return entries before, and after
abbrev pub moves : Node → List ℕ → List Entry → List ℕ → List Entry → ℕ → Bool
moves node cells entries cells' entries' price = vector node cells entries [] [] None cells' entries' [] [] [] [] price

-- with these return entries the run ends, and nothing changes
abbrev pub jams : Node → List ℕ → List Entry → End → ℕ → Bool
jams node cells entries end price = vector node cells entries [] [] (Some end) [] [] [] [] [] [] price

-- ---- programs

abbrev pub body : List Node → Nodes
body [] = Empty
body (node ∷ nodes) = Then node (body nodes)

-- the bodies, the number of MAIN's, the tokens from 1 on, and data space as it begins
abbrev pub program : List Nodes → ℕ → List Node → List ℕ → SourceProgram
program bodies main tokens space = record { names = []; bodies = bodies; main_body = main; tokens = tokens; data_start = 8192; first_space = space; source_tokens = 0 }

-- one definition, and no data
abbrev pub main : List Node → SourceProgram
main nodes = program (body nodes ∷ []) 0 [] first_cells

-- data space with HERE at 8192 and this many bytes more, and with these bytes from 8320 on
abbrev pub with_data : ℕ → List ℕ → List ℕ
with_data here bytes = filled 128 (10 ∷ 0 ∷ 96 ∷ 32 ∷ here ∷ 32 ∷ []) ++ bytes

-- A program, its input and a number of word steps; and after them the end, if there was one, what was printed, the input left,
-- bytes written among the first 256 of data space, and the price of the run.
abbrev pub ran : SourceProgram → List ℕ → ℕ → Option End → List ℕ → List ℕ → List (ℕ × ℕ) → ℕ → Bool
ran p input count end printed left writes spent =
    let o : Outcome = source_run p input count in
    same (end_code (end_of o)) (end_code end) && same ((world_of o).printed) printed && same ((world_of o).input) left
    && same (take 128 ((world_of o).space)) (cells_of_bytes (written writes (take 256 (filled 256 p.first_space)))) && price p input count == spent
