-- The reply to a line: runs of the kernel's definition REPLY in a small data space.
use Rattle.std.specs.Prelude.{◌≡◌, ℕ, List, [], ◌∷◌, ◌++◌, Option, Some, codes, slice_get}
use Rattle.cell_math.specs.Bytes.{cells_of_bytes, filled}
use Rattle.forth_program.specs.State.{World, State}
use Rattle.forth_program.specs.Program.{SourceProgram, body_of}
use Rattle.forth_program.specs.Step.{before}
use Rattle.forth_program.specs.Run.{steps, world_of}

-- the definition REPLY is the 110th of the kernel
abbrev pub reply_place : ℕ
reply_place = 109

-- data space from 8192 on: BASE, the hold pointer and HERE; at 8406 the word read last; at 8490 why the rest of the line is dropped; at 8502 that
-- there are three user cells; and from 9182 on the kernel's texts
abbrev pub space_with : ℕ → List ℕ
space_with cause =
    cells_of_bytes
    (filled 214 (10 ∷ 0 ∷ 96 ∷ 32 ∷ 82 ∷ 41 ∷ []) ++ filled 84 (5 ∷ codes "XYZZY") ++ filled 12 (cause ∷ []) ++ filled 680 (3 ∷ [])
    ++ codes " ? stack ?line too long ? full ? ok")

-- REPLY is run in that data space, with no cells on the stack
abbrev pub replying : SourceProgram → ℕ → State
replying p cause = record {
  work = before (body_of p reply_place) [];
  entries = [];
  callers = [];
  cells = [];
  world = record { data_start = 8192; space = space_with cause; input = []; printed = []; made = [] };
}

abbrev pub replied : SourceProgram → ℕ → World
replied p cause = world_of (steps p 400 (replying p cause))

-- how many user cells there are
abbrev pub user_cells : World → Option ℕ
user_cells w = slice_get w.space 155

-- by the cause for which the rest of the line was dropped: none, an unknown word, and the stack
pub record Replies (p : SourceProgram) : Type 0 where
  pub well : (replied p 0).printed ≡ codes " ok" ++ 10 ∷ []
  pub kept : user_cells (replied p 0) ≡ Some 3
  pub unknown : (replied p 1).printed ≡ codes "XYZZY ?" ++ 10 ∷ []
  pub dropped : user_cells (replied p 1) ≡ Some 0
  pub lacking : (replied p 4).printed ≡ codes "XYZZY stack ?" ++ 10 ∷ []
