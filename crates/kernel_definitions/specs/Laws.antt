-- What each of the kernel's words of definitions stores, one cell after the other; it takes and leaves these cells, prints nothing and
-- takes no input.
use Rattle.std.specs.Prelude.{◌≡◌, ℕ, suc, ◌+◌, ◌-◌, ◌/◌, ◌≤◌, ◌<◌, List, [], ◌∷◌, ◌++◌}
use Rattle.forth_program.specs.State.{World}
use Rattle.forth_program.specs.Program.{SourceProgram}
use Rattle.kernel_words.specs.Places.{here_cell, latest_cell}
use Rattle.kernel_words.specs.Running.{Returns}
use Rattle.kernel_words.specs.Memory.{IsDataSpace, data_cell}
use Rattle.kernel_lines.specs.Places.{state_cell, new_cell, open_count_cell}
use Rattle.kernel_definitions.specs.Bodies.{HasDefiningWords, compile_literal_body, compile_call_body, compile_return_body}
use Rattle.kernel_definitions.specs.Bodies.{compile_jump_body, compile_branch_body, patch_body, open_body, close_body}
use Rattle.kernel_definitions.specs.Bodies.{kernel_if_body, kernel_then_body, kernel_else_body, kernel_begin_body, kernel_until_body}
use Rattle.kernel_definitions.specs.Bodies.{kernel_while_body, kernel_repeat_body, kernel_semicolon_body}
use Rattle.kernel_definitions.specs.Stores.{stored, laid, entry, opened, closed, HasRoom, MayOpen, IsNewest, IsPatched}

-- COMPILE-LITERAL ( x -- ) lays a literal
abbrev pub SmallNumbersAreLaid : Type 0
SmallNumbersAreLaid =
    (p : SourceProgram) (x h : ℕ) (c : List ℕ) (w : World) → HasDefiningWords p → HasRoom w h 2 → x < 32768 →
    Returns p compile_literal_body 9 58 (x ∷ c) w c (stored (laid h (32768 + x)) w)

-- or, for a number from 32768 on, its complement as a literal, and INVERT
abbrev pub LargeNumbersAreLaid : Type 0
LargeNumbersAreLaid =
    (p : SourceProgram) (x h : ℕ) (c : List ℕ) (w : World) → HasDefiningWords p → HasRoom w h 4 → 32768 ≤ x → x < 65536 →
    Returns p compile_literal_body 15 112 (x ∷ c) w c (stored (laid (h + 2) 26112 ++ laid h (98303 - x)) w)

-- COMPILE-CALL ( xt -- ) lays a call
abbrev pub CallsAreLaid : Type 0
CallsAreLaid =
    (p : SourceProgram) (a h : ℕ) (c : List ℕ) (w : World) → HasDefiningWords p → HasRoom w h 2 → a < 65536 →
    Returns p compile_call_body 8 57 (a ∷ c) w c (stored (laid h (16384 + a / 2)) w)

-- COMPILE-RETURN ( -- ) lays a return
abbrev pub ReturnsAreLaid : Type 0
ReturnsAreLaid =
    (p : SourceProgram) (h : ℕ) (c : List ℕ) (w : World) → HasDefiningWords p → HasRoom w h 2 →
    Returns p compile_return_body 5 53 c w c (stored (laid h 28684) w)

-- COMPILE-JUMP ( a -- ) lays a jump
abbrev pub JumpsAreLaid : Type 0
JumpsAreLaid =
    (p : SourceProgram) (a h : ℕ) (c : List ℕ) (w : World) → HasDefiningWords p → HasRoom w h 2 → a < 65536 →
    Returns p compile_jump_body 6 54 (a ∷ c) w c (stored (laid h (a / 2)) w)

-- COMPILE-BRANCH ( a -- ) lays a branch
abbrev pub BranchesAreLaid : Type 0
BranchesAreLaid =
    (p : SourceProgram) (a h : ℕ) (c : List ℕ) (w : World) → HasDefiningWords p → HasRoom w h 2 → a < 65536 →
    Returns p compile_branch_body 8 57 (a ∷ c) w c (stored (laid h (8192 + a / 2)) w)

-- PATCH ( place -- ) leads the cell at a place to HERE
abbrev pub PlacesArePatched : Type 0
PlacesArePatched =
    (p : SourceProgram) (place x h : ℕ) (c : List ℕ) (w : World) → HasDefiningWords p → IsDataSpace w → data_cell w here_cell ≡ h →
    8192 ≤ place → place < 16384 → data_cell w place ≡ x → x + h / 2 < 65536 →
    Returns p patch_body 6 31 (place ∷ c) w c (stored ((place, x + h / 2) ∷ []) w)

-- OPEN ( place kind -- ) makes an entry the newest
abbrev pub EntriesAreOpened : Type 0
EntriesAreOpened =
    (p : SourceProgram) (n kind place header : ℕ) (c : List ℕ) (w : World) → HasDefiningWords p → IsDataSpace w → MayOpen w n →
    data_cell w new_cell ≡ suc header → kind < 65536 → place < 65536 →
    Returns p open_body 22 73 (kind ∷ place ∷ c) w c (stored (opened n kind place) w)

-- CLOSE ( kind -- place ) takes the newest entry off, where it has that kind
abbrev pub EntriesAreClosed : Type 0
EntriesAreClosed =
    (p : SourceProgram) (n kind place : ℕ) (c : List ℕ) (w : World) → HasDefiningWords p → IsDataSpace w → IsNewest w n kind place →
    Returns p close_body 20 68 (kind ∷ c) w (place ∷ c) (stored (closed n) w)

-- IF lays a branch, and opens an entry with its place
abbrev pub IfsAreCompiled : Type 0
IfsAreCompiled =
    (p : SourceProgram) (n h header : ℕ) (c : List ℕ) (w : World) → HasDefiningWords p → HasRoom w h 2 → MayOpen w n →
    data_cell w new_cell ≡ suc header →
    Returns p kernel_if_body 30 131 c w c (stored (laid h 8192 ++ opened n 1 h) w)

-- THEN closes that entry, and leads the cell to HERE
abbrev pub ThensAreCompiled : Type 0
ThensAreCompiled =
    (p : SourceProgram) (n place x h : ℕ) (c : List ℕ) (w : World) → HasDefiningWords p → HasRoom w h 0 → IsNewest w n 1 place →
    IsPatched w place x h →
    Returns p kernel_then_body 30 104 c w c (stored ((place, x + h / 2) ∷ closed n) w)

-- ELSE closes it, opens one with the place of a jump that it lays, and leads the cell of the IF behind that jump
abbrev pub ElsesAreCompiled : Type 0
ElsesAreCompiled =
    (p : SourceProgram) (n place x h header : ℕ) (c : List ℕ) (w : World) → HasDefiningWords p → HasRoom w h 2 → IsNewest w n 1 place →
    data_cell w new_cell ≡ suc header → IsPatched w place x (h + 2) → place + 2 ≤ h →
    Returns p kernel_else_body 59 234 c w c (stored ((place, x + (h + 2) / 2) ∷ (laid h 0 ++ opened n 1 h ++ closed n)) w)

-- BEGIN opens an entry with HERE
abbrev pub BeginsAreCompiled : Type 0
BeginsAreCompiled =
    (p : SourceProgram) (n h header : ℕ) (c : List ℕ) (w : World) → HasDefiningWords p → HasRoom w h 0 → MayOpen w n →
    data_cell w new_cell ≡ suc header →
    Returns p kernel_begin_body 26 79 c w c (stored (opened n 2 h) w)

-- UNTIL closes it, and lays a branch back
abbrev pub UntilsAreCompiled : Type 0
UntilsAreCompiled =
    (p : SourceProgram) (n place h : ℕ) (c : List ℕ) (w : World) → HasDefiningWords p → HasRoom w h 2 → IsNewest w n 2 place →
    place < 65536 →
    Returns p kernel_until_body 32 130 c w c (stored (laid h (8192 + place / 2) ++ closed n) w)

-- WHILE lays a branch, and opens an entry with its place below that of BEGIN
abbrev pub WhilesAreCompiled : Type 0
WhilesAreCompiled =
    (p : SourceProgram) (n place h header : ℕ) (c : List ℕ) (w : World) → HasDefiningWords p → HasRoom w h 2 → IsNewest w n 2 place →
    data_cell w new_cell ≡ suc header → place < 65536 → n + 1 < 16 →
    Returns p kernel_while_body 78 280 c w c (stored (opened (n + 1) 2 place ++ laid h 8192 ++ opened n 1 h ++ closed n) w)

-- REPEAT closes both, lays a jump back, and leads the branch of WHILE behind it
abbrev pub RepeatsAreCompiled : Type 0
RepeatsAreCompiled =
    (p : SourceProgram) (n place back x h : ℕ) (c : List ℕ) (w : World) → HasDefiningWords p → HasRoom w h 2 → IsNewest w (n + 1) 2 back →
    data_cell w (entry n) ≡ 1 → data_cell w (entry n + 2) ≡ place → back < 65536 → IsPatched w place x (h + 2) → place + 2 ≤ h →
    Returns p kernel_repeat_body 61 232 c w c (stored ((place, x + (h + 2) / 2) ∷ (closed n ++ laid h (back / 2) ++ closed (n + 1))) w)

-- `;` lays a return, and makes NEW the newest header; NEW and STATE are 0
abbrev pub SemicolonsAreCompiled : Type 0
SemicolonsAreCompiled =
    (p : SourceProgram) (h header : ℕ) (c : List ℕ) (w : World) → HasDefiningWords p → HasRoom w h 2 → data_cell w new_cell ≡ suc header →
    data_cell w open_count_cell ≡ 0 →
    Returns p kernel_semicolon_body 24 84 c w c (stored ((state_cell, 0) ∷ (new_cell, 0) ∷ (latest_cell, suc header) ∷ laid h 28684) w)
