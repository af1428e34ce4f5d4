-- The image of a program: its code, and where the machine and the source begin.
use Rattle.std.proofs.Common.{◌≡◌, ℕ, zero, suc, ◌+◌, ◌-◌, ◌/◌, ◌<◌, ◌≤◌, Bool, true, false, ◌&&◌, List, [], ◌∷◌, ◌++◌, length, replicate, slice_index, Some, None, refl, ap, ◌∙◌, subst, append_assoc, length-append, arith}
use Rattle.std.specs.Prelude.{slice_index_or}
use Rattle.std.specs.List.{list_all}
use Rattle.std.proofs.lemmas.List.{length-replicate}
use Rattle.std.proofs.lemmas.List.Elements.{All-head, All-tail}
use Rattle.cell_math.specs.Bytes.{cells_of_bytes, filled}
use Rattle.j1_table.specs.declared.instr.Instr.TheVariants.{Call as CallTo}
use Rattle.j1_table.specs.Instruction.{decoded}
use Rattle.j1_simulator.specs.OpenMachine.{blank}
use Rattle.j1_simulator.specs.Run.{begun, open_start}
use Rattle.forth_program.specs.Tree.{Node, Nodes, Plain, Empty}
use Rattle.forth_program.specs.Program.{SourceProgram}
use Rattle.forth_program.specs.Form.{everywhere, leaves_fit, is_not_go, has_no_go}
use Rattle.console_ports.specs.DataSpace.{IsDataStart}
use Rattle.forth_program.specs.Step.{before}
use Rattle.forth_program.specs.Run.{first_world, first_state}
use Rattle.forth_program.specs.Cells.{IsWorld}
use Rattle.word_table.specs.declared.word.Word.{Word}
use Rattle.word_table.specs.declared.word.Word.TheVariants.{Go, TypeOut}
use Rattle.word_laws.specs.Control.{HoldsInstruction, halt_cells}
use Rattle.word_laws.specs.Standing.{standing_as, StandIn, machine_at}
use Rattle.code_layout.specs.Layout.{Routine, Definition, Library, Executing, Aborting, Leaving, type_routine, return_cell, reaches_end, cell_if, size, body_size}
use Rattle.code_layout.specs.Layout.{nodes_cells, body_cells, bodies_cells, begins_at, bodies_size, execute_cells, abort_cells, tokens_cells, token_size, go_cells, leaving_cells, leaving_size}
use Rattle.code_layout.specs.Layout.{token_jumps, library_place, execute_place, abort_place, first_place, tokens_place, leaving_place, routine_place, header, laid_out}
use Rattle.code_layout.specs.Numbering.{library_number}
use Rattle.forth_program.specs.SourceTokens.{tokens_of, all_tokens}
use Rattle.code_layout.specs.Built.{is_laid_out, IsBuilt}
use Rattle.code_layout.specs.Agreement.{AreBytes, code_of}
use Rattle.code_layout.proofs.Routines.{IsRoutine, IsAborter}
use Rattle.code_layout.proofs.Work.{Returns, IsExecutor, Stands, stands_before}
use Rattle.code_layout.proofs.Machine.{Laws, both}
use Rattle.code_layout.proofs.Steps.{AllStand}
use Rattle.code_layout.proofs.LaidCode.{decode_call, size_is, body_size_is, cut, holds_if, all_placed, tokens_stand, tokens_size_is, leaving_size_is}
use Rattle.code_layout.proofs.Everywhere.{everywhere_both}
use Rattle.code_layout.proofs.ExecuteAndAbort.{is_aborter, is_executor}

-- ---- cells of bytes

small_cells : (bytes : List ℕ) → AreBytes bytes → (i : ℕ) → slice_index (cells_of_bytes bytes) i < 65536
small_cells [] small zero = omega arith
small_cells [] small (suc i) = omega arith
small_cells (low ∷ []) small zero = let h : low < 256 = All-head (λ byte. byte < 256) low [] small in omega arith
small_cells (low ∷ []) small (suc i) = omega arith
small_cells (low ∷ high ∷ bytes) small zero =
    let h : low < 256 = All-head (λ byte. byte < 256) low (high ∷ bytes) small in
    let k : high < 256 = All-head (λ byte. byte < 256) high bytes (All-tail (λ byte. byte < 256) low (high ∷ bytes) small) in
    omega arith
small_cells (low ∷ high ∷ bytes) small (suc i) = small_cells bytes (All-tail (λ byte. byte < 256) high bytes (All-tail (λ byte. byte < 256) low (high ∷ bytes) small)) i

zeros_small : (n i : ℕ) → slice_index (replicate n 0) i < 65536
zeros_small zero zero = omega arith
zeros_small zero (suc i) = omega arith
zeros_small (suc n) zero = omega arith
zeros_small (suc n) (suc i) = zeros_small n i

behind_small : (cells more : List ℕ) → ((i : ℕ) → slice_index cells i < 65536) → ((i : ℕ) → slice_index more i < 65536) → (i : ℕ) → slice_index (cells ++ more) i < 65536
behind_small [] more small small' i = small' i
behind_small (cell ∷ cells) more small small' zero = small 0
behind_small (cell ∷ cells) more small small' (suc i) = behind_small cells more (λ k. small (suc k)) small' i

bytes_at : (input : List ℕ) → AreBytes input → (i : ℕ) → slice_index input i < 256
bytes_at [] bytes zero = omega arith
bytes_at [] bytes (suc i) = omega arith
bytes_at (byte ∷ input) bytes zero = All-head (λ byte. byte < 256) byte input bytes
bytes_at (byte ∷ input) bytes (suc i) = bytes_at input (All-tail (λ byte. byte < 256) byte input bytes) i

filled_room : (n : ℕ) (cells : List ℕ) → n ≤ length (filled n cells)
filled_room n cells = omega (arith, length-append cells (replicate (n - length cells) 0), length-replicate {A = ℕ} (n - length cells) 0)

pub first_world_is : (p : SourceProgram) (input : List ℕ) → IsDataStart p.data_start → AreBytes p.first_space → AreBytes input → IsWorld (first_world p input)
first_world_is p input starts space bytes =
    let room = (0x4000 - p.data_start) / 2 in
    record {
      data_start = let most = starts.at_most in omega (arith, most);
      aligned = starts.is_even;
      room = filled_room room (cells_of_bytes p.first_space);
      space =
          behind_small (cells_of_bytes p.first_space) (replicate ((0x4000 - p.data_start) / 2 - length (cells_of_bytes p.first_space)) 0)
          (small_cells p.first_space space) (zeros_small ((0x4000 - p.data_start) / 2 - length (cells_of_bytes p.first_space)));
      input = bytes_at input bytes;
    }

-- ---- the code of definitions

-- a body stands at a place, and its return where it is reached
pub record BodyCode (data_start : ℕ) (code : List ℕ) (place : Routine → ℕ) (at : ℕ) (body : Nodes) : Type 0 where
  pub cells_stand : StandIn code at (nodes_cells data_start place 0 at true true body) (at + size true true body)
  pub returns : reaches_end true true body ≡ true → HoldsInstruction code (at + size true true body) (decoded 0x700C)
  pub low : at + size true true body < 8192

module _ (data_start : ℕ) (code : List ℕ) (place : Routine → ℕ) where
  -- the code of the first definition, and that of those after it
  first_code : (at next : ℕ) (body : Nodes) (bodies : List Nodes) → StandIn code at (bodies_cells data_start place at (body ∷ bodies)) next → at + length (bodies_cells data_start place at (body ∷ bodies)) < 8192 →
      BodyCode data_start code place at body × StandIn code (at + body_size body) (bodies_cells data_start place (at + body_size body) bodies) next
      × (at + body_size body + length (bodies_cells data_start place (at + body_size body) bodies) < 8192)
  first_code at next body bodies h n =
      let after = bodies_cells data_start place (at + body_size body) bodies in
      let reached = reaches_end true true body in
      let whole = body_size_is data_start place at body in
      let short : at + body_size body + length after < 8192 = omega (arith, n, length-append (body_cells data_start place at body) after, whole) in
      let c = cut code at (body_size body) (body_cells data_start place at body) after next (body_size_is data_start place at body) (omega (arith, short)) h in
      let d = cut code at (size true true body) (nodes_cells data_start place 0 at true true body) (cell_if reached return_cell) (at + body_size body) (size_is body data_start place 0 at true true) (omega (arith, short)) c.0 in
      (record { cells_stand = d.0; returns = λ g. holds_if code reached (at + size true true body) return_cell (decoded 0x700C) (at + body_size body) g d.1 refl; low = omega (arith, short) }, c.1, short)

  pub codes : (at next : ℕ) (bodies : List Nodes) → StandIn code at (bodies_cells data_start place at bodies) next → at + length (bodies_cells data_start place at bodies) < 8192 →
      (d : ℕ) → d < length bodies → BodyCode data_start code place (begins_at at bodies d) (slice_index_or bodies d Empty)
  codes at next [] h n d lt = absurd (omega arith)
  codes at next (body ∷ bodies) h n zero lt = (first_code at next body bodies h n).0
  codes at next (body ∷ bodies) h n (suc d) lt = let f = first_code at next body bodies h n in codes (at + body_size body) next bodies f.1 f.2 d (omega arith)

module _ (code : List ℕ) (place : Routine → ℕ) where
  module _ (p : SourceProgram) (executes : Bool) (words : ℕ) (routine : (word : Word) (number : ℕ) → library_number word ≡ Some number → number < words → IsRoutine p.data_start code word (place (Library number)))
      (executor : executes ≡ true → IsExecutor code place p (place Executing)) (aborter : executes ≡ true → 34 < words → IsAborter p.data_start code (place Aborting)) (low : (r : Routine) → place r < 8192)
      (test : Node → Bool) (laid_by : (node : Node) → test node ≡ true → is_laid_out executes words (length p.bodies) node ≡ true) (goes : test (Plain Go) ≡ true → has_no_go p ≡ false) where
    -- a body whose code stands is laid out as work
    pub body_stands : (at : ℕ) (body : Nodes) → BodyCode p.data_start code place at body → everywhere test body ≡ true → leaves_fit false body ≡ true → tokens_of body ≤ p.source_tokens →
        Stands code place p None at (before body [])
    body_stands at body b items leaves few =
        stands_before code place p body None at [] (Returns code place p) (λ q k. k)
        (all_placed code place p executes words routine executor aborter low test laid_by goes body true false None 0 at (Returns code place p)
        (items, leaves) (λ e. absurd (let f : false ≡ true = e in cc)) (omega arith) b.cells_stand b.low b.returns) (omega (arith, few))

-- what holds of all bodies holds of one
pub test_of : (test : Nodes → Bool) (bodies : List Nodes) (d : ℕ) → list_all test bodies ≡ true → d < length bodies → test (slice_index_or bodies d Empty) ≡ true
test_of test [] d all lt = absurd (omega arith)
test_of test (body ∷ bodies) zero all lt = (both (test body) (list_all test bodies) all).0
test_of test (body ∷ bodies) (suc d) all lt = test_of test bodies d (both (test body) (list_all test bodies) all).1 (omega arith)

pub tokens_within : (bodies : List Nodes) (d : ℕ) → d < length bodies → tokens_of (slice_index_or bodies d Empty) ≤ all_tokens bodies
tokens_within [] d lt = absurd (omega arith)
tokens_within (body ∷ bodies) zero lt = omega arith
tokens_within (body ∷ bodies) (suc d) lt = let h = tokens_within bodies d (omega arith) in omega (arith, h)

pub begins_low : (at most : ℕ) (bodies : List Nodes) (d : ℕ) → at + bodies_size bodies < 8192 → begins_at at bodies d < 8192
begins_low at most [] d h = omega arith
begins_low at most (body ∷ bodies) zero h = omega arith
begins_low at most (body ∷ bodies) (suc d) h = begins_low (at + body_size body) most bodies d (omega arith)

pub bodies_size_is : (data_start : ℕ) (place : Routine → ℕ) (at : ℕ) (bodies : List Nodes) → length (bodies_cells data_start place at bodies) ≡ bodies_size bodies
bodies_size_is data_start place at [] = refl
bodies_size_is data_start place at (body ∷ bodies) =
    omega (arith, length-append (body_cells data_start place at body) (bodies_cells data_start place (at + body_size body) bodies), body_size_is data_start place at body, bodies_size_is data_start place (at + body_size body) bodies)

pub jumps_length : (place : Routine → ℕ) (at : ℕ) (tokens : List Node) → length (token_jumps place at tokens) ≡ length tokens
jumps_length place at [] = refl
jumps_length place at (node ∷ tokens) = ap suc (jumps_length place (at + token_size node) tokens)

-- ---- the image

regrouped : (a b c d e f g h : List ℕ) → a ++ (b ++ (c ++ (d ++ (e ++ (f ++ (g ++ h)))))) ≡ (a ++ (b ++ (c ++ (d ++ (e ++ (f ++ g)))))) ++ h
regrouped a b c d e f g h = simp (append_assoc) refl

pub filled_length : (n : ℕ) (cells : List ℕ) → length cells ≤ n → length (filled n cells) ≡ n
filled_length n cells few = simp (length-append, length-replicate) (omega arith)

module _ (laws : Laws) (library : List Nodes) (p : SourceProgram) (built : IsBuilt library p) where
  abbrev place : Routine → ℕ
  place = routine_place library p

  pub code_size : length (code_of library p) ≡ p.data_start / 2
  code_size = filled_length (p.data_start / 2) (laid_out library p).cells built.code_fits

  -- the machine begins where the source begins
  pub begins : (input : List ℕ) → begun (open_start (laid_out library p)) input ≡ standing_as (first_state p input) (machine_at (code_of library p) 0 [] [] [])
  begins input =
      let even = built.data_start.is_even in
      let most = built.data_start.at_most in
      let room : 0x2000 - p.data_start / 2 ≡ (0x4000 - p.data_start) / 2 = omega (arith, even, most) in
      ap (λ n. begun (record { pc = 0; t = None; data_stack = blank; return_stack = blank; memory = code_of library p ++ filled n (cells_of_bytes p.first_space) }) input) room

  abbrev jumps : List ℕ
  jumps = token_jumps (routine_place library p) (tokens_place library p) p.tokens

  abbrev of_library : List ℕ
  of_library = bodies_cells p.data_start (routine_place library p) (library_place p) library

  abbrev of_execute : List ℕ
  of_execute = execute_cells (execute_place library p) (length p.tokens)

  abbrev of_abort : List ℕ
  of_abort = abort_cells (abort_place library p) (routine_place library p type_routine)

  abbrev of_program : List ℕ
  of_program = bodies_cells p.data_start (routine_place library p) (first_place library p) p.bodies

  abbrev of_tokens : List ℕ
  of_tokens = tokens_cells p.data_start (routine_place library p) p.tokens

  abbrev of_leaving : List ℕ
  of_leaving = leaving_cells (has_no_go p)

  -- all cells but those of GO
  abbrev pub front : List ℕ
  front = header (routine_place library p (Definition p.main_body)) ++ (jumps ++ (of_library ++ (of_execute ++ (of_abort ++ (of_program ++ of_tokens)))))

  pub short : tokens_place library p + length (tokens_cells p.data_start (routine_place library p) p.tokens) + leaving_size (has_no_go p) ≤ 8000
  short =
      let few = built.code_fits in
      let most = built.data_start.at_most in
      omega (
        arith,
        few,
        most,
        length-append jumps (of_library ++ (of_execute ++ (of_abort ++ (of_program ++ (of_tokens ++ of_leaving))))),
        length-append of_library (of_execute ++ (of_abort ++ (of_program ++ (of_tokens ++ of_leaving)))),
        length-append of_program (of_tokens ++ of_leaving),
        length-append of_tokens of_leaving,
        leaving_size_is (has_no_go p),
        jumps_length (routine_place library p) (tokens_place library p) p.tokens,
        bodies_size_is p.data_start (routine_place library p) (library_place p) library,
        bodies_size_is p.data_start (routine_place library p) (first_place library p) p.bodies,
      )

  pub low : (r : Routine) → routine_place library p r < 8192
  low (Definition d) = let h = short in begins_low (first_place library p) 0 p.bodies d (omega arith)
  low (Library number) = let h = short in begins_low (library_place p) 0 library number (omega arith)
  low Executing = let h = short in omega arith
  low Aborting = let h = short in omega arith
  low Leaving = let h = short in omega (arith, tokens_size_is p.data_start (routine_place library p) p.tokens)

  pub front_size : length front ≡ leaving_place library p
  front_size =
      omega (
        arith,
        length-append jumps (of_library ++ (of_execute ++ (of_abort ++ (of_program ++ of_tokens)))),
        length-append of_library (of_execute ++ (of_abort ++ (of_program ++ of_tokens))),
        length-append of_program of_tokens,
        jumps_length (routine_place library p) (tokens_place library p) p.tokens,
        bodies_size_is p.data_start (routine_place library p) (library_place p) library,
        bodies_size_is p.data_start (routine_place library p) (first_place library p) p.bodies,
        tokens_size_is p.data_start (routine_place library p) p.tokens,
      )

  pub all_parts : (laid_out library p).cells ≡ front ++ of_leaving
  all_parts = regrouped (header (routine_place library p (Definition p.main_body))) jumps of_library of_execute of_abort of_program of_tokens of_leaving

  abbrev end : ℕ
  end = 0 + length (laid_out library p).cells

  image_stands : StandIn (code_of library p) 0 (laid_out library p).cells end
  image_stands = let few = built.code_fits in let most = built.data_start.at_most in laws.cells_stand [] (laid_out library p).cells (replicate (p.data_start / 2 - length (laid_out library p).cells) 0) (omega (arith, few, most))

  -- and then the code of GO, where it is used
  parts_stand : StandIn (code_of library p) 0 front (0 + leaving_place library p) × StandIn (code_of library p) (0 + leaving_place library p) of_leaving end
  parts_stand =
      let h = short in
      cut (code_of library p) 0 (leaving_place library p) front of_leaving end front_size (omega (arith, h, tokens_size_is p.data_start (routine_place library p) p.tokens))
      (subst (λ cells. StandIn (code_of library p) 0 cells end) all_parts image_stands)

  pub front_stands : StandIn (code_of library p) 0 front (leaving_place library p)
  front_stands = let e : 0 + leaving_place library p ≡ leaving_place library p = omega arith in subst (StandIn (code_of library p) 0 front) e parts_stand.0

  -- the code of GO takes the top cell, and goes on where it tells
  pub leaves : has_no_go p ≡ false → StandIn (code_of library p) (leaving_place library p) (go_cells) end
  leaves used =
      let e : 0 + leaving_place library p ≡ leaving_place library p = omega arith in
      subst (λ lacking. StandIn (code_of library p) (leaving_place library p) (leaving_cells lacking) end) used (subst (λ at. StandIn (code_of library p) at of_leaving end) e parts_stand.1)

  -- any code that begins with all the other cells
  module _ (code : List ℕ) (size : length code ≡ p.data_start / 2) (starts_with : StandIn code 0 front (leaving_place library p)) where
    pub main_called : HoldsInstruction code 0 (CallTo (routine_place library p (Definition p.main_body)))
    main_called = (ap decoded starts_with.0 ∙ decode_call (routine_place library p (Definition p.main_body)) (low (Definition p.main_body)), starts_with.1)

    pub halt_stands : StandIn code 1 halt_cells 4
    halt_stands = let h = starts_with.2 in (h.0, h.1, (h.2.0, h.2.1, (h.2.2.0, h.2.2.1, refl)))

    -- the parts of the image one after the other
    pub jumps_stand : StandIn code 8 jumps (library_place p) × StandIn code (library_place p) (of_library ++ (of_execute ++ (of_abort ++ (of_program ++ of_tokens)))) (leaving_place library p)
    jumps_stand =
        let h = short in
        cut code 8 (length p.tokens) jumps (of_library ++ (of_execute ++ (of_abort ++ (of_program ++ of_tokens)))) (leaving_place library p)
        (jumps_length (routine_place library p) (tokens_place library p) p.tokens) (omega arith) starts_with.2.2.2.2.2.2.2.2

    library_stands : StandIn code (library_place p) of_library (execute_place library p) × StandIn code (execute_place library p) (of_execute ++ (of_abort ++ (of_program ++ of_tokens))) (leaving_place library p)
    library_stands =
        let h = short in
        cut code (library_place p) (bodies_size library) of_library (of_execute ++ (of_abort ++ (of_program ++ of_tokens))) (leaving_place library p)
        (bodies_size_is p.data_start (routine_place library p) (library_place p) library) (omega arith) jumps_stand.1

    pub execute_stands : StandIn code (execute_place library p) of_execute (abort_place library p) × StandIn code (abort_place library p) (of_abort ++ (of_program ++ of_tokens)) (leaving_place library p)
    execute_stands = let h = short in cut code (execute_place library p) 15 of_execute (of_abort ++ (of_program ++ of_tokens)) (leaving_place library p) refl (omega arith) library_stands.1

    pub abort_stands : StandIn code (abort_place library p) of_abort (first_place library p) × StandIn code (first_place library p) (of_program ++ of_tokens) (leaving_place library p)
    abort_stands = let h = short in cut code (abort_place library p) 15 of_abort (of_program ++ of_tokens) (leaving_place library p) refl (omega arith) execute_stands.1

    pub program_stands : StandIn code (first_place library p) of_program (tokens_place library p) × StandIn code (tokens_place library p) of_tokens (leaving_place library p)
    program_stands =
        let h = short in
        cut code (first_place library p) (bodies_size p.bodies) of_program of_tokens (leaving_place library p) (bodies_size_is p.data_start (routine_place library p) (first_place library p) p.bodies) (omega arith) abort_stands.1

    pub library_code : (number : ℕ) → number < length library → BodyCode p.data_start code (routine_place library p) (routine_place library p (Library number)) (slice_index_or library number Empty)
    library_code number lt =
        let few =
        short in
        codes p.data_start code (routine_place library p) (library_place p) (execute_place library p) library library_stands.0
        (omega (arith, bodies_size_is p.data_start (routine_place library p) (library_place p) library)) number lt

    pub program_code : (d : ℕ) → d < length p.bodies → BodyCode p.data_start code (routine_place library p) (routine_place library p (Definition d)) (slice_index_or p.bodies d Empty)
    program_code d lt =
        let few = short in
        codes p.data_start code (routine_place library p) (first_place library p) (tokens_place library p) p.bodies program_stands.0
        (omega (arith, bodies_size_is p.data_start (routine_place library p) (first_place library p) p.bodies)) d lt

    -- the code of ABORT" does what it does, where TYPE stands
    aborts :
        ((word : Word) (number : ℕ) → library_number word ≡ Some number → number < length library →
        IsRoutine p.data_start code word (routine_place library p (Library number))) → 34 < length library →
        IsAborter p.data_start code (routine_place library p Aborting)
    aborts routine some =
        let h = short in
        is_aborter laws p code (routine_place library p) size (abort_place library p) (routine_place library p type_routine) (first_place library p) abort_stands.0 (omega arith) (low type_routine) (routine TypeOut 34 refl some)

    -- and that of EXECUTE, where each token's jump leads to its code
    executes :
        ((word : Word) (number : ℕ) → library_number word ≡ Some number → number < length library →
        IsRoutine p.data_start code word (routine_place library p (Library number))) →
        IsExecutor code (routine_place library p) p (routine_place library p Executing)
    executes routine =
        let h = short in
        is_executor laws p code (routine_place library p) size (execute_place library p) (length p.tokens) (abort_place library p) execute_stands.0 (omega arith) (omega arith) refl
        (tokens_stand code (routine_place library p) p false (length library) routine (λ e. absurd (let f : false ≡ true = e in cc))
        (λ e. absurd (let f : false ≡ true = e in cc)) low (is_laid_out false (length library) (length p.bodies)) (λ node e. e) (λ e. absurd (let f : false ≡ true = e in cc)) p.tokens 8 (tokens_place library p) (library_place p)
        (leaving_place library p) built.token_items jumps_stand.0 program_stands.1 (omega arith) (omega arith))

    abbrev Routines : Type 0
    Routines = (word : Word) (number : ℕ) → library_number word ≡ Some number → number < length library → IsRoutine p.data_start code word (routine_place library p (Library number))

    -- what is asked of the items of definitions: where no body has GO, also that they are not GO
    abbrev laid : Node → Bool
    laid = is_laid_out true (length library) (length p.bodies)

    abbrev test_by : Bool → Node → Bool
    test_by true node = laid node && is_not_go node
    test_by false node = laid node

    test_laid : (lacking : Bool) (node : Node) → test_by lacking node ≡ true → laid node ≡ true
    test_laid true node e = (both (laid node) (is_not_go node) e).0
    test_laid false node e = e

    test_goes : (lacking : Bool) → has_no_go p ≡ lacking → test_by lacking (Plain Go) ≡ true → has_no_go p ≡ false
    test_goes true e f = absurd (let g = (both (laid (Plain Go)) (is_not_go (Plain Go)) f).1 in let h : false ≡ true = g in cc)
    test_goes false e f = e

    tested : (lacking : Bool) → has_no_go p ≡ lacking → (d : ℕ) → d < length p.bodies → everywhere (test_by lacking) (slice_index_or p.bodies d Empty) ≡ true
    tested true e d lt = everywhere_both laid is_not_go (slice_index_or p.bodies d Empty) (test_of (everywhere laid) p.bodies d built.items lt) (test_of (everywhere is_not_go) p.bodies d e lt)
    tested false e d lt = test_of (everywhere laid) p.bodies d built.items lt

    -- every definition stands, where the library's routines do
    stand_by : (lacking : Bool) → has_no_go p ≡ lacking → Routines → AllStand laws p code (routine_place library p) size
    stand_by lacking e routine = record {
      halt = halt_stands;
      bodies = λ d lt.
          body_stands code (routine_place library p) p true (length library) routine (λ e. executes routine) (λ e. aborts routine) low (test_by lacking) (test_laid lacking) (test_goes lacking e) (routine_place library p (Definition d))
          (slice_index_or p.bodies d Empty) (program_code d lt) (tested lacking e d lt) (test_of (leaves_fit false) p.bodies d built.leaves_in_loops lt)
          (let counted = built.tokens_counted in omega (arith, counted, tokens_within p.bodies d lt));
    }

    pub all_stand : Routines → AllStand laws p code (routine_place library p) size
    all_stand routine = stand_by (has_no_go p) refl routine
