-- What is laid out stands where it was laid.
use Rattle.std.proofs.Common.{◌≡◌, ℕ, zero, suc, ◌+◌, ◌<◌, ◌⊎◌, inl, inr, Bool, true, false, ◌&&◌, ◌||◌, List, [], ◌∷◌, ◌++◌, length, slice_index, Option, Some, None, refl, sym, ap, ◌∙◌, subst, length-append, arith}
use Rattle.std.specs.Prelude.{not, nat_lt, slice_get}
use Rattle.std.specs.List.{list_all}
use Rattle.std.proofs.lemmas.Option.{slice_get_past}
use Rattle.std.proofs.lemmas.Bool.Decides.{nat_tests}
use Rattle.j1_table.specs.declared.instr.Instr.{Instr}
use Rattle.j1_table.specs.declared.instr.Instr.TheVariants.{Jump, Branch, Call as CallTo}
use Rattle.j1_table.specs.Instruction.{decoded}
use Rattle.j1_simulator.specs.Effect.{following}
use Rattle.word_table.specs.declared.word.Word.{Word}
use Rattle.word_table.specs.declared.word.Word.TheVariants.{Base, Here, Decimal, Hex, Execute, Go, TypeOut}
use Rattle.forth_program.specs.declared.item.TextKind.{TextKind}
use Rattle.forth_program.specs.declared.item.TextKind.TheVariants as text
use Rattle.word_table.specs.Table.{cells_of, cells_from}
use Rattle.forth_program.specs.Tree.{Node, Nodes, Arms, Literal, Plain, Call, Child, Text, If, Until, While, Again, Do, QDo, Case, Leave, Exit, Empty, Then, NoArm, Arm}
use Rattle.forth_program.specs.Tail.{is_tail}
use Rattle.forth_program.specs.Program.{SourceProgram}
use Rattle.forth_program.specs.Form.{may_be_token, everywhere, inside, in_arms, leaves_fit, leave_fits, arms_fit, has_no_go}
use Rattle.word_laws.specs.Control.{HoldsInstruction}
use Rattle.word_laws.specs.Numbers.{number_cells}
use Rattle.word_laws.specs.Standing.{StandIn}
use Rattle.word_laws.specs.Words.{stands_plain}
use Rattle.code_layout.specs.Numbering.{library_number}
use Rattle.code_layout.specs.Layout.{Routine, Definition, Library, Executing, Aborting, Leaving, routine_of, numbered, word_falls_through, text_falls_through, word_size}
use Rattle.code_layout.specs.Layout.{text_size, word_cells, text_cells, word_token_cells, word_token_size, word_token_place, token_cells, token_size, tokens_size, leaving_cells, leaving_size}
use Rattle.code_layout.specs.Layout.{tokens_cells, token_place, token_jumps, jump_to, branch_to, call_to, call_cell, return_cell, do_cells, loop_cells}
use Rattle.code_layout.specs.Layout.{plus_loop_cells, out_cells, turn_cells, turn_size, q_do_cells, of_cells, end_case_cells, falls_through, reaches_end}
use Rattle.code_layout.specs.Layout.{cell_if, size_if, else_size, node_size, size, arms_size, body_size, else_place, while_place, out_place, arm_place}
use Rattle.code_layout.specs.Layout.{others_place, else_cells, loop_code, arm_code, node_cells, nodes_cells, arms_cells, body_cells}
use Rattle.code_layout.specs.Built.{word_is_laid_out, text_is_laid_out, is_laid_out, token_is_laid_out}
use Rattle.code_layout.proofs.Machine.{both}
use Rattle.code_layout.proofs.Routines.{IsRoutine, IsAborter}
use Rattle.code_layout.proofs.Work.{Returns, TokenStands, IsExecutor, PlainStands, ExecuteStands, GoStands, TextStands, TurnStands, CallStands, LoopStands, SkipStands, LastStands, OfStands, Placed, AllPlaced, ArmsPlaced}

pub decode_jump : (a : ℕ) → a < 8192 → decoded (jump_to a) ≡ Jump a
decode_jump a h = grind (arith, nat_tests)

pub decode_branch : (a : ℕ) → a < 8192 → decoded (branch_to a) ≡ Branch a
decode_branch a h = grind (arith, nat_tests)

pub decode_call : (a : ℕ) → a < 8192 → decoded (call_to a) ≡ CallTo a
decode_call a h = grind (arith, nat_tests)

next_is : (pc : ℕ) → pc + 1 < 8192 → following pc ≡ pc + 1
next_is pc h = omega arith

pub turn_size_is : (plus : Bool) (body_at out_at : ℕ) → length (turn_cells plus body_at out_at) ≡ turn_size plus
turn_size_is false body_at out_at = refl
turn_size_is true body_at out_at = refl

pub if_size_is : (reached : Bool) (cell : ℕ) → length (cell_if reached cell) ≡ size_if reached
if_size_is true cell = refl
if_size_is false cell = refl

pub else_size_is : (tail : Bool) (first second : Nodes) (target : ℕ) → length (else_cells tail first second target) ≡ else_size tail first second
else_size_is tail first Empty target = refl
else_size_is tail first (Then node rest) target = if_size_is (reaches_end tail true first) (jump_to target)

pub from_size : (data_start : ℕ) (word : Word) → length (cells_from data_start word) ≡ length (cells_of word)
from_size data_start Base = refl
from_size data_start Here = refl
from_size data_start Decimal = refl
from_size data_start Hex = refl
from_size data_start word = refl

word_size_is : (found : Option Routine) (word : Word) (data_start : ℕ) (place : Routine → ℕ) (tail : Bool) → length (word_cells data_start place tail found word) ≡ word_size found word
word_size_is None word data_start place tail = from_size data_start word
word_size_is (Some routine) word data_start place tail = refl

text_size_is : (kind : TextKind) (place : Routine → ℕ) (tail : Bool) → length (text_cells place tail kind) ≡ text_size kind
text_size_is text.Address place tail = refl
text_size_is text.Print place tail = refl
text_size_is text.Abort place tail = refl

-- the word of a routine
number_of : (word : Word) (number : ℕ) → routine_of word ≡ Some (Library number) → library_number word ≡ Some number
number_of Execute number is = cc
number_of word number is = cc

-- the routine of a token's word
routine_is : (word : Word) → may_be_token (Plain word) ≡ true → routine_of word ≡ numbered (library_number word)
routine_is Execute may = cc
routine_is Go may = cc
routine_is word may = refl

is_execute : (word : Word) → routine_of word ≡ Some Executing → word ≡ Execute
is_execute Execute is = refl
is_execute word is = cc

is_go : (word : Word) → routine_of word ≡ Some Leaving → word ≡ Go
is_go Go is = refl
is_go word is = cc

-- a loop and an arm, by the sizes of what is in them
loop_size_is : (at : ℕ) (body : Nodes) (plus : Bool) (inner : List ℕ) → length inner ≡ size false true body → length (loop_code at body plus inner) ≡ 8 + size false true body + turn_size plus + 4
loop_size_is at body plus inner e =
    omega (arith, length-append inner (turn_cells plus (at + 8) (out_place at body plus) ++ out_cells), length-append (turn_cells plus (at + 8) (out_place at body plus)) out_cells, turn_size_is plus (at + 8) (out_place at body plus), e)

pub arm_size_is : (at : ℕ) (tail : Bool) (end_at : ℕ) (tests body : Nodes) (tests_cells body_cells : List ℕ) → length tests_cells ≡ size false true tests → length body_cells ≡ size tail true body →
    length (arm_code at tail end_at tests body tests_cells body_cells) ≡ size false true tests + 4 + size tail true body + size_if (reaches_end tail true body)
arm_size_is at tail end_at tests body tests_cells body_cells e f =
    let jump = cell_if (reaches_end tail true body) (jump_to end_at) in
    omega (
      arith,
      length-append tests_cells (of_cells (others_place at tail tests body) ++ (body_cells ++ cell_if (reaches_end tail true body) (jump_to end_at))),
      length-append body_cells (cell_if (reaches_end tail true body) (jump_to end_at)),
      if_size_is (reaches_end tail true body) (jump_to end_at),
      e,
      f,
    )

mutual
  pub node_size_is : (node : Node) (data_start : ℕ) (place : Routine → ℕ) (out_at at : ℕ) (tail reached : Bool) → length (node_cells data_start place out_at at tail reached node) ≡ node_size tail reached node
  node_size_is (Literal value) data_start place out_at at tail reached = refl
  node_size_is (Plain word) data_start place out_at at tail reached = word_size_is (routine_of word) word data_start place tail
  node_size_is (Call d) data_start place out_at at tail reached = refl
  node_size_is (Child d address) data_start place out_at at tail reached = length-append (number_cells address) (call_cell tail (place (Definition d)) ∷ [])
  node_size_is (Text kind address n) data_start place out_at at tail reached =
      let e : length (number_cells address ++ (number_cells n ++ text_cells place tail kind)) ≡ length (number_cells address) + length (number_cells n) + text_size kind =
      omega (arith, length-append (number_cells address) (number_cells n ++ text_cells place tail kind), length-append (number_cells n) (text_cells place tail kind), text_size_is kind place tail) in
      e
  node_size_is (If first second) data_start place out_at at tail reached =
      let other_at = else_place at tail first second in
      omega (
        arith,
        length-append (nodes_cells data_start place out_at (at + 1) tail true first)
            (else_cells tail first second (else_place at tail first second + size tail true second)
            ++ nodes_cells data_start place out_at (else_place at tail first second) tail true second),
        length-append (else_cells tail first second (else_place at tail first second + size tail true second))
            (nodes_cells data_start place out_at (else_place at tail first second) tail true second),
        size_is first data_start place out_at (at + 1) tail true,
        else_size_is tail first second (else_place at tail first second + size tail true second),
        size_is second data_start place out_at (else_place at tail first second) tail true,
      )
  node_size_is (Until body) data_start place out_at at tail reached = omega (arith, length-append (nodes_cells data_start place out_at at false true body) (branch_to at ∷ []), size_is body data_start place out_at at false true)
  node_size_is (While test body) data_start place out_at at tail reached =
      omega (
        arith,
        length-append (nodes_cells data_start place out_at at false true test)
            (branch_to (while_place at test + size false true body + 1)
            ∷ (nodes_cells data_start place out_at (while_place at test) false true body ++ jump_to at ∷ [])),
        length-append (nodes_cells data_start place out_at (while_place at test) false true body) (jump_to at ∷ []),
        size_is test data_start place out_at at false true,
        size_is body data_start place out_at (while_place at test) false true,
      )
  node_size_is (Again body) data_start place out_at at tail reached = omega (arith, length-append (nodes_cells data_start place out_at at false true body) (jump_to at ∷ []), size_is body data_start place out_at at false true)
  node_size_is (Do body plus) data_start place out_at at tail reached =
      loop_size_is at body plus (nodes_cells data_start place (out_place at body plus) (at + 8) false true body)
      (size_is body data_start place (out_place at body plus) (at + 8) false true)
  node_size_is (QDo body plus) data_start place out_at at tail reached =
      omega (arith, loop_size_is (at + 7) body plus (nodes_cells data_start place (out_place (at + 7) body plus) (at + 7 + 8) false true body) (size_is body data_start place (out_place (at + 7) body plus) (at + 7 + 8) false true))
  node_size_is (Case arms rest) data_start place out_at at tail reached =
      omega (
        arith,
        length-append (arms_cells data_start place out_at at tail (at + arms_size tail arms + size false true rest + 1) arms) (nodes_cells data_start place out_at (at + arms_size tail arms) false true rest ++ end_case_cells),
        length-append (nodes_cells data_start place out_at (at + arms_size tail arms) false true rest) end_case_cells,
        arms_size_is arms data_start place out_at at tail (at + arms_size tail arms + size false true rest + 1),
        size_is rest data_start place out_at (at + arms_size tail arms) false true,
      )
  node_size_is Leave data_start place out_at at tail reached = refl
  node_size_is Exit data_start place out_at at tail reached = if_size_is reached return_cell

  pub size_is : (nodes : Nodes) (data_start : ℕ) (place : Routine → ℕ) (out_at at : ℕ) (tail reached : Bool) → length (nodes_cells data_start place out_at at tail reached nodes) ≡ size tail reached nodes
  size_is Empty data_start place out_at at tail reached = refl
  size_is (Then node rest) data_start place out_at at tail reached =
      omega (
        arith,
        length-append (node_cells data_start place out_at at (is_tail rest tail) reached node)
            (nodes_cells data_start place out_at (at + node_size (is_tail rest tail) reached node) tail (falls_through (is_tail rest tail) node) rest),
        node_size_is node data_start place out_at at (is_tail rest tail) reached,
        size_is rest data_start place out_at (at + node_size (is_tail rest tail) reached node) tail (falls_through (is_tail rest tail) node),
      )

  pub arms_size_is : (arms : Arms) (data_start : ℕ) (place : Routine → ℕ) (out_at at : ℕ) (tail : Bool) (end_at : ℕ) → length (arms_cells data_start place out_at at tail end_at arms) ≡ arms_size tail arms
  arms_size_is NoArm data_start place out_at at tail end_at = refl
  arms_size_is (Arm tests body others) data_start place out_at at tail end_at =
      let tests_cells = nodes_cells data_start place out_at at false true tests in
      let body_cells = nodes_cells data_start place out_at (arm_place at tests) tail true body in
      omega (
        arith,
        length-append (arm_code at tail end_at tests body tests_cells body_cells) (arms_cells data_start place out_at (others_place at tail tests body) tail end_at others),
        arm_size_is at tail end_at tests body tests_cells body_cells (size_is tests data_start place out_at at false true) (size_is body data_start place out_at (arm_place at tests) tail true),
        arms_size_is others data_start place out_at (others_place at tail tests body) tail end_at,
      )

pub body_size_is : (data_start : ℕ) (place : Routine → ℕ) (at : ℕ) (body : Nodes) → length (body_cells data_start place at body) ≡ body_size body
body_size_is data_start place at body =
    omega (
      arith,
      length-append (nodes_cells data_start place 0 at true true body) (cell_if (reaches_end true true body) return_cell),
      size_is body data_start place 0 at true true,
      if_size_is (reaches_end true true body) return_cell,
    )

word_token_size_is : (found : Option ℕ) (word : Word) (data_start : ℕ) → length (word_token_cells data_start found word) ≡ word_token_size found word
word_token_size_is None word data_start = length-append (cells_from data_start word) (return_cell ∷ []) ∙ ap (λ n. n + 1) (from_size data_start word)
word_token_size_is (Some number) word data_start = refl

pub token_size_is : (node : Node) (data_start : ℕ) (place : Routine → ℕ) → length (token_cells data_start place node) ≡ token_size node
token_size_is (Literal value) data_start place = length-append (number_cells value) (return_cell ∷ [])
token_size_is (Child d address) data_start place = length-append (number_cells address) (jump_to (place (Definition d)) ∷ [])
token_size_is (Plain word) data_start place = word_token_size_is (library_number word) word data_start
token_size_is node data_start place = refl

pub tokens_size_is : (data_start : ℕ) (place : Routine → ℕ) (tokens : List Node) → length (tokens_cells data_start place tokens) ≡ tokens_size tokens
tokens_size_is data_start place [] = refl
tokens_size_is data_start place (node ∷ tokens) = length-append (token_cells data_start place node) (tokens_cells data_start place tokens) ∙ two_sums (token_size_is node data_start place) (tokens_size_is data_start place tokens)
  where
    two_sums : {a b c d : ℕ} → a ≡ b → c ≡ d → a + c ≡ b + d
    two_sums e f = cc

pub leaving_size_is : (lacking : Bool) → length (leaving_cells lacking) ≡ leaving_size lacking
leaving_size_is true = refl
leaving_size_is false = refl

pub either : (a b : Bool) → b ≡ true → (a || b) ≡ true
either true b e = refl
either false b e = e

module _ (code : List ℕ) where
  -- cells, and those that follow them
  pub cut : (pc n : ℕ) (cells more : List ℕ) (next : ℕ) → length cells ≡ n → pc + n < 8192 → StandIn code pc (cells ++ more) next → StandIn code pc cells (pc + n) × StandIn code (pc + n) more next
  cut pc n [] more next e lt h = let same : pc ≡ pc + n = omega (arith, e) in (same, subst (λ x. StandIn code x more next) same h)
  cut pc n (cell ∷ cells) more next e lt h =
      let f : following pc ≡ pc + 1 = next_is pc (omega (arith, e)) in
      let r = cut (pc + 1) (length cells) cells more next refl (omega (arith, e)) (subst (λ x. StandIn code x (cells ++ more) next) f h.2) in
      let same : pc + 1 + length cells ≡ pc + n = omega (arith, e) in
      ((h.0, h.1, subst (λ x. StandIn code x cells (pc + n)) (sym f) (subst (StandIn code (pc + 1) cells) same r.0)), subst (λ x. StandIn code x more next) same r.1)

  pub holds : (pc cell : ℕ) (instruction : Instr) (cells : List ℕ) (next : ℕ) → StandIn code pc (cell ∷ cells) next → decoded cell ≡ instruction → HoldsInstruction code pc instruction
  holds pc cell instruction cells next h e = (ap decoded h.0 ∙ e, h.1)

  pub onward : (pc cell : ℕ) (cells : List ℕ) (next : ℕ) → pc + 1 < 8192 → StandIn code pc (cell ∷ cells) next → StandIn code (pc + 1) cells next
  onward pc cell cells next lt h = subst (λ x. StandIn code x cells next) (next_is pc lt) h.2

  -- a cell that stands where code leads to it
  pub holds_if : (reached : Bool) (pc cell : ℕ) (instruction : Instr) (next : ℕ) → reached ≡ true → StandIn code pc (cell_if reached cell) next → decoded cell ≡ instruction → HoldsInstruction code pc instruction
  holds_if true pc cell instruction next e h d = holds pc cell instruction [] next h d
  holds_if false pc cell instruction next e h d = absurd (let f : false ≡ true = e in cc)

  module _ (place : Routine → ℕ) (p : SourceProgram) (executes : Bool) (words : ℕ) (routine : (word : Word) (number : ℕ) → library_number word ≡ Some number → number < words → IsRoutine p.data_start code word (place (Library number)))
      (executor : executes ≡ true → IsExecutor code place p (place Executing)) (aborter : executes ≡ true → 34 < words → IsAborter p.data_start code (place Aborting)) (low : (r : Routine) → place r < 8192)
      (test : Node → Bool) (laid_by : (node : Node) → test node ≡ true → is_laid_out executes words (length p.bodies) node ≡ true) (goes : test (Plain Go) ≡ true → has_no_go p ≡ false) where
    -- the cells of items to which code leads
    abbrev cells_at : ℕ → ℕ → Bool → Nodes → List ℕ
    cells_at out_at at tail nodes = nodes_cells p.data_start place out_at at tail true nodes

    call_stands : (tail : Bool) (r : Routine) (at : ℕ) (K : ℕ → Type 0) → StandIn code at (call_cell tail (place r) ∷ []) (at + 1) → at + 1 < 8192 →
        (not tail ≡ true → K (at + 1)) → CallStands code place p tail at (place r) (K (following at))
    call_stands true r at K h n k = holds at (jump_to (place r)) (Jump (place r)) [] (at + 1) h (decode_jump (place r) (low r))
    call_stands false r at K h n k = (holds at (call_to (place r)) (CallTo (place r)) [] (at + 1) h (decode_call (place r) (low r)), subst K (sym (next_is at n)) (k refl))

    word_placed : (word : Word) (found : Option Routine) (tail : Bool) (at : ℕ) (K : ℕ → Type 0) → routine_of word ≡ found → test (Plain word) ≡ true →
        word_is_laid_out executes words found word ≡ true → StandIn code at (word_cells p.data_start place tail found word) (at + word_size found word) →
        at + word_size found word < 8192 →
        (word_falls_through found tail ≡ true → K (at + word_size found word)) → PlainStands code place p tail at word K ⊎ (ExecuteStands code place p tail at word K ⊎ GoStands code place p tail at word K)
    word_placed word None tail at K is may fit h n k = inl (inl (at + length (cells_of word), fit, h, k refl))
    word_placed word (Some (Library number)) tail at K is may fit h n k = inl (inr (
      place (Library number),
      call_stands tail (Library number) at K h n k,
      routine word number (number_of word number is)
          (let e = fit in grind (arith, nat_tests)),
    ))
    word_placed word (Some Executing) tail at K is may fit h n k = inr (inl (is_execute word is, place Executing, call_stands tail Executing at K h n k, executor fit))
    word_placed word (Some Leaving) tail at K is may fit h n k = inr (inr (is_go word is, goes (subst (λ w. test (Plain w) ≡ true) (is_go word is) may), call_stands tail Leaving at K h n k))
    word_placed word (Some (Definition d)) tail at K is may fit h n k = absurd (let f : false ≡ true = fit in cc)
    word_placed word (Some Aborting) tail at K is may fit h n k = absurd (let f : false ≡ true = fit in cc)

    text_placed : (kind : TextKind) (tail : Bool) (at : ℕ) (K : ℕ → Type 0) → executes ≡ true → text_is_laid_out words kind ≡ true →
        StandIn code at (text_cells place tail kind) (at + text_size kind) → at + text_size kind < 8192 →
        (text_falls_through kind tail ≡ true → K (at + text_size kind)) → TextStands code place p tail at kind K
    text_placed text.Address tail at K may fit h n k = let e : at + 0 ≡ at = omega arith in subst K e (k refl)
    text_placed text.Print tail at K may fit h n k = (place (Library 34), call_stands tail (Library 34) at K h n k, routine TypeOut 34 refl (let e = fit in grind (arith, nat_tests)))
    text_placed text.Abort tail at K may fit h n k = (place Aborting, call_stands tail Aborting at K h n k, aborter may (let e = fit in grind (arith, nat_tests)))

    turn_stands : (plus : Bool) (at body_at out_at : ℕ) (more : List ℕ) (next : ℕ) → StandIn code at (turn_cells plus body_at out_at ++ more) next →
        body_at < 8192 → out_at ≡ at + turn_size plus → out_at < 8192 → TurnStands code place p plus at body_at out_at
    turn_stands false at body_at out_at more next h lt e lt' =
        let c = cut at 5 loop_cells (branch_to out_at ∷ jump_to body_at ∷ more) next refl (omega (arith, e)) h in
        let j = onward (at + 5) (branch_to out_at) (jump_to body_at ∷ more) next (omega (arith, e)) c.1 in (
          at + 5,
          c.0,
          holds (at + 5) (branch_to out_at) (Branch out_at) (jump_to body_at ∷ more) next c.1 (decode_branch out_at lt'),
          subst (λ x. HoldsInstruction code x (Jump body_at)) (sym (next_is (at + 5) (omega (arith, e)))) (holds (at + 5 + 1) (jump_to body_at) (Jump body_at) more next j (decode_jump body_at lt)),
        )
    turn_stands true at body_at out_at more next h lt e lt' =
        let c = cut at 17 plus_loop_cells (branch_to body_at ∷ more) next refl (omega (arith, e)) h in
        (at + 17, c.0, holds (at + 17) (branch_to body_at) (Branch body_at) more next c.1 (decode_branch body_at lt), (let f : following (at + 17) ≡ out_at = omega (arith, e) in f))

    abbrev Fits : Bool → Node → Type 0
    Fits in_do node = (test node ≡ true) × (inside test node ≡ true) × (leave_fits in_do node ≡ true)

    abbrev AllFit : Bool → Nodes → Type 0
    AllFit in_do nodes = (everywhere test nodes ≡ true) × (leaves_fit in_do nodes ≡ true)

    abbrev ArmsFit : Bool → Arms → Type 0
    ArmsFit in_do arms = (in_arms test arms ≡ true) × (arms_fit in_do arms ≡ true)

    -- the parts of an item fit
    two_fit : (in_do : Bool) (first second : Nodes) →
        (everywhere test first && everywhere test second) ≡ true →
        (leaves_fit in_do first && leaves_fit in_do second) ≡ true → AllFit in_do first × AllFit in_do second
    two_fit in_do first second e f =
        let items = both (everywhere test first) (everywhere test second) e in
        let leaves = both (leaves_fit in_do first) (leaves_fit in_do second) f in
        ((items.0, leaves.0), (items.1, leaves.1))

    list_fits : (in_do : Bool) (node : Node) (rest : Nodes) → AllFit in_do (Then node rest) → Fits in_do node × AllFit in_do rest
    list_fits in_do node rest fit =
        let more = both (test node && inside test node) (everywhere test rest) fit.0 in
        let one = both (test node) (inside test node) more.0 in
        let leaves = both (leave_fits in_do node) (leaves_fit in_do rest) fit.1 in
        ((one.0, one.1, leaves.0), (more.1, leaves.1))

    arm_fits : (in_do : Bool) (tests body : Nodes) (others : Arms) → ArmsFit in_do (Arm tests body others) → AllFit in_do tests × AllFit in_do body × ArmsFit in_do others
    arm_fits in_do tests body others fit =
        let a = both (everywhere test tests && everywhere test body) (in_arms test others) fit.0 in
        let b = both (everywhere test tests) (everywhere test body) a.0 in
        let c = both (leaves_fit in_do tests && leaves_fit in_do body) (arms_fit in_do others) fit.1 in
        let d = both (leaves_fit in_do tests) (leaves_fit in_do body) c.0 in
        ((b.0, d.0), (b.1, d.1), (a.1, c.1))

    -- a loop, by where its body stands
    loop_stands : (Body : Option ℕ → ℕ → (ℕ → Type 0) → Type 0) (body : Nodes) (plus : Bool) (at last : ℕ) (inner : List ℕ) (K : ℕ → Type 0) →
        length inner ≡ size false true body → StandIn code at (loop_code at body plus inner) last →
        last ≡ at + (8 + size false true body + turn_size plus + 4) → last < 8192 →
        (StandIn code (at + 8) inner (at + 8 + size false true body) → slice_index code (out_place at body plus) ≡ 0x6B8D →
        Body (Some (out_place at body plus)) (at + 8) (λ e. e ≡ at + 8 + size false true body)) → K last → LoopStands code place p Body plus at K
    loop_stands Body body plus at last inner K e h end n body_stands k =
        let drop_at = out_place at body plus in
        let after = turn_cells plus (at + 8) (out_place at body plus) ++ out_cells in
        let c = cut at 8 do_cells (inner ++ after) last refl (omega (arith, n, end)) h in
        let d = cut (at + 8) (size false true body) inner after last e (omega (arith, n, end)) c.1 in
        let g = cut (at + 8 + size false true body) (turn_size plus) (turn_cells plus (at + 8) (out_place at body plus)) out_cells last (turn_size_is plus (at + 8) (out_place at body plus)) (omega (arith, n, end)) d.1 in
        record {
          body_at = at + 8;
          turn_at = at + 8 + size false true body;
          out_at = drop_at;
          next = last;
          begins = c.0;
          body = body_stands d.0 g.1.0;
          turn = turn_stands plus (at + 8 + size false true body) (at + 8) drop_at out_cells last d.1 (omega (arith, n, end)) refl (omega (arith, n, end));
          drops = g.1;
          onward = k;
        }

    -- OVER OVER = and what follows it, where ?DO leaves its loop out or not
    skip_stands : (at loop_at end_at last : ℕ) (more : List ℕ) → StandIn code at (q_do_cells loop_at end_at ++ more) last → loop_at ≡ at + 7 → loop_at < 8192 →
        end_at < 8192 → SkipStands code place p at loop_at end_at × StandIn code (at + 7) more last
    skip_stands at loop_at end_at last more h e lt lt' =
        let c = cut at 3 (0x6181 ∷ 0x6181 ∷ 0x6703 ∷ []) (branch_to loop_at ∷ 0x6103 ∷ 0x6103 ∷ jump_to end_at ∷ more) last refl (omega (arith, e)) h in
        let d = onward (at + 3) (branch_to loop_at) (0x6103 ∷ 0x6103 ∷ jump_to end_at ∷ more) last (omega (arith, e)) c.1 in
        let g = cut (at + 3 + 1) 2 (0x6103 ∷ 0x6103 ∷ []) (jump_to end_at ∷ more) last refl (omega (arith, e)) d in
        let j = onward (at + 3 + 1 + 2) (jump_to end_at) more last (omega (arith, e)) g.1 in
        let there : at + 3 + 1 + 2 + 1 ≡ at + 7 = omega arith in (
          record {
            test = at + 3;
            jump_at = at + 3 + 1 + 2;
            compares = c.0;
            branch = holds (at + 3) (branch_to loop_at) (Branch loop_at) (0x6103 ∷ 0x6103 ∷ jump_to end_at ∷ more) last c.1 (decode_branch loop_at lt);
            drops = subst (λ x. StandIn code x (0x6103 ∷ 0x6103 ∷ []) (at + 3 + 1 + 2)) (sym (next_is (at + 3) (omega (arith, e)))) g.0;
            jump = holds (at + 3 + 1 + 2) (jump_to end_at) (Jump end_at) more last g.1 (decode_jump end_at lt');
          },
          subst (λ x. StandIn code x more last) there j,
        )

    -- OF
    of_stands : (at body_at other_at last : ℕ) (more : List ℕ) → StandIn code at (of_cells other_at ++ more) last → body_at ≡ at + 4 → body_at < 8192 →
        other_at < 8192 → OfStands code place p at body_at other_at × StandIn code body_at more last
    of_stands at body_at other_at last more h e lt lt' =
        let c = cut at 2 (0x6181 ∷ 0x6703 ∷ []) (branch_to other_at ∷ 0x6103 ∷ more) last refl (omega (arith, e)) h in
        let d = onward (at + 2) (branch_to other_at) (0x6103 ∷ more) last (omega (arith, e)) c.1 in
        let g = cut (at + 2 + 1) 1 (0x6103 ∷ []) more last refl (omega (arith, e)) d in
        let there : at + 2 + 1 + 1 ≡ body_at = omega (arith, e) in (
          (
            at + 2,
            c.0,
            holds (at + 2) (branch_to other_at) (Branch other_at) (0x6103 ∷ more) last c.1 (decode_branch other_at lt'),
            subst (StandIn code (following (at + 2)) (0x6103 ∷ [])) there (subst (λ x. StandIn code x (0x6103 ∷ []) (at + 2 + 1 + 1)) (sym (next_is (at + 2) (omega (arith, e)))) g.0),
          ),
          subst (λ x. StandIn code x more last) there g.1,
        )

    mutual
      placed : (node : Node) (tail in_do : Bool) (out : Option ℕ) (out_at at : ℕ) (K : ℕ → Type 0) → Fits in_do node → (in_do ≡ true → out ≡ Some out_at) → out_at < 8192 →
          StandIn code at (node_cells p.data_start place out_at at tail true node) (at + node_size tail true node) → at + node_size tail true node < 8192 →
          (falls_through tail node ≡ true → K (at + node_size tail true node)) → Placed code place p out at tail node K
      placed (Literal value) tail in_do out out_at at K fit inner lt h n k = (at + length (number_cells value), (let e = laid_by (Literal value) fit.0 in grind (arith, nat_tests)), h, k refl)
      placed (Plain word) tail in_do out out_at at K fit inner lt h n k = word_placed word (routine_of word) tail at K refl fit.0 (laid_by (Plain word) fit.0) h n k
      placed (Call d) tail in_do out out_at at K fit inner lt h n k = ((let e = laid_by (Call d) fit.0 in grind (arith, nat_tests)), call_stands tail (Definition d) at K h n k)
      placed (Child d address) tail in_do out out_at at K fit inner lt h n k =
          let next = at + length (number_cells address) in
          let last = at + (length (number_cells address) + 1) in
          let fits = both (nat_lt d (length p.bodies)) (nat_lt address 0x8000) (laid_by (Child d address) fit.0) in
          let c = cut at (length (number_cells address)) (number_cells address) (call_cell tail (place (Definition d)) ∷ []) last refl (omega (arith, n)) h in
          let e : last ≡ next + 1 = omega arith in record {
            next = next;
            small = (let e = fits.1 in grind (arith, nat_tests));
            number = c.0;
            known = (let e = fits.0 in grind (arith, nat_tests));
            call = call_stands tail (Definition d) next K (subst (StandIn code next (call_cell tail (place (Definition d)) ∷ [])) e c.1) (omega (arith, n)) (λ g. subst K e (k g));
          }
      placed (Text kind address characters) tail in_do out out_at at K fit inner lt h n k =
          let middle = at + length (number_cells address) in
          let next = at + length (number_cells address) + length (number_cells characters) in
          let last = at + (length (number_cells address) + length (number_cells characters) + text_size kind) in
          let after = number_cells characters ++ text_cells place tail kind in
          let all = both (executes && text_is_laid_out words kind && nat_lt address 0x8000) (nat_lt characters 0x8000) (laid_by (Text kind address characters) fit.0) in
          let three = both (executes && text_is_laid_out words kind) (nat_lt address 0x8000) all.0 in
          let two = both executes (text_is_laid_out words kind) three.0 in
          let c = cut at (length (number_cells address)) (number_cells address) after last refl (omega (arith, n)) h in
          let d = cut middle (length (number_cells characters)) (number_cells characters) (text_cells place tail kind) last refl (omega (arith, n)) c.1 in
          let e : last ≡ next + text_size kind = omega arith in record {
            middle = middle;
            next = next;
            address_small = (let e = three.1 in grind (arith, nat_tests));
            characters_small = (let e = all.1 in grind (arith, nat_tests));
            address_stands = c.0;
            characters_stand = d.0;
            text = text_placed kind tail next K two.0 two.1 (subst (StandIn code next (text_cells place tail kind)) e d.1) (omega (arith, n)) (λ g. subst K e (k g));
          }
      placed (If first Empty) tail in_do out out_at at K fit inner lt h n k =
          let target = else_place at tail first Empty in
          let last = at + node_size tail true (If first Empty) in
          let fits = two_fit in_do first Empty fit.1 fit.2 in
          let c =
          cut (at + 1) (size tail true first) (cells_at out_at (at + 1) tail first) [] (at + node_size tail true (If first Empty))
          (size_is first p.data_start place out_at (at + 1) tail true) (omega (arith, n))
          (onward at (branch_to (else_place at tail first Empty)) (cells_at out_at (at + 1) tail first ++ [])
          (at + node_size tail true (If first Empty)) (omega (arith, n)) h) in
          let e : at + node_size tail true (If first Empty) ≡ else_place at tail first Empty = omega arith in
          let e' : at + node_size tail true (If first Empty) ≡ at + 1 + size tail true first = omega arith in
          let k' = k (either (reaches_end tail true first) true refl) in (
            target,
            holds at (branch_to (else_place at tail first Empty)) (Branch (else_place at tail first Empty)) (cells_at out_at (at + 1) tail first ++ [])
                (at + node_size tail true (If first Empty)) h (decode_branch (else_place at tail first Empty) (omega (arith, n))),
            subst (λ x. AllPlaced code place p out x tail first K) (sym (next_is at (omega (arith, n)))) (all_placed first tail in_do out out_at (at + 1) K fits.0 inner lt c.0 (omega (arith, n)) (λ g. subst K e' k')),
            subst K e k',
          )
      placed (If first (Then node rest)) tail in_do out out_at at K fit inner lt h n k =
          let second_at = else_place at tail first (Then node rest) in
          let target = else_place at tail first (Then node rest) + size tail true (Then node rest) in
          let last = at + node_size tail true (If first (Then node rest)) in
          let second = cells_at out_at (else_place at tail first (Then node rest)) tail (Then node rest) in
          let reached = reaches_end tail true first in
          let fits = two_fit in_do first (Then node rest) fit.1 fit.2 in
          let c =
          cut (at + 1) (size tail true first) (cells_at out_at (at + 1) tail first) (cell_if reached (jump_to target) ++ second) last
          (size_is first p.data_start place out_at (at + 1) tail true) (omega (arith, n))
          (onward at (branch_to second_at) (cells_at out_at (at + 1) tail first ++ (cell_if reached (jump_to target) ++ second)) last (omega (arith, n))
          h) in
          let d = cut (at + 1 + size tail true first) (size_if reached) (cell_if reached (jump_to target)) second last (if_size_is reached (jump_to target)) (omega (arith, n)) c.1 in
          let e : last ≡ target = omega arith in
          let k' : falls_through tail (If first (Then node rest)) ≡ true → K (else_place at tail first (Then node rest) + size tail true (Then node rest)) = λ g. subst K e (k g) in (
            second_at,
            holds at (branch_to second_at) (Branch second_at) (cells_at out_at (at + 1) tail first ++ (cell_if reached (jump_to target) ++ second)) last h (decode_branch second_at (omega (arith, n))),
            subst (λ x. AllPlaced code place p out x tail first (λ e. (next : ℕ) × HoldsInstruction code e (Jump next) × K next)) (sym (next_is at (omega (arith, n))))
                (all_placed first tail in_do out out_at (at + 1) (λ e. (next : ℕ) × HoldsInstruction code e (Jump next) × K next) fits.0 inner lt c.0 (omega (arith, n))
                (λ g. (
                  target,
                  holds_if reached (at + 1 + size tail true first) (jump_to target) (Jump target) (at + 1 + size tail true first + size_if reached) g d.0
                      (decode_jump target (omega (arith, n))),
                  k' (ap (λ b. b || reaches_end tail true (Then node rest)) g),
                ))),
            all_placed (Then node rest) tail in_do out out_at (else_place at tail first (Then node rest)) K fits.1 inner lt
                (subst (StandIn code (else_place at tail first (Then node rest)) second) e d.1) (omega (arith, n))
                (λ g. k' (either (reaches_end tail true first) (reaches_end tail true (Then node rest)) g)),
          )
      placed (Until body) tail in_do out out_at at K fit inner lt h n k =
          let end = at + size false true body in
          let c = cut at (size false true body) (cells_at out_at at false body) (branch_to at ∷ []) (at + (size false true body + 1)) (size_is body p.data_start place out_at at false true) (omega (arith, n)) h in
          let e : at + (size false true body + 1) ≡ following (at + size false true body) = omega (arith, n) in (
            end,
            all_placed body false in_do out out_at at (λ x. x ≡ end) (fit.1, fit.2) inner lt c.0 (omega (arith, n)) (λ g. refl),
            holds end (branch_to at) (Branch at) [] (at + (size false true body + 1)) c.1 (decode_branch at (omega (arith, n))),
            subst K e (k refl),
          )
      placed (While test body) tail in_do out out_at at K fit inner lt h n k =
          let test_end = at + size false true test in
          let body_end = while_place at test + size false true body in
          let next = while_place at test + size false true body + 1 in
          let last = at + node_size tail true (While test body) in
          let body_cells = cells_at out_at (while_place at test) false body in
          let fits = two_fit in_do test body fit.1 fit.2 in
          let c = cut at (size false true test) (cells_at out_at at false test) (branch_to next ∷ (body_cells ++ jump_to at ∷ [])) last (size_is test p.data_start place out_at at false true) (omega (arith, n)) h in
          let d =
          cut (while_place at test) (size false true body) body_cells (jump_to at ∷ []) last
          (size_is body p.data_start place out_at (while_place at test) false true) (omega (arith, n))
          (onward (at + size false true test) (branch_to next) (body_cells ++ jump_to at ∷ []) last (omega (arith, n)) c.1) in
          let e : last ≡ next = omega arith in record {
            test_end = test_end;
            body_end = body_end;
            next = next;
            test = all_placed test false in_do out out_at at (λ x. x ≡ test_end) fits.0 inner lt c.0 (omega (arith, n)) (λ g. refl);
            branch = holds test_end (branch_to next) (Branch next) (body_cells ++ jump_to at ∷ []) last c.1 (decode_branch next (omega (arith, n)));
            body = subst (λ x. AllPlaced code place p out x false body (λ y. y ≡ body_end)) (sym (next_is test_end (omega (arith, n))))
                (all_placed body false in_do out out_at (while_place at test) (λ x. x ≡ body_end) fits.1 inner lt d.0 (omega (arith, n)) (λ g. refl));
            jump = holds body_end (jump_to at) (Jump at) [] last d.1 (decode_jump at (omega (arith, n)));
            onward = subst K e (k refl);
          }
      placed (Again body) tail in_do out out_at at K fit inner lt h n k =
          let end = at + size false true body in
          let c = cut at (size false true body) (cells_at out_at at false body) (jump_to at ∷ []) (at + (size false true body + 1)) (size_is body p.data_start place out_at at false true) (omega (arith, n)) h in (
            end,
            all_placed body false in_do out out_at at (λ x. x ≡ end) (fit.1, fit.2) inner lt c.0 (omega (arith, n)) (λ g. refl),
            holds end (jump_to at) (Jump at) [] (at + (size false true body + 1)) c.1 (decode_jump at (omega (arith, n))),
          )
      placed (Do body plus) tail in_do out out_at at K fit inner lt h n k =
          loop_stands (λ o q L. AllPlaced code place p o q false body L) body plus at (at + node_size tail true (Do body plus))
          (cells_at (out_place at body plus) (at + 8) false body) K (size_is body p.data_start place (out_place at body plus) (at + 8) false true) h refl n
          (λ stands drop.
          all_placed body false true (Some (out_place at body plus)) (out_place at body plus) (at + 8) (λ x. x ≡ at + 8 + size false true body)
          (fit.1, fit.2) (λ t. refl) (omega (arith, n)) stands (omega (arith, n)) (λ g. refl)) (k refl)
      placed (QDo body plus) tail in_do out out_at at K fit inner lt h n k =
          let last = at + node_size tail true (QDo body plus) in
          let end_at = out_place (at + 7) body plus + 4 in
          let body_code = cells_at (out_place (at + 7) body plus) (at + 7 + 8) false body in
          let e : last ≡ end_at = omega arith in
          let s = skip_stands at (at + 7) end_at last (loop_code (at + 7) body plus body_code) h refl (omega (arith, n)) (omega (arith, n)) in record {
            loop_at = at + 7;
            end_at = end_at;
            skip = s.0;
            onward = subst K e (k refl);
            loop = loop_stands (λ o q L. AllPlaced code place p o q false body L) body plus (at + 7) last body_code K (size_is body p.data_start place (out_place (at + 7) body plus) (at + 7 + 8) false true) s.1 (omega arith) n
                (λ stands drop.
                all_placed body false true (Some (out_place (at + 7) body plus)) (out_place (at + 7) body plus) (at + 7 + 8)
                (λ x. x ≡ at + 7 + 8 + size false true body) (fit.1, fit.2) (λ t. refl) (omega (arith, n)) stands (omega (arith, n)) (λ g. refl))
                (k refl);
          }
      placed (Case arms rest) tail in_do out out_at at K fit inner lt h n k =
          let last = at + node_size tail true (Case arms rest) in
          let rest_at = at + arms_size tail arms in
          let drop_at = rest_at + size false true rest in
          let end_at = at + arms_size tail arms + size false true rest + 1 in
          let rest_code = cells_at out_at rest_at false rest in
          let items = both (in_arms test arms) (everywhere test rest) fit.1 in
          let leaves = both (arms_fit in_do arms) (leaves_fit in_do rest) fit.2 in
          let e : last ≡ end_at = omega arith in
          let c = cut at (arms_size tail arms) (arms_cells p.data_start place out_at at tail end_at arms) (rest_code ++ end_case_cells) last (arms_size_is arms p.data_start place out_at at tail end_at) (omega (arith, n)) h in
          let d = cut rest_at (size false true rest) rest_code end_case_cells last (size_is rest p.data_start place out_at rest_at false true) (omega (arith, n)) c.1 in
          arms_placed arms tail in_do out out_at at end_at K
          (λ q. LastStands code place p (λ L. AllPlaced code place p out q false rest L) K) (items.0, leaves.0) inner lt c.0 (omega (arith, n)) (omega (arith, n)) (subst K e (k refl))
          (record {
            drop_at = drop_at;
            next = last;
            rest = all_placed rest false in_do out out_at rest_at (λ x. x ≡ drop_at) (items.1, leaves.1) inner lt d.0 (omega (arith, n)) (λ g. refl);
            drops = d.1;
            onward = k refl;
          })
      placed Leave tail in_do out out_at at K fit inner lt h n k = (out_at, inner fit.2, holds at (jump_to out_at) (Jump out_at) [] (at + 1) h (decode_jump out_at lt))
      placed Exit tail in_do out out_at at K fit inner lt h n k = holds at return_cell (decoded 0x700C) [] (at + 1) h refl

      pub all_placed : (nodes : Nodes) (tail in_do : Bool) (out : Option ℕ) (out_at at : ℕ) (K : ℕ → Type 0) → AllFit in_do nodes → (in_do ≡ true → out ≡ Some out_at) → out_at < 8192 →
          StandIn code at (nodes_cells p.data_start place out_at at tail true nodes) (at + size tail true nodes) → at + size tail true nodes < 8192 →
          (reaches_end tail true nodes ≡ true → K (at + size tail true nodes)) → AllPlaced code place p out at tail nodes K
      all_placed Empty tail in_do out out_at at K fit inner lt h n k = let e : at + 0 ≡ at = omega arith in subst K e (k refl)
      all_placed (Then node rest) tail in_do out out_at at K fit inner lt h n k =
          let fits = list_fits in_do node rest fit in
          let here = is_tail rest tail in
          let reached = falls_through here node in
          let middle = at + node_size here true node in
          let c =
          cut at (node_size here true node) (node_cells p.data_start place out_at at here true node)
          (nodes_cells p.data_start place out_at middle tail reached rest) (at + (node_size here true node + size tail reached rest))
          (node_size_is node p.data_start place out_at at here true) (omega (arith, n)) h in
          let e : at + (node_size here true node + size tail reached rest) ≡ at + node_size here true node + size tail reached rest = omega arith in
          -- what is asked of the items behind it, to which code leads or not
          let Behind : Bool → Type 0 = λ reached.
          StandIn code middle (nodes_cells p.data_start place out_at middle tail reached rest) (middle + size tail reached rest)
          × (middle + size tail reached rest < 8192) × (reaches_end tail reached rest ≡ true → K (middle + size tail reached rest)) in
          let behind : Behind reached = (subst (StandIn code middle (nodes_cells p.data_start place out_at middle tail reached rest)) e c.1, omega (arith, n), λ g. subst K e (k g)) in
          placed node here in_do out out_at at (λ q. AllPlaced code place p out q tail rest K) fits.0 inner lt c.0 (omega (arith, n))
          (λ g. let b = subst Behind g behind in all_placed rest tail in_do out out_at middle K fits.1 inner lt b.0 b.1 b.2)

      arms_placed : (arms : Arms) (tail in_do : Bool) (out : Option ℕ) (out_at at end_at : ℕ) (K L : ℕ → Type 0) → ArmsFit in_do arms → (in_do ≡ true → out ≡ Some out_at) → out_at < 8192 →
          StandIn code at (arms_cells p.data_start place out_at at tail end_at arms) (at + arms_size tail arms) → at + arms_size tail arms < 8192 →
          end_at < 8192 → K end_at → L (at + arms_size tail arms) → ArmsPlaced code place p out at tail arms K L
      arms_placed NoArm tail in_do out out_at at end_at K L fit inner lt h n low k l = let e : at + 0 ≡ at = omega arith in subst L e l
      arms_placed (Arm tests body others) tail in_do out out_at at end_at K L fit inner lt h n low k l =
          let fits = arm_fits in_do tests body others fit in
          let of_at = at + size false true tests in
          let body_at = arm_place at tests in
          let other_at = others_place at tail tests body in
          let reached = reaches_end tail true body in
          let last = at + arms_size tail (Arm tests body others) in
          let tests_code = cells_at out_at at false tests in
          let body_code = cells_at out_at body_at tail body in
          let others_code = arms_cells p.data_start place out_at other_at tail end_at others in
          let own = size false true tests + 4 + size tail true body + size_if reached in
          let a =
          cut at own (arm_code at tail end_at tests body tests_code body_code) others_code last
          (arm_size_is at tail end_at tests body tests_code body_code (size_is tests p.data_start place out_at at false true)
          (size_is body p.data_start place out_at body_at tail true)) (omega (arith, n)) h in
          let c = cut at (size false true tests) tests_code (of_cells other_at ++ (body_code ++ cell_if reached (jump_to end_at))) (at + own) (size_is tests p.data_start place out_at at false true) (omega (arith, n)) a.0 in
          let o = of_stands of_at body_at other_at (at + own) (body_code ++ cell_if reached (jump_to end_at)) c.1 refl (omega (arith, n)) (omega (arith, n)) in
          let d = cut body_at (size tail true body) body_code (cell_if reached (jump_to end_at)) (at + own) (size_is body p.data_start place out_at body_at tail true) (omega (arith, n)) o.1 in
          let e : at + own ≡ other_at = omega arith in
          let e' : last ≡ other_at + arms_size tail others = omega arith in record {
            of_at = of_at;
            body_at = body_at;
            other_at = other_at;
            tests = all_placed tests false in_do out out_at at (λ x. x ≡ of_at) fits.0 inner lt c.0 (omega (arith, n)) (λ g. refl);
            chooses = o.0;
            body = all_placed body tail in_do out out_at body_at (λ x. (end_at : ℕ) × HoldsInstruction code x (Jump end_at) × K end_at) fits.1 inner lt d.0 (omega (arith, n))
                (λ g. (end_at, holds_if reached (body_at + size tail true body) (jump_to end_at) (Jump end_at) (at + own) g d.1 (decode_jump end_at low), k));
            others = arms_placed others tail in_do out out_at other_at end_at K L fits.2 inner lt (subst (StandIn code other_at others_code) e' (subst (λ x. StandIn code x others_code last) e a.1)) (omega (arith, n)) low k (subst L e' l);
          }

    -- ---- tokens

    -- that of a word, by its own cells or by its routine
    word_token_stands : (word : Word) (found : Option ℕ) (at : ℕ) → library_number word ≡ found → word_is_laid_out false words (numbered found) word ≡ true →
        StandIn code at (word_token_cells p.data_start found word) (at + word_token_size found word) → at + word_token_size found word < 8192 →
        ((next : ℕ) × (stands_plain word ≡ true) × StandIn code (word_token_place place at found) (cells_from p.data_start word) next × Returns code place p next) ⊎ IsRoutine p.data_start code word (word_token_place place at found)
    word_token_stands word None at is fit h n =
        let c = cut at (length (cells_of word)) (cells_from p.data_start word) (return_cell ∷ []) (at + (length (cells_of word) + 1)) (from_size p.data_start word) (omega (arith, n)) h in
        inl (at + length (cells_of word), fit, c.0, holds (at + length (cells_of word)) return_cell (decoded 0x700C) [] (at + (length (cells_of word) + 1)) c.1 refl)
    word_token_stands word (Some number) at is fit h n = inr (routine word number is (let e = fit in grind (arith, nat_tests)))

    -- the code of a token stands where it was laid
    token_stands : (node : Node) (at : ℕ) → token_is_laid_out words (length p.bodies) node ≡ true →
        StandIn code at (token_cells p.data_start place node) (at + token_size node) → at + token_size node < 8192 →
        TokenStands code place p node (token_place place at node)
    token_stands (Literal value) at fit h n =
        let next = at + length (number_cells value) in
        let last = at + (length (number_cells value) + 1) in
        let c = cut at (length (number_cells value)) (number_cells value) (return_cell ∷ []) last refl (omega (arith, n)) h in
        (next, (let e = fit in grind (arith, nat_tests)), c.0, holds next return_cell (decoded 0x700C) [] last c.1 refl)
    token_stands (Plain word) at fit h n =
        let f = both (may_be_token (Plain word)) (is_laid_out false words (length p.bodies) (Plain word)) fit in
        (f.0, word_token_stands word (library_number word) at refl (ap (λ r. word_is_laid_out false words r word) (sym (routine_is word f.0)) ∙ f.1) h n)
    token_stands (Call d) at fit h n = ((let e = fit in grind (arith, nat_tests)), refl)
    token_stands (Child d address) at fit h n =
        let target = place (Definition d) in
        let next = at + length (number_cells address) in
        let last = at + (length (number_cells address) + 1) in
        let f = both (nat_lt d (length p.bodies)) (nat_lt address 0x8000) fit in
        let c = cut at (length (number_cells address)) (number_cells address) (jump_to target ∷ []) last refl (omega (arith, n)) h in record {
          next = next;
          small = (let e = f.1 in grind (arith, nat_tests));
          number = c.0;
          known = (let e = f.0 in grind (arith, nat_tests));
          call = holds next (jump_to target) (Jump target) [] last c.1 (decode_jump target (low (Definition d)));
        }
    token_stands (Text kind address characters) at fit h n = absurd (let e : false ≡ true = fit in cc)
    token_stands (If first second) at fit h n = absurd (let e : false ≡ true = fit in cc)
    token_stands (Until body) at fit h n = absurd (let e : false ≡ true = fit in cc)
    token_stands (While test body) at fit h n = absurd (let e : false ≡ true = fit in cc)
    token_stands (Again body) at fit h n = absurd (let e : false ≡ true = fit in cc)
    token_stands (Do body plus) at fit h n = absurd (let e : false ≡ true = fit in cc)
    token_stands (QDo body plus) at fit h n = absurd (let e : false ≡ true = fit in cc)
    token_stands (Case arms rest) at fit h n = absurd (let e : false ≡ true = fit in cc)
    token_stands Leave at fit h n = absurd (let e : false ≡ true = fit in cc)
    token_stands Exit at fit h n = absurd (let e : false ≡ true = fit in cc)

    word_place_low : (found : Option ℕ) (at : ℕ) → at < 8192 → word_token_place place at found < 8192
    word_place_low None at lt = lt
    word_place_low (Some number) at lt = low (Library number)

    token_place_low : (node : Node) (at : ℕ) → at < 8192 → token_place place at node < 8192
    token_place_low (Call d) at lt = low (Definition d)
    token_place_low (Plain word) at lt = word_place_low (library_number word) at lt
    token_place_low node at lt = lt

    -- each token's jump leads to its code
    pub tokens_stand : (tokens : List Node) (jump_at at next next' : ℕ) → list_all (token_is_laid_out words (length p.bodies)) tokens ≡ true →
        StandIn code jump_at (token_jumps place at tokens) next → StandIn code at (tokens_cells p.data_start place tokens) next' →
        jump_at + length tokens < 8192 → at + length (tokens_cells p.data_start place tokens) < 8192 →
        (k : ℕ) (node : Node) → slice_get tokens k ≡ Some node → (target : ℕ) × HoldsInstruction code (jump_at + k) (Jump target) × TokenStands code place p node target
    tokens_stand [] jump_at at next next' fit j h n n' k node found = let f : None ≡ Some node = (sym (slice_get_past [] k (omega arith)) ∙ found) in cc
    tokens_stand (token ∷ tokens) jump_at at next next' fit j h n n' zero node found =
        let e : token ≡ node = cc in
        let len = length-append (token_cells p.data_start place token) (tokens_cells p.data_start place tokens) in
        let f = both (token_is_laid_out words (length p.bodies) token) (list_all (token_is_laid_out words (length p.bodies)) tokens) fit in
        let c = cut at (token_size token) (token_cells p.data_start place token) (tokens_cells p.data_start place tokens) next' (token_size_is token p.data_start place) (omega (arith, n', len, token_size_is token p.data_start place)) h in
        let same : jump_at + 0 ≡ jump_at = omega arith in (
          token_place place at token,
          subst (λ q. HoldsInstruction code q (Jump (token_place place at token))) (sym same)
              (holds jump_at (jump_to (token_place place at token)) (Jump (token_place place at token)) (token_jumps place (at + token_size token) tokens) next
              j (decode_jump (token_place place at token) (token_place_low token at (omega arith)))),
          subst (λ x. TokenStands code place p x (token_place place at token)) e (token_stands token at f.0 c.0 (omega (arith, n', len, token_size_is token p.data_start place))),
        )
    tokens_stand (token ∷ tokens) jump_at at next next' fit j h n n' (suc k) node found =
        let len = length-append (token_cells p.data_start place token) (tokens_cells p.data_start place tokens) in
        let f = both (token_is_laid_out words (length p.bodies) token) (list_all (token_is_laid_out words (length p.bodies)) tokens) fit in
        let c = cut at (token_size token) (token_cells p.data_start place token) (tokens_cells p.data_start place tokens) next' (token_size_is token p.data_start place) (omega (arith, n', len, token_size_is token p.data_start place)) h in
        let j' = onward jump_at (jump_to (token_place place at token)) (token_jumps place (at + token_size token) tokens) next (omega arith) j in
        let r = tokens_stand tokens (jump_at + 1) (at + token_size token) next next' f.1 j' c.1 (omega arith) (omega (arith, n', len, token_size_is token p.data_start place)) k node found in
        let same : jump_at + 1 + k ≡ jump_at + suc k = omega arith in
        (r.0, subst (λ q. HoldsInstruction code q (Jump r.0)) same r.1, r.2)
