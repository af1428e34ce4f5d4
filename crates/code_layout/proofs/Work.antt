-- Where the code of work stands: each item at a place, and then the code of what follows it.
use Rattle.std.proofs.Common.{◌≡◌, ℕ, ◌+◌, ◌*◌, ◌<◌, ◌≤◌, ◌⊎◌, inl, inr, Bool, true, false, List, [], ◌∷◌, length, Option, Some, None, refl, sym, ap, subst, arith}
use Rattle.j1_table.specs.declared.instr.Instr.TheVariants.{Jump, Branch, Call as CallTo}
use Rattle.j1_table.specs.Instruction.{decoded}
use Rattle.j1_simulator.specs.Effect.{following}
use Rattle.word_table.specs.Table.{cells_from}
use Rattle.forth_program.specs.Tree.{Node, Nodes, Arms, Literal, Plain, Call, Child, Text, If, Until, While, Again, Do, QDo, Case, Leave, Exit, Empty, Then, NoArm, Arm}
use Rattle.forth_program.specs.State.{Entry, Cell, Loop, Work, Todo, TrueEnd, UntilTest, WhileTest, Repeat, BeginAgain, Turn, OfTest, EndOf, EndCase, Frame, World, State, Halted}
use Rattle.forth_program.specs.Tail.{is_tail, ends_body}
use Rattle.forth_program.specs.Program.{SourceProgram, token_of}
use Rattle.forth_program.specs.Form.{may_be_token, has_no_go}
use Rattle.forth_program.specs.Step.{First, BodyEnd, IsLiteral, IsWord, IsCall, IsChild, IsText, IsIf, IsTrueEnd, IsUntil, IsWhile, IsRepeat, IsAgain, IsDo}
use Rattle.forth_program.specs.Step.{IsQDo, IsTurn, IsOf, IsEndOf, IsEndCase, IsLeave, IsExit, before, first_in, first_among, first_work}
use Rattle.forth_program.specs.Cells.{AreCells, AreEntries, IsWorld}
use Rattle.word_laws.specs.Control.{HoldsInstruction}
use Rattle.word_laws.specs.Numbers.{number_cells}
use Rattle.word_laws.specs.Standing.{return_places, standing_at_depths, StandIn, machine_at}
use Rattle.word_laws.specs.Words.{stands_plain}
use Rattle.word_table.specs.declared.word.Word.{Word}
use Rattle.word_table.specs.declared.word.Word.TheVariants.{Execute, Go, TypeOut}
use Rattle.forth_program.specs.declared.item.TextKind.{TextKind}
use Rattle.forth_program.specs.declared.item.TextKind.TheVariants as text
use Rattle.word_laws.specs.Rings.{OpenConfiguration}
use Rattle.code_layout.proofs.Machine.{Runs}
use Rattle.code_layout.proofs.Routines.{places_below, Stopped, IsRoutine, IsAborter}
use Rattle.code_layout.specs.Layout.{Routine, Definition, Leaving, do_cells, loop_cells, plus_loop_cells, out_cells, end_case_cells}
use Rattle.forth_program.specs.Heights.{entries_height, address_height, callers_height}
use Rattle.forth_program.specs.SourceTokens.{node_tokens, tokens_of}

-- the tokens up to the first mark that takes instructions, which bound the word steps that take none
abbrev pub ahead : List Work → ℕ
ahead [] = 0
ahead (Todo node ∷ w) = node_tokens node + ahead w
ahead (TrueEnd ∷ w) = 1 + ahead w
ahead (UntilTest body ∷ w) = 0
ahead (WhileTest test body ∷ w) = 0
ahead (Repeat test body ∷ w) = 0
ahead (BeginAgain body ∷ w) = 0
ahead (Turn body plus ∷ w) = 0
ahead (OfTest body others rest ∷ w) = 0
ahead (EndOf ∷ w) = 1 + ahead w
ahead (EndCase ∷ w) = 0

-- the word steps that are left in frames that made their last call: no instruction is left for them
abbrev pub steps_left : Bool → List Work → ℕ
steps_left true w = 1 + ahead w
steps_left false w = 0

abbrev pub unfinished : List Frame → ℕ
unfinished [] = 0
unfinished (f ∷ fs) = steps_left (ends_body f.work) f.work + unfinished fs

pub places_height : (es : List Entry) (base : List (Option ℕ)) → length (return_places es base) ≡ entries_height es + length base
places_height [] base = omega arith
places_height (Cell value ∷ es) base = omega (arith, places_height es base)
places_height (Loop limit index ∷ es) base = omega (arith, places_height es base)

module _ (code : List ℕ) (place : Routine → ℕ) (p : SourceProgram) where
  abbrev pub Returns : ℕ → Type 0
  Returns pc = HoldsInstruction code pc (decoded 0x700C)

  -- the end of a turn at a place, where the body and what drops the loop stand
  abbrev pub TurnStands : Bool → ℕ → ℕ → ℕ → Type 0
  TurnStands false pc body_at out_at = (test : ℕ) × StandIn code pc loop_cells test × HoldsInstruction code test (Branch out_at) × HoldsInstruction code (following test) (Jump body_at)
  TurnStands true pc body_at out_at = (test : ℕ) × StandIn code pc plus_loop_cells test × HoldsInstruction code test (Branch body_at) × (following test ≡ out_at)

  -- a call stands at a place: a jump where it is in tail position, and else K holds of where it returns to
  abbrev pub CallStands : Bool → ℕ → ℕ → Type 0 → Type 0
  CallStands true pc target K = HoldsInstruction code pc (Jump target)
  CallStands false pc target K = HoldsInstruction code pc (CallTo target) × K

  -- a DO loop stands at a place, by where its body stands
  pub record LoopStands (BodyStands : Option ℕ → ℕ → (ℕ → Type 0) → Type 0) (plus : Bool) (pc : ℕ) (K : ℕ → Type 0) : Type 0 where
    pub body_at : ℕ
    pub turn_at : ℕ
    pub out_at : ℕ
    pub next : ℕ
    pub begins : StandIn code pc do_cells body_at
    pub body : BodyStands (Some out_at) body_at (λ e. e ≡ turn_at)
    pub turn : TurnStands plus turn_at body_at out_at
    pub drops : StandIn code out_at out_cells next
    pub onward : K next

  -- what ?DO does before its loop: the test, and the way around the loop
  pub record SkipStands (pc loop_at end_at : ℕ) : Type 0 where
    pub test : ℕ
    pub jump_at : ℕ
    pub compares : StandIn code pc (0x6181 ∷ 0x6181 ∷ 0x6703 ∷ []) test
    pub branch : HoldsInstruction code test (Branch loop_at)
    pub drops : StandIn code (following test) (0x6103 ∷ 0x6103 ∷ []) jump_at
    pub jump : HoldsInstruction code jump_at (Jump end_at)

  -- ?DO stands at a place, by where the body of its loop stands
  pub record MayLoopStands (BodyStands : Option ℕ → ℕ → (ℕ → Type 0) → Type 0) (plus : Bool) (pc : ℕ) (K : ℕ → Type 0) : Type 0 where
    pub loop_at : ℕ
    pub end_at : ℕ
    pub skip : SkipStands pc loop_at end_at
    pub onward : K end_at
    pub loop : LoopStands BodyStands plus loop_at K

  -- OF stands at a place, with those of its body and of the other arms
  abbrev pub OfStands : ℕ → ℕ → ℕ → Type 0
  OfStands pc body_at other_at = (test : ℕ) × StandIn code pc (0x6181 ∷ 0x6703 ∷ []) test × HoldsInstruction code test (Branch other_at) × StandIn code (following test) (0x6103 ∷ []) body_at

  -- BEGIN test WHILE body REPEAT stands at a place, by where its parts stand
  pub record BeginStands (TestStands : (ℕ → Type 0) → Type 0) (BodyStands : ℕ → (ℕ → Type 0) → Type 0) (pc : ℕ) (K : ℕ → Type 0) : Type 0 where
    pub test_end : ℕ
    pub body_end : ℕ
    pub next : ℕ
    pub test : TestStands (λ e. e ≡ test_end)
    pub branch : HoldsInstruction code test_end (Branch next)
    pub body : BodyStands (following test_end) (λ e. e ≡ body_end)
    pub jump : HoldsInstruction code body_end (Jump pc)
    pub onward : K next

  -- an arm of a case, by where its parts and the other arms stand
  pub record ArmStands (TestsStand : (ℕ → Type 0) → Type 0) (BodyStands OthersStand : ℕ → Type 0) : Type 0 where
    pub of_at : ℕ
    pub body_at : ℕ
    pub other_at : ℕ
    pub tests : TestsStand (λ e. e ≡ of_at)
    pub chooses : OfStands of_at body_at other_at
    pub body : BodyStands body_at
    pub others : OthersStand other_at

  -- the last items of a case, and ENDCASE
  pub record LastStands (RestStands : (ℕ → Type 0) → Type 0) (K : ℕ → Type 0) : Type 0 where
    pub drop_at : ℕ
    pub next : ℕ
    pub rest : RestStands (λ e. e ≡ drop_at)
    pub drops : StandIn code drop_at end_case_cells next
    pub onward : K next

  -- a child: its address, and the call of its definition
  pub record ChildStands (tail : Bool) (pc d address : ℕ) (K : ℕ → Type 0) : Type 0 where
    pub next : ℕ
    pub small : address < 32768
    pub number : StandIn code pc (number_cells address) next
    pub known : d < length p.bodies
    pub call : CallStands tail next (place (Definition d)) (K (following next))

  -- a word by its own cells, or by the call of its routine, and K holds of the place where it leads
  abbrev pub PlainStands : Bool → ℕ → Word → (ℕ → Type 0) → Type 0
  PlainStands tail pc word K =
      ((next : ℕ) × (stands_plain word ≡ true) × StandIn code pc (cells_from p.data_start word) next × K next)
      ⊎ ((at : ℕ) × CallStands tail pc at (K (following pc)) × IsRoutine p.data_start code word at)

  -- the code of a token: that of a definition or a library word, or of an item that returns, or of a child, which goes on at its
  -- definition
  abbrev pub TokenStands : Node → ℕ → Type 0
  TokenStands (Call d) at = (d < length p.bodies) × (at ≡ place (Definition d))
  TokenStands (Literal value) at = (next : ℕ) × (value < 65536) × StandIn code at (number_cells value) next × Returns next
  TokenStands (Plain word) at =
      (may_be_token (Plain word) ≡ true) × (((next : ℕ) × (stands_plain word ≡ true) × StandIn code at (cells_from p.data_start word) next × Returns next) ⊎ IsRoutine p.data_start code word at)
  TokenStands (Child d address) at = ChildStands true at d address (λ _. Unit {0})
  TokenStands node at = ⊥

  -- EXECUTE has come to the code of a token, over the same return places
  pub record Found (v : OpenConfiguration) (node : Node) (c : List ℕ) (es : List Entry) (w : World) : Type 0 where
    pub count : ℕ
    pub at : ℕ
    pub above : List (Option ℕ)
    pub above' : List (Option ℕ)
    pub runs : Runs p.data_start (length c + 3) (length (places_below es) + 1) count v (standing_at_depths (machine_at code at (places_below es) above above') c w)
    pub stands : TokenStands node at
    pub some : 1 ≤ count
    pub cheap : count ≤ 20

  -- the code at a place does what EXECUTE does
  pub record IsExecutor (at : ℕ) : Type 0 where
    pub finds : (t : ℕ) (node : Node) (c : List ℕ) (es : List Entry) (data_above return_above : List (Option ℕ)) (w : World) → token_of p t ≡ Some node → AreEntries es → AreCells (t ∷ c) → IsWorld w → w.data_start ≡ p.data_start →
        Found (standing_at_depths (machine_at code at (places_below es) data_above return_above) (t ∷ c) w) node c es w
    pub fails : (t : ℕ) (c : List ℕ) (es : List Entry) (data_above return_above : List (Option ℕ)) (w : World) → token_of p t ≡ None → AreEntries es → AreCells (t ∷ c) → IsWorld w → w.data_start ≡ p.data_start →
        Stopped p.data_start code (standing_at_depths (machine_at code at (places_below es) data_above return_above) (t ∷ c) w) 20 (length c + 3) (length (places_below es) + 1) (Halted 13) w

  abbrev pub ExecuteStands : Bool → ℕ → Word → (ℕ → Type 0) → Type 0
  ExecuteStands tail pc word K = (word ≡ Execute) × (at : ℕ) × CallStands tail pc at (K (following pc)) × IsExecutor at

  -- GO is a call of its code, in a program that has it
  abbrev pub GoStands : Bool → ℕ → Word → (ℕ → Type 0) → Type 0
  GoStands tail pc word K = (word ≡ Go) × (has_no_go p ≡ false) × CallStands tail pc (place Leaving) (K (following pc))

  -- what follows the address and the length of a text
  abbrev pub TextStands : Bool → ℕ → TextKind → (ℕ → Type 0) → Type 0
  TextStands tail pc text.Address K = K pc
  TextStands tail pc text.Print K = (at : ℕ) × CallStands tail pc at (K (following pc)) × IsRoutine p.data_start code TypeOut at
  TextStands tail pc text.Abort K = (at : ℕ) × CallStands tail pc at (K (following pc)) × IsAborter p.data_start code at

  -- a text: its address and its length, and what follows them
  pub record TextItemStands (tail : Bool) (pc : ℕ) (kind : TextKind) (address characters : ℕ) (K : ℕ → Type 0) : Type 0 where
    pub middle : ℕ
    pub next : ℕ
    pub address_small : address < 32768
    pub characters_small : characters < 32768
    pub address_stands : StandIn code pc (number_cells address) middle
    pub characters_stand : StandIn code middle (number_cells characters) next
    pub text : TextStands tail next kind K

  call_more : (tail : Bool) (pc target : ℕ) (K K' : Type 0) → (K → K') → CallStands tail pc target K → CallStands tail pc target K'
  call_more true pc target K K' f h = h
  call_more false pc target K K' f h = (h.0, f h.1)

  plain_more : (tail : Bool) (pc : ℕ) (word : Word) (K K' : ℕ → Type 0) → ((q : ℕ) → K q → K' q) → PlainStands tail pc word K → PlainStands tail pc word K'
  plain_more tail pc word K K' f (inl h) = inl (h.0, h.1, h.2, f h.0 h.3)
  plain_more tail pc word K K' f (inr h) = inr (h.0, call_more tail pc h.0 (K (following pc)) (K' (following pc)) (f (following pc)) h.1, h.2)

  text_more : (tail : Bool) (pc : ℕ) (kind : TextKind) (K K' : ℕ → Type 0) → ((q : ℕ) → K q → K' q) → TextStands tail pc kind K → TextStands tail pc kind K'
  text_more tail pc text.Address K K' f h = f pc h
  text_more tail pc text.Print K K' f h = (h.0, call_more tail pc h.0 (K (following pc)) (K' (following pc)) (f (following pc)) h.1, h.2)
  text_more tail pc text.Abort K K' f h = (h.0, call_more tail pc h.0 (K (following pc)) (K' (following pc)) (f (following pc)) h.1, h.2)

  loop_more : (B : Option ℕ → ℕ → (ℕ → Type 0) → Type 0) (plus : Bool) (pc : ℕ) (K K' : ℕ → Type 0) → ((q : ℕ) → K q → K' q) → LoopStands B plus pc K → LoopStands B plus pc K'
  loop_more B plus pc K K' f h = record {
    body_at = h.body_at;
    turn_at = h.turn_at;
    out_at = h.out_at;
    next = h.next;
    begins = h.begins;
    body = h.body;
    turn = h.turn;
    drops = h.drops;
    onward = f h.next h.onward;
  }

  last_more : (R : (ℕ → Type 0) → Type 0) (K K' : ℕ → Type 0) → ((q : ℕ) → K q → K' q) → LastStands R K → LastStands R K'
  last_more R K K' f h = record { drop_at = h.drop_at; next = h.next; rest = h.rest; drops = h.drops; onward = f h.next h.onward }

  -- an item stands at a place, in tail position or not, in a loop that is dropped at `out`, and K holds of the place where it leads
  abbrev mutual
    pub Placed : Option ℕ → ℕ → Bool → Node → (ℕ → Type 0) → Type 0
    Placed out pc tail (Literal value) K = (next : ℕ) × (value < 65536) × StandIn code pc (number_cells value) next × K next
    Placed out pc tail (Plain word) K = PlainStands tail pc word K ⊎ (ExecuteStands tail pc word K ⊎ GoStands tail pc word K)
    Placed out pc tail (Call d) K = (d < length p.bodies) × CallStands tail pc (place (Definition d)) (K (following pc))
    Placed out pc tail (Child d address) K = ChildStands tail pc d address K
    Placed out pc tail (Text kind address characters) K = TextItemStands tail pc kind address characters K
    Placed out pc tail (If first Empty) K = (next : ℕ) × HoldsInstruction code pc (Branch next) × AllPlaced out (following pc) tail first K × K next
    Placed out pc tail (If first (Then node rest)) K =
        (else_at : ℕ) × HoldsInstruction code pc (Branch else_at) × AllPlaced out (following pc) tail first (λ e. (next : ℕ) × HoldsInstruction code e (Jump next) × K next) × AllPlaced out else_at tail (Then node rest) K
    Placed out pc tail (Until body) K = (end : ℕ) × AllPlaced out pc false body (λ e. e ≡ end) × HoldsInstruction code end (Branch pc) × K (following end)
    Placed out pc tail (While test body) K = BeginStands (λ L. AllPlaced out pc false test L) (λ q L. AllPlaced out q false body L) pc K
    Placed out pc tail (Again body) K = (end : ℕ) × AllPlaced out pc false body (λ e. e ≡ end) × HoldsInstruction code end (Jump pc)
    Placed out pc tail (Do body plus) K = LoopStands (λ out q L. AllPlaced out q false body L) plus pc K
    Placed out pc tail (QDo body plus) K = MayLoopStands (λ out q L. AllPlaced out q false body L) plus pc K
    Placed out pc tail (Case arms rest) K = ArmsPlaced out pc tail arms K (λ q. LastStands (λ L. AllPlaced out q false rest L) K)
    Placed out pc tail Leave K = (out_at : ℕ) × (out ≡ Some out_at) × HoldsInstruction code pc (Jump out_at)
    Placed out pc tail Exit K = Returns pc

    pub AllPlaced : Option ℕ → ℕ → Bool → Nodes → (ℕ → Type 0) → Type 0
    AllPlaced out pc tail Empty K = K pc
    AllPlaced out pc tail (Then node rest) K = Placed out pc (is_tail rest tail) node (λ q. AllPlaced out q tail rest K)

    -- arms stand at a place, where K holds of the place behind their case, and L of the place behind them
    pub ArmsPlaced : Option ℕ → ℕ → Bool → Arms → (ℕ → Type 0) → (ℕ → Type 0) → Type 0
    ArmsPlaced out pc tail NoArm K L = L pc
    ArmsPlaced out pc tail (Arm tests body others) K L =
        ArmStands (λ M. AllPlaced out pc false tests M) (λ q. AllPlaced out q tail body (λ e. (end_at : ℕ) × HoldsInstruction code e (Jump end_at) × K end_at))
        (λ q. ArmsPlaced out q tail others K L)

  -- a weaker condition on where it leads
  mutual
    pub placed_more : (node : Node) (tail : Bool) (out : Option ℕ) (pc : ℕ) (K K' : ℕ → Type 0) → ((q : ℕ) → K q → K' q) → Placed out pc tail node K → Placed out pc tail node K'
    placed_more (Literal value) tail out pc K K' f h = (h.0, h.1, h.2, f h.0 h.3)
    placed_more (Plain word) tail out pc K K' f (inl h) = inl (plain_more tail pc word K K' f h)
    placed_more (Plain word) tail out pc K K' f (inr (inl h)) = inr (inl (h.0, h.1, call_more tail pc h.1 (K (following pc)) (K' (following pc)) (f (following pc)) h.2, h.3))
    placed_more (Plain word) tail out pc K K' f (inr (inr h)) = inr (inr (h.0, h.1, call_more tail pc (place Leaving) (K (following pc)) (K' (following pc)) (f (following pc)) h.2))
    placed_more (Call d) tail out pc K K' f h = (h.0, call_more tail pc (place (Definition d)) (K (following pc)) (K' (following pc)) (f (following pc)) h.1)
    placed_more (Child d address) tail out pc K K' f h = record {
      next = h.next;
      small = h.small;
      number = h.number;
      known = h.known;
      call = call_more tail h.next (place (Definition d)) (K (following h.next)) (K' (following h.next)) (f (following h.next)) h.call;
    }
    placed_more (Text kind address size) tail out pc K K' f h = record {
      middle = h.middle;
      next = h.next;
      address_small = h.address_small;
      characters_small = h.characters_small;
      address_stands = h.address_stands;
      characters_stand = h.characters_stand;
      text = text_more tail h.next kind K K' f h.text;
    }
    placed_more (If first Empty) tail out pc K K' f h = (h.0, h.1, all_more first tail out (following pc) K K' f h.2, f h.0 h.3)
    placed_more (If first (Then node rest)) tail out pc K K' f h = (
      h.0,
      h.1,
      all_more first tail out (following pc) (λ e. (next : ℕ) × HoldsInstruction code e (Jump next) × K next) (λ e. (next : ℕ) × HoldsInstruction code e (Jump next) × K' next) (λ e k. (k.0, k.1, f k.0 k.2)) h.2,
      placed_more node (is_tail rest tail) out h.0 (λ q. AllPlaced out q tail rest K) (λ q. AllPlaced out q tail rest K') (λ q k. all_more rest tail out q K K' f k) h.3,
    )
    placed_more (Until body) tail out pc K K' f h = (h.0, h.1, h.2, f (following h.0) h.3)
    placed_more (While test body) tail out pc K K' f h = record {
      test_end = h.test_end;
      body_end = h.body_end;
      next = h.next;
      test = h.test;
      branch = h.branch;
      body = h.body;
      jump = h.jump;
      onward = f h.next h.onward;
    }
    placed_more (Do body plus) tail out pc K K' f h = loop_more (λ out q L. AllPlaced out q false body L) plus pc K K' f h
    placed_more (Again body) tail out pc K K' f h = h
    placed_more (QDo body plus) tail out pc K K' f h = record {
      loop_at = h.loop_at;
      end_at = h.end_at;
      skip = h.skip;
      onward = f h.end_at h.onward;
      loop = loop_more (λ out q L. AllPlaced out q false body L) plus h.loop_at K K' f h.loop;
    }
    placed_more (Case arms rest) tail out pc K K' f h =
        arms_more arms tail out pc K K' (λ q. LastStands (λ L. AllPlaced out q false rest L) K) (λ q. LastStands (λ L. AllPlaced out q false rest L) K') f
        (λ q l. last_more (λ L. AllPlaced out q false rest L) K K' f l) h
    placed_more Leave tail out pc K K' f h = h
    placed_more Exit tail out pc K K' f h = h

    pub all_more : (nodes : Nodes) (tail : Bool) (out : Option ℕ) (pc : ℕ) (K K' : ℕ → Type 0) → ((q : ℕ) → K q → K' q) → AllPlaced out pc tail nodes K → AllPlaced out pc tail nodes K'
    all_more Empty tail out pc K K' f h = f pc h
    all_more (Then node rest) tail out pc K K' f h = placed_more node (is_tail rest tail) out pc (λ q. AllPlaced out q tail rest K) (λ q. AllPlaced out q tail rest K') (λ q k. all_more rest tail out q K K' f k) h

    arms_more : (arms : Arms) (tail : Bool) (out : Option ℕ) (pc : ℕ) (K K' L L' : ℕ → Type 0) → ((q : ℕ) → K q → K' q) → ((q : ℕ) → L q → L' q) → ArmsPlaced out pc tail arms K L → ArmsPlaced out pc tail arms K' L'
    arms_more NoArm tail out pc K K' L L' f g h = g pc h
    arms_more (Arm tests body others) tail out pc K K' L L' f g h = record {
      of_at = h.of_at;
      body_at = h.body_at;
      other_at = h.other_at;
      tests = h.tests;
      chooses = h.chooses;
      body =
          all_more body tail out h.body_at (λ e. (end_at : ℕ) × HoldsInstruction code e (Jump end_at) × K end_at) (λ e. (end_at : ℕ) × HoldsInstruction code e (Jump end_at) × K' end_at) (λ e k. (k.0, k.1, f k.0 k.2)) h.body;
      others = arms_more others tail out h.other_at K K' L L' f g h.others;
    }

  -- a loop whose test or body has come to its end: BEGIN body UNTIL, and BEGIN test WHILE body REPEAT
  pub record UntilStands (out : Option ℕ) (pc : ℕ) (body : Nodes) (After : ℕ → Type 0) : Type 0 where
    pub begin : ℕ
    pub branch : HoldsInstruction code pc (Branch begin)
    pub body_stands : AllPlaced out begin false body (λ e. e ≡ pc)
    pub after : After (following pc)
    pub few : tokens_of body ≤ p.source_tokens

  pub record WhileStands (out : Option ℕ) (test_end body_end : ℕ) (test body : Nodes) (After : ℕ → Type 0) : Type 0 where
    pub begin : ℕ
    pub next : ℕ
    pub test_stands : AllPlaced out begin false test (λ e. e ≡ test_end)
    pub branch : HoldsInstruction code test_end (Branch next)
    pub body_stands : AllPlaced out (following test_end) false body (λ e. e ≡ body_end)
    pub jump : HoldsInstruction code body_end (Jump begin)
    pub after : After next
    pub few : tokens_of test + tokens_of body ≤ p.source_tokens

  -- OF, whose tests have come to their end
  pub record OfTestStands (pc : ℕ) (body : Nodes) (others : Arms) (rest : Nodes) (w : List Work) (BodyStands OthersStand : ℕ → Type 0) : Type 0 where
    pub body_at : ℕ
    pub other_at : ℕ
    pub chooses : OfStands pc body_at other_at
    pub body_stands : BodyStands body_at
    pub others_stand : OthersStand other_at
    pub body_few : tokens_of body + 1 + ahead w ≤ p.source_tokens
    pub others_few : node_tokens (Case others rest) + ahead w ≤ p.source_tokens

  -- the end of a turn of a counted loop
  pub record TurnMark (out : Option ℕ) (pc : ℕ) (body : Nodes) (plus : Bool) : Type 0 where
    pub out_at : ℕ
    pub body_at : ℕ
    pub is : out ≡ Some out_at
    pub body_stands : AllPlaced out body_at false body (λ e. e ≡ pc)
    pub turn : TurnStands plus pc body_at out_at
    pub few : tokens_of body ≤ p.source_tokens

  -- work stands at a place, in a loop that is dropped at `out`. The ends of a true branch and of an arm are jumps, or a return where
  -- nothing but the end of the body is left
  abbrev pub Stands : Option ℕ → ℕ → List Work → Type 0
  Stands out pc [] = Returns pc
  Stands out pc (Todo node ∷ w) = Placed out pc (ends_body w) node (λ q. Stands out q w) × (node_tokens node + ahead w ≤ p.source_tokens)
  Stands out pc (TrueEnd ∷ w) = (((next : ℕ) × HoldsInstruction code pc (Jump next) × Stands out next w) ⊎ (Returns pc × (ends_body w ≡ true))) × (1 + ahead w ≤ p.source_tokens)
  Stands out pc (UntilTest body ∷ w) = UntilStands out pc body (λ q. Stands out q w)
  Stands out pc (WhileTest test body ∷ w) = (body_end : ℕ) × WhileStands out pc body_end test body (λ q. Stands out q w)
  Stands out pc (Repeat test body ∷ w) = (test_end : ℕ) × WhileStands out test_end pc test body (λ q. Stands out q w)
  Stands out pc (BeginAgain body ∷ w) = (begin : ℕ) × HoldsInstruction code pc (Jump begin) × AllPlaced out begin false body (λ e. e ≡ pc) × (tokens_of body ≤ p.source_tokens)
  Stands out pc (OfTest body others rest ∷ w) =
      OfTestStands pc body others rest w (λ q. AllPlaced out q (ends_body w) body (λ e. (end_at : ℕ) × HoldsInstruction code e (Jump end_at) × Stands out end_at w))
      (λ q. Placed out q (ends_body w) (Case others rest) (λ e. Stands out e w))
  Stands out pc (EndOf ∷ w) = (((next : ℕ) × HoldsInstruction code pc (Jump next) × Stands out next w) ⊎ (Returns pc × (ends_body w ≡ true))) × (1 + ahead w ≤ p.source_tokens)
  Stands out pc (EndCase ∷ w) = (next : ℕ) × StandIn code pc end_case_cells next × Stands out next w
  Stands out pc (Turn body plus ∷ w) = TurnMark out pc body plus

  -- what drops a loop stands at its end, and then what follows it
  pub record DropStands (out : Option ℕ) (After : Option ℕ → ℕ → Type 0) (Outer : Option ℕ → Type 0) : Type 0 where
    pub out_at : ℕ
    pub outer : Option ℕ
    pub next : ℕ
    pub is : out ≡ Some out_at
    pub drops : StandIn code out_at out_cells next
    pub after : After outer next
    pub loops : Outer outer

  -- what drops the innermost loop stands at `out`, and then what follows it; outside of loops there is none
  abbrev pub Loops : Option ℕ → List Work → Type 0
  Loops out [] = out ≡ None
  Loops out (Turn body plus ∷ w) = DropStands out (λ outer next. Stands outer next w) (λ outer. Loops outer w)
  Loops out (Todo node ∷ w) = Loops out w
  Loops out (TrueEnd ∷ w) = Loops out w
  Loops out (UntilTest body ∷ w) = Loops out w
  Loops out (WhileTest test body ∷ w) = Loops out w
  Loops out (Repeat test body ∷ w) = Loops out w
  Loops out (BeginAgain body ∷ w) = Loops out w
  Loops out (OfTest body others rest ∷ w) = Loops out w
  Loops out (EndOf ∷ w) = Loops out w
  Loops out (EndCase ∷ w) = Loops out w

  pub loops_before : (nodes : Nodes) (out : Option ℕ) (w : List Work) → Loops out w → Loops out (before nodes w)
  loops_before Empty out w h = h
  loops_before (Then node rest) out w h = loops_before rest out w h

  pub ahead_bound : (out : Option ℕ) (pc : ℕ) (w : List Work) → Stands out pc w → ahead w ≤ p.source_tokens
  ahead_bound out pc [] h = omega arith
  ahead_bound out pc (Todo node ∷ w) h = h.1
  ahead_bound out pc (TrueEnd ∷ w) h = h.1
  ahead_bound out pc (UntilTest body ∷ w) h = omega arith
  ahead_bound out pc (WhileTest test body ∷ w) h = omega arith
  ahead_bound out pc (Repeat test body ∷ w) h = omega arith
  ahead_bound out pc (BeginAgain body ∷ w) h = omega arith
  ahead_bound out pc (Turn body plus ∷ w) h = omega arith
  ahead_bound out pc (OfTest body others rest ∷ w) h = omega arith
  ahead_bound out pc (EndOf ∷ w) h = h.1
  ahead_bound out pc (EndCase ∷ w) h = omega arith

  pub ahead_before : (nodes : Nodes) (w : List Work) → ahead (before nodes w) ≡ tokens_of nodes + ahead w
  ahead_before Empty w = omega arith
  ahead_before (Then node rest) w = omega (arith, ahead_before rest w)

  tail_before : (nodes : Nodes) (w : List Work) → is_tail nodes (ends_body w) ≡ ends_body (before nodes w)
  tail_before Empty w = refl
  tail_before (Then Exit rest) w = refl
  tail_before (Then node rest) w = refl

  -- items in front of work
  pub stands_before : (nodes : Nodes) (out : Option ℕ) (pc : ℕ) (w : List Work) (K : ℕ → Type 0) → ((q : ℕ) → K q → Stands out q w) →
      AllPlaced out pc (ends_body w) nodes K → tokens_of nodes + ahead w ≤ p.source_tokens → Stands out pc (before nodes w)
  stands_before Empty out pc w K f h n = f pc h
  stands_before (Then node rest) out pc w K f h n = (
    subst (λ tail. Placed out pc tail node (λ q. Stands out q (before rest w))) (tail_before rest w)
        (placed_more node (is_tail rest (ends_body w)) out pc (λ q. AllPlaced out q (ends_body w) rest K) (λ q. Stands out q (before rest w)) (λ q k. stands_before rest out q w K f k (omega arith)) h),
    omega (arith, ahead_before rest w),
  )

  -- the same, up to a known place
  pub stands_to : (nodes : Nodes) (out : Option ℕ) (pc e : ℕ) (w : List Work) → AllPlaced out pc (ends_body w) nodes (λ x. x ≡ e) → Stands out e w → tokens_of nodes + ahead w ≤ p.source_tokens → Stands out pc (before nodes w)
  stands_to nodes out pc e w h s n = stands_before nodes out pc w (λ x. x ≡ e) (λ x q. subst (λ y. Stands out y w) (sym q) s) h n

  -- work that does no more than end its body stands at a return
  pub ends_at_return : (out : Option ℕ) (pc : ℕ) (w : List Work) → ends_body w ≡ true → ahead w ≤ p.source_tokens → Returns pc → Stands out pc w
  ends_at_return out pc [] e n h = h
  ends_at_return out pc (Todo Exit ∷ w) e n h = (h, n)
  ends_at_return out pc (TrueEnd ∷ w) e n h = (inr (h, e), n)
  ends_at_return out pc (EndOf ∷ w) e n h = (inr (h, e), n)
  ends_at_return out pc (work ∷ w) e n h = absurd (let f : false ≡ true = e in cc)

  -- the work that a first work came from
  abbrev pub back : First → List Work
  back BodyEnd = []
  back (IsLiteral value w) = Todo (Literal value) ∷ w
  back (IsWord word w) = Todo (Plain word) ∷ w
  back (IsCall d w) = Todo (Call d) ∷ w
  back (IsChild d address w) = Todo (Child d address) ∷ w
  back (IsText kind address size w) = Todo (Text kind address size) ∷ w
  back (IsIf first second w) = Todo (If first second) ∷ w
  back (IsTrueEnd w) = TrueEnd ∷ w
  back (IsUntil body w) = UntilTest body ∷ w
  back (IsWhile test body w) = WhileTest test body ∷ w
  back (IsRepeat test body w) = Repeat test body ∷ w
  back (IsDo body plus w) = Todo (Do body plus) ∷ w
  back (IsAgain body w) = BeginAgain body ∷ w
  back (IsQDo body plus w) = Todo (QDo body plus) ∷ w
  back (IsTurn body plus w) = Turn body plus ∷ w
  back (IsOf body others rest w) = OfTest body others rest ∷ w
  back (IsEndOf w) = EndOf ∷ w
  back (IsEndCase w) = EndCase ∷ w
  back (IsLeave w) = Todo Leave ∷ w
  back IsExit = Todo Exit ∷ []

  -- a first work stands at a place, with no more tokens ahead
  pub record Opens (pc : ℕ) (f : First) (n : ℕ) : Type 0 where
    pub out : Option ℕ
    pub stands : Stands out pc (back f)
    pub loops : Loops out (back f)
    pub fewer : ahead (back f) ≤ n

  mutual
    opens_node : (node : Node) (out : Option ℕ) (pc : ℕ) (w : List Work) → Placed out pc (ends_body w) node (λ q. Stands out q w) → Loops out w →
        node_tokens node + ahead w ≤ p.source_tokens → Opens pc (first_in node w) (node_tokens node + ahead w)
    opens_node (Literal value) out pc w h l n = record { out = out; stands = (h, n); loops = l; fewer = omega arith }
    opens_node (Plain word) out pc w h l n = record { out = out; stands = (h, n); loops = l; fewer = omega arith }
    opens_node (Call d) out pc w h l n = record { out = out; stands = (h, n); loops = l; fewer = omega arith }
    opens_node (Child d address) out pc w h l n = record { out = out; stands = (h, n); loops = l; fewer = omega arith }
    opens_node (Text kind address size) out pc w h l n = record { out = out; stands = (h, n); loops = l; fewer = omega arith }
    opens_node (If first second) out pc w h l n = record { out = out; stands = (h, n); loops = l; fewer = omega arith }
    opens_node (Do body plus) out pc w h l n = record { out = out; stands = (h, n); loops = l; fewer = omega arith }
    opens_node (QDo body plus) out pc w h l n = record { out = out; stands = (h, n); loops = l; fewer = omega arith }
    opens_node Leave out pc w h l n = record { out = out; stands = (h, n); loops = l; fewer = omega arith }
    opens_node Exit out pc w h l n = record { out = None; stands = (h, omega arith); loops = refl; fewer = omega arith }
    opens_node (Until body) out pc w h l n =
        let mark : Stands out h.0 (UntilTest body ∷ w) = record { begin = pc; branch = h.2; body_stands = h.1; after = h.3; few = omega arith } in
        let o = opens_all body out pc h.0 (IsUntil body w) (UntilTest body ∷ w) h.1 mark mark l l (omega arith) (omega arith) in
        record { out = o.out; stands = o.stands; loops = o.loops; fewer = omega (arith, o.fewer) }
    opens_node (While test body) out pc w h l n =
        let parts : WhileStands out h.test_end h.body_end test body (λ q. Stands out q w) = record {
          begin = pc;
          next = h.next;
          test_stands = h.test;
          branch = h.branch;
          body_stands = h.body;
          jump = h.jump;
          after = h.onward;
          few = omega arith;
        } in
        let mark : Stands out h.test_end (WhileTest test body ∷ w) = (h.body_end, parts) in
        let o = opens_all test out pc h.test_end (IsWhile test body w) (WhileTest test body ∷ w) h.test mark mark l l (omega arith) (omega arith) in
        record { out = o.out; stands = o.stands; loops = o.loops; fewer = omega (arith, o.fewer) }
    opens_node (Again body) out pc w h l n =
        let mark : Stands out h.0 (BeginAgain body ∷ w) = (pc, h.2, h.1, omega arith) in
        let o = opens_all body out pc h.0 (IsAgain body w) (BeginAgain body ∷ w) h.1 mark mark l l (omega arith) (omega arith) in
        record { out = o.out; stands = o.stands; loops = o.loops; fewer = omega (arith, o.fewer) }
    opens_node (Case NoArm rest) out pc w h l n =
        let mark : Stands out h.drop_at (EndCase ∷ w) = (h.next, h.drops, h.onward) in
        let o = opens_all rest out pc h.drop_at (IsEndCase w) (EndCase ∷ w) h.rest mark mark l l (omega arith) (omega arith) in
        record { out = o.out; stands = o.stands; loops = o.loops; fewer = omega (arith, o.fewer) }
    opens_node (Case (Arm tests body others) rest) out pc w h l n =
        let mark : Stands out h.of_at (OfTest body others rest ∷ w) = record {
          body_at = h.body_at;
          other_at = h.other_at;
          chooses = h.chooses;
          body_stands = h.body;
          others_stand = h.others;
          body_few = omega arith;
          others_few = omega arith;
        } in
        let o = opens_all tests out pc h.of_at (IsOf body others rest w) (OfTest body others rest ∷ w) h.tests mark mark l l (omega arith) (omega arith) in
        record { out = o.out; stands = o.stands; loops = o.loops; fewer = omega (arith, o.fewer) }

    opens_all : (nodes : Nodes) (out : Option ℕ) (pc e : ℕ) (f : First) (w : List Work) → AllPlaced out pc (ends_body w) nodes (λ x. x ≡ e) →
        Stands out e (back f) → Stands out e w → Loops out (back f) → Loops out w → tokens_of nodes + ahead w ≤ p.source_tokens → ahead (back f) ≤ 0
        → Opens pc (first_among nodes f w) (tokens_of nodes + ahead w)
    opens_all Empty out pc e f w h b s m l n z = record { out = out; stands = subst (λ x. Stands out x (back f)) (sym h) b; loops = m; fewer = omega arith }
    opens_all (Then node rest) out pc e f w h b s m l n z =
        let o = opens_node node out pc (before rest w)
        (subst (λ tail. Placed out pc tail node (λ q. Stands out q (before rest w))) (tail_before rest w)
        (placed_more node (is_tail rest (ends_body w)) out pc (λ q. AllPlaced out q (ends_body w) rest (λ x. x ≡ e)) (λ q. Stands out q (before rest w)) (λ q k. stands_to rest out q e w k s (omega arith)) h))
        (loops_before rest out w l) (omega (arith, ahead_before rest w)) in
        record { out = o.out; stands = o.stands; loops = o.loops; fewer = omega (arith, o.fewer, ahead_before rest w) }

  -- the first work stands where the work stands
  pub opens : (out : Option ℕ) (pc : ℕ) (w : List Work) → Stands out pc w → Loops out w → Opens pc (first_work w) (ahead w)
  opens out pc [] h l = record { out = out; stands = h; loops = l; fewer = omega arith }
  opens out pc (Todo node ∷ w) h l = opens_node node out pc w h.0 l h.1
  opens out pc (TrueEnd ∷ w) h l = record { out = out; stands = h; loops = l; fewer = omega arith }
  opens out pc (UntilTest body ∷ w) h l = record { out = out; stands = h; loops = l; fewer = omega arith }
  opens out pc (WhileTest test body ∷ w) h l = record { out = out; stands = h; loops = l; fewer = omega arith }
  opens out pc (Repeat test body ∷ w) h l = record { out = out; stands = h; loops = l; fewer = omega arith }
  opens out pc (BeginAgain body ∷ w) h l = record { out = out; stands = h; loops = l; fewer = omega arith }
  opens out pc (Turn body plus ∷ w) h l = record { out = out; stands = h; loops = l; fewer = omega arith }
  opens out pc (OfTest body others rest ∷ w) h l = record { out = out; stands = h; loops = l; fewer = omega arith }
  opens out pc (EndOf ∷ w) h l = record { out = out; stands = h; loops = l; fewer = omega arith }
  opens out pc (EndCase ∷ w) h l = record { out = out; stands = h; loops = l; fewer = omega arith }

  -- a frame that called the definition above it, over these places
  pub record Waits (f : Frame) (base below : List (Option ℕ)) : Type 0 where
    pub out : Option ℕ
    pub pc : ℕ
    pub returns : base ≡ Some (2 * following pc) ∷ return_places f.entries below
    pub stands : Stands out (following pc) f.work
    pub loops : Loops out f.work
    pub entries : AreEntries f.entries

  -- a frame that called it in tail position has nothing left but its end, and keeps no address
  pub record Pends (f : Frame) (base below : List (Option ℕ)) : Type 0 where
    pub out : Option ℕ
    pub returns : base ≡ return_places f.entries below
    pub loops : Loops out f.work
    pub few : ahead f.work ≤ p.source_tokens
    pub entries : AreEntries f.entries

  abbrev pub Called : Bool → Frame → List (Option ℕ) → List (Option ℕ) → Type 0
  Called true f base below = Pends f base below
  Called false f base below = Waits f base below

  -- the frames below the newest have these return places; below them all is the address behind the call of MAIN
  abbrev pub Frames : List Frame → List (Option ℕ) → Type 0
  Frames [] base = base ≡ Some 2 ∷ []
  Frames (f ∷ fs) base = (below : List (Option ℕ)) × Called (ends_body f.work) f base below × Frames fs below

  called_fits : (tail : Bool) (f : Frame) (base below : List (Option ℕ)) → Called tail f base below → length base ≡ address_height tail + entries_height f.entries + length below
  called_fits true f base below h = omega (arith, ap length h.returns, places_height f.entries below)
  called_fits false f base below h = omega (arith, ap length h.returns, places_height f.entries below)

  pub callers_fit : (fs : List Frame) (base : List (Option ℕ)) → Frames fs base → length base ≡ callers_height fs
  callers_fit [] base h = ap length h
  callers_fit (f ∷ fs) base h = omega (arith, called_fits (ends_body f.work) f base h.0 h.1, callers_fit fs h.0 h.2)

  -- a state stands at a place, over these return places
  pub record Meets (out : Option ℕ) (pc : ℕ) (s : State) (base : List (Option ℕ)) : Type 0 where
    pub stands : Stands out pc s.work
    pub loops : Loops out s.work
    pub frames : Frames s.callers base
    pub cells : AreCells s.cells
    pub entries : AreEntries s.entries
    pub world : IsWorld s.world
    pub starts : s.world.data_start ≡ p.data_start
