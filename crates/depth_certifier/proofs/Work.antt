-- Work from a place of a certificate on, up to the end of its body.
use Rattle.std.proofs.Common.{◌≡◌, ℕ, ◌+◌, Bool, List, [], ◌∷◌, refl, sym, subst}
use Rattle.std.specs.Prelude.{ℤ, negsuc}
use Rattle.word_table.specs.declared.word.Word.TheVariants as table
use Rattle.forth_program.specs.Tree.{Node, Nodes, Arms, Literal, Plain, Call, Child, Text, If, Until, While, Again, Do, QDo, Case, Leave, Exit, Empty, Then, NoArm, Arm}
use Rattle.forth_program.specs.State.{Work, Todo, TrueEnd, UntilTest, WhileTest, Repeat, BeginAgain, Turn, OfTest, EndOf, EndCase}
use Rattle.forth_program.specs.Step.{First, BodyEnd, IsLiteral, IsWord, IsCall, IsChild, IsText, IsIf, IsTrueEnd, IsUntil, IsWhile, IsRepeat, IsAgain, IsDo}
use Rattle.forth_program.specs.Step.{IsQDo, IsTurn, IsOf, IsEndOf, IsEndCase, IsLeave, IsExit, before, first_in, first_among, first_work, closed_by, after_loop}
use Rattle.forth_program.specs.Tail.{ends_body}
use Rattle.depth_certifier.specs.declared.effect.Effect.{Effect}
use Rattle.depth_certifier.specs.Place.{Stand, Place, Unreachable, At, Doubled, Below}
use Rattle.depth_certifier.specs.Effects.{table_effect, Known, Next, Return, Flag, More, next_of, branch_next, is_jump, keep, turn_word, of_effect}
use Rattle.depth_certifier.specs.Certificate.{loops, Leads, Decides, Head, dropped, EndsBody, CaseEnds, ItemFits, Fits, ArmsFit}
use Rattle.depth_certifier.proofs.SourcePlaces.{below_same, below_then, OnLoop}

-- a call before this work is a jump exactly where the work only ends the body
abbrev pub Matches : Next → List Work → Type 0
Matches next work = is_jump next ≡ ends_body work

-- the next of an item matches the work after it
pub next_matches : (next : Next) (rest : Nodes) (work : List Work) → Matches next work → Matches (next_of next rest) (before rest work)
next_matches next Empty work m = m
next_matches next (Then Exit rest) work m = refl
next_matches next (Then (If first second) rest) work m = refl
next_matches next (Then node rest) work m = refl

branch_matches : (next : Next) (work : List Work) → Matches next work → Matches (branch_next next) work
branch_matches Return work m = m
branch_matches Flag work m = m
branch_matches More work m = m

pub closed_matches : (next : Next) (second : Nodes) (work : List Work) → Matches next work → Matches (branch_next next) (closed_by second work)
closed_matches next Empty work m = branch_matches next work m
closed_matches next (Then node rest) work m = branch_matches next work m

pub open_matches : (next : Next) (work : List Work) → Matches next work → Matches (branch_next next) work
open_matches next work m = branch_matches next work m

-- what leads on from within a place
pub record LeadsOn (onward : Place → Type 0) (t : Place) : Type 0 where
  pub place : Place
  pub below : Below t place
  pub leads : onward place

module _ (known : Known) (heads : List (ℤ × ℤ)) (e : Effect) where
  -- the turns of BEGIN body UNTIL, whose body ends at m; of BEGIN test WHILE body REPEAT, whose test ends at m and whose body at n;
  -- of BEGIN body AGAIN; and of DO and ?DO
  pub record UntilTurns (body : Nodes) (l m : Place) : Type 0 where
    pub k : ℕ
    pub head : Place
    pub after : Place
    pub items : Fits known heads e More body (k + 1) head l m
    pub test : Leads e (table_effect table.Until) keep m after
    pub again : Below after head

  pub record WhileTurns (test body : Nodes) (l m n : Place) : Type 0 where
    pub k : ℕ
    pub head : Place
    pub on_true : Place
    pub after : Place
    pub test_items : Fits known heads e Flag test (k + 1) head l m
    pub decides : Decides e m on_true after
    pub items : Fits known heads e More body (k + 1 + loops test) on_true l n
    pub again : Below n head

  pub record AgainTurns (body : Nodes) (l m : Place) : Type 0 where
    pub k : ℕ
    pub head : Place
    pub items : Fits known heads e More body (k + 1) head l m
    pub again : Below m head

  pub record DoTurns (body : Nodes) (plus : Bool) (l m : Place) : Type 0 where
    pub k : ℕ
    pub head : Place
    pub next : Place
    pub head_on_loop : OnLoop head
    pub end_on_loop : OnLoop l
    pub items : Fits known heads e More body (k + 1) head l m
    pub turn : Leads e (table_effect (turn_word plus)) keep m next
    pub again : Below next head
    pub out : Below next l

  -- the last items of a case lead to within t
  abbrev pub LastItems : Nodes → Place → Place → ℕ → Place → Type 0
  LastItems rest l t k s = CaseEnds heads e (λ m. Fits known heads e More rest k s l m) t

  -- OF from s, in a case that leads to `place`
  pub record Chooses (body : Nodes) (others : Arms) (rest : Nodes) (work : List Work) (l s : Place) : Type 0 where
    pub next : Next
    pub matches : Matches next work
    pub place : Place
    pub k : ℕ
    pub k' : ℕ
    pub on_other : Place
    pub on_equal : Place
    pub to_other : Leads e (of_effect (negsuc 0)) keep s on_other
    pub to_equal : Leads e (of_effect (negsuc 1)) keep s on_equal
    pub items : Fits known heads e (branch_next next) body k on_equal l place
    pub left : ArmsFit known heads e (branch_next next) others (LastItems rest l place) k' on_other l place

  -- an item, and the work after it
  pub record ItemLeads (node : Node) (work : List Work) (onward : Place → Type 0) (s l : Place) : Type 0 where
    pub next : Next
    pub matches : Matches next work
    pub k : ℕ
    pub place : Place
    pub item : ItemFits known heads e next node k s l place
    pub rest : LeadsOn onward place

  -- work leads from s to the end of the body, and each LEAVE of the loop around it to within l
  abbrev pub WorkLeads : List Work → Place → Place → Type 0
  WorkLeads [] s l = EndsBody e s × (l ≡ Unreachable)
  WorkLeads (Todo node ∷ work) s l = ItemLeads node work (λ t. WorkLeads work t l) s l
  WorkLeads (TrueEnd ∷ work) s l = WorkLeads work s l
  WorkLeads (UntilTest body ∷ work) s l = (turns : UntilTurns body l s) × LeadsOn (λ t. WorkLeads work t l) turns.after
  WorkLeads (WhileTest test body ∷ work) s l = (n : Place) × (turns : WhileTurns test body l s n) × LeadsOn (λ t. WorkLeads work t l) turns.after
  WorkLeads (Repeat test body ∷ work) s l = (m : Place) × (turns : WhileTurns test body l m s) × LeadsOn (λ t. WorkLeads work t l) turns.after
  WorkLeads (BeginAgain body ∷ work) s l = AgainTurns body l s × (t : Place) × WorkLeads work t l
  WorkLeads (OfTest body others rest ∷ work) s l = (arm : Chooses body others rest work l s) × LeadsOn (λ t. WorkLeads work t l) arm.place
  WorkLeads (EndOf ∷ work) s l = WorkLeads work s l
  WorkLeads (EndCase ∷ work) s l = (t : Place) × Leads e (table_effect table.EndCase) keep s t × LeadsOn (λ t. WorkLeads work t l) t
  WorkLeads (Turn body plus ∷ work) s l = DoTurns body plus l s × (outer : Place) × LeadsOn (λ t. WorkLeads work t outer) (dropped l)

  -- the same, from a place that says more
  abbrev pub WorkFrom : List Work → Place → Place → Type 0
  WorkFrom work s l = LeadsOn (λ t. WorkLeads work t l) s

  pub from_more : (work : List Work) (s t l : Place) → Below s t → WorkFrom work t l → WorkFrom work s l
  from_more work s t l h w = record { place = w.place; below = below_then 0 0 s t w.place h w.below; leads = w.leads }

  pub at_once : (work : List Work) (s l : Place) → WorkLeads work s l → WorkFrom work s l
  at_once work s l w = record { place = s; below = below_same s; leads = w }

  -- items in front of work
  pub of_item : (next : Next) (node : Node) (k : ℕ) (s l t : Place) (work : List Work) → ItemFits known heads e next node k s l t → Matches next work → WorkFrom work t l → WorkLeads (Todo node ∷ work) s l
  of_item next node k s l t work f m w = record { next = next; matches = m; k = k; place = t; item = f; rest = w }

  pub enter : (next : Next) (nodes : Nodes) (k : ℕ) (s l t : Place) (work : List Work) → Fits known heads e next nodes k s l t → Matches next work → WorkFrom work t l → WorkFrom (before nodes work) s l
  enter next Empty k s l t work f m w = from_more work s t l f w
  enter next (Then node rest) k s l t work f m w =
      at_once (Todo node ∷ before rest work) s l
      (of_item (next_of next rest) node k s l f.0 (before rest work) f.1 (next_matches next rest work m) (enter next rest _ f.0 l t work f.2 m w))

  pub closed : (second : Nodes) (work : List Work) (s l : Place) → WorkFrom work s l → WorkFrom (closed_by second work) s l
  closed Empty work s l w = w
  closed (Then node rest) work s l w = w

  -- the work that a first work came from
  abbrev pub back : First → List Work
  back BodyEnd = []
  back (IsLiteral value work) = Todo (Literal value) ∷ work
  back (IsWord word work) = Todo (Plain word) ∷ work
  back (IsCall d work) = Todo (Call d) ∷ work
  back (IsChild d address work) = Todo (Child d address) ∷ work
  back (IsText kind address size work) = Todo (Text kind address size) ∷ work
  back (IsIf one other work) = Todo (If one other) ∷ work
  back (IsTrueEnd work) = TrueEnd ∷ work
  back (IsUntil body work) = UntilTest body ∷ work
  back (IsWhile test body work) = WhileTest test body ∷ work
  back (IsRepeat test body work) = Repeat test body ∷ work
  back (IsDo body plus work) = Todo (Do body plus) ∷ work
  back (IsAgain body work) = BeginAgain body ∷ work
  back (IsQDo body plus work) = Todo (QDo body plus) ∷ work
  back (IsTurn body plus work) = Turn body plus ∷ work
  back (IsOf body others rest work) = OfTest body others rest ∷ work
  back (IsEndOf work) = EndOf ∷ work
  back (IsEndCase work) = EndCase ∷ work
  back (IsLeave work) = Todo Leave ∷ work
  back IsExit = []

  -- a first work leads so
  abbrev pub FirstLeads : First → Place → Place → Type 0
  FirstLeads BodyEnd s l = EndsBody e s
  FirstLeads IsExit s l = EndsBody e s
  FirstLeads f s l = WorkLeads (back f) s l

  abbrev pub Opened : First → Place → Place → Type 0
  Opened f s l = (t : Place) × Below s t × FirstLeads f t l

  pub head_above : (k : ℕ) (s h : Place) → Head heads k s h → Below s h
  head_above k Unreachable h x = tt
  head_above k (At p) h x = subst (λ z. Below (At p) z) (sym x.place) x.inside
  head_above k (Doubled p) h x = absurd x

  abbrev mutual
    opens_item : (next : Next) (node : Node) (k : ℕ) (s l t : Place) (work : List Work) → ItemFits known heads e next node k s l t → Matches next work → WorkFrom work t l → Opened (first_in node work) s l
    opens_item next (Literal value) k s l t work f m w = (s, below_same s, of_item next (Literal value) k s l t work f m w)
    opens_item next (Plain word) k s l t work f m w = (s, below_same s, of_item next (Plain word) k s l t work f m w)
    opens_item next (Call d) k s l t work f m w = (s, below_same s, of_item next (Call d) k s l t work f m w)
    opens_item next (Child d a) k s l t work f m w = (s, below_same s, of_item next (Child d a) k s l t work f m w)
    opens_item next (Text kind a n) k s l t work f m w = (s, below_same s, of_item next (Text kind a n) k s l t work f m w)
    opens_item next (If one other) k s l t work f m w = (s, below_same s, of_item next (If one other) k s l t work f m w)
    opens_item next (Until body) k s l t work f m w =
        let leads : WorkLeads (UntilTest body ∷ work) f.test l = (record { k = k; head = f.head; after = t; items = f.items; test = f.flag; again = f.again }, w) in
        let o = opens_items More body (k + 1) f.head l f.test (UntilTest body ∷ work) (IsUntil body work) f.items refl (at_once (UntilTest body ∷ work) f.test l leads) (f.test, below_same f.test, leads) in
        (o.0, below_then 0 0 s f.head o.0 (head_above k s f.head f.enters) o.1, o.2)
    opens_item next (While test body) k s l t work f m w =
        let turns : WhileTurns test body l f.test f.turn = record {
          k = k;
          head = f.head;
          on_true = f.on_true;
          after = t;
          test_items = f.test_items;
          decides = f.decides;
          items = f.items;
          again = f.again;
        } in
        let leads : WorkLeads (WhileTest test body ∷ work) f.test l = (f.turn, turns, w) in
        let o = opens_items Flag test (k + 1) f.head l f.test (WhileTest test body ∷ work) (IsWhile test body work) f.test_items refl (at_once (WhileTest test body ∷ work) f.test l leads) (f.test, below_same f.test, leads) in
        (o.0, below_then 0 0 s f.head o.0 (head_above k s f.head f.enters) o.1, o.2)
    opens_item next (Do body plus) k s l t work f m w = (s, below_same s, of_item next (Do body plus) k s l t work f m w)
    opens_item next (Again body) k s l t work f m w =
        let leads : WorkLeads (BeginAgain body ∷ work) f.turn l = (record { k = k; head = f.head; items = f.items; again = f.again }, w.place, w.leads) in
        let o = opens_items More body (k + 1) f.head l f.turn (BeginAgain body ∷ work) (IsAgain body work) f.items refl (at_once (BeginAgain body ∷ work) f.turn l leads) (f.turn, below_same f.turn, leads) in
        (o.0, below_then 0 0 s f.head o.0 (head_above k s f.head f.enters) o.1, o.2)
    opens_item next (QDo body plus) k s l t work f m w = (s, below_same s, of_item next (QDo body plus) k s l t work f m w)
    opens_item next (Case NoArm rest) k s l t work f m w =
        let leads : WorkLeads (EndCase ∷ work) f.last l = (f.end, f.drops, from_more work f.end t l f.below w) in
        opens_items More rest k s l f.last (EndCase ∷ work) (IsEndCase work) f.items refl (at_once (EndCase ∷ work) f.last l leads) (f.last, below_same f.last, leads)
    opens_item next (Case (Arm tests body others) rest) k s l t work f m w =
        let arm : Chooses body others rest work l f.test = record {
          next = next;
          matches = m;
          place = t;
          k = k + loops tests;
          k' = k + loops tests + loops body;
          on_other = f.on_other;
          on_equal = f.on_equal;
          to_other = f.to_other;
          to_equal = f.to_equal;
          items = f.items;
          left = f.others;
        } in
        let leads : WorkLeads (OfTest body others rest ∷ work) f.test l = (arm, w) in
        opens_items More tests k s l f.test (OfTest body others rest ∷ work) (IsOf body others rest work) f.tests refl (at_once (OfTest body others rest ∷ work) f.test l leads) (f.test, below_same f.test, leads)
    opens_item next Leave k s l t work f m w = (s, below_same s, of_item next Leave k s l t work f m w)
    opens_item next Exit k s l t work f m w = (s, below_same s, f.0)

    opens_items : (next : Next) (nodes : Nodes) (k : ℕ) (s l t : Place) (work : List Work) (f : First) → Fits known heads e next nodes k s l t → Matches next work → WorkFrom work t l → Opened f t l → Opened (first_among nodes f work) s l
    opens_items next Empty k s l t work f h m w o = (o.0, below_then 0 0 s t o.0 h o.1, o.2)
    opens_items next (Then node rest) k s l t work f h m w o =
        opens_item (next_of next rest) node k s l h.0 (before rest work) h.1 (next_matches next rest work m) (enter next rest _ h.0 l t work h.2 m w)

  pub opens : (work : List Work) (s l : Place) → WorkLeads work s l → Opened (first_work work) s l
  opens [] s l w = (s, below_same s, w.0)
  opens (Todo node ∷ work) s l w = opens_item w.next node w.k s l w.place work w.item w.matches w.rest
  opens (TrueEnd ∷ work) s l w = (s, below_same s, w)
  opens (UntilTest body ∷ work) s l w = (s, below_same s, w)
  opens (WhileTest test body ∷ work) s l w = (s, below_same s, w)
  opens (Repeat test body ∷ work) s l w = (s, below_same s, w)
  opens (BeginAgain body ∷ work) s l w = (s, below_same s, w)
  opens (Turn body plus ∷ work) s l w = (s, below_same s, w)
  opens (OfTest body others rest ∷ work) s l w = (s, below_same s, w)
  opens (EndOf ∷ work) s l w = (s, below_same s, w)
  opens (EndCase ∷ work) s l w = (s, below_same s, w)

  -- the work after the innermost loop
  pub record LeavesLoop (work : List Work) (l : Place) : Type 0 where
    pub outer : Place
    pub place : Place
    pub below : Below (dropped l) place
    pub on_loop : OnLoop l
    pub leads : WorkLeads (after_loop work) place outer

  pub leaves_loop : (work : List Work) (s : Place) (q : Stand) → WorkLeads work s (At q) → LeavesLoop work (At q)
  leaves_loop [] s q w = cc (w.1)
  leaves_loop (Todo node ∷ work) s q w = let r = leaves_loop work w.rest.place q w.rest.leads in record { outer = r.outer; place = r.place; below = r.below; on_loop = r.on_loop; leads = r.leads }
  leaves_loop (TrueEnd ∷ work) s q w = let r = leaves_loop work s q w in record { outer = r.outer; place = r.place; below = r.below; on_loop = r.on_loop; leads = r.leads }
  leaves_loop (UntilTest body ∷ work) s q w = let r = leaves_loop work w.1.place q w.1.leads in record { outer = r.outer; place = r.place; below = r.below; on_loop = r.on_loop; leads = r.leads }
  leaves_loop (WhileTest test body ∷ work) s q w = let r = leaves_loop work w.2.place q w.2.leads in record { outer = r.outer; place = r.place; below = r.below; on_loop = r.on_loop; leads = r.leads }
  leaves_loop (Repeat test body ∷ work) s q w = let r = leaves_loop work w.2.place q w.2.leads in record { outer = r.outer; place = r.place; below = r.below; on_loop = r.on_loop; leads = r.leads }
  leaves_loop (BeginAgain body ∷ work) s q w = let r = leaves_loop work w.1 q w.2 in record { outer = r.outer; place = r.place; below = r.below; on_loop = r.on_loop; leads = r.leads }
  leaves_loop (OfTest body others rest ∷ work) s q w = let r = leaves_loop work w.1.place q w.1.leads in record { outer = r.outer; place = r.place; below = r.below; on_loop = r.on_loop; leads = r.leads }
  leaves_loop (EndOf ∷ work) s q w = let r = leaves_loop work s q w in record { outer = r.outer; place = r.place; below = r.below; on_loop = r.on_loop; leads = r.leads }
  leaves_loop (EndCase ∷ work) s q w = let r = leaves_loop work w.2.place q w.2.leads in record { outer = r.outer; place = r.place; below = r.below; on_loop = r.on_loop; leads = r.leads }
  leaves_loop (Turn body plus ∷ work) s q w = record { outer = w.1; place = w.2.place; below = w.2.below; on_loop = w.0.end_on_loop; leads = w.2.leads }
