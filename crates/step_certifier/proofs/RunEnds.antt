-- A run that ends within a price, and one step before it.
use Rattle.std.proofs.Common.{◌≡◌, ℕ, zero, suc, ◌+◌, ◌≤◌, Bool, true, false, List, [], ◌∷◌, refl, ap, ◌∙◌, arith}
use Rattle.forth_program.specs.Tree.{Nodes}
use Rattle.forth_program.specs.State.{Entry, Cell, Loop, Work, Frame, World, State, End, Outcome, Goes, Ends}
use Rattle.forth_program.specs.Program.{SourceProgram}
use Rattle.forth_program.specs.Step.{First, BodyEnd, IsLiteral, IsWord, IsCall, IsChild, IsText, IsIf, IsTrueEnd, IsUntil, IsWhile, IsRepeat, IsAgain, IsDo}
use Rattle.forth_program.specs.Step.{IsQDo, IsTurn, IsOf, IsEndOf, IsEndCase, IsLeave, IsExit, first_work, act, step, unwound, on_flag, turn, turned, leave}
use Rattle.forth_program.specs.Run.{steps, and_then}
use Rattle.forth_program.specs.Price.{first_price, step_price, spent, spent_after}

-- a state by its parts
abbrev pub at : List Work → List Entry → List Frame → List ℕ → World → State
at work entries callers cells world = record { work = work; entries = entries; callers = callers; cells = cells; world = world }

module _ (p : SourceProgram) where
  -- from this state the run ends, and spends at most so much
  pub record Within (s : State) (most : ℕ) : Type 0 where
    pub count : ℕ
    pub end : End
    pub world : World
    pub ends : steps p count s ≡ Ends end world
    pub price : (total : ℕ) → spent p total count s ≤ total + most

  pub more : (s : State) (a b : ℕ) → Within s a → a ≤ b → Within s b
  more s a b e le = record { count = e.count; end = e.end; world = e.world; ends = e.ends; price = λ total. (let f = e.price total in omega (arith, f, le)) }

  -- where a step leads to
  abbrev pub Onward : Outcome → ℕ → Type 0
  Onward (Goes s) most = Within s most
  Onward (Ends end world) most = Unit {0}

  pub stepped : (s : State) (most : ℕ) → Onward (step p s) most → Within s (step_price s + most)
  unfolding steps spent
  stepped s most h = of (step p s) refl h
    where
      of : (o : Outcome) → step p s ≡ o → Onward o most → Within s (step_price s + most)
      of (Ends end world) is h = record {
        count = 1;
        end = end;
        world = world;
        ends = ap (λ o. and_then o (steps p 0)) is;
        price = λ total. (let e : spent p total 1 s ≡ total + step_price s = ap (λ o. spent_after (total + step_price s) o (spent p (total + step_price s) 0)) is in omega (arith, e));
      }
      of (Goes t) is h = record {
        count = suc h.count;
        end = h.end;
        world = h.world;
        ends = ap (λ o. and_then o (steps p h.count)) is ∙ h.ends;
        price = λ total. (
            let e : spent p total (suc h.count) s ≡ spent p (total + step_price s) h.count t = ap (λ o. spent_after (total + step_price s) o (spent p (total + step_price s) h.count)) is in
            let i = h.price (total + step_price s) in
            omega (arith, e, i));
      }

  -- ---- work that has the same first

  module _ (work work' : List Work) (callers : List Frame) (world : World) where
    same_left : (entries : List Entry) (callers : List Frame) (c : List ℕ) (es : List Entry) (cs : List Frame) → unwound entries callers (at work es cs c world) ≡ unwound entries callers (at work' es cs c world)
    same_left (entry ∷ entries) callers c es cs = refl
    same_left [] [] c es cs = refl
    same_left [] (frame ∷ callers) c es cs = refl

    same_flag : (c : List ℕ) (es : List Entry) (a b : List Work) (d : List ℕ) → on_flag d a b (at work es callers c world) ≡ on_flag d a b (at work' es callers c world)
    same_flag c es a b [] = refl
    same_flag c es a b (zero ∷ d) = refl
    same_flag c es a b (suc n ∷ d) = refl

    same_turned : (step : ℕ) (body : Nodes) (plus : Bool) (after : List Work) (fs es : List Entry) (c : List ℕ) → turned step body plus after fs (at work es callers c world) ≡ turned step body plus after fs (at work' es callers c world)
    same_turned step body plus after [] es c = refl
    same_turned step body plus after (Cell x ∷ fs) es c = refl
    same_turned step body plus after (Loop limit index ∷ fs) es c = refl

    same_turn : (body : Nodes) (plus : Bool) (after : List Work) (d c : List ℕ) (es : List Entry) → turn body plus after d (at work es callers c world) ≡ turn body plus after d (at work' es callers c world)
    same_turn body false after d c es = same_turned 1 body false after es es c
    same_turn body true after [] c es = refl
    same_turn body true after (step ∷ d) c es = same_turned step body true after es es d

    same_leave : (after : List Work) (entry : Entry) (es : List Entry) (c : List ℕ) → leave after (entry ∷ es) (at work (entry ∷ es) callers c world) ≡ leave after (entry ∷ es) (at work' (entry ∷ es) callers c world)
    same_leave after (Cell x) es c = refl
    same_leave after (Loop limit index) es c = refl

    abbrev Alike : (State → Outcome) → List ℕ → List Entry → Type 0
    Alike does c es = does (at work es callers c world) ≡ does (at work' es callers c world)

    same_act : (f : First) (c : List ℕ) (es : List Entry) → Alike (act p f) c es
    same_act BodyEnd c es = same_left es callers c es callers
    same_act IsExit c es = same_left es callers c es callers
    same_act (IsLiteral value after) c es = refl
    same_act (IsWord word after) c es = refl
    same_act (IsCall definition after) c es = refl
    same_act (IsChild definition address after) c es = refl
    same_act (IsText kind address size after) c es = refl
    same_act (IsIf first second after) c es = same_flag c es _ _ c
    same_act (IsTrueEnd after) c es = refl
    same_act (IsUntil body after) c es = same_flag c es _ _ c
    same_act (IsWhile test body after) c es = same_flag c es _ _ c
    same_act (IsRepeat test body after) c es = refl
    same_act (IsAgain body after) c es = refl
    same_act (IsDo body plus after) [] es = refl
    same_act (IsDo body plus after) (x ∷ []) es = refl
    same_act (IsDo body plus after) (x ∷ y ∷ c) es = refl
    same_act (IsQDo body plus after) [] es = refl
    same_act (IsQDo body plus after) (x ∷ []) es = refl
    same_act (IsQDo body plus after) (x ∷ y ∷ c) es = refl
    same_act (IsTurn body plus after) c es = same_turn body plus after c c es
    same_act (IsOf body others rest after) [] es = refl
    same_act (IsOf body others rest after) (x ∷ []) es = refl
    same_act (IsOf body others rest after) (x ∷ y ∷ c) es = refl
    same_act (IsEndOf after) c es = refl
    same_act (IsEndCase after) [] es = refl
    same_act (IsEndCase after) (x ∷ c) es = refl
    same_act (IsLeave after) c [] = refl
    same_act (IsLeave after) c (entry ∷ es) = same_leave after entry es c

  -- so it ends alike
  pub same_first : (work work' : List Work) (es : List Entry) (cs : List Frame) (c : List ℕ) (world : World) (most : ℕ) → first_work work ≡ first_work work' → Within (at work' es cs c world) most → Within (at work es cs c world) most
  unfolding step steps spent
  same_first work work' es cs c world most is e = of e.count e.ends e.price
    where
      one : step p (at work es cs c world) ≡ step p (at work' es cs c world)
      one = ap (λ f. act p f (at work es cs c world)) is ∙ same_act work work' cs world (first_work work') c es

      cheap : step_price (at work es cs c world) ≡ step_price (at work' es cs c world)
      cheap = ap (λ f. first_price f c world) is

      of : (k : ℕ) → steps p k (at work' es cs c world) ≡ Ends e.end e.world → ((total : ℕ) → spent p total k (at work' es cs c world) ≤ total + most) → Within (at work es cs c world) most
      of zero h i = cc (h)
      of (suc k) h i = record {
        count = suc k;
        end = e.end;
        world = e.world;
        ends = ap (λ o. and_then o (steps p k)) one ∙ h;
        price = λ total. (
            let f : spent p total (suc k) (at work es cs c world) ≡ spent p total (suc k) (at work' es cs c world) =
            ap (λ n. spent_after (total + n) (step p (at work es cs c world)) (spent p (total + n) k)) cheap
            ∙ ap (λ o. spent_after (total + step_price (at work' es cs c world)) o (spent p (total + step_price (at work' es cs c world)) k)) one in
            let g = i total in
            omega (arith, f, g));
      }
