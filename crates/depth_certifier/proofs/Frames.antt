-- What holds of a source all along its run: each frame stands at a place of its certificate, within the bounds of MAIN.
use Rattle.std.proofs.Common.{◌≡◌, ℕ, ◌+◌, ◌≤◌, false, List, [], ◌∷◌, length, Option, Some, None, refl, sym, ap, ◌∙◌, subst, arith}
use Rattle.std.specs.Prelude.{pos, ℤ, ◌+ℤ◌, ◌≤ℤ◌}
use Rattle.std.proofs.lemmas.Int.{ints}
use Rattle.forth_program.specs.State.{Entry, Work, Frame, World, State, Outcome, Goes, Ends, Reply, Gives, Stops}
use Rattle.forth_program.specs.Program.{SourceProgram}
use Rattle.forth_program.specs.Step.{First, on_cells}
use Rattle.depth_certifier.specs.declared.effect.Effect.{Effect}
use Rattle.depth_certifier.specs.Place.{Shape, size, Stand, Place, Unreachable, At, Doubled, Below}
use Rattle.depth_certifier.specs.Effects.{Known}
use Rattle.depth_certifier.specs.Certificate.{after, Allows, Leads}
use Rattle.forth_program.specs.Run.{lacks}
use Rattle.forth_program.specs.Heights.{entries_height, callers_height, return_height, peak_of, back_of, execute_back, DepthFits}
use Rattle.depth_certifier.proofs.SourcePlaces.{shape_of, shape_size, Inside, Stood, stood_more, LeavesWithin, stood_after}
use Rattle.depth_certifier.proofs.Words.{Kept}
use Rattle.depth_certifier.proofs.Work.{WorkLeads, WorkFrom}

-- an effect of a frame whose entry had so many data cells, where so many return cells are below its own entries
pub record Bounds (most return_most : ℕ) (e : Effect) (base below : ℕ) : Type 0 where
  pub need : e.need ≤ base
  pub peak : base + e.peak ≤ most
  pub back : below + e.back ≤ return_most
  pub need_limit : e.need ≤ 33
  pub peak_limit : e.peak ≤ 33

-- each number of cells that a callee leaves is known at the place after the call
pub record ReturnsTo (exit : ℤ × ℤ) (base : ℕ) (t : Place) (base' : ℕ) (entries : List Entry) : Type 0 where
  pub stand : Stand
  pub place : t ≡ At stand
  pub low : (pos base' +ℤ stand.low) ≤ℤ (pos base +ℤ exit.0)
  pub high : (pos base +ℤ exit.1) ≤ℤ (pos base' +ℤ stand.high)
  pub same : shape_of entries ≡ stand.shape

abbrev pub Returns : Option (ℤ × ℤ) → ℕ → Place → ℕ → List Entry → Type 0
Returns None base t base' entries = Unit {0}
Returns (Some exit) base t base' entries = ReturnsTo exit base t base' entries

pub returns_of : (exit : Option (ℤ × ℤ)) (p : Stand) (t t' : Place) (base n : ℕ) (entries : List Entry) → t ≡ after exit p p.shape → Below t t' → Inside base p n entries → Returns exit n t' base entries
returns_of None p t t' base n entries e b i = tt
returns_of (Some exit) p t t' base n entries e b i = at t' (subst (λ z. Below z t') e b)
  where
    at : (t' : Place) → Below (after (Some exit) p p.shape) t' → Returns (Some exit) n t' base entries
    at Unreachable b = absurd b
    at (Doubled q) b = absurd b
    at (At q) b = record { stand = q; place = refl; low = omega (arith, ints, b.low, i.low); high = omega (arith, ints, b.high, i.high); same = i.same ∙ b.same }

module _ (known : Known) (heads : List (ℤ × ℤ)) (main : Effect) (most return_most : ℕ) where
  -- a frame of effect e that waits for a callee of effect x
  pub record Waiting (x : Effect) (base : ℕ) (e : Effect) (base' : ℕ) (frame : Frame) (callers : List Frame) : Type 0 where
    pub place : Place
    pub loop_end : Place
    pub returns : Returns x.exit base place base' frame.entries
    pub leads : WorkLeads known heads e frame.work place loop_end
    pub bounds : Bounds most return_most e base' (callers_height callers)
    pub room : entries_height frame.entries ≤ e.back

  abbrev pub CallersFit : Effect → ℕ → List Frame → Type 0
  CallersFit x base [] = (base ≡ 0) × (x ≡ main)
  CallersFit x base (frame ∷ callers) = (e : Effect) × (base' : ℕ) × Waiting x base e base' frame callers × CallersFit e base' callers

  pub record KeepsFrames (s : State) : Type 0 where
    pub effect : Effect
    pub base : ℕ
    pub place : Place
    pub loop_end : Place
    pub leads : WorkLeads known heads effect s.work place loop_end
    pub stood : Stood base place s.cells s.entries
    pub bounds : Bounds most return_most effect base (callers_height s.callers)
    pub callers : CallersFit effect base s.callers
    pub few : length s.cells ≤ most
    pub room : entries_height s.entries ≤ effect.back

  -- a step leads on so, or ends the run for another cause
  abbrev pub Onward : Outcome → Type 0
  Onward (Goes s) = KeepsFrames s
  Onward (Ends end world) = lacks (Ends end world) ≡ false

  -- ---- one frame

  module _ (e : Effect) (base : ℕ) (callers : List Frame) (bounds : Bounds most return_most e base (callers_height callers)) (below : CallersFit e base callers) where
    pub holds : (work : List Work) (entries : List Entry) (c : List ℕ) (world : World) (s l : Place) → WorkFrom known heads e work s l → Stood base s c entries → length c ≤ most → entries_height entries ≤ e.back →
        KeepsFrames (record { work = work; entries = entries; callers = callers; cells = c; world = world })
    holds work entries c world s l w st few room =
        record { effect = e; base = base; place = w.place; loop_end = l; leads = w.leads; stood = stood_more base s w.place c entries w.below st; bounds = bounds; callers = below; few = few; room = room }

    module _ (x : Effect) (p : Stand) (shape : Shape) (n : ℕ) (entries : List Entry) (allows : Allows e x p shape) (inside : Inside base p n entries) where
      pub need_met : x.need ≤ n
      need_met = omega (arith, ints, allows.need, inside.low, bounds.need)

      pub peak_met : n + x.peak ≤ most
      peak_met = omega (arith, ints, allows.peak, inside.high, bounds.peak)

      pub own_back_met : entries_height entries + x.back ≤ e.back
      own_back_met = omega (arith, ap size inside.same, shape_size entries, allows.back)

      pub back_met : entries_height entries + callers_height callers + x.back ≤ return_most
      back_met = omega (arith, own_back_met, bounds.back)

    -- what an effect leads to
    pub record Reaches (t : Place) (c : List ℕ) (entries : List Entry) : Type 0 where
      pub stood : Stood base t c entries
      pub room : entries_height entries ≤ e.back

    some_same : (x y : Shape) → Some x ≡ Some y → x ≡ y
    some_same x y h = cc

    pub reaches : (x : Effect) (change : Shape → Option Shape) (p : Stand) (t : Place) (n : ℕ) (before entries : List Entry) (c : List ℕ) → Leads e x change (At p) t → Inside base p n before → LeavesWithin x.exit n (length c) →
        change (shape_of before) ≡ Some (shape_of entries) → Reaches t c entries
    reaches x change p t n before entries c leads i h ch =
        let same : shape_of entries ≡ leads.shape = some_same (shape_of entries) leads.shape (sym ch ∙ ap change i.same ∙ leads.changes) in
        record {
          stood = subst (λ z. Stood base z c entries) (sym leads.place) (stood_after base p x.exit leads.shape n c before entries i h same);
          room = (let a = leads.allows.room in omega (arith, ap size same, shape_size entries, a));
        }

  -- a word on cells and the world
  pub kept_onward : (exit : Option (ℤ × ℤ)) (n : ℕ) (r : Reply (List ℕ)) (s : State) → Kept exit n r → ((c : List ℕ) (w : World) → LeavesWithin exit n (length c) → KeepsFrames (record s { cells = c; world = w })) → Onward (on_cells r s)
  kept_onward exit n (Gives c w) s k next = next c w k
  kept_onward exit n (Stops end w) s k next = k

  -- what a first work takes and leads to
  pub record Moves (p : SourceProgram) (high : ℕ) (f : First) (s : State) (o : Outcome) : Type 0 where
    pub data_cells : length s.cells + peak_of s.callers f ≤ high
    pub return_cells : return_height s + back_of f ≤ return_most
    pub depth : DepthFits f s.cells
    pub executes : return_height s + execute_back p f s.cells ≤ return_most
    pub onward : Onward o
