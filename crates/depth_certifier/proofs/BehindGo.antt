-- Behind a GO the certificate holds again: its address is taken off the data cells.
use Rattle.std.proofs.Common.{◌≡◌, ℕ, suc, ◌+◌, ◌≤◌, Bool, true, false, List, ◌∷◌, length, refl, subst, sym, ap, arith}
use Rattle.std.specs.Prelude.{ℤ}
use Rattle.word_table.specs.declared.word.Word.TheVariants.{Go}
use Rattle.forth_program.specs.State.{Entry, Work, Frame, World, State}
use Rattle.forth_program.specs.Step.{IsWord, first_work}
use Rattle.forth_program.specs.Heights.{entries_height, callers_height}
use Rattle.forth_program.specs.RunLaws.{IsGoStep}
use Rattle.forth_program.specs.Returns.{Return, world_back, behind_go, state_back}
use Rattle.depth_certifier.specs.declared.effect.Effect.{Effect}
use Rattle.depth_certifier.specs.Place.{Place, Unreachable, At, Doubled}
use Rattle.depth_certifier.specs.Effects.{Known, Next, Return as Ends, Flag, More, table_effect, shape_after}
use Rattle.depth_certifier.specs.Certificate.{doubles, WordLeads}
use Rattle.depth_certifier.proofs.SourcePlaces.{Stood, stood_more}
use Rattle.depth_certifier.proofs.Words.{changes}
use Rattle.depth_certifier.proofs.Work.{WorkFrom, FirstLeads, opens}
use Rattle.depth_certifier.proofs.Frames.{Bounds, CallersFit, KeepsFrames, holds, reaches}

no_doubling : (next : Next) → doubles next Go ≡ false
no_doubling Ends = refl
no_doubling Flag = refl
no_doubling More = refl

module _ (known : Known) (heads : List (ℤ × ℤ)) (main : Effect) (most return_most : ℕ) where
  abbrev HoldsAt : State → Type 0
  HoldsAt s = KeepsFrames known heads main most return_most s

  module _ (e : Effect) (base : ℕ) (callers : List Frame) (bounds : Bounds most return_most e base (callers_height callers)) (below : CallersFit known heads main most return_most e base callers) where
    behind : (work : List Work) (es : List Entry) (c : List ℕ) (address : ℕ) (world : World) (place t l : Place) → WordLeads known heads e false Go place t → Stood base place (address ∷ c) es →
        length (address ∷ c) ≤ most → WorkFrom known heads e work t l →
        HoldsAt (record { work = work; entries = es; callers = callers; cells = c; world = world })
    behind work es c address world Unreachable t l leads st few f = absurd st
    behind work es c address world (Doubled q) t l leads st few f = absurd leads
    behind work es c address world (At q) t l leads st few f =
        let r =
        reaches known heads main most return_most e base callers bounds below (table_effect Go) (shape_after Go) q t (suc (length c)) es es c leads st
        (changes 1 0 (suc (length c)) (length c) (omega arith)) refl in
        holds known heads main most return_most e base callers bounds below work es c world t l f r.stood (omega (arith, few)) r.room

  pub go_behind : (s : State) (address : ℕ) (world after : World) → HoldsAt s → (go : IsGoStep s address world) → HoldsAt (record s { work = go.after; cells = go.cells; world = after })
  go_behind s address world after h go =
      let o = opens known heads h.effect s.work h.place h.loop_end h.leads in
      let f : FirstLeads known heads h.effect (IsWord Go go.after) o.0 h.loop_end = subst (λ f. FirstLeads known heads h.effect f o.0 h.loop_end) go.first o.2 in
      let st : Stood h.base o.0 (address ∷ go.cells) s.entries = subst (λ c. Stood h.base o.0 c s.entries) go.address_is (stood_more h.base h.place o.0 s.cells s.entries o.1 h.stood) in
      let few : length (address ∷ go.cells) ≤ most = subst (λ c. length c ≤ most) go.address_is h.few in
      behind h.effect h.base s.callers h.bounds h.callers go.after s.entries go.cells address after o.0 f.place h.loop_end
      (subst (λ b. WordLeads known heads h.effect b Go o.0 f.place) (no_doubling f.next) f.item) st few f.rest

  -- so it does where GO has come back
  pub come_behind : (s : State) (address : ℕ) (world : World) (back : Return) → HoldsAt s → IsGoStep s address world → HoldsAt (state_back back s)
  come_behind s address world back h go =
      subst (λ t. HoldsAt (record t { world = world_back back s.world })) (sym (ap (λ f. behind_go f s.cells s) go.first))
      (subst (λ c. HoldsAt (record (behind_go (IsWord Go go.after) c s) { world = world_back back s.world })) (sym go.address_is) (go_behind s address world (world_back back s.world) h go))
