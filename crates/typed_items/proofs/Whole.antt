-- Items from their first cell on, both ways.
use Rattle.std.proofs.Common.{◌≡◌, ℕ, ◌+◌, ◌<◌, ◌≤◌, true, false, List, [], ◌∷◌, ◌++◌, length, Option, Some, None, refl, sym, ap, ◌∙◌}
use Rattle.std.proofs.Common.{subst, arith}
use Rattle.word_table.specs.declared.word.Word.{Word}
use Rattle.j1_table.specs.declared.instr.Instr.TheVariants.{Alu}
use Rattle.j1_table.specs.Instruction.{decoded}
use Rattle.j1_simulator.specs.Step.{Stop}
use Rattle.j1_simulator.specs.OpenMachine.{open_storage}
use Rattle.j1_simulator.specs.Run.{run, IsPrefixOf}
use Rattle.j1_simulator.specs.Laws.{OnlyGrows}
use Rattle.forth_program.specs.State.{Work, Frame, World, State, End, Outcome, Goes, Ends}
use Rattle.forth_program.specs.Program.{SourceProgram, body_of}
use Rattle.forth_program.specs.Step.{before}
use Rattle.forth_program.specs.Run.{steps, world_of, end_of}
use Rattle.forth_program.specs.Cells.{AreCells, IsWorld}
use Rattle.word_laws.specs.Rings.{OpenConfiguration, BeforeEach}
use Rattle.word_laws.specs.Bounds.{StaysWithin}
use Rattle.word_laws.specs.Standing.{machine_end}
use Rattle.typed_items.specs.Items.{TypedItems, nodes_of}
use Rattle.typed_items.specs.Listed.{stands, AreReturnPlaces}
use Rattle.typed_items.specs.Laws.{ItemsStand, TypedCode, items_begin, is_done, GoesOn, ItemsFit, ComesBehind, Shows, Follows, FollowsBack}
use Rattle.typed_items.specs.Laws.{ItemsDoTheirMeaning, ItemsDoNoMore, ShowsNoMore}
use Rattle.typed_items.proofs.Instructions.{Laws}
use Rattle.typed_items.proofs.Placed.{Holds, led_here, Ahead, Here, here_before}
use Rattle.typed_items.proofs.Step.{BodiesStand, Meets, same_space, hops}
use Rattle.typed_items.proofs.Running.{fits_some, Knows, Reaches, StandsAs, StandsWhere, reaches}
use Rattle.typed_items.proofs.Built.{build_items}

-- ---- what n instructions do

module _ (grows : OnlyGrows open_storage) (from : OpenConfiguration) where
  same_end : (n m : ℕ) (stop stop' : Stop) → (run open_storage 0x2000 n from).stop ≡ Some stop →
      (run open_storage 0x2000 m from).stop ≡ Some stop' → Some stop' ≡ Some stop
  same_end n m stop stop' e e' =
      let one = grows.ends 0x2000 n (n + m) from stop (omega arith) e in
      let two = grows.ends 0x2000 m (n + m) from stop' (omega arith) e' in
      sym e' ∙ ap (λ v. v.stop) (sym two ∙ one) ∙ e

  no_more_by : (code : List ℕ) (n m : ℕ) (o : Outcome) → Shows code (run open_storage 0x2000 m from) o →
      ((end : End) → end_of o ≡ Some end → (stop : Stop) × (machine_end end ≡ Some stop)) → (end_of o ≡ None → n ≤ m) →
      IsPrefixOf (run open_storage 0x2000 n from).printed (world_of o).printed
      × ((stop : Stop) → (run open_storage 0x2000 n from).stop ≡ Some stop →
      (end : End) × (end_of o ≡ Some end) × (machine_end end ≡ Some stop))
  no_more_by code n m (Goes t) shows can far =
      let front = grows.prints 0x2000 n m from (far refl) in (
        (front.0, front.1 ∙ shows.printed),
        λ stop e. let later = grows.ends 0x2000 n m from stop (far refl) e in
            absurd (let f : None ≡ Some stop = sym shows.stop_is ∙ ap (λ v. v.stop) later ∙ e in cc),
      )
  no_more_by code n m (Ends end world') shows can far =
      let can_end = can end refl in
      let stopped : (run open_storage 0x2000 m from).stop ≡ Some can_end.0 = shows.stop_is ∙ can_end.1 in
      let front = grows.prints 0x2000 n (n + m) from (omega arith) in
      let later = grows.ends 0x2000 m (n + m) from can_end.0 (omega arith) stopped in (
        (front.0, front.1 ∙ ap (λ v. v.printed) later ∙ shows.printed),
        λ stop' e. (end, refl, can_end.1 ∙ same_end n m stop' can_end.0 e stopped),
      )

pub shows_no_more : OnlyGrows open_storage → ShowsNoMore
shows_no_more grows code p k count s from shows far can = let parts = no_more_by grows from code k count (steps p k s) shows can far in
    record { prints = parts.0; ends = parts.1 }

module _ (laws : Laws) (code : List ℕ) (token : Word → ℕ) (place : ℕ → ℕ) (p : SourceProgram) (w : World)
    (typed : TypedCode code (code ++ w.space) token place p) where
  abbrev memory : List ℕ
  memory = code ++ w.space

  low_place : (d : ℕ) → d < length p.bodies → place d < 0x2000
  low_place d lt = let h = typed.definitions d lt in let e = h.stand.end in let below = h.stand.high in omega (arith, e, below)

  -- the items that stand at a place, before what holds of their end
  ahead : (items : TypedItems) (at next : ℕ) (K : ℕ → Type 0) → ItemsStand memory token place (length p.bodies) at next items → K next →
      Ahead memory token place (length p.bodies) at (nodes_of items) K
  ahead items at next K h k =
      let e = h.end in
      let below = h.high in
      let few = h.nested in
      let low = h.low in
      build_items memory token place (length p.bodies) typed.listed.in_memory low_place items at next 0 K h.typed (omega (arith, few))
      (omega (arith, low)) (omega (arith, e, below)) h.cells k

  bodies : BodiesStand laws code typed.size token typed.listed place p w
  bodies d lt =
      let h = typed.definitions d lt in
      let e = h.stand.end in
      let low = h.stand.low in
      let return : Holds memory h.end (Alu 0x100C) = (ap decoded h.returns.0, omega (arith, e, low)) in
      let here = here_before memory token place (length p.bodies) (λ x. Holds memory x (Alu 0x100C)) (nodes_of h.items) (place d) []
      (λ x. Holds memory x (Alu 0x100C)) (λ q k. k)
      (ahead h.items (place d) h.end (λ x. Holds memory x (Alu 0x100C)) h.stand return) in
      led_here memory 4 (λ q. Here memory token place (length p.bodies) (λ x. Holds memory x (Alu 0x100C)) q (before (body_of p d) []))
      (place d)
      (subst (λ nodes. Here memory token place (length p.bodies) (λ x. Holds memory x (Alu 0x100C)) (place d)
      (before nodes [])) h.are_body here)

  module _ (items : TypedItems) (c : List ℕ) (at next : ℕ) (stand : ItemsStand memory token place (length p.bodies) at next items)
      (cells : AreCells c) (world : IsWorld w) (starts : w.data_start ≡ 0x2000)
      (returns : List (Option ℕ)) (known : AreReturnPlaces returns) (da ra : List (Option ℕ)) where
    abbrev begun : State
    begun = items_begin items c w

    abbrev from : OpenConfiguration
    from = stands code at c w returns da ra

    meets : Meets laws code typed.size token typed.listed place p w bodies next returns known at begun returns
    meets = record {
      here = led_here memory 4 (λ q. Here memory token place (length p.bodies) (λ x. x ≡ next) q (before (nodes_of items) [])) at
          (here_before memory token place (length p.bodies) (λ x. x ≡ next) (nodes_of items) at [] (λ x. x ≡ next) (λ q k. k)
          (ahead items at next (λ x. x ≡ next) stand refl));
      entries = refl;
      callers = refl;
      cells = cells;
      world = world;
      starts = starts;
      space = same_space w.space;
    }

    abbrev Reached : ℕ → ℕ → ℕ → Type 0
    Reached high back k = Reaches laws code typed.size token typed.listed place p w bodies next returns known high back k 0 begun from

    reached : (high back k : ℕ) → GoesOn p k begun → ItemsFit p high back k begun → Reached high back k
    reached high back k going fit =
        reaches laws code typed.size token typed.listed place p w bodies next returns known high back k 0 at begun returns da ra meets going.lacks_nothing going.not_done fit

    -- behind the items
    module _ (high back : ℕ) (v : OpenConfiguration) (cells' : List ℕ) (w' : World) (to : ℕ) (r da' ra' : List (Option ℕ))
        (is : v ≡ stands code to cells' w' r da' ra') (deep : length cells' ≤ high) where
      abbrev done_state : List Work → List Frame → State
      done_state work callers = record { work = work; entries = []; callers = callers; cells = cells'; world = w' }

      behind : (work : List Work) (callers : List Frame) → is_done (done_state work callers) ≡ true →
          Meets laws code typed.size token typed.listed place p w bodies next returns known to (done_state work callers) r →
          ComesBehind code next returns high (length returns + back) v w (done_state work callers)
      behind [] [] done m =
          let same : r ≡ returns = m.callers in
          let tall = ap length same in
          let h = hops laws code typed.size token typed.listed place p w w' m.space 4 (λ q. q ≡ next) to high
          (length returns + back) cells' r da' ra' deep (omega (arith, tall)) m.here in
          record {
            more = h.0;
            few = h.2;
            data_above = da';
            return_above = ra';
            makes = ap (run open_storage 0x2000 h.0) is ∙ h.4.makes ∙ ap (λ q. stands code q cells' w' r da' ra') h.3
                ∙ ap (λ x. stands code next cells' w' x da' ra') same;
            bounds = subst (λ u. BeforeEach (StaysWithin 0 high 0 (length returns + back)) 0x2000 h.0 u) (sym is) h.4.bounds;
            cells = m.cells;
            world = m.world;
            starts = m.starts;
            space = m.space;
          }
      behind [] (frame ∷ callers) done m = absurd (let f : false ≡ true = done in cc)
      behind (first ∷ work) callers done m = absurd (let f : false ≡ true = done in cc)

    behind_as : (high back : ℕ) (v : OpenConfiguration) (t : State) →
        StandsAs laws code typed.size token typed.listed place p w bodies next returns known high back v t → is_done t ≡ true →
        length t.cells ≤ high →
        ComesBehind code next returns high (length returns + back) v w t
    behind_as high back v t h done deep =
        let same : t ≡ record t { entries = [] } = ap (λ es. record t { entries = es }) h.meets.entries in
        subst (λ x. ComesBehind code next returns high (length returns + back) v w x) (sym same)
        (behind high back v t.cells t.world h.at h.r h.data_above h.return_above h.is deep t.work t.callers done
        (subst (λ x. Meets laws code typed.size token typed.listed place p w bodies next returns known h.at x h.r) same h.meets))

    ended : (o : Outcome) (end : End) → Knows laws code typed.size token typed.listed place p w bodies next returns known 0 0 o →
        end_of o ≡ Some end → (stop : Stop) × (machine_end end ≡ Some stop)
    ended (Goes t) end k e = absurd (let f : None ≡ Some end = e in cc)
    ended (Ends end' world') end k e = let f : end' ≡ end = cc in subst (λ x. (stop : Stop) × (machine_end x ≡ Some stop)) f k

    pub forward : (high back k : ℕ) → GoesOn p k begun → ItemsFit p high back k begun → Follows code next returns p high back k begun from
    forward high back k going fit =
        let r = reached high back k going fit in
        let paid = r.cheap in
        record {
          count = r.count;
          within_price = omega (arith, paid);
          far_enough = r.far;
          shows = r.shows;
          can_end = λ end e. ended (steps p k begun) end r.can_end e;
          behind = λ t e done deep.
              behind_as high back (run open_storage 0x2000 r.count from) t
              (subst (StandsWhere laws code typed.size token typed.listed place p w bodies next returns known high back
              (run open_storage 0x2000 r.count from)) e r.stands_where) done deep;
          bounds = r.bounds;
        }

    -- ---- the other direction

    module _ (grows : OnlyGrows open_storage) where
      pub backward : (n : ℕ) → GoesOn p n begun → FollowsBack p n begun from
      backward n going =
          let fit = fits_some p n begun in
          let r = reached fit.0 fit.1 n going fit.2 in
          shows_no_more grows code p n r.count begun from r.shows r.far (λ end e. ended (steps p n begun) end r.can_end e)

pub items_do_their_meaning : Laws → ItemsDoTheirMeaning
items_do_their_meaning laws code token place p items c w at next high back k returns da ra typed stand known cells world starts going fit =
    forward laws code token place p w typed items c at next stand cells world starts returns known da ra high back k going fit

pub items_do_no_more : Laws → OnlyGrows open_storage → ItemsDoNoMore
items_do_no_more laws grows code token place p items c w at next n returns da ra typed stand known cells world starts going =
    backward laws code token place p w typed items c at next stand cells world starts returns known da ra grows n going
