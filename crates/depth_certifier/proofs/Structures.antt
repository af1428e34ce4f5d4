-- Each word step of a structure, a text, a call or the end of a body, from a place of the certificate.
use Rattle.std.proofs.Common.{◌≡◌, ℕ, zero, suc, ◌+◌, ◌≤◌, Bool, true, false, if◌then◌else◌, List, [], ◌∷◌, length, Option, Some, None, ◌==◌, refl, sym, ap, ◌∙◌, subst, arith}
use Rattle.std.specs.Prelude.{pos, negsuc, ℤ, ◌+ℤ◌, ◌≤ℤ◌}
use Rattle.std.proofs.lemmas.Int.{ints}
use Rattle.cell_math.specs.Cell.{sum_of, difference_of, signed}
use Rattle.word_table.specs.declared.word.Word.TheVariants as table
use Rattle.word_table.specs.declared.word.Word.TheVariants.{ToR, RFrom, RFetch, Index, OuterIndex, Unloop, Execute, Depth, QDup}
use Rattle.forth_program.specs.declared.item.TextKind.{TextKind}
use Rattle.forth_program.specs.declared.item.TextKind.TheVariants as text
use Rattle.forth_program.specs.Tree.{Nodes, Arms, If, Do, QDo, Case, Leave}
use Rattle.forth_program.specs.State.{Entry, Cell, Loop, Work, Todo, UntilTest, WhileTest, Repeat, BeginAgain, Turn, OfTest, EndOf, EndCase, Frame, World, State, Goes, Gives, Stops, ◌▸◌, Halted}
use Rattle.forth_program.specs.Program.{SourceProgram, body_of}
use Rattle.forth_program.specs.ByteWords.{type_out}
use Rattle.forth_program.specs.Step.{called as begun}
use Rattle.forth_program.specs.Step.{First, BodyEnd, IsCall, IsChild, IsText, IsIf, IsTrueEnd, IsUntil, IsWhile, IsRepeat, IsAgain, IsDo, IsQDo, IsTurn, IsOf}
use Rattle.forth_program.specs.Step.{IsEndOf, IsEndCase, IsLeave, IsExit, before, text_step, on_flag, closed_by, crosses, turned, leave, after_loop, unwound}
use Rattle.forth_program.specs.Step.{act}
use Rattle.depth_certifier.specs.declared.effect.Effect.{Effect}
use Rattle.depth_certifier.specs.Place.{OfCell, OfLoop, Shape, Stand, Place, Unreachable, At, Doubled, entry, Below, from_zero}
use Rattle.depth_certifier.specs.Effects.{table_effect, branch_next, Known, effect_of, Next, Return, Flag, More, called_effect, keep, push_loop, turn_word, text_word, of_effect}
use Rattle.depth_certifier.specs.Certificate.{loops, after, Allows, Leads, Decides, Head, SameShape, CountedFits, without_loop, dropped, EndsBody, ExitHas, Fits, BodyFits}
use Rattle.forth_program.specs.Heights.{address_height, entries_height, callers_height, end_peak, text_peak, text_back, peak_of, back_of, execute_back, DepthFits}
use Rattle.depth_certifier.specs.Soundness.{end_height}
use Rattle.depth_certifier.proofs.SourcePlaces.{shape_of, Inside, Stood, LeavesWithin, OnLoop}
use Rattle.depth_certifier.proofs.Words.{changes, owed, type_sound}
use Rattle.depth_certifier.proofs.Work.{Matches, open_matches, closed_matches, DoTurns, head_above, LeavesLoop, leaves_loop, WorkLeads, from_more, at_once, of_item, enter, closed}
use Rattle.depth_certifier.proofs.Frames.{Bounds, Returns, returns_of, CallersFit, KeepsFrames, Onward, holds, Reaches, kept_onward}
use Rattle.depth_certifier.proofs.Steps as steps

no_entries : (entries : List Entry) → shape_of entries ≡ [] → entries ≡ []
no_entries [] h = refl
no_entries (Cell value ∷ entries) h = cc
no_entries (Loop limit index ∷ entries) h = cc

module _ (p : SourceProgram) (known : Known) (heads : List (ℤ × ℤ)) (main : Effect) (most return_most high : ℕ) (lower : most ≤ high) (limit : high ≤ 33) (ends : end_height main.exit ≤ high)
    (e : Effect) (base : ℕ) (callers : List Frame) (bounds : Bounds most return_most e base (callers_height callers)) (below : CallersFit known heads main most return_most e base callers) (world : World) where
  abbrev here : List Work → List Entry → List ℕ → State
  here work es c = steps.here p known heads main most return_most high lower limit ends e base callers bounds below world work es c

  abbrev Step : First → List Work → List Entry → List ℕ → Type 0
  Step f w es c = steps.Step p known heads main most return_most high lower limit ends e base callers bounds below world f w es c

  abbrev From : List Work → Place → Place → Type 0
  From work s l = steps.From p known heads main most return_most high lower limit ends e base callers bounds below world work s l

  on : (w : List Work) (es : List Entry) (c : List ℕ) (s l : Place) → From w s l → Stood base s c es → length c ≤ most → entries_height es ≤ e.back → KeepsFrames known heads main most return_most (here w es c)
  on w es c s l f st few room = steps.on p known heads main most return_most high lower limit ends e base callers bounds below world w es c s l f st few room

  module _ (x : Effect) (q : Stand) (shape : Shape) (es : List Entry) (c : List ℕ) (allows : Allows e x q shape) (st : Inside base q (length c) es) where
    need : x.need ≤ length c
    need = steps.need p known heads main most return_most high lower limit ends e base callers bounds below world x q shape es c allows st

    peak : length c + x.peak ≤ most
    peak = steps.peak p known heads main most return_most high lower limit ends e base callers bounds below world x q shape es c allows st

    back : entries_height es + callers_height callers + x.back ≤ return_most
    back = steps.back p known heads main most return_most high lower limit ends e base callers bounds below world x q shape es c allows st

  reach : (x : Effect) (change : Shape → Option Shape) (q : Stand) (t : Place) (n : ℕ) (es es' : List Entry) (c : List ℕ) → Leads e x change (At q) t → Inside base q n es → LeavesWithin x.exit n (length c) →
      change (shape_of es) ≡ Some (shape_of es') → Reaches known heads main most return_most e base callers bounds below t c es'
  reach x change q t n es es' c leads i h ch = steps.reach p known heads main most return_most high lower limit ends e base callers bounds below world x change q t n es es' c leads i h ch

  quiet : (f : First) (w : List Work) (es : List Entry) (c : List ℕ) → peak_of callers f ≡ 0 → back_of f ≡ 0 → DepthFits f c → execute_back p f c ≡ 0 → length c ≤ most → entries_height es ≤ e.back →
      Onward known heads main most return_most (act p f (here w es c)) → Step f w es c
  quiet f w es c pk bk depth executes few room onward = steps.quiet p known heads main most return_most high lower limit ends e base callers bounds below world f w es c pk bk depth executes few room onward

  -- ---- flags

  flag_onward : (at_zero other w : List Work) (es : List Entry) (c : List ℕ) (place on_true on_false l : Place) → Decides e place on_true on_false →
      Stood base place c es → length c ≤ most → entries_height es ≤ e.back → From at_zero on_false l → From other on_true l →
      Onward known heads main most return_most (on_flag c at_zero other (here w es c))
  flag_onward at_zero other w es c Unreachable on_true on_false l d st few room f g = absurd st
  flag_onward at_zero other w es [] (At q) on_true on_false l d st few room f g = absurd (let n = need (table_effect table.If) q d.0.shape es [] d.0.allows st in omega (arith, n))
  flag_onward at_zero other w es (zero ∷ c) (At q) on_true on_false l d st few room f g =
      let r = reach (table_effect table.If) keep q on_true (suc (length c)) es es c d.0 st (changes 1 0 (suc (length c)) (length c) (omega arith)) refl in
      on at_zero es c on_false l f (subst (λ z. Stood base z c es) (sym d.1) r.stood) (omega (arith, few)) room
  flag_onward at_zero other w es (suc n ∷ c) (At q) on_true on_false l d st few room f g =
      let r = reach (table_effect table.If) keep q on_true (suc (length c)) es es c d.0 st (changes 1 0 (suc (length c)) (length c) (omega arith)) refl in
      on other es c on_true l g r.stood (omega (arith, few)) room
  flag_onward at_zero other w es [] (Doubled q) on_true on_false l d st few room f g = absurd st
  flag_onward at_zero other w es (zero ∷ c) (Doubled q) on_true on_false l d st few room f g =
      on at_zero es c on_false l f (subst (λ z. Stood base z c es) (sym d.1) (record { low = omega (arith, ints, st.low); high = omega (arith, ints, st.high); same = st.same })) (omega (arith, few)) room
  flag_onward at_zero other w es (suc n ∷ c) (Doubled q) on_true on_false l d st few room f g =
      on other es c on_true l g (subst (λ z. Stood base z c es) (sym d.0) st) (omega (arith, few)) room

  -- a flag whose ways lead to one place
  one_way : (m t : Place) → Leads e (table_effect table.Until) keep m t → Decides e m t t
  one_way Unreachable t h = (h, h)
  one_way (At q) t h = (h, refl)
  one_way (Doubled q) t h = absurd h

  pub if_moves : (first second : Nodes) (work w : List Work) (es : List Entry) (c : List ℕ) (place l : Place) →
      WorkLeads known heads e (Todo (If first second) ∷ work) place l → Stood base place c es → length c ≤ most → entries_height es ≤ e.back →
      Step (IsIf first second work) w es c
  if_moves first second work w es c place l f st few room =
      let i = f.item in
      quiet (IsIf first second work) w es c refl refl tt refl few room
      (flag_onward (before second work) (before first (closed_by second work)) w es c place i.on_true i.on_false l i.decides st few room
      (enter known heads e (branch_next f.next) second (f.k + loops first) i.on_false l f.place work i.second (open_matches f.next work f.matches) f.rest)
      (enter known heads e (branch_next f.next) first f.k i.on_true l f.place (closed_by second work) i.first (closed_matches f.next second work f.matches) (closed known heads e second work f.place l f.rest)))

  pub true_end_moves : (work w : List Work) (es : List Entry) (c : List ℕ) (place l : Place) → WorkLeads known heads e work place l → Stood base place c es → length c ≤ most → entries_height es ≤ e.back → Step (IsTrueEnd work) w es c
  true_end_moves work w es c place l f st few room = quiet (IsTrueEnd work) w es c refl refl tt refl few room (on work es c place l (at_once known heads e work place l f) st few room)

  pub until_moves : (body : Nodes) (work w : List Work) (es : List Entry) (c : List ℕ) (place l : Place) →
      WorkLeads known heads e (UntilTest body ∷ work) place l → Stood base place c es → length c ≤ most → entries_height es ≤ e.back →
      Step (IsUntil body work) w es c
  until_moves body work w es c place l f st few room =
      let u = f.0 in
      quiet (IsUntil body work) w es c refl refl tt refl few room
      (flag_onward (before body (UntilTest body ∷ work)) work w es c place u.after u.after l (one_way place u.after u.test) st few room
      (from_more known heads e (before body (UntilTest body ∷ work)) u.after u.head l u.again
      (enter known heads e More body (u.k + 1) u.head l place (UntilTest body ∷ work) u.items refl (at_once known heads e (UntilTest body ∷ work) place l f)))
      f.1)

  pub while_moves : (test body : Nodes) (work w : List Work) (es : List Entry) (c : List ℕ) (place l : Place) →
      WorkLeads known heads e (WhileTest test body ∷ work) place l → Stood base place c es → length c ≤ most → entries_height es ≤ e.back →
      Step (IsWhile test body work) w es c
  while_moves test body work w es c place l f st few room =
      let u = f.1 in
      quiet (IsWhile test body work) w es c refl refl tt refl few room
      (flag_onward work (before body (Repeat test body ∷ work)) w es c place u.on_true u.after l u.decides st few room f.2
      (enter known heads e More body (u.k + 1 + loops test) u.on_true l f.0 (Repeat test body ∷ work) u.items refl (at_once known heads e (Repeat test body ∷ work) f.0 l (place, u, f.2))))

  pub repeat_moves : (test body : Nodes) (work w : List Work) (es : List Entry) (c : List ℕ) (place l : Place) →
      WorkLeads known heads e (Repeat test body ∷ work) place l → Stood base place c es → length c ≤ most → entries_height es ≤ e.back →
      Step (IsRepeat test body work) w es c
  repeat_moves test body work w es c place l f st few room =
      let u = f.1 in
      quiet (IsRepeat test body work) w es c refl refl tt refl few room
      (on (before test (WhileTest test body ∷ work)) es c place l
      (from_more known heads e (before test (WhileTest test body ∷ work)) place u.head l u.again
      (enter known heads e Flag test (u.k + 1) u.head l f.0 (WhileTest test body ∷ work) u.test_items refl (at_once known heads e (WhileTest test body ∷ work) f.0 l (place, u, f.2))))
      st few room)

  -- ---- loops

  -- on a place with a loop on top the newest entry is a loop
  on_loop : (q : Stand) (es : List Entry) → OnLoop (At q) → shape_of es ≡ q.shape → (limit index : ℕ) × (entries : List Entry) × (es ≡ Loop limit index ∷ entries)
  on_loop q [] h same = (let i : [] ≡ OfLoop ∷ h.0 = same ∙ h.1 in cc (i))
  on_loop q (Cell value ∷ es) h same = (let i : OfCell ∷ shape_of es ≡ OfLoop ∷ h.0 = same ∙ h.1 in cc (i))
  on_loop q (Loop limit index ∷ es) h same = (limit, index, es, refl)

  drop_loop : (place : Place) (limit index : ℕ) (es : List Entry) (c : List ℕ) → OnLoop place → Stood base place c (Loop limit index ∷ es) → (q : Stand) → place ≡ At q → Stood base (dropped place) c es
  drop_loop place limit index es c h st q is =
      let i : Inside base q (length c) (Loop limit index ∷ es) = subst (λ z. Stood base z c (Loop limit index ∷ es)) is st in
      subst (λ z. Stood base (dropped z) c es) (sym is) (record { low = i.low; high = i.high; same = (ap without_loop i.same) })

  -- an effect that takes limit and start leads into a loop
  module _ (x : Effect) (takes_two : x.exit ≡ Some (negsuc 1, negsuc 1)) where
    begins_at : (q : Stand) (i : Place) → Leads e x push_loop (At q) i → i ≡ At (record { low = q.low +ℤ negsuc 1; high = q.high +ℤ negsuc 1; shape = OfLoop ∷ q.shape })
    begins_at q i leads =
        let push : leads.shape ≡ OfLoop ∷ q.shape = (let s = leads.changes in cc (s)) in
        leads.place ∙ ap (λ y. after y q leads.shape) takes_two ∙ ap (after (Some (negsuc 1, negsuc 1)) q) push

    head_at : (q : Stand) (i h : Place) → Leads e x push_loop (At q) i → (k : ℕ) → Head heads k i h → (r : Stand) × (h ≡ At r) × (r.shape ≡ OfLoop ∷ q.shape)
    head_at q i h leads k head =
        let head' = subst (λ z. Head heads k z h) (begins_at q i leads) head in
        (head'.stand, head'.place, sym head'.inside.same)

    end_on_loop : (h l : Place) → SameShape h l → (q r : Stand) → h ≡ At r → r.shape ≡ OfLoop ∷ q.shape → OnLoop l
    end_on_loop h Unreachable same q r is on = tt
    end_on_loop h (Doubled o) same q r is on = tt
    end_on_loop h (At o) same q r is on = let same' : r.shape ≡ o.shape = subst (λ z. SameShape z (At o)) is same in (q.shape, sym same' ∙ on)

    -- a counted loop that x begins
    abbrev Counted : Nodes → Bool → Stand → ℕ → Place → Type 0
    Counted body plus q k t = CountedFits heads e x plus k (λ h l m. Fits known heads e More body (k + 1) h l m) (At q) t

    loop_turns : (body : Nodes) (plus : Bool) (q : Stand) (k : ℕ) (t : Place) (g : Counted body plus q k t) → DoTurns known heads e body plus g.out g.turn
    loop_turns body plus q k t g =
        let at = head_at q g.start g.head g.begins k g.enters in
        record {
          k = k;
          head = g.head;
          next = g.next;
          head_on_loop = subst OnLoop (sym at.1) (q.shape, at.2);
          end_on_loop = end_on_loop g.head g.out g.same q at.0 at.1 at.2;
          items = g.items;
          turn = g.turns;
          again = g.again;
          out = g.leaves;
        }

    -- the cells after it, with the loop on the return entries
    begun_at : (q : Stand) (i : Place) (start limit : ℕ) (es : List Entry) (c : List ℕ) → Leads e x push_loop (At q) i → Inside base q (suc (suc (length c))) es →
        Reaches known heads main most return_most e base callers bounds below i c (Loop limit start ∷ es)
    begun_at q i start limit es c leads st =
        reach x push_loop q i (suc (suc (length c))) es (Loop limit start ∷ es) c leads st (subst (λ y. LeavesWithin y (suc (suc (length c))) (length c)) (sym takes_two) (changes 2 0 (suc (suc (length c))) (length c) (omega arith))) refl

    loop_onward : (body : Nodes) (plus : Bool) (work : List Work) (es : List Entry) (c : List ℕ) (start limit : ℕ) (q : Stand) (k : ℕ) (t outer : Place)
        (g : Counted body plus q k t) → From work (dropped g.out) outer → Inside base q (suc (suc (length c))) es → suc (suc (length c)) ≤ most →
        KeepsFrames known heads main most return_most (here (before body (Turn body plus ∷ work)) (Loop limit start ∷ es) c)
    loop_onward body plus work es c start limit q k t outer g out st few =
        let r = begun_at q g.start start limit es c g.begins st in
        on (before body (Turn body plus ∷ work)) (Loop limit start ∷ es) c g.start g.out
        (from_more known heads e (before body (Turn body plus ∷ work)) g.start g.head g.out (head_above known heads e k g.start g.head g.enters)
        (enter known heads e More body (k + 1) g.head g.out g.turn (Turn body plus ∷ work) g.items refl
        (at_once known heads e (Turn body plus ∷ work) g.turn g.out (loop_turns body plus q k t g, outer, out))))
        r.stood (omega (arith, few)) r.room

  pub do_moves : (body : Nodes) (plus : Bool) (work w : List Work) (es : List Entry) (c : List ℕ) (place l : Place) →
      WorkLeads known heads e (Todo (Do body plus) ∷ work) place l → Stood base place c es → length c ≤ most → entries_height es ≤ e.back →
      Step (IsDo body plus work) w es c
  do_moves body plus work w es c Unreachable l f st few room = absurd st
  do_moves body plus work w es c (Doubled q) l f st few room = absurd f.item.begins
  do_moves body plus work w es [] (At q) l f st few room = absurd (let n = need (table_effect table.Do) q f.item.begins.shape es [] f.item.begins.allows st in omega (arith, n))
  do_moves body plus work w es (x ∷ []) (At q) l f st few room = absurd (let n = need (table_effect table.Do) q f.item.begins.shape es (x ∷ []) f.item.begins.allows st in omega (arith, n))
  do_moves body plus work w es (start ∷ limit ∷ c) (At q) l f st few room =
      let g = f.item in
      let pk = peak (table_effect table.Do) q g.begins.shape es (start ∷ limit ∷ c) g.begins.allows st in
      let r = begun_at (table_effect table.Do) refl q g.start start limit es c g.begins st in
      record {
        data_cells = omega (arith, pk, lower);
        return_cells = (let s = r.room in omega (arith, s, bounds.back));
        depth = tt;
        executes = omega (arith, room, bounds.back);
        onward = loop_onward (table_effect table.Do) refl body plus work es c start limit q f.k f.place l g (subst (λ z. From work z l) g.after_loop f.rest) st few;
      }

  either : (b : Bool) (s t : State) → KeepsFrames known heads main most return_most s → KeepsFrames known heads main most return_most t → Onward known heads main most return_most (if b then Goes s else Goes t)
  either true s t h i = h
  either false s t h i = i

  dropped_below : (s t : Place) → Below s t → Below (dropped s) (dropped t)
  dropped_below Unreachable t h = tt
  dropped_below (At p) (At q) h = record { low = h.low; high = h.high; same = ap without_loop h.same }
  dropped_below (At p) Unreachable h = absurd h
  dropped_below (At p) (Doubled q) h = absurd h
  dropped_below (Doubled p) t h = tt

  -- ?DO goes into the loop or leaves it out
  pub query_do_moves : (body : Nodes) (plus : Bool) (work w : List Work) (es : List Entry) (c : List ℕ) (place l : Place) →
      WorkLeads known heads e (Todo (QDo body plus) ∷ work) place l → Stood base place c es → length c ≤ most → entries_height es ≤ e.back →
      Step (IsQDo body plus work) w es c
  query_do_moves body plus work w es c Unreachable l f st few room = absurd st
  query_do_moves body plus work w es c (Doubled q) l f st few room = absurd f.item.0.begins
  query_do_moves body plus work w es [] (At q) l f st few room = absurd (let n = need (table_effect table.QDo) q f.item.0.begins.shape es [] f.item.0.begins.allows st in omega (arith, n))
  query_do_moves body plus work w es (x ∷ []) (At q) l f st few room = absurd (let n = need (table_effect table.QDo) q f.item.0.begins.shape es (x ∷ []) f.item.0.begins.allows st in omega (arith, n))
  query_do_moves body plus work w es (start ∷ limit ∷ c) (At q) l f st few room =
      let g = f.item.0 in
      let i = g.start in
      let x = g.out in
      let pk = peak (table_effect table.QDo) q g.begins.shape es (start ∷ limit ∷ c) g.begins.allows st in
      let r = begun_at (table_effect table.QDo) refl q i start limit es c g.begins st in
      let is = begins_at (table_effect table.QDo) refl q i g.begins in
      let out : From work (dropped x) l = subst (λ z. From work z l) g.after_loop f.rest in
      record {
        data_cells = omega (arith, pk, lower);
        return_cells = (let s = r.room in omega (arith, s, bounds.back));
        depth = tt;
        executes = omega (arith, room, bounds.back);
        onward = either (limit == start) (here work es c) (here (before body (Turn body plus ∷ work)) (Loop limit start ∷ es) c)
            (on work es c (dropped i) l (from_more known heads e work (dropped i) (dropped x) l (dropped_below i x f.item.1) out)
            (drop_loop i limit start es c (subst OnLoop (sym is) (q.shape, refl)) r.stood (record { low = q.low +ℤ negsuc 1; high = q.high +ℤ negsuc 1; shape = OfLoop ∷ q.shape }) is) (omega (arith, few)) room)
            (loop_onward (table_effect table.QDo) refl body plus work es c start limit q f.k f.place l g out st few);
      }

  pub again_moves : (body : Nodes) (work w : List Work) (es : List Entry) (c : List ℕ) (place l : Place) →
      WorkLeads known heads e (BeginAgain body ∷ work) place l → Stood base place c es → length c ≤ most → entries_height es ≤ e.back →
      Step (IsAgain body work) w es c
  again_moves body work w es c place l f st few room =
      let u = f.0 in
      quiet (IsAgain body work) w es c refl refl tt refl few room
      (on (before body (BeginAgain body ∷ work)) es c place l
      (from_more known heads e (before body (BeginAgain body ∷ work)) place u.head l u.again
      (enter known heads e More body (u.k + 1) u.head l place (BeginAgain body ∷ work) u.items refl (at_once known heads e (BeginAgain body ∷ work) place l f)))
      st few room)

  -- ---- cases

  pub of_moves : (body : Nodes) (others : Arms) (rest : Nodes) (work w : List Work) (es : List Entry) (c : List ℕ) (place l : Place) →
      WorkLeads known heads e (OfTest body others rest ∷ work) place l → Stood base place c es → length c ≤ most → entries_height es ≤ e.back →
      Step (IsOf body others rest work) w es c
  of_moves body others rest work w es c Unreachable l f st few room = absurd st
  of_moves body others rest work w es c (Doubled q) l f st few room = absurd f.0.to_other
  of_moves body others rest work w es [] (At q) l f st few room = absurd (let n = need (of_effect (negsuc 1)) q f.0.to_equal.shape es [] f.0.to_equal.allows st in omega (arith, n))
  of_moves body others rest work w es (x ∷ []) (At q) l f st few room = absurd (let n = need (of_effect (negsuc 1)) q f.0.to_equal.shape es (x ∷ []) f.0.to_equal.allows st in omega (arith, n))
  of_moves body others rest work w es (x ∷ y ∷ c) (At q) l f st few room =
      let g = f.0 in
      let pk = peak (of_effect (negsuc 1)) q g.to_equal.shape es (x ∷ y ∷ c) g.to_equal.allows st in
      let r = reach (of_effect (negsuc 1)) keep q g.on_equal (suc (suc (length c))) es es c g.to_equal st (changes 2 0 (suc (suc (length c))) (length c) (omega arith)) refl in
      let o = reach (of_effect (negsuc 0)) keep q g.on_other (suc (suc (length c))) es es (y ∷ c) g.to_other st (changes 1 0 (suc (suc (length c))) (suc (length c)) (omega arith)) refl in
      record {
        data_cells = omega (arith, pk, lower);
        return_cells = omega (arith, room, bounds.back);
        depth = tt;
        executes = omega (arith, room, bounds.back);
        onward = either (x == y) (here (before body (EndOf ∷ work)) es c) (here (Todo (Case others rest) ∷ work) es (y ∷ c))
            (on (before body (EndOf ∷ work)) es c g.on_equal l (enter known heads e (branch_next g.next) body g.k g.on_equal l g.place (EndOf ∷ work) g.items (open_matches g.next work g.matches) f.1) r.stood (omega (arith, few)) room)
            (on (Todo (Case others rest) ∷ work) es (y ∷ c) g.on_other l (at_once known heads e (Todo (Case others rest) ∷ work) g.on_other l
            (of_item known heads e g.next (Case others rest) g.k' g.on_other l g.place work g.left g.matches f.1)) o.stood (omega (arith, few)) room);
      }

  pub end_of_moves : (work w : List Work) (es : List Entry) (c : List ℕ) (place l : Place) → WorkLeads known heads e work place l → Stood base place c es → length c ≤ most → entries_height es ≤ e.back → Step (IsEndOf work) w es c
  end_of_moves work w es c place l f st few room = quiet (IsEndOf work) w es c refl refl tt refl few room (on work es c place l (at_once known heads e work place l f) st few room)

  pub end_case_moves : (work w : List Work) (es : List Entry) (c : List ℕ) (place l : Place) → WorkLeads known heads e (EndCase ∷ work) place l →
      Stood base place c es → length c ≤ most → entries_height es ≤ e.back → Step (IsEndCase work) w es c
  end_case_moves work w es c Unreachable l f st few room = absurd st
  end_case_moves work w es c (Doubled q) l f st few room = absurd f.1
  end_case_moves work w es [] (At q) l f st few room = absurd (let n = need (table_effect table.EndCase) q f.1.shape es [] f.1.allows st in omega (arith, n))
  end_case_moves work w es (x ∷ c) (At q) l f st few room =
      let r = reach (table_effect table.EndCase) keep q f.0 (suc (length c)) es es c f.1 st (changes 1 0 (suc (length c)) (length c) (omega arith)) refl in
      quiet (IsEndCase work) w es (x ∷ c) refl refl tt refl few room (on work es c f.0 l f.2 r.stood (omega (arith, few)) room)

  -- the end of a turn: out of the loop, or again
  turned_onward : (body : Nodes) (plus : Bool) (step : ℕ) (work w : List Work) (es : List Entry) (c : List ℕ) (n : Stand) (h l outer : Place) → Below (At n) h →
      Below (At n) l → OnLoop h → OnLoop l → From (before body (Turn body plus ∷ work)) h l → From work (dropped l) outer →
      Inside base n (length c) es → length c ≤ most → entries_height es ≤ e.back → Onward known heads main most return_most (turned step body plus work es (here w es c))
  turned_onward body plus step work w es c n Unreachable l outer bh bl oh ol again out st few room = absurd bh
  turned_onward body plus step work w es c n (Doubled h) l outer bh bl oh ol again out st few room = absurd bh
  turned_onward body plus step work w es c n (At h) Unreachable outer bh bl oh ol again out st few room = absurd bl
  turned_onward body plus step work w es c n (At h) (Doubled l) outer bh bl oh ol again out st few room = absurd bl
  turned_onward body plus step work w [] c n (At h) (At l) outer bh bl oh ol again out st few room = (let i : [] ≡ OfLoop ∷ oh.0 = st.same ∙ bh.same ∙ oh.1 in cc (i))
  turned_onward body plus step work w (Cell value ∷ es) c n (At h) (At l) outer bh bl oh ol again out st few room = (let i : OfCell ∷ shape_of es ≡ OfLoop ∷ oh.0 = st.same ∙ bh.same ∙ oh.1 in cc (i))
  turned_onward body plus step work w (Loop limit index ∷ es) c n (At h) (At l) outer bh bl oh ol again out st few room =
      either (crosses (signed (difference_of index limit)) (signed step)) (here work es c) (here (before body (Turn body plus ∷ work)) (Loop limit (sum_of index step) ∷ es) c)
      (on work es c (dropped (At l)) outer out
      (drop_loop (At l) limit index es c ol (record { low = (let x = bl.low in omega (arith, ints, x, st.low)); high = (let x = bl.high in omega (arith, ints, x, st.high)); same = st.same ∙ bl.same }) l refl) few (omega (arith, room)))
      (on (before body (Turn body plus ∷ work)) (Loop limit (sum_of index step) ∷ es) c (At h) (At l) again
      (record { low = (let x = bh.low in omega (arith, ints, x, st.low)); high = (let x = bh.high in omega (arith, ints, x, st.high)); same = st.same ∙ bh.same }) few room)

  pub turn_moves : (body : Nodes) (plus : Bool) (work w : List Work) (es : List Entry) (c : List ℕ) (place l : Place) →
      WorkLeads known heads e (Turn body plus ∷ work) place l → Stood base place c es → length c ≤ most → entries_height es ≤ e.back →
      Step (IsTurn body plus work) w es c
  turn_moves body plus work w es c Unreachable l f st few room = absurd st
  turn_moves body plus work w es c (Doubled q) l f st few room = absurd f.0.turn
  turn_moves body false work w es c (At q) l f st few room =
      let turns = f.0 in
      let leads = turns.turn in
      let r = reach (table_effect table.Loop) keep q turns.next (length c) es es c leads st (changes 0 0 (length c) (length c) (omega arith)) refl in
      let n : Stand = record { low = q.low +ℤ pos 0; high = q.high +ℤ pos 0; shape = leads.shape } in
      let pk = peak (table_effect table.Loop) q leads.shape es c leads.allows st in
      record {
        data_cells = omega (arith, pk, lower);
        return_cells = omega (arith, room, bounds.back);
        depth = tt;
        executes = omega (arith, room, bounds.back);
        onward = turned_onward body false 1 work w es c n turns.head l f.1 (subst (λ z. Below z turns.head) leads.place turns.again) (subst (λ z. Below z l) leads.place turns.out) turns.head_on_loop turns.end_on_loop
            (enter known heads e More body (turns.k + 1) turns.head l (At q) (Turn body false ∷ work) turns.items refl (at_once known heads e (Turn body false ∷ work) (At q) l f))
            f.2 (subst (λ z. Stood base z c es) leads.place r.stood) few room;
      }
  turn_moves body true work w es [] (At q) l f st few room = absurd (let n = need (table_effect table.PlusLoop) q f.0.turn.shape es [] f.0.turn.allows st in omega (arith, n))
  turn_moves body true work w es (step ∷ c) (At q) l f st few room =
      let turns = f.0 in
      let leads = turns.turn in
      let r = reach (table_effect table.PlusLoop) keep q turns.next (suc (length c)) es es c leads st (changes 1 0 (suc (length c)) (length c) (omega arith)) refl in
      let n : Stand = record { low = q.low +ℤ negsuc 0; high = q.high +ℤ negsuc 0; shape = leads.shape } in
      let pk = peak (table_effect table.PlusLoop) q leads.shape es (step ∷ c) leads.allows st in
      record {
        data_cells = omega (arith, pk, lower);
        return_cells = omega (arith, room, bounds.back);
        depth = tt;
        executes = omega (arith, room, bounds.back);
        onward = turned_onward body true step work w es c n turns.head l f.1 (subst (λ z. Below z turns.head) leads.place turns.again) (subst (λ z. Below z l) leads.place turns.out) turns.head_on_loop turns.end_on_loop
            (enter known heads e More body (turns.k + 1) turns.head l (At q) (Turn body true ∷ work) turns.items refl (at_once known heads e (Turn body true ∷ work) (At q) l f))
            f.2 (subst (λ z. Stood base z c es) leads.place r.stood) (omega (arith, few)) room;
      }

  leave_onward : (work w : List Work) (es : List Entry) (c : List ℕ) (n : Stand) (l s : Place) → Below (At n) l → WorkLeads known heads e work s l → Inside base n (length c) es → length c ≤ most → entries_height es ≤ e.back →
      Onward known heads main most return_most (leave work es (here w es c))
  leave_onward work w es c n Unreachable s b f st few room = absurd b
  leave_onward work w es c n (Doubled l) s b f st few room = absurd b
  leave_onward work w es c n (At l) s b f st few room = by_entries es (leaves_loop known heads e work s l f) st room
    where
      by_entries : (es : List Entry) → LeavesLoop known heads e work (At l) → Inside base n (length c) es → entries_height es ≤ e.back → Onward known heads main most return_most (leave work es (here w es c))
      by_entries [] out st room = (let i : [] ≡ OfLoop ∷ out.on_loop.0 = st.same ∙ b.same ∙ out.on_loop.1 in cc (i))
      by_entries (Cell value ∷ es) out st room = (let i : OfCell ∷ shape_of es ≡ OfLoop ∷ out.on_loop.0 = st.same ∙ b.same ∙ out.on_loop.1 in cc (i))
      by_entries (Loop limit index ∷ es) out st room =
          on (after_loop work) es c (dropped (At l)) out.outer (record { place = out.place; below = out.below; leads = out.leads })
          (drop_loop (At l) limit index es c out.on_loop
          (record {
            low = (let x = b.low in omega (arith, ints, x, st.low));
            high = (let x = b.high in omega (arith, ints, x, st.high));
            same = st.same ∙ b.same;
          }) l refl) few (omega (arith, room))

  pub leave_moves : (work w : List Work) (es : List Entry) (c : List ℕ) (place l : Place) → WorkLeads known heads e (Todo Leave ∷ work) place l →
      Stood base place c es → length c ≤ most → entries_height es ≤ e.back → Step (IsLeave work) w es c
  leave_moves work w es c Unreachable l f st few room = absurd st
  leave_moves work w es c (Doubled q) l f st few room = absurd f.item.1
  leave_moves work w es c (At q) l f st few room =
      let g = f.item in
      let leads = g.1 in
      let r = reach (table_effect table.Leave) keep q g.0 (length c) es es c leads st (changes 0 0 (length c) (length c) (omega arith)) refl in
      let n : Stand = record { low = q.low +ℤ pos 0; high = q.high +ℤ pos 0; shape = leads.shape } in
      let pk = peak (table_effect table.Leave) q leads.shape es c leads.allows st in
      record {
        data_cells = omega (arith, pk, lower);
        return_cells = omega (arith, room, bounds.back);
        depth = tt;
        executes = omega (arith, room, bounds.back);
        onward = leave_onward work w es c n l f.rest.place (subst (λ z. Below z l) leads.place g.2) f.rest.leads (subst (λ z. Stood base z c es) leads.place r.stood) few room;
      }

  -- ---- the end of a body

  returned : (exit : Option (ℤ × ℤ)) (q : Stand) (c : List ℕ) (es : List Entry) (t : Place) (base' : ℕ) (entries : List Entry) → ExitHas exit q → Inside base q (length c) es → Returns exit base t base' entries → Stood base' t c entries
  returned None q c es t base' entries h st r = absurd h
  returned (Some exit) q c es t base' entries h st r =
      subst (λ z. Stood base' z c entries) (sym r.place) (record { low = (let x = r.low in omega (arith, ints, x, h.0, st.low)); high = (let x = r.high in omega (arith, ints, x, h.1, st.high)); same = r.same })

  main_end : (exit : Option (ℤ × ℤ)) (q : Stand) (n : ℕ) → ExitHas exit q → end_height exit ≤ high → pos n ≤ℤ q.high → n + 2 ≤ high
  main_end None q n h top st = absurd h
  main_end (Some exit) q n h top st = up exit.1 (omega (arith, ints, h.1, st)) top
    where
      up : (z : ℤ) → pos n ≤ℤ z → from_zero z + 2 ≤ high → n + 2 ≤ high
      up (pos m) a b = omega (arith, ints, a, b)
      up (negsuc m) a b = absurd (omega (arith, ints, a))

  ends_onward : (cs : List Frame) (es : List Entry) (w : List Work) (c : List ℕ) (q : Stand) → CallersFit known heads main most return_most e base cs → ExitHas e.exit q → Inside base q (length c) [] → length c ≤ most →
      (length c + end_peak cs ≤ high) × Onward known heads main most return_most (unwound [] cs (here w es c))
  ends_onward [] es w c q b h st few =
      let h' : ExitHas main.exit q = subst (λ z. ExitHas z.exit q) b.1 h in
      let st' : pos (length c) ≤ℤ q.high = (let i = st.high in let z = b.0 in zero_base base q.high z i) in
      (main_end main.exit q (length c) h' ends st', refl)
    where
      zero_base : (base : ℕ) (top : ℤ) → base ≡ 0 → pos (length c) ≤ℤ (pos base +ℤ top) → pos (length c) ≤ℤ top
      zero_base base top z i = omega (arith, ints, z, i)
  ends_onward (frame ∷ cs) es w c q b h st few =
      let wait = b.2 in (
        omega (arith, few, lower),
        record {
          effect = b.0;
          base = b.1;
          place = wait.place;
          loop_end = wait.loop_end;
          leads = wait.leads;
          stood = returned e.exit q c [] wait.place b.1 frame.entries h st wait.returns;
          bounds = wait.bounds;
          callers = b.3;
          few = few;
          room = wait.room;
        },
      )

  end_facts : (es : List Entry) (w : List Work) (c : List ℕ) (place : Place) → EndsBody e place → Stood base place c es → length c ≤ most →
      (es ≡ []) × (length c + end_peak callers ≤ high) × Onward known heads main most return_most (unwound es callers (here w es c))
  end_facts es w c Unreachable h st few = absurd st
  end_facts es w c (Doubled q) h st few = absurd h
  end_facts es w c (At q) h st few =
      let none = no_entries es (st.same ∙ h.0) in
      let r = ends_onward callers es w c q below h.1 (subst (λ z. Inside base q (length c) z) none st) few in
      (none, r.0, subst (λ z. Onward known heads main most return_most (unwound z callers (here w es c))) (sym none) r.1)

  pub body_end_moves : (w : List Work) (es : List Entry) (c : List ℕ) (place : Place) → EndsBody e place → Stood base place c es → length c ≤ most → entries_height es ≤ e.back → Step BodyEnd w es c
  body_end_moves w es c place h st few room =
      let r = end_facts es w c place h st few in
      record { data_cells = r.1; return_cells = omega (arith, room, bounds.back); depth = tt; executes = omega (arith, room, bounds.back); onward = r.2 }

  pub exit_moves : (w : List Work) (es : List Entry) (c : List ℕ) (place : Place) → EndsBody e place → Stood base place c es → length c ≤ most → entries_height es ≤ e.back → Step IsExit w es c
  exit_moves w es c place h st few room =
      let r = end_facts es w c place h st few in
      record { data_cells = r.1; return_cells = omega (arith, room, bounds.back); depth = tt; executes = omega (arith, room, bounds.back); onward = r.2 }

  -- ---- the string words

  pub text_moves : (kind : TextKind) (address size' : ℕ) (work w : List Work) (es : List Entry) (c : List ℕ) (place t l : Place) →
      Leads e (table_effect (text_word kind)) keep place t → Stood base place c es → length c ≤ most → entries_height es ≤ e.back → From work t l →
      Step (IsText kind address size' work) w es c
  text_moves kind address size' work w es c Unreachable t l leads st few room f = absurd st
  text_moves kind address size' work w es c (Doubled q) t l leads st few room f = absurd leads
  text_moves kind address size' work w es c (At q) t l leads st few room f =
      let pk = peak (table_effect (text_word kind)) q leads.shape es c leads.allows st in
      let bk = back (table_effect (text_word kind)) q leads.shape es c leads.allows st in
      record { data_cells = omega (arith, pk, lower, text_peak_is kind); return_cells = omega (arith, bk, text_back_is kind); depth = tt; executes = omega (arith, bk); onward = by kind c leads st few pk }
    where
      text_peak_is : (kind : TextKind) → text_peak kind ≡ (table_effect (text_word kind)).peak
      text_peak_is text.Address = refl
      text_peak_is text.Print = refl
      text_peak_is text.Abort = refl

      text_back_is : (kind : TextKind) → text_back kind ≡ (table_effect (text_word kind)).back
      text_back_is text.Address = refl
      text_back_is text.Print = refl
      text_back_is text.Abort = refl

      by : (kind : TextKind) (c : List ℕ) → Leads e (table_effect (text_word kind)) keep (At q) t → Inside base q (length c) es → length c ≤ most →
          length c + (table_effect (text_word kind)).peak ≤ most → Onward known heads main most return_most (text_step kind address size' c (here work es c))
      by text.Address c leads st few pk =
          let r = reach (table_effect table.SQuote) keep q t (length c) es es (size' ∷ address ∷ c) leads st (changes 0 2 (length c) (suc (suc (length c))) (omega arith)) refl in
          on work es (size' ∷ address ∷ c) t l f r.stood (omega (arith, pk)) r.room
      by text.Print c leads st few pk =
          kept_onward known heads main most return_most (table_effect table.DotQuote).exit (length c) (type_out size' address world ▸ λ _. Gives c) (here work es c)
          (owed (table_effect table.DotQuote).exit (length c) (type_out size' address world) (λ _ w'. Gives c w') (type_sound size' address world) (λ _ _. changes 0 0 (length c) (length c) (omega arith)))
          (λ c' w' h.
          let r = reach (table_effect table.DotQuote) keep q t (length c) es es c' leads st h refl in
          holds known heads main most return_most e base callers bounds below work es c' w' t l f r.stood (let i = h.1 in omega (arith, ints, few, i)) r.room)
      by text.Abort [] leads st few pk = absurd (let n = need (table_effect table.AbortQuote) q leads.shape es [] leads.allows st in omega (arith, n))
      by text.Abort (zero ∷ c) leads st few pk =
          let r = reach (table_effect table.AbortQuote) keep q t (suc (length c)) es es c leads st (changes 1 0 (suc (length c)) (length c) (omega arith)) refl in
          on work es c t l f r.stood (omega (arith, few)) r.room
      by text.Abort (suc n ∷ c) leads st few pk =
          kept_onward known heads main most return_most (table_effect table.AbortQuote).exit (suc (length c)) (type_out size' address world ▸ λ _. Stops (Halted 2)) (here work es (suc n ∷ c))
          (owed (table_effect table.AbortQuote).exit (suc (length c)) (type_out size' address world) (λ _ w'. Stops (Halted 2) w') (type_sound size' address world) (λ _ _. refl))
          (λ c' w' h. (let r = reach (table_effect table.AbortQuote) keep q t (suc (length c)) es es c' leads st h refl in
          holds known heads main most return_most e base callers bounds below work es c' w' t l f r.stood (let i = h.1 in omega (arith, ints, few, i)) r.room))

  -- ---- calls

  module _ (bodies : (d : ℕ) → (k : ℕ) × BodyFits known heads (effect_of known d) (body_of p d) k) (limits : (d : ℕ) → ((effect_of known d).need ≤ 33) × ((effect_of known d).peak ≤ 33)) where
    call_onward : (d : ℕ) (next : Next) (work w : List Work) (es : List Entry) (c : List ℕ) (q : Stand) (t l : Place) → Matches next work →
        Leads e (called_effect next (effect_of known d)) keep (At q) t → Inside base q (length c) es → length c ≤ most → entries_height es ≤ e.back →
        From work t l →
        KeepsFrames known heads main most return_most (begun p d (here work es c))
    call_onward d next work w es c q t l m leads st few room f =
        let x = effect_of known d in
        let y = called_effect next x in
        let n1 = need y q leads.shape es c leads.allows st in
        let n2 = peak y q leads.shape es c leads.allows st in
        let n3 = back y q leads.shape es c leads.allows st in
        let same : leads.shape ≡ q.shape = (let h = leads.changes in cc (h)) in
        let is : t ≡ after x.exit q q.shape = subst (λ z. t ≡ after x.exit q z) same leads.place in
        let body = bodies d in
        let cells = ap address_height m in
        let lim = limits d in
        holds known heads main most return_most x (length c) (record { work = work; entries = es } ∷ callers)
        (record { need = n1; peak = n2; back = omega (arith, n3, cells); need_limit = lim.0; peak_limit = lim.1 })
        (e, base, record { place = f.place; loop_end = l; returns = returns_of x.exit q t f.place base (length c) es is f.below st; leads = f.leads; bounds = bounds; room = room }, below)
        (before (body_of p d) []) [] c world (At entry) Unreachable
        (enter known heads x Return (body_of p d) body.0 (At entry) Unreachable body.1.0 [] body.1.1 refl (at_once known heads x [] body.1.0 Unreachable (body.1.2, refl)))
        (record { low = omega (arith, ints); high = omega (arith, ints); same = refl }) few (omega arith)

    pub call_moves : (d : ℕ) (next : Next) (work w : List Work) (es : List Entry) (c : List ℕ) (place t l : Place) → Matches next work →
        Leads e (called_effect next (effect_of known d)) keep place t → Stood base place c es → length c ≤ most → entries_height es ≤ e.back → From work t l →
        Step (IsCall d work) w es c
    call_moves d next work w es c Unreachable t l m leads st few room f = absurd st
    call_moves d next work w es c (Doubled q) t l m leads st few room f = absurd leads
    call_moves d next work w es c (At q) t l m leads st few room f = quiet (IsCall d work) w es c refl refl tt refl few room (call_onward d next work w es c q t l m leads st few room f)

    pub child_moves : (d a : ℕ) (next : Next) (work w : List Work) (es : List Entry) (c : List ℕ) (place m t l : Place) → Matches next work →
        Leads e (table_effect table.Literal) keep place m → Leads e (called_effect next (effect_of known d)) keep m t → Stood base place c es →
        length c ≤ most → entries_height es ≤ e.back → From work t l →
        Step (IsChild d a work) w es c
    child_moves d a next work w es c Unreachable m t l ma literal leads st few room f = absurd st
    child_moves d a next work w es c (Doubled q) m t l ma literal leads st few room f = absurd literal
    child_moves d a next work w es c (At q) m t l ma literal leads st few room f =
        let pk = peak (table_effect table.Literal) q literal.shape es c literal.allows st in
        let r = reach (table_effect table.Literal) keep q m (length c) es es (a ∷ c) literal st (changes 0 1 (length c) (suc (length c)) (omega arith)) refl in
        let r' : Stand = record { low = q.low +ℤ pos 1; high = q.high +ℤ pos 1; shape = literal.shape } in
        record {
          data_cells = omega (arith, pk, lower);
          return_cells = omega (arith, room, bounds.back);
          depth = tt;
          executes = omega (arith, room, bounds.back);
          onward = call_onward d next work w es (a ∷ c) r' t l ma (subst (λ z. Leads e (called_effect next (effect_of known d)) keep z t) literal.place leads)
              (subst (λ z. Stood base z (a ∷ c) es) literal.place r.stood) (omega (arith, pk)) room f;
        }
