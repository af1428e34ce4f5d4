-- Each word step of a word, from a place of the certificate.
use Rattle.std.proofs.Common.{◌≡◌, ◌⊎◌, inl, inr, ℕ, zero, suc, ◌+◌, ◌≤◌, Bool, true, false, List, [], ◌∷◌, length, Option, Some, None, refl, sym, ap, ◌∙◌, subst, arith}
use Rattle.std.specs.Prelude.{pos, negsuc, ℤ, ◌≤ℤ◌, ◌-ℤ◌, int_le}
use Rattle.std.proofs.lemmas.Int.{ints}
use Rattle.word_table.specs.declared.word.Word.{Word}
use Rattle.word_table.specs.declared.word.Word.TheVariants as table
use Rattle.word_table.specs.declared.word.Word.TheVariants.{ToR, RFrom, RFetch, Index, OuterIndex, Unloop, Execute, Depth, QDup}
use Rattle.forth_program.specs.Tree.{Node, Literal, Plain, Call, Child, Text, If, Until, While, Again, Do, QDo, Case, Leave, Exit}
use Rattle.forth_program.specs.State.{Entry, Cell, Loop, Work, Todo, Frame, World, State}
use Rattle.forth_program.specs.Program.{SourceProgram, token_of}
use Rattle.forth_program.specs.Form.{may_be_token}
use Rattle.forth_program.specs.Meaning.{meaning}
use Rattle.forth_program.specs.Step.{First, IsLiteral, IsWord, first_in, on_cells, with_token, word_step, act}
use Rattle.depth_certifier.specs.declared.effect.Effect.{Effect}
use Rattle.depth_certifier.specs.Place.{Shape, size, Stand, Place, Unreachable, At, Doubled, moved, Below, InLimits}
use Rattle.depth_certifier.specs.Effects.{table_effect, moved_by, word_effect, execute_effect, Known, effect_of, Next, Return, Flag, More, is_jump, called_effect, child_effect, keep, shape_after, kept_by}
use Rattle.depth_certifier.specs.Certificate.{after, Allows, Leads, Doubles, doubles, WordLeads, ItemFits, ExitIn, EffectIn, TokenIn}
use Rattle.forth_program.specs.Tail.{ends_body}
use Rattle.forth_program.specs.Heights.{address_height, entries_height, callers_height, peak_of, back_of, token_back, execute_back, DepthFits}
use Rattle.depth_certifier.specs.Soundness.{end_height}
use Rattle.depth_certifier.proofs.SourcePlaces.{shape_of, Inside, Stood, LeavesWithin}
use Rattle.depth_certifier.proofs.Words.{When, Kept, changes, has_meaning, meaning_kept}
use Rattle.depth_certifier.proofs.Work.{WorkFrom, from_more, at_once, of_item}
use Rattle.depth_certifier.proofs.Frames.{Bounds, CallersFit, KeepsFrames, Onward, holds, need_met, peak_met, back_met, Reaches, reaches, kept_onward, Moves}

int_le_true : (a b : ℤ) → int_le a b ≡ true → a ≤ℤ b
int_le_true a b h = grind (arith, ints)

-- ---- facts on single words

-- the exit is no higher than the peak
abbrev top_within : Option (ℤ × ℤ) → ℕ → Bool
top_within None peak = true
top_within (Some exit) peak = int_le exit.1 (pos peak)

exit_below_peak : (word : Word) → top_within (table_effect word).exit (table_effect word).peak ≡ true
exit_below_peak table.Dup = refl
exit_below_peak word = refl

-- every word but EXECUTE has the effect of the table
abbrev pub is_table_word : Word → Bool
is_table_word Execute = false
is_table_word word = true

top_of : (exit : Option (ℤ × ℤ)) (peak n m : ℕ) → top_within exit peak ≡ true → LeavesWithin exit n m → m ≤ n + peak
top_of None peak n m t h = absurd h
top_of (Some exit) peak n m t h = let i = int_le_true exit.1 (pos peak) t in omega (arith, ints, i, h.1)

depth_fits : (word : Word) (work : List Work) (c : List ℕ) → length c + (table_effect word).peak ≤ 33 → DepthFits (IsWord word work) c
depth_fits Depth work c room = omega arith
depth_fits word work c room = tt

module _ (p : SourceProgram) (known : Known) (heads : List (ℤ × ℤ)) (main : Effect) (most return_most high : ℕ) (lower : most ≤ high) (limit : high ≤ 33) (ends : end_height main.exit ≤ high)
    (e : Effect) (base : ℕ) (callers : List Frame) (bounds : Bounds most return_most e base (callers_height callers)) (below : CallersFit known heads main most return_most e base callers) (world : World) where
  abbrev pub here : List Work → List Entry → List ℕ → State
  here w es c = record { work = w; entries = es; callers = callers; cells = c; world = world }

  abbrev pub Step : First → List Work → List Entry → List ℕ → Type 0
  Step f w es c = Moves known heads main most return_most p high f (here w es c) (act p f (here w es c))

  abbrev pub From : List Work → Place → Place → Type 0
  From work s l = WorkFrom known heads e work s l

  pub on : (w : List Work) (es : List Entry) (c : List ℕ) (s l : Place) → From w s l → Stood base s c es → length c ≤ most → entries_height es ≤ e.back → KeepsFrames known heads main most return_most (here w es c)
  on w es c s l f st few room = holds known heads main most return_most e base callers bounds below w es c world s l f st few room

  module _ (x : Effect) (q : Stand) (shape : Shape) (es : List Entry) (c : List ℕ) (allows : Allows e x q shape) (st : Inside base q (length c) es) where
    pub need : x.need ≤ length c
    need = need_met known heads main most return_most e base callers bounds below x q shape (length c) es allows st

    pub peak : length c + x.peak ≤ most
    peak = peak_met known heads main most return_most e base callers bounds below x q shape (length c) es allows st

    pub back : entries_height es + callers_height callers + x.back ≤ return_most
    back = back_met known heads main most return_most e base callers bounds below x q shape (length c) es allows st

  pub reach : (x : Effect) (change : Shape → Option Shape) (q : Stand) (t : Place) (n : ℕ) (es es' : List Entry) (c : List ℕ) → Leads e x change (At q) t → Inside base q n es → LeavesWithin x.exit n (length c) →
      change (shape_of es) ≡ Some (shape_of es') → Reaches known heads main most return_most e base callers bounds below t c es'
  reach x change q t n es es' c leads i h ch = reaches known heads main most return_most e base callers bounds below x change q t n es es' c leads i h ch

  -- a step that takes no cells above those that are there
  pub quiet : (f : First) (w : List Work) (es : List Entry) (c : List ℕ) → peak_of callers f ≡ 0 → back_of f ≡ 0 → DepthFits f c → execute_back p f c ≡ 0 → length c ≤ most → entries_height es ≤ e.back →
      Onward known heads main most return_most (act p f (here w es c)) → Step f w es c
  quiet f w es c pk bk depth executes few room onward =
      record { data_cells = omega (arith, pk, few, lower); return_cells = omega (arith, bk, room, bounds.back); depth = depth; executes = omega (arith, executes, room, bounds.back); onward = onward }

  pub literal_moves : (value : ℕ) (work w : List Work) (es : List Entry) (c : List ℕ) (place t l : Place) → Leads e (table_effect table.Literal) keep place t →
      Stood base place c es → length c ≤ most → entries_height es ≤ e.back → From work t l → Step (IsLiteral value work) w es c
  literal_moves value work w es c Unreachable t l leads st few room f = absurd st
  literal_moves value work w es c (Doubled q) t l leads st few room f = absurd leads
  literal_moves value work w es c (At q) t l leads st few room f =
      let pk = peak (table_effect table.Literal) q leads.shape es c leads.allows st in
      let r = reach (table_effect table.Literal) keep q t (length c) es es (value ∷ c) leads st (changes 0 1 (length c) (suc (length c)) (omega arith)) refl in
      record { data_cells = omega (arith, pk, lower); return_cells = omega (arith, room, bounds.back); depth = tt; executes = omega (arith, room, bounds.back); onward = on work es (value ∷ c) t l f r.stood (omega (arith, pk)) r.room }

  -- ---- words

  -- a word that is its meaning on the cells and the world
  meaning_onward : (word : Word) (work w : List Work) (es : List Entry) (c : List ℕ) (q : Stand) (t l : Place) → Leads e (table_effect word) (shape_after word) (At q) t → Inside base q (length c) es → From work t l →
      (b : Bool) → has_meaning word ≡ b → ((shape : Shape) → shape_after word shape ≡ kept_by b shape) → word_step p word c es (here work es c) ≡ on_cells (meaning word c world) (here work es c) →
      Onward known heads main most return_most (word_step p word c es (here work es c))
  meaning_onward word work w es c q t l leads st f false has keeps is = (let none : None ≡ Some leads.shape = sym (keeps q.shape) ∙ leads.changes in cc (none))
  meaning_onward word work w es c q t l leads st f true has keeps is =
      let kept : Kept (table_effect word).exit (length c) (meaning word c world) =
      (let k =
      meaning_kept world word c (need (table_effect word) q leads.shape es c leads.allows st) in
      subst (λ b. When b (Kept (table_effect word).exit (length c) (meaning word c world))) has k) in
      subst (Onward known heads main most return_most) (sym is)
      (kept_onward known heads main most return_most (table_effect word).exit (length c) (meaning word c world) (here work es c) kept
      (λ c' w' h.
      let r = reach (table_effect word) (shape_after word) q t (length c) es es c' leads st h (keeps (shape_of es)) in
      holds known heads main most return_most e base callers bounds below work es c' w' t l f r.stood
      (let top = top_of (table_effect word).exit (table_effect word).peak (length c) (length c') (exit_below_peak word) h in omega (arith, top, peak (table_effect word) q leads.shape es c leads.allows st)) r.room))

  -- ---- words on return entries

  entries_word : (work w : List Work) (es es' : List Entry) (c c' : List ℕ) (word : Word) (q : Stand) (t l : Place) → Leads e (table_effect word) (shape_after word) (At q) t → Inside base q (length c) es → From work t l →
      LeavesWithin (table_effect word).exit (length c) (length c') → shape_after word (shape_of es) ≡ Some (shape_of es') → length c' ≤ length c + (table_effect word).peak → KeepsFrames known heads main most return_most (here work es' c')
  entries_word work w es es' c c' word q t l leads st f h ch top =
      let r = reach (table_effect word) (shape_after word) q t (length c) es es' c' leads st h ch in
      on work es' c' t l f r.stood (let pk = peak (table_effect word) q leads.shape es c leads.allows st in omega (arith, pk, top)) r.room

  none_some : {A : Type 0} (x : Shape) → None ≡ Some x → A
  none_some x h = cc

  to_r : (work w : List Work) (es : List Entry) (c : List ℕ) (q : Stand) (t l : Place) → Leads e (table_effect ToR) (shape_after ToR) (At q) t → Inside base q (length c) es → From work t l →
      Onward known heads main most return_most (word_step p ToR c es (here work es c))
  to_r work w es [] q t l leads st f = absurd (let n = need (table_effect ToR) q leads.shape es [] leads.allows st in omega (arith, n))
  to_r work w es (x ∷ c) q t l leads st f = entries_word work w es (Cell x ∷ es) (x ∷ c) c ToR q t l leads st f (changes 1 0 (suc (length c)) (length c) (omega arith)) refl (omega arith)

  from_r : (work w : List Work) (es : List Entry) (c : List ℕ) (q : Stand) (t l : Place) → Leads e (table_effect RFrom) (shape_after RFrom) (At q) t → Inside base q (length c) es → From work t l →
      Onward known heads main most return_most (word_step p RFrom c es (here work es c))
  from_r work w [] c q t l leads st f = none_some leads.shape (ap (shape_after RFrom) st.same ∙ leads.changes)
  from_r work w (Loop limit index ∷ es) c q t l leads st f = none_some leads.shape (ap (shape_after RFrom) st.same ∙ leads.changes)
  from_r work w (Cell x ∷ es) c q t l leads st f = entries_word work w (Cell x ∷ es) es c (x ∷ c) RFrom q t l leads st f (changes 0 1 (length c) (suc (length c)) (omega arith)) refl (omega arith)

  r_fetch : (work w : List Work) (es : List Entry) (c : List ℕ) (q : Stand) (t l : Place) → Leads e (table_effect RFetch) (shape_after RFetch) (At q) t → Inside base q (length c) es → From work t l →
      Onward known heads main most return_most (word_step p RFetch c es (here work es c))
  r_fetch work w [] c q t l leads st f = none_some leads.shape (ap (shape_after RFetch) st.same ∙ leads.changes)
  r_fetch work w (Loop limit index ∷ es) c q t l leads st f = none_some leads.shape (ap (shape_after RFetch) st.same ∙ leads.changes)
  r_fetch work w (Cell x ∷ es) c q t l leads st f = entries_word work w (Cell x ∷ es) (Cell x ∷ es) c (x ∷ c) RFetch q t l leads st f (changes 0 1 (length c) (suc (length c)) (omega arith)) refl (omega arith)

  index : (work w : List Work) (es : List Entry) (c : List ℕ) (q : Stand) (t l : Place) → Leads e (table_effect Index) (shape_after Index) (At q) t → Inside base q (length c) es → From work t l →
      Onward known heads main most return_most (word_step p Index c es (here work es c))
  index work w [] c q t l leads st f = none_some leads.shape (ap (shape_after Index) st.same ∙ leads.changes)
  index work w (Cell x ∷ es) c q t l leads st f = none_some leads.shape (ap (shape_after Index) st.same ∙ leads.changes)
  index work w (Loop limit i ∷ es) c q t l leads st f = entries_word work w (Loop limit i ∷ es) (Loop limit i ∷ es) c (i ∷ c) Index q t l leads st f (changes 0 1 (length c) (suc (length c)) (omega arith)) refl (omega arith)

  outer_index : (work w : List Work) (es : List Entry) (c : List ℕ) (q : Stand) (t l : Place) → Leads e (table_effect OuterIndex) (shape_after OuterIndex) (At q) t → Inside base q (length c) es → From work t l →
      Onward known heads main most return_most (word_step p OuterIndex c es (here work es c))
  outer_index work w [] c q t l leads st f = none_some leads.shape (ap (shape_after OuterIndex) st.same ∙ leads.changes)
  outer_index work w (Cell x ∷ es) c q t l leads st f = none_some leads.shape (ap (shape_after OuterIndex) st.same ∙ leads.changes)
  outer_index work w (Loop limit i ∷ []) c q t l leads st f = none_some leads.shape (ap (shape_after OuterIndex) st.same ∙ leads.changes)
  outer_index work w (Loop limit i ∷ Cell x ∷ es) c q t l leads st f = none_some leads.shape (ap (shape_after OuterIndex) st.same ∙ leads.changes)
  outer_index work w (Loop limit i ∷ Loop limit' j ∷ es) c q t l leads st f =
      entries_word work w (Loop limit i ∷ Loop limit' j ∷ es) (Loop limit i ∷ Loop limit' j ∷ es) c (j ∷ c) OuterIndex q t l leads st f (changes 0 1 (length c) (suc (length c)) (omega arith)) refl (omega arith)

  unloop : (work w : List Work) (es : List Entry) (c : List ℕ) (q : Stand) (t l : Place) → Leads e (table_effect Unloop) (shape_after Unloop) (At q) t → Inside base q (length c) es → From work t l →
      Onward known heads main most return_most (word_step p Unloop c es (here work es c))
  unloop work w [] c q t l leads st f = none_some leads.shape (ap (shape_after Unloop) st.same ∙ leads.changes)
  unloop work w (Cell x ∷ es) c q t l leads st f = none_some leads.shape (ap (shape_after Unloop) st.same ∙ leads.changes)
  unloop work w (Loop limit i ∷ es) c q t l leads st f = entries_word work w (Loop limit i ∷ es) es c c Unloop q t l leads st f (changes 0 0 (length c) (length c) (omega arith)) refl (omega arith)

  -- every word but EXECUTE
  table_word : (word : Word) (work w : List Work) (es : List Entry) (c : List ℕ) (q : Stand) (t l : Place) → Leads e (word_effect known.shared word) (shape_after word) (At q) t → Inside base q (length c) es → From work t l →
      When (is_table_word word) (Onward known heads main most return_most (word_step p word c es (here work es c)))
  table_word ToR work w es c q t l leads st f = to_r work w es c q t l leads st f
  table_word RFrom work w es c q t l leads st f = from_r work w es c q t l leads st f
  table_word RFetch work w es c q t l leads st f = r_fetch work w es c q t l leads st f
  table_word Index work w es c q t l leads st f = index work w es c q t l leads st f
  table_word OuterIndex work w es c q t l leads st f = outer_index work w es c q t l leads st f
  table_word Unloop work w es c q t l leads st f = unloop work w es c q t l leads st f
  table_word Execute work w es c q t l leads st f = tt
  table_word word work w es c q t l leads st f = meaning_onward word work w es c q t l leads st f (has_meaning word) refl (λ shape. refl) refl

  -- ---- EXECUTE

  abbrev lowered : Stand → Stand
  lowered q = moved q (negsuc 0) (negsuc 0)

  -- an effect within the shared one, where EXECUTE stands at q and leads to t
  token_leads : (x : Effect) (change : Shape → Option Shape) (q : Stand) (t : Place) → x.need ≤ known.shared.need → x.peak ≤ known.shared.peak →
      x.back ≤ 1 + known.shared.back → ExitIn x.exit known.shared.exit → change q.shape ≡ Some q.shape →
      Leads e (execute_effect known.shared) keep (At q) t → Leads e x change (At (lowered q)) (after x.exit (lowered q) q.shape) × Below (after x.exit (lowered q) q.shape) t
  token_leads x change q t need peak back exit ch leads =
      let same : q.shape ≡ leads.shape = (let h = leads.changes in cc (h)) in
      let a = leads.allows in
      let sums = ap size same in
      let allows : Allows e x (lowered q) q.shape = record {
        need = (let n = a.need in omega (arith, ints, n, need));
        peak = (let n = a.peak in omega (arith, ints, n, peak));
        back = (let n = a.back in omega (arith, n, back));
        room = (let n = a.back in omega (arith, n));
      } in
      let r = exits x.exit known.shared.exit q leads.shape t same exit leads.place leads.limits in
      (record { shape = q.shape; changes = ch; allows = allows; place = refl; limits = r.1 }, r.0)
    where
      exits : (x y : Option (ℤ × ℤ)) (q : Stand) (shape : Shape) (t : Place) → q.shape ≡ shape → ExitIn x y → t ≡ after (moved_by (pos 0 -ℤ pos 1) y) q shape → InLimits t →
          Below (after x (lowered q) q.shape) t × InLimits (after x (lowered q) q.shape)
      exits None y q shape t same h is lim = (tt, tt)
      exits (Some x) None q shape t same h is lim = absurd h
      exits (Some x) (Some y) q shape t same h is lim =
          let lim' : InLimits (after (moved_by (pos 0 -ℤ pos 1) (Some y)) q shape) = subst InLimits is lim in
          (subst (Below (after (Some x) (lowered q) q.shape)) (sym is) (record { low = omega (arith, ints, h.0); high = omega (arith, ints, h.1); same = same }), (omega (arith, ints, h.0, lim'.0), omega (arith, ints, h.1, lim'.1)))

  -- what follows the item of a token
  abbrev next_by : Bool → Next
  next_by true = Return
  next_by false = More

  next_by_matches : (b : Bool) → is_jump (next_by b) ≡ b
  next_by_matches true = refl
  next_by_matches false = refl

  no_doubling : (b : Bool) (word : Word) → doubles (next_by b) word ≡ false
  no_doubling true word = refl
  no_doubling false word = refl

  one_more : (b : Bool) → address_height b ≤ 1
  one_more true = omega arith
  one_more false = omega arith

  -- a word of a token keeps the return entries
  token_word : (word : Word) → may_be_token (Plain word) ≡ true → (shape_after word ≡ keep) × (word_effect known.shared word ≡ table_effect word)
  token_word ToR h = cc
  token_word RFrom h = cc
  token_word RFetch h = cc
  token_word Index h = cc
  token_word OuterIndex h = cc
  token_word Unloop h = cc
  token_word Execute h = cc
  token_word table.Go h = cc
  token_word word h = (λ i shape. kept_by (h i) shape, refl)

  -- a child is a literal and then a call
  abbrev raised : Stand → Stand
  raised q = moved (lowered q) (pos 1) (pos 1)

  child_leads : (b : Bool) (x : Effect) (q : Stand) (t : Place) → EffectIn (child_effect x) known.shared → Leads e (execute_effect known.shared) keep (At q) t →
      Leads e (table_effect table.Literal) keep (At (lowered q)) (At (raised q)) × Leads e (called_effect (next_by b) x) keep (At (raised q)) (after x.exit (raised q) q.shape) × Below (after x.exit (raised q) q.shape) t
  child_leads b x q t h leads =
      let same : q.shape ≡ leads.shape = (let i = leads.changes in cc (i)) in
      let a = leads.allows in
      let one = one_more (is_jump (next_by b)) in
      let n1 = a.need in
      let n2 = a.peak in
      let n3 = a.back in
      let h1 = h.need in
      let h2 = h.peak in
      let h3 = h.back in
      let l1 = bounds.need_limit in
      let l2 = bounds.peak_limit in
      let first : Allows e (table_effect table.Literal) (lowered q) q.shape = record {
        need = omega (arith, ints, n1);
        peak = omega (arith, ints, n2);
        back = omega (arith, n3);
        room = omega (arith, n3);
      } in
      let limits : InLimits (At (raised q)) = (omega (arith, ints, n1, l1), omega (arith, ints, n2, l2)) in
      let second : Allows e (called_effect (next_by b) x) (raised q) q.shape = record {
        need = omega (arith, ints, n1, h1);
        peak = omega (arith, ints, n2, h2);
        back = omega (arith, n3, h3, one);
        room = omega (arith, n3);
      } in
      let r = exits x.exit known.shared.exit q leads.shape t same h.exit leads.place leads.limits in (
        record { shape = q.shape; changes = refl; allows = first; place = refl; limits = limits },
        record { shape = q.shape; changes = refl; allows = second; place = refl; limits = r.1 },
        r.0,
      )
    where
      exits : (x y : Option (ℤ × ℤ)) (q : Stand) (shape : Shape) (t : Place) → q.shape ≡ shape → ExitIn (moved_by (pos 1) x) y → t ≡ after (moved_by (pos 0 -ℤ pos 1) y) q shape → InLimits t →
          Below (after x (raised q) q.shape) t × InLimits (after x (raised q) q.shape)
      exits None y q shape t same h is lim = (tt, tt)
      exits (Some x) None q shape t same h is lim = absurd h
      exits (Some x) (Some y) q shape t same h is lim =
          let lim' : InLimits (after (moved_by (pos 0 -ℤ pos 1) (Some y)) q shape) = subst InLimits is lim in
          (subst (Below (after (Some x) (raised q) q.shape)) (sym is) (record { low = omega (arith, ints, h.0); high = omega (arith, ints, h.1); same = same }), (omega (arith, ints, h.0, lim'.0), omega (arith, ints, h.1, lim'.1)))

  token_fits : (b : Bool) (node : Node) (q : Stand) (t l : Place) → TokenIn known node → Leads e (execute_effect known.shared) keep (At q) t → (t' : Place) × ItemFits known heads e (next_by b) node 0 (At (lowered q)) l t' × Below t' t
  token_fits b (Literal value) q t l h leads =
      let r = token_leads (table_effect table.Literal) keep q t h.need h.peak (let n = h.back in omega (arith, n)) h.exit refl leads in (_, r.0, r.1)
  token_fits b (Plain word) q t l h leads =
      let is = token_word word h.0 in
      let r = token_leads (table_effect word) (shape_after word) q t h.1.need h.1.peak (let n = h.1.back in omega (arith, n)) h.1.exit (ap (λ f. f q.shape) is.0) leads in (
        _,
        subst (λ d. WordLeads known heads e d word (At (lowered q)) (after (table_effect word).exit (lowered q) q.shape)) (sym (no_doubling b word))
            (subst (λ x. Leads e x (shape_after word) (At (lowered q)) (after (table_effect word).exit (lowered q) q.shape)) (sym is.1) r.0),
        r.1,
      )
  token_fits b (Call d) q t l h leads =
      let x = effect_of known d in
      let r = token_leads (called_effect (next_by b) x) keep q t h.need h.peak (let n = h.back in omega (arith, n, one_more (is_jump (next_by b)))) h.exit refl leads in (_, r.0, r.1)
  token_fits b (Child d a) q t l h leads =
      let r = child_leads b (effect_of known d) q t h leads in (_, (_, r.0, r.1), r.2)
  token_fits b (Text kind a n) q t l h leads = absurd h
  token_fits b (If one other) q t l h leads = absurd h
  token_fits b (Until body) q t l h leads = absurd h
  token_fits b (While test body) q t l h leads = absurd h
  token_fits b (Again body) q t l h leads = absurd h
  token_fits b (Do body plus) q t l h leads = absurd h
  token_fits b (QDo body plus) q t l h leads = absurd h
  token_fits b (Case arms rest) q t l h leads = absurd h
  token_fits b Leave q t l h leads = absurd h
  token_fits b Exit q t l h leads = absurd h

  module _ (tokens : (token : ℕ) (node : Node) → token_of p token ≡ Some node → TokenIn known node) where
    with_token_onward : (o : Option Node) (token : ℕ) (work w : List Work) (es : List Entry) (c : List ℕ) (q : Stand) (t l : Place) → token_of p token ≡ o →
        Leads e (execute_effect known.shared) keep (At q) t → Inside base q (suc (length c)) es → suc (length c) ≤ most → entries_height es ≤ e.back →
        From work t l →
        Onward known heads main most return_most (with_token o (here work es c))
    with_token_onward None token work w es c q t l is leads st few room f = refl
    with_token_onward (Some node) token work w es c q t l is leads st few room f =
        let b = ends_body work in
        let r = token_fits b node q t l (tokens token node is) leads in
        on (Todo node ∷ work) es c (At (lowered q)) l
        (at_once known heads e (Todo node ∷ work) (At (lowered q)) l
        (of_item known heads e (next_by b) node 0 (At (lowered q)) l r.0 work r.1 (next_by_matches b) (from_more known heads e work r.0 t l r.2 f)))
        (record { low = omega (arith, ints, st.low); high = omega (arith, ints, st.high); same = st.same }) (omega (arith, few)) room

    token_low : (node : Node) (work : List Work) → TokenIn known node → back_of (first_in node work) ≤ known.shared.back
    token_low (Literal value) work h = omega arith
    token_low (Plain word) work h = h.1.back
    token_low (Call d) work h = omega arith
    token_low (Child d a) work h = omega arith
    token_low (Text kind a n) work h = absurd h
    token_low (If one other) work h = absurd h
    token_low (Until body) work h = absurd h
    token_low (While test body) work h = absurd h
    token_low (Again body) work h = absurd h
    token_low (Do body plus) work h = absurd h
    token_low (QDo body plus) work h = absurd h
    token_low (Case arms rest) work h = absurd h
    token_low Leave work h = absurd h
    token_low Exit work h = absurd h

    token_room : (o : Option Node) (token : ℕ) (work : List Work) → token_of p token ≡ o → token_back o work ≤ 1 + known.shared.back
    token_room None token work is = omega arith
    token_room (Some node) token work is = (let low = token_low node work (tokens token node is) in omega (arith, low, one_more (ends_body work)))

    execute_moves : (work w : List Work) (es : List Entry) (c : List ℕ) (q : Stand) (t l : Place) → Leads e (execute_effect known.shared) keep (At q) t →
        Inside base q (length c) es → length c ≤ most → entries_height es ≤ e.back → From work t l → Step (IsWord Execute work) w es c
    execute_moves work w es [] q t l leads st few room f = absurd (let n = need (execute_effect known.shared) q leads.shape es [] leads.allows st in omega (arith, n))
    execute_moves work w es (token ∷ c) q t l leads st few room f =
        let pk = peak (execute_effect known.shared) q leads.shape es (token ∷ c) leads.allows st in
        let bk = back (execute_effect known.shared) q leads.shape es (token ∷ c) leads.allows st in
        record {
          data_cells = omega (arith, pk, lower);
          return_cells = omega (arith, bk);
          depth = tt;
          executes = (let low = token_room (token_of p token) token work refl in omega (arith, bk, low));
          onward = with_token_onward (token_of p token) token work w es c q t l refl leads st few room f;
        }

    -- a word that is not a ?DUP before a flag
    table_moves : (word : Word) (work w : List Work) (es : List Entry) (c : List ℕ) (q : Stand) (t l : Place) → Leads e (table_effect word) (shape_after word) (At q) t → Inside base q (length c) es →
        execute_back p (IsWord word work) c ≡ 0 → Onward known heads main most return_most (word_step p word c es (here work es c)) → Step (IsWord word work) w es c
    table_moves word work w es c q t l leads st executes onward =
        let pk = peak (table_effect word) q leads.shape es c leads.allows st in
        record {
          data_cells = omega (arith, pk, lower);
          return_cells = back (table_effect word) q leads.shape es c leads.allows st;
          depth = depth_fits word work c (omega (arith, pk, lower, limit));
          executes = (let bk = back (table_effect word) q leads.shape es c leads.allows st in omega (arith, executes, bk));
          onward = onward;
        }

    word_at : (word : Word) (work w : List Work) (es : List Entry) (c : List ℕ) (q : Stand) (t l : Place) →
        Leads e (word_effect known.shared word) (shape_after word) (At q) t → Inside base q (length c) es → length c ≤ most → entries_height es ≤ e.back →
        From work t l → Step (IsWord word work) w es c
    word_at Execute work w es c q t l leads st few room f = execute_moves work w es c q t l leads st few room f
    word_at ToR work w es c q t l leads st few room f = table_moves ToR work w es c q t l leads st refl (table_word ToR work w es c q t l leads st f)
    word_at word work w es c q t l leads st few room f = table_moves word work w es c q t l leads st refl (table_word word work w es c q t l leads st f)

    -- ?DUP before a flag
    doubled : (work w : List Work) (es : List Entry) (c : List ℕ) (q : Stand) (t l : Place) → Doubles e (At q) t → Inside base q (length c) es → entries_height es ≤ e.back → From work t l → Step (IsWord QDup work) w es c
    doubled work w es [] q t l h st room f = absurd (let n = need (table_effect QDup) q q.shape es [] h.0 st in omega (arith, n))
    doubled work w es (zero ∷ c) q t l h st room f =
        let pk = peak (table_effect QDup) q q.shape es (zero ∷ c) h.0 st in
        record {
          data_cells = omega (arith, pk, lower);
          return_cells = back (table_effect QDup) q q.shape es (zero ∷ c) h.0 st;
          depth = tt;
          executes = (let bk = back (table_effect QDup) q q.shape es (zero ∷ c) h.0 st in omega (arith, bk));
          onward = on work es (zero ∷ c) t l f (subst (λ z. Stood base z (zero ∷ c) es) (sym h.1) st) (omega (arith, pk)) room;
        }
    doubled work w es (suc x ∷ c) q t l h st room f =
        let pk = peak (table_effect QDup) q q.shape es (suc x ∷ c) h.0 st in
        record {
          data_cells = omega (arith, pk, lower);
          return_cells = back (table_effect QDup) q q.shape es (suc x ∷ c) h.0 st;
          depth = tt;
          executes = (let bk = back (table_effect QDup) q q.shape es (suc x ∷ c) h.0 st in omega (arith, bk));
          onward = on work es (suc x ∷ suc x ∷ c) t l f (subst (λ z. Stood base z (suc x ∷ suc x ∷ c) es) (sym h.1) st) (omega (arith, pk)) room;
        }

    by_doubling : (next : Next) (word : Word) (b : Bool) → doubles next word ≡ b → (b ≡ false) ⊎ ((b ≡ true) × (word ≡ QDup))
    by_doubling Flag QDup b h = inr (sym h, refl)
    by_doubling next word b h = inl (sym h)

    pub word_moves : (next : Next) (word : Word) (work w : List Work) (es : List Entry) (c : List ℕ) (place t l : Place) →
        WordLeads known heads e (doubles next word) word place t → Stood base place c es → length c ≤ most → entries_height es ≤ e.back → From work t l →
        Step (IsWord word work) w es c
    word_moves next word work w es c Unreachable t l h st few room f = absurd st
    word_moves next word work w es c (At q) t l h st few room f =
        elim (by_doubling next word (doubles next word) refl) [
          | inl other ↦ word_at word work w es c q t l (subst (λ b. WordLeads known heads e b word (At q) t) other h) st few room f
          | inr is ↦ subst (λ v. Step (IsWord v work) w es c) (sym is.1) (doubled work w es c q t l (subst (λ b. WordLeads known heads e b word (At q) t) is.0 h) st room f)
        ]
    word_moves next word work w es c (Doubled q) t l h st few room f = absurd (never (doubles next word) h)
      where
        never : (b : Bool) → WordLeads known heads e b word (Doubled q) t → ⊥
        never true h = h
        never false h = h
