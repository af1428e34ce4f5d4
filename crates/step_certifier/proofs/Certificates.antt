-- A valid certificate keeps the return entries of its program level.
use Rattle.std.proofs.Common.{◌≡◌, ℕ, zero, suc, ◌+◌, Bool, true, false, List, [], ◌∷◌, length, Option, Some, None, refl, sym, ap, ◌∙◌, subst, arith}
use Rattle.std.specs.Prelude.{ℤ, slice_index_or}
use Rattle.word_table.specs.declared.word.Word.{Word}
use Rattle.word_table.specs.declared.word.Word.TheVariants.{ToR, RFrom, RFetch, Index, OuterIndex, Unloop, AbortRun, Quit, Execute, QDup}
use Rattle.word_table.specs.declared.word.Word.TheVariants as table
use Rattle.word_table.specs.Table.{entry_of}
use Rattle.forth_program.specs.declared.item.TextKind.{TextKind}
use Rattle.forth_program.specs.declared.item.TextKind.TheVariants as text
use Rattle.forth_program.specs.Tree.{Node, Nodes, Arms, Literal, Plain, Call, Child, Text, If, Until, While, Again, Do, QDo, Case, Leave, Exit, Empty, Then, NoArm, Arm}
use Rattle.forth_program.specs.Form.{is_code_class}
use Rattle.forth_program.specs.Program.{SourceProgram}
use Rattle.depth_certifier.specs.declared.effect.Effect.{Effect}
use Rattle.depth_certifier.specs.declared.shape.Slot.TheVariants.{OfCell, OfLoop}
use Rattle.depth_certifier.specs.declared.follow.Next.{Next}
use Rattle.depth_certifier.specs.declared.follow.Next.TheVariants.{Return, Flag, More}
use Rattle.depth_certifier.specs.Place.{Shape, Stand, Place, Unreachable, At, Doubled, entry, Below}
use Rattle.depth_certifier.specs.Effects.{table_effect, Known, idle, effect_of, next_of, branch_next, called_effect, word_effect, kept_by, shape_after, keep, push_loop, text_word, turn_word, of_effect}
use Rattle.depth_certifier.specs.Certificate.{loops_in, after, Leads, Doubles, Decides, Head, SameShape, without_loop, dropped, ExitHas, EndsBody, doubles}
use Rattle.depth_certifier.specs.Certificate.{CaseEnds, WordLeads, ItemFits, Fits, ArmsFit, BodyFits, Cert, known_of, BodiesFit, IsValid}
use Rattle.step_certifier.proofs.Entries.{Height, Same, raised, Lowers, WordLevel, CallLevel, EndLevel, Alike, TurnLevel, NodeLevel, Level, ArmsLevel, BodyLevel, LevelProgram}

-- ---- heights of places

abbrev height : Place → Height
height Unreachable = None
height (At p) = Some (length p.shape)
height (Doubled p) = Some (length p.shape)

-- that to which a LEAVE comes
abbrev out_of : Place → Height
out_of l = height (dropped l)

-- so many entries stand there
abbrev Stands : ℕ → Place → Type 0
Stands n Unreachable = ⊥
Stands n (At p) = length p.shape ≡ n
Stands n (Doubled p) = ⊥

abbrev returns : Option (ℤ × ℤ) → Bool
returns None = false
returns (Some exit) = true

same_shape : (a b : Shape) → Some a ≡ Some b → a ≡ b
same_shape a b e = cc

one_height : (n m : ℕ) (s : Place) → Stands n s → Stands m s → n ≡ m
one_height n m Unreachable i j = absurd i
one_height n m (At p) i j = sym i ∙ j
one_height n m (Doubled p) i j = absurd i

same_of : (a b : Height) → b ≡ a → Same a b
same_of None b e = tt
same_of (Some n) b e = e

below_same : (s t : Place) → Below s t → Same (height s) (height t)
below_same Unreachable t b = tt
below_same (At p) (At q) b = ap (λ (s : Shape). Some (length s)) (sym b.same)
below_same (At p) Unreachable b = absurd b
below_same (At p) (Doubled q) b = absurd b
below_same (Doubled p) (Doubled q) b = ap (λ (s : Shape). Some (length s)) (sym b.same)
below_same (Doubled p) Unreachable b = absurd b
below_same (Doubled p) (At q) b = absurd b

below_stands : (n : ℕ) (s t : Place) → Stands n s → Below s t → Stands n t
below_stands n (At p) (At q) i b = ap length (sym b.same) ∙ i
below_stands n (At p) Unreachable i b = absurd b
below_stands n (At p) (Doubled q) i b = absurd b
below_stands n Unreachable t i b = absurd i
below_stands n (Doubled p) t i b = absurd i

one_off : (n : ℕ) (shape : Shape) → length shape ≡ suc n → length (without_loop shape) ≡ n
one_off n [] e = absurd (omega (arith, e))
one_off n (slot ∷ shape) e = omega (arith, e)

out_stands : (n : ℕ) (x : Place) → Stands (suc n) x → out_of x ≡ Some n
out_stands n Unreachable i = absurd i
out_stands n (At p) i = ap Some (one_off n p.shape i)
out_stands n (Doubled p) i = absurd i

lowers_out : (n : ℕ) (l : Place) → Stands n l → Lowers (Some n) (out_of l)
lowers_out zero l i = tt
lowers_out (suc n) l i = out_stands n l i

alike : (n : ℕ) (h x : Place) → Stands (suc n) h → SameShape h x → Alike (Some n) (out_of x)
alike n Unreachable x i same = absurd i
alike n (Doubled p) x i same = absurd i
alike n (At p) Unreachable i same = tt
alike n (At p) (Doubled q) i same = tt
alike n (At p) (At q) i same = one_off n q.shape (ap length (sym same) ∙ i)

module _ (body x : Effect) (back : returns x.exit ≡ true) where
  came : (s t : Place) (p : Stand) (shape : Shape) (o : Option (ℤ × ℤ)) → returns o ≡ true → t ≡ after o p shape → Stands (length shape) t
  came s t p shape None back e = cc (back)
  came s t p shape (Some exit) back e = subst (Stands (length shape)) (sym e) refl

  leads_by : (change : Shape → Option Shape) (p : Stand) (t : Place) → Leads body x change (At p) t → (shape : Shape) × (change p.shape ≡ Some shape) × Stands (length shape) t
  leads_by change p t l = (l.shape, l.changes, came (At p) t p l.shape x.exit back l.place)

  keep_stands : (p : Stand) (t : Place) → Leads body x keep (At p) t → Stands (length p.shape) t
  keep_stands p t l = (let m = leads_by keep p t l in subst (λ (s : Shape). Stands (length s) t) (sym (same_shape p.shape m.0 m.1)) m.2)

  push_stands : (p : Stand) (t : Place) → Leads body x push_loop (At p) t → Stands (suc (length p.shape)) t
  push_stands p t l = (let m = leads_by push_loop p t l in subst (λ (s : Shape). Stands (length s) t) (sym (same_shape (OfLoop ∷ p.shape) m.0 m.1)) m.2)

stands_height : (n : ℕ) (s : Place) → Stands n s → height s ≡ Some n
stands_height n Unreachable i = absurd i
stands_height n (At p) i = ap Some i
stands_height n (Doubled p) i = absurd i

-- an item that keeps the entries
kept_height : (body x : Effect) (s t : Place) → returns x.exit ≡ true → Leads body x keep s t → height t ≡ height s
kept_height body x Unreachable t back l = ap height l
kept_height body x (At p) t back l = stands_height (length p.shape) t (keep_stands body x back p t l)
kept_height body x (Doubled p) t back l = absurd l

-- ---- words

kept : (b : Bool) (shape after : Shape) → kept_by b shape ≡ Some after → length after ≡ length shape
kept true shape after e = ap length (sym (same_shape shape after e))
kept false shape after e = cc (e)

fetched : (shape after : Shape) → shape_after RFetch shape ≡ Some after → length after ≡ length shape
fetched [] after e = cc (e)
fetched (OfCell ∷ shape) after e = ap length (sym (same_shape (OfCell ∷ shape) after e))
fetched (OfLoop ∷ shape) after e = cc (e)

indexed : (shape after : Shape) → shape_after Index shape ≡ Some after → length after ≡ length shape
indexed [] after e = cc (e)
indexed (OfLoop ∷ shape) after e = ap length (sym (same_shape (OfLoop ∷ shape) after e))
indexed (OfCell ∷ shape) after e = cc (e)

outer_indexed : (shape after : Shape) → shape_after OuterIndex shape ≡ Some after → length after ≡ length shape
outer_indexed [] after e = cc (e)
outer_indexed (OfCell ∷ shape) after e = cc (e)
outer_indexed (OfLoop ∷ []) after e = cc (e)
outer_indexed (OfLoop ∷ OfCell ∷ shape) after e = cc (e)
outer_indexed (OfLoop ∷ OfLoop ∷ shape) after e = ap length (sym (same_shape (OfLoop ∷ OfLoop ∷ shape) after e))

taken : (shape after : Shape) → shape_after RFrom shape ≡ Some after → length shape ≡ suc (length after)
taken [] after e = cc (e)
taken (OfCell ∷ shape) after e = ap (λ (s : Shape). suc (length s)) (same_shape shape after e)
taken (OfLoop ∷ shape) after e = cc (e)

unlooped : (shape after : Shape) → shape_after Unloop shape ≡ Some after → length shape ≡ suc (length after)
unlooped [] after e = cc (e)
unlooped (OfLoop ∷ shape) after e = ap (λ (s : Shape). suc (length s)) (same_shape shape after e)
unlooped (OfCell ∷ shape) after e = cc (e)

module _ (body : Effect) (x : Effect) (back : returns x.exit ≡ true) (change : Shape → Option Shape) where
  word_same : (s t : Place) → ((shape after : Shape) → change shape ≡ Some after → length after ≡ length shape) → Leads body x change s t → Same (height s) (height t)
  word_same Unreachable t f l = tt
  word_same (At p) t f l =
      let m = leads_by body x back change p t l in
      stands_height (length m.0) t m.2 ∙ ap Some (f p.shape m.0 m.1)
  word_same (Doubled p) t f l = absurd l

  word_lowers : (s t : Place) → ((shape after : Shape) → change shape ≡ Some after → length shape ≡ suc (length after)) → Leads body x change s t → Lowers (height s) (height t)
  word_lowers Unreachable t f l = tt
  word_lowers (At p) t f l =
      let m = leads_by body x back change p t l in
      subst (λ n. Lowers (Some n) (height t)) (sym (f p.shape m.0 m.1)) (stands_height (length m.0) t m.2)
  word_lowers (Doubled p) t f l = absurd l

  word_raises : (s t : Place) → ((shape after : Shape) → change shape ≡ Some after → length after ≡ suc (length shape)) → Leads body x change s t → Same (raised (height s)) (height t)
  word_raises Unreachable t f l = tt
  word_raises (At p) t f l =
      let m = leads_by body x back change p t l in
      stands_height (length m.0) t m.2 ∙ ap Some (f p.shape m.0 m.1)
  word_raises (Doubled p) t f l = absurd l

pushed : (shape after : Shape) → shape_after ToR shape ≡ Some after → length after ≡ suc (length shape)
pushed shape after e = ap length (sym (same_shape (OfCell ∷ shape) after e))

word_level : (body shared : Effect) (word : Word) (s t : Place) → Leads body (word_effect shared word) (shape_after word) s t → WordLevel word (height s) (height t)
word_level body shared ToR s t l = word_raises body (table_effect ToR) refl (shape_after ToR) s t pushed l
word_level body shared RFrom s t l = word_lowers body (table_effect RFrom) refl (shape_after RFrom) s t taken l
word_level body shared Unloop s t l = word_lowers body (table_effect Unloop) refl (shape_after Unloop) s t unlooped l
word_level body shared RFetch s t l = word_same body (table_effect RFetch) refl (shape_after RFetch) s t fetched l
word_level body shared Index s t l = word_same body (table_effect Index) refl (shape_after Index) s t indexed l
word_level body shared OuterIndex s t l = word_same body (table_effect OuterIndex) refl (shape_after OuterIndex) s t outer_indexed l
word_level body shared AbortRun s t l = tt
word_level body shared Quit s t l = tt
word_level body shared Execute s t l = tt
word_level body shared word s t l = word_same body (table_effect word) refl (shape_after word) s t (kept (is_code_class (entry_of word).class)) l

is_doubled : (next : Next) (word : Word) → doubles next word ≡ true → word ≡ QDup
is_doubled Flag QDup e = refl
is_doubled Flag word e = cc (e)
is_doubled Return word e = cc (e)
is_doubled More word e = cc (e)

doubled_level : (body : Effect) (s t : Place) → Doubles body s t → WordLevel QDup (height s) (height t)
doubled_level body Unreachable t d = tt
doubled_level body (At p) t d = ap height d.1
doubled_level body (Doubled p) t d = absurd d

-- ---- decisions and loops

decides_true : (body : Effect) (s a b : Place) → Decides body s a b → height a ≡ height s
decides_true body Unreachable a b d = ap height d.0
decides_true body (At p) a b d = kept_height body (table_effect table.If) (At p) a refl d.0
decides_true body (Doubled p) a b d = ap height d.0

decides_false : (body : Effect) (s a b : Place) → Decides body s a b → height b ≡ height s
decides_false body Unreachable a b d = ap height d.1
decides_false body (At p) a b d = ap height d.1 ∙ kept_height body (table_effect table.If) (At p) a refl d.0
decides_false body (Doubled p) a b d = ap height d.1

head_stands : (heads : List (ℤ × ℤ)) (k n : ℕ) (i h : Place) → Stands n i → Head heads k i h → Stands n h
head_stands heads k n Unreachable h i d = absurd i
head_stands heads k n (At p) h i d = subst (Stands n) (sym d.place) (ap length (sym d.inside.same) ∙ i)
head_stands heads k n (Doubled p) h i d = absurd i

-- the head of a loop to which s leads
abbrev Enters : Place → Place → Type 0
Enters Unreachable h = h ≡ Unreachable
Enters (At p) h = Stands (suc (length p.shape)) h
Enters (Doubled p) h = ⊥

enters : (body x : Effect) (heads : List (ℤ × ℤ)) (k : ℕ) (s i h : Place) → returns x.exit ≡ true → Leads body x push_loop s i → Head heads k i h → Enters s h
enters body x heads k Unreachable i h back l d = subst (λ i. Head heads k i h) l d
enters body x heads k (At p) i h back l d = head_stands heads k (suc (length p.shape)) i h (push_stands body x back p i l) d
enters body x heads k (Doubled p) i h back l d = absurd l

enters_raised : (s h : Place) → Enters s h → raised (height s) ≡ height h
enters_raised Unreachable h e = sym (ap height e)
enters_raised (At p) h e = sym (stands_height (suc (length p.shape)) h e)
enters_raised (Doubled p) h e = absurd e

turn_level : (body x : Effect) (s h y m n : Place) → returns x.exit ≡ true → Enters s h → SameShape h y → Leads body x keep m n → Below n h → Below n y → TurnLevel (height s) (height m) (out_of y)
turn_level body x (Doubled p) h y m n back e same l b c = absurd e
turn_level body x Unreachable h y Unreachable n back e same l b c = tt
turn_level body x Unreachable h y (At q) n back e same l b c = absurd (below_stands (length q.shape) n Unreachable (keep_stands body x back q n l) (subst (Below n) e b))
turn_level body x Unreachable h y (Doubled q) n back e same l b c = absurd l
turn_level body x (At p) h y Unreachable n back e same l b c = alike (length p.shape) h y e same
turn_level body x (At p) h y (At q) n back e same l b c =
    let i = keep_stands body x back q n l in
    let f = one_height (suc (length p.shape)) (length q.shape) h e (below_stands (length q.shape) n h i b) in
    (ap Some f, out_stands (length p.shape) y (subst (λ m. Stands m y) (sym f) (below_stands (length q.shape) n y i c)))
turn_level body x (At p) h y (Doubled q) n back e same l b c = absurd l

-- the loop is left out
skips : (body x : Effect) (s i y : Place) → returns x.exit ≡ true → Leads body x push_loop s i → Below i y → Same (height s) (out_of y)
skips body x Unreachable i y back l b = tt
skips body x (At p) i y back l b = out_stands (length p.shape) y (below_stands (suc (length p.shape)) i y (push_stands body x back p i l) b)
skips body x (Doubled p) i y back l b = absurd l

leave_level : (body : Effect) (s m l : Place) → Leads body (table_effect table.Leave) keep s m → Below m l → Lowers (height s) (out_of l)
leave_level body Unreachable m l f b = tt
leave_level body (At p) m l f b = lowers_out (length p.shape) l (below_stands (length p.shape) m l (keep_stands body (table_effect table.Leave) refl p m f) b)
leave_level body (Doubled p) m l f b = absurd f

exit_returns : (exit : Option (ℤ × ℤ)) (p : Stand) → ExitHas exit p → returns exit ≡ true
exit_returns None p h = absurd h
exit_returns (Some exit) p h = refl

end_level : (body : Effect) (s : Place) → EndsBody body s → EndLevel (returns body.exit) (height s)
end_level body Unreachable e = tt
end_level body (At p) e = exit_returns body.exit p e.1
end_level body (Doubled p) e = absurd e

call_level : (body x : Effect) (o : Option (ℤ × ℤ)) (s t : Place) → x.exit ≡ o → Leads body x keep s t → CallLevel (returns o) (height s) (height t)
call_level body x None s t is l = tt
call_level body x (Some exit) s t is l = same_of (height s) (height t) (kept_height body x s t (ap returns is) l)

text_returns : (kind : TextKind) → returns (table_effect (text_word kind)).exit ≡ true
text_returns text.Address = refl
text_returns text.Print = refl
text_returns text.Abort = refl

turn_returns : (plus : Bool) → returns (table_effect (turn_word plus)).exit ≡ true
turn_returns false = refl
turn_returns true = refl

-- ---- items

same_then : (a b c : Height) → Same a b → Same b c → Same a c
same_then None b c s t = tt
same_then (Some n) b c s t = subst (λ h. Same h c) s t

module _ (known : Known) (heads : List (ℤ × ℤ)) (own : ℕ) where
  abbrev pub back : ℕ → Bool
  back d = returns (effect_of known d).exit

  abbrev body : Effect
  body = effect_of known own

  wider : (out : Height) (items : Nodes) (a b c : Height) → Level back own out items a b → Same b c → Level back own out items a c
  wider out Empty a b c l s = same_then a b c l s
  wider out (Then node rest) a b c l s = (l.0, l.1, wider out rest l.0 b c l.2 s)

  word_fits : (b : Bool) (word : Word) (s t : Place) → (b ≡ true → word ≡ QDup) → WordLeads known heads body b word s t → WordLevel word (height s) (height t)
  word_fits true word s t is l = subst (λ w. WordLevel w (height s) (height t)) (sym (is refl)) (doubled_level body s t l)
  word_fits false word s t is l = word_level body known.shared word s t l

  -- what stands for the last items of a case and ENDCASE
  abbrev LastItems : Nodes → Place → Place → ℕ → Place → Type 0
  LastItems rest l t k s = CaseEnds heads body (λ m. Fits known heads body More rest k s l m) t

  mutual
    item_level : (next : Next) (node : Node) (k : ℕ) (s l t : Place) → ItemFits known heads body next node k s l t → NodeLevel back own (out_of l) node (height s) (height t)
    item_level next (Literal value) k s l t f = same_of (height s) (height t) (kept_height body (table_effect table.Literal) s t refl f)
    item_level next (Plain word) k s l t f = word_fits (doubles next word) word s t (is_doubled next word) f
    item_level next (Call d) k s l t f = call_level body (called_effect next (effect_of known d)) (effect_of known d).exit s t refl f
    item_level next (Child d address) k s l t f =
        subst (λ h. CallLevel (back d) h (height t)) (kept_height body (table_effect table.Literal) s f.0 refl f.1) (call_level body (called_effect next (effect_of known d)) (effect_of known d).exit f.0 t refl f.2)
    item_level next (Text kind address size) k s l t f = same_of (height s) (height t) (kept_height body (table_effect (text_word kind)) s t (text_returns kind) f)
    item_level next (If first second) k s l t f = (
      subst (λ h. Level back own (out_of l) first h (height t)) (decides_true body s f.on_true f.on_false f.decides) (items_level (branch_next next) first k f.on_true l t f.first),
      subst (λ h. Level back own (out_of l) second h (height t)) (decides_false body s f.on_true f.on_false f.decides) (items_level (branch_next next) second _ f.on_false l t f.second),
    )
    item_level next (Until inner) k s l t f = tt
    item_level next (While test inner) k s l t f = tt
    item_level next (Again inner) k s l t f = tt
    item_level next (Do inner plus) k s l t f =
        let e = enters body (table_effect table.Do) heads k s f.start f.head refl f.begins f.enters in
        subst (λ a. (end : Height) × Level back own a inner (raised (height s)) end × TurnLevel (height s) end a) (sym (ap height f.after_loop)) (
          height f.turn,
          subst (λ h. Level back own (out_of f.out) inner h (height f.turn)) (sym (enters_raised s f.head e)) (items_level More inner (k + 1) f.head f.out f.turn f.items),
          turn_level body (table_effect (turn_word plus)) s f.head f.out f.turn f.next (turn_returns plus) e f.same f.turns f.again f.leaves,
        )
    item_level next (QDo inner plus) k s l t f =
        let g = f.0 in
        let e = enters body (table_effect table.QDo) heads k s g.start g.head refl g.begins g.enters in
        subst (λ a. (end : Height) × Level back own a inner (raised (height s)) end × TurnLevel (height s) end a × Same (height s) a) (sym (ap height g.after_loop)) (
          height g.turn,
          subst (λ h. Level back own (out_of g.out) inner h (height g.turn)) (sym (enters_raised s g.head e)) (items_level More inner (k + 1) g.head g.out g.turn g.items),
          turn_level body (table_effect (turn_word plus)) s g.head g.out g.turn g.next (turn_returns plus) e g.same g.turns g.again g.leaves,
          skips body (table_effect table.QDo) s g.start g.out refl g.begins f.1,
        )
    item_level next (Case arms rest) k s l t f =
        arms_level (branch_next next) arms rest l t
        (λ j q g. wider (out_of l) rest (height q) (height g.last) (height t) (items_level More rest j q l g.last g.items)
        (subst (λ h. Same h (height t)) (kept_height body (table_effect table.EndCase) g.last g.end refl g.drops) (below_same g.end t g.below)))
        k s f
    item_level next Leave k s l t f = leave_level body s f.0 l f.1 f.2
    item_level next Exit k s l t f = end_level body s f.0

    items_level : (next : Next) (nodes : Nodes) (k : ℕ) (s l t : Place) → Fits known heads body next nodes k s l t → Level back own (out_of l) nodes (height s) (height t)
    items_level next Empty k s l t f = below_same s t f
    items_level next (Then node rest) k s l t f = (height f.0, item_level (next_of next rest) node k s l f.0 f.1, items_level next rest (k + loops_in node) f.0 l t f.2)

    arms_level : (next : Next) (arms : Arms) (rest : Nodes) (l t : Place) → ((j : ℕ) (q : Place) → LastItems rest l t j q → Level back own (out_of l) rest (height q) (height t)) → (k : ℕ) (s : Place) →
        ArmsFit known heads body next arms (LastItems rest l t) k s l t → ArmsLevel back own (out_of l) arms (λ h. Level back own (out_of l) rest h (height t)) (height s) (height t)
    arms_level next NoArm rest l t each k s f = each k s f
    arms_level next (Arm tests inner others) rest l t each k s f = (
      height f.test,
      items_level More tests k s l f.test f.tests,
      subst (λ h. Level back own (out_of l) inner h (height t)) (kept_height body (of_effect _) f.test f.on_equal refl f.to_equal) (items_level next inner _ f.on_equal l t f.items),
      subst (λ h. ArmsLevel back own (out_of l) others (λ h. Level back own (out_of l) rest h (height t)) h (height t)) (kept_height body (of_effect _) f.test f.on_other refl f.to_other)
          (arms_level next others rest l t each _ f.on_other f.others),
    )

  body_level : (nodes : Nodes) (k : ℕ) → BodyFits known heads body nodes k → BodyLevel back own nodes
  body_level nodes k f = (height f.0, items_level Return nodes k (At entry) Unreachable f.0 f.1, end_level body f.0 f.2)

-- ---- programs

module _ (p : SourceProgram) (z : Cert) where
  levels : (bodies : List Nodes) (effects : List Effect) (definition k : ℕ) → BodiesFit p (known_of z) z.heads bodies effects definition k →
      ((j : ℕ) → effect_of (known_of z) (definition + j) ≡ slice_index_or effects j idle) → (j : ℕ) → BodyLevel (back (known_of z) z.heads 0) (definition + j) (slice_index_or bodies j Empty)
  levels [] [] definition k f are j = (Some 0, refl, ap (λ (e : Effect). returns e.exit) (are j))
  levels [] (e ∷ effects) definition k f are j = absurd f
  levels (nodes ∷ bodies) [] definition k f are j = absurd f
  levels (nodes ∷ bodies) (e ∷ effects) definition k f are zero =
      body_level (known_of z) z.heads (definition + 0) nodes k (subst (λ x. BodyFits (known_of z) z.heads x nodes k) (sym (are 0)) f.0)
  levels (nodes ∷ bodies) (e ∷ effects) definition k f are (suc j) =
      let up : (i : ℕ) → suc definition + i ≡ definition + suc i = (λ i. sums definition i) in
      subst (λ d. BodyLevel (back (known_of z) z.heads 0) d (slice_index_or bodies j Empty)) (up j)
      (levels bodies effects (suc definition) _ f.2 (λ i. ap (effect_of (known_of z)) (up i) ∙ are (suc i)) j)
    where
      sums : (a i : ℕ) → suc a + i ≡ a + suc i
      sums a i = omega arith

pub certified_level : (p : SourceProgram) (z : Cert) → IsValid p z → LevelProgram p (back (known_of z) z.heads 0)
certified_level p z valid = λ d. subst (λ n. BodyLevel (back (known_of z) z.heads 0) n (slice_index_or p.bodies d Empty)) (plus d) (levels p z p.bodies z.effects 0 0 valid.bodies (λ j. ap (effect_of (known_of z)) (plus j)) d)
  where
    plus : (j : ℕ) → 0 + j ≡ j
    plus j = omega arith
