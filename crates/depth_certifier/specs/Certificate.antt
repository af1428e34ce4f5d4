-- Certificates, and when one is valid for a program.
use Rattle.std.specs.Prelude.{◌≡◌, ℕ, suc, ◌+◌, ◌≤◌, Bool, true, false, if◌then◌else◌, List, [], ◌∷◌, length, Option, Some, None, ℤ, pos, negsuc, ◌+ℤ◌, ◌≤ℤ◌, slice_index_or, nat_eq, IsTrue}
use Rattle.std.specs.List.{All}
use Rattle.word_table.specs.declared.word.Word.{Word}
use Rattle.word_table.specs.declared.word.Word.TheVariants.{QDup}
use Rattle.word_table.specs.declared.word.Word.TheVariants as table
use Rattle.forth_program.specs.Tree.{Node, Nodes, Arms, Literal, Plain, Call, Child, Text, If, Until, While, Again, Do, QDo, Case, Leave, Exit, Empty, Then, NoArm, Arm}
use Rattle.forth_program.specs.Program.{SourceProgram, uses_depth}
use Rattle.forth_program.specs.Form.{may_be_token}
use Rattle.depth_certifier.specs.declared.effect.Effect.{Effect}
use Rattle.depth_certifier.specs.Place.{Shape, size, Stand, Place, Unreachable, At, Doubled, moved, entry, InsideBy, Below, InLimits}
use Rattle.depth_certifier.specs.Effects.{table_effect, Known, effect_of, Next, Return, Flag, More, next_of, branch_next, called_effect, word_effect, shape_after, keep, push_loop, text_word, turn_word, of_effect, child_effect}

-- how many loops there are
abbrev mutual
  pub loops_in : Node → ℕ
  loops_in (If first second) = loops first + loops second
  loops_in (Until body) = 1 + loops body
  loops_in (While test body) = 1 + loops test + loops body
  loops_in (Again body) = 1 + loops body
  loops_in (Do body plus) = 1 + loops body
  loops_in (QDo body plus) = 1 + loops body
  loops_in (Case arms rest) = loops_in_arms arms + loops rest
  loops_in node = 0

  pub loops : Nodes → ℕ
  loops Empty = 0
  loops (Then node rest) = loops_in node + loops rest

  pub loops_in_arms : Arms → ℕ
  loops_in_arms NoArm = 0
  loops_in_arms (Arm tests body others) = loops tests + loops body + loops_in_arms others

-- ---- one effect at a place

-- the place after an effect, where the return entries are these
abbrev pub after : Option (ℤ × ℤ) → Stand → Shape → Place
after None p shape = Unreachable
after (Some exit) p shape = At (record { low = p.low +ℤ exit.0; high = p.high +ℤ exit.1; shape = shape })

-- the effect x of an item fits into that of the body, at a place, where the return entries after it are these
pub record Allows (body x : Effect) (p : Stand) (shape : Shape) : Type 0 where
  pub need : pos x.need ≤ℤ (pos body.need +ℤ p.low)
  pub peak : (p.high +ℤ pos x.peak) ≤ℤ pos body.peak
  pub back : size p.shape + x.back ≤ body.back
  pub room : size shape ≤ body.back

-- an effect x and a change of the return entries lead from a stand to a place
pub record EffectLeads (body x : Effect) (change : Shape → Option Shape) (p : Stand) (t : Place) : Type 0 where
  pub shape : Shape
  pub changes : change p.shape ≡ Some shape
  pub allows : Allows body x p shape
  pub place : t ≡ after x.exit p shape
  pub limits : InLimits t

-- the same from a place
abbrev pub Leads : Effect → Effect → (Shape → Option Shape) → Place → Place → Type 0
Leads body x change Unreachable t = t ≡ Unreachable
Leads body x change (At p) t = EffectLeads body x change p t
Leads body x change (Doubled p) t = ⊥

-- ?DUP before a flag
abbrev pub Doubles : Effect → Place → Place → Type 0
Doubles body Unreachable t = t ≡ Unreachable
Doubles body (At p) t = Allows body (table_effect QDup) p p.shape × (t ≡ Doubled p) × InLimits t
Doubles body (Doubled p) t = ⊥

-- a flag leads one way where it is not zero, and the other way where it is
abbrev pub Decides : Effect → Place → Place → Place → Type 0
Decides body Unreachable on_true on_false = (on_true ≡ Unreachable) × (on_false ≡ Unreachable)
Decides body (At p) on_true on_false = Leads body (table_effect table.If) keep (At p) on_true × (on_false ≡ on_true)
Decides body (Doubled p) on_true on_false = (on_true ≡ At p) × (on_false ≡ At (moved p (negsuc 0) (negsuc 0)))

-- ---- loops

abbrev pub no_interval : ℤ × ℤ
no_interval = (pos 0, pos 0)

-- the head of the k-th loop, where it is come to from a stand
pub record HasHead (heads : List (ℤ × ℤ)) (k : ℕ) (p : Stand) (h : Place) : Type 0 where
  pub stand : Stand
  pub place : h ≡ At stand
  pub inside : InsideBy 0 0 p stand
  pub low : stand.low ≡ (slice_index_or heads k no_interval).0
  pub high : stand.high ≡ (slice_index_or heads k no_interval).1

-- the same from a place
abbrev pub Head : List (ℤ × ℤ) → ℕ → Place → Place → Type 0
Head heads k Unreachable h = h ≡ Unreachable
Head heads k (At p) h = HasHead heads k p h
Head heads k (Doubled p) h = ⊥

abbrev pub SameShape : Place → Place → Type 0
SameShape (At p) (At q) = p.shape ≡ q.shape
SameShape s t = Unit {0}

-- the loop is taken off
abbrev pub without_loop : Shape → Shape
without_loop [] = []
without_loop (slot ∷ shape) = shape

abbrev pub dropped : Place → Place
dropped Unreachable = Unreachable
dropped (At p) = At (record { low = p.low; high = p.high; shape = without_loop p.shape })
dropped (Doubled p) = Unreachable

-- ---- the end of a body

abbrev pub ExitHas : Option (ℤ × ℤ) → Stand → Type 0
ExitHas None p = ⊥
ExitHas (Some exit) p = (exit.0 ≤ℤ p.low) × (p.high ≤ℤ exit.1)

abbrev pub EndsBody : Effect → Place → Type 0
EndsBody body Unreachable = Unit {0}
EndsBody body (At p) = (p.shape ≡ []) × ExitHas body.exit p
EndsBody body (Doubled p) = ⊥

-- ---- items

-- whether a word is a ?DUP before a flag
abbrev pub doubles : Next → Word → Bool
doubles Flag QDup = true
doubles next word = false

-- what each structure asks, where its parts lead from place to place as they say
module _ (heads : List (ℤ × ℤ)) (body : Effect) where
  pub record IfFits (first_fits second_fits : Place → Type 0) (s : Place) : Type 0 where
    pub on_true : Place
    pub on_false : Place
    pub decides : Decides body s on_true on_false
    pub first : first_fits on_true
    pub second : second_fits on_false

  pub record UntilFits (k : ℕ) (inner_fits : Place → Place → Type 0) (s t : Place) : Type 0 where
    pub head : Place
    pub enters : Head heads k s head
    pub test : Place
    pub items : inner_fits head test
    pub flag : Leads body (table_effect table.Until) keep test t
    pub again : Below t head

  pub record WhileFits (k : ℕ) (test_fits inner_fits : Place → Place → Type 0) (s t : Place) : Type 0 where
    pub head : Place
    pub enters : Head heads k s head
    pub test : Place
    pub test_items : test_fits head test
    pub on_true : Place
    pub decides : Decides body test on_true t
    pub turn : Place
    pub items : inner_fits on_true turn
    pub again : Below turn head

  pub record AgainFits (k : ℕ) (inner_fits : Place → Place → Type 0) (s t : Place) : Type 0 where
    pub head : Place
    pub enters : Head heads k s head
    pub turn : Place
    pub items : inner_fits head turn
    pub again : Below turn head
    pub none_after : t ≡ Unreachable

  -- a loop that x begins with a limit and an index: its items lead from the head to the end of a turn, and each LEAVE to within `out`
  pub record CountedFits (x : Effect) (plus : Bool) (k : ℕ) (inner_fits : Place → Place → Place → Type 0) (s t : Place) : Type 0 where
    pub start : Place
    pub begins : Leads body x push_loop s start
    pub head : Place
    pub enters : Head heads k start head
    pub out : Place
    pub same : SameShape head out
    pub turn : Place
    pub items : inner_fits head out turn
    pub next : Place
    pub turns : Leads body (table_effect (turn_word plus)) keep turn next
    pub again : Below next head
    pub leaves : Below next out
    pub after_loop : t ≡ dropped out

  -- OF leads to the items of its arm where the cells are equal, and else to the other arms
  pub record ArmFits (tests_fit inner_fits others_fit : Place → Type 0) : Type 0 where
    pub test : Place
    pub tests : tests_fit test
    pub on_other : Place
    pub to_other : Leads body (of_effect (negsuc 0)) keep test on_other
    pub on_equal : Place
    pub to_equal : Leads body (of_effect (negsuc 1)) keep test on_equal
    pub items : inner_fits on_equal
    pub others : others_fit on_other

  -- the last items of a case, and ENDCASE
  pub record CaseEnds (rest_fits : Place → Type 0) (t : Place) : Type 0 where
    pub last : Place
    pub items : rest_fits last
    pub end : Place
    pub drops : Leads body (table_effect table.EndCase) keep last end
    pub below : Below end t

module _ (known : Known) (heads : List (ℤ × ℤ)) (body : Effect) where
  abbrev pub WordLeads : Bool → Word → Place → Place → Type 0
  WordLeads true word s t = Doubles body s t
  WordLeads false word s t = Leads body (word_effect known.shared word) (shape_after word) s t

  -- items lead from s to within t, and each LEAVE of the loop around them to within l. Their loops are those from the k-th on
  abbrev mutual
    pub ItemFits : Next → Node → ℕ → Place → Place → Place → Type 0
    ItemFits next (Literal value) k s l t = Leads body (table_effect table.Literal) keep s t
    ItemFits next (Plain word) k s l t = WordLeads (doubles next word) word s t
    ItemFits next (Call definition) k s l t = Leads body (called_effect next (effect_of known definition)) keep s t
    ItemFits next (Child definition address) k s l t =
        (m : Place) × Leads body (table_effect table.Literal) keep s m × Leads body (called_effect next (effect_of known definition)) keep m t
    ItemFits next (Text kind address length) k s l t = Leads body (table_effect (text_word kind)) keep s t
    ItemFits next (If first second) k s l t =
        IfFits heads body (λ m. Fits (branch_next next) first k m l t) (λ m. Fits (branch_next next) second (k + loops first) m l t) s
    ItemFits next (Until inner) k s l t = UntilFits heads body k (λ h m. Fits More inner (k + 1) h l m) s t
    ItemFits next (While test inner) k s l t =
        WhileFits heads body k (λ h m. Fits Flag test (k + 1) h l m) (λ m n. Fits More inner (k + 1 + loops test) m l n) s t
    ItemFits next (Again inner) k s l t = AgainFits heads body k (λ h m. Fits More inner (k + 1) h l m) s t
    ItemFits next (Do inner plus) k s l t = CountedFits heads body (table_effect table.Do) plus k (λ h x m. Fits More inner (k + 1) h x m) s t
    -- where ?DO leaves the loop out, its end is come to at once
    ItemFits next (QDo inner plus) k s l t =
        (loop : CountedFits heads body (table_effect table.QDo) plus k (λ h x m. Fits More inner (k + 1) h x m) s t) × Below loop.start loop.out
    ItemFits next (Case arms rest) k s l t = ArmsFit (branch_next next) arms (λ k s. CaseEnds heads body (λ m. Fits More rest k s l m) t) k s l t
    ItemFits next Leave k s l t = (m : Place) × Leads body (table_effect table.Leave) keep s m × Below m l × (t ≡ Unreachable)
    ItemFits next Exit k s l t = EndsBody body s × (t ≡ Unreachable)

    pub Fits : Next → Nodes → ℕ → Place → Place → Place → Type 0
    Fits next Empty k s l t = Below s t
    Fits next (Then node rest) k s l t = (m : Place) × ItemFits (next_of next rest) node k s l m × Fits next rest (k + loops_in node) m l t

    -- the arms of a case. Where there is none, `last` is left
    pub ArmsFit : Next → Arms → (ℕ → Place → Type 0) → ℕ → Place → Place → Place → Type 0
    ArmsFit next NoArm last k s l t = last k s
    ArmsFit next (Arm tests inner others) last k s l t =
        ArmFits heads body (λ m. Fits More tests k s l m) (λ m. Fits next inner (k + loops tests) m l t)
        (λ m. ArmsFit next others last (k + loops tests + loops inner) m l t)

  -- the items of a definition
  abbrev pub BodyFits : Nodes → ℕ → Type 0
  BodyFits nodes k = (t : Place) × Fits Return nodes k (At entry) Unreachable t × EndsBody body t

-- ---- certificates

-- one effect is contained in another
abbrev pub ExitIn : Option (ℤ × ℤ) → Option (ℤ × ℤ) → Type 0
ExitIn None y = Unit {0}
ExitIn (Some x) None = ⊥
ExitIn (Some x) (Some y) = (y.0 ≤ℤ x.0) × (x.1 ≤ℤ y.1)

pub record EffectIn (x y : Effect) : Type 0 where
  pub need : x.need ≤ y.need
  pub peak : x.peak ≤ y.peak
  pub back : x.back ≤ y.back
  pub exit : ExitIn x.exit y.exit

-- an execution token has its effect within the shared one
abbrev pub TokenIn : Known → Node → Type 0
TokenIn known (Plain word) = IsTrue (may_be_token (Plain word)) × EffectIn (table_effect word) known.shared
TokenIn known (Call definition) = EffectIn (effect_of known definition) known.shared
TokenIn known (Child definition address) = EffectIn (child_effect (effect_of known definition)) known.shared
TokenIn known (Literal value) = EffectIn (table_effect table.Literal) known.shared
-- no token stands for another item
TokenIn known node = ⊥

-- the greatest need, peak and back, and the greatest high end of the exit
pub record Limits : Type 0 where
  pub need : ℕ
  pub peak : ℕ
  pub back : ℕ
  pub top : ℕ

-- a place too many would be read by DEPTH, whose cells read a pointer of five bits
abbrev pub definition_limits : SourceProgram → ℕ → Limits
definition_limits p definition =
    if nat_eq definition p.main_body then record { need = 0; peak = if uses_depth p then 32 else 33; back = 31; top = 31 }
    else record { need = 33; peak = 33; back = 31; top = 33 }

abbrev pub IsInterval : ℤ × ℤ → Type 0
IsInterval x = x.0 ≤ℤ x.1

abbrev pub ExitKeeps : ℕ → Option (ℤ × ℤ) → Type 0
ExitKeeps top None = Unit {0}
ExitKeeps top (Some x) = (negsuc 32 ≤ℤ x.0) × IsInterval x × (x.1 ≤ℤ pos top)

pub record Keeps (limits : Limits) (e : Effect) : Type 0 where
  pub need : e.need ≤ limits.need
  pub peak : e.peak ≤ limits.peak
  pub back : e.back ≤ limits.back
  pub exit : ExitKeeps limits.top e.exit

-- the effects of the definitions, the shared one, and the heads of the loops, in the order of the source
pub record Cert : Type 0 where
  pub effects : List Effect
  pub shared : Effect
  pub heads : List (ℤ × ℤ)

abbrev pub known_of : Cert → Known
known_of z = record { definitions = z.effects; shared = z.shared }

-- the bodies fit their effects, from a definition and a loop on, and these keep their limits
module _ (p : SourceProgram) (known : Known) (heads : List (ℤ × ℤ)) where
  abbrev pub BodiesFit : List Nodes → List Effect → ℕ → ℕ → Type 0
  BodiesFit [] [] definition k = k ≡ length heads
  BodiesFit [] (e ∷ effects) definition k = ⊥
  BodiesFit (body ∷ bodies) [] definition k = ⊥
  BodiesFit (body ∷ bodies) (e ∷ effects) definition k =
      BodyFits known heads e body k × Keeps (definition_limits p definition) e × BodiesFit bodies effects (suc definition) (k + loops body)

abbrev pub SharedInterval : Option (ℤ × ℤ) → Type 0
SharedInterval None = Unit {0}
SharedInterval (Some x) = IsInterval x

-- a certificate is valid for a program, and keeps the limits
pub record IsValid (p : SourceProgram) (z : Cert) : Type 0 where
  pub bodies : BodiesFit p (known_of z) z.heads p.bodies z.effects 0 0
  pub tokens : All (TokenIn (known_of z)) p.tokens
  pub shared : SharedInterval z.shared.exit
  pub heads : All (λ head. (negsuc 32 ≤ℤ head.0) × IsInterval head × (head.1 ≤ℤ pos 33)) z.heads

abbrev pub IsCertified : SourceProgram → Type 0
IsCertified p = (z : Cert) × IsValid p z
