-- Where two tests hold of every item, both hold of every item.
use Rattle.std.proofs.Common.{◌≡◌, Bool, true, false, ◌&&◌, refl}
use Rattle.forth_program.specs.Tree.{Node, Nodes, Arms, Literal, Plain, Call, Child, Text, If, Until, While, Again, Do, QDo, Case, Leave, Exit, Empty, Then, NoArm, Arm}
use Rattle.forth_program.specs.Form.{everywhere, inside, in_arms}
use Rattle.code_layout.proofs.Machine.{both}

two : (a b : Bool) → a ≡ true → b ≡ true → (a && b) ≡ true
two true b e f = f
two false b e f = absurd (let g : false ≡ true = e in cc)

three : (a b c : Bool) → a ≡ true → b ≡ true → c ≡ true → (a && b && c) ≡ true
three true true c e f g = g
three true false c e f g = absurd (let h : false ≡ true = f in cc)
three false b c e f g = absurd (let h : false ≡ true = e in cc)

module _ (a b : Node → Bool) where
  abbrev ab : Node → Bool
  ab node = a node && b node

  mutual
    inside_both : (node : Node) → inside a node ≡ true → inside b node ≡ true → inside ab node ≡ true
    inside_both (Literal value) h k = refl
    inside_both (Plain word) h k = refl
    inside_both (Call d) h k = refl
    inside_both (Child d address) h k = refl
    inside_both (Text kind address n) h k = refl
    inside_both (If first second) h k =
        let h' = both (everywhere a first) (everywhere a second) h in
        let k' = both (everywhere b first) (everywhere b second) k in
        two (everywhere ab first) (everywhere ab second) (everywhere_both first h'.0 k'.0) (everywhere_both second h'.1 k'.1)
    inside_both (Until body) h k = everywhere_both body h k
    inside_both (While test body) h k =
        let h' = both (everywhere a test) (everywhere a body) h in
        let k' = both (everywhere b test) (everywhere b body) k in
        two (everywhere ab test) (everywhere ab body) (everywhere_both test h'.0 k'.0) (everywhere_both body h'.1 k'.1)
    inside_both (Again body) h k = everywhere_both body h k
    inside_both (Do body plus) h k = everywhere_both body h k
    inside_both (QDo body plus) h k = everywhere_both body h k
    inside_both (Case arms rest) h k =
        let h' = both (in_arms a arms) (everywhere a rest) h in
        let k' = both (in_arms b arms) (everywhere b rest) k in
        two (in_arms ab arms) (everywhere ab rest) (arms_both arms h'.0 k'.0) (everywhere_both rest h'.1 k'.1)
    inside_both Leave h k = refl
    inside_both Exit h k = refl

    arms_both : (arms : Arms) → in_arms a arms ≡ true → in_arms b arms ≡ true → in_arms ab arms ≡ true
    arms_both NoArm h k = refl
    arms_both (Arm tests body others) h k =
        let h' = both (everywhere a tests && everywhere a body) (in_arms a others) h in
        let k' = both (everywhere b tests && everywhere b body) (in_arms b others) k in
        let g = both (everywhere a tests) (everywhere a body) h'.0 in
        let l = both (everywhere b tests) (everywhere b body) k'.0 in
        three (everywhere ab tests) (everywhere ab body) (in_arms ab others) (everywhere_both tests g.0 l.0) (everywhere_both body g.1 l.1) (arms_both others h'.1 k'.1)

    pub everywhere_both : (nodes : Nodes) → everywhere a nodes ≡ true → everywhere b nodes ≡ true → everywhere ab nodes ≡ true
    everywhere_both Empty h k = refl
    everywhere_both (Then node rest) h k =
        let h' = both (a node && inside a node) (everywhere a rest) h in
        let k' = both (b node && inside b node) (everywhere b rest) k in
        let g = both (a node) (inside a node) h'.0 in
        let l = both (b node) (inside b node) k'.0 in
        three (ab node) (inside ab node) (everywhere ab rest) (two (a node) (b node) g.0 l.0) (inside_both node g.1 l.1) (everywhere_both rest h'.1 k'.1)
