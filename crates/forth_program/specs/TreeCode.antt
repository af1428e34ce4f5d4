-- A code of plain trees, by which a proof tells their values apart: a tree is written from its last item up.
use Rattle.std.specs.Prelude.{◌≡◌, ℕ, Bool, List, [], ◌∷◌, refl}
use Rattle.std.specs.Coded.{Coded, codes, code_by, coded_list}
use mathlib.Core.Path.{ap, ◌∙◌}
use Rattle.word_table.specs.declared.word.Word.{Word}
use Rattle.forth_program.specs.declared.item.TextKind.{TextKind}
use Rattle.forth_program.specs.Tree.{Node, Nodes, Arms, Literal, Plain, Call, Child, Text, If, Until, While, Again, Do, QDo, Case, Leave, Exit, Empty, Then, NoArm, Arm}

-- one sign for each item, which stands after the signs of its parts and of what follows it
pub data Sign : Type 0 where
  OfEmpty : Sign
  OfLiteral : (value : ℕ) → Sign
  OfPlain : (word : Word) → Sign
  OfCall : (definition : ℕ) → Sign
  OfChild : (definition address : ℕ) → Sign
  OfText : (kind : TextKind) (address size : ℕ) → Sign
  OfIf : Sign
  OfUntil : Sign
  OfWhile : Sign
  OfAgain : Sign
  OfDo : (plus : Bool) → Sign
  OfQDo : (plus : Bool) → Sign
  OfCase : Sign
  OfLeave : Sign
  OfExit : Sign

abbrev sign_of : Node → Sign
sign_of (Literal x) = OfLiteral x
sign_of (Plain word) = OfPlain word
sign_of (Call d) = OfCall d
sign_of (Child d a) = OfChild d a
sign_of (Text kind a n) = OfText kind a n
sign_of (If a b) = OfIf
sign_of (Until a) = OfUntil
sign_of (While a b) = OfWhile
sign_of (Again a) = OfAgain
sign_of (Do a plus) = OfDo plus
sign_of (QDo a plus) = OfQDo plus
sign_of (Case arms a) = OfCase
sign_of Leave = OfLeave
sign_of Exit = OfExit

-- the signs of a tree, before those that follow
abbrev mutual
  node_signs : Node → List Sign → List Sign
  node_signs (If a b) after = nodes_signs a (nodes_signs b after)
  node_signs (Until a) after = nodes_signs a after
  node_signs (While a b) after = nodes_signs a (nodes_signs b after)
  node_signs (Again a) after = nodes_signs a after
  node_signs (Do a plus) after = nodes_signs a after
  node_signs (QDo a plus) after = nodes_signs a after
  node_signs (Case arms a) after = arms_signs arms (nodes_signs a after)
  node_signs node after = after

  nodes_signs : Nodes → List Sign → List Sign
  nodes_signs Empty after = OfEmpty ∷ after
  nodes_signs (Then node rest) after = node_signs node (nodes_signs rest (sign_of node ∷ after))

  -- an arm is written as an IF of its tests and its body
  arms_signs : Arms → List Sign → List Sign
  arms_signs NoArm after = OfEmpty ∷ after
  arms_signs (Arm tests body others) after = nodes_signs tests (nodes_signs body (arms_signs others (OfIf ∷ after)))

abbrev as_nodes : Arms → Nodes
as_nodes NoArm = Empty
as_nodes (Arm tests body others) = Then (If tests body) (as_nodes others)

abbrev as_arms : Nodes → Arms
as_arms Empty = NoArm
as_arms (Then (If tests body) rest) = Arm tests body (as_arms rest)
as_arms (Then node rest) = NoArm

arms_back : (arms : Arms) → as_arms (as_nodes arms) ≡ arms
arms_back NoArm = refl
arms_back (Arm tests body others) = ap (λ a. Arm tests body a) (arms_back others)

-- what a sign makes of the trees that are done, the newest first
abbrev made : Sign → List Nodes → List Nodes
made OfEmpty done = Empty ∷ done
made (OfLiteral x) (r ∷ done) = Then (Literal x) r ∷ done
made (OfPlain word) (r ∷ done) = Then (Plain word) r ∷ done
made (OfCall d) (r ∷ done) = Then (Call d) r ∷ done
made (OfChild d a) (r ∷ done) = Then (Child d a) r ∷ done
made (OfText kind a n) (r ∷ done) = Then (Text kind a n) r ∷ done
made OfIf (r ∷ b ∷ a ∷ done) = Then (If a b) r ∷ done
made OfUntil (r ∷ a ∷ done) = Then (Until a) r ∷ done
made OfWhile (r ∷ b ∷ a ∷ done) = Then (While a b) r ∷ done
made OfAgain (r ∷ a ∷ done) = Then (Again a) r ∷ done
made (OfDo plus) (r ∷ a ∷ done) = Then (Do a plus) r ∷ done
made (OfQDo plus) (r ∷ a ∷ done) = Then (QDo a plus) r ∷ done
made OfCase (r ∷ a ∷ arms ∷ done) = Then (Case (as_arms arms) a) r ∷ done
made OfLeave (r ∷ done) = Then Leave r ∷ done
made OfExit (r ∷ done) = Then Exit r ∷ done
made sign done = done

abbrev read : List Sign → List Nodes → List Nodes
read [] done = done
read (sign ∷ signs) done = read signs (made sign done)

abbrev newest : List Nodes → Nodes
newest [] = Empty
newest (n ∷ done) = n

abbrev first_node : Nodes → Node
first_node Empty = Leave
first_node (Then node rest) = node

-- the parts of an item, the last first
abbrev parts_on : Node → List Nodes → List Nodes
parts_on (If a b) done = b ∷ a ∷ done
parts_on (Until a) done = a ∷ done
parts_on (While a b) done = b ∷ a ∷ done
parts_on (Again a) done = a ∷ done
parts_on (Do a plus) done = a ∷ done
parts_on (QDo a plus) done = a ∷ done
parts_on (Case arms a) done = a ∷ as_nodes arms ∷ done
parts_on node done = done

made_of : (node : Node) (rest : Nodes) (done : List Nodes) → made (sign_of node) (rest ∷ parts_on node done) ≡ Then node rest ∷ done
made_of (If a b) rest done = refl
made_of (Case arms a) rest done = ap (λ x. Then (Case x a) rest ∷ done) (arms_back arms)
made_of node rest done = refl

mutual
  read_node : (node : Node) (after : List Sign) (done : List Nodes) → read (node_signs node after) done ≡ read after (parts_on node done)
  read_node (If a b) after done = read_nodes a (nodes_signs b after) done ∙ read_nodes b after (a ∷ done)
  read_node (Until a) after done = read_nodes a after done
  read_node (While a b) after done = read_nodes a (nodes_signs b after) done ∙ read_nodes b after (a ∷ done)
  read_node (Again a) after done = read_nodes a after done
  read_node (Do a plus) after done = read_nodes a after done
  read_node (QDo a plus) after done = read_nodes a after done
  read_node (Case arms a) after done = read_arms arms (nodes_signs a after) done ∙ read_nodes a after (as_nodes arms ∷ done)
  read_node node after done = refl

  read_nodes : (nodes : Nodes) (after : List Sign) (done : List Nodes) → read (nodes_signs nodes after) done ≡ read after (nodes ∷ done)
  read_nodes Empty after done = refl
  read_nodes (Then node rest) after done =
      read_node node (nodes_signs rest (sign_of node ∷ after)) done ∙ read_nodes rest (sign_of node ∷ after) (parts_on node done)
      ∙ ap (read after) (made_of node rest done)

  read_arms : (arms : Arms) (after : List Sign) (done : List Nodes) → read (arms_signs arms after) done ≡ read after (as_nodes arms ∷ done)
  read_arms NoArm after done = refl
  read_arms (Arm tests body others) after done =
      read_nodes tests (nodes_signs body (arms_signs others (OfIf ∷ after))) done ∙ read_nodes body (arms_signs others (OfIf ∷ after)) (tests ∷ done)
      ∙ read_arms others (OfIf ∷ after) (body ∷ tests ∷ done)

sign_code : Coded Sign
sign_code = Prim.hlevel codes

pub nodes_code : Coded Nodes
nodes_code = code_by (List Sign) (coded_list sign_code) (λ n. nodes_signs n []) (λ signs. newest (read signs [])) (λ n. ap newest (read_nodes n [] []))

pub node_code : Coded Node
node_code = code_by Nodes nodes_code (λ n. Then n Empty) first_node (λ n. refl)
