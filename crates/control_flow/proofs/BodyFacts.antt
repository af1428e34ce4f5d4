-- What holds of bodies and tokens where a definition more is read.
use Rattle.std.proofs.Common.{◌≡◌, ℕ, suc, ◌+◌, ◌≤◌, nat_lt, Bool, true, ◌&&◌, List, [], ◌∷◌, ◌++◌, length, refl, subst, arith, ltb-true}
use Rattle.std.specs.List.{list_all}
use Rattle.std.proofs.lemmas.Bool.{and_from, and_parts, lt-ltb}
use Rattle.word_table.specs.declared.word.Word.{Word}
use Rattle.word_table.specs.declared.word.Word.TheVariants.{ToR, RFrom, RFetch, Index, OuterIndex, Unloop}
use Rattle.forth_program.specs.Tree.{Node, Nodes, Arms, Literal, Plain, Call, Child, If, Until, While, Again, Do, QDo, Case, Empty, Then, NoArm, Arm}
use Rattle.forth_program.specs.Form.{everywhere, inside, in_arms, has_id_below, calls_go_back, may_stand, may_be_token}
use Rattle.forth_program.specs.Weight.{weight as weight_of, bodies_weight}
use Rattle.forth_program.specs.SourceTokens.{tokens_of, all_tokens}
use Rattle.host_state.specs.declared.entry.Ticked.{Ticked}
use Rattle.control_flow.specs.Ticks.{token_nodes}
use Rattle.control_flow.specs.SourceLaw.{is_plain, is_read, is_read_token}

-- ---- a wider test

module _ (P Q : Node → Bool) (wider : (x : Node) → P x ≡ true → Q x ≡ true) where
  mutual
    pub everywhere_wider : (nodes : Nodes) → everywhere P nodes ≡ true → everywhere Q nodes ≡ true
    everywhere_wider Empty h = refl
    everywhere_wider (Then node rest) h =
        let front = and_parts (P node && inside P node) (everywhere P rest) h in
        let own = and_parts (P node) (inside P node) front.0 in
        and_from _ _ (and_from _ _ (wider node own.0) (inside_wider node own.1)) (everywhere_wider rest front.1)

    inside_wider : (node : Node) → inside P node ≡ true → inside Q node ≡ true
    inside_wider (If first second) h =
        let both = and_parts (everywhere P first) (everywhere P second) h in
        and_from _ _ (everywhere_wider first both.0) (everywhere_wider second both.1)
    inside_wider (Until body) h = everywhere_wider body h
    inside_wider (While first second) h =
        let both = and_parts (everywhere P first) (everywhere P second) h in
        and_from _ _ (everywhere_wider first both.0) (everywhere_wider second both.1)
    inside_wider (Again body) h = everywhere_wider body h
    inside_wider (Do body plus) h = everywhere_wider body h
    inside_wider (QDo body plus) h = everywhere_wider body h
    inside_wider (Case arms rest) h =
        let both = and_parts (in_arms P arms) (everywhere P rest) h in
        and_from _ _ (arms_wider arms both.0) (everywhere_wider rest both.1)
    inside_wider node h = refl

    arms_wider : (arms : Arms) → in_arms P arms ≡ true → in_arms Q arms ≡ true
    arms_wider NoArm h = refl
    arms_wider (Arm tests body others) h =
        let parts = and_parts (everywhere P tests && everywhere P body) (in_arms P others) h in
        let both = and_parts (everywhere P tests) (everywhere P body) parts.0 in
        and_from _ _ (and_from _ _ (everywhere_wider tests both.0) (everywhere_wider body both.1)) (arms_wider others parts.1)

  pub all_wider : (bodies : List Nodes) → list_all (everywhere P) bodies ≡ true → list_all (everywhere Q) bodies ≡ true
  all_wider [] h = refl
  all_wider (body ∷ bodies) h =
      let both = and_parts (everywhere P body) (list_all (everywhere P) bodies) h in
      and_from _ _ (everywhere_wider body both.0) (all_wider bodies both.1)

pub read_wider : (N M : ℕ) → N ≤ M → (node : Node) → is_read N node ≡ true → is_read M node ≡ true
read_wider N M h (Call definition) e = lt-ltb definition M (omega (arith, ltb-true definition N e))
read_wider N M h (Literal value) e = e
read_wider N M h (Plain word) e = e
read_wider N M h (Child definition address) e =
    let both = and_parts (nat_lt definition N) (nat_lt address 0x8000) e in
    and_from _ _ (lt-ltb definition M (omega (arith, ltb-true definition N both.0))) both.1
read_wider N M h node e = e

pub read_id : (N : ℕ) (node : Node) → is_read N node ≡ true → has_id_below N node ≡ true
read_id N (Call definition) e = e
read_id N (Child definition address) e = (and_parts (nat_lt definition N) (nat_lt address 0x8000) e).0
read_id N node e = refl

plain_stands : (word : Word) → is_plain word ≡ true → may_stand (Plain word) ≡ true
plain_stands ToR e = refl
plain_stands RFrom e = refl
plain_stands RFetch e = refl
plain_stands Index e = refl
plain_stands OuterIndex e = refl
plain_stands Unloop e = refl
plain_stands word e = e

pub read_stands : (N : ℕ) (node : Node) → is_read N node ≡ true → may_stand node ≡ true
read_stands N (Plain word) e = plain_stands word e
read_stands N node e = refl

pub all_more : (P : Nodes → Bool) (bodies : List Nodes) (body : Nodes) → list_all P bodies ≡ true → P body ≡ true → list_all P (bodies ++ body ∷ []) ≡ true
all_more P [] body h k = and_from _ _ k refl
all_more P (b ∷ bs) body h k =
    let both = and_parts (P b) (list_all P bs) h in
    and_from _ _ both.0 (all_more P bs body both.1 k)

-- the calls of a definition more, at the end, are at most its number
pub back_more : (bodies : List Nodes) (body : Nodes) (definition : ℕ) → calls_go_back definition bodies ≡ true →
    everywhere (has_id_below (suc (definition + length bodies))) body ≡ true → calls_go_back definition (bodies ++ body ∷ []) ≡ true
back_more [] body definition h k =
    let own : suc (definition + 0) ≡ suc definition = omega arith in
    and_from _ _ (subst (λ n. everywhere (has_id_below n) body ≡ true) own k) refl
back_more (b ∷ bs) body definition h k =
    let both = and_parts (everywhere (has_id_below (suc definition)) b) (calls_go_back (suc definition) bs) h in
    let own : suc (definition + suc (length bs)) ≡ suc (suc definition + length bs) = omega arith in
    and_from _ _ both.0 (back_more bs body (suc definition) both.1 (subst (λ n. everywhere (has_id_below n) body ≡ true) own k))

pub weights_more : (bodies : List Nodes) (body : Nodes) → bodies_weight (bodies ++ body ∷ []) ≡ bodies_weight bodies + (weight_of body + 1)
weights_more [] body = omega arith
weights_more (b ∷ bs) body = omega (arith, weights_more bs body)

pub tokens_more : (bodies : List Nodes) (body : Nodes) → all_tokens (bodies ++ body ∷ []) ≡ all_tokens bodies + (tokens_of body + 3)
tokens_more [] body = omega arith
tokens_more (b ∷ bs) body = omega (arith, tokens_more bs body)

-- ---- tokens

pub token_id : (N : ℕ) (node : Node) → is_read_token N node ≡ true → has_id_below N node ≡ true
token_id N (Call definition) e = e
token_id N (Child definition address) e = (and_parts (nat_lt definition N) (nat_lt address 0x8000) e).0
token_id N node e = refl

pub token_stands : (N : ℕ) (node : Node) → is_read_token N node ≡ true → may_be_token node ≡ true
token_stands N (Literal value) e = refl
token_stands N (Call definition) e = refl
token_stands N (Child definition address) e = refl
token_stands N node e = e

pub each_wider : (P Q : Node → Bool) → ((node : Node) → P node ≡ true → Q node ≡ true) → (nodes : List Node) → list_all P nodes ≡ true → list_all Q nodes ≡ true
each_wider P Q wider [] h = refl
each_wider P Q wider (node ∷ nodes) h =
    let both = and_parts (P node) (list_all P nodes) h in
    and_from _ _ (wider node both.0) (each_wider P Q wider nodes both.1)

pub as_many : (tokens : List Ticked) → length (token_nodes tokens) ≡ length tokens
as_many [] = refl
as_many (t ∷ ts) = omega (arith, as_many ts)
