-- One item more of a list of items.
use Rattle.std.proofs.Common.{◌≡◌, ℕ, zero, suc, ◌+◌, ◌-◌, ◌<◌, ◌≤◌, List, [], ◌∷◌, ◌++◌, length, refl, ap, sym, ◌∙◌, arith, length-append}
use Rattle.forth_program.specs.declared.item.Item.{Item}
use Rattle.forth_program.specs.Tree.{Nodes, Empty, Then, joined}
use Rattle.forth_program.specs.ItemTrees.{node_of, nodes_of}
use Rattle.control_flow.specs.declared.refusal.SourceError.{SourceError}
use Rattle.control_flow.specs.declared.refusal.SourceError.TheVariants as error
use Rattle.control_flow.specs.declared.nest.Ending.{Ending}
use Rattle.control_flow.specs.declared.sense.Sense.{Sense}
use Rattle.control_flow.specs.declared.sense.Sense.TheVariants.{Ends, Brackets}
use Rattle.control_flow.specs.ParseResult.{ParserState, ParseResult, Fine, Refused, Endless, ◌>>=◌}
use Rattle.control_flow.specs.ReadTokens.{ReadToken, token_at}
use Rattle.control_flow.specs.Brackets.{bracket_at}
use Rattle.control_flow.specs.Items.{Many, ended_at, item_at, then_items, items_by, items_at}
use Rattle.control_flow.specs.Answers.{FailsAs}

-- what is refused stays refused
pub fails_then : {A B : Type 0} (e : SourceError) (o : ParseResult A) (f : A → ParseResult B) → FailsAs e o → FailsAs e (o >>= f)
fails_then error.OutOfMemory o f h = tt
fails_then (error.Refused r) o f h = ap (λ o. o >>= f) h

pub fails_as : {A : Type 0} (e : SourceError) (o p : ParseResult A) → p ≡ o → FailsAs e o → FailsAs e p
fails_as error.OutOfMemory o p is h = tt
fails_as (error.Refused r) o p is h = is ∙ h

-- with the items that are done in front
abbrev pub behind : List Item → ParseResult Many → ParseResult Many
behind done outcome = outcome >>= λ many. Fine (record many { nodes = joined (nodes_of done) many.nodes })

joined_empty : (done : List Item) → joined (nodes_of done) Empty ≡ nodes_of done
joined_empty [] = refl
joined_empty (i ∷ is) = ap (Then (node_of i)) (joined_empty is)

joined_more : (done : List Item) (i : Item) (nodes : Nodes) → joined (nodes_of done) (Then (node_of i) nodes) ≡ joined (nodes_of (done ++ i ∷ [])) nodes
joined_more [] i nodes = refl
joined_more (j ∷ is) i nodes = ap (Then (node_of j)) (joined_more is i nodes)

abbrev pub by_seen : ℕ → ReadToken → ParseResult Many
by_seen m seen = items_by (items_at m) m seen.at seen.sense

pub items_step : (n : ℕ) (at : ParserState) → 0 < n → items_at n at ≡ (token_at at >>= by_seen (n - 1))
unfolding items_at
items_step zero at h = absurd (omega arith)
items_step (suc n) at h = ap (λ m. token_at at >>= by_seen m) (omega arith)

items_by_other : (go : ParserState → ParseResult Many) (m : ℕ) (at : ParserState) (s : Sense) → ((e : Ending) → s ≡ Ends e → ⊥) → (s ≡ Brackets → ⊥) → items_by go m at s ≡ then_items go (item_at go m at s)
items_by_other go m at (Ends e) h k = absurd (h e refl)
items_by_other go m at Brackets h k = absurd (k refl)
items_by_other go m at s h k = refl

-- items are read on from a token of this sense, with fuel for what is left
pub record Reaches (whole : ParseResult Many) (done : List Item) (at : ParserState) (s : Sense) : Type 0 where
  pub fuel : ℕ
  pub enough : length at.rest < fuel
  pub same : whole ≡ behind done (items_by (items_at fuel) fuel at s)

-- the same, before the next token
pub record Stands (whole : ParseResult Many) (done : List Item) (at : ParserState) : Type 0 where
  pub fuel : ℕ
  pub enough : length at.rest < fuel
  pub same : whole ≡ behind done (items_at fuel at)

behind_none : (o : ParseResult Many) → behind [] o ≡ o
behind_none (Fine many) = refl
behind_none (Refused k c) = refl
behind_none Endless = refl

pub started : (done : List Item) → done ≡ [] → (n : ℕ) (at : ParserState) (s : Sense) → length at.rest < n → Reaches (items_by (items_at n) n at s) done at s
started done none n at s h = record {
  fuel = n;
  enough = h;
  same = sym (ap (λ l. behind l (items_by (items_at n) n at s)) none ∙ behind_none (items_by (items_at n) n at s));
}

module _ (whole : ParseResult Many) (done : List Item) (at : ParserState) (here : Stands whole done at) where
  next_token : whole ≡ behind done (token_at at >>= by_seen (here.fuel - 1))
  next_token = here.same ∙ ap (behind done) (items_step here.fuel at (omega (arith, here.enough)))

  -- the token is refused
  pub refused_token : (e : SourceError) → FailsAs e (token_at at) → FailsAs e whole
  refused_token e f = fails_as e _ whole next_token (fails_then e (token_at at >>= by_seen (here.fuel - 1)) _ (fails_then e (token_at at) (by_seen (here.fuel - 1)) f))

  pub with_token : (s : Sense) (seen : ParserState) → token_at at ≡ Fine (record { sense = s; at = seen }) → length seen.rest < length at.rest → Reaches whole done seen s
  with_token s seen token shorter = record {
    fuel = here.fuel - 1;
    enough = omega (arith, here.enough, shorter);
    same = next_token ∙ ap (λ t. behind done (t >>= by_seen (here.fuel - 1))) token;
  }

module _ (whole : ParseResult Many) (done : List Item) (at : ParserState) (s : Sense) (here : Reaches whole done at s) where
  -- the token ends the items
  module _ (ending : Ending) (is : s ≡ Ends ending) where
    last_token : whole ≡ behind done (ended_at ending at >>= λ after. Fine (record { nodes = Empty; ending = ending; at = after }))
    last_token = here.same ∙ ap (λ s. behind done (items_by (items_at here.fuel) here.fuel at s)) is

    pub refused_end : (e : SourceError) → FailsAs e (ended_at ending at) → FailsAs e whole
    refused_end e f = fails_as e _ whole last_token (fails_then e (ended_at ending at >>= λ after. Fine (record { nodes = Empty; ending = ending; at = after })) _ (fails_then e (ended_at ending at) _ f))

    pub ends : (after : ParserState) → ended_at ending at ≡ Fine after → whole ≡ Fine (record { nodes = nodes_of done; ending = ending; at = after })
    ends after f =
        last_token ∙ ap (λ t. behind done (t >>= λ after. Fine (record { nodes = Empty; ending = ending; at = after }))) f ∙ ap (λ nodes. Fine (record { nodes = nodes; ending = ending; at = after })) (joined_empty done)

  -- the token is a `[`
  module _ (is : s ≡ Brackets) where
    with_bracket : whole ≡ behind done (bracket_at here.fuel at >>= items_at here.fuel)
    with_bracket = here.same ∙ ap (λ s. behind done (items_by (items_at here.fuel) here.fuel at s)) is

    pub refused_bracket : (e : SourceError) → FailsAs e (bracket_at here.fuel at) → FailsAs e whole
    refused_bracket e f = fails_as e _ whole with_bracket (fails_then e (bracket_at here.fuel at >>= items_at here.fuel) _ (fails_then e (bracket_at here.fuel at) _ f))

    pub behind_bracket : (after : ParserState) → bracket_at here.fuel at ≡ Fine after → length after.rest ≤ length at.rest → Stands whole done after
    behind_bracket after f shorter = record {
      fuel = here.fuel;
      enough = omega (arith, here.enough, shorter);
      same = with_bracket ∙ ap (λ t. behind done (t >>= items_at here.fuel)) f;
    }

  module _ (no_end : (e : Ending) → s ≡ Ends e → ⊥) (no_bracket : s ≡ Brackets → ⊥) where
    with_item : whole ≡ behind done (then_items (items_at here.fuel) (item_at (items_at here.fuel) here.fuel at s))
    with_item = here.same ∙ ap (behind done) (items_by_other (items_at here.fuel) here.fuel at s no_end no_bracket)

    -- the item is refused
    pub refused_item : (e : SourceError) → FailsAs e (item_at (items_at here.fuel) here.fuel at s) → FailsAs e whole
    refused_item e f = fails_as e _ whole with_item (fails_then e (then_items (items_at here.fuel) (item_at (items_at here.fuel) here.fuel at s)) _ (fails_then e (item_at (items_at here.fuel) here.fuel at s) _ f))

    -- an item more
    pub behind_item : (more : List Item) (i : Item) (after : ParserState) → more ≡ done ++ i ∷ [] → item_at (items_at here.fuel) here.fuel at s ≡ Fine (record { node = node_of i; at = after }) →
        length after.rest ≤ length at.rest → Stands whole more after
    behind_item more i after is e shorter = record {
      fuel = here.fuel;
      enough = omega (arith, here.enough, shorter);
      same = with_item ∙ ap (λ o. behind done (then_items (items_at here.fuel) o)) e ∙ pushed (items_at here.fuel after) ∙ ap (λ l. behind l (items_at here.fuel after)) (sym is);
    }
      where
        pushed : (o : ParseResult Many) → behind done (o >>= λ many. Fine (record many { nodes = Then (node_of i) many.nodes })) ≡ behind (done ++ i ∷ []) o
        pushed (Fine many) = ap (λ nodes. Fine (record many { nodes = nodes })) (joined_more done i many.nodes)
        pushed (Refused k c) = refl
        pushed Endless = refl

pub longer : {A : Type 0} (old new : List A) (i : A) → new ≡ old ++ i ∷ [] → length new ≡ length old + 1
longer old new i e = ap length e ∙ length-append old (i ∷ [])

-- items from their first token on
module _ (n : ℕ) (at : ParserState) (more : 0 < n) where
  pub refused_first : (e : SourceError) → FailsAs e (token_at at) → FailsAs e (items_at n at)
  refused_first e f = fails_as e _ (items_at n at) (items_step n at more) (fails_then e (token_at at) (by_seen (n - 1)) f)

  pub items_first : (s : Sense) (seen : ParserState) → token_at at ≡ Fine (record { sense = s; at = seen }) → items_at n at ≡ items_by (items_at (n - 1)) (n - 1) seen s
  items_first s seen token = items_step n at more ∙ ap (λ t. t >>= by_seen (n - 1)) token
