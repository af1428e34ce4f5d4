-- What a word does to a place.
use Rattle.std.proofs.Common.{◌≡◌, ℕ, ◌+◌, ◌≤◌, nat_le, nat_lt, Bool, true, false, ◌||◌, List, [], ◌∷◌, length, refl, sym, ap, ◌∙◌, subst, leb-true}
use Rattle.std.specs.Prelude.{Result, Ok, Err}
use Rattle.word_table.specs.Table.{entry_of}
use Rattle.forth_program.specs.Tree.{Nodes}
use Rattle.forth_program.specs.Form.{leaves_fit}
use Rattle.control_flow.specs.declared.refusal.SourceCause.{SourceCause}
use Rattle.control_flow.specs.declared.refusal.SourceCause.TheVariants as cause
use Rattle.control_flow.specs.declared.nest.Open.{Open}
use Rattle.control_flow.specs.declared.nest.Open.TheVariants as kind
use Rattle.control_flow.specs.declared.nest.Opening.{Opening}
use Rattle.control_flow.specs.declared.nest.Ending.{Ending}
use Rattle.control_flow.specs.declared.nest.Ending.TheVariants as ending
use Rattle.control_flow.specs.declared.nest.Step.TheVariants.{Gone, Becomes}
use Rattle.control_flow.specs.Nest.{with_open, open_of, step_of, stepped, nest_ended, is_do, is_inside_do}
use Rattle.control_flow.specs.Sense.{opening_word, ending_word}
use Rattle.control_flow.specs.ParseResult.{ParserState, ParseResult, Fine, Refused, Endless, ◌>>=◌, most_weight, weighed_as, weighed}
use Rattle.control_flow.specs.Items.{nested, opened_at, ended_at}

-- the fuel is not spent, and a value is such
abbrev pub Good : {A : Type 0} → (A → Type 0) → ParseResult A → Type 0
Good P (Fine x) = P x
Good P (Refused k c) = Unit {0}
Good P Endless = ⊥

pub good_then : {A B : Type 0} (P : A → Type 0) (Q : B → Type 0) (o : ParseResult A) (f : A → ParseResult B) → Good P o → ((x : A) → P x → Good Q (f x)) → Good Q (o >>= f)
good_then P Q (Fine x) f p h = h x p
good_then P Q (Refused k c) f p h = tt
good_then P Q Endless f p h = absurd p

pub good_weaker : {A : Type 0} (P Q : A → Type 0) → ((x : A) → P x → Q x) → (o : ParseResult A) → Good P o → Good Q o
good_weaker P Q h (Fine x) p = h x p
good_weaker P Q h (Refused k c) p = tt
good_weaker P Q h Endless p = absurd p

pub good_is : {A : Type 0} (P : A → Type 0) (o : ParseResult A) (x : A) → o ≡ Fine x → Good P o → P x
good_is P o x e p = subst (Good P) e p

-- a word weighs so much, and changes nothing but the weight and the nest
pub record Moves (w : ℕ) (from at : ParserState) : Type 0 where
  pub entries : at.entries ≡ from.entries
  pub definitions : at.definitions ≡ from.definitions
  pub words : at.words ≡ from.words
  pub weight : at.weight ≡ from.weight + w
  pub light : at.weight ≤ most_weight at
  pub count : at.count ≡ from.count
  pub rest : at.rest ≡ from.rest
  pub host : at.host ≡ from.host

weighs_on : (number w : ℕ) (from at : ParserState) (fits : Bool) → nat_le (at.weight + w) (most_weight at) ≡ fits → from ≡ record at { nest = from.nest } →
    Good (λ x. Moves w from x × (x.nest ≡ at.nest)) (elim fits [ true ↦ Fine (record at { weight = at.weight + w }) | false ↦ Refused number cause.CodeFull ])
weighs_on number w from at true e s = (
  record {
    entries = sym (ap (λ (p : ParserState). p.entries) s);
    definitions = sym (ap (λ (p : ParserState). p.definitions) s);
    words = sym (ap (λ (p : ParserState). p.words) s);
    weight = ap (λ n. n + w) (sym (ap (λ (p : ParserState). p.weight) s));
    light = leb-true (at.weight + w) (most_weight at) e;
    count = sym (ap (λ (p : ParserState). p.count) s);
    rest = sym (ap (λ (p : ParserState). p.rest) s);
    host = sym (ap (λ (p : ParserState). p.host) s);
  },
  refl,
)
weighs_on number w from at false e s = tt

pub weighs : (number w : ℕ) (at : ParserState) → Good (λ x. Moves w at x × (x.nest ≡ at.nest)) (weighed_as number w at)
weighs number w at = weighs_on number w at at (nat_le (at.weight + w) (most_weight at)) refl refl

nests : (w : ℕ) (at : ParserState) (r : Result (List Open) SourceCause) → Good (λ x. Moves w at x × (r ≡ Ok x.nest)) (nested at r >>= weighed w)
nests w at (Ok nest) =
    good_weaker (λ x. Moves w at x × (x.nest ≡ nest)) (λ x. Moves w at x × (Ok nest ≡ Ok x.nest)) (λ x m. (m.0, ap Ok (sym m.1))) (weighed w (record at { nest = nest }))
    (weighs_on at.count w at (record at { nest = nest }) (nat_le (at.weight + w) (most_weight at)) refl refl)
nests w at (Err c) = tt

open_on : (o : Open) (nest new : List Open) (t : Bool) → elim t as (λ t. Result (List Open) SourceCause) [ true ↦ Ok (o ∷ nest) | false ↦ Err cause.TooDeep ] ≡ Ok new → new ≡ o ∷ nest
open_on o nest new true e =
    let is : o ∷ nest ≡ new = cc in
    sym is
open_on o nest new false e = absurd cc

pub open_is : (o : Open) (nest new : List Open) → with_open o nest ≡ Ok new → new ≡ o ∷ nest
open_is o nest new e = open_on o nest new (nat_lt (length nest) 16) e

pub opens : (o : Opening) (at : ParserState) → Good (λ x. Moves (entry_of (opening_word o)).weight at x × (x.nest ≡ open_of o ∷ at.nest)) (opened_at o at)
opens o at =
    good_weaker (λ x. Moves (entry_of (opening_word o)).weight at x × (with_open (open_of o) at.nest ≡ Ok x.nest)) (λ x. Moves (entry_of (opening_word o)).weight at x × (x.nest ≡ open_of o ∷ at.nest))
    (λ x m. (m.0, open_is (open_of o) at.nest x.nest m.1)) (opened_at o at) (nests (entry_of (opening_word o)).weight at (with_open (open_of o) at.nest))

pub ends : (e : Ending) (at : ParserState) → Good (λ x. Moves (entry_of (ending_word e)).weight at x × (nest_ended at.nest e ≡ Ok x.nest)) (ended_at e at)
ends e at = nests (entry_of (ending_word e)).weight at (nest_ended at.nest e)

-- ---- what a word leaves of the nest

-- it ends the innermost structure
pub gone : (o : Open) (e : Ending) (outer nest new : List Open) → nest ≡ o ∷ outer → step_of o e ≡ Gone → nest_ended nest e ≡ Ok new → new ≡ outer
gone o e outer nest new k g h =
    let is : Ok outer ≡ Ok new = sym (ap (λ s. stepped s o outer) g) ∙ ap (λ n. nest_ended n e) (sym k) ∙ h in
    let same : outer ≡ new = cc in
    sym same

-- its next part begins
pub becomes : (o next : Open) (e : Ending) (outer nest new : List Open) → nest ≡ o ∷ outer → step_of o e ≡ Becomes next → nest_ended nest e ≡ Ok new → new ≡ next ∷ outer
becomes o next e outer nest new k g h =
    let is : Ok (next ∷ outer) ≡ Ok new = sym (ap (λ s. stepped s o outer) g) ∙ ap (λ n. nest_ended n e) (sym k) ∙ h in
    let same : next ∷ outer ≡ new = cc in
    sym same

-- an OF opens inside its CASE
pub holds : (outer nest new : List Open) → nest ≡ kind.Case ∷ outer → nest_ended nest ending.Of ≡ Ok new → new ≡ kind.Of ∷ kind.Case ∷ outer
holds outer nest new k h = open_is kind.Of (kind.Case ∷ outer) new (ap (λ n. nest_ended n ending.Of) (sym k) ∙ h)

-- `;` ends a list of items outside structures
pub outermost : (nest new : List Open) → nest ≡ [] → nest_ended nest ending.Semicolon ≡ Ok new → new ≡ []
outermost nest new k h =
    let is : Ok [] ≡ Ok new = ap (λ n. nest_ended n ending.Semicolon) (sym k) ∙ h in
    let same : [] ≡ new = cc in
    sym same

-- LEAVE inside a structure
pub same_loop : (o : Open) (outer nest : List Open) (nodes : Nodes) → nest ≡ o ∷ outer → is_do o ≡ false → leaves_fit (is_inside_do nest) nodes ≡ true → leaves_fit (is_inside_do outer) nodes ≡ true
same_loop o outer nest nodes k f h = ap (λ d. leaves_fit d nodes) (sym (ap is_inside_do k ∙ ap (λ b. b || is_inside_do outer) f)) ∙ h

pub own_loop : (outer nest : List Open) (nodes : Nodes) → nest ≡ kind.Do ∷ outer → leaves_fit (is_inside_do nest) nodes ≡ true → leaves_fit true nodes ≡ true
own_loop outer nest nodes k h = ap (λ d. leaves_fit d nodes) (sym (ap is_inside_do k)) ∙ h
