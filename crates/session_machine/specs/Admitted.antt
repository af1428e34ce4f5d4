-- The lines of which a session is claimed to answer as the session machine says.
use Rattle.std.specs.Prelude.{◌≡◌, ℕ, suc, ◌+◌, ◌*◌, max, nat_le, Bool, true, false, not, ◌&&◌, IsTrue, List, [], ◌∷◌, ◌++◌, length, map}
use Rattle.std.specs.Prelude.{sum, None, Ok, Err}
use Rattle.std.specs.List.{list_all}
use Rattle.word_table.specs.Table.{entry_of}
use Rattle.forth_program.specs.Tree.{Node, Nodes, Plain, Call, If, Until, While, Again, Empty, Then}
use Rattle.depth_certifier.specs.declared.effect.Effect.{Effect}
use Rattle.depth_certifier.specs.declared.follow.Next.TheVariants.{More}
use Rattle.depth_certifier.specs.Effects.{Known, idle, effect_of}
use Rattle.depth_certifier.specs.Rounds.{bottom}
use Rattle.depth_certifier.specs.Certificate.{Limits}
use Rattle.depth_certifier.specs.Walk.{Walked, then_do, walk, start, ends, made}
use Rattle.session_machine.specs.Lines.{line_words}
use Rattle.session_machine.specs.Vocabulary.{is_core_name}
use Rattle.session_machine.specs.Definitions.{Definition, Open, InIf, InElse, InBegin, InWhile, Begun, followed_by}
use Rattle.session_machine.specs.Session.{Session, Action, StepsOn, Adds, Begins, Answers, Drops, action_of, session_run}

-- ---- effects

-- the limits of a definition in a certificate
abbrev pub limits : Limits
limits = record { need = 33; peak = 33; back = 31; top = 33 }

-- what the items of a definition demand, where every call adds a return cell, the last one too, among definitions of these effects
abbrev pub known_by : List Effect → Known
known_by effects = record { definitions = effects; shared = bottom }

abbrev pub body_walk : List Effect → Nodes → Walked
body_walk effects body =
    then_do (walk limits (known_by effects) None None More body (start limits (known_by effects) None [])) (ends limits)

abbrev pub effect_walked : Walked → Effect
effect_walked (Ok w) = made w
effect_walked (Err cause) = idle

-- the effects of bodies, the oldest first, after those of older ones
abbrev pub effects_after : List Effect → List Definition → List Effect
effects_after effects [] = effects
effects_after effects (d ∷ definitions) = effects_after (effects ++ effect_walked (body_walk effects d.body) ∷ []) definitions

abbrev pub effects_of : List Definition → List Effect
effects_of definitions = effects_after [] definitions

-- with a peak of at most 16 cells and at most 14 return cells
abbrev pub is_small : Walked → Bool
is_small (Ok w) = nat_le w.peak 16 && nat_le w.back 14
is_small (Err cause) = false

-- ---- definitions that are dropped

-- a word that is not known: it needs nothing and never comes back, as a loop without items and without an end
abbrev pub unknown_item : Node
unknown_item = Again Empty

abbrev pub enclosed : Open → Nodes → Nodes
enclosed (InIf earlier) items = followed_by earlier (If items Empty)
enclosed (InElse earlier first) items = followed_by earlier (If first items)
enclosed (InBegin earlier) items = followed_by earlier (Until items)
enclosed (InWhile earlier test) items = followed_by earlier (While test items)

abbrev pub all_enclosed : List Open → Nodes → Nodes
all_enclosed [] items = items
all_enclosed (structure ∷ outer) items = all_enclosed outer (enclosed structure items)

-- the items of a definition up to an unknown word
abbrev pub cut_off : Begun → Nodes
cut_off b = all_enclosed b.structures (followed_by b.items unknown_item)

-- ---- nesting

-- how many structures stand inside one another
abbrev mutual
  pub node_nesting : Node → ℕ
  node_nesting (If first second) = suc (max (nesting first) (nesting second))
  node_nesting (Until body) = suc (nesting body)
  node_nesting (While test body) = suc (max (nesting test) (nesting body))
  node_nesting node = 0

  pub nesting : Nodes → ℕ
  nesting Empty = 0
  nesting (Then node rest) = max (node_nesting node) (nesting rest)

-- ---- at each moment of a session

-- the cells that an item needs
abbrev pub need_of : List Effect → Node → ℕ
need_of effects (Plain word) = (entry_of word).need
need_of effects (Call definition) = (effect_of (known_by effects) definition).need
need_of effects node = 0

-- the definition that is read next has a name that is no Core word
abbrev pub name_is_free : Action → Bool
name_is_free (Adds d rest) = not (is_core_name d.name)
name_is_free (Drops name begun text) = not (is_core_name name)
name_is_free action = true

-- a word that is not known is no Core word
abbrev pub unknown_is_free : Action → Bool
unknown_is_free (Answers text) = not (is_core_name text)
unknown_is_free (Drops name begun text) = not (is_core_name text)
unknown_is_free action = true

-- at most four structures of a definition stand inside one another
abbrev pub nests_little : Action → Bool
nests_little (Adds d rest) = nat_le (nesting d.body) 4
nests_little (Drops name begun text) = nat_le (nesting (cut_off begun)) 4
nests_little action = true

-- a definition has a small effect, up to its unknown word where it has one
abbrev pub effect_is_small : List Effect → Action → Bool
effect_is_small effects (Adds d rest) = is_small (body_walk effects d.body)
effect_is_small effects (Drops name begun text) = is_small (body_walk effects (cut_off begun))
effect_is_small effects action = true

-- a word that begins finds the cells that it needs
abbrev pub finds_cells : List Effect → List ℕ → Action → Bool
finds_cells effects cells (Begins node rest) = nat_le (need_of effects node) (length cells)
finds_cells effects cells action = true

-- between words there are at most 8 user cells
abbrev pub has_few_cells : List ℕ → Action → Bool
has_few_cells cells StepsOn = true
has_few_cells cells action = nat_le (length cells) 8

-- the bytes that definitions take: 40 each, and 2 for each unit of weight
abbrev pub bytes_of_definitions : List Definition → ℕ
bytes_of_definitions definitions = sum (map (λ d. 40 + 2 * d.weight) definitions)

-- what a session must keep to at a moment
pub record Keeps (s : Session) : Type 0 where
  pub name : IsTrue (name_is_free (action_of s))
  pub unknown : IsTrue (unknown_is_free (action_of s))
  pub nested : IsTrue (nests_little (action_of s))
  pub effect : IsTrue (effect_is_small (effects_of s.definitions) (action_of s))
  pub cells_before : IsTrue (finds_cells (effects_of s.definitions) s.state.cells (action_of s))
  pub cells_after : IsTrue (has_few_cells s.state.cells (action_of s))
  pub few_definitions : IsTrue (nat_le (length s.definitions) 64)
  pub small_definitions : IsTrue (nat_le (bytes_of_definitions s.definitions) 4000)

-- a byte of a line is a blank or a graphic byte of ASCII
abbrev pub is_typed : ℕ → Bool
is_typed byte = nat_le 32 byte && nat_le byte 126

-- these lines may be typed: their bytes and words are few, and the rest holds at each moment until the session ends, so that of what stands
-- on a line behind an unknown word only the bytes and the length of the words count
pub record Admitted (lines : List (List ℕ)) : Type 0 where
  pub short_lines : IsTrue (list_all (λ line. nat_le (length line) 80) lines)
  pub typed_bytes : IsTrue (list_all (list_all is_typed) lines)
  pub short_words : IsTrue (list_all (λ line. list_all (λ word. nat_le (length word) 31) (line_words line)) lines)
  pub moments : (k : ℕ) → (session_run lines k).end ≡ None → Keeps (session_run lines k)
