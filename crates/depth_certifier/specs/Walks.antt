-- What the walk of the code stands for.
use Rattle.std.specs.Prelude.{◌≡◌, ℕ, Bool, true, false, Option, Some, None, Result, Ok, Err, ℤ, List, replicate, slice_index_or}
use Rattle.word_table.specs.declared.word.Word.{Word}
use Rattle.word_table.specs.declared.word.Word.TheVariants.{EndCase}
use Rattle.forth_program.specs.Tree.{Node, Nodes, Arms}
use Rattle.depth_certifier.specs.declared.effect.Effect.{Effect}
use Rattle.depth_certifier.specs.declared.effect.CertCause.{CertCause}
use Rattle.depth_certifier.specs.declared.shape.Entries.{Entries}
use Rattle.depth_certifier.specs.declared.facts.Facts.{Facts}
use Rattle.depth_certifier.specs.declared.walker.Walker.{Walker}
use Rattle.depth_certifier.specs.Effects.{Known, Next, More, idle, table_effect, keep}
use Rattle.depth_certifier.specs.Certificate.{no_interval, SharedInterval, Limits, dropped}
use Rattle.depth_certifier.specs.Walk.{Walk, Walked, then_do, takes, returns_to, joins, item_walk, walk, arms_walk}
use Rattle.depth_certifier.specs.Place.{Place}
use Rattle.depth_certifier.specs.Views.{exit_of, place_of_reach, limits_of, shapes_of, HeadKeeps}

-- a walk with given heads notes none of its own
abbrev pub walk_of : Walker → Walk
walk_of w = record { place = place_of_reach w.place; leaves = place_of_reach w.leaves; need = w.need; peak = w.peak; back = w.back; exit = exit_of w.exit; heads = replicate w.count no_interval }

-- a call does a step of the walk
abbrev pub StepOf : Result (Unit {0}) CertCause → Walked → Walk → Type 0
StepOf (Ok done) step w = step ≡ Ok w
StepOf (Err cause) step w = step ≡ Err cause

abbrev pub EffectsKeep : List Effect → Type 0
EffectsKeep effects = (d : ℕ) → SharedInterval (slice_index_or effects d idle).exit

abbrev pub HeadsKeep : List (ℤ × ℤ) → Type 0
HeadsKeep heads = (k : ℕ) → HeadKeeps (slice_index_or heads k no_interval)

abbrev pub known_by : Facts → List Effect → Known
known_by facts effects = record { definitions = effects; shared = facts.shared }

-- heads are found, or given
abbrev pub given_by : Bool → List (ℤ × ℤ) → Option (List (ℤ × ℤ))
given_by true heads = None
given_by false heads = Some heads

abbrev pub item_step : Facts → List Effect → List (ℤ × ℤ) → Option Entries → Next → Node → Walk → Walked
item_step facts effects heads top next node w = item_walk (limits_of facts.bounds) (known_by facts effects) (given_by facts.finding heads) (shapes_of top) next node w

abbrev pub items_step : Facts → List Effect → List (ℤ × ℤ) → Option Entries → Next → Nodes → Walk → Walked
items_step facts effects heads top next nodes w = walk (limits_of facts.bounds) (known_by facts effects) (given_by facts.finding heads) (shapes_of top) next nodes w

-- the last items of a case, and ENDCASE
abbrev pub case_end_walk : Facts → List Effect → List (ℤ × ℤ) → Option Entries → Nodes → Walk → Walked
case_end_walk facts effects heads top rest w = then_do (items_step facts effects heads top More rest w) (takes (limits_of facts.bounds) (table_effect EndCase) keep)

-- the arms of a case, and its end
abbrev pub arms_step : Facts → List Effect → List (ℤ × ℤ) → Option Entries → Next → Arms → Nodes → Walk → Walked
arms_step facts effects heads top next arms rest w = arms_walk (limits_of facts.bounds) (known_by facts effects) (given_by facts.finding heads) (shapes_of top) next arms (case_end_walk facts effects heads top rest) w

-- the LEAVEs of a loop join its end, and it is taken off, in a loop with these LEAVEs
abbrev pub drops_loop : Place → Walk → Walked
drops_loop outer o = then_do (joins o.leaves o) (λ j. Ok (record j { place = dropped j.place; leaves = outer }))

-- the end of a loop with this head
abbrev pub closes : Limits → Word → Place → Place → Walk → Walked
closes limits turn h outer m = then_do (takes limits (table_effect turn) keep m) (λ n. then_do (returns_to h n) (drops_loop outer))

-- the same for a loop that ?DO may leave out: the place where it does so joins the end
abbrev pub query_drops : Place → Place → Walk → Walked
query_drops began outer o = then_do (joins began o) (drops_loop outer)

abbrev pub query_closes : Limits → Word → Place → Place → Place → Walk → Walked
query_closes limits turn h began outer m = then_do (takes limits (table_effect turn) keep m) (λ n. then_do (returns_to h n) (query_drops began outer))
