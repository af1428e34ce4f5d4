-- One word step: the three string words.
use Rattle.std.proofs.Common.{◌≡◌, ℕ, zero, suc, ◌+◌, ◌*◌, ◌/◌, ◌<◌, ◌≤◌, Bool, List, [], ◌∷◌, length, Option, refl, subst, arith}
use Rattle.word_table.specs.declared.word.Word.TheVariants.{TypeOut}
use Rattle.word_table.specs.Table.{entry_of}
use Rattle.j1_simulator.specs.Effect.{following}
use Rattle.forth_program.specs.declared.item.TextKind.{TextKind}
use Rattle.forth_program.specs.declared.item.TextKind.TheVariants as text
use Rattle.forth_program.specs.State.{Entry, Work, Frame, World, State, Reply, Gives, Stops, Goes}
use Rattle.forth_program.specs.Program.{SourceProgram}
use Rattle.forth_program.specs.Step.{on_cells, text_step, called}
use Rattle.forth_program.specs.Tail.{ends_body}
use Rattle.forth_program.specs.Meaning.{meaning}
use Rattle.forth_program.specs.Price.{text_price}
use Rattle.word_laws.specs.Rings.{OpenConfiguration}
use Rattle.forth_program.specs.Cells.{AreCells, AreEntries, IsWorld}
use Rattle.word_laws.specs.Numbers.{number_cells}
use Rattle.word_laws.specs.Standing.{return_places, standing_as, StandIn, machine_at}
use Rattle.forth_program.specs.Heights.{text_peak, text_back}
use Rattle.code_layout.specs.Layout.{Routine, Definition}
use Rattle.code_layout.proofs.Machine.{Laws, Runs, runs_then}
use Rattle.code_layout.proofs.Routines.{abort_reply, abort_price}
use Rattle.code_layout.proofs.Work.{ahead, unfinished, CallStands, Stands, TextStands, Loops, Frames}
use Rattle.code_layout.proofs.Steps.{Follows, AllStand, comes, follows_after, call_follows, number_one, number_runs}
use Rattle.code_layout.proofs.LibrarySteps.{answered}

-- the cells that a word takes play no part in what it leaves
same_left : (o : Reply (List ℕ)) (w : List Work) (es : List Entry) (fs : List Frame) (c c' : List ℕ) (world : World) →
    on_cells o (record { work = w; entries = es; callers = fs; cells = c; world = world }) ≡ on_cells o (record { work = w; entries = es; callers = fs; cells = c'; world = world })
same_left (Gives cells world') w es fs c c' world = refl
same_left (Stops end world') w es fs c c' world = refl

module _ (laws : Laws) (p : SourceProgram) (code : List ℕ) (place : Routine → ℕ) (size : length code ≡ p.data_start / 2) (high return_high pc now : ℕ)
    (out : Option ℕ) (fs : List Frame) (world : World) (fits : IsWorld world) (starts : world.data_start ≡ p.data_start)
    (base data_above return_above : List (Option ℕ)) (frames : Frames code place p fs base) (due : unfinished fs ≤ now) where
  -- the state of a frame over these, and the machine at a place
  abbrev here : List Work → List Entry → List ℕ → State
  here w es c = record { work = w; entries = es; callers = fs; cells = c; world = world }

  abbrev at_place : ℕ → List Entry → List ℕ → List (Option ℕ) → List (Option ℕ) → OpenConfiguration
  at_place q es c above above' = standing_as (here [] es c) (machine_at code q base above above')

  -- two numbers
  two_run : (a n middle next : ℕ) (es : List Entry) (c : List ℕ) → a < 32768 → n < 32768 → StandIn code pc (number_cells a) middle →
      StandIn code middle (number_cells n) next → length c + 2 ≤ high → length (return_places es base) ≤ return_high →
      (above : List (Option ℕ)) × (above' : List (Option ℕ)) × Runs p.data_start high return_high 2 (at_place pc es c data_above return_above) (at_place next es (n ∷ a ∷ c) above above')
  two_run a n middle next es c small small' stands stands' room back =
      let one = number_one a small in
      let one' = number_one n small' in
      let r = number_runs laws p code place size high return_high pc now out fs world fits starts base data_above return_above frames due a middle es c (omega arith) stands (omega arith) back in
      let r' = number_runs laws p code place size high return_high middle now out fs world fits starts base r.0 r.1 frames due n next es (a ∷ c) (omega arith) stands' (omega arith) back in
      let both : length (number_cells a) + length (number_cells n) ≡ 2 = omega (arith, one, one') in (
        r'.0,
        r'.1,
        subst (λ k. Runs p.data_start high return_high k (at_place pc es c data_above return_above) (at_place next es (n ∷ a ∷ c) r'.0 r'.1)) both
            (runs_then laws p.data_start high return_high (length (number_cells a)) (length (number_cells n)) (at_place pc es c data_above return_above)
            (at_place middle es (a ∷ c) r.0 r.1) (at_place next es (n ∷ a ∷ c) r'.0 r'.1) r.2 r'.2),
      )

  -- a child: its address, and then the call
  pub child_follows : AllStand laws p code place size → (tail : Bool) (d address next : ℕ) (w : List Work) (es : List Entry) (c : List ℕ) → ends_body w ≡ tail →
      address < 32768 → StandIn code pc (number_cells address) next → d < length p.bodies →
      CallStands code place p tail next (place (Definition d)) (Stands code place p out (following next) w) → Loops code place p out w → 1 + ahead w + unfinished fs ≤ now → ahead w ≤ p.source_tokens → AreEntries es → AreCells c →
      length c + 1 ≤ high → length (return_places es base) ≤ return_high → Follows laws p code place size (at_place pc es c data_above return_above) 2 now high return_high (Goes (called p d (here w es (address ∷ c))))
  child_follows all tail d address next w es c e small stands lt holds l n few fe fc room back =
      let cell : address < 65536 = omega arith in
      let one = number_one address small in
      let r = number_runs laws p code place size high return_high pc now out fs world fits starts base data_above return_above frames due address next es c cell stands room back in
      follows_after laws p code place size (at_place pc es c data_above return_above) (at_place next es (address ∷ c) r.0 r.1) (length (number_cells address)) 1
      2 now high return_high (Goes (called p d (here w es (address ∷ c)))) (omega (arith, one)) r.2
      (call_follows laws p code place size high return_high next now out fs world fits starts base r.0 r.1 frames due all tail d w es (address ∷ c) e lt holds l n few fe (cell, fc) (omega arith) back)

  module _ (tail : Bool) (a n next : ℕ) (small : a < 32768) (small' : n < 32768) (w : List Work) (es : List Entry) (e : ends_body w ≡ tail) (fe : AreEntries es) (l : Loops code place p out w) (few : ahead w ≤ p.source_tokens) where
    aborted : (flag : ℕ) (c : List ℕ) (above above' : List (Option ℕ)) → AreCells (flag ∷ c) →
        TextStands code place p tail next text.Abort (λ q. Stands code place p out q w) → length (n ∷ a ∷ flag ∷ c) + 9 ≤ high →
        length (return_places es base) + 8 ≤ return_high →
        Runs p.data_start high return_high 2 (at_place pc es (flag ∷ c) data_above return_above) (at_place next es (n ∷ a ∷ flag ∷ c) above above') →
        Follows laws p code place size (at_place pc es (flag ∷ c) data_above return_above) (text_price text.Abort n (flag ∷ c)) now high return_high (text_step text.Abort a n (flag ∷ c) (here w es (flag ∷ c)))
    aborted zero c above above' fc h room back runs =
        follows_after laws p code place size (at_place pc es (0 ∷ c) data_above return_above) (at_place next es (n ∷ a ∷ 0 ∷ c) above above') 2 38 40 now high
        return_high (text_step text.Abort a n (0 ∷ c) (here w es (0 ∷ c))) (omega arith) runs
        (answered laws p code place size high return_high next now out fs world fits starts base above above' frames due tail h.0 (abort_price n 0) 38 9 8 w es
        (n ∷ a ∷ 0 ∷ c) (abort_reply n a 0 c world) e h.1 l few fe (omega arith) (omega arith) room back
        (λ under up own. h.2.does under n a 0 c above up world own (omega arith, (omega arith, fc)) fits starts))
    aborted (suc m) c above above' fc h room back runs =
        follows_after laws p code place size (at_place pc es (suc m ∷ c) data_above return_above) (at_place next es (n ∷ a ∷ suc m ∷ c) above above') 2
        (38 + 80 * n) (40 + 80 * n) now high return_high (text_step text.Abort a n (suc m ∷ c) (here w es (suc m ∷ c))) (omega arith) runs
        (subst (Follows laws p code place size (at_place next es (n ∷ a ∷ suc m ∷ c) above above') (38 + 80 * n) now high return_high) (same_left (abort_reply n a (suc m) c world) w es fs (n ∷ a ∷ suc m ∷ c) (suc m ∷ c) world)
        (answered laws p code place size high return_high next now out fs world fits starts base above above' frames due tail h.0 (abort_price n (suc m))
        (38 + 80 * n) 9 8 w es (n ∷ a ∷ suc m ∷ c) (abort_reply n a (suc m) c world) e h.1 l few fe (omega arith) (omega arith) room back
        (λ under up own. h.2.does under n a (suc m) c above up world own (omega arith, (omega arith, fc)) fits starts)))

    printed : (c : List ℕ) (above above' : List (Option ℕ)) → AreCells c → TextStands code place p tail next text.Print (λ q. Stands code place p out q w) → length (n ∷ a ∷ c) + 8 ≤ high → length (return_places es base) + 6 ≤ return_high →
        Runs p.data_start high return_high 2 (at_place pc es c data_above return_above) (at_place next es (n ∷ a ∷ c) above above') →
        Follows laws p code place size (at_place pc es c data_above return_above) (42 + 80 * n) now high return_high (text_step text.Print a n c (here w es c))
    printed c above above' fc h room back runs =
        follows_after laws p code place size (at_place pc es c data_above return_above) (at_place next es (n ∷ a ∷ c) above above') 2 (40 + 80 * n)
        (42 + 80 * n) now high return_high (text_step text.Print a n c (here w es c)) (omega arith) runs
        (subst (Follows laws p code place size (at_place next es (n ∷ a ∷ c) above above') (40 + 80 * n) now high return_high) (same_left (meaning TypeOut (n ∷ a ∷ c) world) w es fs (n ∷ a ∷ c) c world)
        (answered laws p code place size high return_high next now out fs world fits starts base above above' frames due tail h.0 (29 + 80 * n) (40 + 80 * n)
        (entry_of TypeOut).peak (entry_of TypeOut).back w es (n ∷ a ∷ c) (meaning TypeOut (n ∷ a ∷ c) world) e h.1 l few fe (omega arith) (omega arith) room
        back
        (λ under up own. h.2.does under (n ∷ a ∷ c) above up world own (omega arith, (omega arith, fc)) fits starts)))

  -- a string word is followed
  pub text_follows : (tail : Bool) (kind : TextKind) (a n middle next : ℕ) (w : List Work) (es : List Entry) (c : List ℕ) → ends_body w ≡ tail → a < 32768 →
      n < 32768 → StandIn code pc (number_cells a) middle → StandIn code middle (number_cells n) next →
      TextStands code place p tail next kind (λ q. Stands code place p out q w) →
      Loops code place p out w → 1 + ahead w + unfinished fs ≤ now → ahead w ≤ p.source_tokens → AreEntries es → AreCells c → length c + text_peak kind ≤ high → length (return_places es base) + text_back kind ≤ return_high →
      Follows laws p code place size (at_place pc es c data_above return_above) (text_price kind n c) now high return_high (text_step kind a n c (here w es c))
  text_follows tail text.Address a n middle next w es c e small small' stands stands' h l due' few fe fc room back =
      let r = two_run a n middle next es c small small' stands stands' room (omega arith) in
      comes laws p code place size (at_place pc es c data_above return_above) 2 next 2 now high return_high out (here w es (n ∷ a ∷ c)) base r.0 r.1 (omega arith) (omega arith) due r.2
      (record { stands = h; loops = l; frames = frames; cells = (omega arith, (omega arith, fc)); entries = fe; world = fits; starts = starts })
  text_follows tail text.Print a n middle next w es c e small small' stands stands' h l due' few fe fc room back =
      let r = two_run a n middle next es c small small' stands stands' (omega arith) (omega arith) in
      printed tail a n next small small' w es e fe l few c r.0 r.1 fc h (omega arith) (omega arith) r.2
  text_follows tail text.Abort a n middle next w es [] e small small' stands stands' h l due' few fe fc room back = tt
  text_follows tail text.Abort a n middle next w es (flag ∷ c) e small small' stands stands' h l due' few fe fc room back =
      let r = two_run a n middle next es (flag ∷ c) small small' stands stands' (omega arith) (omega arith) in
      aborted tail a n next small small' w es e fe l few flag c r.0 r.1 fc h (omega arith) back r.2
