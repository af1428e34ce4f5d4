-- What waits, or could not be written, at the end of a turn.
use Rattle.std.proofs.Common.{◌≡◌, ◌⊎◌, ℕ, ◌+◌, ◌≤◌, arith, List, [], ◌++◌, length, Option, Some, None, sym, ap, ◌∙◌, inl, ⊎_elim}
use Rattle.std.proofs.lemmas.List.{length-append}
use Rattle.std.specs.Prelude.{Bool, Result, Ok, Err, OnOk, OnErr}
use Rattle.j1_simulator.specs.declared.ends.End.{End}
use Rattle.j1_simulator.specs.declared.ends.Event.{Event}
use Rattle.j1_simulator.specs.declared.ends.Event.TheVariants.{WantsByte}
use Rattle.j1_simulator.specs.declared.ends.DriveError.{DriveError}
use Rattle.j1_simulator.specs.RoundMachine.{RingCells, round_storage}
use Rattle.j1_simulator.specs.MachineState.{MachineState, Steps, GivenIsDue}
use Rattle.j1_simulator.specs.Run.{Configuration, IsPrefixOf, advance}
use Rattle.j1_simulator.specs.Drive.{IsAt, told}
use Rattle.j1_simulator.specs.Turn.{LeftAfter, MayWait, Follows, Fills, WritesFew}
use Rattle.j1_simulator.proofs.RunGrowth.{advanced_adds}
use Rattle.j1_simulator.proofs.WaitingBytes.{step_follows, step_fills}

all_written : (waiting buffer : List ℕ) (event : Event) → buffer ≡ [] → told event ≡ [] → (waiting ≡ []) ⊎ (waiting ≡ buffer ++ told event) → waiting ≡ []
all_written waiting buffer event b s n = ⊎_elim (λ e. e) (λ e. e ∙ ap (λ x. x ++ told event) b ∙ s) n

-- a byte was taken after all had been written, and nothing was printed
pub key_follows : (r : Result (Option End) DriveError) (old new : MachineState) (from to : Configuration ℕ RingCells) (waited buffer waiting : List ℕ)
    (event : Event) → buffer ≡ [] → told event ≡ [] → new.given ≡ None → OnOk r ((waiting ≡ []) ⊎ (waiting ≡ buffer ++ told event)) →
    OnOk r (MayWait old waited → Follows new from to waited waiting)
key_follows (Ok end) old new from to waited buffer waiting event b s g n =
    let e = all_written waiting buffer event b s n in λ m. (inl e, record { by_hand = inl g; ended = λ x. e })
key_follows (Err error) old new from to waited buffer waiting event b s g n = tt

-- so it did not fail to be written
pub key_fills : (r : Result (Option End) DriveError) (new : MachineState) (from to : Configuration ℕ RingCells) (waited buffer : List ℕ) (event : Event) →
    told event ≡ [] → OnErr r ((length (buffer ++ told event) ≡ 512) × (told event ≡ [] → ⊥)) → OnErr r (Fills new from to waited)
key_fills (Ok end) new from to waited buffer event s full = tt
key_fills (Err error) new from to waited buffer event s full = absurd (full.1 s)

pub on_ok_follows : (r : Result (Option End) DriveError) (configuration : Configuration ℕ RingCells) (fits : Bool) (machine new : MachineState) (data_start : ℕ)
    (event : Event) (left left' before now : Option (List ℕ)) (buffer waiting : List ℕ) → IsAt configuration fits machine data_start left before now buffer →
    GivenIsDue machine → Steps machine.ended event machine new → (event ≡ WantsByte → ⊥) → LeftAfter machine.given left left' →
    left' ≡ Some (advance data_start configuration).input → OnOk r ((waiting ≡ []) ⊎ (waiting ≡ buffer ++ told event)) →
    OnOk r (MayWait machine buffer → Follows new configuration (advance data_start configuration) buffer waiting)
on_ok_follows (Ok end) configuration fits machine new data_start event left left' before now buffer waiting a due h apart l after n =
    step_follows configuration fits machine new data_start event left left' before now buffer waiting a due h apart l after n
on_ok_follows (Err error) configuration fits machine new data_start event left left' before now buffer waiting a due h apart l after n = tt

pub on_err_fills : (r : Result (Option End) DriveError) (configuration : Configuration ℕ RingCells) (fits : Bool) (machine new : MachineState) (data_start : ℕ)
    (event : Event) (left left' before now : Option (List ℕ)) (buffer : List ℕ) → IsAt configuration fits machine data_start left before now buffer →
    GivenIsDue machine → Steps machine.ended event machine new → (event ≡ WantsByte → ⊥) → LeftAfter machine.given left left' →
    left' ≡ Some (advance data_start configuration).input → OnErr r ((length (buffer ++ told event) ≡ 512) × (told event ≡ [] → ⊥)) →
    OnErr r (Fills new configuration (advance data_start configuration) buffer)
on_err_fills (Ok end) configuration fits machine new data_start event left left' before now buffer a due h apart l after full = tt
on_err_fills (Err error) configuration fits machine new data_start event left left' before now buffer a due h apart l after full =
    step_fills configuration fits machine new data_start event left left' before now buffer a due h apart l after full.0 full.1

-- ---- the calls of out, over an instruction

printed_more : (from to : Configuration ℕ RingCells) (event : Event) → to.printed ≡ from.printed ++ told event → length to.printed ≡ length from.printed + length (told event)
printed_more from to event e = ap length e ∙ length-append from.printed (told event)

-- what an instruction printed was noted
pub on_ok_few : (r : Result (Option End) DriveError) (from to : Configuration ℕ RingCells) (waited waiting : List ℕ) (event : Event) (writes writes_now : ℕ) →
    to.printed ≡ from.printed ++ told event → OnOk r (writes_now + length waiting ≤ writes + length (waited ++ told event)) →
    OnOk r (WritesFew from to waited waiting writes writes_now)
on_ok_few (Ok end) from to waited waiting event writes writes_now e few =
    let more = printed_more from to event e in
    let both = length-append waited (told event) in
    omega (arith, few, more, both)
on_ok_few (Err error) from to waited waiting event writes writes_now e few = tt

pub on_err_few : (r : Result (Option End) DriveError) (from to : Configuration ℕ RingCells) (waited : List ℕ) (event : Event) (writes writes_now : ℕ) →
    to.printed ≡ from.printed ++ told event → writes_now ≤ writes + length (waited ++ told event) → OnErr r (WritesFew from to waited [] writes writes_now)
on_err_few (Ok end) from to waited event writes writes_now e few = tt
on_err_few (Err error) from to waited event writes writes_now e few =
    let more = printed_more from to event e in
    let both = length-append waited (told event) in
    omega (arith, few, more, both)

grown_by : (data_start : ℕ) (from : Configuration ℕ RingCells) → length from.printed ≤ length (advance data_start from).printed
grown_by data_start from =
    let p : IsPrefixOf from.printed (advance data_start from).printed = advanced_adds round_storage data_start from.stop from in
    let e : length (advance data_start from).printed ≡ length from.printed + length p.0 = ap length (sym p.1) ∙ length-append from.printed p.0 in
    omega (arith, e)

nothing_more : (buffer : List ℕ) (event : Event) → buffer ≡ [] → told event ≡ [] → length (buffer ++ told event) ≡ 0
nothing_more buffer event b s =
    let x : length buffer ≡ 0 = ap length b in
    let y : length (told event) ≡ 0 = ap length s in
    let both = length-append buffer (told event) in
    omega (arith, x, y, both)

-- all had been written before the byte was taken
pub key_ok_few : (r : Result (Option End) DriveError) (data_start : ℕ) (from : Configuration ℕ RingCells) (waited buffer waiting : List ℕ) (event : Event)
    (writes flushed writes_now : ℕ) → buffer ≡ [] → told event ≡ [] → flushed ≤ writes + length waited →
    OnOk r (writes_now + length waiting ≤ flushed + length (buffer ++ told event)) →
    OnOk r (WritesFew from (advance data_start from) waited waiting writes writes_now)
key_ok_few (Ok end) data_start from waited buffer waiting event writes flushed writes_now b s before few =
    let none = nothing_more buffer event b s in
    let grown = grown_by data_start from in
    omega (arith, few, none, grown, before)
key_ok_few (Err error) data_start from waited buffer waiting event writes flushed writes_now b s before few = tt

pub key_err_few : (r : Result (Option End) DriveError) (data_start : ℕ) (from : Configuration ℕ RingCells) (waited buffer : List ℕ) (event : Event)
    (writes flushed writes_now : ℕ) → buffer ≡ [] → told event ≡ [] → flushed ≤ writes + length waited →
    writes_now ≤ flushed + length (buffer ++ told event) → OnErr r (WritesFew from (advance data_start from) waited [] writes writes_now)
key_err_few (Ok end) data_start from waited buffer event writes flushed writes_now b s before few = tt
key_err_few (Err error) data_start from waited buffer event writes flushed writes_now b s before few =
    let none = nothing_more buffer event b s in
    let grown = grown_by data_start from in
    omega (arith, few, none, grown, before)
