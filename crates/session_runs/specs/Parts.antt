-- Parts of runs that go on behind GO, and one call more.
use Rattle.std.specs.Prelude.{◌≡◌, ℕ, suc, ◌+◌, List, [], ◌∷◌, ◌++◌}
use Rattle.j1_simulator.specs.RoundMachine.{round_storage}
use Rattle.j1_simulator.specs.Run.{run, IsPrefixOf}
use Rattle.forth_program.specs.Tree.{Nodes}
use Rattle.forth_program.specs.State.{World, State, End, Left, Goes, Ends}
use Rattle.forth_program.specs.Program.{SourceProgram}
use Rattle.forth_program.specs.Step.{step}
use Rattle.forth_program.specs.Run.{steps, world_of}
use Rattle.forth_program.specs.Price.{step_price, spent}
use Rattle.forth_program.specs.Returns.{Return, state_back, steps_back, spent_back}
use Rattle.code_layout.specs.Agreement.{code_of}
use Rattle.code_layout.specs.Returning.{last_of_go}
use Rattle.code_layout.specs.ReturningChip.{RoundConfiguration, RoundReturn, round_back}
use Rattle.session_runs.specs.Splicing.{CalledCode, CallsComeBack, IsLedOutTo, returns_of}

-- word steps that do not lead out are the first part of a run that goes on, at the same price
abbrev pub QuietPartsGoFirst : Type 0
QuietPartsGoFirst =
    (p : SourceProgram) (backs : List Return) (total a b : ℕ) (s t : State) → steps p a s ≡ Goes t →
    (steps_back p backs (a + b) s ≡ steps_back p backs b t) ×
    (spent_back p backs total (a + b) s ≡ spent_back p backs (spent p total a s) b t)

-- and where GO leads out the run goes on with what comes back first
abbrev pub ReturnsGoOn : Type 0
ReturnsGoOn =
    (p : SourceProgram) (back : Return) (backs : List Return) (total b address : ℕ) (s : State) (world : World) →
    step p s ≡ Ends (Left address) world →
    (steps_back p (back ∷ backs) (suc b) s ≡ steps_back p backs b (state_back back s)) ×
    (spent_back p (back ∷ backs) total (suc b) s ≡ spent_back p backs (total + step_price s) b (state_back back s))

-- a run that goes on only prints more, and an end stays: so it is where a GO leads out and nothing comes back
abbrev pub TextsOnlyPrintMore : Type 0
TextsOnlyPrintMore =
    (p : SourceProgram) (backs : List Return) (a b : ℕ) (s : State) →
    IsPrefixOf (world_of (steps_back p backs a s)).printed (world_of (steps_back p backs (a + b) s)).printed

abbrev pub TextsStayEnded : Type 0
TextsStayEnded =
    (p : SourceProgram) (backs : List Return) (a b : ℕ) (s : State) (end : End) (world : World) → steps_back p backs a s ≡ Ends end world →
    steps_back p backs (a + b) s ≡ Ends end world

-- on the chip
abbrev pub ChipComesBack : List Nodes → SourceProgram → List (CalledCode RoundReturn) → ℕ → RoundConfiguration → Type 0
ChipComesBack library p calls n w = CallsComeBack round_storage (round_back (code_of library p))
    (last_of_go library p) p.data_start calls n w

abbrev pub ChipIsLedOut : List Nodes → SourceProgram → List RoundReturn → ℕ → RoundConfiguration → RoundConfiguration → Type 0
ChipIsLedOut library p returns n w u = IsLedOutTo round_storage (round_back (code_of library p))
    (last_of_go library p) p.data_start returns n w u

-- where calls come back, and the code to which GO leads out behind them comes back too, there is one call more that comes back
abbrev pub OneMoreComesBack : Type 0
OneMoreComesBack =
    (library : List Nodes) (p : SourceProgram) (calls : List (CalledCode RoundReturn)) (call : CalledCode RoundReturn)
    (w : RoundConfiguration) →
    ((n : ℕ) → ChipComesBack library p calls n w) →
    ((n : ℕ) (u : RoundConfiguration) → ChipIsLedOut library p (returns_of calls) n w u →
    run round_storage p.data_start call.count u ≡ round_back (code_of library p) call.returned u) →
    (n : ℕ) → ChipComesBack library p (calls ++ call ∷ []) n w

-- behind the same returns GO leads out to one place
abbrev pub LedOutToOnePlace : Type 0
LedOutToOnePlace =
    (library : List Nodes) (p : SourceProgram) (returns : List RoundReturn) (m n : ℕ) (w u v : RoundConfiguration) →
    ChipIsLedOut library p returns m w u → ChipIsLedOut library p returns n w v → u ≡ v
