-- Each link has one core that sends by it and one that takes from it.
use Rattle.std.proofs.Common.{◌≡◌, ℕ, Bool, true, false, List, Option, Some, None, refl, sym, ap, ◌∙◌}
use Rattle.std.specs.Prelude.{◌&&◌}
use Rattle.std.proofs.lemmas.Bool.{eqb-true}
use Rattle.j1_simulator.specs.declared.ends.End.{End}
use Rattle.j1_simulator.specs.Step.{By, Missing, Transition, Advances, Takes, Terminates, step}
use Rattle.j1_simulator.specs.RoundMachine.{RingCells, round_storage}
use Rattle.j1_simulator.specs.MachineState.{MachineState}
use Rattle.j1_simulator.specs.PortAccess.{next_accesses}
use Rattle.core_array.specs.declared.links.Link.{Link}
use Rattle.core_array.specs.Network.{Action, Alone, Sends, Receives, OneWriterOneReader}
use Rattle.core_array.specs.Cores.{link_at, link_of, is_port, may_send, may_receive, own_transition, own_step, sends_where, receives_where, by_accesses, core_action}

-- the core of an action at a link, as the links say
abbrev Owns : List Link → ℕ → Action MachineState → Type 0
Owns links k (Sends i cell next) = (link_at links i).from ≡ k
Owns links k (Receives i next) = (link_at links i).to ≡ k
Owns links k (Alone next event) = Unit {0}

and_second : (a b : Bool) → (a && b) ≡ true → b ≡ true
and_second true b e = e
and_second false b e = cc

own_owned : (links : List Link) (k : ℕ) (given : Option (Option ℕ)) (machine : MachineState) (o : Transition ℕ RingCells) → Owns links k (own_transition given machine o)
own_owned links k given machine (Advances core output) = tt
own_owned links k given machine (Terminates (By end)) = tt
own_owned links k given machine (Terminates Missing) = tt
own_owned links k None machine (Takes next) = tt
own_owned links k (Some None) machine (Takes next) = tt
own_owned links k (Some (Some byte)) machine (Takes next) = tt

alone_owned : (links : List Link) (k : ℕ) (ended : Option End) (machine : MachineState) → Owns links k (own_step ended machine)
alone_owned links k (Some end) machine = tt
alone_owned links k None machine = own_owned links k machine.given machine (step round_storage machine.data_start machine.core)

sends_owned : (links : List Link) (k : ℕ) (may : Bool) (i cell : ℕ) (machine : MachineState) → (may ≡ true → (link_at links i).from ≡ k) → Owns links k (sends_where may i cell machine)
sends_owned links k true i cell machine h = h refl
sends_owned links k false i cell machine h = alone_owned links k machine.ended machine

receives_owned : (links : List Link) (k : ℕ) (may : Bool) (i : ℕ) (machine : MachineState) → (may ≡ true → (link_at links i).to ≡ k) → Owns links k (receives_where may i machine)
receives_owned links k true i machine h = h refl
receives_owned links k false i machine h = alone_owned links k machine.ended machine

accesses_owned : (links : List Link) (k : ℕ) (machine : MachineState) (fetch : Option ℕ) (store : Option (ℕ × ℕ)) → Owns links k (by_accesses links k machine fetch store)
accesses_owned links k machine None (Some stored) =
    sends_owned links k (may_send links k stored.0) (link_of stored.0) stored.1 machine (λ e. eqb-true _ _ (and_second (is_port links stored.0) _ e))
accesses_owned links k machine (Some address) None =
    receives_owned links k (may_receive links k address) (link_of address) machine (λ e. eqb-true _ _ (and_second (is_port links address) _ e))
accesses_owned links k machine None None = alone_owned links k machine.ended machine
accesses_owned links k machine (Some address) (Some stored) = alone_owned links k machine.ended machine

owned_by : (links : List Link) (k : ℕ) (machine : MachineState) → Owns links k (core_action links k machine)
owned_by links k machine = accesses_owned links k machine (next_accesses machine).fetch (next_accesses machine).store

sender : (links : List Link) (k : ℕ) (a : Action MachineState) (i c : ℕ) (n : MachineState) → Owns links k a → a ≡ Sends i c n → (link_at links i).from ≡ k
sender links k (Sends h d m) i c n owns e = let same : h ≡ i = cc in sym (ap (λ l. (link_at links l).from) same) ∙ owns
sender links k (Receives h m) i c n owns e = cc
sender links k (Alone m d) i c n owns e = cc

receiver : (links : List Link) (k : ℕ) (a : Action MachineState) (i : ℕ) (n : ℕ → MachineState) → Owns links k a → a ≡ Receives i n → (link_at links i).to ≡ k
receiver links k (Receives h m) i n owns e = let same : h ≡ i = cc in sym (ap (λ l. (link_at links l).to) same) ∙ owns
receiver links k (Sends h d m) i n owns e = cc
receiver links k (Alone m d) i n owns e = cc

pub links_owned : (links : List Link) → OneWriterOneReader (core_action links)
links_owned links = record {
  writer = λ j k i c d s t n m e f. sym (sender links j (core_action links j s) i c n (owned_by links j s) e) ∙ sender links k (core_action links k t) i d m (owned_by links k t) f;
  reader = λ j k i s t n m e f. sym (receiver links j (core_action links j s) i n (owned_by links j s) e) ∙ receiver links k (core_action links k t) i m (owned_by links k t) f;
}
