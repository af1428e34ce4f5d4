-- Fields one after the other, and the line that they make.
use Rattle.std.proofs.Common.{◌≡◌, ℕ, List, [], ◌∷◌, ◌++◌, ap, sym, ◌∙◌, append_assoc}
use Rattle.std.specs.Prelude.{Option, None, decimal}
use Rattle.std.specs.List.{flat_map}
use Rattle.std.proofs.lemmas.Grind.{flat_map-append}
use Rattle.std.proofs.lemmas.List.{append-nil}
use Rattle.decompiler.specs.Listing.{hex4, place, spaced, text_fields}
use Rattle.j1_simulator.specs.declared.ends.End.{End}
use Rattle.j1_simulator.specs.declared.accesses.Accesses.{Accesses}
use Rattle.j1_simulator.specs.declared.registers.Registers.{Registers}
use Rattle.j1_simulator.specs.Step.{effect_at}
use Rattle.j1_simulator.specs.MachineState.{MachineState}
use Rattle.j1_simulator.specs.PortAccess.{fetch_address, store_made, next_accesses}
use Rattle.j1_simulator.specs.RegisterView.{registers_of, data_cell}
use Rattle.instruction_trace.specs.TraceText.{register_fields, access_fields, instruction_line}
use Rattle.instruction_trace.specs.Trace.{accesses_of, line_at}

-- two parts appended one after the other
pub two_parts : (old first new : List ℕ) (a b : List (List ℕ)) → first ≡ old ++ flat_map spaced a → new ≡ first ++ flat_map spaced b → new ≡ old ++ flat_map spaced (a ++ b)
two_parts old first new a b e f =
    f ∙ (ap (λ t. t ++ flat_map spaced b) e ∙ (append_assoc old (flat_map spaced a) (flat_map spaced b) ∙ ap (λ t. old ++ t) (sym (flat_map-append spaced a b))))

-- five fields
pub five_fields : (old first second third fourth fifth a b c d e : List ℕ) → first ≡ old ++ flat_map spaced (a ∷ []) → second ≡ first ++ flat_map spaced (b ∷ []) →
    third ≡ second ++ flat_map spaced (c ∷ []) → fourth ≡ third ++ flat_map spaced (d ∷ []) → fifth ≡ fourth ++ flat_map spaced (e ∷ []) →
    fifth ≡ old ++ flat_map spaced (a ∷ b ∷ c ∷ d ∷ e ∷ [])
five_fields old first second third fourth fifth a b c d e h1 h2 h3 h4 h5 =
    let k2 = two_parts old first second (a ∷ []) (b ∷ []) h1 h2 in
    let k3 = two_parts old second third (a ∷ b ∷ []) (c ∷ []) k2 h3 in
    let k4 = two_parts old third fourth (a ∷ b ∷ c ∷ []) (d ∷ []) k3 h4 in
    two_parts old fourth fifth (a ∷ b ∷ c ∷ d ∷ []) (e ∷ []) k4 h5

-- a number, and two fields
pub head_is : (old first second third fourth digits number place cell : List ℕ) → first ≡ old ++ digits → digits ≡ number → second ≡ first ++ 32 ∷ [] →
    third ≡ second ++ place → fourth ≡ third ++ flat_map spaced (cell ∷ []) → fourth ≡ old ++ (number ++ flat_map spaced (place ∷ cell ∷ []))
head_is old first second third fourth digits number place cell h1 same h2 h3 h4 =
    let field : third ≡ first ++ flat_map spaced (place ∷ []) =
    h3 ∙ ap (λ t. t ++ place) h2 ∙ append_assoc first (32 ∷ []) place ∙ ap (λ t. first ++ 32 ∷ t) (sym (append-nil place)) in
    two_parts first third fourth (place ∷ []) (cell ∷ []) field h4
    ∙ ap (λ t. t ++ flat_map spaced (place ∷ cell ∷ [])) (h1 ∙ ap (λ d. old ++ d) same)
    ∙ append_assoc old number (flat_map spaced (place ∷ cell ∷ []))

-- the accesses of a machine that has not ended
accesses_are : (machine : MachineState) → machine.ended ≡ None → next_accesses machine ≡ accesses_of machine.core
accesses_are machine running =
    ap (λ (end : Option End). record { fetch = fetch_address end (effect_at machine.core) machine.core; store = store_made end (effect_at machine.core) machine.core }) running

-- the parts of a line
pub line_is : (machine : MachineState) (number : ℕ) (r : Registers) (accesses : Accesses) (cell : Option ℕ) (start head registers both text line : List ℕ) →
    machine.ended ≡ None → r ≡ registers_of machine.core → accesses ≡ next_accesses machine → cell ≡ data_cell machine.data_start machine.core → start ≡ [] →
    head ≡ start ++ (decimal number ++ flat_map spaced (place r.place ∷ hex4 r.cell ∷ [])) →
    registers ≡ head ++ flat_map spaced (register_fields r) → both ≡ registers ++ flat_map spaced (access_fields accesses cell) →
    text ≡ both ++ flat_map spaced (text_fields r.cell) → line ≡ text ++ 10 ∷ [] → line ≡ line_at number machine.data_start machine.core
unfolding line_at
line_is machine number r accesses cell start head registers both text line running is told found none h1 h2 h3 h4 h5 =
    let first : List ℕ = decimal number in
    let a : List (List ℕ) = place r.place ∷ hex4 r.cell ∷ [] in
    let b : List (List ℕ) = register_fields r in
    let c : List (List ℕ) = access_fields accesses cell in
    let d : List (List ℕ) = text_fields r.cell in
    let k1 : head ≡ first ++ flat_map spaced a = h1 ∙ ap (λ s. s ++ (first ++ flat_map spaced a)) none in
    let k2 : registers ≡ first ++ flat_map spaced (a ++ b) = two_parts first head registers a b k1 h2 in
    let k3 : both ≡ first ++ flat_map spaced ((a ++ b) ++ c) = two_parts first registers both (a ++ b) c k2 h3 in
    let k4 : text ≡ first ++ flat_map spaced (((a ++ b) ++ c) ++ d) = two_parts first both text ((a ++ b) ++ c) d k3 h4 in
    let order : ((a ++ b) ++ c) ++ d ≡ a ++ (b ++ (c ++ d)) = append_assoc (a ++ b) c d ∙ append_assoc a b (c ++ d) in
    let whole : line ≡ instruction_line number r accesses cell =
    h5 ∙ ap (λ t. t ++ 10 ∷ []) (k4 ∙ ap (λ fields. first ++ flat_map spaced fields) order) in
    whole
    ∙ ap (λ (x : Registers). instruction_line number x accesses cell) is
    ∙ ap (λ (x : Accesses). instruction_line number (registers_of machine.core) x cell) (told ∙ accesses_are machine running)
    ∙ ap (λ (x : Option ℕ). instruction_line number (registers_of machine.core) (accesses_of machine.core) x) found
