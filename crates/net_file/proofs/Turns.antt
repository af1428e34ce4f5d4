-- Schedules of nets, and the lines of cores.
use Rattle.std.proofs.Common.{◌≡◌, ℕ, zero, suc, ◌+◌, ◌-◌, ◌<◌, ◌≤◌, List, [], ◌++◌, length, replicate, ap, sym, ◌∙◌, subst, arith, append_assoc, add-one}
use Rattle.std.specs.Prelude.{slice_index}
use Rattle.std.specs.List.{All}
use Rattle.std.proofs.lemmas.List.{append-nil}
use Rattle.std.proofs.lemmas.List.Elements.{All-append, All-replicate}
use Rattle.net_file.specs.Schedule.{round_from, rounds_of}
use Rattle.net_file.specs.Output.{core_line, core_lines}
use Rattle.core_array.specs.Network.{list_at}

one_less : (count done : ℕ) → done < count → count - done ≡ suc (count - (done + 1))
one_less count done h = omega arith

-- one core more in a round
pub next_round : (old new whole : List ℕ) (cores core entries : ℕ) → core < cores → new ≡ old ++ replicate entries core → old ++ round_from (cores - core) core entries ≡ whole →
    new ++ round_from (cores - (core + 1)) (core + 1) entries ≡ whole
next_round old new whole cores core entries h added same =
    let rest : List ℕ = round_from (cores - (core + 1)) (core + 1) entries in
    ap (λ t. t ++ rest) added ∙ (append_assoc old (replicate entries core) rest ∙ (ap (λ n. old ++ round_from n core entries) (sym (one_less cores core h)) ∙ same))

-- one core more in the output
pub next_line : (old new whole : List ℕ) (cores core : ℕ) (printed : List (List ℕ)) → core < cores → new ≡ old ++ core_line core (list_at printed core) → old ++ core_lines (cores - core) core printed ≡ whole →
    new ++ core_lines (cores - (core + 1)) (core + 1) printed ≡ whole
next_line old new whole cores core printed h added same =
    let rest : List ℕ = core_lines (cores - (core + 1)) (core + 1) printed in
    ap (λ t. t ++ rest) added ∙ (append_assoc old (core_line core (list_at printed core)) rest ∙ (ap (λ n. old ++ core_lines n core printed) (sym (one_less cores core h)) ∙ same))

round_behind : (n : ℕ) (round : List ℕ) → rounds_of n round ++ round ≡ rounds_of (suc n) round
round_behind zero round = sym (append-nil round)
round_behind (suc n) round = append_assoc round (rounds_of n round) round ∙ ap (λ t. round ++ t) (round_behind n round)

-- a round more behind the others
pub rounds_more : (n : ℕ) (round : List ℕ) → rounds_of n round ++ round ≡ rounds_of (n + 1) round
rounds_more n round = round_behind n round ∙ ap (λ m. rounds_of m round) (sym (add-one n))

none_below : (m : ℕ) → All (λ core. core < m) (let nil : List ℕ = [] in nil)
none_below m = λ k d lt. absurd (omega arith)

round_below : (cores k m entries : ℕ) → k + cores ≤ m → All (λ core. core < m) (round_from cores k entries)
round_below zero k m entries h = none_below m
round_below (suc cores) k m entries h =
    All-append (λ core. core < m) (replicate entries k) (round_from cores (k + 1) entries) (All-replicate (λ core. core < m) entries k (omega arith)) (round_below cores (k + 1) m entries (omega arith))

-- each entry of a schedule is a core
pub rounds_below : (rounds cores entries : ℕ) → All (λ core. core < cores) (rounds_of rounds (round_from cores 0 entries))
rounds_below zero cores entries = none_below cores
rounds_below (suc rounds) cores entries =
    All-append (λ core. core < cores) (round_from cores 0 entries) (rounds_of rounds (round_from cores 0 entries)) (round_below cores 0 cores entries (omega arith)) (rounds_below rounds cores entries)

pub entry_below : (schedule round : List ℕ) (rounds cores count entries : ℕ) → schedule ≡ rounds_of rounds round → round ≡ round_from cores 0 entries → cores ≡ count →
    (i : ℕ) → i < length schedule → slice_index schedule i < count
entry_below schedule round rounds cores count entries is one same =
    let all : All (λ core. core < cores) schedule = subst (All (λ core. core < cores)) (sym (is ∙ ap (rounds_of rounds) one)) (rounds_below rounds cores entries) in
    λ i lt. subst (λ m. slice_index schedule i < m) same (all i 0 lt)
