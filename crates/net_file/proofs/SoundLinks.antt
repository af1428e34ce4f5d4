-- The links of a net have good ends.
use Rattle.std.proofs.Common.{◌≡◌, ℕ, ◌+◌, Bool, true, false, List, [], ◌∷◌, length, Option, Some, None, refl, ap, ◌∙◌, arith}
use Rattle.std.specs.Prelude.{◌&&◌, not, nat_lt, if◌then◌else◌}
use Rattle.std.specs.List.{list_all, position, prefix_len}
use Rattle.std.proofs.lemmas.Bool.{le-ltb}
use Rattle.core_array.specs.declared.links.Link.{Link}
use Rattle.core_array.specs.Cores.{is_bad_link}
use Rattle.net_file.specs.Net.{NetPlan, IsSound}

two_true : (a b : Bool) → (a && b) ≡ true → (a ≡ true) × (b ≡ true)
two_true true b e = (refl, e)
two_true false b e = cc

all_passed : (test : Link → Bool) (links : List Link) → list_all test links ≡ true → prefix_len test links ≡ length links
all_passed test [] e = refl
all_passed test (link ∷ links) e =
    let parts = two_true (test link) (list_all test links) e in
    let count : 1 + length links ≡ length (link ∷ links) = omega arith in
    ap (λ g. if g then 1 + prefix_len test links else 0) parts.0 ∙ ap (λ n. 1 + n) (all_passed test links parts.1) ∙ count

none_found : (bad : Link → Bool) (links : List Link) → list_all (λ link. not (bad link)) links ≡ true → position bad links ≡ None
none_found bad links e =
    let all : prefix_len (λ link. not (bad link)) links ≡ length links = all_passed (λ link. not (bad link)) links e in
    let past : nat_lt (length links) (length links) ≡ false = le-ltb (length links) (length links) (omega arith) in
    ap (λ n. if nat_lt n (length links) then Some n else None) all ∙ ap (λ g. if g then Some (length links) else None) past

none_is : (found : Option ℕ) (i : ℕ) → found ≡ None → found ≡ Some i → ⊥
none_is None i a b = cc
none_is (Some j) i a b = cc

-- so no link is refused
pub links_good : (net : NetPlan) (cores i : ℕ) (links : List Link) → IsSound net → cores ≡ length net.cores → links ≡ net.links → position (is_bad_link cores) links ≡ Some i → ⊥
links_good net cores i links sound count same found =
    let none : position (is_bad_link (length net.cores)) net.links ≡ None = none_found (is_bad_link (length net.cores)) net.links sound.ends in
    none_is _ i (ap (λ n. position (is_bad_link n) links) count ∙ ap (position (is_bad_link (length net.cores))) same ∙ none) found
