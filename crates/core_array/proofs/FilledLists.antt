-- Lists that are filled one by one.
use Rattle.std.proofs.Common.{◌≡◌, ℕ, ◌+◌, ◌<◌, List, [], ◌∷◌, ◌++◌, length, get_or, map, replicate, take, refl, sym, ap, ◌∙◌, add-one}
use Rattle.std.proofs.lemmas.List.{replicate-append-replicate, map-append}
use Rattle.std.proofs.Math.Seq.{take-suc}
use Rattle.core_array.specs.ArrayState.{Kept, kept_items}

nils : ℕ → List (List ℕ)
nils n = replicate n []

pub replicate_more : (n : ℕ) → replicate n (let nil : List ℕ = [] in nil) ++ [] ∷ [] ≡ replicate (n + 1) []
replicate_more n = let nil : List ℕ = [] in replicate-append-replicate n 1 nil

pub boxes_more : (boxes after : List (List ℕ)) (box : List ℕ) (n : ℕ) → after ≡ boxes ++ box ∷ [] → box ≡ [] → boxes ≡ replicate n [] → after ≡ replicate (n + 1) []
boxes_more boxes after box n a b e = let nil : List ℕ = [] in a ∙ ap (λ x. boxes ++ x ∷ []) b ∙ ap (λ l. l ++ nil ∷ []) e ∙ replicate_more n

pub kept_more : (lists after : List Kept) (x : Kept) (n : ℕ) → after ≡ lists ++ x ∷ [] → x.items ≡ [] → map kept_items lists ≡ replicate n [] → map kept_items after ≡ replicate (n + 1) []
kept_more lists after x n a b e = ap (map kept_items) a ∙ map-append kept_items lists (x ∷ []) ∙ boxes_more (map kept_items lists) _ x.items n refl b e

pub mapped_more : {X Y : Type 0} (f : X → Y) (xs : List X) (done after : List Y) (y : Y) (x : X) (i : ℕ) → i < length xs → after ≡ done ++ y ∷ [] → y ≡ f (get_or xs i x) → done ≡ map f (take i xs) → after ≡ map f (take (i + 1) xs)
mapped_more f xs done after y x i lt a e d =
    let t : take (i + 1) xs ≡ take i xs ++ (get_or xs i x ∷ []) = ap (λ n. take n xs) (add-one i) ∙ take-suc xs i x lt in
    a ∙ ap (λ z. done ++ z ∷ []) e ∙ ap (λ l. l ++ f (get_or xs i x) ∷ []) d ∙ sym (map-append f (take i xs) (get_or xs i x ∷ [])) ∙ sym (ap (map f) t)
