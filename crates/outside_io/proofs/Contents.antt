-- The contents that a tree holds, at each name, and after a change of one file.
use Rattle.std.proofs.Common.{◌≡◌, ℕ, List, [], ◌∷◌, Bool, true, false, cond, map, String, Vec, Option, Some, option_map, ◌⊎◌, inl, inr, refl, sym, ap, ◌∙◌, if◌then◌else◌}
use Rattle.std.specs.BTreeMap.{BTreeMap, get_by_text, is_at}
use Rattle.std.specs.Map.{lookup}
use Rattle.std.specs.Str.{bytes_eq}
use Rattle.std.specs.Ordering.{nat_cmp, is_eq}
use Rattle.std.specs.Cmp.{eq_by_cmp_equiv}
use Rattle.std.specs.Cmp.Lexicographic.{slice_cmp, nat_list_cmp_total}
use Rattle.std.specs.FinMap.{find, get, insert, get-from_entries, get-insert, same_map, slice_cmp-IsAntisymmetric, nat_cmp-IsAntisymmetric}
use Rattle.std.proofs.lemmas.Map.Text.{is_eq-slice_cmp, text_cmp}
use Rattle.outside_io.specs.Contents.{Contents, entry_bytes, contents_of}
use Rattle.outside_io.specs.Files.{with_file, SetsFile, KeepsOthers}

module _ {Y Z : Type 0} where
  -- the content of a name in a tree
  abbrev pub content_at : BTreeMap (String Y) (Vec ℕ Z) → List ℕ → Option (List ℕ)
  content_at tree name = option_map (λ v. v.items) (get_by_text tree name)

  -- to look up among entries as bytes is to look up among the entries
  find-entry_bytes : (name : List ℕ) (entries : List (String Y × Vec ℕ Z))
      → find (slice_cmp nat_cmp) name (map entry_bytes entries) ≡ option_map (λ v. v.items) (lookup (is_at (text_cmp name)) entries)
  find-entry_bytes name [] = refl
  find-entry_bytes name (e ∷ es) =
      elim (is_eq (text_cmp name e.0))
      as (λ b. cond b (Some e.1.items) (find (slice_cmp nat_cmp) name (map entry_bytes es)) ≡ option_map (λ v. v.items) (cond b (Some e.1) (lookup (is_at (text_cmp name)) es)))
      [ true ↦ refl | false ↦ find-entry_bytes name es ]

  pub get-contents_of : (tree : BTreeMap (String Y) (Vec ℕ Z)) (name : List ℕ) → get (contents_of tree) name ≡ content_at tree name
  get-contents_of tree name = get-from_entries nat_list_cmp_total _ name ∙ find-entry_bytes name tree.entries

get-insert-name : (files : Contents) (name bytes other : List ℕ) → get (insert files name bytes) other ≡ with_file (get files) name bytes other
get-insert-name files name bytes other =
    get-insert nat_list_cmp_total files name bytes other
    ∙ ap (λ b. cond b (Some bytes) (get files other)) ((eq_by_cmp_equiv nat_list_cmp_total).symm other name ∙ is_eq-slice_cmp name other)

-- a tree in which one file is set has the contents in which it is set
pub contents_of-insert : {Y Z : Type 0} (old new : BTreeMap (String Y) (Vec ℕ Z)) (name bytes : List ℕ)
    → ((other : List ℕ) → content_at new other ≡ with_file (content_at old) name bytes other) → contents_of new ≡ insert (contents_of old) name bytes
contents_of-insert old new name bytes is =
    same_map nat_list_cmp_total (slice_cmp-IsAntisymmetric nat_cmp-IsAntisymmetric) _ _
    (λ other. get-contents_of new other ∙ is other
    ∙ ap (λ found. cond (bytes_eq name other) (Some bytes) found) (sym (get-contents_of old other))
    ∙ sym (get-insert-name (contents_of old) name bytes other))

-- contents in which one file is set have that file and keep the others
pub sets_file : (before after : Contents) (name bytes : List ℕ) → after ≡ insert before name bytes → SetsFile (Some (get before)) (Some (get after)) name bytes
sets_file before after name bytes e = λ other. ap (λ files. get files other) e ∙ get-insert-name before name bytes other

kept : {A : Type 0} (b : Bool) (new set old : A) → new ≡ (if b then set else old) → (b ≡ true) ⊎ (new ≡ old)
kept true new set old e = inl refl
kept false new set old e = inr e

pub keeps_others : (before after : Contents) (name bytes : List ℕ) → after ≡ insert before name bytes → KeepsOthers (Some (get before)) (Some (get after)) name
keeps_others before after name bytes e = λ other. kept (bytes_eq name other) _ _ _ (sets_file before after name bytes e other)
