-- Words without loops.
use Rattle.std.proofs.Common.{◌≡◌, ℕ, zero, suc, ◌+◌, ◌≤◌, List, [], ◌∷◌, refl, ap, sym, ◌∙◌, arith}
use Rattle.std.specs.Prelude.{int_lt}
use Rattle.cell_math.specs.Cell.{sum_of, signed}
use Rattle.console_ports.specs.Ports.{even}
use Rattle.word_table.specs.declared.word.Word.TheVariants.{QDup, TwoSwap, TwoOver, Abs, Max, Min, TwoSlash, CFetch, CStore, PlusStore, TwoFetch, TwoStore, Count, Comma, CComma, Allot, Align}
use Rattle.forth_program.specs.State.{World, Frame, Gives, ◌▸◌, Goes}
use Rattle.forth_program.specs.Step.{step, on_cells}
use Rattle.library_laws.proofs.BodySteps.{body_steps, body_spent}
use Rattle.forth_program.specs.Access.{fetch, store, store_byte, here, byte_of, with_byte}
use Rattle.library_laws.specs.Bodies.{body_of_word}
use Rattle.library_laws.specs.Library.{finished, DefinitionDoes}
use Rattle.library_laws.proofs.Cells.{by_sign, by_cases, sign_small, sign_large, abs_small, abs_large, low_bit, low_byte, lesser_true, lesser_false, by_bit, with_even, with_odd, half_of}
use Rattle.library_laws.proofs.Comes.{by_way, by_reply, at_once, last_reply, renamed, meant_by}
use Rattle.library_laws.proofs.Replies.{GivesCell, GivesNothing, regrouped, grows, fetch_gives, store_gives, store_byte_gives}

pub question_dup : DefinitionDoes (body_of_word QDup) QDup
unfolding step body_steps body_spent
question_dup p callers [] w need cells world = let no : ⊥ = omega (arith, need) in absurd no
question_dup p callers (zero ∷ c) w need cells world = meant_by 3 (omega arith) refl need (at_once p 2 refl (omega arith))
question_dup p callers (suc x ∷ c) w need cells world = meant_by 3 (omega arith) refl need (at_once p 3 refl (omega arith))

pub two_swap : DefinitionDoes (body_of_word TwoSwap) TwoSwap
unfolding step body_steps body_spent
two_swap p callers (v ∷ z ∷ y ∷ x ∷ c) w need cells world = meant_by 10 (omega arith) refl need (at_once p 4 refl (omega arith))
two_swap p callers c w need cells world = let no : ⊥ = omega (arith, need) in absurd no

pub plus_store : DefinitionDoes (body_of_word PlusStore) PlusStore
unfolding step body_steps body_spent
plus_store p callers (a ∷ n ∷ c) w need cells world =
    meant_by 22 (omega arith) refl need
    (by_way p 1 21 refl (omega arith)
    (by_reply p _ _ _ (fetch a w) (GivesCell w) 1 20 (fetch_gives w world a) refl refl (omega arith) (λ x w h.
    by_way p 3 14 refl (omega arith)
    (by_reply p _ _ _ (store a (sum_of x n) w) (GivesNothing w) 2 0 (store_gives w h.1.world a (sum_of x n) (omega arith)) refl refl (omega arith) (λ u w h.
    at_once p 0 refl (omega arith)))))
    )
plus_store p callers c w need cells world = let no : ⊥ = omega (arith, need) in absurd no

pub two_over : DefinitionDoes (body_of_word TwoOver) TwoOver
unfolding step body_steps body_spent
two_over p callers (v ∷ z ∷ y ∷ x ∷ c) w need cells world = meant_by 30 (omega arith) refl need (at_once p 6 refl (omega arith))
two_over p callers c w need cells world = let no : ⊥ = omega (arith, need) in absurd no

-- the cells at the end, under another name
same_cells : {c c' : List ℕ} (callers : List Frame) (w : World) → c ≡ c' → Goes (finished callers c w) ≡ Goes (finished callers c' w)
same_cells callers w e = ap (λ z. Goes (finished callers z w)) e

same_top : {x y : ℕ} (callers : List Frame) (c : List ℕ) (w : World) → x ≡ y → Goes (finished callers (x ∷ c) w) ≡ Goes (finished callers (y ∷ c) w)
same_top callers c w e = ap (λ z. Goes (finished callers (z ∷ c) w)) e

pub absolute : DefinitionDoes (body_of_word Abs) Abs
unfolding step body_steps body_spent
absolute p callers (x ∷ c) w need cells world = meant_by 7 (omega arith) refl need (by_way p 2 4 refl (omega arith) (by_sign x
    (λ small. rw (sign_small x small) (at_once p 1 (same_top callers c w (abs_small x small)) (omega arith)))
    (λ large. rw (sign_large x large) (at_once p 2 (same_top callers c w (abs_large x large cells.0)) (omega arith)))))
absolute p callers [] w need cells world = let no : ⊥ = omega (arith, need) in absurd no

pub maximum : DefinitionDoes (body_of_word Max) Max
unfolding step body_steps body_spent
maximum p callers (y ∷ x ∷ c) w need cells world = meant_by 6 (omega arith) refl need (by_way p 2 3 refl (omega arith) (by_cases (int_lt (signed x) (signed y))
    (λ e. rw e (at_once p 3 refl (omega arith)))
    (λ e. rw e (at_once p 2 refl (omega arith)))))
maximum p callers c w need cells world = let no : ⊥ = omega (arith, need) in absurd no

pub half : DefinitionDoes (body_of_word TwoSlash) TwoSlash
unfolding step body_steps body_spent
half p callers (x ∷ c) w need cells world = meant_by 9 (omega arith) refl need (at_once p 7 (same_top callers c w (half_of x cells.0)) (omega arith))
half p callers [] w need cells world = let no : ⊥ = omega (arith, need) in absurd no

pub minimum : DefinitionDoes (body_of_word Min) Min
unfolding step body_steps body_spent
minimum p callers (y ∷ x ∷ c) w need cells world = meant_by 7 (omega arith) refl need (by_way p 2 3 refl (omega arith) (by_cases (int_lt (signed y) (signed x))
    (λ e. rw e (at_once p 3 (same_top callers c w (lesser_true x y cells.1.0 cells.0 e)) (omega arith)))
    (λ e. rw e (at_once p 2 (same_top callers c w (lesser_false x y cells.1.0 cells.0 e)) (omega arith)))))
minimum p callers c w need cells world = let no : ⊥ = omega (arith, need) in absurd no

pub byte_fetch : DefinitionDoes (body_of_word CFetch) CFetch
unfolding step body_steps body_spent
byte_fetch p callers (a ∷ c) w need cells world = meant_by 11 (omega arith) refl need (by_way p 1 10 refl (omega arith)
    (renamed p (ap (λ r. on_cells r (finished callers (a ∷ c) w)) (sym (regrouped (fetch a w) (λ x. Gives (byte_of a x)) (λ x. Gives (x ∷ c)))))
    (by_reply p _ _ _ (fetch a w) (GivesCell w) 1 9 (fetch_gives w world a) refl refl (omega arith) (λ x w h. by_way p 3 5 refl (omega arith) (by_bit a
    (λ e. rw (low_bit a, e) (at_once p 3 (same_top callers c w (low_byte x)) (omega arith)))
    (λ e. rw (low_bit a, e) (at_once p 4 refl (omega arith))))))))
byte_fetch p callers [] w need cells world = let no : ⊥ = omega (arith, need) in absurd no

pub byte_store : DefinitionDoes (body_of_word CStore) CStore
unfolding step body_steps body_spent
byte_store p callers (a ∷ x ∷ c) w need cells world = meant_by 20 (omega arith) refl need (by_way p 2 18 refl (omega arith)
    (renamed p (ap (λ r. on_cells r (finished callers (a ∷ x ∷ c) w)) (sym (regrouped (fetch a w) (λ v. store a (with_byte a v x)) (λ _. Gives c))))
    (by_reply p _ _ _ (fetch a w) (GivesCell w) 1 17 (fetch_gives w world a) refl refl (omega arith) (λ v w h. by_way p 3 13 refl (omega arith) (by_bit a
    (λ e. rw (low_bit a ∙ e) (by_way p 8 2 refl (omega arith) (last_reply p callers _ _ _ _ _ _ 2 refl (ap (λ z. store a z w ▸ λ _. Gives c) (with_even a v x e h.0)) refl (omega arith))))
    (λ e. rw (low_bit a ∙ e) (by_way p 9 2 refl (omega arith) (last_reply p callers _ _ _ _ _ _ 2 refl (ap (λ z. store a z w ▸ λ _. Gives c) (with_odd a v x e h.0)) refl (omega arith)))))))))
byte_store p callers c w need cells world = let no : ⊥ = omega (arith, need) in absurd no

pub two_fetch : DefinitionDoes (body_of_word TwoFetch) TwoFetch
unfolding step body_steps body_spent
two_fetch p callers (a ∷ c) w need cells world = meant_by 6 (omega arith) refl need (by_way p 2 3 refl (omega arith)
    (by_reply p _ _ _ (fetch (sum_of a 2) w) (GivesCell w) 1 2 (fetch_gives w world (sum_of a 2)) refl refl (omega arith) (λ x w h. by_way p 1 1 refl (omega arith)
    (last_reply p callers _ _ _ _ _ _ 1 refl refl refl (omega arith)))))
two_fetch p callers [] w need cells world = let no : ⊥ = omega (arith, need) in absurd no

pub two_store : DefinitionDoes (body_of_word TwoStore) TwoStore
unfolding step body_steps body_spent
two_store p callers (a ∷ y ∷ x ∷ c) w need cells world = meant_by 8 (omega arith) refl need (by_way p 2 6 refl (omega arith)
    (by_reply p _ _ _ (store a y w) (GivesNothing w) 2 4 (store_gives w world a y cells.1.0) refl refl (omega arith) (λ u w h. by_way p 1 2 refl (omega arith)
    (last_reply p callers _ _ _ _ _ _ 2 refl refl refl (omega arith)))))
two_store p callers c w need cells world = let no : ⊥ = omega (arith, need) in absurd no

pub counted : DefinitionDoes (body_of_word Count) Count
unfolding step body_steps body_spent
counted p callers (a ∷ c) w need cells world = meant_by 28 (omega arith) refl need (by_way p 3 24 refl (omega arith)
    (last_reply p callers _ _ _ _ _ _ 24 refl refl refl (omega arith)))
counted p callers [] w need cells world = let no : ⊥ = omega (arith, need) in absurd no

pub comma : DefinitionDoes (body_of_word Comma) Comma
unfolding step body_steps body_spent
comma p callers (x ∷ c) w need cells world = meant_by 34 (omega arith) refl need
    (by_reply p _ _ _ (here w) (GivesCell w) 2 32 (fetch_gives w world (w.data_start + 4)) refl refl (omega arith) (λ h w hw.
    by_reply p _ _ _ (store h x w) (GivesNothing w) 2 30 (store_gives w hw.1.world h x cells.0) refl refl (omega arith) (λ u w hw. by_way p 4 24 refl (omega arith)
    (last_reply p callers _ _ _ _ _ _ 24 refl (grows 2 c w hw.world) refl (omega arith)))))
comma p callers [] w need cells world = let no : ⊥ = omega (arith, need) in absurd no

pub byte_comma : DefinitionDoes (body_of_word CComma) CComma
unfolding step body_steps body_spent
byte_comma p callers (x ∷ c) w need cells world = meant_by 80 (omega arith) refl need
    (by_reply p _ _ _ (here w) (GivesCell w) 2 78 (fetch_gives w world (w.data_start + 4)) refl refl (omega arith) (λ h w hw.
    by_reply p _ _ _ (store_byte h x w) (GivesNothing w) 48 30 (store_byte_gives w hw.1.world h x) refl refl (omega arith) (λ u w hw. by_way p 4 24 refl (omega arith)
    (last_reply p callers _ _ _ _ _ _ 24 refl (grows 1 c w hw.world) refl (omega arith)))))
byte_comma p callers [] w need cells world = let no : ⊥ = omega (arith, need) in absurd no

pub allot : DefinitionDoes (body_of_word Allot) Allot
unfolding step body_steps body_spent
allot p callers (n ∷ c) w need cells world = meant_by 28 (omega arith) refl need (by_way p 3 24 refl (omega arith)
    (last_reply p callers _ _ _ _ _ _ 24 refl (grows n c w world) refl (omega arith)))
allot p callers [] w need cells world = let no : ⊥ = omega (arith, need) in absurd no

pub align : DefinitionDoes (body_of_word Align) Align
unfolding step body_steps body_spent
align p callers c w need cells world = meant_by 13 (omega arith) refl need
    (by_reply p _ _ _ (here w) (GivesCell w) 2 11 (fetch_gives w world (w.data_start + 4)) refl refl (omega arith) (λ h w hw. by_way p 4 2 refl (omega arith)
    (last_reply p callers _ _ _ _ _ _ 2 refl (ap (λ a. store a (even (sum_of h 1)) w ▸ λ _. Gives c) (address w.data_start hw.1.world.data_start)) refl (omega arith))))
  where
    address : (d : ℕ) → d + 128 ≤ 16384 → sum_of d 4 ≡ d + 4
    address d h = omega (arith, h)
