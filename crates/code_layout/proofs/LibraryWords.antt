-- What the meaning of every library word keeps: its need, its peak, and that it touches data cells and the world alone.
use Rattle.std.proofs.Common.{◌≡◌, ℕ, zero, suc, ◌+◌, ◌≤◌, nat_le, IsTrue, Bool, true, false, List, [], ◌∷◌, length, Option, Some, None, refl, arith}
use Rattle.std.specs.Prelude.{pos, ◌*ℤ◌, int_lt, unsigned_abs}
use Rattle.word_table.specs.declared.word.Word.{Word}
use Rattle.word_table.specs.declared.word.Word.TheVariants.{Dup, ToR, RFrom, RFetch, Index, OuterIndex, Unloop, Execute}
use Rattle.word_table.specs.declared.word.Word.TheVariants.{QDup, TwoSwap, TwoOver, Abs, Max, Min, TwoSlash, CFetch, CStore, PlusStore, TwoFetch, TwoStore, Count, Comma}
use Rattle.word_table.specs.declared.word.Word.TheVariants.{CComma, Allot, Align, UMStar, MStar, Star, UMSlashMod, SMSlashRem, FMSlashMod, SlashMod, Slash, Mod, StarSlashMod, StarSlash}
use Rattle.word_table.specs.declared.word.Word.TheVariants.{LessSharp, Hold, Sign, Sharp, SharpS, SharpGreater, TypeOut, Dot, UDot, Spaces, Fill, Move, Accept, ToNumber}
use Rattle.word_table.specs.Table.{entry_of}
use Rattle.cell_math.specs.Cell.{sum_of, signed, double, signed_double}
use Rattle.cell_math.specs.Divisions.{Division, unsigned_division, floored_division, symmetric_division}
use Rattle.console_ports.specs.Ports.{even}
use Rattle.forth_program.specs.State.{Entry, World, State, Reply, Gives, Stops, ◌▸◌, Underflow}
use Rattle.forth_program.specs.Access.{fetch, store, fetch_byte, store_byte, base, here, grow_here}
use Rattle.forth_program.specs.ByteWords.{type_out, emit_spaces, positive, fill, move, accept, number_from}
use Rattle.forth_program.specs.PicturedOutput.{open_picture, hold, hold_sign, hold_digit, hold_all, picture, print_number}
use Rattle.forth_program.specs.Program.{SourceProgram}
use Rattle.forth_program.specs.Meaning.{put, both, quotient_only, rest_only, meaning}
use Rattle.forth_program.specs.Step.{on_cells, word_step}
use Rattle.code_layout.specs.Numbering.{library_number}

-- a library word does its meaning on the cells and the world
pub library_step : (p : SourceProgram) (word : Word) (number : ℕ) (c : List ℕ) (es : List Entry) (s : State) → library_number word ≡ Some number → word_step p word c es s ≡ on_cells (meaning word c s.world) s
library_step p ToR number c es s is = cc
library_step p RFrom number c es s is = cc
library_step p RFetch number c es s is = cc
library_step p Index number c es s is = cc
library_step p OuterIndex number c es s is = cc
library_step p Unloop number c es s is = cc
library_step p Execute number c es s is = cc
library_step p word number c es s is = refl

-- its call takes a return cell
abbrev pub has_back : Option ℕ → ℕ → Bool
has_back None back = true
has_back (Some number) back = nat_le 1 back

pub library_back : (word : Word) → IsTrue (has_back (library_number word) (entry_of word).back)
library_back Dup = refl
library_back word = refl

-- ---- the need

-- whether enough cells were found
abbrev pub finds_cells : Reply (List ℕ) → Bool
finds_cells (Gives c w) = true
finds_cells (Stops Underflow w) = false
finds_cells (Stops end w) = true

pub library_need : (word : Word) (number : ℕ) (c : List ℕ) (w : World) → library_number word ≡ Some number → finds_cells (meaning word c w) ≡ true → (entry_of word).need ≤ length c
library_need QDup number [] w is sound = let f : false ≡ true = sound in cc
library_need QDup number (a ∷ c) w is sound = omega arith
library_need TwoSwap number [] w is sound = let f : false ≡ true = sound in cc
library_need TwoSwap number (a ∷ []) w is sound = let f : false ≡ true = sound in cc
library_need TwoSwap number (a ∷ b ∷ []) w is sound = let f : false ≡ true = sound in cc
library_need TwoSwap number (a ∷ b ∷ d ∷ []) w is sound = let f : false ≡ true = sound in cc
library_need TwoSwap number (a ∷ b ∷ d ∷ e ∷ c) w is sound = omega arith
library_need TwoOver number [] w is sound = let f : false ≡ true = sound in cc
library_need TwoOver number (a ∷ []) w is sound = let f : false ≡ true = sound in cc
library_need TwoOver number (a ∷ b ∷ []) w is sound = let f : false ≡ true = sound in cc
library_need TwoOver number (a ∷ b ∷ d ∷ []) w is sound = let f : false ≡ true = sound in cc
library_need TwoOver number (a ∷ b ∷ d ∷ e ∷ c) w is sound = omega arith
library_need Abs number [] w is sound = let f : false ≡ true = sound in cc
library_need Abs number (a ∷ c) w is sound = omega arith
library_need Max number [] w is sound = let f : false ≡ true = sound in cc
library_need Max number (a ∷ []) w is sound = let f : false ≡ true = sound in cc
library_need Max number (a ∷ b ∷ c) w is sound = omega arith
library_need Min number [] w is sound = let f : false ≡ true = sound in cc
library_need Min number (a ∷ []) w is sound = let f : false ≡ true = sound in cc
library_need Min number (a ∷ b ∷ c) w is sound = omega arith
library_need TwoSlash number [] w is sound = let f : false ≡ true = sound in cc
library_need TwoSlash number (a ∷ c) w is sound = omega arith
library_need CFetch number [] w is sound = let f : false ≡ true = sound in cc
library_need CFetch number (a ∷ c) w is sound = omega arith
library_need CStore number [] w is sound = let f : false ≡ true = sound in cc
library_need CStore number (a ∷ []) w is sound = let f : false ≡ true = sound in cc
library_need CStore number (a ∷ b ∷ c) w is sound = omega arith
library_need PlusStore number [] w is sound = let f : false ≡ true = sound in cc
library_need PlusStore number (a ∷ []) w is sound = let f : false ≡ true = sound in cc
library_need PlusStore number (a ∷ b ∷ c) w is sound = omega arith
library_need TwoFetch number [] w is sound = let f : false ≡ true = sound in cc
library_need TwoFetch number (a ∷ c) w is sound = omega arith
library_need TwoStore number [] w is sound = let f : false ≡ true = sound in cc
library_need TwoStore number (a ∷ []) w is sound = let f : false ≡ true = sound in cc
library_need TwoStore number (a ∷ b ∷ []) w is sound = let f : false ≡ true = sound in cc
library_need TwoStore number (a ∷ b ∷ d ∷ c) w is sound = omega arith
library_need Count number [] w is sound = let f : false ≡ true = sound in cc
library_need Count number (a ∷ c) w is sound = omega arith
library_need Comma number [] w is sound = let f : false ≡ true = sound in cc
library_need Comma number (a ∷ c) w is sound = omega arith
library_need CComma number [] w is sound = let f : false ≡ true = sound in cc
library_need CComma number (a ∷ c) w is sound = omega arith
library_need Allot number [] w is sound = let f : false ≡ true = sound in cc
library_need Allot number (a ∷ c) w is sound = omega arith
library_need Align number c w is sound = omega arith
library_need UMStar number [] w is sound = let f : false ≡ true = sound in cc
library_need UMStar number (a ∷ []) w is sound = let f : false ≡ true = sound in cc
library_need UMStar number (a ∷ b ∷ c) w is sound = omega arith
library_need MStar number [] w is sound = let f : false ≡ true = sound in cc
library_need MStar number (a ∷ []) w is sound = let f : false ≡ true = sound in cc
library_need MStar number (a ∷ b ∷ c) w is sound = omega arith
library_need Star number [] w is sound = let f : false ≡ true = sound in cc
library_need Star number (a ∷ []) w is sound = let f : false ≡ true = sound in cc
library_need Star number (a ∷ b ∷ c) w is sound = omega arith
library_need UMSlashMod number [] w is sound = let f : false ≡ true = sound in cc
library_need UMSlashMod number (a ∷ []) w is sound = let f : false ≡ true = sound in cc
library_need UMSlashMod number (a ∷ b ∷ []) w is sound = let f : false ≡ true = sound in cc
library_need UMSlashMod number (a ∷ b ∷ d ∷ c) w is sound = omega arith
library_need SMSlashRem number [] w is sound = let f : false ≡ true = sound in cc
library_need SMSlashRem number (a ∷ []) w is sound = let f : false ≡ true = sound in cc
library_need SMSlashRem number (a ∷ b ∷ []) w is sound = let f : false ≡ true = sound in cc
library_need SMSlashRem number (a ∷ b ∷ d ∷ c) w is sound = omega arith
library_need FMSlashMod number [] w is sound = let f : false ≡ true = sound in cc
library_need FMSlashMod number (a ∷ []) w is sound = let f : false ≡ true = sound in cc
library_need FMSlashMod number (a ∷ b ∷ []) w is sound = let f : false ≡ true = sound in cc
library_need FMSlashMod number (a ∷ b ∷ d ∷ c) w is sound = omega arith
library_need SlashMod number [] w is sound = let f : false ≡ true = sound in cc
library_need SlashMod number (a ∷ []) w is sound = let f : false ≡ true = sound in cc
library_need SlashMod number (a ∷ b ∷ c) w is sound = omega arith
library_need Slash number [] w is sound = let f : false ≡ true = sound in cc
library_need Slash number (a ∷ []) w is sound = let f : false ≡ true = sound in cc
library_need Slash number (a ∷ b ∷ c) w is sound = omega arith
library_need Mod number [] w is sound = let f : false ≡ true = sound in cc
library_need Mod number (a ∷ []) w is sound = let f : false ≡ true = sound in cc
library_need Mod number (a ∷ b ∷ c) w is sound = omega arith
library_need StarSlashMod number [] w is sound = let f : false ≡ true = sound in cc
library_need StarSlashMod number (a ∷ []) w is sound = let f : false ≡ true = sound in cc
library_need StarSlashMod number (a ∷ b ∷ []) w is sound = let f : false ≡ true = sound in cc
library_need StarSlashMod number (a ∷ b ∷ d ∷ c) w is sound = omega arith
library_need StarSlash number [] w is sound = let f : false ≡ true = sound in cc
library_need StarSlash number (a ∷ []) w is sound = let f : false ≡ true = sound in cc
library_need StarSlash number (a ∷ b ∷ []) w is sound = let f : false ≡ true = sound in cc
library_need StarSlash number (a ∷ b ∷ d ∷ c) w is sound = omega arith
library_need LessSharp number c w is sound = omega arith
library_need Hold number [] w is sound = let f : false ≡ true = sound in cc
library_need Hold number (a ∷ c) w is sound = omega arith
library_need Sign number [] w is sound = let f : false ≡ true = sound in cc
library_need Sign number (a ∷ c) w is sound = omega arith
library_need Sharp number [] w is sound = let f : false ≡ true = sound in cc
library_need Sharp number (a ∷ []) w is sound = let f : false ≡ true = sound in cc
library_need Sharp number (a ∷ b ∷ c) w is sound = omega arith
library_need SharpS number [] w is sound = let f : false ≡ true = sound in cc
library_need SharpS number (a ∷ []) w is sound = let f : false ≡ true = sound in cc
library_need SharpS number (a ∷ b ∷ c) w is sound = omega arith
library_need SharpGreater number [] w is sound = let f : false ≡ true = sound in cc
library_need SharpGreater number (a ∷ []) w is sound = let f : false ≡ true = sound in cc
library_need SharpGreater number (a ∷ b ∷ c) w is sound = omega arith
library_need TypeOut number [] w is sound = let f : false ≡ true = sound in cc
library_need TypeOut number (a ∷ []) w is sound = let f : false ≡ true = sound in cc
library_need TypeOut number (a ∷ b ∷ c) w is sound = omega arith
library_need Dot number [] w is sound = let f : false ≡ true = sound in cc
library_need Dot number (a ∷ c) w is sound = omega arith
library_need UDot number [] w is sound = let f : false ≡ true = sound in cc
library_need UDot number (a ∷ c) w is sound = omega arith
library_need Spaces number [] w is sound = let f : false ≡ true = sound in cc
library_need Spaces number (a ∷ c) w is sound = omega arith
library_need Fill number [] w is sound = let f : false ≡ true = sound in cc
library_need Fill number (a ∷ []) w is sound = let f : false ≡ true = sound in cc
library_need Fill number (a ∷ b ∷ []) w is sound = let f : false ≡ true = sound in cc
library_need Fill number (a ∷ b ∷ d ∷ c) w is sound = omega arith
library_need Move number [] w is sound = let f : false ≡ true = sound in cc
library_need Move number (a ∷ []) w is sound = let f : false ≡ true = sound in cc
library_need Move number (a ∷ b ∷ []) w is sound = let f : false ≡ true = sound in cc
library_need Move number (a ∷ b ∷ d ∷ c) w is sound = omega arith
library_need Accept number [] w is sound = let f : false ≡ true = sound in cc
library_need Accept number (a ∷ []) w is sound = let f : false ≡ true = sound in cc
library_need Accept number (a ∷ b ∷ c) w is sound = omega arith
library_need ToNumber number [] w is sound = let f : false ≡ true = sound in cc
library_need ToNumber number (a ∷ []) w is sound = let f : false ≡ true = sound in cc
library_need ToNumber number (a ∷ b ∷ []) w is sound = let f : false ≡ true = sound in cc
library_need ToNumber number (a ∷ b ∷ d ∷ []) w is sound = let f : false ≡ true = sound in cc
library_need ToNumber number (a ∷ b ∷ d ∷ e ∷ c) w is sound = omega arith
library_need word number c w is sound = cc

-- ---- what is left

abbrev pub FewLeft : ℕ → Reply (List ℕ) → Type 0
FewLeft n (Gives c w) = length c ≤ n
FewLeft n (Stops end w) = Unit {0}

few_then : {A : Type 0} (n : ℕ) (r : Reply A) (next : A → World → Reply (List ℕ)) → ((x : A) (w : World) → FewLeft n (next x w)) → FewLeft n (r ▸ next)
few_then n (Gives x w) next few = few x w
few_then n (Stops end w) next few = tt

few_both : (n : ℕ) (d : Division) (c : List ℕ) (w : World) → length c + 2 ≤ n → FewLeft n (both d c w)
few_both n None c w h = tt
few_both n (Some parts) c w h = omega arith

few_quotient_only : (n : ℕ) (d : Division) (c : List ℕ) (w : World) → length c + 1 ≤ n → FewLeft n (quotient_only d c w)
few_quotient_only n None c w h = tt
few_quotient_only n (Some parts) c w h = omega arith

few_rest_only : (n : ℕ) (d : Division) (c : List ℕ) (w : World) → length c + 1 ≤ n → FewLeft n (rest_only d c w)
few_rest_only n None c w h = tt
few_rest_only n (Some parts) c w h = omega arith

-- a word leaves no more cells than its peak
pub library_few : (word : Word) (number : ℕ) (c : List ℕ) (w : World) → library_number word ≡ Some number → FewLeft (length c + (entry_of word).peak) (meaning word c w)
library_few QDup number (zero ∷ c) w is = omega arith
library_few QDup number (suc x ∷ c) w is = omega arith
library_few QDup number [] w is = tt
library_few TwoSwap number (w' ∷ z ∷ y ∷ x ∷ c) w is = omega arith
library_few TwoSwap number [] w is = tt
library_few TwoSwap number (a ∷ []) w is = tt
library_few TwoSwap number (a ∷ b ∷ []) w is = tt
library_few TwoSwap number (a ∷ b ∷ d ∷ []) w is = tt
library_few TwoOver number (w' ∷ z ∷ y ∷ x ∷ c) w is = omega arith
library_few TwoOver number [] w is = tt
library_few TwoOver number (a ∷ []) w is = tt
library_few TwoOver number (a ∷ b ∷ []) w is = tt
library_few TwoOver number (a ∷ b ∷ d ∷ []) w is = tt
library_few Abs number (x ∷ c) w is = omega arith
library_few Abs number [] w is = tt
library_few Max number (y ∷ x ∷ c) w is = omega arith
library_few Max number [] w is = tt
library_few Max number (a ∷ []) w is = tt
library_few Min number (y ∷ x ∷ c) w is = omega arith
library_few Min number [] w is = tt
library_few Min number (a ∷ []) w is = tt
library_few TwoSlash number (x ∷ c) w is = omega arith
library_few TwoSlash number [] w is = tt
library_few CFetch number (a ∷ c) w is = few_then (length (a ∷ c) + (entry_of CFetch).peak) (fetch_byte a w) (λ x w. Gives (x ∷ c) w) (λ x w. omega arith)
library_few CFetch number [] w is = tt
library_few CStore number (a ∷ x ∷ c) w is = few_then (length (a ∷ x ∷ c) + (entry_of CStore).peak) (store_byte a x w) (λ u w. Gives c w) (λ u w. omega arith)
library_few CStore number [] w is = tt
library_few CStore number (a ∷ []) w is = tt
library_few PlusStore number (a ∷ n ∷ c) w is =
    few_then (length (a ∷ n ∷ c) + (entry_of PlusStore).peak) (fetch a w) (λ x w. store a (sum_of x n) w ▸ λ _. Gives c)
    (λ x w. few_then (length (a ∷ n ∷ c) + (entry_of PlusStore).peak) (store a (sum_of x n) w) (λ u w. Gives c w) (λ u w. omega arith))
library_few PlusStore number [] w is = tt
library_few PlusStore number (a ∷ []) w is = tt
library_few TwoFetch number (a ∷ c) w is =
    few_then (length (a ∷ c) + (entry_of TwoFetch).peak) (fetch (sum_of a 2) w) (λ x w. fetch a w ▸ λ y. Gives (y ∷ x ∷ c))
    (λ x w. few_then (length (a ∷ c) + (entry_of TwoFetch).peak) (fetch a w) (λ y w. Gives (y ∷ x ∷ c) w) (λ y w. omega arith))
library_few TwoFetch number [] w is = tt
library_few TwoStore number (a ∷ y ∷ x ∷ c) w is =
    few_then (length (a ∷ y ∷ x ∷ c) + (entry_of TwoStore).peak) (store a y w) (λ u w. store (sum_of a 2) x w ▸ λ _. Gives c)
    (λ u w. few_then (length (a ∷ y ∷ x ∷ c) + (entry_of TwoStore).peak) (store (sum_of a 2) x w) (λ u w. Gives c w) (λ u w. omega arith))
library_few TwoStore number [] w is = tt
library_few TwoStore number (a ∷ []) w is = tt
library_few TwoStore number (a ∷ b ∷ []) w is = tt
library_few Count number (a ∷ c) w is = few_then (length (a ∷ c) + (entry_of Count).peak) (fetch_byte a w) (λ x w. Gives (x ∷ sum_of a 1 ∷ c) w) (λ x w. omega arith)
library_few Count number [] w is = tt
library_few Comma number (x ∷ c) w is =
    few_then (length (x ∷ c) + (entry_of Comma).peak) (here w) (λ h w. store h x w ▸ λ _ w. grow_here 2 w ▸ λ _. Gives c)
    (λ h w.
    few_then (length (x ∷ c) + (entry_of Comma).peak) (store h x w) (λ u w. grow_here 2 w ▸ λ _. Gives c)
    (λ u w. few_then (length (x ∷ c) + (entry_of Comma).peak) (grow_here 2 w) (λ u w. Gives c w) (λ u w. omega arith)))
library_few Comma number [] w is = tt
library_few CComma number (x ∷ c) w is =
    few_then (length (x ∷ c) + (entry_of CComma).peak) (here w) (λ h w. store_byte h x w ▸ λ _ w. grow_here 1 w ▸ λ _. Gives c)
    (λ h w.
    few_then (length (x ∷ c) + (entry_of CComma).peak) (store_byte h x w) (λ u w. grow_here 1 w ▸ λ _. Gives c)
    (λ u w. few_then (length (x ∷ c) + (entry_of CComma).peak) (grow_here 1 w) (λ u w. Gives c w) (λ u w. omega arith)))
library_few CComma number [] w is = tt
library_few Allot number (n ∷ c) w is = few_then (length (n ∷ c) + (entry_of Allot).peak) (grow_here n w) (λ u w. Gives c w) (λ u w. omega arith)
library_few Allot number [] w is = tt
library_few Align number c w is =
    few_then (length c + (entry_of Align).peak) (here w) (λ h w. store (w.data_start + 4) (even (sum_of h 1)) w ▸ λ _. Gives c)
    (λ h w. few_then (length c + (entry_of Align).peak) (store (w.data_start + 4) (even (sum_of h 1)) w) (λ u w. Gives c w) (λ u w. omega arith))
library_few UMStar number (y ∷ x ∷ c) w is = omega arith
library_few UMStar number [] w is = tt
library_few UMStar number (a ∷ []) w is = tt
library_few MStar number (y ∷ x ∷ c) w is = omega arith
library_few MStar number [] w is = tt
library_few MStar number (a ∷ []) w is = tt
library_few Star number (y ∷ x ∷ c) w is = omega arith
library_few Star number [] w is = tt
library_few Star number (a ∷ []) w is = tt
library_few UMSlashMod number (u ∷ h ∷ l ∷ c) w is = few_both (length (u ∷ h ∷ l ∷ c) + (entry_of UMSlashMod).peak) (unsigned_division (double l h) u) c w (omega arith)
library_few UMSlashMod number [] w is = tt
library_few UMSlashMod number (a ∷ []) w is = tt
library_few UMSlashMod number (a ∷ b ∷ []) w is = tt
library_few SMSlashRem number (n ∷ h ∷ l ∷ c) w is = few_both (length (n ∷ h ∷ l ∷ c) + (entry_of SMSlashRem).peak) (symmetric_division (signed_double l h) (signed n)) c w (omega arith)
library_few SMSlashRem number [] w is = tt
library_few SMSlashRem number (a ∷ []) w is = tt
library_few SMSlashRem number (a ∷ b ∷ []) w is = tt
library_few FMSlashMod number (n ∷ h ∷ l ∷ c) w is = few_both (length (n ∷ h ∷ l ∷ c) + (entry_of FMSlashMod).peak) (floored_division (signed_double l h) (signed n)) c w (omega arith)
library_few FMSlashMod number [] w is = tt
library_few FMSlashMod number (a ∷ []) w is = tt
library_few FMSlashMod number (a ∷ b ∷ []) w is = tt
library_few SlashMod number (m ∷ n ∷ c) w is = few_both (length (m ∷ n ∷ c) + (entry_of SlashMod).peak) (floored_division (signed n) (signed m)) c w (omega arith)
library_few SlashMod number [] w is = tt
library_few SlashMod number (a ∷ []) w is = tt
library_few Slash number (m ∷ n ∷ c) w is = few_quotient_only (length (m ∷ n ∷ c) + (entry_of Slash).peak) (floored_division (signed n) (signed m)) c w (omega arith)
library_few Slash number [] w is = tt
library_few Slash number (a ∷ []) w is = tt
library_few Mod number (m ∷ n ∷ c) w is = few_rest_only (length (m ∷ n ∷ c) + (entry_of Mod).peak) (floored_division (signed n) (signed m)) c w (omega arith)
library_few Mod number [] w is = tt
library_few Mod number (a ∷ []) w is = tt
library_few StarSlashMod number (k ∷ m ∷ n ∷ c) w is = few_both (length (k ∷ m ∷ n ∷ c) + (entry_of StarSlashMod).peak) (floored_division (signed n *ℤ signed m) (signed k)) c w (omega arith)
library_few StarSlashMod number [] w is = tt
library_few StarSlashMod number (a ∷ []) w is = tt
library_few StarSlashMod number (a ∷ b ∷ []) w is = tt
library_few StarSlash number (k ∷ m ∷ n ∷ c) w is = few_quotient_only (length (k ∷ m ∷ n ∷ c) + (entry_of StarSlash).peak) (floored_division (signed n *ℤ signed m) (signed k)) c w (omega arith)
library_few StarSlash number [] w is = tt
library_few StarSlash number (a ∷ []) w is = tt
library_few StarSlash number (a ∷ b ∷ []) w is = tt
library_few LessSharp number c w is = few_then (length c + (entry_of LessSharp).peak) (open_picture w) (λ u w. Gives c w) (λ u w. omega arith)
library_few Hold number (x ∷ c) w is = few_then (length (x ∷ c) + (entry_of Hold).peak) (hold x w) (λ u w. Gives c w) (λ u w. omega arith)
library_few Hold number [] w is = tt
library_few Sign number (n ∷ c) w is = few_then (length (n ∷ c) + (entry_of Sign).peak) (hold_sign (int_lt (signed n) (pos 0)) w) (λ u w. Gives c w) (λ u w. omega arith)
library_few Sign number [] w is = tt
library_few Sharp number (h ∷ l ∷ c) w is = few_then (length (h ∷ l ∷ c) + (entry_of Sharp).peak) (hold_digit (double l h) w) (λ d w. Gives (put d c) w) (λ d w. omega arith)
library_few Sharp number [] w is = tt
library_few Sharp number (a ∷ []) w is = tt
library_few SharpS number (h ∷ l ∷ c) w is = few_then (length (h ∷ l ∷ c) + (entry_of SharpS).peak) (hold_all (double l h) w) (λ d w. Gives (put d c) w) (λ d w. omega arith)
library_few SharpS number [] w is = tt
library_few SharpS number (a ∷ []) w is = tt
library_few SharpGreater number (h ∷ l ∷ c) w is = few_then (length (h ∷ l ∷ c) + (entry_of SharpGreater).peak) (picture w) (λ p w. Gives (p.1 ∷ p.0 ∷ c) w) (λ p w. omega arith)
library_few SharpGreater number [] w is = tt
library_few SharpGreater number (a ∷ []) w is = tt
library_few TypeOut number (u ∷ a ∷ c) w is = few_then (length (u ∷ a ∷ c) + (entry_of TypeOut).peak) (type_out u a w) (λ u w. Gives c w) (λ u w. omega arith)
library_few TypeOut number [] w is = tt
library_few TypeOut number (a ∷ []) w is = tt
library_few Dot number (n ∷ c) w is = few_then (length (n ∷ c) + (entry_of Dot).peak) (print_number (unsigned_abs (signed n)) (int_lt (signed n) (pos 0)) w) (λ u w. Gives c w) (λ u w. omega arith)
library_few Dot number [] w is = tt
library_few UDot number (u ∷ c) w is = few_then (length (u ∷ c) + (entry_of UDot).peak) (print_number u false w) (λ u w. Gives c w) (λ u w. omega arith)
library_few UDot number [] w is = tt
library_few Spaces number (n ∷ c) w is = few_then (length (n ∷ c) + (entry_of Spaces).peak) (emit_spaces (positive (signed n)) w) (λ u w. Gives c w) (λ u w. omega arith)
library_few Spaces number [] w is = tt
library_few Fill number (x ∷ u ∷ a ∷ c) w is = few_then (length (x ∷ u ∷ a ∷ c) + (entry_of Fill).peak) (fill u a x w) (λ u w. Gives c w) (λ u w. omega arith)
library_few Fill number [] w is = tt
library_few Fill number (a ∷ []) w is = tt
library_few Fill number (a ∷ b ∷ []) w is = tt
library_few Move number (u ∷ b ∷ a ∷ c) w is = few_then (length (u ∷ b ∷ a ∷ c) + (entry_of Move).peak) (move u a b w) (λ u w. Gives c w) (λ u w. omega arith)
library_few Move number [] w is = tt
library_few Move number (a ∷ []) w is = tt
library_few Move number (a ∷ b ∷ []) w is = tt
library_few Accept number (u ∷ a ∷ c) w is = few_then (length (u ∷ a ∷ c) + (entry_of Accept).peak) (accept u a 0 w) (λ n w. Gives (n ∷ c) w) (λ n w. omega arith)
library_few Accept number [] w is = tt
library_few Accept number (a ∷ []) w is = tt
library_few ToNumber number (u ∷ a ∷ h ∷ l ∷ c) w is =
    few_then (length (u ∷ a ∷ h ∷ l ∷ c) + (entry_of ToNumber).peak) (base w) (λ b w. number_from b u a (double l h) w ▸ λ r. Gives (r.2 ∷ r.1 ∷ put r.0 c))
    (λ b w.
    few_then (length (u ∷ a ∷ h ∷ l ∷ c) + (entry_of ToNumber).peak) (number_from b u a (double l h) w) (λ r w. Gives (r.2 ∷ r.1 ∷ put r.0 c) w)
    (λ r w. omega arith))
library_few ToNumber number [] w is = tt
library_few ToNumber number (a ∷ []) w is = tt
library_few ToNumber number (a ∷ b ∷ []) w is = tt
library_few ToNumber number (a ∷ b ∷ d ∷ []) w is = tt
library_few word number c w is = cc
