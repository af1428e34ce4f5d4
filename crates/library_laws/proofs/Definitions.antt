-- Each definition does its meaning.
use Rattle.std.proofs.Common.{◌≡◌, ℕ, zero, suc, ◌<◌, true, List, [], ◌∷◌, ◌++◌, length, arith}
use Rattle.std.specs.Prelude.{slice_index_or}
use Rattle.std.specs.List.{list_all}
use Rattle.std.proofs.lemmas.Bool.{and_parts}
use Rattle.word_table.specs.declared.word.Word.{Word}
use Rattle.word_table.specs.declared.word.Word.TheVariants.{QDup, TwoSwap, TwoOver, Abs, Max, Min, TwoSlash, CFetch, CStore, PlusStore, TwoFetch, TwoStore, Count, Comma, CComma, Allot, Align, UMStar, MStar, Star}
use Rattle.word_table.specs.declared.word.Word.TheVariants.{UMSlashMod, SMSlashRem, FMSlashMod, SlashMod, Slash, Mod, StarSlashMod, StarSlash, LessSharp, Hold, Sign, Sharp, SharpGreater, SharpS, Dot, UDot, TypeOut, Spaces, Fill, Move}
use Rattle.word_table.specs.declared.word.Word.TheVariants.{Accept, ToNumber}
use Rattle.forth_program.specs.Tree.{Empty}
use Rattle.library_laws.specs.Bodies.{body_of_word, bodies_of, has_definition}
use Rattle.library_laws.specs.Library.{DefinitionDoes, BodiesMeanWords}
use Rattle.library_laws.proofs.Plain.{question_dup, two_swap, two_over, absolute, maximum, minimum, half, byte_fetch, byte_store, plus_store, two_fetch, two_store, counted, comma, byte_comma, allot, align}
use Rattle.library_laws.proofs.Products.{um_star}
use Rattle.library_laws.proofs.Doubles.{m_star, star}
use Rattle.library_laws.proofs.Quotients.{um_slash_mod}
use Rattle.library_laws.proofs.Symmetric.{sm_slash_rem}
use Rattle.library_laws.proofs.Floored.{fm_slash_mod}
use Rattle.library_laws.proofs.Floors.{slash_mod, slash, modulus, star_slash_mod, star_slash}
use Rattle.library_laws.proofs.Pictures.{less_sharp, holds, signs, sharp, sharp_greater}
use Rattle.library_laws.proofs.Digits.{sharp_s, dot, u_dot}
use Rattle.library_laws.proofs.ByteLoops.{type_out_comes, spaces_comes, fill_comes, move_comes}
use Rattle.library_laws.proofs.AcceptBody.{accept_comes}
use Rattle.library_laws.proofs.Numbers.{to_number_comes}

pub definitions_do : (word : Word) → has_definition word ≡ true → DefinitionDoes (body_of_word word) word
definitions_do QDup e = question_dup
definitions_do TwoSwap e = two_swap
definitions_do TwoOver e = two_over
definitions_do Abs e = absolute
definitions_do Max e = maximum
definitions_do Min e = minimum
definitions_do TwoSlash e = half
definitions_do CFetch e = byte_fetch
definitions_do CStore e = byte_store
definitions_do PlusStore e = plus_store
definitions_do TwoFetch e = two_fetch
definitions_do TwoStore e = two_store
definitions_do Count e = counted
definitions_do Comma e = comma
definitions_do CComma e = byte_comma
definitions_do Allot e = allot
definitions_do Align e = align
definitions_do UMStar e = um_star
definitions_do MStar e = m_star
definitions_do Star e = star
definitions_do UMSlashMod e = um_slash_mod
definitions_do SMSlashRem e = sm_slash_rem
definitions_do FMSlashMod e = fm_slash_mod
definitions_do SlashMod e = slash_mod
definitions_do Slash e = slash
definitions_do Mod e = modulus
definitions_do StarSlashMod e = star_slash_mod
definitions_do StarSlash e = star_slash
definitions_do LessSharp e = less_sharp
definitions_do Hold e = holds
definitions_do Sign e = signs
definitions_do Sharp e = sharp
definitions_do SharpGreater e = sharp_greater
definitions_do SharpS e = sharp_s
definitions_do Dot e = dot
definitions_do UDot e = u_dot
definitions_do TypeOut e = type_out_comes
definitions_do Spaces e = spaces_comes
definitions_do Fill e = fill_comes
definitions_do Move e = move_comes
definitions_do Accept e = accept_comes
definitions_do ToNumber e = to_number_comes
definitions_do word e = let no : ⊥ = cc in absurd no

-- the bodies of words that have definitions do their meanings
pub bodies_mean : BodiesMeanWords
bodies_mean words more h = record { each = λ k below. each words h k below }
  where
    each : (words : List Word) → list_all has_definition words ≡ true → (k : ℕ) → k < length words → DefinitionDoes (slice_index_or (bodies_of words ++ more) k Empty) (slice_index_or words k QDup)
    each [] h k below = absurd (omega (arith, below))
    each (word ∷ words) h zero below = definitions_do word (and_parts (has_definition word) (list_all has_definition words) h).0
    each (word ∷ words) h (suc k) below = each words (and_parts (has_definition word) (list_all has_definition words) h).1 k (omega (arith, below))
