-- Lines of host words, as the checker computes them.
use Rattle.std.proofs.Common.{◌≡◌, [], ◌∷◌, ◌++◌, replicate, refl}
use Rattle.std.specs.Prelude.{ℕ, true, false, codes, List}
use Rattle.word_table.specs.declared.word.Word.TheVariants.{Dup as dup_word}
use Rattle.host_state.specs.declared.word.HostWord.TheVariants.{Cells, Comma, CComma, Fetch, Here, Allot, ToBody}
use Rattle.host_state.specs.declared.word.HostItem.TheVariants as item
use Rattle.host_state.specs.declared.entry.Known.{Known}
use Rattle.host_state.specs.declared.entry.Known.TheVariants.{Address, Child}
use Rattle.host_state.specs.declared.entry.Ticked.{Ticked}
use Rattle.host_state.specs.declared.entry.Ticked.TheVariants as ticked
use Rattle.host_state.specs.declared.refusal.HostRefusal.TheVariants as refusal
use Rattle.host_state.specs.HostCells.{Host, Reply, Gives, Refuses, ◌▸◌, pop, push}
use Rattle.host_state.specs.HostMemory.{first_space, check_here}
use Rattle.host_state.specs.HostWords.{word_done}
use Rattle.host_state.specs.Naming.{created, defined_by, tick, string_laid, code_cells}
use Rattle.host_state.specs.FirstImage.{image_of}

entry : ℕ → Known → Ticked
entry number known = ticked.Entry (record { number = number; known = known })

first : Host
first = record { stack = []; space = first_space 8192; tokens = [] }

-- 5 CONSTANT FIVE
five : (push 5 first ▸ λ _. pop) ≡ Gives 5 first
unfolding first
five = refl

-- CREATE T 7 , ' T >BODY @ CONSTANT S
body : (created first ▸ λ t s. push 7 s ▸ λ _ s. word_done Comma s ▸ λ _ s. tick (entry 0 (Address t)) s ▸ λ token s. push token.0 s ▸ λ _ s. word_done ToBody s ▸ λ _ s. word_done Fetch s ▸ λ _. pop) ≡
    Gives 7 (record { stack = []; space = record { data_start = 8192; cells = 10 ∷ 8288 ∷ 8322 ∷ [] ++ replicate 61 0 ++ 7 ∷ [] }; tokens = entry 0 (Address 8320) ∷ [] })
unfolding first entry
body = refl

-- : CELL-OF CREATE , DOES> @ ; 42 CELL-OF ANSWER
answer : (push 42 first ▸ λ _. defined_by (item.Word Comma ∷ [])) ≡
    Gives 8320 (record { stack = []; space = record { data_start = 8192; cells = 10 ∷ 8288 ∷ 8322 ∷ [] ++ replicate 61 0 ++ 42 ∷ [] }; tokens = [] })
unfolding first
answer = refl

-- : ARRAY CREATE CELLS ALLOT DOES> SWAP CELLS + ; 4 ARRAY SQ
array : (push 4 first ▸ λ _. defined_by (item.Word Cells ∷ item.Word Allot ∷ [])) ≡
    Gives 8320 (record { stack = []; space = record { data_start = 8192; cells = 10 ∷ 8288 ∷ 8328 ∷ [] }; tokens = [] })
unfolding first
array = refl

-- ' DUP ' X ' DUP: a word has one token
one_token : (tick (ticked.Word dup_word) first ▸ λ _ s. tick (entry 3 (Child 1 8320)) s ▸ λ _. tick (ticked.Word dup_word)) ≡
    Gives (1, false) (record { stack = []; space = first_space 8192; tokens = ticked.Word dup_word ∷ entry 3 (Child 1 8320) ∷ [] })
unfolding first entry
one_token = refl

-- >BODY of a cell that is no token; @ on no cell; 0 @
no_body : (push 5 first ▸ λ _. word_done ToBody) ≡ Refuses refusal.NeedsName
unfolding first
no_body = refl

no_cell : word_done Fetch first ≡ Refuses refusal.HostUnderflow
unfolding first
no_cell = refl

outside : (push 0 first ▸ λ _. word_done Fetch) ≡ Refuses refusal.DataFull
unfolding first
outside = refl

-- -1 ALLOT
below : (push 65535 first ▸ λ _ s. word_done Allot s ▸ λ _. check_here) ≡ Refuses refusal.DataFull
unfolding first
below = refl

-- 1 CODE-CELLS, and 3000 CODE-CELLS HERE
no_split : (push 1 first ▸ λ _. code_cells true) ≡ Refuses refusal.BadSplit
unfolding first
no_split = refl

split : (push 3000 first ▸ λ _ s. code_cells true s ▸ λ _ s. word_done Here s ▸ λ _. pop) ≡ Gives 6128 (record { stack = []; space = first_space 6000; tokens = [] })
unfolding first
split = refl

-- the image of a source that lays down one byte and a string
image_left : Reply (List ℕ) → List ℕ
image_left (Gives bytes s) = bytes
image_left (Refuses cause) = []

laid : image_left (push 65 first ▸ λ _ s. word_done CComma s ▸ λ _ s. string_laid (codes "BC") s ▸ λ _ s. Gives (image_of s.space) s) ≡
    10 ∷ 0 ∷ 0x60 ∷ 0x20 ∷ 0x83 ∷ 0x20 ∷ [] ++ replicate 122 0 ++ codes "ABC"
unfolding first image_left
laid = refl

-- CREATE B CHAR a C, CHAR b C, CHAR c C, 0 C,
byte_laid : ℕ → Host → Reply (Unit {0})
byte_laid c s = push c s ▸ λ _. word_done CComma

four_bytes : (created first ▸ λ b s. byte_laid 97 s ▸ λ _ s. byte_laid 98 s ▸ λ _ s. byte_laid 99 s ▸ λ _ s. byte_laid 0 s ▸ λ _. Gives b) ≡
    Gives 8320 (record { stack = []; space = record { data_start = 8192; cells = 10 ∷ 8288 ∷ 8324 ∷ [] ++ replicate 61 0 ++ 25185 ∷ 99 ∷ [] }; tokens = [] })
unfolding first byte_laid
four_bytes = refl
