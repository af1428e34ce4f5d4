-- What each plain host word of ANS Forth does. Each takes its cells first, the top first, and leaves cells last;
-- a shift is by the count modulo 16.
use Rattle.std.specs.Prelude.{ℕ, ◌+◌, ◌-◌, ◌*◌, ◌/◌, ◌%◌, ◌^◌, bit_and, bit_or, bit_xor}
use Rattle.cell_math.specs.Cell.{sum_of, difference_of, negated}
use Rattle.console_ports.specs.Ports.{even}
use Rattle.host_state.specs.declared.word.HostWord.{HostWord}
use Rattle.host_state.specs.declared.word.HostWord.TheVariants.{Dup, DropTop, Swap, Over, Rot, Plus, Minus, Star, Negate, OnePlus, OneMinus, TwoStar, TwoSlash, And, Or, Xor, Invert, LShift, RShift}
use Rattle.host_state.specs.declared.word.HostWord.TheVariants.{Cells, CellPlus, Chars, CharPlus, Aligned, Align, Here, Comma, CComma, Allot, Fetch, Store, CFetch, CStore, PlusStore, Base, Decimal, Hex, Blank, ToBody}
use Rattle.host_state.specs.declared.refusal.HostRefusal.TheVariants as refusal
use Rattle.host_state.specs.Tokens.{body_of}
use Rattle.host_state.specs.HostCells.{Host, Reply, Gives, ◌▸◌, pop, push, found_or}
use Rattle.host_state.specs.HostMemory.{fetch, store, fetch_byte, store_byte, here, grow_here, align, comma, comma_byte}

-- half of a signed cell, rounded down: the sign stays
abbrev pub half : ℕ → ℕ
half x = x / 2 + x / 32768 * 32768

-- one cell for one, and one for two
abbrev pub on_one : (ℕ → ℕ) → Host → Reply (Unit {0})
on_one f s = pop s ▸ λ x. push (f x)

abbrev pub on_two : (ℕ → ℕ → ℕ) → Host → Reply (Unit {0})
on_two f s = pop s ▸ λ y s. pop s ▸ λ x. push (f x y)

abbrev pub word_done : HostWord → Host → Reply (Unit {0})
-- ---- the stack
word_done Dup s = pop s ▸ λ x s. push x s ▸ λ _. push x
word_done DropTop s = pop s ▸ λ _. Gives tt
word_done Swap s = pop s ▸ λ y s. pop s ▸ λ x s. push y s ▸ λ _. push x
word_done Over s = pop s ▸ λ y s. pop s ▸ λ x s. push x s ▸ λ _ s. push y s ▸ λ _. push x
word_done Rot s = pop s ▸ λ z s. pop s ▸ λ y s. pop s ▸ λ x s. push y s ▸ λ _ s. push z s ▸ λ _. push x
-- ---- arithmetic and logic
word_done Plus s = on_two sum_of s
word_done Minus s = on_two difference_of s
word_done Star s = on_two (λ x y. x * y % 65536) s
word_done And s = on_two bit_and s
word_done Or s = on_two bit_or s
word_done Xor s = on_two bit_xor s
word_done LShift s = on_two (λ x u. x * 2 ^ (u % 16) % 65536) s
word_done RShift s = on_two (λ x u. x / 2 ^ (u % 16)) s
word_done Negate s = on_one negated s
word_done OnePlus s = on_one (λ x. sum_of x 1) s
word_done OneMinus s = on_one (λ x. sum_of x 65535) s
word_done TwoStar s = on_one (λ x. 2 * x % 65536) s
word_done TwoSlash s = on_one half s
word_done Invert s = on_one (λ x. 65535 - x) s
-- ---- addresses
word_done Cells s = on_one (λ x. 2 * x % 65536) s
word_done CellPlus s = on_one (λ x. sum_of x 2) s
word_done Chars s = on_one (λ x. x) s
word_done CharPlus s = on_one (λ x. sum_of x 1) s
word_done Aligned s = on_one (λ x. even (sum_of x 1)) s
-- ---- data space
word_done Fetch s = pop s ▸ λ a s. fetch a s ▸ push
word_done Store s = pop s ▸ λ a s. pop s ▸ λ x. store a x
word_done CFetch s = pop s ▸ λ a s. fetch_byte a s ▸ push
word_done CStore s = pop s ▸ λ a s. pop s ▸ λ x. store_byte a x
word_done PlusStore s = pop s ▸ λ a s. pop s ▸ λ n s. fetch a s ▸ λ x. store a (sum_of x n)
word_done Here s = here s ▸ push
word_done Comma s = pop s ▸ comma
word_done CComma s = pop s ▸ comma_byte
word_done Allot s = pop s ▸ grow_here
word_done Align s = align s
word_done Base s = push s.space.data_start s
word_done Decimal s = store s.space.data_start 10 s
word_done Hex s = store s.space.data_start 16 s
word_done Blank s = push 32 s
-- the data address of the token of a created address or of a child
word_done ToBody s = pop s ▸ λ token s. found_or refusal.NeedsName (body_of s.tokens token) s ▸ push
