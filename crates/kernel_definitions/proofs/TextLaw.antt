-- INTERPRET-WORD reads a word of an open definition.
use Rattle.std.proofs.Common.{ℕ, ◌+◌, ◌*◌, ◌≤◌, List, ◌∷◌, length, sym, subst, arith}
use Rattle.forth_program.specs.Tree.{Nodes}
use Rattle.forth_program.specs.State.{World}
use Rattle.forth_program.specs.Program.{SourceProgram}
use Rattle.kernel_words.specs.Places.{base_cell, length_cell}
use Rattle.kernel_words.specs.Bodies.{kernel_find_body, kernel_number_body}
use Rattle.kernel_words.specs.Running.{Returns}
use Rattle.kernel_words.specs.Memory.{data_cell, data_byte}
use Rattle.kernel_words.specs.Headers.{Header, Headers, find_answer}
use Rattle.kernel_words.specs.Laws.{NamesAreFound, NumbersAreRead, number_answer}
use Rattle.kernel_words.proofs.Runs.{within}
use Rattle.kernel_definitions.specs.Places.{code_of_token}
use Rattle.kernel_definitions.specs.Bodies.{HasDefiningWords, interpret_word_body}
use Rattle.kernel_definitions.specs.TypedItems.{TypedWord, IsNumber, IsCalled, IsIf, IsElse, IsThen, IsBegin, IsUntil, IsWhile, IsRepeat}
use Rattle.kernel_definitions.specs.OpenDefinition.{OpenItems, IsOpen}
use Rattle.kernel_definitions.specs.Compiling.{IsRead, word_body, with_operand}
use Rattle.kernel_definitions.specs.Beginning.{DefinitionsAreBegun}
use Rattle.kernel_definitions.specs.Interpreting.{StandsFor, IsFound, text_at, TextsAreRead, ColonsAreRead, SemicolonsAreRead}
use Rattle.kernel_definitions.proofs.Interpreting.{found_is_interpreted, number_is_interpreted, immediate_is_done, outside_is_done}
use Rattle.kernel_definitions.proofs.Interpreting.{call_is_compiled, number_is_compiled}
use Rattle.kernel_definitions.proofs.Interpreting.{colon_is_done, semicolon_is_done, if_is_done, else_is_done, then_is_done, begin_is_done}
use Rattle.kernel_definitions.proofs.Interpreting.{until_is_done, while_is_done, repeat_is_done}
use Rattle.kernel_definitions.proofs.WordLaw.{words_are_read, definitions_are_ended}

module _ (names : NamesAreFound) (numbers : NumbersAreRead) (p : SourceProgram) (d : HasDefiningWords p) (b : ℕ) (c : List ℕ) (w : World)
    (h a : ℕ) (name : List ℕ) (older : List Header) (items next : OpenItems)
    (o : IsOpen w h a name older items) (low : 2 ≤ data_cell w base_cell) (high : data_cell w base_cell ≤ 36) (from : 8192 ≤ b)
    (to : b + 1 + data_byte w b ≤ 16384) where
  abbrev most : ℕ
  most = 4000 * (length older + 1) + 1000 * (data_byte w b + 1) + 200

  abbrev highest : ℕ
  highest = 4000 * (length older + 1) + 1300 * (data_byte w b + 1) + 500

  found : Returns p kernel_find_body (4000 * (length older + 1)) (4000 * (length older + 1)) (b ∷ c) w
      (find_answer older (text_at w b) b c) w
  found = names p b c w older d.kernel o.space (subst (λ l. Headers w l older) (sym o.latest) o.chain.1) from to

  found_as : (flag code : ℕ) → IsFound older (text_at w b) flag code →
      Returns p kernel_find_body (4000 * (length older + 1)) (4000 * (length older + 1)) (b ∷ c) w (flag ∷ code ∷ c) w
  found_as flag code e = subst (λ cells. Returns p kernel_find_body (4000 * (length older + 1)) (4000 * (length older + 1))
      (b ∷ c) w cells w) (e b c) found

  -- what a word has read, INTERPRET-WORD has
  as_interpreted : (body : Nodes) (c0 : List ℕ) (r : IsRead p body 78 280 c0 w c h a name older next) →
      Returns p interpret_word_body most highest (b ∷ c) w (0 ∷ c) r.after →
      IsRead p interpret_word_body most highest (b ∷ c) w (0 ∷ c) h a name older next
  as_interpreted body c0 r run = record { after = r.after; run = run; console = r.console; still_open = r.still_open; rest = r.rest }

  text_read : (word : TypedWord) → StandsFor older (data_cell w base_cell) (text_at w b) word →
      IsRead p (word_body word) 78 280 (with_operand word c) w c h a name older next →
      IsRead p interpret_word_body most highest (b ∷ c) w (0 ∷ c) h a name older next
  text_read (IsNumber x) s r = as_interpreted _ _ r (λ work es callers. within p
      (9 + 4000 * (length older + 1) + 1000 * (data_byte w b + 1) + (6 + 78))
      (21 + 4000 * (length older + 1) + 1300 * (data_byte w b + 1) + (7 + 280)) (omega arith) (omega arith)
      (number_is_interpreted p d (6 + 78) (7 + 280) c w r.after (4000 * (length older + 1)) (4000 * (length older + 1))
      (1000 * (data_byte w b + 1)) (1300 * (data_byte w b + 1)) b x
      (subst (λ cells. Returns p kernel_find_body (4000 * (length older + 1)) (4000 * (length older + 1)) (b ∷ c) w cells w)
      (s.0 b c) found)
      (subst (λ n. Returns p kernel_number_body (1000 * (data_byte w b + 1)) (1300 * (data_byte w b + 1)) (b ∷ c) w
      (number_answer n b c) w) s.1 (numbers p b c w d.kernel o.space low high from to))
      (number_is_compiled p d 78 280 c w r.after x o.space o.state r.run) work es callers))
  text_read (IsCalled code) s r = as_interpreted _ _ r (λ work es callers. within p (6 + 4000 * (length older + 1) + (9 + 78))
      (17 + 4000 * (length older + 1) + (12 + 280)) (omega arith) (omega arith)
      (found_is_interpreted p d (9 + 78) (12 + 280) c w r.after (4000 * (length older + 1)) (4000 * (length older + 1)) b 65534 code
      (found_as 65535 code s)
      (call_is_compiled p d 78 280 c w r.after code o.space o.state r.run) work es callers))
  text_read IsIf s r = as_interpreted _ _ r (λ work es callers. within p (6 + 4000 * (length older + 1) + (7 + (21 + 78)))
      (17 + 4000 * (length older + 1) + (9 + (31 + 280))) (omega arith) (omega arith)
      (found_is_interpreted p d (7 + (21 + 78)) (9 + (31 + 280)) c w r.after (4000 * (length older + 1)) (4000 * (length older + 1)) b 0
      (code_of_token 7) (found_as 1 (code_of_token 7) s)
      (immediate_is_done p d (21 + 78) (31 + 280) c w r.after (code_of_token 7) o.space
      (if_is_done p d 78 280 c w r.after r.run)) work es callers))
  text_read IsElse s r = as_interpreted _ _ r (λ work es callers. within p (6 + 4000 * (length older + 1) + (7 + (25 + 78)))
      (17 + 4000 * (length older + 1) + (9 + (36 + 280))) (omega arith) (omega arith)
      (found_is_interpreted p d (7 + (25 + 78)) (9 + (36 + 280)) c w r.after (4000 * (length older + 1)) (4000 * (length older + 1)) b 0
      (code_of_token 8) (found_as 1 (code_of_token 8) s)
      (immediate_is_done p d (25 + 78) (36 + 280) c w r.after (code_of_token 8) o.space
      (else_is_done p d 78 280 c w r.after r.run)) work es callers))
  text_read IsThen s r = as_interpreted _ _ r (λ work es callers. within p (6 + 4000 * (length older + 1) + (7 + (29 + 78)))
      (17 + 4000 * (length older + 1) + (9 + (41 + 280))) (omega arith) (omega arith)
      (found_is_interpreted p d (7 + (29 + 78)) (9 + (41 + 280)) c w r.after (4000 * (length older + 1)) (4000 * (length older + 1)) b 0
      (code_of_token 9) (found_as 1 (code_of_token 9) s)
      (immediate_is_done p d (29 + 78) (41 + 280) c w r.after (code_of_token 9) o.space
      (then_is_done p d 78 280 c w r.after r.run)) work es callers))
  text_read IsBegin s r = as_interpreted _ _ r (λ work es callers. within p (6 + 4000 * (length older + 1) + (7 + (33 + 78)))
      (17 + 4000 * (length older + 1) + (9 + (46 + 280))) (omega arith) (omega arith)
      (found_is_interpreted p d (7 + (33 + 78)) (9 + (46 + 280)) c w r.after (4000 * (length older + 1)) (4000 * (length older + 1)) b 0
      (code_of_token 10) (found_as 1 (code_of_token 10) s)
      (immediate_is_done p d (33 + 78) (46 + 280) c w r.after (code_of_token 10) o.space
      (begin_is_done p d 78 280 c w r.after r.run)) work es callers))
  text_read IsUntil s r = as_interpreted _ _ r (λ work es callers. within p (6 + 4000 * (length older + 1) + (7 + (37 + 78)))
      (17 + 4000 * (length older + 1) + (9 + (51 + 280))) (omega arith) (omega arith)
      (found_is_interpreted p d (7 + (37 + 78)) (9 + (51 + 280)) c w r.after (4000 * (length older + 1)) (4000 * (length older + 1)) b 0
      (code_of_token 11) (found_as 1 (code_of_token 11) s)
      (immediate_is_done p d (37 + 78) (51 + 280) c w r.after (code_of_token 11) o.space
      (until_is_done p d 78 280 c w r.after r.run)) work es callers))
  text_read IsWhile s r = as_interpreted _ _ r (λ work es callers. within p (6 + 4000 * (length older + 1) + (7 + (41 + 78)))
      (17 + 4000 * (length older + 1) + (9 + (56 + 280))) (omega arith) (omega arith)
      (found_is_interpreted p d (7 + (41 + 78)) (9 + (56 + 280)) c w r.after (4000 * (length older + 1)) (4000 * (length older + 1)) b 0
      (code_of_token 12) (found_as 1 (code_of_token 12) s)
      (immediate_is_done p d (41 + 78) (56 + 280) c w r.after (code_of_token 12) o.space
      (while_is_done p d 78 280 c w r.after r.run)) work es callers))
  text_read IsRepeat s r = as_interpreted _ _ r (λ work es callers. within p (6 + 4000 * (length older + 1) + (7 + (45 + 78)))
      (17 + 4000 * (length older + 1) + (9 + (61 + 280))) (omega arith) (omega arith)
      (found_is_interpreted p d (7 + (45 + 78)) (9 + (61 + 280)) c w r.after (4000 * (length older + 1)) (4000 * (length older + 1)) b 0
      (code_of_token 13) (found_as 1 (code_of_token 13) s)
      (immediate_is_done p d (45 + 78) (61 + 280) c w r.after (code_of_token 13) o.space
      (repeat_is_done p d 78 280 c w r.after r.run)) work es callers))

pub texts_are_read : NamesAreFound → NumbersAreRead → TextsAreRead
texts_are_read names numbers p word b c w h a name older items next d f o e room few low high from to s =
    text_read names numbers p d b c w h a name older items next o low high from to word s
    (words_are_read p word c w h a name older items next d f o e room few)

pub semicolons_are_read : NamesAreFound → SemicolonsAreRead
semicolons_are_read names p b c w h a name older items d o room from to s =
    let r = definitions_are_ended p c w h a name older items d o room in
    record {
      after = r.after;
      run = λ work es callers. within p (6 + 4000 * (length older + 1) + (7 + (17 + 24))) (17 + 4000 * (length older + 1) + (9 + (26 + 84)))
          (omega arith) (omega arith)
          (found_is_interpreted p d (7 + (17 + 24)) (9 + (26 + 84)) c w r.after (4000 * (length older + 1)) (4000 * (length older + 1)) b 0
          (code_of_token 6)
          (subst (λ cells. Returns p kernel_find_body (4000 * (length older + 1)) (4000 * (length older + 1)) (b ∷ c) w cells w) (s b c)
          (names p b c w older d.kernel o.space (subst (λ l. Headers w l older) (sym o.latest) o.chain.1) from to))
          (immediate_is_done p d (17 + 24) (26 + 84) c w r.after (code_of_token 6) o.space
          (semicolon_is_done p d 24 84 c w r.after r.run)) work es callers);
      console = r.console;
      cells = r.cells;
      here = r.here;
      latest = r.latest;
      chain = r.chain;
      lie = r.lie;
      state = r.state;
      new = r.new;
      rest = r.rest;
    }

pub colons_are_read : NamesAreFound → DefinitionsAreBegun → ColonsAreRead
colons_are_read names begun p b c w first size h a older d outside o from to s =
    let r = begun p c w first size h a older d o in
    let i : ℕ = 76 + 400 * (data_cell w length_cell + 1) in
    let j : ℕ = 991 + 250 * data_cell w length_cell + 160 * size in
    record {
      after = r.after;
      run = λ work es callers. within p (6 + 4000 * (length older + 1) + (7 + (13 + (76 + 400 * (data_cell w length_cell + 1)))))
          (17 + 4000 * (length older + 1) + (9 + (21 + (991 + 250 * data_cell w length_cell + 160 * size)))) (omega arith) (omega arith)
          (found_is_interpreted p d (7 + (13 + (76 + 400 * (data_cell w length_cell + 1))))
          (9 + (21 + (991 + 250 * data_cell w length_cell + 160 * size))) c w r.after (4000 * (length older + 1))
          (4000 * (length older + 1)) b 65534 (code_of_token 5)
          (subst (λ cells. Returns p kernel_find_body (4000 * (length older + 1)) (4000 * (length older + 1)) (b ∷ c) w cells w) (s b c)
          (names p b c w older d.kernel o.space o.chain from to))
          (outside_is_done p d (13 + (76 + 400 * (data_cell w length_cell + 1)))
          (21 + (991 + 250 * data_cell w length_cell + 160 * size)) c w r.after (code_of_token 5) o.space outside
          (colon_is_done p d (76 + 400 * (data_cell w length_cell + 1))
          (991 + 250 * data_cell w length_cell + 160 * size) c w r.after r.run)) work es callers);
      console = r.console;
      open_now = r.open_now;
      latest = r.latest;
      place = r.place;
      rest = r.rest;
    }
