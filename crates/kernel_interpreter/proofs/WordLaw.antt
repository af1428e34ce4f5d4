-- STRUCTURE, FOUND, PUT and INTERPRET-WORD.
use Rattle.std.proofs.Common.{◌≡◌, ◌≢◌, ℕ, zero, suc, ◌+◌, ◌-◌, ◌*◌, ◌/◌, ◌≤◌, ◌<◌, ◌==◌, Bool, true, false, Option, Some, None, List, []}
use Rattle.std.proofs.Common.{◌∷◌, length, refl, ap, sym, ◌∙◌, subst, arith, leb-true}
use Rattle.std.specs.Prelude.{nat_le, ◌&&◌, if◌then◌else◌}
use Rattle.std.specs.Str.{str_eq_ignore_ascii_case}
use Rattle.cell_math.specs.Cell.{flag}
use Rattle.word_table.specs.declared.word.Word.TheVariants.{Fetch}
use Rattle.forth_reader.specs.declared.number.NumberRead.{NumberRead}
use Rattle.forth_reader.specs.declared.number.NumberRead.TheVariants.{Value, Range, NotNumber}
use Rattle.forth_reader.specs.Number.{is_digit, digits_value, signed_cell, digits_read, signed_read, based_read}
use Rattle.std.specs.List.{list_all}
use Rattle.forth_program.specs.State.{World, State, Work, Entry, Frame, Gives, ◌▸◌}
use Rattle.forth_program.specs.Access.{fetch}
use Rattle.forth_program.specs.Program.{SourceProgram, body_of}
use Rattle.forth_program.specs.Step.{before, step}
use Rattle.forth_program.specs.Run.{steps}
use Rattle.forth_program.specs.Price.{spent}
use Rattle.kernel_words.specs.Places.{base_cell, error_cell, kernel_find_place, kernel_number_place}
use Rattle.kernel_words.specs.Bodies.{items, kernel_find_body, kernel_number_body}
use Rattle.kernel_words.specs.Running.{Comes, Returns}
use Rattle.kernel_words.specs.Memory.{IsDataSpace, data_cell, data_byte, data_bytes, with_data_cell}
use Rattle.kernel_words.specs.Headers.{Header, find_answer}
use Rattle.kernel_words.specs.Laws.{NamesAreFound, NumbersAreRead, number_answer}
use Rattle.kernel_words.proofs.Cases.{by_cases}
use Rattle.kernel_words.proofs.Runs.{by_way, by_word, by_call, there, within}
use Rattle.kernel_words.proofs.Memory.{reads}
use Rattle.kernel_words.proofs.Scanning.{skip}
use Rattle.kernel_lines.specs.Places.{state_cell}
use Rattle.kernel_definitions.specs.Places.{fail_place, push_user_place, structure_place, found_place, put_place}
use Rattle.kernel_interpreter.specs.Bodies.{IsInterpreter, Structure, structures, push_user_body}
use Rattle.kernel_interpreter.proofs.Choices.{choices}
use Rattle.kernel_definitions.specs.Bodies.{structure_body, found_body, put_body, interpret_word_body}
use Rattle.kernel_interpreter.specs.Laws.{token_at, newest_named, structure_with, MeetsName, WordsAreFound, StructuresAreDone}
use Rattle.kernel_interpreter.specs.Laws.{NumbersAreTaken, UnknownWordsFail}
use Rattle.kernel_interpreter.proofs.Changes.{changed, fails}
use Rattle.kernel_interpreter.proofs.UserCellLaw.{user_cells_are_pushed}

-- ---- what K-FIND answers
abbrev flag_of : Bool → ℕ
flag_of immediate = if immediate then 1 else 65535

abbrev answer_by : Option Header → ℕ → List ℕ → List ℕ
answer_by None a c = 0 ∷ a ∷ c
answer_by (Some header) a c = flag_of header.immediate ∷ header.code ∷ c

find_is : (headers : List Header) (name : List ℕ) (a : ℕ) (c : List ℕ) →
    find_answer headers name a c ≡ answer_by (newest_named headers name) a c
find_is [] name a c = refl
find_is (header ∷ older) name a c = by (str_eq_ignore_ascii_case header.name name) (find_is older name a c)
  where
    by : (t : Bool) → find_answer older name a c ≡ answer_by (newest_named older name) a c →
        (if t then (flag_of header.immediate ∷ header.code ∷ c) else find_answer older name a c)
        ≡ answer_by (if t then Some header else newest_named older name) a c
    by true same = refl
    by false same = same

-- ---- numbers are cells
abbrev Small : NumberRead → Type 0
Small (Value x) = x < 65536
Small other = Unit {0}

cell_small : (s : Bool) (v : ℕ) → Small (signed_cell s v)
cell_small false v = by (nat_le v 65535) refl
  where
    by : (t : Bool) → nat_le v 65535 ≡ t → Small (elim t [ true ↦ Value v | false ↦ Range ])
    by true e = omega (arith, leb-true v 65535 e)
    by false e = tt
cell_small true zero = omega arith
cell_small true (suc v) = by (nat_le (suc v) 32768) (suc v == 0)
  where
    by : (t u : Bool) → Small (elim t [ true ↦ elim u [ true ↦ Value 0 | false ↦ Value (65536 - suc v) ] | false ↦ Range ])
    by true true = omega arith
    by true false = omega arith
    by false u = tt

digits_small : (base : ℕ) (s : Bool) (text : List ℕ) → Small (digits_read base s text)
digits_small base s [] = tt
digits_small base s (b ∷ bs) = by (list_all (is_digit base) (b ∷ bs))
  where
    by : (t : Bool) → Small (elim t [ true ↦ signed_cell s (digits_value base (b ∷ bs)) | false ↦ NotNumber ])
    by true = cell_small s (digits_value base (b ∷ bs))
    by false = tt

signed_small : (base : ℕ) (text : List ℕ) → Small (signed_read base text)
signed_small base [] = tt
signed_small base (b ∷ bs) = by (b == 45)
  where
    by : (t : Bool) → Small (elim t [ true ↦ digits_read base true bs | false ↦ digits_read base false (b ∷ bs) ])
    by true = digits_small base true bs
    by false = digits_small base false (b ∷ bs)

number_small : (base : ℕ) (text : List ℕ) (x : ℕ) → based_read base text ≡ Value x → x < 65536
number_small base text x e = subst Small e (by (nat_le 2 base && nat_le base 36))
  where
    by : (t : Bool) → Small (elim t [ true ↦ signed_read base text | false ↦ NotNumber ])
    by true = signed_small base text
    by false = tt

no_number : (r : NumberRead) (a : ℕ) (c : List ℕ) → ((x : ℕ) → r ≢ Value x) → number_answer r a c ≡ 0 ∷ a ∷ c
no_number (Value x) a c f = absurd (f x refl)
no_number Range a c f = refl
no_number NotNumber a c f = refl

-- ---- STRUCTURE
abbrev definition_of : Option Structure → ℕ
definition_of None = 0
definition_of (Some one) = one.definition

module _ (p : SourceProgram) (w : World) (code : ℕ) (c : List ℕ) (work : List Work) (es : List Entry) (callers : List Frame) where
  abbrev choosing : List Structure → ℕ → State
  choosing list token = record {
    work = before (items (choices list)) [];
    entries = [];
    callers = record { work = work; entries = es } ∷ callers;
    cells = token ∷ code ∷ c;
    world = w;
  }

  abbrev left : List ℕ → World → State
  left cells after = record { work = work; entries = es; callers = callers; cells = cells; world = after }

  chosen_none : (list : List Structure) (token : ℕ) → structure_with list token ≡ None →
      Comes p (4 * length list + 2) (5 * length list + 2) (choosing list token) (left (code ∷ c) w)
  unfolding step steps spent
  chosen_none [] token e = by_way p 2 0 0 refl (omega arith) (omega arith) (there p)
  chosen_none (one ∷ others) token e =
      by_way p 3 (4 * length others + 3) (5 * length others + 3) refl (omega arith) (omega arith) (by_cases (token == one.token)
      (λ t. let both : Some one ≡ None = subst (λ b. (if b then Some one else structure_with others token) ≡ None) t e in
      let no : ⊥ = cc in absurd no)
      (λ t. rw t (by_way p 1 (4 * length others + 2) (5 * length others + 2) refl (omega arith) (omega arith)
      (chosen_none others token (subst (λ b. (if b then Some one else structure_with others token) ≡ None) t e)))))

  chosen_some : (list : List Structure) (token : ℕ) (it : Structure) (i j : ℕ) (c' : List ℕ) (w' : World) →
      structure_with list token ≡ Some it →
      Returns p (body_of p it.definition) i j c w c' w' →
      Comes p (4 * length list + 4 + i) (5 * length list + 6 + j) (choosing list token) (left (0 ∷ c') w')
  unfolding step steps spent
  chosen_some [] token it i j c' w' e r = let no : ⊥ = cc in absurd no
  chosen_some (one ∷ others) token it i j c' w' e r =
      by_way p 3 (4 * length others + 5 + i) (5 * length others + 7 + j) refl (omega arith) (omega arith) (by_cases (token == one.token)
      (λ t. rw t (by_way p 2 (3 + i) (4 + j) refl (omega arith) (omega arith)
      (by_call p one.definition i j 2 3 refl
      (subst (λ d. Returns p (body_of p d) i j c w c' w')
      (sym (ap definition_of (subst (λ b. (if b then Some one else structure_with others token) ≡ Some it) t e))) r) refl (omega arith)
      (omega arith)
      (by_way p 2 0 0 refl (omega arith) (omega arith) (there p)))))
      (λ t. rw t (by_way p 1 (4 * length others + 4 + i) (5 * length others + 6 + j) refl (omega arith) (omega arith)
      (chosen_some others token it i j c' w' (subst (λ b. (if b then Some one else structure_with others token) ≡ Some it) t e) r))))

structure_left : (p : SourceProgram) (w : World) (code : ℕ) (c : List ℕ) → structure_with structures (token_at code) ≡ None →
    Returns p structure_body 43 57 (code ∷ c) w (code ∷ c) w
unfolding step steps spent
structure_left p w code c e work es callers = by_way p 5 38 47 refl (omega arith) (omega arith)
    (chosen_none p w code c work es callers structures (token_at code) e)

structure_done : (p : SourceProgram) (w : World) (code : ℕ) (c : List ℕ) (it : Structure) (i j : ℕ) (c' : List ℕ) (w' : World) →
    structure_with structures (token_at code) ≡ Some it →
    Returns p (body_of p it.definition) i j c w c' w' → Returns p structure_body (45 + i) (61 + j) (code ∷ c) w (0 ∷ c') w'
unfolding step steps spent
structure_done p w code c it i j c' w' e r work es callers =
    by_way p 5 (40 + i) (51 + j) refl (omega arith) (omega arith)
    (chosen_some p w code c work es callers structures (token_at code) it i j c' w' e r)

-- ---- FOUND and PUT, outside definitions
module _ (p : SourceProgram) (k : IsInterpreter p) (w : World) (h : IsDataSpace w) (outside : data_cell w state_cell ≡ 0) where
  reads_state : (c : List ℕ) → (fetch state_cell w ▸ λ x. Gives (x ∷ c)) ≡ Gives (0 ∷ c) w
  reads_state c = reads w state_cell c h (omega arith) (omega arith) ∙ ap (λ x. Gives (x ∷ c) w) outside

  found_returns : (i : Bool) (code : ℕ) (c : List ℕ) (m d : ℕ) (c' : List ℕ) (w' : World) →
      Returns p structure_body m d (code ∷ c) w c' w' →
      Returns p found_body (7 + m) (9 + d) (flag_of i ∷ code ∷ c) w c' w'
  unfolding step steps spent
  found_returns true code c m d c' w' r work es callers =
      by_way p 2 (5 + m) (5 + d) refl (omega arith) (omega arith)
      (by_word p Fetch (4 + m) (4 + d) (reads_state (0 ∷ code ∷ c)) refl (omega arith) (omega arith)
      (by_way p 2 (2 + m) (2 + d) refl (omega arith) (omega arith)
      (by_call p structure_place m d 1 1 k.structure r refl (omega arith) (omega arith)
      (by_way p 1 0 0 refl (omega arith) (omega arith) (there p)))))
  found_returns false code c m d c' w' r work es callers =
      by_way p 2 (5 + m) (5 + d) refl (omega arith) (omega arith)
      (by_word p Fetch (4 + m) (4 + d) (reads_state (65535 ∷ code ∷ c)) refl (omega arith) (omega arith)
      (by_way p 2 (2 + m) (2 + d) refl (omega arith) (omega arith)
      (by_call p structure_place m d 1 1 k.structure r refl (omega arith) (omega arith)
      (by_way p 1 0 0 refl (omega arith) (omega arith) (there p)))))

  put_returns : (x : ℕ) (c : List ℕ) (w' : World) → Returns p push_user_body 11 18 (x ∷ c) w c w' → Returns p put_body 16 24 (x ∷ c) w c w'
  unfolding step steps spent
  put_returns x c w' r work es callers =
      by_way p 1 15 22 refl (omega arith) (omega arith)
      (by_word p Fetch 14 21 (reads_state (x ∷ c)) refl (omega arith) (omega arith)
      (by_way p 1 13 20 refl (omega arith) (omega arith)
      (by_call p push_user_place 11 18 1 1 k.push_user r refl (omega arith) (omega arith)
      (by_way p 1 0 0 refl (omega arith) (omega arith) (there p)))))

-- ---- INTERPRET-WORD
module _ (p : SourceProgram) (k : IsInterpreter p) (w : World) (headers : List Header) (a : ℕ) (name : List ℕ)
    (m : MeetsName w headers a name) (named : NamesAreFound) (read : NumbersAreRead) (c : List ℕ) where
  abbrev finding : ℕ
  finding = 4000 * (length headers + 1)

  finds : (o : Option Header) → newest_named headers name ≡ o → Returns p kernel_find_body finding finding (a ∷ c) w (answer_by o a c) w
  finds o e = subst (λ cells. Returns p kernel_find_body finding finding (a ∷ c) w cells w)
      (ap (λ text. find_answer headers text a c) m.text ∙ find_is headers name a c ∙ ap (λ o. answer_by o a c) e)
      (named p a c w headers k.words m.space m.list m.low m.high)

  word_is_found : (header : Header) (x d : ℕ) (c' : List ℕ) (w' : World) → newest_named headers name ≡ Some header →
      Returns p structure_body x d (header.code ∷ c) w c' w' →
      Returns p interpret_word_body (finding + 13 + x) (finding + 26 + d) (a ∷ c) w c' w'
  unfolding step steps spent
  word_is_found header x d c' w' e r work es callers =
      by_call p kernel_find_place finding finding (12 + x) (25 + d) k.words.kernel_find (finds (Some header) e) refl (omega arith)
      (omega arith) (by header.immediate)
    where
      by : (i : Bool) → Comes p (12 + x) (25 + d)
          (record {
            work = before (skip 1 interpret_word_body) [];
            entries = [];
            callers = record { work = work; entries = es } ∷ callers;
            cells = flag_of i ∷ header.code ∷ c;
            world = w;
          })
          (record { work = work; entries = es; callers = callers; cells = c'; world = w' })
      by true = by_way p 2 (10 + x) (12 + d) refl (omega arith) (omega arith)
          (by_call p found_place (7 + x) (9 + d) 2 2 k.found (found_returns p k w m.space m.outside true header.code c x d c' w' r) refl
          (omega arith) (omega arith)
          (by_way p 2 0 0 refl (omega arith) (omega arith) (there p)))
      by false = by_way p 2 (10 + x) (12 + d) refl (omega arith) (omega arith)
          (by_call p found_place (7 + x) (9 + d) 2 2 k.found (found_returns p k w m.space m.outside false header.code c x d c' w' r) refl
          (omega arith) (omega arith)
          (by_way p 2 0 0 refl (omega arith) (omega arith) (there p)))

  module _ (none : newest_named headers name ≡ None) (low : 2 ≤ data_cell w base_cell) (high : data_cell w base_cell ≤ 36) where
    abbrev reading : ℕ
    reading = data_byte w a + 1

    reads_number : (cells : List ℕ) → number_answer (based_read (data_cell w base_cell) name) a c ≡ cells →
        Returns p kernel_number_body (1000 * reading) (1300 * reading) (a ∷ c) w cells w
    reads_number cells e = subst (λ cells. Returns p kernel_number_body (1000 * reading) (1300 * reading) (a ∷ c) w cells w)
        (ap (λ text. number_answer (based_read (data_cell w base_cell) text) a c) m.text ∙ e)
        (read p a c w k.words m.space low high m.low m.high)

    number_is_put : (x : ℕ) (w' : World) → based_read (data_cell w base_cell) name ≡ Value x →
        Returns p push_user_body 11 18 (x ∷ c) w c w' →
        Returns p interpret_word_body (finding + 1000 * reading + 30) (finding + 1300 * reading + 50) (a ∷ c) w (0 ∷ c) w'
    unfolding step steps spent
    number_is_put x w' e r work es callers =
        by_call p kernel_find_place finding finding (1000 * reading + 24) (1300 * reading + 44) k.words.kernel_find (finds None none) refl
        (omega arith) (omega arith)
        (by_way p 2 (1000 * reading + 22) (1300 * reading + 31) refl (omega arith) (omega arith)
        (by_call p kernel_number_place (1000 * reading) (1300 * reading) 21 30 k.words.kernel_number
        (reads_number (65535 ∷ x ∷ c) (ap (λ r. number_answer r a c) e)) refl (omega arith) (omega arith)
        (by_way p 1 20 29 refl (omega arith) (omega arith)
        (by_call p put_place 16 24 3 4 k.put (put_returns p k w m.space m.outside x c w' r) refl (omega arith) (omega arith)
        (by_way p 3 0 0 refl (omega arith) (omega arith) (there p))))))

    word_fails : ((x : ℕ) → based_read (data_cell w base_cell) name ≢ Value x) →
        Returns p interpret_word_body (finding + 1000 * reading + 30) (finding + 1300 * reading + 50) (a ∷ c) w (0 ∷ c)
        (with_data_cell error_cell 1 w)
    unfolding step steps spent
    word_fails f work es callers =
        by_call p kernel_find_place finding finding (1000 * reading + 24) (1300 * reading + 44) k.words.kernel_find (finds None none) refl
        (omega arith) (omega arith)
        (by_way p 2 (1000 * reading + 22) (1300 * reading + 31) refl (omega arith) (omega arith)
        (by_call p kernel_number_place (1000 * reading) (1300 * reading) 21 30 k.words.kernel_number
        (reads_number (0 ∷ a ∷ c) (no_number (based_read (data_cell w base_cell) name) a c f)) refl (omega arith) (omega arith)
        (by_way p 2 18 27 refl (omega arith) (omega arith)
        (by_call p fail_place 4 7 2 3 k.fail (fails p 1 c w m.space) refl (omega arith) (omega arith)
        (by_way p 2 0 0 refl (omega arith) (omega arith) (there p))))))

pub words_are_found : NamesAreFound → NumbersAreRead → WordsAreFound
words_are_found named read p a name c w headers header k m e none work es callers =
    within p (4000 * (length headers + 1) + 13 + 43) (4000 * (length headers + 1) + 26 + 57) (omega arith) (omega arith)
    (word_is_found p k w headers a name m named read c header 43 57 (header.code ∷ c) w e
    (structure_left p w header.code c none) work es callers)

pub structures_are_done : NamesAreFound → NumbersAreRead → StructuresAreDone
structures_are_done named read p a name c w headers header one most highest c' w' k m e some r work es callers =
    within p (4000 * (length headers + 1) + 13 + (45 + most)) (4000 * (length headers + 1) + 26 + (61 + highest)) (omega arith)
    (omega arith)
    (word_is_found p k w headers a name m named read c header (45 + most) (61 + highest) (0 ∷ c') w' e
    (structure_done p w header.code c one most highest c' w' some r) work es callers)

pub numbers_are_taken : NamesAreFound → NumbersAreRead → NumbersAreTaken
numbers_are_taken named read p a name c w headers x user k m none low high e u few =
    let pushed = user_cells_are_pushed p x user c w m.space (number_small (data_cell w base_cell) name x e) u few in
    record {
      after = pushed.after;
      run = number_is_put p k w headers a name m named read c none low high x pushed.after e pushed.run;
      change = pushed.change;
      cells = pushed.cells;
    }

pub unknown_words_fail : NamesAreFound → NumbersAreRead → UnknownWordsFail
unknown_words_fail named read p a name c w headers k m none low high f = record {
  after = with_data_cell error_cell 1 w;
  run = word_fails p k w headers a name m named read c none low high f;
  change = changed w error_cell 1 m.space (omega arith) (omega arith) (omega arith);
}
