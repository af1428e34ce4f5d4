-- A word is read, `;` ends a definition, and other words keep it open.
use Rattle.std.proofs.Common.{◌≡◌, ℕ, suc, ◌+◌, ◌-◌, ◌≤◌, ◌<◌, false, Some, List, [], ◌∷◌, refl, sym, ◌∙◌, subst, arith}
use Rattle.forth_program.specs.Tree.{Nodes}
use Rattle.forth_program.specs.State.{World}
use Rattle.forth_program.specs.Program.{SourceProgram}
use Rattle.kernel_words.specs.Places.{here_cell, latest_cell}
use Rattle.kernel_words.specs.Running.{Returns}
use Rattle.kernel_words.specs.Memory.{with_data_cell}
use Rattle.kernel_words.specs.Headers.{Header}
use Rattle.kernel_words.proofs.Memory.{cell_fits}
use Rattle.kernel_lines.specs.Places.{state_cell, new_cell, open_count_cell}
use Rattle.kernel_definitions.specs.Bodies.{HasDefiningWords, kernel_semicolon_body}
use Rattle.kernel_definitions.specs.Stores.{stored, laid, HasRoom}
use Rattle.kernel_definitions.specs.TypedItems.{TypedItems, items_size, TypedWord, IsNumber, IsCalled, IsIf, IsElse, IsThen, IsBegin}
use Rattle.kernel_definitions.specs.TypedItems.{IsUntil, IsWhile, IsRepeat}
use Rattle.kernel_definitions.specs.OpenDefinition.{OpenStructure, InIf, InElse, InBegin, InWhile, OpenItems, after_word, inner, end_of}
use Rattle.kernel_definitions.specs.OpenDefinition.{entries, IsOpen}
use Rattle.kernel_definitions.specs.Compiling.{IsRead, word_body, with_operand, OperandFits, WordsAreRead, DefinitionsAreEnded, OpenStays}
use Rattle.kernel_definitions.proofs.Stores.{AreCells, stored_keep, missed, hit}
use Rattle.kernel_definitions.proofs.Structures.{semicolon_returns}
use Rattle.kernel_definitions.proofs.Standing.{Alike, items_kept, outer_kept, entries_kept, chain_kept}
use Rattle.kernel_definitions.proofs.Changes.{by_laid}
use Rattle.kernel_definitions.proofs.Reading.{ends, items_then, less_one, called_read, number_read, if_read, begin_read}
use Rattle.kernel_definitions.proofs.Closing.{until_read, then_read, else_then_read, else_read, while_read, repeat_read}

-- ---- a word
module _ (p : SourceProgram) (w : World) (h a : ℕ) (name : List ℕ) (older : List Header) where
  same_items : (first next : OpenItems) → Some first ≡ Some next → first ≡ next
  same_items first next e = cc

  as_next : (body : Nodes) (c c' : List ℕ) (first next : OpenItems) → Some first ≡ Some next →
      (end_of first a ≤ 16384 → entries first.around ≤ 16 → IsRead p body 78 280 c w c' h a name older first) →
      end_of next a ≤ 16384 → entries next.around ≤ 16 → IsRead p body 78 280 c w c' h a name older next
  as_next body c c' first next e r = subst (λ next. end_of next a ≤ 16384 → entries next.around ≤ 16 →
      IsRead p body 78 280 c w c' h a name older next) (same_items first next e) r

  word_read : (d : HasDefiningWords p) (word : TypedWord) (around : List OpenStructure) (done : TypedItems) (next : OpenItems)
      (c : List ℕ) → OperandFits word → IsOpen w h a name older (record { around = around; done = done }) →
      after_word word around done ≡ Some next → end_of next a ≤ 16384 → entries next.around ≤ 16 →
      IsRead p (word_body word) 78 280 (with_operand word c) w c h a name older next
  word_read d (IsNumber x) around done next c f o e = as_next _ _ _ _ next e
      (λ high few. number_read p d c w h a name older x around done f o high)
  word_read d (IsCalled address) around done next c f o e =
      as_next _ _ _ _ next e (λ high few. called_read p d c w h a name older address around done f o high)
  word_read d IsIf around done next c f o e = as_next _ _ _ _ next e (λ high few. if_read p d c w h a name older around done o high few)
  word_read d IsBegin around done next c f o e = as_next _ _ _ _ next e
      (λ high few. begin_read p d c w h a name older around done o high few)
  word_read d IsElse (InIf before ∷ outer) done next c f o e =
      as_next _ _ _ _ next e (λ high few. else_read p d c w h a name older outer before done o high)
  word_read d IsThen (InIf before ∷ outer) done next c f o e =
      as_next _ _ _ _ next e (λ high few. then_read p d c w h a name older outer before done o high)
  word_read d IsThen (InElse before first ∷ outer) done next c f o e =
      as_next _ _ _ _ next e (λ high few. else_then_read p d c w h a name older outer before first done o high)
  word_read d IsUntil (InBegin before ∷ outer) done next c f o e =
      as_next _ _ _ _ next e (λ high few. until_read p d c w h a name older outer before done o high)
  word_read d IsWhile (InBegin before ∷ outer) done next c f o e =
      as_next _ _ _ _ next e (λ high few. while_read p d c w h a name older outer before done o high few)
  word_read d IsRepeat (InWhile before test ∷ outer) done next c f o e =
      as_next _ _ _ _ next e (λ high few. repeat_read p d c w h a name older outer before test done o high)
  word_read d word around done next c f o e = absurd cc

pub words_are_read : WordsAreRead
words_are_read p word c w h a name older items next d f o e high few =
    word_read p w h a name older d word items.around items.done next c f o e high few

-- ---- `;`
pub definitions_are_ended : DefinitionsAreEnded
definitions_are_ended p c w h a name older items d o high =
    let at = ends [] items a o.even in
    let ev = at.even_end in
    let low = o.low in
    let e : suc (h - 1) ≡ h = sym (less_one h o.some) in
    let fits : h < 65536 = (let k = cell_fits w new_cell o.space in let n = o.new in omega (arith, k, n)) in
    let room : HasRoom w (a + items_size items) 2 = record {
      space = o.space;
      here = o.here;
      even = ev;
      low = omega (arith, low);
      high = high;
    } in
    let u = stored (laid (a + items_size items) 28684) w in
    let q = by_laid w (a + items_size items) 28684 o.space (omega (arith, low)) ev high (omega arith) in
    let stores : List (ℕ × ℕ) = (state_cell, 0) ∷ (new_cell, 0) ∷ (latest_cell, h) ∷ [] in
    let v = stored ((state_cell, 0) ∷ (new_cell, 0) ∷ (latest_cell, h) ∷ []) u in
    let cells : AreCells ((state_cell, 0) ∷ (new_cell, 0) ∷ (latest_cell, h) ∷ []) = (omega arith, (omega arith, (fits, tt))) in
    let k = stored_keep ((state_cell, 0) ∷ (new_cell, 0) ∷ (latest_cell, h) ∷ []) u q.console.space cells in
    let above = λ (b : ℕ) (g : 8496 ≤ b). missed ((state_cell, 0) ∷ (new_cell, 0) ∷ (latest_cell, h) ∷ []) u b (omega (arith, g))
    (omega arith, (λ z. omega (arith, z, g)), (omega arith, (λ z. omega (arith, z, g)), (omega arith, (λ z. omega (arith, z, g)), tt))) in
    let code : Alike v w 8640 (a + items_size items) = λ b f g. above b (omega (arith, f)) ∙ q.below b (omega (arith, f)) g in
    let chain = chain_kept v w a h (record { name = name; code = a; immediate = false } ∷ older)
    (λ b f g. code b f (omega (arith, g))) o.chain o.lie in
    record {
      after = v;
      run = subst (λ header. Returns p kernel_semicolon_body 24 84 c w c
          (stored ((state_cell, 0) ∷ (new_cell, 0) ∷ (latest_cell, header) ∷ laid (a + items_size items) 28684) w)) e
          (semicolon_returns p d (a + items_size items) (h - 1) c w room (o.new ∙ sym e) o.count);
      console = record { space = k.space; input = k.input ∙ q.console.input; printed = k.printed ∙ q.console.printed };
      cells = items_then v a items (28684 ∷ []) (items_kept v w a items (λ b f g. code b (omega (arith, f, low)) g) o.done)
          (above (a + items_size items) (omega (arith, low)) ∙ q.cell, tt);
      here = missed ((state_cell, 0) ∷ (new_cell, 0) ∷ (latest_cell, h) ∷ []) u here_cell (omega arith)
          (omega arith, (λ z. omega (arith, z)), (omega arith, (λ z. omega (arith, z)), (omega arith, (λ z. omega (arith, z)), tt)))
          ∙ q.here;
      latest = missed ((state_cell, 0) ∷ (new_cell, 0) ∷ []) (with_data_cell latest_cell h u) latest_cell (omega arith)
          (omega arith, (λ z. omega (arith, z)), (omega arith, (λ z. omega (arith, z)), tt))
          ∙ hit [] u latest_cell h latest_cell q.console.space tt (omega arith) (omega arith) refl;
      chain = chain.0;
      lie = chain.1;
      state = hit ((new_cell, 0) ∷ (latest_cell, h) ∷ []) u state_cell 0 state_cell q.console.space (omega arith, (fits, tt)) (omega arith)
          (omega arith) refl;
      new = missed ((state_cell, 0) ∷ []) (stored ((new_cell, 0) ∷ (latest_cell, h) ∷ []) u) new_cell (omega arith)
          (omega arith, (λ z. omega (arith, z)), tt)
          ∙ hit ((latest_cell, h) ∷ []) u new_cell 0 new_cell q.console.space (fits, tt) (omega arith) (omega arith) refl;
      rest = λ b g not_here not_latest not_state not_new not_code. missed ((state_cell, 0) ∷ (new_cell, 0) ∷ (latest_cell, h) ∷ []) u b g
          (omega arith, not_state, (omega arith, not_new, (omega arith, not_latest, tt))) ∙ q.outside b g not_here not_code;
    }

-- ---- other words
pub open_stays : OpenStays
open_stays v w h a name older items o k =
    let at = ends items.around items.done a o.even in
    let least = at.least in
    let low = o.low in
    let few = o.few in
    let l = o.lie.0 in
    let r = o.lie.1 in
    let chain = chain_kept v w a h (record { name = name; code = a; immediate = false } ∷ older)
    (λ b f g. k.code b f (omega (arith, g, least))) o.chain o.lie in
    record {
      space = k.space;
      state = k.state ∙ o.state;
      new = k.header ∙ o.new;
      some = o.some;
      chain = chain.0;
      lie = chain.1;
      latest = k.latest ∙ o.latest ∙ sym (k.code h l (omega (arith, r, least)));
      even = o.even;
      low = o.low;
      here = k.here ∙ o.here;
      high = o.high;
      outer = outer_kept v w a items.around (λ b f g. k.code b (omega (arith, f, low)) (omega (arith, g))) o.outer;
      done = items_kept v w (inner items.around a) items.done (λ b f g. k.code b (omega (arith, f, least, low)) g) o.done;
      count = k.structures open_count_cell (omega arith) (omega arith) ∙ o.count;
      few = o.few;
      structures = entries_kept v w a items.around (λ b f g. k.structures b (omega (arith, f)) (omega (arith, g, few))) o.structures;
    }
