-- The text is read: computed.
use Rattle.std.proofs.Common.{◌≡◌, ℕ, ◌/◌, Bool, true, false, ◌&&◌, nat_lt, nat_le, nat_eq, List, [], ◌∷◌, length, refl, sym, subst, arith}
use Rattle.std.specs.List.{All, list_all}
use Rattle.std.proofs.lemmas.Bool.{and_parts, ltb-true as lt_of, leb-true as le_of, eqb-true as eq_of}
use Rattle.std.proofs.lemmas.List.Elements.{All-nil, All-cons}
use Rattle.console_ports.specs.DataSpace.{IsDataStart}
use Rattle.word_table.specs.declared.word.Vocabulary.TheVariants.{Kernel}
use Rattle.forth_program.specs.Tree.{Node, Literal, Plain, Call, Child}
use Rattle.forth_program.specs.Program.{SourceProgram}
use Rattle.forth_program.specs.SourceTokens.{all_tokens}
use Rattle.forth_program.specs.Step.{step}
use Rattle.forth_program.specs.Run.{steps}
use Rattle.forth_program.specs.Form.{everywhere, leaves_fit, may_be_token}
use Rattle.library_laws.specs.Bodies.{whole_library}
use Rattle.code_layout.specs.Places.{place_by}
use Rattle.code_layout.specs.Layout.{laid_out}
use Rattle.code_layout.specs.Built.{is_laid_out, token_is_laid_out, IsBuilt}
use Rattle.control_flow.specs.Brackets.{bracket_at}
use Rattle.control_flow.specs.HostParts.{host_part_at}
use Rattle.control_flow.specs.Items.{items_at}
use Rattle.control_flow.specs.ParseResult.{ParseResult, Fine, Refused, Endless}
use Rattle.control_flow.specs.SourceText.{source_at, program_in}
use Rattle.depth_certifier.specs.Certificate.{IsValid}
use Rattle.depth_certifier.specs.Checking.{is_valid, ChecksAreExact}
use Rattle.depth_certifier.specs.Soundness.{most_cells, most_return_cells}
use Rattle.depth_certifier.specs.Rounds.{ProperToken}
use Rattle.kernel_words.specs.Bodies.{IsKernel}
use Rattle.kernel_lines.specs.Bodies.{HasInterpreter, HasLines}
use Rattle.kernel_definitions.specs.Bodies.{HasDefiningWords}
use Rattle.kernel_interpreter.specs.Bodies.{IsInterpreter}
use Rattle.target_forth.specs.declared.text.TheConstants.{KERNEL_TEXT}
use Rattle.target_forth.specs.Kernel.{program_read, kernel_program}
use Rattle.target_forth.specs.Certificate.{kernel_certificate}
use Rattle.target_forth.specs.Replies.{Replies}
use Rattle.target_forth.proofs.KernelItems.{kernel_bodies}

-- ---- what the program of the text has to pass, as one test

abbrev pub passes : SourceProgram → Bool
passes p =
    nat_lt p.main_body (length p.bodies)
    && (list_all (everywhere (is_laid_out true (length whole_library) (length p.bodies))) p.bodies
    && (list_all (token_is_laid_out (length whole_library) (length p.bodies)) p.tokens
    && (list_all (leaves_fit false) p.bodies
    && (nat_eq p.data_start 8192
    && (nat_le (length (laid_out whole_library p).cells) (p.data_start / 2)
    && (nat_le (all_tokens p.bodies) p.source_tokens
    && (nat_eq (most_cells p kernel_certificate) 25
    && (nat_eq (most_return_cells p kernel_certificate) 22
    && is_valid p kernel_certificate))))))))

-- there is a program, and it passes
abbrev pub read_passes : ParseResult SourceProgram → Bool
read_passes (Fine p) = passes p
read_passes (Refused token cause) = false
read_passes Endless = false

text_passes : read_passes (program_in Kernel KERNEL_TEXT.now) ≡ true
unfolding bracket_at host_part_at items_at source_at place_by
text_passes = refl

read_is_fine : (r : ParseResult SourceProgram) → read_passes r ≡ true → r ≡ Fine (program_read r)
read_is_fine (Fine p) e = refl
read_is_fine (Refused token cause) e = absurd cc
read_is_fine Endless e = absurd cc

pub text_is_read : program_in Kernel KERNEL_TEXT.now ≡ Fine kernel_program
unfolding kernel_program
text_is_read = read_is_fine (program_in Kernel KERNEL_TEXT.now) text_passes

kernel_passes : passes kernel_program ≡ true
kernel_passes = subst (λ r. read_passes r ≡ true) text_is_read text_passes

-- ---- what each part of the test says

eighth : IsDataStart 8192
eighth = record { is_even = refl; at_least = omega arith; at_most = omega arith }

-- it is built, and the check of its certificate is true
record Passes (p : SourceProgram) : Type 0 where
  built : IsBuilt whole_library p
  data_cells : most_cells p kernel_certificate ≡ 25
  return_cells : most_return_cells p kernel_certificate ≡ 22
  valid : is_valid p kernel_certificate ≡ true

parts : (p : SourceProgram) → passes p ≡ true → Passes p
parts p e =
    let a = and_parts _ _ e in
    let b = and_parts _ _ a.1 in
    let c = and_parts _ _ b.1 in
    let d = and_parts _ _ c.1 in
    let f = and_parts _ _ d.1 in
    let g = and_parts _ _ f.1 in
    let h = and_parts _ _ g.1 in
    let i = and_parts _ _ h.1 in
    let j = and_parts _ _ i.1 in
    record {
      built = record {
        has_main = lt_of _ _ a.0;
        items = b.0;
        token_items = c.0;
        leaves_in_loops = d.0;
        data_start = subst IsDataStart (sym (eq_of _ _ f.0)) eighth;
        code_fits = le_of _ _ g.0;
        tokens_counted = le_of _ _ h.0;
      };
      data_cells = eq_of _ _ i.0;
      return_cells = eq_of _ _ j.0;
      valid = j.1;
    }

proper_token : (count : ℕ) (node : Node) → token_is_laid_out 42 count node ≡ true → ProperToken node
proper_token count (Literal value) e = tt
proper_token count (Plain word) e = (and_parts (may_be_token (Plain word)) _ e).0
proper_token count (Call definition) e = tt
proper_token count (Child definition address) e = tt
proper_token count node e = absurd cc

proper_tokens : (count : ℕ) (nodes : List Node) → list_all (token_is_laid_out 42 count) nodes ≡ true → All ProperToken nodes
proper_tokens count [] e = All-nil ProperToken
proper_tokens count (node ∷ nodes) e =
    let both = and_parts (token_is_laid_out 42 count node) (list_all (token_is_laid_out 42 count) nodes) e in
    All-cons ProperToken node nodes (proper_token count node both.0) (proper_tokens count nodes both.1)

pub kernel_is_built : IsBuilt whole_library kernel_program
kernel_is_built = (parts kernel_program kernel_passes).built

pub data_cells_are : most_cells kernel_program kernel_certificate ≡ 25
data_cells_are = (parts kernel_program kernel_passes).data_cells

pub return_cells_are : most_return_cells kernel_program kernel_certificate ≡ 22
return_cells_are = (parts kernel_program kernel_passes).return_cells

pub kernel_is_certified : ChecksAreExact → IsValid kernel_program kernel_certificate
kernel_is_certified exact = (exact kernel_program kernel_certificate (proper_tokens _ kernel_program.tokens kernel_is_built.token_items)).0 (parts kernel_program kernel_passes).valid

-- ---- the definitions

pub bodies_are : kernel_program.bodies ≡ kernel_bodies
unfolding bracket_at host_part_at items_at source_at kernel_program
bodies_are = refl

pub main_is : kernel_program.main_body ≡ 111
unfolding bracket_at host_part_at items_at source_at kernel_program
main_is = refl

-- the kernel with these bodies
has_words : (p : SourceProgram) → p.bodies ≡ kernel_bodies → IsKernel p
has_words p e = subst (λ bodies. IsKernel (record p { bodies = bodies })) (sym e) (record {
  reached = refl;
  rest = refl;
  skip = refl;
  scan = refl;
  advance = refl;
  take = refl;
  word_from = refl;
  keep_word = refl;
  kernel_word = refl;
  next_word = refl;
  parse = refl;
  upper = refl;
  same_byte = refl;
  same = refl;
  named = refl;
  code_and_flag = refl;
  kernel_find = refl;
  digit = refl;
  grow = refl;
  take_digit = refl;
  digits = refl;
  minus_sign = refl;
  signed = refl;
  kernel_number = refl;
  kernel_cell = refl;
  kernel_header = refl;
})

pub kernel_has_words : IsKernel kernel_program
kernel_has_words = has_words kernel_program bodies_are

-- and its definitions of a line
has_interpreter : (p : SourceProgram) → p.bodies ≡ kernel_bodies → HasInterpreter p
has_interpreter p e = subst (λ bodies. HasInterpreter (record p { bodies = bodies })) (sym e) (record {
  stack_fail = refl;
  close_all = refl;
  check = refl;
  keep_places = refl;
  interpret = refl;
})

has_lines : (p : SourceProgram) → p.bodies ≡ kernel_bodies → HasLines p
has_lines p e = subst (λ bodies. HasLines (record p { bodies = bodies })) (sym e) (record {
  interpreter = has_interpreter (record p { bodies = kernel_bodies }) refl;
  keep_byte = refl;
  read_line = refl;
  reset = refl;
  say_word = refl;
  complain = refl;
  reply = refl;
  one_line = refl;
  main = refl;
})

pub kernel_has_lines : HasLines kernel_program
kernel_has_lines = has_lines kernel_program bodies_are

has_defining_words : (p : SourceProgram) → p.bodies ≡ kernel_bodies → HasDefiningWords p
has_defining_words p e = subst (λ bodies. HasDefiningWords (record p { bodies = bodies })) (sym e) (record {
  kernel = has_words (record p { bodies = kernel_bodies }) refl;
  fail = refl;
  code_address = refl;
  compile_literal = refl;
  compile_call = refl;
  compile_return = refl;
  compile_jump = refl;
  compile_branch = refl;
  patch = refl;
  entry = refl;
  opens = refl;
  closes = refl;
  kernel_if = refl;
  kernel_then = refl;
  kernel_else = refl;
  kernel_begin = refl;
  kernel_until = refl;
  kernel_while = refl;
  kernel_repeat = refl;
  new_name = refl;
  define = refl;
  kernel_colon = refl;
  kernel_semicolon = refl;
  structure = refl;
  found = refl;
  put = refl;
  interpret_word = refl;
  interpreter = has_interpreter (record p { bodies = kernel_bodies }) refl;
})

pub kernel_has_defining_words : HasDefiningWords kernel_program
kernel_has_defining_words = has_defining_words kernel_program bodies_are

is_interpreter : (p : SourceProgram) → p.bodies ≡ kernel_bodies → IsInterpreter p
is_interpreter p e = subst (λ bodies. IsInterpreter (record p { bodies = bodies })) (sym e) (record {
  words = has_words (record p { bodies = kernel_bodies }) refl;
  interpreter = has_interpreter (record p { bodies = kernel_bodies }) refl;
  fail = refl;
  push_user = refl;
  pop_user = refl;
  run = refl;
  need = refl;
  try = refl;
  structure = refl;
  found = refl;
  put = refl;
  interpret_word = refl;
})

pub kernel_is_interpreter : IsInterpreter kernel_program
kernel_is_interpreter = is_interpreter kernel_program bodies_are

-- ---- the replies: computed, with these bodies

replies : (p : SourceProgram) → p.bodies ≡ kernel_bodies → Replies p
unfolding steps step
replies p e = subst (λ bodies. Replies (record p { bodies = bodies })) (sym e) (record { well = refl; kept = refl; unknown = refl; dropped = refl; lacking = refl })

pub kernel_replies : Replies kernel_program
kernel_replies = replies kernel_program bodies_are
