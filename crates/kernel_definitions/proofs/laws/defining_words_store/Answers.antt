use Rattle.kernel_definitions.proofs.Compiling as compiling
use Rattle.kernel_definitions.proofs.Structures as structures
use Rattle.kernel_definitions.proofs.laws.defining_words_store.Goals as goal

pub returns-clause-compile_small : goal.returns-clause-compile_small
returns-clause-compile_small c = λ p x h c w d. compiling.compile_small_returns p d x h c w

pub returns-clause-compile_large : goal.returns-clause-compile_large
returns-clause-compile_large c = λ p x h c w d. compiling.compile_large_returns p d x h c w

pub returns-clause-compile_call : goal.returns-clause-compile_call
returns-clause-compile_call c = λ p a h c w d. compiling.compile_call_returns p d a h c w

pub returns-clause-compile_return : goal.returns-clause-compile_return
returns-clause-compile_return c = λ p h c w d. compiling.compile_return_returns p d h c w

pub returns-clause-compile_jump : goal.returns-clause-compile_jump
returns-clause-compile_jump c = λ p a h c w d. compiling.compile_jump_returns p d a h c w

pub returns-clause-compile_branch : goal.returns-clause-compile_branch
returns-clause-compile_branch c = λ p a h c w d. compiling.compile_branch_returns p d a h c w

pub returns-clause-patch : goal.returns-clause-patch
returns-clause-patch c = λ p place x h c w d. compiling.patch_returns p d place x h c w

pub returns-clause-open : goal.returns-clause-open
returns-clause-open c = λ p n kind place header c w d. compiling.open_returns p d n kind place header c w

pub returns-clause-close : goal.returns-clause-close
returns-clause-close c = λ p n kind place c w d. compiling.close_returns p d n kind place c w

pub returns-clause-kernel_if : goal.returns-clause-kernel_if
returns-clause-kernel_if c = λ p n h header c w d. structures.if_returns p d n h header c w

pub returns-clause-kernel_then : goal.returns-clause-kernel_then
returns-clause-kernel_then c = λ p n place x h c w d. structures.then_returns p d n place x h c w

pub returns-clause-kernel_else : goal.returns-clause-kernel_else
returns-clause-kernel_else c = λ p n place x h header c w d. structures.else_returns p d n place x h header c w

pub returns-clause-kernel_begin : goal.returns-clause-kernel_begin
returns-clause-kernel_begin c = λ p n h header c w d. structures.begin_returns p d n h header c w

pub returns-clause-kernel_until : goal.returns-clause-kernel_until
returns-clause-kernel_until c = λ p n place h c w d. structures.until_returns p d n place h c w

pub returns-clause-kernel_while : goal.returns-clause-kernel_while
returns-clause-kernel_while c = λ p n place h header c w d. structures.while_returns p d n place h header c w

pub returns-clause-kernel_repeat : goal.returns-clause-kernel_repeat
returns-clause-kernel_repeat c = λ p n place back x h c w d. structures.repeat_returns p d n place back x h c w

pub returns-clause-kernel_semicolon : goal.returns-clause-kernel_semicolon
returns-clause-kernel_semicolon c = λ p h header c w d. structures.semicolon_returns p d h header c w
