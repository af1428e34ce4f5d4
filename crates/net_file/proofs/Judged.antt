-- What a net and a refusal of a text mean.
use Rattle.std.proofs.Common.{◌≡◌, ℕ, true, List}
use Rattle.std.specs.Prelude.{Result, Ok, Err, IfOk, IfErr}
use Rattle.net_file.specs.declared.error.NetError.{NetError}
use Rattle.net_file.specs.declared.error.NetError.TheVariants as errors
use Rattle.std.specs.List.{list_all}
use Rattle.net_file.specs.Net.{NetPlan, is_file_name, IsNetText}
use Rattle.net_file.specs.FirstBad.{IsNetRefusal}
use Rattle.net_file.specs.Reading.{net_told, NetFails, GivesNet}
use Rattle.net_file.specs.Laws.{TellsNet, RefusesFirstBadLine}
use Rattle.net_file.proofs.CoreNames.{cores_named}

pub net_is : (result : Result NetPlan NetError) (text : List ℕ) → TellsNet → GivesNet result (net_told text) → IfOk result (λ net. IsNetText text net)
net_is (Ok net) text tells gives = (tells text net).0 gives
net_is (Err error) text tells gives = tt

refused_by : (error : NetError) (text : List ℕ) → RefusesFirstBadLine → NetFails error (net_told text) → IsNetRefusal text error
refused_by (errors.BadLine number) text first gives = (first text number).0 gives
refused_by errors.OutOfMemory text first gives = tt

pub refusal_is : (result : Result NetPlan NetError) (text : List ℕ) → RefusesFirstBadLine → GivesNet result (net_told text) → IfErr result (λ error. IsNetRefusal text error)
refusal_is (Ok net) text first gives = tt
refusal_is (Err error) text first gives = refused_by error text first gives

pub names_are : (result : Result NetPlan NetError) (text : List ℕ) → TellsNet → GivesNet result (net_told text) → IfOk result (λ net. list_all is_file_name net.cores ≡ true)
names_are (Ok net) text tells gives = cores_named text net ((tells text net).0 gives)
names_are (Err error) text tells gives = tt
