-- `bound SRC`: a number of instructions within which the run of a source's image ends on every input is written to out.
use Rattle.std.specs.Prelude.{◌≡◌, ◌⊎◌, ℕ, List, [], ◌∷◌, ◌++◌, decimal, slice_index_or}
use Rattle.forth_program.specs.declared.item.DefId.{DefId}
use Rattle.forth_program.specs.Program.{SourceProgram}
use Rattle.depth_certifier.specs.Certificate.{Cert}
use Rattle.step_certifier.specs.declared.bound.BoundCause.{BoundCause}
use Rattle.step_certifier.specs.Bound.{Bounded, Refused, step_bound}
use Rattle.step_certifier.specs.Law.{EndsOnChip}
use Rattle.j1_workbench.specs.declared.status.Status.{Status}
use Rattle.j1_workbench.specs.declared.status.Status.TheVariants.{BoundRefused}
use Rattle.j1_workbench.specs.Surroundings.{Stream, Surroundings, IsOnlyRead}
use Rattle.j1_workbench.specs.Sources.{IsRefusedSource, IsCertifiedSource}
use Rattle.j1_workbench.specs.Headline.{image_of}
use Rattle.j1_workbench.specs.Certifying.{Writes}

-- a program has a bound: on every input the run of its image ends within so many instructions, and the number was written
pub record WritesBound (program : SourceProgram) (before after : Stream) (status : Status) : Type 0 where
  pub steps : ℕ
  pub bound : step_bound program ≡ Bounded steps
  pub ends : EndsOnChip (image_of program) steps
  pub writes : Writes before after (decimal steps ++ 10 ∷ []) status

-- it has none: the answer has the definition of the first item without one, and the cause, and nothing was written
pub record HasNoBound (program : SourceProgram) (before after : Stream) (status : Status) (name : List ℕ) : Type 0 where
  pub definition : DefId
  pub cause : BoundCause
  pub refused : step_bound program ≡ Refused definition.0 cause
  pub status_is : status ≡ BoundRefused definition cause
  pub name_is : name ≡ slice_index_or program.names definition.0 []
  pub out : after ≡ before

pub record BoundsProgram (source : List ℕ) (before after : Surroundings) (status : Status) (name : List ℕ) : Type 0 where
  pub program : SourceProgram
  pub certificate : Cert
  pub source_is : IsCertifiedSource source before.folder program certificate
  pub answers : WritesBound program before.out after.out status ⊎ HasNoBound program before.out after.out status name

-- `bound`: a refused source leaves out alone; the console is never asked, and nothing is driven
unfoldable pub Bounds : List ℕ → Surroundings → Surroundings → Status → List ℕ → Type 0
Bounds source before after status name =
    IsOnlyRead 1 before.folder after.folder × (after.console ≡ before.console)
    × ((IsRefusedSource source before.folder after.folder status name × (after.out ≡ before.out)) ⊎ BoundsProgram source before after status name)
