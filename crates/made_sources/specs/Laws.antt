-- What holds of each made source of at most 200 definitions.
use Rattle.std.specs.Prelude.{◌≡◌, ℕ, ◌≤◌, List, length, Some}
use Rattle.control_flow.specs.ParseResult.{Fine}
use Rattle.control_flow.specs.SourceText.{program_of_text}
use Rattle.forth_program.specs.State.{Halted}
use Rattle.forth_program.specs.Run.{source_run, world_of, end_of}
use Rattle.forth_program.specs.Price.{price}
use Rattle.depth_certifier.specs.Certificate.{Cert, IsValid}
use Rattle.depth_certifier.specs.Rounds.{IsLeast}
use Rattle.made_sources.specs.MadeSource.{made_source}
use Rattle.made_sources.specs.MadeProgram.{made_program, made_certificate}

-- it has at most 65,536 bytes, and its program is the made one
abbrev pub MadeSourcesAreRead : Type 0
MadeSourcesAreRead = (seed count : ℕ) → count ≤ 200 → (length (made_source seed count) ≤ 65536) × (program_of_text (made_source seed count) ≡ Fine (made_program seed count))

-- this certificate is valid for the program, so there is a least one
abbrev pub MadeProgramsAreCertified : Type 0
MadeProgramsAreCertified = (seed count : ℕ) → count ≤ 200 → IsValid (made_program seed count) (made_certificate seed count) × ((certificate : Cert) × IsLeast (made_program seed count) certificate)

-- the run of a program halts with 0 within so many word steps and at this price, and takes no input
pub record HaltsWell (seed count : ℕ) (input : List ℕ) : Type 0 where
  pub steps : ℕ
  pub ends : end_of (source_run (made_program seed count) input steps) ≡ Some (Halted 0)
  pub takes_nothing : (world_of (source_run (made_program seed count) input steps)).input ≡ input
  pub cheap : price (made_program seed count) input steps ≤ 10000000

-- on every input
abbrev pub MadeProgramsHaltWell : Type 0
MadeProgramsHaltWell = (seed count : ℕ) (input : List ℕ) → count ≤ 200 → HaltsWell seed count input
