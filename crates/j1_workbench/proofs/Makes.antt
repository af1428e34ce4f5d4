-- What the relation of `make` says, part by part.
use Rattle.std.proofs.Common.{◌≡◌, ◌⊎◌, inl, inr, ℕ, List, refl, sym, ap, ◌∙◌, subst}
use Rattle.std.specs.Prelude.{None}
use Rattle.forth_program.specs.Program.{SourceProgram}
use Rattle.j1_table.specs.Image.{Content}
use Rattle.j1_workbench.specs.declared.status.Status.{Status}
use Rattle.j1_workbench.specs.declared.status.Status.TheVariants.{OutOfMemory}
use Rattle.j1_workbench.specs.declared.answer.Answer.{Answer}
use Rattle.j1_workbench.specs.Notes.{named}
use Rattle.j1_workbench.specs.Surroundings.{Stream, Surroundings}
use Rattle.j1_workbench.specs.Sources.{IsRefusedText}
use Rattle.j1_workbench.specs.Compiling.{CompilesText}
use Rattle.j1_workbench.specs.Driving.{Drives}
use Rattle.made_sources.specs.MadeSource.{made_source}
use Rattle.j1_workbench.specs.Summary.{summary}
use Rattle.j1_workbench.specs.Making.{no_input, ThenWrites, DrivesMade}

pub make_refused : (seed count steps : ℕ) (text bytes : List ℕ) (before after : Surroundings) (status : Status) (name : List ℕ) →
    text ≡ made_source seed count → bytes ≡ text → (status ≡ OutOfMemory) ⊎ IsRefusedText bytes status name → after ≡ before → DrivesMade seed count steps before after status name
unfolding DrivesMade
make_refused seed count steps text bytes before after status name is same refused quiet =
    subst (λ s. DrivesMade seed count steps before s status name) (sym quiet) (refl, refl, inl (subst (λ t. (status ≡ OutOfMemory) ⊎ IsRefusedText t status name) (same ∙ is) refused, refl))

pub make_without_memory : (seed count steps : ℕ) (before after : Surroundings) (name : List ℕ) → after ≡ before → DrivesMade seed count steps before after OutOfMemory name
unfolding DrivesMade
make_without_memory seed count steps before after name quiet = subst (λ s. DrivesMade seed count steps before s OutOfMemory name) (sym quiet) (refl, refl, inl (inl refl, refl))

pub make_ran : (seed count steps : ℕ) (text bytes lines said : List ℕ) (before after : Surroundings) (program : SourceProgram) (image : Content) (ran status : Status) (asked : ℕ) (middle : Stream) (answer : Answer) →
    answer ≡ record { status = status; name = None } → text ≡ made_source seed count → bytes ≡ text → CompilesText bytes program image → lines ≡ summary program bytes → said ≡ lines →
    Drives image steps (no_input 0) (no_input asked) before.out middle ran → ThenWrites ran middle after.out said status → after.folder ≡ before.folder →
    after.console ≡ before.console → DrivesMade seed count steps before after answer.status (named answer.name)
unfolding DrivesMade
make_ran seed count steps text bytes lines said before after program image ran status asked middle answer is made same compiles summed told drives sums folder console =
    let all : bytes ≡ made_source seed count = same ∙ made in
    let found = subst (λ t. CompilesText t program image) all compiles in
    let line : said ≡ summary program (made_source seed count) = told ∙ (summed ∙ ap (summary program) all) in
    subst (λ a. DrivesMade seed count steps before after a.status (named a.name)) (sym is) (
      folder,
      console,
      inr (record {
        program = program;
        certificate = found.certificate;
        certified = found.certified;
        image = image;
        compiled = found.compiled;
        ran = ran;
        asked = asked;
        middle = middle;
        drives = drives;
        sums_up = subst (λ t. ThenWrites ran middle after.out t status) line sums;
      }),
    )
