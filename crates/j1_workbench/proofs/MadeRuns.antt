-- Made sources are compiled, and their images halt with 0: so `make` answers Done, unless memory was wanting or out could not be written.
use Rattle.std.proofs.Common.{◌≡◌, ◌⊎◌, inl, inr, ℕ, ◌≤◌, Bool, true, false, List, [], length, refl, sym, ap, ◌∙◌, subst, arith}
use Rattle.std.specs.Prelude.{Option, Some, None, option_map}
use Rattle.outside_io.specs.Causes.{Rose}
use Rattle.forth_program.specs.State.{Halted}
use Rattle.forth_program.specs.Program.{SourceProgram}
use Rattle.forth_program.specs.Price.{price}
use Rattle.control_flow.specs.ParseResult.{Fine}
use Rattle.control_flow.specs.SourceText.{program_of_text}
use Rattle.depth_certifier.specs.Certificate.{Cert, IsValid}
use Rattle.library_laws.specs.Bodies.{whole_library}
use Rattle.code_layout.specs.Layout.{laid_out}
use Rattle.code_layout.specs.Agreement.{AreBytes}
use Rattle.code_layout.specs.Chip.{AgreesOnChip}
use Rattle.j1_table.specs.Image.{Content}
use Rattle.j1_simulator.specs.declared.ends.End.{End}
use Rattle.j1_simulator.specs.declared.ends.End.TheVariants as ends
use Rattle.j1_simulator.specs.Step.{By}
use Rattle.j1_simulator.specs.RoundMachine.{RingCells, round_storage}
use Rattle.j1_simulator.specs.Run.{Configuration, begun, round_start, round_run}
use Rattle.j1_simulator.specs.Laws.{OnlyGrows}
use Rattle.made_sources.specs.MadeSource.{made_source}
use Rattle.made_sources.specs.MadeProgram.{made_program, made_certificate}
use Rattle.made_sources.specs.Laws.{MadeSourcesAreRead, MadeProgramsAreCertified, MadeProgramsHaltWell, HaltsWell}
use Rattle.j1_workbench.specs.declared.status.Status.{Status}
use Rattle.j1_workbench.specs.declared.status.Status.TheVariants.{Done, StepsUsed, InputEnded, Outside, Halted as HaltedWith, ReadFault, WriteFault}
use Rattle.j1_workbench.specs.Statuses.{status_of}
use Rattle.j1_workbench.specs.Surroundings.{Stream, Surroundings}
use Rattle.j1_workbench.specs.Sources.{IsRefusedText}
use Rattle.j1_workbench.specs.Compiling.{IsCompiled}
use Rattle.j1_workbench.specs.Certifying.{Writes}
use Rattle.j1_workbench.specs.Driving.{IsRunAnswer, RanAs, Drives}
use Rattle.j1_workbench.specs.Making.{no_input, ThenWrites, DrivesMade, ImageHalts, Makes}
use Rattle.j1_workbench.proofs.Completeness.{by_kind, same_program}

-- ---- a made source is not refused

never_refused : (text : List ℕ) (p : SourceProgram) (z : Cert) (status : Status) (name : List ℕ) → length text ≤ 65536 → program_of_text text ≡ Fine p → IsValid p z → IsRefusedText text status name → ⊥
never_refused text p z status name short is valid refused =
    by_kind (λ s. ⊥) text status name refused (λ long. absurd (omega arith)) (λ refusal short e. cc)
    (λ id cause u. u.none z (subst (λ q. IsValid q z) (same_program text p u.program is u.program_is) valid))

-- ---- its image halts

module _ (grows : OnlyGrows round_storage) (seed count steps : ℕ) (enough : 10000000 ≤ steps) (input : List ℕ) (well : HaltsWell seed count input) where
  -- the image ends within the price
  image_ends : AgreesOnChip whole_library (made_program seed count) input → ImageHalts (laid_out whole_library (made_program seed count)) steps input
  image_ends agrees =
      let p = made_program seed count in
      let image = laid_out whole_library p in
      let stop = agrees.ends_no_later well.steps (Halted 0) well.ends in
      let stays = grows.ends image.data_start (price p input well.steps) steps (begun (round_start image) input) stop.0 (let cheap = well.cheap in omega (arith, cheap, enough)) stop.1 in
      let halts : (round_run image input steps).stop ≡ Some (By (ends.Halted 0)) = ap (λ (c : Configuration ℕ RingCells). c.stop) stays ∙ stop.1 ∙ sym stop.2 in
      record { halts = halts; takes_nothing = (agrees.ends_alike steps well.steps (By (ends.Halted 0)) (Halted 0) halts well.ends).1 ∙ well.takes_nothing }

-- ---- the answer

-- a run that halts with 0 has no other answer
done : (image : Content) (steps : ℕ) (ran : Status) (left before now : Option (List ℕ)) → (round_run image [] steps).stop ≡ Some (By (ends.Halted 0)) → RanAs image [] steps ran left before now → ran ≡ Done
done image steps ran left before now halts runs = runs.status_is ∙ by_end runs.end (runs.end_is ∙ halts)
  where
    by_end : (end : Option End) → option_map By end ≡ Some (By (ends.Halted 0)) → status_of end ≡ Done
    by_end None e = cc
    by_end (Some end) e = let same : end ≡ ends.Halted 0 = cc in ap (λ e. status_of (Some e)) same

rises_late : (a b c : ℕ) → a ≤ b → Rose b c → Rose a c
rises_late a b c h k = omega (arith, k)

no_read_fault : Rose 0 0 → ⊥
no_read_fault rose = omega (arith, rose)

-- the summary was written, or it could not be
summed : (before middle after : Stream) (text : List ℕ) (status : Status) → before.faults ≤ middle.faults → Writes middle after text status → (status ≡ Done) ⊎ ((status ≡ WriteFault) × Rose before.faults after.faults)
summed before middle after text Done less writes = inl refl
summed before middle after text WriteFault less writes = inr (refl, rises_late before.faults middle.faults after.faults less writes.1)
summed before middle after text status less writes = absurd writes

false_is_not_true : false ≡ true → ⊥
false_is_not_true e = cc

abbrev is_done : Status → Bool
is_done Done = true
is_done status = false

not_done : (status : Status) → is_done status ≡ false → status ≡ Done → ⊥
not_done status other same = false_is_not_true (sym other ∙ ap is_done same)

-- the answers of a drive
abbrev is_driven : Status → Bool
is_driven Done = true
is_driven StepsUsed = true
is_driven InputEnded = true
is_driven (Outside address) = true
is_driven (HaltedWith n) = true
is_driven ReadFault = true
is_driven WriteFault = true
is_driven status = false

driven_well : (status : Status) → IsRunAnswer status → is_driven status ≡ true
driven_well Done answer = refl
driven_well StepsUsed answer = refl
driven_well InputEnded answer = refl
driven_well (Outside address) answer = refl
driven_well (HaltedWith n) answer = refl
driven_well ReadFault answer = refl
driven_well WriteFault answer = refl
driven_well status answer = absurd answer

driven : (status : Status) → (status ≡ ReadFault) ⊎ ((status ≡ WriteFault) ⊎ IsRunAnswer status) → is_driven status ≡ true
driven status (inl read) = ap is_driven read
driven status (inr (inl write)) = ap is_driven write
driven status (inr (inr answer)) = driven_well status answer

answered : (image : Content) (steps asked : ℕ) (ran status : Status) (before middle after : Stream) (text : List ℕ) → (round_run image [] steps).stop ≡ Some (By (ends.Halted 0)) →
    Drives image steps (no_input 0) (no_input asked) before middle ran →
    ThenWrites ran middle after text status → (status ≡ Done) ⊎ ((status ≡ WriteFault) × Rose before.faults after.faults)
answered image steps asked Done status before middle after text halts drives writes = summed before middle after text status drives.out_faults writes
answered image steps asked ReadFault status before middle after text halts drives same = absurd (no_read_fault (drives.read_fault refl))
answered image steps asked WriteFault status before middle after text halts drives same = inr (same.0, subst (λ s. Rose before.faults s.faults) (sym same.1) (drives.write_fault refl))
answered image steps asked StepsUsed status before middle after text halts drives same = absurd (not_done StepsUsed refl (done image steps StepsUsed _ _ _ halts (drives.leaves [] refl).1.2))
answered image steps asked InputEnded status before middle after text halts drives same = absurd (not_done InputEnded refl (done image steps InputEnded _ _ _ halts (drives.leaves [] refl).1.2))
answered image steps asked (Outside address) status before middle after text halts drives same = absurd (not_done (Outside address) refl (done image steps (Outside address) _ _ _ halts (drives.leaves [] refl).1.2))
answered image steps asked (HaltedWith n) status before middle after text halts drives same = absurd (not_done (HaltedWith n) refl (done image steps (HaltedWith n) _ _ _ halts (drives.leaves [] refl).1.2))
answered image steps asked ran status before middle after text halts drives same = absurd (false_is_not_true (driven ran drives.answered))

-- ---- the whole

module _ (reads : MadeSourcesAreRead) (certified : MadeProgramsAreCertified) (ends_well : MadeProgramsHaltWell) (grows : OnlyGrows round_storage) where
  halts_always : (seed count steps : ℕ) (p : SourceProgram) (image : Content) → count ≤ 200 → 10000000 ≤ steps → p ≡ made_program seed count → IsCompiled p image → (input : List ℕ) → AreBytes input → ImageHalts image steps input
  halts_always seed count steps p image small enough same compiled input bytes =
      subst (λ i. ImageHalts i steps input) (sym (compiled.laid ∙ ap (laid_out whole_library) same))
      (image_ends grows seed count steps enough input (ends_well seed count input small) (subst (λ q. AgreesOnChip whole_library q input) same (compiled.does.agrees input bytes)))

  pub makes_well : (seed count steps : ℕ) (before after : Surroundings) (status : Status) (name : List ℕ) → count ≤ 200 → 10000000 ≤ steps → DrivesMade seed count steps before after status name → Makes seed count steps before after status
  unfolding DrivesMade Makes
  makes_well seed count steps before after status name small enough (folder, console, inl (inl wanting, quiet)) = (folder, console, inl (wanting, quiet))
  makes_well seed count steps before after status name small enough (folder, console, inl (inr refused, quiet)) =
      let read = reads seed count small in
      absurd (never_refused (made_source seed count) (made_program seed count) (made_certificate seed count) status name read.0 read.1 (certified seed count small).0 refused)
  makes_well seed count steps before after status name small enough (folder, console, inr runs) =
      let same = same_program (made_source seed count) runs.program (made_program seed count) runs.certified.program_is (reads seed count small).1 in
      let halts = halts_always seed count steps runs.program runs.image small enough same runs.compiled in (
        folder,
        console,
        inr (record { runs = runs; halts = halts; answer = answered runs.image steps runs.asked runs.ran status before.out runs.middle after.out _ (halts [] (λ k byte below. absurd (omega (arith, below)))).halts runs.drives runs.sums_up }),
      )
