use Rattle.std.proofs.Common.{map, string_bytes, [], ◌∷◌, refl, ap, ◌∙◌, rules}
use Rattle.std.specs.Prelude.{codes}
use Rattle.j1_workbench.specs.declared.status.Status.TheVariants.{BadWords, StepsUsed, InputEnded, Outside, BadImage, BadListing, WriteFault, TooLarge, Underflow, Unbalanced, BadNet}
use Rattle.j1_workbench.specs.Notes.{line, named}
use Rattle.j1_workbench.proofs.SinkContents.{noted}
use Rattle.j1_workbench.proofs.notes.write_note.Goals as goal

pub returns-in-BadWords-clause-bytes : goal.returns-in-BadWords-clause-bytes
returns-in-BadWords-clause-bytes g c = noted _ _ _ (map string_bytes c.args.words.now) (named c.args.name.now) c.args.status BadWords _ c.in-BadWords.is refl c.write_line.ensures.bytes

pub returns-in-StepsUsed-clause-bytes : goal.returns-in-StepsUsed-clause-bytes
returns-in-StepsUsed-clause-bytes g c = noted _ _ _ (map string_bytes c.args.words.now) (named c.args.name.now) c.args.status StepsUsed _ c.in-StepsUsed.is refl c.write_line-in-StepsUsed.ensures.bytes

pub returns-in-InputEnded-clause-bytes : goal.returns-in-InputEnded-clause-bytes
returns-in-InputEnded-clause-bytes g c = noted _ _ _ (map string_bytes c.args.words.now) (named c.args.name.now) c.args.status InputEnded _ c.in-InputEnded.is refl c.write_line-in-InputEnded.ensures.bytes

pub returns-in-Outside-clause-bytes : goal.returns-in-Outside-clause-bytes
returns-in-Outside-clause-bytes g c = noted _ _ _ (map string_bytes c.args.words.now) (named c.args.name.now) c.args.status (Outside c.in-Outside.address) _ c.in-Outside.is (search rules) c.write_line-in-Outside.ensures.bytes

pub returns-in-WriteFault-clause-bytes : goal.returns-in-WriteFault-clause-bytes
returns-in-WriteFault-clause-bytes g c = noted _ _ _ (map string_bytes c.args.words.now) (named c.args.name.now) c.args.status WriteFault _ c.in-WriteFault.is refl c.write_line-in-WriteFault.ensures.bytes

pub returns-in-TooLarge-clause-bytes : goal.returns-in-TooLarge-clause-bytes
returns-in-TooLarge-clause-bytes g c =
    noted _ _ _ (map string_bytes c.args.words.now) (named c.args.name.now) c.args.status TooLarge _ c.in-TooLarge.is
    (ap (λ name. line (name ∷ codes ": too large" ∷ [])) (c.as_bytes-in-TooLarge.ensures.value ∙ c.noted_file-in-TooLarge.ensures)) c.write_line-in-TooLarge.ensures.bytes

pub returns-in-BadImage-clause-bytes : goal.returns-in-BadImage-clause-bytes
returns-in-BadImage-clause-bytes g c = noted _ _ _ (map string_bytes c.args.words.now) (named c.args.name.now) c.args.status (BadImage c.in-BadImage.offset) _ c.in-BadImage.is (search rules) c.write_line-in-BadImage.ensures.bytes

pub returns-in-BadListing-clause-bytes : goal.returns-in-BadListing-clause-bytes
returns-in-BadListing-clause-bytes g c = noted _ _ _ (map string_bytes c.args.words.now) (named c.args.name.now) c.args.status (BadListing c.in-BadListing.line) _ c.in-BadListing.is (search rules) c.write_line-in-BadListing.ensures.bytes

pub returns-in-Underflow-clause-bytes : goal.returns-in-Underflow-clause-bytes
returns-in-Underflow-clause-bytes g c = noted _ _ _ (map string_bytes c.args.words.now) (named c.args.name.now) c.args.status Underflow _ c.in-Underflow.is refl c.write_line-in-Underflow.ensures.bytes

pub returns-in-Unbalanced-clause-bytes : goal.returns-in-Unbalanced-clause-bytes
returns-in-Unbalanced-clause-bytes g c = noted _ _ _ (map string_bytes c.args.words.now) (named c.args.name.now) c.args.status Unbalanced _ c.in-Unbalanced.is refl c.write_line-in-Unbalanced.ensures.bytes

pub returns-in-BadNet-clause-bytes : goal.returns-in-BadNet-clause-bytes
returns-in-BadNet-clause-bytes g c = noted _ _ _ (map string_bytes c.args.words.now) (named c.args.name.now) c.args.status (BadNet c.in-BadNet.line) _ c.in-BadNet.is (search rules) c.write_line-in-BadNet.ensures.bytes
