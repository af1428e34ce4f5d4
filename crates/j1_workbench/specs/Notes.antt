-- The line that a status other than Done leaves in the notes.
use Rattle.std.specs.Prelude.{ℕ, Bool, false, if◌then◌else◌, List, [], ◌∷◌, ◌++◌, Option, Some, None, codes, decimal}
use Rattle.std.specs.Str.{bytes_eq}
use Rattle.control_flow.specs.declared.refusal.SourceCause.{SourceCause}
use Rattle.control_flow.specs.declared.refusal.SourceCause.TheVariants as cause
use Rattle.depth_certifier.specs.declared.effect.CertCause.{CertCause}
use Rattle.depth_certifier.specs.declared.effect.CertCause.TheVariants as certificate
use Rattle.step_certifier.specs.declared.bound.BoundCause.{BoundCause}
use Rattle.step_certifier.specs.declared.bound.BoundCause.TheVariants as bound
use Rattle.j1_workbench.specs.declared.status.Status.{Status}
use Rattle.j1_workbench.specs.declared.status.Status.TheVariants.{Done, BadWords, Missing, SourceRefused, NotCertified, StepsUsed, InputEnded, Outside, Halted}
use Rattle.j1_workbench.specs.declared.status.Status.TheVariants.{ReadFault, WriteFault, OutOfMemory, TooLarge, Underflow, Unbalanced, BadImage, BadListing, BoundRefused, BadNet}

-- the file that is read: the word behind the command
abbrev pub file_named : List (List ℕ) → List ℕ
file_named [] = []
file_named (command ∷ []) = []
file_named (command ∷ name ∷ words) = name

-- the words call `net`, which reads more files than the one that is named
abbrev pub calls_net : List (List ℕ) → Bool
calls_net [] = false
calls_net (command ∷ words) = bytes_eq command (codes "net")

abbrev pub or_file : List ℕ → List ℕ → List ℕ
or_file [] file = file
or_file (byte ∷ bytes) file = byte ∷ bytes

-- the file that a note names: with `net` the one that the answer names, if it names one
abbrev pub noted_file : List (List ℕ) → List ℕ → List ℕ
noted_file words name = if calls_net words then or_file name (file_named words) else file_named words

-- parts one behind the other, and a line feed
abbrev pub ended : List (List ℕ) → List ℕ
ended [] = 10 ∷ []
ended (part ∷ parts) = part ++ ended parts

abbrev pub line : List (List ℕ) → List ℕ
line parts = ended (codes "j1: " ∷ parts)

-- why a source is refused
abbrev pub cause_named : SourceCause → List ℕ
cause_named cause.NotText = codes "NotText"
cause_named cause.NameTooLong = codes "NameTooLong"
cause_named cause.OpenComment = codes "OpenComment"
cause_named cause.OpenString = codes "OpenString"
cause_named cause.NeedsName = codes "NeedsName"
cause_named cause.UnknownWord = codes "UnknownWord"
cause_named cause.NumberRange = codes "NumberRange"
cause_named cause.NotInDefinition = codes "NotInDefinition"
cause_named cause.OnlyInDefinition = codes "OnlyInDefinition"
cause_named cause.BadNest = codes "BadNest"
cause_named cause.TooDeep = codes "TooDeep"
cause_named cause.HostUnderflow = codes "HostUnderflow"
cause_named cause.BadSplit = codes "BadSplit"
cause_named cause.HostOverflow = codes "HostOverflow"
cause_named cause.TooManyWords = codes "TooManyWords"
cause_named cause.DataFull = codes "DataFull"
cause_named cause.CodeFull = codes "CodeFull"
cause_named cause.OpenDefinition = codes "OpenDefinition"
cause_named cause.NoMain = codes "NoMain"

-- why a definition has no certificate
abbrev pub uncertified : CertCause → List ℕ
uncertified certificate.Data = codes ": not certified: Data"
uncertified certificate.Return = codes ": not certified: Return"
uncertified certificate.Shape = codes ": not certified: Shape"

-- why a program has no step bound
abbrev pub unbounded : BoundCause → List ℕ
unbounded bound.BeginLoop = codes ": no bound: BeginLoop"
unbounded bound.OpenBounds = codes ": no bound: OpenBounds"
unbounded bound.Recursion = codes ": no bound: Recursion"
unbounded bound.Execute = codes ": no bound: Execute"
unbounded bound.TooLarge = codes ": no bound: TooLarge"

-- what an answer names, or no bytes
abbrev pub named : Option (List ℕ) → List ℕ
named None = []
named (Some name) = name

-- the line of an answer, which may name a definition or a file
abbrev pub note_of : List (List ℕ) → Status → List ℕ → List ℕ
note_of words Done name = []
note_of words BadWords name = line (codes "bad words" ∷ [])
note_of words Missing name = line (noted_file words name ∷ codes ": missing" ∷ [])
note_of words (SourceRefused refusal) name = line (codes "source token " ∷ decimal refusal.token ∷ codes ": " ∷ cause_named refusal.cause ∷ [])
note_of words (NotCertified id cause) name = line (name ∷ uncertified cause ∷ [])
note_of words (BadImage offset) name = line (codes "image byte " ∷ decimal offset ∷ [])
note_of words (BadListing number) name = line (codes "listing line " ∷ decimal number ∷ [])
note_of words StepsUsed name = line (codes "steps used" ∷ [])
note_of words InputEnded name = line (codes "input ended" ∷ [])
note_of words (Outside address) name = line (codes "outside " ∷ decimal address ∷ [])
note_of words (Halted status) name = line (codes "halted " ∷ decimal status ∷ [])
note_of words ReadFault name = line (codes "read fault" ∷ [])
note_of words WriteFault name = line (codes "write fault" ∷ [])
note_of words OutOfMemory name = line (codes "out of memory" ∷ [])
note_of words TooLarge name = line (noted_file words name ∷ codes ": too large" ∷ [])
note_of words Underflow name = line (codes "underflow" ∷ [])
note_of words Unbalanced name = line (codes "unbalanced" ∷ [])
note_of words (BoundRefused id cause) name = line (name ∷ unbounded cause ∷ [])
note_of words (BadNet number) name = line (codes "net line " ∷ decimal number ∷ [])
