-- Files that are read from a folder.
use Rattle.std.proofs.Common.{◌≡◌, ◌⊎◌, inl, inr, ℕ, ◌+◌, ◌<◌, ◌≤◌, List, length, take, refl, sym, ap, ◌∙◌, subst, arith, length-take}
use Rattle.std.proofs.lemmas.List.{take_all}
use Rattle.std.specs.Prelude.{[], nat_le, if◌then◌else◌, Option, Some, None, option_map, slice_index_or, Result, Ok, Err, MatchResult}
use Rattle.std.proofs.lemmas.Bool.{le-leb}
use Rattle.outside_io.specs.Files.{Files, HasFront}
use Rattle.forth_program.specs.Program.{SourceProgram}
use Rattle.forth_reader.specs.Name.{IsName}
use Rattle.control_flow.specs.ParseResult.{Fine}
use Rattle.control_flow.specs.SourceText.{program_of_text}
use Rattle.depth_certifier.specs.declared.effect.CertCause.{CertCause}
use Rattle.depth_certifier.specs.Certificate.{Cert, IsValid}
use Rattle.depth_certifier.specs.declared.refused.CertError.{CertError}
use Rattle.depth_certifier.specs.declared.refused.CertError.TheVariants.{NotCertified as NoCertificate}
use Rattle.depth_certifier.specs.Rounds.{RoundsRefuse}
use Rattle.depth_certifier.specs.Settling.{IsRefusal}
use Rattle.forth_program.specs.declared.item.DefId.{DefId}
use Rattle.j1_workbench.specs.declared.status.Status.{Status}
use Rattle.j1_workbench.specs.declared.status.Status.TheVariants.{Missing, SourceRefused, NotCertified, ReadFault, OutOfMemory, TooLarge}
use Rattle.j1_workbench.specs.Notes.{named}
use Rattle.j1_workbench.specs.Evaluating.{IsReading}
use Rattle.j1_workbench.specs.Surroundings.{FolderState}
use Rattle.j1_workbench.specs.Files.{HoldsFile, IsRead, IsUnread}
use Rattle.j1_workbench.specs.Sources.{IsUncertified, IsRefusedText, IsRefusedSource}

some_same : {A : Type 0} (x y : A) → Some x ≡ Some y → x ≡ y
some_same x y e = cc

-- a file of which these are the first bytes that were read
has_content : (found : Option (List ℕ)) (most : ℕ) (front : List ℕ) → option_map (take most) found ≡ Some front → (text : List ℕ) × (found ≡ Some text) × (take most text ≡ front)
has_content None most front read = cc
has_content (Some text) most front read = (text, refl, some_same _ _ read)

-- one byte more than a file may have tells whether it is too long
whole_by : (files : Option Files) (name front : List ℕ) (most next : ℕ) → next ≡ most + 1 → HasFront files name next front → length front ≤ most → HoldsFile files name front
whole_by None name front most next one read short = tt
whole_by (Some files) name front most next one read short =
    let found = has_content (files name) next front read in
    let few : length (take next found.0) ≤ most = subst (λ l. length l ≤ most) (sym found.2) short in
    found.1 ∙ ap Some (sym (take_all next found.0 (omega (arith, length-take next found.0))) ∙ found.2)

pub read_whole : (before : FolderState) (name front : List ℕ) (most next : ℕ) → next ≡ most + 1 → HasFront before.files name next front → length front ≤ most → IsRead most name before front
read_whole before name front most next one read short = record { holds = whole_by before.files name front most next one read short; short = short }

long_by : (files : Option Files) (name front : List ℕ) (most next : ℕ) → next ≡ most + 1 → HasFront files name next front → most < length front → (content : List ℕ) × HoldsFile files name content × (most < length content)
long_by None name front most next one read long = (front, tt, long)
long_by (Some files) name front most next one read long =
    let found = has_content (files name) next front read in
    let many : most < length (take next found.0) = subst (λ l. most < length l) (sym found.2) long in
    (found.0, found.1, omega (arith, length-take next found.0))

pub read_too_large : (before : FolderState) (name front : List ℕ) (most next : ℕ) → next ≡ most + 1 → HasFront before.files name next front →
    most < length front → (content : List ℕ) × HoldsFile before.files name content × (most < length content)
read_too_large before name front most next one read long = long_by before.files name front most next one read long

-- ---- sources

-- what is refused of a source that was read
read_source : (source text : List ℕ) (before after : FolderState) (status : Status) (name : List ℕ) → HoldsFile before.files source text → IsRefusedText text status name → IsRefusedSource source before after status name
read_source source text before after TooLarge name holds refused = (text, holds, refused)
read_source source text before after (SourceRefused refusal) name holds refused = (text, holds, refused)
read_source source text before after (NotCertified id cause) name holds refused = (text, holds, refused)
read_source source text before after status name holds refused = absurd refused

pub refused_read : (source text : List ℕ) (before after : FolderState) (status : Status) (name : List ℕ) →
    IsRead 65536 source before text → (status ≡ OutOfMemory) ⊎ IsRefusedText text status name → IsRefusedSource source before after status name
refused_read source text before after status name read (inl same) = subst (λ s. IsRefusedSource source before after s name) (sym same) tt
refused_read source text before after status name read (inr refused) = read_source source text before after status name read.holds refused

pub unread_source : (source : List ℕ) (before after : FolderState) (status : Status) (name : List ℕ) → IsUnread 65536 source before after status → IsRefusedSource source before after status name
unread_source source before after Missing name unread = unread
unread_source source before after ReadFault name unread = unread
unread_source source before after OutOfMemory name unread = tt
unread_source source before after TooLarge name unread = unread
unread_source source before after status name unread = absurd unread

-- it is not refused for the want of a certificate
pub unread_reading : (source : List ℕ) (before after : FolderState) (status : Status) → IsUnread 65536 source before after status → IsReading status
unread_reading source before after (NotCertified id cause) unread = absurd unread
unread_reading source before after status unread = tt

-- a text of at most 255 bytes is named
pub short_named : (name : Option (List ℕ)) (told : List ℕ) → named name ≡ (if nat_le (length told) 255 then told else []) → length told ≤ 255 → named name ≡ told
short_named name told value short = value ∙ ap (λ g. if g then told else []) (le-leb (length told) 255 short)

-- so a definition is named, since its name has the form of a name
pub definition_named : (name : Option (List ℕ)) (told : List ℕ) → named name ≡ (if nat_le (length told) 255 then told else []) → IsName told → named name ≡ told
definition_named name told value is = short_named name told value (omega (arith, is.short))

-- so is one that is refused
pub uncertified_text : (text : List ℕ) (program : SourceProgram) (error : CertError) (id : DefId) (cause : CertCause) (name : Option (List ℕ)) (told : List ℕ) →
    length text ≤ 65536 → program_of_text text ≡ Fine program → error ≡ NoCertificate id cause → IsRefusal error (λ r. RoundsRefuse program r) → IsRefusal error (λ r. (z : Cert) → IsValid program z → ⊥) →
    told ≡ slice_index_or program.names id.0 [] → named name ≡ (if nat_le (length told) 255 then told else []) → IsName told →
    IsUncertified text id.0 cause (named name)
uncertified_text text program error id cause name told short is known refused none same value form = record {
  program = program;
  short = short;
  program_is = is;
  refusal = subst (λ e. IsRefusal e (λ r. RoundsRefuse program r)) known refused;
  none = subst (λ e. IsRefusal e (λ r. (z : Cert) → IsValid program z → ⊥)) known none;
  name_is = definition_named name told value form ∙ same;
}

-- what holds of a result of either kind
pub on_either : {T E : Type 0} (P P' : T → Type 0) (Q Q' : E → Type 0) (result : Result T E) → ((x : T) → P x → P' x) → ((e : E) → Q e → Q' e) → MatchResult result P Q → MatchResult result P' Q'
on_either P P' Q Q' (Ok x) good bad holds = good x holds
on_either P P' Q Q' (Err e) good bad holds = bad e holds
