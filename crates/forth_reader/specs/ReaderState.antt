-- A reader as contracts see it, and what a call does to it.
use Rattle.std.specs.Prelude.{◌≡◌, ℕ, ◌+◌, ◌<◌, ◌≤◌, List, [], length, Option, Some, None}
use Rattle.forth_reader.specs.declared.refusal.ReadRefusal.{ReadRefusal}
use Rattle.forth_reader.specs.Reading.{Reading, NoMore, Reads, Refuses, next_from, name_from, StringReading, Quoted, Unquoted, string_from}

pub record ReaderState : Type 0 where
  -- the whole text, and the bytes that are left of it
  pub text : List ℕ
  pub rest : List ℕ
  -- the tokens read so far, comments too
  pub count : ℕ
  -- the refusal that stands for good
  pub failed : Option ReadRefusal

-- each token has taken a byte at least, and numbers fit 32 bits
pub record IsReaderState (state : ReaderState) : Type 0 where
  pub within : state.count + length state.rest ≤ length state.text
  pub short : length state.text < 4294967295

-- a refusal stands for good
abbrev pub unless_failed : Option ReadRefusal → Reading → Reading
unless_failed None reading = reading
unless_failed (Some refusal) reading = Refuses refusal.token refusal.cause

-- what `next` reads
abbrev pub next_reading : ReaderState → Reading
next_reading state = unless_failed state.failed (next_from state.count state.rest)

-- what `name` reads
abbrev pub name_reading : ReaderState → Reading
name_reading state = unless_failed state.failed (name_from state.count state.rest)

abbrev pub unless_failed_string : Option ReadRefusal → StringReading → StringReading
unless_failed_string None reading = reading
unless_failed_string (Some refusal) reading = Unquoted refusal.cause

-- what `string` reads
abbrev pub string_reading : ReaderState → StringReading
string_reading state = unless_failed_string state.failed (string_from state.rest)

-- a string is refused with the number of its word
abbrev pub string_number : ReaderState → ℕ
string_number state = elim state.failed [ None ↦ state.count | Some refusal ↦ refusal.token ]

-- no token was left, and nothing is
pub record Ended (old new : ReaderState) (reading : Reading) : Type 0 where
  pub reading_is : reading ≡ NoMore new.count
  pub new_is : new ≡ record old { rest = []; count = new.count }

-- a token was read; it starts at that place of the text
pub record TookToken (old new : ReaderState) (reading : Reading) (token : List ℕ) (start number : ℕ) : Type 0 where
  pub reading_is : reading ≡ Reads token number new.rest
  pub new_is : new ≡ record old { rest = new.rest; count = number }
  pub starts : start + length token + length new.rest ≡ length old.text

-- the text is refused, and the refusal kept
pub record Failed (old new : ReaderState) (reading : Reading) (refusal : ReadRefusal) : Type 0 where
  pub reading_is : reading ≡ Refuses refusal.token refusal.cause
  pub new_is : new ≡ record old { failed = Some refusal }

-- the text of a string word was read
pub record TookString (old new : ReaderState) (reading : StringReading) (text : List ℕ) : Type 0 where
  pub reading_is : reading ≡ Quoted text new.rest
  pub new_is : new ≡ record old { rest = new.rest }

-- the string is refused, and the refusal kept
pub record FailedString (old new : ReaderState) (reading : StringReading) (refusal : ReadRefusal) : Type 0 where
  pub reading_is : reading ≡ Unquoted refusal.cause
  pub number_is : refusal.token ≡ string_number old
  pub new_is : new ≡ record old { failed = Some refusal }
