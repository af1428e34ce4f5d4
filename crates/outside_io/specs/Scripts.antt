-- Objects in memory and of the system, as contracts see them. Those in memory number their calls from 1.
use Rattle.std.specs.Prelude.{ℕ, List, Contains, refl}
use Rattle.std.specs.Coded.{Coded, code_by, coded×, coded_list, coded_ℕ}
use Rattle.std.specs.FinMap.{code}
use Rattle.outside_io.specs.Causes.{risen}
use Rattle.outside_io.specs.Contents.{Contents}

-- after this many calls, the number of the next one is listed among those that fail
abbrev pub IsFailing : ℕ → List ℕ → Type 0
IsFailing calls fails = Contains fails (risen calls)

-- a source: the bytes left, the number of calls, the numbers of the calls that fail, and the faults
pub record SourceScript : Type 0 where
  pub left : List ℕ
  pub calls : ℕ
  pub fails : List ℕ
  pub faults : ℕ

-- a sink: the bytes held, the room, the number of calls, the numbers of the calls that fail, and the faults
pub record SinkScript : Type 0 where
  pub held : List ℕ
  pub room : ℕ
  pub calls : ℕ
  pub fails : List ℕ
  pub faults : ℕ

-- a folder: its files, the number of calls, the numbers of the calls that fail, the faults and the absences
pub record FolderScript : Type 0 where
  pub files : Contents
  pub calls : ℕ
  pub fails : List ℕ
  pub read_faults : ℕ
  pub write_faults : ℕ
  pub absences : ℕ

-- the code of the last five fields
abbrev pub counts_code : Coded (ℕ × (List ℕ × (ℕ × (ℕ × ℕ))))
counts_code = coded× coded_ℕ (coded× (coded_list coded_ℕ) (coded× coded_ℕ (coded× coded_ℕ coded_ℕ)))

-- a folder is stored as the tuple of its fields
abbrev pub folder_code : Coded FolderScript
folder_code =
    code_by (Contents × (ℕ × (List ℕ × (ℕ × (ℕ × ℕ)))))
    (coded× (code (coded_list coded_ℕ) (coded_list coded_ℕ)) counts_code)
    (λ f. (f.files, (f.calls, (f.fails, (f.read_faults, (f.write_faults, f.absences))))))
    (λ p. record {
      files = p.0;
      calls = p.1.0;
      fails = p.1.1.0;
      read_faults = p.1.1.1.0;
      write_faults = p.1.1.1.1.0;
      absences = p.1.1.1.1.1;
    })
    (λ _. refl)

-- the counts of a stream of the system
pub record StreamCounts : Type 0 where
  pub calls : ℕ
  pub faults : ℕ

-- the counts of a folder of the system
pub record FolderCounts : Type 0 where
  pub calls : ℕ
  pub read_faults : ℕ
  pub write_faults : ℕ
  pub absences : ℕ
