-- What a folder holds, where it is known, as the content of each name.
use Rattle.std.specs.Prelude.{ℕ, List, ◌≡◌, ◌⊎◌, take, Option, None, Some, option_map, ⊤, true, if◌then◌else◌}
use Rattle.std.specs.Str.{bytes_eq}

-- the content of each name, where it has one
abbrev pub Files : Type 0
Files = List ℕ → Option (List ℕ)

-- where the files are known, they lack the name
abbrev pub Lacks : Option Files → List ℕ → Type 0
Lacks None name = ⊤
Lacks (Some files) name = files name ≡ None

-- the files are known and lack the name
abbrev pub IsLacking : Option Files → List ℕ → Type 0
IsLacking None name = ⊥
IsLacking (Some files) name = files name ≡ None

-- known files have the name, and its content has these first `most` bytes, or is these bytes where it is shorter
abbrev pub HasFront : Option Files → List ℕ → ℕ → List ℕ → Type 0
HasFront None name most bytes = ⊤
HasFront (Some files) name most bytes = option_map (take most) (files name) ≡ Some bytes

-- the files with this content for a name
abbrev pub with_file : Files → List ℕ → List ℕ → Files
with_file files name bytes = λ other. if bytes_eq name other then Some bytes else files other

-- known files stay known, and each name keeps its content, or its lack of one
abbrev pub KeepsFiles : Option Files → Option Files → Type 0
KeepsFiles None new = ⊤
KeepsFiles (Some files) None = ⊥
KeepsFiles (Some files) (Some after) = (other : List ℕ) → after other ≡ files other

-- known files stay known, the name has this content, and each other name keeps its own
abbrev pub SetsFile : Option Files → Option Files → List ℕ → List ℕ → Type 0
SetsFile None new name bytes = ⊤
SetsFile (Some files) None name bytes = ⊥
SetsFile (Some files) (Some after) name bytes = (other : List ℕ) → after other ≡ with_file files name bytes other

-- known files stay known, and each other name keeps its content, or its lack of one
abbrev pub KeepsOthers : Option Files → Option Files → List ℕ → Type 0
KeepsOthers None new name = ⊤
KeepsOthers (Some files) None name = ⊥
KeepsOthers (Some files) (Some after) name = (other : List ℕ) → (bytes_eq name other ≡ true) ⊎ (after other ≡ files other)
