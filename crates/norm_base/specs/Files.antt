-- Files by their names.
use Rattle.std.specs.Prelude.{◌≡◌, ℕ, List, [], ◌∷◌, None, Some, IfSome, IfOk, Result, Vec, if◌then◌else◌, map}
use Rattle.std.specs.Str.{bytes_eq}
use Rattle.std.specs.Option.{option_map}
use Rattle.std.specs.declared.option.Option.{Option}
use Rattle.std.specs.declared.alloc.Global.{Global}

-- names and contents
abbrev pub Files : Type 0
Files = List (List ℕ × List ℕ)

-- the content of the first file of this name
abbrev pub file_of : Files → List ℕ → Option (List ℕ)
file_of [] name = None
file_of (file ∷ files) name = if bytes_eq file.0 name then Some file.1 else file_of files name

-- names and contents of files that are kept as vectors
abbrev pub files_of : List (List ℕ × Vec ℕ Global) → Files
files_of files = map (λ file. (file.0, file.1.items)) files

-- where the files are known, what a call fetched is the file of that name, and none only where
-- there is none
abbrev pub Fetches : {E : Type 0} → Option Files → List ℕ → Result (Option (Vec ℕ Global)) E → Type 0
Fetches files name result = IfOk result (λ file. IfSome files (λ known. option_map (λ bytes. bytes.items) file ≡ file_of known name))
