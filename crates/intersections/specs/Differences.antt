-- Differences of lists of entries.
use Rattle.std.specs.Prelude.{[], Bool, List, ◌<◌, ◌∷◌, ◌≡◌, false, if◌then◌else◌, length, nat_le, ℕ}
use Rattle.definitions.specs.Postings.{terminated}
use Rattle.docsets.specs.Entries.{Entry, first}
use Rattle.docsets.specs.Members.{entries_of, with_score}

-- whether a list has a document
abbrev pub has : List Entry → ℕ → Bool
has es d = nat_le 1 (length (entries_of d es))

-- a document alone
abbrev pub unscored : ℕ → List Entry → Entry
unscored d es = with_score d 0

-- the entries whose documents aren't excluded
abbrev pub without : (ℕ → Bool) → List Entry → List Entry
without excluded [] = []
without excluded (e ∷ es) = if excluded e.doc then without excluded es else e ∷ without excluded es

-- the document on which a list stands isn't excluded
abbrev pub IsOutside : (ℕ → Bool) → List Entry → Type 0
IsOutside excluded es = first es < terminated → excluded (first es) ≡ false
