-- Several lists of entries as one: the documents that enough of them have, each with what its entries make.
use Rattle.std.specs.Prelude.{[], Bool, List, ◌++◌, ◌+◌, ◌-◌, ◌==◌, ◌∷◌, if◌then◌else◌, flat_map, length, map, min, nat_le, suc, sum, zero, ℕ}
use Rattle.definitions.specs.Postings.{terminated}
use Rattle.docsets.specs.Entries.{Entry, first}
use Rattle.docsets.specs.ScoredEntries.{greatest_score}

-- the entry of a document, where the list has it
abbrev pub entries_of : ℕ → List Entry → List Entry
entries_of d [] = []
entries_of d (e ∷ es) = if d == e.doc then e ∷ entries_of d es else entries_of d es

-- its entries in several lists, in their order: one for each that has it
abbrev pub entries_at : ℕ → List (List Entry) → List Entry
entries_at d [] = []
entries_at d (es ∷ ess) = entries_of d es ++ entries_at d ess

-- the scores alone
abbrev pub scores_in : List Entry → List ℕ
scores_in es = map (λ e. e.score) es

-- the entry of a document, whatever document it names
abbrev pub at_document : ℕ → Entry → Entry
at_document d e = record e { doc = d }

-- of n documents from one on, those with a flag, each with its entry
unfoldable pub walk : (ℕ → Bool) → (ℕ → Entry) → ℕ → ℕ → List Entry
walk flag entry low zero = []
walk flag entry low (suc n) = if flag low then at_document low (entry low) ∷ walk flag entry (low + 1) n else walk flag entry (low + 1) n

-- the documents from one on that have a flag, each with its entry
unfoldable pub listed : (ℕ → Bool) → (ℕ → Entry) → ℕ → List Entry
listed flag entry low = walk flag entry low (terminated - low)

-- whether at least `minimum` lists have a document
abbrev pub enough : ℕ → List (List Entry) → ℕ → Bool
enough minimum ess d = nat_le minimum (length (entries_at d ess))

-- the documents that at least `minimum` lists have, each with what its entries make; with 1 it is the union
abbrev pub at_least : ℕ → (ℕ → List Entry → Entry) → List (List Entry) → List Entry
at_least minimum make ess = listed (enough minimum ess) (λ d. make d (entries_at d ess)) 0

-- a document with a score, and nothing else
abbrev pub with_score : ℕ → ℕ → Entry
with_score d score = record { doc = d; score = score; count = 0; positions = [] }

-- what a combiner makes of the scores of entries
abbrev pub combining : (List ℕ → ℕ) → ℕ → List Entry → Entry
combining combine d es = with_score d (combine (scores_in es))

-- scores and counts added up, and the positions of each term, in the order of the lists
abbrev pub joining : ℕ → List Entry → Entry
joining d es = record { doc = d; score = sum (scores_in es); count = sum (map (λ e. e.count) es); positions = flat_map (λ e. e.positions) es }

-- the greatest scores of several lists added up
abbrev pub greatest_sum : List (List Entry) → ℕ
greatest_sum [] = 0
greatest_sum (es ∷ ess) = greatest_score es + greatest_sum ess

-- the least document on which one of them stands
abbrev pub least : List (List Entry) → ℕ
least [] = terminated
least (es ∷ ess) = min (first es) (least ess)
