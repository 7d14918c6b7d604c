-- What the index records of a term in a document.
use Rattle.std.specs.Prelude.{[], ◌&&◌, ◌∷◌, Bool, List, bytes_eq, filter, if◌then◌else◌, length, map, nat_le, ℕ}
use Rattle.std.specs.List.{list_any}
use Rattle.definitions.specs.Analyzers.{Analyzer}
use Rattle.definitions.specs.Indexing.{terms_of}
use Rattle.definitions.specs.Schema.{IndexRecordOption, Schema, field_has, has_freq, has_positions}
use Rattle.definitions.specs.Terms.{field_of, is_text_term}
use Rattle.definitions.specs.Values.{Document}

-- the positions at which a document has a term, in the order of its terms
abbrev pub occurrences : Schema → Analyzer → List ℕ → Document → List ℕ
occurrences schema analyze t doc = map (λ p. p.1) (filter (λ p. bytes_eq p.0 t) (terms_of schema analyze doc))

-- whether the document has the term
abbrev pub holds : Schema → Analyzer → List ℕ → Document → Bool
holds schema analyze t doc = list_any (λ p. bytes_eq p.0 t) (terms_of schema analyze doc)

-- whether the term is a text's, and what its field records passes
abbrev pub is_recorded : (IndexRecordOption → Bool) → Schema → List ℕ → Bool
is_recorded test schema t = is_text_term t && field_has (λ e. test e.record_option) schema (field_of t)

-- how often: of a text term whose field records counts; 1 of every other
abbrev pub count_of : Schema → Analyzer → List ℕ → Document → ℕ
count_of schema analyze t doc = if is_recorded has_freq schema t then length (occurrences schema analyze t doc) else 1

-- a number at its place among ascending numbers
abbrev pub insert_ascending : ℕ → List ℕ → List ℕ
insert_ascending n [] = n ∷ []
insert_ascending n (m ∷ ms) = let rest = insert_ascending n ms in if nat_le n m then n ∷ m ∷ ms else m ∷ rest

-- numbers in ascending order, repeats kept
abbrev pub ascending : List ℕ → List ℕ
ascending [] = []
ascending (n ∷ ns) = insert_ascending n (ascending ns)

-- where: of a text term whose field records positions, repeats kept; nowhere of every other
abbrev pub positions_of : Schema → Analyzer → List ℕ → Document → List ℕ
positions_of schema analyze t doc = if is_recorded has_positions schema t then ascending (occurrences schema analyze t doc) else []
