-- Scores: whole numbers, each by its document and query alone.
use Rattle.std.specs.Prelude.{[], ⊤, ◌&&◌, ◌*◌, ◌++◌, ◌+◌, ◌-◌, ◌/◌, ◌<◌, ◌==◌, ◌^◌, ◌∷◌, ◌≡◌, ◌≤◌, List, if◌then◌else◌, length, max, negsuc, pos, slice_index, sum, sum_by, ℕ, ℤ}
use Rattle.std.specs.List.{AllByRecursion}
use Rattle.definitions.specs.Analyzers.{Analyzer}
use Rattle.definitions.specs.Lengths.{fieldnorm_to_id, len_of}
use Rattle.definitions.specs.Matching.{is_counted, matches}
use Rattle.definitions.specs.Phrases.{phrase_count, whole_terms}
use Rattle.definitions.specs.Query.{Clauses, Queries, Query, Terms, all, boolean, boost, clause, const_score, disjunction_max, empty, no_clauses, no_queries, phrase, phrase_prefix, query, term}
use Rattle.definitions.specs.Recorded.{count_of}
use Rattle.definitions.specs.Schema.{IndexRecordOption, Schema, field_has, has_freq, keeps_length}
use Rattle.definitions.specs.Terms.{field_of}
use Rattle.definitions.specs.Values.{Document}

-- the greatest score
abbrev pub max_score : ℕ
max_score = 1_000_000_000_000_000

-- the weight of each term, and a norm for each length id
pub record Similarity : Type 0 where
  pub weight : List ℕ → ℕ
  pub norms : List ℕ

-- no number is below the one after it
abbrev pub DontFall : List ℕ → Type 0
DontFall [] = ⊤
DontFall (n ∷ []) = ⊤
DontFall (n ∷ m ∷ ns) = (n ≤ m) × DontFall (m ∷ ns)

-- weights up to the greatest score, and 256 norms of 32 bits that don't fall
pub record IsSimilarity (s : Similarity) : Type 0 where
  pub weights : (t : List ℕ) → s.weight t ≤ max_score
  pub norm_for_each : length s.norms ≡ 256
  pub norms_fit : AllByRecursion (λ n. n < 2 ^ 32) s.norms
  pub norms_rise : DontFall s.norms

-- a boost as a factor; a negative one is read as 0
abbrev pub natural : ℤ → ℕ
natural (pos n) = n
natural (negsuc n) = 0

-- the id of a document's length in a field, and 1 where the field keeps none
abbrev pub length_id : Schema → Analyzer → ℕ → Document → ℕ
length_id schema analyze field doc = if field_has keeps_length schema field then fieldnorm_to_id (len_of schema analyze field doc) else 1

-- the part of a weight that a count earns
abbrev pub part : ℕ → ℕ → ℕ → ℕ
part weight count norm = weight * count / (count + norm)

-- the count that a term query reads
abbrev pub query_count : Schema → Analyzer → List ℕ → IndexRecordOption → Document → ℕ
query_count schema analyze t option doc = if has_freq option then count_of schema analyze t doc else 1

-- a part with the norm of the document's length in the field
abbrev pub part_of : Schema → Analyzer → Similarity → Document → ℕ → ℕ → ℕ → ℕ
part_of schema analyze sim doc field weight count = part weight count (slice_index sim.norms (length_id schema analyze field doc))

-- the part that a term earns
abbrev pub term_score : Schema → Analyzer → Similarity → Document → List ℕ → IndexRecordOption → ℕ
term_score schema analyze sim doc t option = part_of schema analyze sim doc (field_of t) (sim.weight t) (query_count schema analyze t option doc)

-- the field of a phrase, which all its terms share
abbrev pub phrase_field : Terms → ℕ
phrase_field [] = 0
phrase_field (t ∷ ts) = field_of t.1

-- the terms' weights added up, repeats counted
abbrev pub weight_sum : (List ℕ → ℕ) → Terms → ℕ
weight_sum weight terms = sum_by (λ t. weight t.1) terms

-- the part that a phrase earns
abbrev pub phrase_score : Schema → Analyzer → Similarity → Document → Terms → ℕ → ℕ
phrase_score schema analyze sim doc terms slop = part_of schema analyze sim doc (phrase_field terms) (weight_sum sim.weight terms) (phrase_count schema analyze terms slop doc)

-- as the phrase of the whole terms; one whole term earns 1
abbrev pub prefix_score : Schema → Analyzer → Similarity → Document → Terms → ℕ
prefix_score schema analyze sim doc whole = if length whole == 1 then 1 else phrase_score schema analyze sim doc whole 0

-- the greatest number, and 0 of none
abbrev pub greatest_of : List ℕ → ℕ
greatest_of [] = 0
greatest_of (n ∷ ns) = max n (greatest_of ns)

-- the greatest score, and `tie` thousandths of the others
abbrev pub best_and_tie : ℕ → List ℕ → ℕ
best_and_tie tie scores = greatest_of scores + (sum scores - greatest_of scores) * tie / 1000

-- the score of a document that matches, under the product of the boosts above
abbrev mutual
  pub score : Schema → Analyzer → Similarity → Document → ℕ → Query → ℕ
  score schema analyze sim doc b all = b
  score schema analyze sim doc b empty = 0
  score schema analyze sim doc b (term t option) = b * term_score schema analyze sim doc t option
  score schema analyze sim doc b (phrase terms slop) = b * phrase_score schema analyze sim doc terms slop
  score schema analyze sim doc b (phrase_prefix terms limit) = b * prefix_score schema analyze sim doc (whole_terms terms)
  score schema analyze sim doc b (boolean cs least) = sum (clause_scores schema analyze sim doc b cs)
  score schema analyze sim doc b (disjunction_max qs tie) = best_and_tie (natural tie) (query_scores schema analyze sim doc b qs)
  score schema analyze sim doc b (boost factor q) = score schema analyze sim doc (b * natural factor) q
  score schema analyze sim doc b (const_score constant q) = b * natural constant

  -- the scores of the must and should clauses that match
  pub clause_scores : Schema → Analyzer → Similarity → Document → ℕ → Clauses → List ℕ
  clause_scores schema analyze sim doc b no_clauses = []
  clause_scores schema analyze sim doc b (clause occur q cs) = (if is_counted occur && matches schema analyze doc q then score schema analyze sim doc b q ∷ [] else []) ++ clause_scores schema analyze sim doc b cs

  -- the scores of the queries that match
  pub query_scores : Schema → Analyzer → Similarity → Document → ℕ → Queries → List ℕ
  query_scores schema analyze sim doc b no_queries = []
  query_scores schema analyze sim doc b (query q qs) = (if matches schema analyze doc q then score schema analyze sim doc b q ∷ [] else []) ++ query_scores schema analyze sim doc b qs
