-- Queries as JSON: an object whose key `q` names its form.
use Rattle.std.specs.Prelude.{[], ◌&&◌, ◌==◌, ◌^◌, ◌∷◌, Bool, List, None, Option, Some, bytes_eq, codes, false, find, if◌then◌else◌, length, nat_lt, option_map, pos, unwrap_or, zip, ℕ}
use Rattle.std.specs.List.{list_all, range_with_len}
use Rattle.definitions.specs.GivenDepths.{is_too_deep}
use Rattle.definitions.specs.Json.{at_or, has_only, list_of, named, number_at, number_below, number_in, only_if, text_at, ◌>>=◌}
use Rattle.definitions.specs.Phrases.{by_offset}
use Rattle.definitions.specs.Query.{Clauses, Occur, Queries, Query, Terms, all, boolean, boost, clause, const_score, default_minimum, disjunction_max, empty, must, must_not, no_clauses, no_queries, phrase, phrase_prefix, query, should, term}
use Rattle.definitions.specs.Refusing.{all_expansions}
use Rattle.definitions.specs.Schema.{IndexRecordOption, Schema, basic, with_freqs, with_freqs_and_positions}
use Rattle.definitions.specs.TermGrammar.{term_beside, term_in}
use Rattle.definitions.specs.Terms.{field_of}
use Rattle.serde_json.specs.Find.{as_str, get}
use Rattle.serde_json.specs.Data as json

-- the forms of queries
pub data Form : Type 0 where
  all_form : Form
  none_form : Form
  term_form : Form
  phrase_form : Form
  prefix_form : Form
  bool_form : Form
  dismax_form : Form
  boost_form : Form
  const_form : Form

-- the forms, each with its name
abbrev pub forms : List (List ℕ × Form)
forms = (codes "all", all_form) ∷ (codes "none", none_form) ∷ (codes "term", term_form) ∷ (codes "phrase", phrase_form) ∷ (codes "phrase_prefix", prefix_form) ∷ (codes "bool", bool_form) ∷ (codes "dismax", dismax_form) ∷ (codes "boost", boost_form) ∷ (codes "const", const_form) ∷ []

-- what a term query reads, by its name
abbrev pub record_options : List (List ℕ × IndexRecordOption)
record_options = (codes "basic", basic) ∷ (codes "freq", with_freqs) ∷ (codes "position", with_freqs_and_positions) ∷ []

-- what is to be read, from its name
abbrev pub record_option_in : json.Data → Option IndexRecordOption
record_option_in d = as_str d >>= named record_options

-- ---- forms without a query inside

-- every document
abbrev pub all_query : json.Data → Option Query
all_query d = only_if (has_only (codes "q" ∷ []) d) (Some all)

-- no document
abbrev pub none_query : json.Data → Option Query
none_query d = only_if (has_only (codes "q" ∷ []) d) (Some empty)

-- a term; counts are read where nothing else is said
abbrev pub term_query : Schema → json.Data → Option Query
term_query schema d = do
  t ← term_beside (codes "q" ∷ codes "record" ∷ []) schema d
  option ← at_or with_freqs record_option_in (codes "record") d
  Some (term t option)

-- whether these are two terms or more, all of one field
abbrev pub share_field : List (List ℕ) → Bool
share_field [] = false
share_field (t ∷ ts) = nat_lt 0 (length ts) && list_all (λ u. field_of u == field_of t) ts

-- the terms of a phrase
abbrev pub terms_in : Schema → json.Data → Option (List (List ℕ))
terms_in schema d = list_of (term_in schema) d >>= (λ ts. only_if (share_field ts) (Some ts))

-- offsets and slops are below this
abbrev pub offset_limit : ℕ
offset_limit = 2 ^ 32

-- the terms of a phrase in the order of their offsets, which are their places where none are given
abbrev pub terms_at : Schema → json.Data → Option Terms
terms_at schema d = do
  ts ← get (codes "terms") d >>= terms_in schema
  offsets ← at_or (range_with_len 0 (length ts)) (list_of (number_below offset_limit)) (codes "offsets") d
  only_if (length offsets == length ts) (Some (by_offset (zip offsets ts)))

-- terms beside each other, with slop 0 where none is given
abbrev pub phrase_query : Schema → json.Data → Option Query
phrase_query schema d = only_if (has_only (codes "q" ∷ codes "terms" ∷ codes "offsets" ∷ codes "slop" ∷ []) d) (do
  ts ← terms_at schema d
  slop ← at_or 0 (number_below offset_limit) (codes "slop") d
  Some (phrase ts slop))

-- terms beside each other of which the last is a prefix; no expansion is left out
abbrev pub prefix_query : Schema → json.Data → Option Query
prefix_query schema d = only_if (has_only (codes "q" ∷ codes "terms" ∷ codes "offsets" ∷ []) d) (do
  ts ← terms_at schema d
  Some (phrase_prefix ts all_expansions))

-- ---- forms with queries inside, over what stands at a key

-- a key's query
abbrev pub One : Type 0
One = List ℕ → Option Query

-- a key's list of queries, if it is one, where there is such a key
abbrev pub Many : Type 0
Many = List ℕ → Option (Option Queries)

-- a clause for each query, before other clauses
abbrev pub clauses_onto : Occur → Queries → Clauses → Clauses
clauses_onto occur no_queries cs = cs
clauses_onto occur (query q qs) cs = clause occur q (clauses_onto occur qs cs)

-- the must clauses, then those that should match, then those that must not
abbrev pub clauses_at : Many → Option Clauses
clauses_at many = do
  musts ← unwrap_or (many (codes "must")) (Some no_queries)
  shoulds ← unwrap_or (many (codes "should")) (Some no_queries)
  must_nots ← unwrap_or (many (codes "must_not")) (Some no_queries)
  Some (clauses_onto must musts (clauses_onto should shoulds (clauses_onto must_not must_nots no_clauses)))

-- clauses, and how many of those that should match must
abbrev pub bool_query : Many → json.Data → Option Query
bool_query many d = only_if (has_only (codes "q" ∷ codes "must" ∷ codes "should" ∷ codes "must_not" ∷ codes "min" ∷ []) d) (do
  cs ← clauses_at many
  least ← at_or (default_minimum cs) number_in (codes "min") d
  Some (boolean cs least))

-- the best of some queries, with nothing of the others where no tie is given
abbrev pub dismax_query : Many → json.Data → Option Query
dismax_query many d = only_if (has_only (codes "q" ∷ codes "queries" ∷ codes "tie" ∷ []) d) (do
  qs ← unwrap_or (many (codes "queries")) None
  tie ← at_or 0 number_in (codes "tie") d
  Some (disjunction_max qs (pos tie)))

-- a query whose scores are multiplied
abbrev pub boost_query : One → json.Data → Option Query
boost_query one d = only_if (has_only (codes "q" ∷ codes "boost" ∷ codes "query" ∷ []) d) (do
  n ← number_at (codes "boost") d
  q ← one (codes "query")
  Some (boost (pos n) q))

-- a query whose scores are replaced by one number
abbrev pub const_query : One → json.Data → Option Query
const_query one d = only_if (has_only (codes "q" ∷ codes "score" ∷ codes "query" ∷ []) d) (do
  n ← number_at (codes "score") d
  q ← one (codes "query")
  Some (const_score (pos n) q))

-- ---- any form

-- the query of a form, given what stands at its keys
abbrev pub query_formed : Form → Schema → One → Many → json.Data → Option Query
query_formed all_form schema one many d = all_query d
query_formed none_form schema one many d = none_query d
query_formed term_form schema one many d = term_query schema d
query_formed phrase_form schema one many d = phrase_query schema d
query_formed prefix_form schema one many d = prefix_query schema d
query_formed bool_form schema one many d = bool_query many d
query_formed dismax_form schema one many d = dismax_query many d
query_formed boost_form schema one many d = boost_query one d
query_formed const_form schema one many d = const_query one d

-- the query of the form that `q` names
abbrev pub query_of : Schema → One → Many → json.Data → Option Query
query_of schema one many d = do
  name ← text_at (codes "q") d
  form ← named forms name
  query_formed form schema one many d

-- a member, read as a query and as a list of queries
pub record Inner : Type 0 where
  pub key : List ℕ
  pub one : Option Query
  pub many : Option Queries

-- the member at a key
abbrev pub inner_at : List Inner → List ℕ → Option Inner
inner_at is k = find (λ i. bytes_eq k i.key) is

-- The query in a value, if it is one, and the list of queries in one. What stands inside is read first.
abbrev mutual
  pub nested_query : Schema → json.Data → Option Query
  nested_query schema (json.object ms) = let is = members_in schema ms in query_of schema (λ k. inner_at is k >>= (λ i. i.one)) (λ k. option_map (λ i. i.many) (inner_at is k)) (json.object ms)
  nested_query schema _ = None

  pub queries_in : Schema → json.Data → Option Queries
  queries_in schema (json.array ds) = items_in schema ds
  queries_in schema _ = None

  pub items_in : Schema → json.Items → Option Queries
  items_in schema json.no_items = Some no_queries
  items_in schema (json.item d ds) = nested_query schema d >>= (λ q. option_map (query q) (items_in schema ds))

  pub members_in : Schema → json.Members → List Inner
  members_in schema json.no_members = []
  members_in schema (json.member k d ms) = record { key = k; one = nested_query schema d; many = queries_in schema d } ∷ members_in schema ms

-- the query in a value; one that nests deeper than any text isn't looked into
abbrev pub query_in : Schema → json.Data → Option Query
query_in schema d = if is_too_deep d then None else nested_query schema d

-- ---- what stands at a key, found in the value

-- the query at a key of a value
abbrev pub one_at : Schema → json.Data → One
one_at schema d k = get k d >>= nested_query schema

-- the list of queries at a key of a value
abbrev pub many_at : Schema → json.Data → Many
many_at schema d k = option_map (queries_in schema) (get k d)
