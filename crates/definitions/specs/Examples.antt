-- The data of the worked examples: books with a title and a year, queries over them, and calls.
use Rattle.std.specs.Prelude.{[], ◌%◌, ◌++◌, ◌+◌, ◌/◌, ◌∷◌, List, codes, false, flat_map, if◌then◌else◌, length, map, nat_lt, negsuc, pos, replicate, slice_index, suc, take, true, zero, ℕ, ℤ}
use Rattle.std.specs.List.{enumerate_from}
use Rattle.std.specs.Int.{to_be_bytes, w64}
use Rattle.definitions.specs.Analyzers.{raw_and_default}
use Rattle.definitions.specs.Calls.{Call, Configuration, add_document, after, commit_pending}
use Rattle.definitions.specs.Indexing.{terms_of}
use Rattle.definitions.specs.Query.{Clauses, Queries, Query, Terms, all, boolean, boost, clause, default_minimum, disjunction_max, must, no_clauses, no_queries, phrase, phrase_prefix, query, should, term}
use Rattle.definitions.specs.Refusing.{all_expansions}
use Rattle.definitions.specs.Scanning.{Hit, insert_ranked, scan, scan_count}
use Rattle.definitions.specs.Schema.{Entry, Kind, Schema, basic, date_kind, has_lengths, json_kind, text_kind, u64_kind, with_freqs_and_positions}
use Rattle.definitions.specs.Scoring.{Similarity, max_score}
use Rattle.definitions.specs.Sinks.{ScoredBlocks}
use Rattle.definitions.specs.State.{State, nothing_yet}
use Rattle.definitions.specs.Stored.{stored_values}
use Rattle.definitions.specs.Terms.{signed_bytes, term_bytes, whole_seconds}
use Rattle.definitions.specs.Values.{Document, Members, Value, array, member, no_members, no_values, null, object, pre_tok_str, str, u64, value}
use Prim.Native.String.{String}
use Rattle.serde_json.specs.Data as json

-- ---- fields

-- a field of that name and kind without an option
abbrev pub bare : String → Kind → Entry
bare field_name field_kind = record { name = codes field_name; kind = field_kind; stored = false; indexed = false; fieldnorms = false; fast = false; coerce = false; record_option = basic; tokenizer = []; gap = 1; expand_dots = false }

-- a text in words, with positions and lengths, that is stored
abbrev pub text_entry : String → Entry
text_entry field_name = record (bare field_name text_kind) { stored = true; indexed = true; fieldnorms = true; record_option = with_freqs_and_positions; tokenizer = codes "default" }

-- a field of another kind that is indexed and stored
abbrev pub indexed_entry : String → Kind → Entry
indexed_entry field_name field_kind = record (bare field_name field_kind) { stored = true; indexed = true; fieldnorms = has_lengths field_kind }

-- a field that coerces
abbrev pub coercing : Entry → Entry
coercing e = record e { coerce = true }

-- a title and a year
abbrev pub books : Schema
books = text_entry "title" ∷ indexed_entry "year" u64_kind ∷ []

-- books with a gap between titles
abbrev pub books_apart : ℕ → Schema
books_apart places = record (text_entry "title") { gap = places } ∷ indexed_entry "year" u64_kind ∷ []

-- one field, `data`, of that kind
abbrev pub data_of : Kind → Schema
data_of field_kind = indexed_entry "data" field_kind ∷ []

-- one field of data that coerces
abbrev pub coercing_data : Kind → Schema
coercing_data field_kind = coercing (indexed_entry "data" field_kind) ∷ []

-- one JSON field, `data`, whose texts are cut into words
abbrev pub json_data : Schema
json_data = record (indexed_entry "data" json_kind) { record_option = with_freqs_and_positions; tokenizer = codes "default" } ∷ []

-- ---- documents

-- a book of that title and year
abbrev pub book : String → ℕ → Document
book title year = (0, str (codes title)) ∷ (1, u64 year) ∷ []

-- three books
abbrev pub old_sea : Document
old_sea = book "the old sea" 1952

abbrev pub sea_wind : Document
sea_wind = book "sea sea wind" 1987

abbrev pub wind : Document
wind = book "wind" 1952

-- and all of them
abbrev pub three_books : List Document
three_books = old_sea ∷ sea_wind ∷ wind ∷ []

-- a value for each title
abbrev pub titled : List String → Document
titled titles = map (λ title. (0, str (codes title))) titles

-- two titles of a document
abbrev pub two_titles : Document
two_titles = titled ("a b" ∷ "c" ∷ [])

-- two titles of a token each, of which the first has no length
abbrev pub sea_on_wind : Document
sea_on_wind = (0, pre_tok_str [] (record { position = 0; position_length = 0; text = codes "sea" } ∷ [])) ∷ (0, str (codes "wind")) ∷ []

-- five titles of letters
abbrev pub letters : List Document
letters = titled ("a b c" ∷ []) ∷ titled ("a c e" ∷ []) ∷ titled ("d f g" ∷ []) ∷ titled ("z z z" ∷ []) ∷ titled ("c i b" ∷ []) ∷ []

-- one member, and none after it
abbrev pub last_member : String → Value → Members
last_member key v = member (codes key) v no_members

-- an object with one member
abbrev pub one_member : String → Value → Value
one_member key v = object (last_member key v)

-- a number of arrays in one another
abbrev pub nested_arrays : ℕ → Value
nested_arrays zero = null
nested_arrays (suc more) = array (value (nested_arrays more) no_values)

-- a number of JSON arrays in one another
abbrev pub json_arrays : ℕ → json.Data
json_arrays zero = json.null
json_arrays (suc more) = json.array (json.item (json_arrays more) json.no_items)

-- an object with `n` arrays in one another
abbrev pub arrays : ℕ → Value
arrays n = one_member "a" (nested_arrays n)

-- ---- terms and queries

-- a number below 16 as a digit
abbrev pub hex_digit : ℕ → ℕ
hex_digit n = if nat_lt n 10 then 48 + n else 87 + n

-- two hexadecimal digits for each byte
abbrev pub hex : List ℕ → List ℕ
hex bs = flat_map (λ b. hex_digit (b / 16) ∷ hex_digit (b % 16) ∷ []) bs

-- the terms of a value in a JSON field
abbrev pub json_hex : Value → List (List ℕ)
json_hex v = map (λ p. hex p.0) (terms_of json_data raw_and_default ((0, v) ∷ []))

-- the term of a date in a date field
abbrev pub date_term : ℤ → List ℕ
date_term nanos = term_bytes 0 date_kind (signed_bytes (whole_seconds nanos))

-- the terms of titles and of years
abbrev pub title_term : String → List ℕ
title_term token = term_bytes 0 text_kind (codes token)

abbrev pub year_term : ℕ → List ℕ
year_term year = term_bytes 1 u64_kind (to_be_bytes w64 year)

-- the titles that hold a token
abbrev pub word : String → Query
word token = term (title_term token) with_freqs_and_positions

-- the books of a year
abbrev pub of_year : ℕ → Query
of_year year = term (year_term year) basic

-- a should clause for each query
abbrev pub shoulds : List Query → Clauses
shoulds [] = no_clauses
shoulds (q ∷ qs) = clause should q (shoulds qs)

-- clauses of which no minimum is given
abbrev pub bool_of : Clauses → Query
bool_of cs = boolean cs (default_minimum cs)

-- titles with `sea`, `wind` or both
abbrev pub sea_or_wind : Query
sea_or_wind = bool_of (shoulds (word "sea" ∷ word "wind" ∷ []))

-- a book about the sea, with a point for itself and what `wind` earns
abbrev pub sea_and_a_point : Query
sea_and_a_point = bool_of (clause must (bool_of (shoulds (word "wind" ∷ all ∷ []))) (clause must (word "sea") no_clauses))

-- a list of queries, as a query holds them
abbrev pub queries_of : List Query → Queries
queries_of [] = no_queries
queries_of (q ∷ qs) = query q (queries_of qs)

-- a number of boosts by 1
abbrev pub nested : ℕ → Query → Query
nested zero q = q
nested (suc more) q = boost (pos 1) (nested more q)

-- the best of the queries, with `tie` thousandths of the others
abbrev pub best_of : List Query → ℕ → Query
best_of qs tie = disjunction_max (queries_of qs) (pos tie)

-- the words with their places in the list as offsets
abbrev pub in_a_row : List String → Terms
in_a_row tokens = enumerate_from 0 (map title_term tokens)

-- a phrase of words
abbrev pub words : List String → ℕ → Query
words tokens slop = phrase (in_a_row tokens) slop

-- words of which the last is only begun
abbrev pub begun : List String → Query
begun tokens = phrase_prefix (in_a_row tokens) all_expansions

-- ---- what a scan finds

-- that weight for each term, and 1 for each norm
abbrev pub weighing : ℕ → Similarity
weighing n = record { weight = λ t. n; norms = replicate 256 1 }

-- the best k with weight 60
abbrev pub best : ℕ → List Document → Query → List Hit
best k docs q = scan books raw_and_default (weighing 60) docs q k

-- how many match
abbrev pub count_in : List Document → Query → ℕ
count_in docs q = scan_count books raw_and_default docs q

-- the best 10 of one document with weight 60, where titles stand so far apart
abbrev pub best_apart : ℕ → Document → Query → List Hit
best_apart places doc q = scan (books_apart places) raw_and_default (weighing 60) (doc ∷ []) q 10

-- a document's hit with that score
abbrev pub hit : Document → ℕ → Hit
hit doc n = (n, stored_values books doc)

-- ---- calls

-- an index of books
abbrev pub book_index : ℕ → Configuration
book_index docs_in_segment = record { schema = books; analyze = raw_and_default; similarity = weighing 60; docs_per_segment = docs_in_segment }

-- what stands after calls in a row, of which none is refused
abbrev pub after_calls : ℕ → List Call → State → State
after_calls docs_in_segment [] s = s
after_calls docs_in_segment (call ∷ calls) s = after_calls docs_in_segment calls (after (book_index docs_in_segment) s call)

-- documents, added one after the other and then committed
abbrev pub add_and_commit : List Document → List Call
add_and_commit docs = map add_document docs ++ (commit_pending ∷ [])

-- the three books, added and committed
abbrev pub of_three_books : ℕ → State
of_three_books docs_in_segment = after_calls docs_in_segment (add_and_commit three_books) nothing_yet

-- the first number of a list, or else this one
abbrev pub head_or : ℕ → List ℕ → ℕ
head_or n [] = n
head_or n (m ∷ ms) = m

-- ---- counted work

-- the best k scores, as a sink that keeps them takes one more
abbrev pub keep_best : ℕ → List ℕ → ℕ × ℕ → List ℕ
keep_best k kept p = take k (insert_ranked (λ n. n) p.1 kept)

-- what it is told of is above this: nothing is left out until it has k, and nothing taken where k is 0
abbrev pub best_threshold : ℕ → List ℕ → ℤ
best_threshold zero kept = pos max_score
best_threshold (suc k) kept = if nat_lt (length kept) (suc k) then negsuc 0 else pos (slice_index kept k)

-- documents 0 to 127 with score 40, and 128 to 383 with score 30, in blocks whose bounds have these scores
abbrev pub falling_blocks : ScoredBlocks
falling_blocks = (40, enumerate_from 0 (replicate 128 40)) ∷ (30, enumerate_from 128 (replicate 128 30)) ∷ (30, enumerate_from 256 (replicate 128 30)) ∷ []
