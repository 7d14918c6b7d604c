-- What words and phrases mean in an index, by its schema and its analyzer.
use Rattle.std.specs.Prelude.{[], ◌&&◌, ◌+◌, ◌++◌, ◌==◌, ◌||◌, ◌∷◌, Bool, Err, List, None, Ok, Option, Result, Some, false, if◌then◌else◌, length, map, nat_le, nat_lt, not, ok_or, option_and_then, option_map, pos, slice_get, true, ℕ, ℤ}
use Rattle.std.specs.List.{after_first, before_first, enumerate_from, list_any, position_or_len}
use Rattle.std.specs.Option.{option_map_or, option_or}
use Rattle.std.specs.Result.{result_ok}
use Rattle.std.specs.Str.{is_utf8}
use Rattle.base64.specs.GeneralPurpose.{decoded_of}
use Rattle.base64.specs.Engines.{standard}
use Rattle.definitions.specs.Addresses.{address_in}
use Rattle.definitions.specs.Analyzers.{Analyzer, is_word_byte, max_run_len}
use Rattle.definitions.specs.Facets.{facet_of_path}
use Rattle.definitions.specs.Phrases.{by_offset}
use Rattle.definitions.specs.Query as queries
use Rattle.definitions.specs.Query.{Queries, Query, Terms}
use Rattle.definitions.specs.Reading.{bool_text, date_value, i64_text, u64_text}
use Rattle.definitions.specs.Refusing.{all_expansions}
use Rattle.definitions.specs.Schema.{Entry, Kind, Schema, bool_kind, bytes_kind, date_kind, facet_kind, field_named, i64_kind, ip_addr_kind, has_positions, is_indexed, is_text, json_kind, text_kind, u64_kind, with_freqs}
use Rattle.definitions.specs.Terms.{json_term, leaf_bytes, path_of_keys, term_bytes, type_code, value_bytes}
use Rattle.definitions.specs.Values.{Token, Value, bytes, facet, ip_addr}
use Rattle.definitions.specs.Indexable.{is_json}
use Rattle.query_text.specs.Reading.{Phrase, Vocabulary}
use Rattle.query_text.specs.Refusals.{refused_if, ◌>>=◌}
use Rattle.query_text.specs.declared.field_scores.FieldScores.{FieldScores}
use Rattle.query_text.specs.declared.field_scores.FieldScores.TheVariants as field_scores
use Rattle.query_text.specs.declared.refusal.Reason.{Reason}
use Rattle.query_text.specs.declared.refusal.Reason.TheVariants as reasons
use Rattle.query_trees.specs.PhraseTerms.{are_phrase_terms}
use Rattle.terms.specs.JsonPaths.{keys_in}

-- bytes that are a text
abbrev pub text_in : List ℕ → Result (List ℕ) Reason
text_in s = if is_utf8 s then Ok s else Err reasons.NotUtf8

-- ---- in a text field

-- the terms of tokens, each at its position
abbrev pub terms_at : ℕ → List Token → Terms
terms_at field ts = map (λ t. (t.position, term_bytes field text_kind t.text)) ts

-- a query for one term, which is no prefix
abbrev pub term_query : Bool → List ℕ → Result Query Reason
term_query is_prefix t = refused_if is_prefix reasons.LonePrefix (Ok (queries.term t with_freqs))

-- whether positions of the field's terms are recorded
abbrev pub records_positions : Entry → Bool
records_positions e = has_positions e.record_option

-- several terms beside each other, of which the last may be a prefix
abbrev pub beside : Phrase → Terms → Query
beside phrase ts = if phrase.is_prefix then queries.phrase_prefix (by_offset ts) all_expansions else queries.phrase (by_offset ts) phrase.slop

-- a query for them, if their positions are recorded
abbrev pub terms_query : Bool → Phrase → Terms → Result Query Reason
terms_query with_positions phrase ts = refused_if (phrase.is_prefix && nat_lt 0 phrase.slop) reasons.SlopOfPrefix (refused_if (not with_positions) reasons.NoPositions (Ok (beside phrase ts)))

-- whether letters, digits and characters past ASCII go on for longer than any word, where so many bytes stand before
abbrev pub has_long_run : ℕ → List ℕ → Bool
has_long_run before [] = false
has_long_run before (b ∷ bs) = if is_word_byte b then nat_le max_run_len before || has_long_run (before + 1) bs else has_long_run 0 bs

-- why a text has no term
abbrev pub no_word : List ℕ → Reason
no_word text = if has_long_run 0 text then reasons.LongWord else reasons.NoWord

-- a query for the first term
abbrev pub first_query : Phrase → Terms → Result Query Reason
first_query phrase [] = Err (no_word phrase.text)
first_query phrase (t ∷ ts) = term_query phrase.is_prefix t.1

-- a query for the terms of a text: two or more are a phrase
abbrev pub words_query : Bool → Phrase → Terms → Result Query Reason
words_query with_positions phrase ts = if are_phrase_terms 2 ts then terms_query with_positions phrase ts else first_query phrase ts

-- the words of a text in a field, as the analyzer cuts them
abbrev pub text_query : Analyzer → ℕ → Entry → Phrase → Result Query Reason
text_query analyze field e phrase = words_query (records_positions e) phrase (terms_at field (analyze e.tokenizer phrase.text))

-- ---- in a field of another type

-- the value that a text is in a field of a kind
abbrev pub value_in : Kind → List ℕ → Option Value
value_in u64_kind s = u64_text s
value_in i64_kind s = i64_text s
value_in bool_kind s = bool_text s
value_in date_kind s = result_ok (date_value s)
value_in facet_kind s = option_map facet (facet_of_path s)
value_in bytes_kind s = option_map bytes (decoded_of standard s)
value_in ip_addr_kind s = option_map ip_addr (address_in s)
value_in _ s = None

-- the term of that value
abbrev pub value_term : ℕ → Kind → List ℕ → Option (List ℕ)
value_term field kind s = option_map (term_bytes field kind) (option_and_then (value_bytes kind) (value_in kind s))

-- why a text is no value in a field of a kind: in one of JSON objects a path is wanting
abbrev pub no_value : Kind → Reason
no_value json_kind = reasons.NoPath
no_value _ = reasons.BadValue

-- the documents with a value; it isn't cut into words
abbrev pub value_query : ℕ → Kind → List ℕ → Bool → Result Query Reason
value_query field kind s is_prefix = refused_if is_prefix (no_value kind) (ok_or (option_map (λ t. queries.term t with_freqs) (value_term field kind s)) (no_value kind))

-- ---- several queries as one

-- the queries that were found so far, and why one of them is none
pub record Found : Type 0 where
  pub queries : List Query
  pub reason : Reason

-- of two reasons the one that is told: before any other that a field records no positions, and else the later one
abbrev pub told : Reason → Reason → Reason
told reasons.NoPositions later = reasons.NoPositions
told _ later = later

-- whether it is that one
abbrev pub is_no_positions : Reason → Bool
is_no_positions reasons.NoPositions = true
is_no_positions _ = false

-- with what a phrase means once more
abbrev pub found_more : Found → Result Query Reason → Found
found_more f (Ok q) = record f { queries = f.queries ++ q ∷ [] }
found_more f (Err reason) = record f { reason = told f.reason reason }

-- queries in order
abbrev pub in_order : List Query → Queries
in_order [] = queries.no_queries
in_order (q ∷ qs) = queries.query q (in_order qs)

-- the thousandths of the other scores that count beside the best: all of them make the sum
abbrev pub tie_breaker : FieldScores → ℤ
tie_breaker field_scores.Sum = pos 1000
tie_breaker field_scores.Best = pos 0

-- some queries as one, with these thousandths
abbrev pub one_from : ℤ → Reason → List Query → Result Query Reason
one_from tie reason [] = Err reason
one_from tie reason (q ∷ []) = Ok q
one_from tie reason qs = Ok (queries.disjunction_max (in_order qs) tie)

-- what was found as one query
abbrev pub one_of : ℤ → Found → Result Query Reason
one_of tie f = one_from tie f.reason f.queries

-- nothing so far
abbrev pub nothing_found : Reason → Found
nothing_found reason = record { queries = []; reason = reason }

-- ---- in JSON objects

-- where values stand in the JSON objects of a field: at the keys of a path
pub record JsonPath : Type 0 where
  pub field : ℕ
  pub path : List ℕ
  pub expand_dots : Bool

-- the term of a leaf there
abbrev pub leaf_term : JsonPath → List ℕ → List ℕ
leaf_term json_path leaf = json_term json_path.field (path_of_keys json_path.expand_dots (keys_in json_path.path)) leaf

-- a bool, else a date
abbrev pub bool_in : List ℕ → Option Value
bool_in s = option_or (bool_text s) (result_ok (date_value s))

-- a whole number, else a bool or a date
abbrev pub signed_in : List ℕ → Option Value
signed_in s = option_or (i64_text s) (bool_in s)

-- the value that a text is: a whole number, a bool or a date
abbrev pub leaf_in : List ℕ → Option Value
leaf_in s = option_or (u64_text s) (signed_in s)

-- the term of a value, if there is one
abbrev pub json_value_term : JsonPath → Option Value → Option (List ℕ)
json_value_term json_path leaf = option_map (leaf_term json_path) (option_and_then leaf_bytes leaf)

-- the documents with that value
abbrev pub json_value_query : JsonPath → List ℕ → Bool → Result Query Reason
json_value_query json_path s is_prefix = refused_if is_prefix reasons.BadValue (ok_or (option_map (λ t. queries.term t with_freqs) (json_value_term json_path (leaf_in s))) reasons.BadValue)

-- the terms of tokens, each at its position
abbrev pub json_terms_at : JsonPath → List Token → Terms
json_terms_at json_path ts = map (λ t. (t.position, leaf_term json_path (type_code text_kind ++ t.text))) ts

-- the words of a text, as the analyzer cuts them in the field
abbrev pub json_text_query : Analyzer → Entry → JsonPath → Phrase → Result Query Reason
json_text_query analyze e json_path phrase = words_query (records_positions e) phrase (json_terms_at json_path (analyze e.tokenizer phrase.text))

-- a value or words, by the better score: a text may be both
abbrev pub json_query : Analyzer → Entry → JsonPath → Phrase → Result Query Reason
json_query analyze e json_path phrase = one_of (pos 0) (found_more (found_more (nothing_found reasons.NoWord) (json_value_query json_path phrase.text phrase.is_prefix)) (json_text_query analyze e json_path phrase))

-- what a phrase means at a path in a field, which has to be one of JSON objects
abbrev pub at_path : Analyzer → ℕ → Entry → List ℕ → Phrase → Result Query Reason
at_path analyze field e path phrase = if is_json e.kind then json_query analyze e (record { field = field; path = path; expand_dots = e.expand_dots }) phrase else Err reasons.UnknownField

-- the name of a field and a path, which the first dot parts
abbrev pub name_parts : List ℕ → Option (List ℕ × List ℕ)
name_parts name = if nat_lt (position_or_len (λ b. b == 46) name) (length name) then Some (before_first (λ b. b == 46) name, after_first (λ b. b == 46) name) else None

-- what a phrase means in the field whose name stands before the first dot
abbrev pub fielded_query : Schema → Analyzer → List ℕ × List ℕ → Phrase → Result Query Reason
fielded_query schema analyze parts phrase = elim (field_named schema parts.0) [ None ↦ Err reasons.UnknownField | Some field ↦ option_map_or (λ e. at_path analyze field e parts.1 phrase) (slice_get schema field) (Err reasons.UnknownField) ]

-- what a phrase means at the path that it names
abbrev pub path_query : Schema → Analyzer → List ℕ → Phrase → Result Query Reason
path_query schema analyze name phrase = elim (name_parts name) [ None ↦ Err reasons.UnknownField | Some parts ↦ fielded_query schema analyze parts phrase ]

-- ---- in any field

-- what a phrase means in one field
abbrev pub field_query : Analyzer → ℕ → Entry → Phrase → Result Query Reason
field_query analyze field e phrase = if is_text e.kind then text_query analyze field e phrase else value_query field e.kind phrase.text phrase.is_prefix

-- what it means in the field that it names
abbrev pub named_query : Schema → Analyzer → List ℕ → Phrase → Result Query Reason
named_query schema analyze name phrase = elim (field_named schema name) [ None ↦ path_query schema analyze name phrase | Some field ↦ option_map_or (λ e. field_query analyze field e phrase) (slice_get schema field) (Err reasons.UnknownField) ]

-- the text fields that are searched where none is named
abbrev pub is_searched : Entry → Bool
is_searched e = is_text e.kind && is_indexed e

-- with what a phrase means in each text field of some
abbrev pub found_in : Analyzer → Phrase → Found → List (ℕ × Entry) → Found
found_in analyze phrase f [] = f
found_in analyze phrase f (p ∷ ps) = found_in analyze phrase (if is_searched p.1 then found_more f (text_query analyze p.0 p.1 phrase) else f) ps

-- whether a query is one for words beside each other
abbrev pub is_phrase : Query → Bool
is_phrase (queries.phrase ts slop) = true
is_phrase (queries.phrase_prefix ts expansions) = true
is_phrase _ = false

-- whether a field records no positions for words that no other field finds beside each other, or that are left out
abbrev pub lacks_positions : Bool → Found → Bool
lacks_positions excluded f = is_no_positions f.reason && (excluded || not (list_any is_phrase f.queries))

-- what was found in text fields, by their scores together
abbrev pub any_found : FieldScores → Phrase → Found → Result Query Reason
any_found scores phrase f = refused_if (lacks_positions phrase.is_excluded f) reasons.NoPositions (one_of (tie_breaker scores) f)

-- what a phrase means that names no field: any text field
abbrev pub any_query : Schema → Analyzer → FieldScores → Phrase → Result Query Reason
any_query schema analyze scores phrase = any_found scores phrase (found_in analyze phrase (nothing_found reasons.NoTextField) (enumerate_from 0 schema))

-- the vocabulary of an index
abbrev pub vocabulary : Schema → Analyzer → FieldScores → Vocabulary
vocabulary schema analyze scores phrase = text_in phrase.text >>= (λ text. elim phrase.field [ None ↦ any_query schema analyze scores phrase | Some name ↦ text_in name >>= (λ name. named_query schema analyze name phrase) ])
