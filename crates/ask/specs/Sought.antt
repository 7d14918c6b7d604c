-- The words that a query looks for in a field.
use Rattle.std.specs.Prelude.{[], ◌&&◌, ◌++◌, ◌∷◌, Bool, List, None, Option, Some, false, flat_map, if◌then◌else◌, length, nat_eq, ℕ}
use Rattle.std.specs.Option.{option_map_or}
use Rattle.std.specs.Str.{is_utf8}
use Rattle.definitions.specs.Phrases.{by_offset}
use Rattle.definitions.specs.Query.{Clauses, Occur, Queries, Query, Terms, boolean, boost, clause, const_score, disjunction_max, must, must_not, no_clauses, no_queries, phrase, phrase_prefix, query, should, term}
use Rattle.definitions.specs.Schema.{text_kind}
use Rattle.definitions.specs.Terms.{field_of, has_kind, payload_of}
use Rattle.query_trees.specs.Walks.{queries_list}
use Rattle.snippets.specs.Snippets.{Word}

-- ---- words of terms

-- bytes that are UTF-8
abbrev pub utf8_in : List ℕ → Option (List ℕ)
utf8_in s = if is_utf8 s then Some s else None

-- whether a term is one of a text field
abbrev pub is_text_of : ℕ → List ℕ → Bool
is_text_of field t = nat_eq (field_of t) field && has_kind text_kind t

-- the text of a term, if it is one of the field
abbrev pub text_in : ℕ → List ℕ → Option (List ℕ)
text_in field t = if is_text_of field t then utf8_in (payload_of t) else None

-- a word, or the beginning of words
abbrev pub word : Bool → List ℕ → Word
word is_prefix s = record { text = s; is_prefix = is_prefix }

-- the word of a term, if it is a text of the field
abbrev pub word_in : ℕ → Bool → List ℕ → List Word
word_in field is_prefix t = option_map_or (λ s. word is_prefix s ∷ []) (text_in field t) []

-- the words of terms
abbrev pub words_in_terms : ℕ → Terms → List Word
words_in_terms field ts = flat_map (λ t. word_in field false t.1) ts

-- those of a phrase prefix: its last term is the beginning of words
abbrev pub words_in_prefixed : ℕ → Terms → List Word
words_in_prefixed field [] = []
words_in_prefixed field (t ∷ ts) = word_in field (nat_eq (length ts) 0) t.1 ++ words_in_prefixed field ts

-- the words of a node, without those of the queries below it
abbrev pub own_words : ℕ → Query → List Word
own_words field (term t option) = word_in field false t
own_words field (phrase terms slop) = words_in_terms field terms
own_words field (phrase_prefix terms limit) = words_in_prefixed field (by_offset terms)
own_words field _ = []

-- ---- words of queries

-- what a clause has, if its query may match
abbrev pub if_asked : Occur → List Query → List Query
if_asked must qs = qs
if_asked should qs = qs
if_asked must_not qs = []

-- the nodes of a query without those of clauses that must not match, each before those below it, which are in order
abbrev mutual
  pub asked : Query → List Query
  asked (boolean cs least) = boolean cs least ∷ clauses_asked cs
  asked (disjunction_max qs tie) = disjunction_max qs tie ∷ queries_asked qs
  asked (boost factor q) = boost factor q ∷ asked q
  asked (const_score constant q) = const_score constant q ∷ asked q
  asked q = q ∷ []

  pub clauses_asked : Clauses → List Query
  clauses_asked no_clauses = []
  clauses_asked (clause occur q cs) = if_asked occur (asked q) ++ clauses_asked cs

  pub queries_asked : Queries → List Query
  queries_asked no_queries = []
  queries_asked (query q qs) = asked q ++ queries_asked qs

-- the words that a query looks for in a field, without those of clauses that must not match
abbrev pub sought : ℕ → Query → List Word
sought field q = flat_map (own_words field) (asked q)

-- ---- queries that wait for their turn

-- the queries of clauses that may match, in order
abbrev pub clauses_below : Clauses → List Query
clauses_below no_clauses = []
clauses_below (clause occur q cs) = if_asked occur (q ∷ []) ++ clauses_below cs

-- the queries right below a node that may match, in order
abbrev pub below : Query → List Query
below (boolean cs least) = clauses_below cs
below (disjunction_max qs tie) = queries_list qs
below (boost factor q) = q ∷ []
below (const_score constant q) = q ∷ []
below _ = []

-- the nodes of several queries, from the last of these to the first
abbrev pub asked_back : List Query → List Query
asked_back [] = []
asked_back (q ∷ qs) = asked_back qs ++ asked q
