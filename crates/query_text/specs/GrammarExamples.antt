-- The data of the worked examples: a vocabulary in which each word and phrase means itself, and schemas of text fields.
use Rattle.std.specs.Prelude.{[], ◌++◌, ◌∷◌, List, Ok, codes, true, ℕ}
use Rattle.definitions.specs.Analyzers.{raw_and_default}
use Rattle.definitions.specs.Query.{Occur, Query, boolean, clause, no_clauses, phrase}
use Rattle.definitions.specs.Schema.{Entry, IndexRecordOption, Schema, text_kind, with_freqs, with_freqs_and_positions}
use Rattle.definitions.specs.SchemaGrammar.{entry_named}
use Rattle.definitions.specs.Terms.{term_bytes}
use Rattle.query_text.specs.Answers.{vocabulary}
use Rattle.query_text.specs.Reading.{Vocabulary}
use Rattle.query_text.specs.declared.field_scores.FieldScores.TheVariants.{Sum}
use Prim.Native.String.{String}

-- a word or a phrase, with its slop
abbrev pub itself : List ℕ → ℕ → Query
itself text slop = phrase ((0, text) ∷ []) slop

-- each means itself
abbrev pub plain : Vocabulary
plain p = Ok (itself p.text p.slop)

-- a word
abbrev pub word : String → Query
word text = itself (codes text) 0

-- two clauses
abbrev pub both : Occur → Query → Occur → Query → Query
both o q p r = boolean (clause o q (clause p r no_clauses)) 0

-- a text between quotation marks
abbrev pub quoted : String → List ℕ
quoted text = 34 ∷ (codes text ++ (34 ∷ []))

-- a text between typed quotation marks
abbrev pub typed : String → List ℕ
typed text = 226 ∷ 128 ∷ 156 ∷ (codes text ++ (226 ∷ 128 ∷ 157 ∷ []))

-- ---- text fields

-- a field of words, and what is recorded of them
abbrev pub words_field : String → IndexRecordOption → Entry
words_field name option = record (entry_named (codes name) text_kind) { indexed = true; record_option = option; tokenizer = codes "default" }

-- titles without positions
abbrev pub titles : Schema
titles = words_field "title" with_freqs ∷ []

-- titles without positions, and texts with them
abbrev pub titles_and_texts : Schema
titles_and_texts = words_field "title" with_freqs ∷ words_field "text" with_freqs_and_positions ∷ []

-- what words and phrases mean in an index of such fields
abbrev pub words_of : Schema → Vocabulary
words_of schema = vocabulary schema raw_and_default Sum

-- two words beside each other in a field
abbrev pub pair_in : ℕ → String → String → Query
pair_in field first second = phrase ((0, term_bytes field text_kind (codes first)) ∷ (1, term_bytes field text_kind (codes second)) ∷ []) 0
