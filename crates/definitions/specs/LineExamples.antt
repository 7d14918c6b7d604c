-- What the worked lines are read by: schemas, and sessions over books.
use Rattle.std.specs.Prelude.{[], ◌∷◌, List, Option, codes, false, fold, option_and_then, true, ℕ}
use Rattle.definitions.specs.Analyzers.{is_raw_or_default, raw_and_default}
use Rattle.definitions.specs.Calls.{Status}
use Rattle.definitions.specs.Schema.{Entry, Kind, Schema, basic, bool_kind, bytes_kind, date_kind, facet_kind, has_lengths, i64_kind, ip_addr_kind, json_kind, text_kind, u64_kind, with_freqs_and_positions}
use Rattle.definitions.specs.Settings.{default_settings}
use Rattle.definitions.specs.State.{nothing_yet}
use Rattle.definitions.specs.Step.{Analysis, Held, Session, after_line, answer_of, fresh_index, held_by, index_of, no_file, no_index}
use Rattle.serde_json.specs.Read.{read}
use Prim.Native.String.{String}
use Rattle.serde_json.specs.Data as json

-- an indexed field of that name and kind, whose texts are cut into words
abbrev pub field_of_kind : String → Kind → Entry
field_of_kind field_name field_kind = record { name = codes field_name; kind = field_kind; stored = true; indexed = true; fieldnorms = has_lengths field_kind; fast = false; coerce = false; record_option = basic; tokenizer = []; gap = 1; expand_dots = false }

-- a text in words, with positions and lengths
abbrev pub text_field : String → Entry
text_field field_name = record (field_of_kind field_name text_kind) { record_option = with_freqs_and_positions; tokenizer = codes "default" }

-- books with a title and a year
abbrev pub book_schema : Schema
book_schema = text_field "title" ∷ field_of_kind "year" u64_kind ∷ []

-- a field of each kind, each named by its kind's letter, and a JSON field whose dots part keys
abbrev pub kinds_schema : Schema
kinds_schema = text_field "s" ∷ field_of_kind "u" u64_kind ∷ field_of_kind "i" i64_kind ∷ field_of_kind "o" bool_kind ∷ field_of_kind "d" date_kind ∷ field_of_kind "h" facet_kind ∷ field_of_kind "b" bytes_kind ∷ field_of_kind "p" ip_addr_kind ∷ field_of_kind "j" json_kind ∷ record (field_of_kind "dots" json_kind) { expand_dots = true } ∷ []

-- ---- sessions

-- the analyzer of words and of whole texts
abbrev pub word_analysis : Analysis
word_analysis = record { knows = is_raw_or_default; analyze = raw_and_default }

-- no index stands, and the device holds this
abbrev pub session_on : Held → Session
session_on held = record { analysis = word_analysis; stage = no_index held }

-- nothing was done yet
abbrev pub empty_session : Session
empty_session = session_on no_file

-- an index of this schema stands, and nothing was added
abbrev pub session_of : Schema → Session
session_of schema = record { analysis = word_analysis; stage = index_of schema default_settings fresh_index }

-- no book is added yet
abbrev pub book_session : Session
book_session = session_of book_schema

-- the session of books, whose index has this status
abbrev pub session_with : Status → Session
session_with status = record book_session { stage = index_of book_schema default_settings (record { state = nothing_yet; status = status }) }

-- titles that are stored and not indexed
abbrev pub unindexed_session : Session
unindexed_session = session_of (record (text_field "title") { indexed = false } ∷ [])

-- a session after lines in a row
abbrev pub after_lines : Session → List (List ℕ) → Session
after_lines session lines = fold after_line session lines

-- the lines that add three books and commit them
abbrev pub three_book_lines : List (List ℕ)
three_book_lines = codes "{\"op\":\"add\",\"doc\":{\"title\":\"the old sea\",\"year\":1952}}" ∷ codes "{\"op\":\"add\",\"doc\":{\"title\":\"sea sea wind\",\"year\":1987}}" ∷ codes "{\"op\":\"add\",\"doc\":{\"title\":\"wind\",\"year\":1952}}" ∷ codes "{\"op\":\"commit\"}" ∷ []

-- a session in which three books are committed
abbrev pub three_books_session : Session
three_books_session = after_lines book_session three_book_lines

-- what those lines and these committed is held, and no index stands
abbrev pub opened_session : List (List ℕ) → Session
opened_session lines = session_on (held_by (after_lines three_books_session lines).stage)

-- an index of texts is to be made
abbrev pub title_line : List ℕ
title_line = codes "{\"op\":\"create\",\"schema\":[{\"name\":\"t\",\"type\":\"text\",\"options\":{\"stored\":true,\"indexing\":{\"record\":\"position\"}}}]}"

-- ---- texts

-- what is read of a text's value
abbrev pub from_text : {A : Type 0} → (json.Data → Option A) → String → Option A
from_text f text = option_and_then f (read (codes text))

-- the reply to one line
abbrev pub reply : Session → String → List ℕ
reply session line = answer_of session (codes line)
