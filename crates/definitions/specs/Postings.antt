-- Postings: the documents that have a term.
use Rattle.std.specs.Prelude.{List, None, Option, Some, filter_map, if◌then◌else◌, ℕ}
use Rattle.std.specs.List.{enumerate_from}
use Rattle.definitions.specs.Analyzers.{Analyzer}
use Rattle.definitions.specs.Recorded.{count_of, holds, positions_of}
use Rattle.definitions.specs.Schema.{Schema}
use Rattle.definitions.specs.Values.{Document}

-- past every document: where a cursor stands that has none left
abbrev pub terminated : ℕ
terminated = 2147483647

-- a document's place, how often it has the term, and where
pub record Posting : Type 0 where
  pub doc : ℕ
  pub count : ℕ
  pub positions : List ℕ

-- the posting of a document at a place, if it has the term
abbrev pub posting_of : Schema → Analyzer → List ℕ → ℕ × Document → Option Posting
posting_of schema analyze t (place, doc) = if holds schema analyze t doc then Some (record { doc = place; count = count_of schema analyze t doc; positions = positions_of schema analyze t doc }) else None

-- the documents that have the term, numbered from 0 and ascending
abbrev pub postings : Schema → Analyzer → List ℕ → List Document → List Posting
postings schema analyze t docs = filter_map (posting_of schema analyze t) (enumerate_from 0 docs)
