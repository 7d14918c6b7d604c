-- Finders over the documents that all terms of a phrase have.
use Rattle.std.specs.Prelude.{◌≤◌, List, ℕ}
use Rattle.docsets.specs.Entries.{Entry}
use Rattle.phrases.specs.Finders.{HasRoom}
use Rattle.phrases.specs.PhraseEntries.{HaveColumns, longest_column}
use Rattle.phrases.specs.Settled.{IsSettled}
use Rattle.phrases.specs.declared.place_finder.PlaceFinder.{PlaceFinder}
use Rattle.term_scorer.specs.TermScores.{documents_bound}

-- the finder has the places of the current document, and room for those of all; `num_docs` documents have a length
pub record IsStanding (f : PlaceFinder) (num_docs : ℕ) (es : List Entry) : Type 0 where
  pub settled : IsSettled f es
  pub columns : HaveColumns es
  pub room : HasRoom f (longest_column es)
  pub covered : documents_bound es ≤ num_docs
