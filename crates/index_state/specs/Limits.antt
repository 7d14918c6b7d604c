-- The limits that the documents of a segment pass.
use Rattle.std.specs.Prelude.{[], ◌++◌, ◌+◌, ◌∷◌, ◌≤◌, ◌⊎◌, List, length, ℕ}
use Rattle.definitions.specs.Analyzers.{Analyzer}
use Rattle.definitions.specs.KeptLengths.{norms_of}
use Rattle.definitions.specs.Postings.{postings}
use Rattle.definitions.specs.Schema.{Schema}
use Rattle.definitions.specs.Values.{Document}
use Rattle.document_indexer.specs.Indexed.{PassesLimit}
use Rattle.postings_writer.specs.Limits.{AnyPasses}

-- these documents are too much for the terms of a segment
abbrev pub TermsPass : Schema → Analyzer → List Document → Type 0
TermsPass schema analyze docs = AnyPasses schema (norms_of schema analyze docs) (λ t. postings schema analyze t docs)

-- one document more behind these passes a limit of what is indexed; or, where it fills a segment of n documents, they are
-- too much for its terms
abbrev pub OneMorePasses : Schema → Analyzer → ℕ → List Document → Document → Type 0
OneMorePasses schema analyze n docs doc =
    PassesLimit schema analyze docs doc ⊎ ((n ≤ length docs + 1) × TermsPass schema analyze (docs ++ doc ∷ []))
