-- Parts of one segment.
use Rattle.std.specs.Prelude.{◌≡◌, List, length, ℕ}
use Rattle.std.specs.List.{AllByRecursion}
use Rattle.definitions.specs.Schema.{Schema}
use Rattle.segment_reader.specs.Readers.{IsReader, Reader}
use Rattle.layouts.specs.InvertedIndexes.{IndexedField}

-- these are the terms of `max_doc` documents with these lengths, one for each document in each field
pub record AreTogether (max_doc : ℕ) (lengths : List (ℕ × List ℕ)) (index : Reader) : Type 0 where
  pub schema : Schema
  pub fields : List IndexedField
  pub reads : IsReader schema max_doc lengths fields index
  pub each_field : AllByRecursion (λ p. length p.1 ≡ max_doc) lengths
