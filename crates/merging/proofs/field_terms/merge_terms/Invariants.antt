use Rattle.std.proofs.Common.{List, length, ◌≡◌, ℕ}
use Rattle.definitions.specs.Schema.{Schema}
use Rattle.layouts.specs.InvertedIndexes.{IndexedField}
use Rattle.merging.proofs.TermsMerged.{AreSoFar}
use Rattle.merging.specs.Members.{AreMembers}
use Rattle.merging.specs.MergedTerms.{told_in}
use Rattle.terms.specs.Kinds.{kind_of}
use Rattle.merging.proofs.field_terms.merge_terms.Given as goal

-- the terms so far were written
abbrev pub invariant-loop-key : goal.invariant-loop-key
invariant-loop-key l = record {
  so_far : (schema : Schema) (num_docs : ℕ) (all : List (List IndexedField)) → AreMembers schema 0 num_docs l.members all → AreSoFar (kind_of l.kind) l.fn.serializer l.serializer (told_in l.field l.terms.keys l.members all) (told_in l.field l.fn.terms.keys l.members all);
  members : l.terms.members ≡ l.fn.terms.members;
}

abbrev pub decreases-loop-key : goal.decreases-loop-key
decreases-loop-key l = length l.terms.keys
