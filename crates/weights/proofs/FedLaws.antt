-- What sinks were fed of a query of clauses, by the weights of a segment's leaves.
use Rattle.std.proofs.Common.{List, None, ap, subst, ◌∙◌, ◌≡◌, ℕ, ℤ}
use Rattle.definitions.specs.Analyzers.{Analyzer}
use Rattle.definitions.specs.Answers.{answers}
use Rattle.definitions.specs.Query.{Query}
use Rattle.definitions.specs.Refusing.{tree_fault}
use Rattle.definitions.specs.Schema.{Schema}
use Rattle.definitions.specs.Scoring.{Similarity}
use Rattle.definitions.specs.Sinks.{fed}
use Rattle.definitions.specs.Values.{Document}
use Rattle.walks.proofs.FedBelow.{fed_below}
use Rattle.walks.specs.Feeding.{IsFedBelow}
use Rattle.compound_walks.specs.Fed.{IsFedBy}
use Rattle.segment_reader.specs.SegmentReaders.{StandsFor, max_doc_of}
use Rattle.segment_reader.specs.declared.segment_reader.SegmentReader.{SegmentReader}

module _ {S : Type 0} (limit : S → ℤ) (taken : S → ℕ × ℕ → S) (before : S) (b : ℕ) (q : Query) (after : S) where
  -- by the same weights in the same segment
  fed_there : (made sim : Similarity) (read r : SegmentReader) → made ≡ sim → read ≡ r → IsFedBy limit taken before made b q read after → IsFedBy limit taken before sim b q r after
  fed_there made sim read r same is by = subst (λ s. IsFedBy limit taken before s b q r after) same (subst (λ x. IsFedBy limit taken before made b q x after) is by)

  -- it was fed what the query answers for the documents of the segment
  pub fed_answers : (made sim : Similarity) (read r : SegmentReader) → made ≡ sim → read ≡ r → (schema : Schema) (analyze : Analyzer) (docs : List Document) → StandsFor schema analyze docs r → tree_fault schema sim.weight b q ≡ None → IsFedBy limit taken before made b q read after → after ≡ fed limit taken before (answers schema analyze sim b q docs)
  fed_answers made sim read r same is schema analyze docs stands passes by =
      let it = fed_there made sim read r same is by in
      it.fed ∙ ap (fed limit taken before) (it.scores.answers_are schema analyze docs stands passes)

  -- all of them are below the number of documents
  pub fed_within : (made : Similarity) (read r : SegmentReader) → read ≡ r → IsFedBy limit taken before made b q read after → IsFedBelow limit taken before (max_doc_of r) after
  fed_within made read r is by =
      let it : IsFedBy limit taken before made b q r after = subst (λ x. IsFedBy limit taken before made b q x after) is by in
      fed_below limit taken before after (max_doc_of r) it.entries it.rises it.scores.within it.fed
