-- What scorers of several forms answer, from what each answers.
use Rattle.std.proofs.Common.{[], IfNone, IfSome, List, None, Option, Some, ap, arith, filter_map, refl, subst, sym, ◌+◌, ◌∙◌, ◌∷◌, ◌≡◌, ℕ, ℤ}
use Rattle.std.specs.List.{enumerate_from}
use Rattle.docsets.specs.Entries.{Entry, from}
use Rattle.definitions.specs.Analyzers.{Analyzer}
use Rattle.definitions.specs.Answers.{answer_at, answers}
use Rattle.definitions.specs.Query.{Queries, Query, disjunction_max, empty}
use Rattle.definitions.specs.Refusing.{tree_fault}
use Rattle.definitions.specs.Schema.{Schema}
use Rattle.definitions.specs.Scoring.{Similarity}
use Rattle.definitions.specs.Values.{Document}
use Rattle.docsets.specs.ScoredEntries.{greatest_score, pairs_of}
use Rattle.query_scorers.specs.Scores.{Scores}
use Rattle.segment_reader.specs.SegmentReaders.{StandsFor, max_doc_of}
use Rattle.segment_reader.specs.declared.segment_reader.SegmentReader.{SegmentReader}

-- a scorer of no document, where none is answered
pub none_scores : (sim : Similarity) (b : ℕ) (q : Query) (r : SegmentReader) (es : List Entry) → es ≡ [] → ((schema : Schema) (analyze : Analyzer) (docs : List Document) → StandsFor schema analyze docs r → tree_fault schema sim.weight b q ≡ None → answers schema analyze sim b q docs ≡ []) → Scores sim b q r es
none_scores sim b q r es none lack =
    let no_score = ap greatest_score none in
    record {
      answers_are = λ schema analyze docs stands passes. ap pairs_of none ∙ sym (lack schema analyze docs stands passes);
      within = ap (from (max_doc_of r)) none;
      bounded = omega (arith, no_score);
    }

-- the same entries under the same boost
pub moved : (sim : Similarity) (n b : ℕ) (q : Query) (r : SegmentReader) (es fs : List Entry) → fs ≡ es → n ≡ b → Scores sim n q r es → Scores sim b q r fs
moved sim n b q r es fs is same scores = subst (Scores sim b q r) (sym is) (subst (λ k. Scores sim k q r es) same scores)

-- the same entries by the same tie breaker
pub moved_best : (sim : Similarity) (b : ℕ) (qs : Queries) (t u : ℤ) (r : SegmentReader) (es fs : List Entry) → fs ≡ es → t ≡ u → Scores sim b (disjunction_max qs t) r es → Scores sim b (disjunction_max qs u) r fs
moved_best sim b qs t u r es fs is same scores = subst (Scores sim b (disjunction_max qs u) r) (sym is) (subst (λ v. Scores sim b (disjunction_max qs v) r es) same scores)

-- a scorer that was found, or none
pub from_found : {X : Type 0} (entries : X → List Entry) (sim : Similarity) (b : ℕ) (q : Query) (r : SegmentReader) (o : Option X) (es : List Entry) → IfSome o (λ x. Scores sim b q r (entries x)) → IfNone o (Scores sim b q r []) → IfSome o (λ x. es ≡ entries x) → IfNone o (es ≡ []) → Scores sim b q r es
from_found entries sim b q r (Some x) es some none is lack = subst (Scores sim b q r) (sym is) some
from_found entries sim b q r None es some none is lack = subst (Scores sim b q r) (sym lack) none

nothing : (schema : Schema) (analyze : Analyzer) (sim : Similarity) (b n : ℕ) (docs : List Document) → filter_map (answer_at schema analyze sim b empty) (enumerate_from n docs) ≡ []
nothing schema analyze sim b n [] = refl
nothing schema analyze sim b n (doc ∷ docs) = nothing schema analyze sim b (n + 1) docs

-- no document
pub empty_scores : (sim : Similarity) (b : ℕ) (r : SegmentReader) (es : List Entry) → es ≡ [] → Scores sim b empty r es
empty_scores sim b r es none = none_scores sim b empty r es none (λ schema analyze docs stands passes. nothing schema analyze sim b 0 docs)
