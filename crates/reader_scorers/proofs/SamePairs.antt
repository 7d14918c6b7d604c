-- What is said of scorers by their documents and scores alone.
use Rattle.std.proofs.Common.{[], List, ap, arith, filter, false, if◌then◌else◌, map, nat_le, refl, sym, true, ◌*◌, ◌∙◌, ◌∷◌, ◌≡◌, Bool, ℕ, ℤ}
use Rattle.any_scorer.proofs.SameGreatest.{greatest_paired}
use Rattle.docsets.specs.Entries.{Entry, from}
use Rattle.definitions.specs.Query.{Query, const_score}
use Rattle.definitions.specs.Scoring.{Similarity, greatest_of, natural}
use Rattle.docsets.specs.ScoredEntries.{pairs_of, rescored_by}
use Rattle.query_scorers.proofs.ConstantScores.{constant_scores}
use Rattle.query_scorers.specs.Scores.{Scores}
use Rattle.segment_reader.specs.SegmentReaders.{max_doc_of}
use Rattle.segment_reader.specs.declared.segment_reader.SegmentReader.{SegmentReader}

from_paired : (n : ℕ) (es : List Entry) → pairs_of (from n es) ≡ filter (λ p. nat_le n p.0) (pairs_of es)
from_paired n [] = refl
from_paired n (e ∷ es) = go (nat_le n e.doc) (from_paired n es)
  where
    go : (t : Bool) → pairs_of (from n es) ≡ filter (λ p. nat_le n p.0) (pairs_of es) → pairs_of (if t then e ∷ from n es else from n es) ≡ (if t then (e.doc, e.score) ∷ filter (λ p. nat_le n p.0) (pairs_of es) else filter (λ p. nat_le n p.0) (pairs_of es))
    go true rest = ap (λ ps. (e.doc, e.score) ∷ ps) rest
    go false rest = rest

none_paired : (es : List Entry) → pairs_of es ≡ [] → es ≡ []
none_paired [] h = refl
none_paired (e ∷ es) h = cc

-- a scorer with the documents and scores of another answers the same query
pub same_pairs : (sim : Similarity) (b : ℕ) (q : Query) (r : SegmentReader) (es fs : List Entry) → pairs_of es ≡ pairs_of fs → Scores sim b q r fs → Scores sim b q r es
same_pairs sim b q r es fs same scores =
    let n = max_doc_of r in
    let greatest = greatest_paired es ∙ (ap (λ ps. greatest_of (map (λ p. p.1) ps)) same ∙ sym (greatest_paired fs)) in
    let bounded = scores.bounded in
    record {
      answers_are = λ schema analyze docs stands passes. same ∙ scores.answers_are schema analyze docs stands passes;
      within = none_paired _ (from_paired n es ∙ (ap (filter (λ p. nat_le n p.0)) same ∙ (sym (from_paired n fs) ∙ ap pairs_of scores.within)));
      bounded = omega (arith, greatest, bounded);
    }

-- one score for each document
pub constant_paired : (sim : Similarity) (b n : ℕ) (constant : ℤ) (q : Query) (r : SegmentReader) (es fs : List Entry) → n ≡ b * natural constant → pairs_of fs ≡ pairs_of (rescored_by (λ e. n) es) → Scores sim b q r es → Scores sim b (const_score constant q) r fs
constant_paired sim b n constant q r es fs same is scores = same_pairs sim b (const_score constant q) r fs (rescored_by (λ e. n) es) is (constant_scores sim b n constant q r es (rescored_by (λ e. n) es) same refl scores)
