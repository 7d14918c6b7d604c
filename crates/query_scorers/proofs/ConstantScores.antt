-- One score in place of each.
use Rattle.std.proofs.Common.{[], List, None, Some, ap, arith, false, filter_map, if◌then◌else◌, max, refl, true, ◌*◌, ◌+◌, ◌∙◌, ◌∷◌, ◌≡◌, ◌≤◌, ℕ, ℤ}
use Rattle.std.specs.List.{cons_option, enumerate_from}
use Rattle.docsets.specs.Entries.{Entry, from}
use Rattle.definitions.proofs.Bounds.{accepted_const}
use Rattle.definitions.specs.Analyzers.{Analyzer}
use Rattle.definitions.specs.Answers.{answer_at}
use Rattle.definitions.specs.Matching.{matches}
use Rattle.definitions.specs.Query.{Query, const_score}
use Rattle.definitions.specs.Schema.{Schema}
use Rattle.definitions.specs.ScoredLists.{ScoredList, rescored}
use Rattle.definitions.specs.Scoring.{Similarity, natural, score}
use Rattle.definitions.specs.Values.{Document}
use Rattle.docsets.specs.ScoredEntries.{greatest_score, pairs_of, rescored_by}
use Rattle.docsets.proofs.ScoredEntryLaws.{from-rescored, pairs-rescored}
use Rattle.query_scorers.specs.Scores.{Scores}
use Rattle.segment_reader.specs.SegmentReaders.{max_doc_of}
use Rattle.segment_reader.specs.declared.segment_reader.SegmentReader.{SegmentReader}

rescored_answers : (schema : Schema) (analyze : Analyzer) (sim : Similarity) (b : ℕ) (constant : ℤ) (q : Query) (k : ℕ) (docs : List Document) → rescored (b * natural constant) (filter_map (answer_at schema analyze sim b q) (enumerate_from k docs)) ≡ filter_map (answer_at schema analyze sim b (const_score constant q)) (enumerate_from k docs)
rescored_answers schema analyze sim b constant q k [] = refl
rescored_answers schema analyze sim b constant q k (doc ∷ docs) =
    let ih = rescored_answers schema analyze sim b constant q (k + 1) docs in
    let rest : ScoredList = filter_map (answer_at schema analyze sim b q) (enumerate_from (k + 1) docs) in
    let other : ScoredList = filter_map (answer_at schema analyze sim b (const_score constant q)) (enumerate_from (k + 1) docs) in
    elim (matches schema analyze doc q) as (λ m. rescored (b * natural constant) (cons_option (if m then Some (k, score schema analyze sim doc b q) else None) rest) ≡ cons_option (if m then Some (k, b * natural constant) else None) other) [
      | true ↦ ap (λ ps. (k, b * natural constant) ∷ ps) ih
      | false ↦ ih
    ]

pub greatest_constant : (n : ℕ) (es : List Entry) → greatest_score (rescored_by (λ e. n) es) ≤ n
greatest_constant n [] = omega arith
greatest_constant n (e ∷ es) = let ih = greatest_constant n es in let goal : max n (greatest_score (rescored_by (λ e. n) es)) ≤ n = omega (arith, ih) in goal

pub constant_scores : (sim : Similarity) (b n : ℕ) (constant : ℤ) (q : Query) (r : SegmentReader) (es fs : List Entry) → n ≡ b * natural constant → fs ≡ rescored_by (λ e. n) es → Scores sim b q r es → Scores sim b (const_score constant q) r fs
constant_scores sim b n constant q r es fs same is scores = record {
  answers_are = λ schema analyze docs stands passes. ap pairs_of is ∙ (pairs-rescored n es ∙ (ap (rescored n) (scores.answers_are schema analyze docs stands (accepted_const schema sim.weight b constant q passes)) ∙ (ap (λ m. rescored m (filter_map (answer_at schema analyze sim b q) (enumerate_from 0 docs))) same ∙ rescored_answers schema analyze sim b constant q 0 docs)));
  within = ap (from (max_doc_of r)) is ∙ (from-rescored (λ e. n) (max_doc_of r) es ∙ ap (rescored_by (λ e. n)) scores.within);
  bounded = (let most = greatest_constant n es in let at = ap greatest_score is in omega (arith, most, at, same));
}
