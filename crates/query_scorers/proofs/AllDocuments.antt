-- Every document, by the boost.
use Rattle.std.proofs.Common.{[], List, ap, arith, filter_map, length, max, refl, suc, sym, zero, ◌*◌, ◌+◌, ◌-◌, ◌∙◌, ◌∷◌, ◌≡◌, ◌≤◌, ℕ}
use Rattle.std.specs.List.{enumerate_from}
use Rattle.docsets.specs.Entries.{Entry, from}
use Rattle.definitions.specs.Analyzers.{Analyzer}
use Rattle.definitions.specs.Answers.{answer_at}
use Rattle.definitions.specs.Query.{all}
use Rattle.definitions.specs.Schema.{Schema}
use Rattle.definitions.specs.Scoring.{Similarity, max_score}
use Rattle.definitions.specs.Values.{Document}
use Rattle.docsets.proofs.EntryLaws.{greatest_all}
use Rattle.docsets.specs.ScoredEntries.{all_from, greatest_score, pairs_of, rescored_by}
use Rattle.docsets.proofs.ScoredEntryLaws.{all-from, from-rescored}
use Rattle.segment_reader.specs.SegmentReaders.{max_doc_of}
use Rattle.segment_reader.specs.declared.segment_reader.SegmentReader.{SegmentReader}
use Rattle.query_scorers.specs.Scores.{Scores}

boosted_once : (b n : ℕ) → n ≤ 1 → b ≤ max_score → b * n ≤ max_score
boosted_once b zero l small = omega (arith, small)
boosted_once b (suc zero) l small = omega (arith, small)
boosted_once b (suc (suc n)) l small = absurd (omega (arith, l))

-- the boost fits
pub all_fit : (b c doc count : ℕ) → b ≡ c → c ≤ max_score → b * greatest_score (all_from doc count) ≤ max_score
all_fit b c doc count same small = boosted_once b (greatest_score (all_from doc count)) (greatest_all doc count) (omega (arith, same, small))

greatest_boosted : (b doc count : ℕ) → greatest_score (rescored_by (λ e. b * e.score) (all_from doc count)) ≤ b
greatest_boosted b doc zero = omega arith
greatest_boosted b doc (suc count) = let ih = greatest_boosted b (doc + 1) count in let goal : max (b * 1) (greatest_score (rescored_by (λ e. b * e.score) (all_from (doc + 1) count))) ≤ b = omega (arith, ih) in goal

all_answered : (schema : Schema) (analyze : Analyzer) (sim : Similarity) (b n : ℕ) (docs : List Document) → pairs_of (rescored_by (λ e. b * e.score) (all_from n (length docs))) ≡ filter_map (answer_at schema analyze sim b all) (enumerate_from n docs)
all_answered schema analyze sim b n [] = refl
all_answered schema analyze sim b n (doc ∷ docs) =
    ap (λ s. (n, s) ∷ pairs_of (rescored_by (λ e. b * e.score) (all_from (n + 1) (length docs)))) (let same : b * 1 ≡ b = omega arith in same)
    ∙ ap (λ ps. (n, b) ∷ ps) (all_answered schema analyze sim b (n + 1) docs)

all_within : (b n : ℕ) → from n (rescored_by (λ e. b * e.score) (all_from 0 n)) ≡ []
all_within b n =
    from-rescored (λ e. b * e.score) n (all_from 0 n)
    ∙ ap (rescored_by (λ e. b * e.score)) (all-from n 0 n (omega arith) ∙ ap (all_from n) (let none : 0 + n - n ≡ 0 = omega arith in none))

pub all_score : (sim : Similarity) (b : ℕ) (r : SegmentReader) (es : List Entry) → es ≡ rescored_by (λ e. b * e.score) (all_from 0 (max_doc_of r)) → Scores sim b all r es
all_score sim b r es is =
    let n = max_doc_of r in
    record {
      answers_are = λ schema analyze docs stands passes. ap pairs_of is ∙ (ap (λ k. pairs_of (rescored_by (λ e. b * e.score) (all_from 0 k))) (sym stands.many) ∙ all_answered schema analyze sim b 0 docs);
      within = ap (from n) is ∙ all_within b n;
      bounded = (let most = greatest_boosted b 0 n in let same = ap greatest_score is in omega (arith, most, same));
    }

-- what a boost makes of all documents
pub boosted_all : (sim : Similarity) (b m : ℕ) (r : SegmentReader) (es all_entries : List Entry) → m ≡ b → es ≡ rescored_by (λ e. m * e.score) all_entries → all_entries ≡ all_from 0 (max_doc_of r) → Scores sim b all r es
boosted_all sim b m r es all_entries same is are = all_score sim b r es (is ∙ (ap (λ n. rescored_by (λ e. n * e.score) all_entries) same ∙ ap (rescored_by (λ e. b * e.score)) are))
