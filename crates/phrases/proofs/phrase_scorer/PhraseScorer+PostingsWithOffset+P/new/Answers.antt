use Rattle.std.proofs.Common.{ap, arith, length, map, ◌∙◌, ℕ}
use Rattle.std.proofs.lemmas.Result.{IfOk-weaker}
use Rattle.definitions.specs.Scoring.{greatest_of}
use Rattle.intersections.specs.Meetings.{meeting}
use Rattle.docsets.specs.Members.{greatest_sum}
use Rattle.phrases.specs.PhraseEntries.{phrased, placed}
use Rattle.phrases.specs.PhraseScores.{phrase_score_by}
use Rattle.phrases.proofs.Adjusted.{adjusted-is, covered-docsets, no-scores}
use Rattle.phrases.proofs.phrase_scorer.PhraseScorer+PostingsWithOffset+P.new.Goals as goal

pub over-requires-clause-fits : goal.over-requires-clause-fits
over-requires-clause-fits g c =
    let is = ap greatest_sum c.in_ok-docsets.ensures in
    let none = no-scores g.P.DocSet.entries (greatest_of (map (λ t. t.0) c.args.term_postings.items)) c.args.term_postings.items in
    omega (arith, is, none)

pub over-requires-clause-covered : goal.over-requires-clause-covered
over-requires-clause-covered g c =
    covered-docsets g.P.DocSet.entries (λ s. placed s.offset (g.P.DocSet.entries s.postings)) (greatest_of (map (λ t. t.0) c.args.term_postings.items)) (length c.args.fieldnorm_reader) c.args.term_postings.items c.in_ok-docsets.docsets.items c.in_ok-docsets.ensures c.requires.covered

pub returns : goal.returns
returns g c =
    let score : ℕ → ℕ → ℕ = phrase_score_by c.args.similarity_weight_opt c.args.fieldnorm_reader in
    IfOk-weaker c.over.result _ _ (λ scorer h. h ∙ ap (phrased score c.args.slop) (ap meeting c.in_ok-docsets.ensures ∙ adjusted-is g.P.DocSet.entries c.args.term_postings.items)) c.over.ensures
