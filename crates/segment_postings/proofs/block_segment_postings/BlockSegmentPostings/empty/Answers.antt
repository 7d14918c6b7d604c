use Rattle.std.proofs.Common.{[], ap, arith, false, length, min, refl, subst, sym, ◌∙◌, ◌≡◌}
use Rattle.segment_postings.specs.Reading.{StandsIn, counts_at, docs_at}
use Rattle.codes.specs.SkipBlocks.{Skips, begun}
use Rattle.segment_postings.proofs.block_segment_postings.BlockSegmentPostings.empty.Goals.{After-new}
use Rattle.segment_postings.proofs.block_segment_postings.BlockSegmentPostings.empty.Goals as goal

begins : (c : After-new) → c.new.result ≡ begun false false 0 []
begins c = c.new.ensures [] (record { many = refl; bytes_are = refl; sound = refl })

pub begin-requires : goal.begin-requires
begin-requires c = subst (λ (s : Skips). StandsIn false false 0 s []) (sym (begins (goal.at.begin-requires c).After-new)) (record { within = omega arith; readable = record { count_fits = omega arith; docs = refl; small = λ i. omega arith; counts = λ yes. refl; counts_fit = λ i. omega arith } })

pub returns-clause-docs : goal.returns-clause-docs
returns-clause-docs c = c.begin.ensures.docs ∙ ap (λ (s : Skips). docs_at 0 s []) (begins (goal.at.returns-clause-docs c).After-new)

pub returns-clause-counts : goal.returns-clause-counts
returns-clause-counts c = c.begin.ensures.counts ∙ ap (λ (s : Skips). counts_at false 0 s []) (begins (goal.at.returns-clause-counts c).After-new)

pub returns-clause-decoded : goal.returns-clause-decoded
returns-clause-decoded c = c.begin.ensures.decoded ∙ ap (λ (s : Skips). min 1 (length (docs_at 0 s []))) (begins (goal.at.returns-clause-decoded c).After-new)

pub returns-clause-entries : goal.returns-clause-entries
returns-clause-entries c = c.begin.ensures.entries ∙ ap (λ (s : Skips). s.left) (begins (goal.at.returns-clause-entries c).After-new)

pub returns-clause-reached : goal.returns-clause-reached
returns-clause-reached c = c.begin.ensures.reached ∙ ap (λ (s : Skips). s.left) (begins (goal.at.returns-clause-reached c).After-new)
