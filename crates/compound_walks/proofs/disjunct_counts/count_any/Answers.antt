use Rattle.docsets.specs.Members.{combining}
use Rattle.definitions.specs.ScoredLists.{no_score}
use Rattle.segment_reader.specs.SegmentReaders.{max_doc_of}
use Rattle.compound_walks.proofs.BestAnswers.{any_matches, any_within}
use Rattle.compound_walks.proofs.disjunct_counts.count_any.Goals as goal

pub count-requires : goal.count-requires
count-requires g c = record { within = any_within g.S.DocSet.entries g.met.S.DocSet.rising c.args.disjuncts.items c.requires.fits (combining (λ xs. no_score xs)) _ c.in_ok-any.ensures (max_doc_of c.args.reader.now) c.requires.within }

pub returns : goal.returns
returns g c tie small weight b q are schema analyze rows has passes =
    c.count.ensures.count schema analyze weight b q rows has passes (any_matches g.S.DocSet.entries g.met.S.DocSet.rising c.args.disjuncts.items c.requires.fits (combining (λ xs. no_score xs)) _ c.in_ok-any.ensures c.args.reader.now tie small weight b q are)
