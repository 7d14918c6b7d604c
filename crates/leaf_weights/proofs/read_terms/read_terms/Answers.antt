use Rattle.definitions.specs.Postings.{postings}
use Rattle.leaf_weights.proofs.TermsRead.{offsets_more, placed_more, taken, within_more}
use Rattle.leaf_weights.proofs.read_terms.read_terms.Goals as goal

pub loop-offset-preserved : goal.loop-offset-preserved
loop-offset-preserved c =
    let further = taken c.args.terms.now c.loop-offset.offset-index c.loop-offset-item.result c.loop-offset-test.true c.loop-offset-item.is in (
      λ schema analyze docs stands. placed_more (λ t. postings schema analyze t docs) c.loop-offset.read.items c.push.new.self.items c.in-Some.found _ _ c.loop-offset-item.result c.in_ok-push.ensures.items further (c.loop-offset.invariant.0 schema analyze docs stands) (c.in-Some.ensures.some schema analyze docs stands),
      offsets_more c.loop-offset.read.items c.push.new.self.items c.in-Some.found _ _ c.loop-offset-item.result c.in_ok-push.ensures.items further c.loop-offset.invariant.1,
      within_more _ c.loop-offset.read.items c.push.new.self.items c.loop-offset-item.result.0 c.in-Some.found c.in_ok-push.ensures.items c.loop-offset.invariant.2 c.in-Some.ensures.within,
    )
