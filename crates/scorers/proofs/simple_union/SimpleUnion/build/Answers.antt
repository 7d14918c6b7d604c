use Rattle.std.proofs.Common.{ap, arith, map, true, ◌∙◌}
use Rattle.docsets.specs.Members.{at_least}
use Rattle.docsets.proofs.MemberLaws.{from-zero}
use Rattle.scorers.proofs.Together.{together-first}
use Rattle.scorers.specs.Uniting.{most_sum, uniting}
use Rattle.scorers.proofs.UnitingLaws.{most_sum-cut}
use Rattle.scorers.proofs.simple_union.SimpleUnion.build.Goals as goal

pub invariant_of-result : goal.invariant_of-result
invariant_of-result g c =
    let entries = g.S.DocSet.entries in
    let moved = c.seek_any-doc.ensures.moved in
    let less = most_sum-cut 0 (map entries c.args.docsets.items) in
    let same = ap most_sum moved in
    let bound = c.most_together-most.ensures in
    let room = c.in_ok-positions.ensures.room in
    let fits = c.in_ok-positions.ensures.fits in
    let one = room.0 in
    let all = room.1 in
    record {
      together = together-first entries g.met.S.DocSet.rising true c.args.docsets.items (map entries c.seek_any-doc.new.docsets.items) c.seek_any-doc.result c.requires.scores (λ e. c.requires.counts) moved c.seek_any-doc.ensures.least;
      room = (omega (arith, less, same, bound, fits, one), omega (arith, less, same, bound, fits, all));
    }

pub returns : goal.returns
returns g c = c.seek_any-doc.ensures.rest (uniting true) ∙ from-zero (at_least 1 (uniting true) (map g.S.DocSet.entries c.args.docsets.items))
