use Rattle.std.proofs.Common.{ap, arith, map, sym, ◌+◌, ◌<◌, ◌∙◌, ◌≡◌, ◌≤◌}
use Rattle.definitions.specs.Postings.{terminated}
use Rattle.docsets.specs.Entries.{from}
use Rattle.docsets.proofs.AtLeastLaws.{ended-same, union-ended, union-first, union-next}
use Rattle.docsets.proofs.MemberLaws.{least-small}
use Rattle.docsets.specs.Members.{at_least, least}
use Rattle.docsets.proofs.any_of.advance_any.Goals as goal

pub returns : goal.returns
returns g c =
    let entries = g.D.DocSet.entries in
    let items = c.args.docsets.now.items in
    let is = c.requires in
    let some : least (map entries items) < terminated = omega (arith, is) in
    record {
      moved = c.seek_any.ensures.moved;
      least = c.seek_any.ensures.least;
      rest = λ make. c.seek_any.ensures.rest make ∙ (ap (λ d. from (d + 1) (at_least 1 make (map entries items))) is ∙ union-next entries g.met.D.DocSet.rising make items some);
      at = c.seek_any.ensures.at;
    }

pub returns-then-doc-ge-TERMINATED : goal.returns-then-doc-ge-TERMINATED
returns-then-doc-ge-TERMINATED g c =
    let entries = g.D.DocSet.entries in
    let rising = g.met.D.DocSet.rising in
    let items = c.args.docsets.now.items in
    let is = c.requires in
    let at_end = c.if-doc-ge-TERMINATED.true in
    let small = least-small entries rising items in
    let over : terminated ≤ least (map entries items) = omega (arith, is, at_end) in
    let end : terminated ≡ least (map entries items) = omega (arith, over, small) in
    record {
      moved = ended-same entries rising (c.args.doc + 1) items over;
      least = end;
      rest = λ make. union-ended entries rising make items over;
      at = λ make. end ∙ sym (union-first entries rising make items);
    }
