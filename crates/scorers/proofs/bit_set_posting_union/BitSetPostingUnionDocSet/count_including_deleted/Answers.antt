use Rattle.std.proofs.Common.{ap, is_some, map, sym, ◌∙◌}
use Rattle.docsets.specs.Members.{at_least}
use Rattle.docsets.proofs.SetEntryLaws.{all-before}
use Rattle.scorers.specs.Documents.{documents}
use Rattle.scorers.specs.Uniting.{uniting}
use Rattle.scorers.proofs.bit_set_posting_union.BitSetPostingUnionDocSet.count_including_deleted.Goals as goal

pub invariant_of-self : goal.invariant_of-self
invariant_of-self g c =
    let s = c.args.self.now in
    record {
      same = ap documents c.count_including_deleted.ensures.done ∙ sym (ap documents (c.seek.ensures.rest ∙ all-before 0 (at_least 1 (uniting (is_some s.union.positions)) (map g.S.DocSet.entries s.union.docsets.items)) s.union.together.rises));
    }
