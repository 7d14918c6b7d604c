use Rattle.std.proofs.Common.{is_some, map}
use Rattle.docsets.specs.Entries.{from}
use Rattle.docsets.specs.SetEntries.{set_entries}
use Rattle.docsets.specs.Members.{at_least}
use Rattle.scorers.proofs.Documents.{same-from}
use Rattle.scorers.specs.Uniting.{uniting}
use Rattle.scorers.proofs.bit_set_posting_union.BitSetPostingUnionDocSet.seek.Goals as goal

pub invariant_of-self : goal.invariant_of-self
invariant_of-self g c =
    let s = c.args.self.now in
    let set = c.seek-2.new.self in
    let union = c.seek.new.self in
    record {
      same = same-from c.args.target (from s.bitset.doc (set_entries s.bitset.docs)) (at_least 1 (uniting (is_some s.union.positions)) (map g.S.DocSet.entries s.union.docsets.items)) (from set.doc (set_entries set.docs)) (at_least 1 (uniting (is_some union.positions)) (map g.S.DocSet.entries union.docsets.items)) s.same c.seek-2.ensures.rest c.seek.ensures.rest;
    }
