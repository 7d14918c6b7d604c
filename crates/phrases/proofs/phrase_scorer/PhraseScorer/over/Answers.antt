use Rattle.std.proofs.Common.{List, arith, length, map, subst, sym, ◌≤◌}
use Rattle.docsets.specs.Entries.{Entry}
use Rattle.intersections.specs.Meetings.{meeting}
use Rattle.phrases.specs.Finders.{HasRoom}
use Rattle.phrases.specs.PhraseEntries.{HaveColumns, longest_column}
use Rattle.phrases.proofs.StandingLaws.{HasRoom-lower, stands-on}
use Rattle.phrases.proofs.MeetingEntries.{HaveColumns-meeting, bound-meeting, longest-meeting}
use Rattle.phrases.proofs.phrase_scorer.PhraseScorer.over.Goals as goal
use Rattle.term_scorer.specs.TermScores.{documents_bound}

pub settle-requires-clause-columns : goal.settle-requires-clause-columns
settle-requires-clause-columns g c =
    let several = c.requires.several in
    subst HaveColumns (sym c.new-intersection_docset.ensures) (HaveColumns-meeting g.S.DocSet.entries g.met.S.Positioned.one_column c.args.docsets.items (omega (arith, several)))

pub settle-requires-clause-room : goal.settle-requires-clause-room
settle-requires-clause-room g c =
    let several = c.requires.several in
    let es : List Entry = meeting (map g.S.DocSet.entries c.args.docsets.items) in
    subst (λ es. HasRoom c.in_ok-finder.finder (longest_column es)) (sym c.new-intersection_docset.ensures)
    (HasRoom-lower c.in_ok-finder.finder (longest_column es) c.most_of-room.result (longest-meeting g.S.DocSet.entries g.met.S.Positioned.one_column c.most_of-room.result c.args.docsets.items (omega (arith, several)) c.most_of-room.ensures) c.in_ok-finder.ensures.room)

pub invariant_of-result : goal.invariant_of-result
invariant_of-result g c =
    let several = c.requires.several in
    let es : List Entry = meeting (map g.S.DocSet.entries c.args.docsets.items) in
    let rest : List Entry = meeting (map g.S.DocSet.entries c.settle.new.terms.docsets.items) in
    let begun : List Entry = meeting (map g.S.DocSet.entries c.new-intersection_docset.result.docsets.items) in
    let columns = subst HaveColumns (sym c.new-intersection_docset.ensures) (HaveColumns-meeting g.S.DocSet.entries g.met.S.Positioned.one_column c.args.docsets.items (omega (arith, several))) in
    let room = subst (λ es. HasRoom c.in_ok-finder.finder (longest_column es)) (sym c.new-intersection_docset.ensures)
    (HasRoom-lower c.in_ok-finder.finder (longest_column es) c.most_of-room.result (longest-meeting g.S.DocSet.entries g.met.S.Positioned.one_column c.most_of-room.result c.args.docsets.items (omega (arith, several)) c.most_of-room.ensures) c.in_ok-finder.ensures.room) in
    let covered = subst (λ es. documents_bound es ≤ length c.args.fieldnorm_reader) (sym c.new-intersection_docset.ensures) (bound-meeting g.S.DocSet.entries (length c.args.fieldnorm_reader) c.args.docsets.items (omega (arith, several)) c.requires.covered) in
    record { standing = stands-on c.in_ok-finder.finder c.settle.new.finder (length c.args.fieldnorm_reader) rest begun c.settle.ensures.rest columns room covered c.settle.ensures.room c.settle.ensures.settled }
