use Rattle.std.proofs.Common.{List, length, map}
use Rattle.docsets.specs.Entries.{Entry}
use Rattle.intersections.specs.Meetings.{meeting}
use Rattle.phrases.proofs.PhraseEntryLaws.{IsRest-on}
use Rattle.phrases.proofs.StandingLaws.{stands-on}
use Rattle.phrases.proofs.phrase_scorer.PhraseScorerDocSet.advance.Goals as goal

pub invariant_of-self : goal.invariant_of-self
invariant_of-self g c =
    let s = c.args.self.now in
    let es : List Entry = meeting (map g.S.DocSet.entries s.intersection_docset.docsets.items) in
    let next : List Entry = meeting (map g.S.DocSet.entries c.advance.new.self.docsets.items) in
    let rest : List Entry = meeting (map g.S.DocSet.entries c.settle.new.terms.docsets.items) in
    record { standing = stands-on s.finder c.settle.new.finder (length s.fieldnorm_reader) rest es (IsRest-on rest next es c.settle.ensures.rest (1, c.advance.ensures.rest)) s.standing.columns s.standing.room s.standing.covered c.settle.ensures.room c.settle.ensures.settled }
