use Rattle.std.proofs.Common.{List, ap, length, map, sym, ◌∙◌, ℕ}
use Rattle.docsets.proofs.EntryLaws.{IsRest-from}
use Rattle.docsets.specs.Entries.{Entry, from}
use Rattle.intersections.specs.Meetings.{meeting}
use Rattle.docsets.proofs.ScoredEntryLaws.{IsRest-along}
use Rattle.phrases.specs.PhraseEntries.{longest_column, phrased}
use Rattle.phrases.proofs.PhraseEntryLaws.{HaveColumns-rest, IsRest-on, from-phrased, longest-rest}
use Rattle.phrases.specs.PhraseScores.{phrase_score_by}
use Rattle.phrases.proofs.StandingLaws.{HasRoom-lower, stands-on}
use Rattle.phrases.proofs.phrase_scorer.PhraseScorerDocSet.seek.Goals as goal

pub settle-requires-clause-columns : goal.settle-requires-clause-columns
settle-requires-clause-columns g c =
    let s = c.args.self.now in
    let es : List Entry = meeting (map g.S.DocSet.entries s.intersection_docset.docsets.items) in
    let next : List Entry = meeting (map g.S.DocSet.entries c.seek.new.self.docsets.items) in
    HaveColumns-rest next es (IsRest-along next (from c.args.target es) es c.seek.ensures.rest (IsRest-from c.args.target 0 es s.intersection_docset.meets.rises)) s.standing.columns

pub settle-requires-clause-room : goal.settle-requires-clause-room
settle-requires-clause-room g c =
    let s = c.args.self.now in
    let es : List Entry = meeting (map g.S.DocSet.entries s.intersection_docset.docsets.items) in
    let next : List Entry = meeting (map g.S.DocSet.entries c.seek.new.self.docsets.items) in
    HasRoom-lower s.finder (longest_column next) (longest_column es) (longest-rest next es (IsRest-along next (from c.args.target es) es c.seek.ensures.rest (IsRest-from c.args.target 0 es s.intersection_docset.meets.rises))) s.standing.room

pub invariant_of-self : goal.invariant_of-self
invariant_of-self g c =
    let s = c.args.self.now in
    let es : List Entry = meeting (map g.S.DocSet.entries s.intersection_docset.docsets.items) in
    let next : List Entry = meeting (map g.S.DocSet.entries c.seek.new.self.docsets.items) in
    let rest : List Entry = meeting (map g.S.DocSet.entries c.settle.new.terms.docsets.items) in
    record { standing = stands-on s.finder c.settle.new.finder (length s.fieldnorm_reader) rest es (IsRest-on rest next es c.settle.ensures.rest (IsRest-along next (from c.args.target es) es c.seek.ensures.rest (IsRest-from c.args.target 0 es s.intersection_docset.meets.rises))) s.standing.columns s.standing.room s.standing.covered c.settle.ensures.room c.settle.ensures.settled }

pub returns-clause-rest : goal.returns-clause-rest
returns-clause-rest g c =
    let s = c.args.self.now in
    let es : List Entry = meeting (map g.S.DocSet.entries s.intersection_docset.docsets.items) in
    let rest : List Entry = meeting (map g.S.DocSet.entries c.settle.new.terms.docsets.items) in
    let score : ℕ → ℕ → ℕ = phrase_score_by s.similarity_weight_opt s.fieldnorm_reader in
    ap (λ n. phrased score n rest) c.settle.ensures.slop ∙ (c.settle.ensures.same score ∙ (ap (phrased score s.finder.slop) c.seek.ensures.rest ∙ sym (from-phrased score s.finder.slop c.args.target es)))
