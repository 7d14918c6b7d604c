use Rattle.std.proofs.Common.{ap, arith, sym, ◌∙◌}
use Rattle.docsets.proofs.EntryLaws.{most-from}
use Rattle.docsets.specs.Entries.{most_positions}
use Rattle.phrases.proofs.OneTermLaws.{from-one_term}
use Rattle.phrases.specs.PrefixEntries.{one_term}
use Rattle.phrases.proofs.one_term_phrase.OneTermPhraseDocSet.seek.Goals as goal

pub invariant_of-self : goal.invariant_of-self
invariant_of-self g c =
    let s = c.args.self.now in
    let fewer = most-from c.args.target (g.P.DocSet.entries s.postings) in
    let is = ap most_positions c.seek.ensures.rest in
    let positions = s.positions_room in
    let places = s.places_room in
    record {
      small = s.small;
      positions_room = omega (arith, fewer, is, positions);
      places_room = omega (arith, fewer, is, places);
    }

pub returns-clause-rest : goal.returns-clause-rest
returns-clause-rest g c = ap (one_term c.args.self.now.boost) c.seek.ensures.rest ∙ sym (from-one_term c.args.self.now.boost c.args.target (g.P.DocSet.entries c.args.self.now.postings))
