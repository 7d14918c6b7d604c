use Rattle.std.proofs.Common.{List, ap, arith, drop, length, map, sym, vec_len, ◌<◌, ◌∙◌, ◌≡◌}
use Rattle.std.proofs.lemmas.Bool.Decides.{nat_tests}
use Rattle.definitions.specs.Postings.{terminated}
use Rattle.docsets.specs.Entries.{Entry, first, first_positions}
use Rattle.intersections.specs.Meetings.{meeting}
use Rattle.phrases.specs.PhraseEntries.{longest, longest_column, phrased}
use Rattle.phrases.proofs.PhraseEntryLaws.{HaveColumns-rest, IsRest-on, first-columns, longest-first, longest-rest, phrased-pass}
use Rattle.phrases.specs.Places.{places_of}
use Rattle.phrases.proofs.StandingLaws.{HasRoom-lower}
use Rattle.phrases.proofs.phrase_documents.settle.Goals as goal

pub find-requires : goal.find-requires
find-requires g c =
    let es : List Entry = meeting (map g.S.DocSet.entries c.loop-doc.terms.docsets.items) in
    let all : List Entry = meeting (map g.S.DocSet.entries c.args.terms.now.docsets.items) in
    let at = c.loop-doc.invariant.at in
    let on : first es < terminated = omega (arith, at, c.loop-doc-test.true) in
    let standing = first-columns es (HaveColumns-rest es all c.loop-doc.invariant.rest c.requires.columns) on in
    let here = longest-first es in
    let fewer = longest-rest es all c.loop-doc.invariant.rest in
    record {
      on = on;
      has_terms = standing.0;
      columns = standing.1;
      room = HasRoom-lower c.loop-doc.finder (longest (first_positions es)) (longest_column all) (omega (arith, here, fewer)) (c.loop-doc.invariant.room (longest_column all) c.requires.room);
    }

pub returns-then-not-is_empty-clause-room : goal.returns-then-not-is_empty-clause-room
returns-then-not-is_empty-clause-room g c = λ n h. c.find.ensures.room n (c.loop-doc.invariant.room n h)

pub loop-doc-preserved : goal.loop-doc-preserved
loop-doc-preserved g c =
    let es : List Entry = meeting (map g.S.DocSet.entries c.loop-doc.terms.docsets.items) in
    let all : List Entry = meeting (map g.S.DocSet.entries c.args.terms.now.docsets.items) in
    let inv = c.loop-doc.invariant in
    let rest = c.advance-doc.ensures.rest ∙ ap (drop 1) c.find.ensures.same in
    let none : length (places_of c.args.finder.now.slop (first_positions es)) ≡ 0 = (let ok = c.find.new.self.places.ok in let empty : vec_len c.find.new.self.places ≡ 0 = grind (arith, nat_tests, c.is_empty.ensures, c.if-not-is_empty.false) in let found = ap length (c.find.ensures.places ∙ ap (λ s. places_of s (first_positions es)) inv.slop) in sym found ∙ (sym ok.0 ∙ empty)) in
    record {
      at = c.advance-doc.ensures.at;
      same = λ score. ap (phrased score c.args.finder.now.slop) rest ∙ (phrased-pass score c.args.finder.now.slop es none ∙ inv.same score);
      rest = IsRest-on (meeting (map g.S.DocSet.entries c.advance-doc.new.self.docsets.items)) es all (1, rest) inv.rest;
      slop = c.find.ensures.slop ∙ inv.slop;
      room = λ n h. c.find.ensures.room n (inv.room n h);
    }
