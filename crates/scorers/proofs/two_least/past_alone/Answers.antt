use Rattle.std.proofs.Common.{[], ap, arith, get_or, length, map, set, slice_set, sym, ◌<◌, ◌∙◌, ◌≡◌, ◌≤◌}
use Rattle.std.proofs.lemmas.List.{get_or-map, length-map, map-set}
use Rattle.definitions.specs.Postings.{terminated}
use Rattle.docsets.specs.Entries.{from}
use Rattle.docsets.proofs.MemberLaws.{entries-least, least-cut}
use Rattle.docsets.specs.Members.{entries_at, least}
use Rattle.scorers.proofs.TwoLeastLaws.{cut-ahead, cut-alone, cut-further, few-further, next-ends, two-have}
use Rattle.scorers.proofs.two_least.past_alone.Given.{Over}
use Rattle.scorers.proofs.two_least.past_alone.Goals.{After-loop-two, After-two_least-two-in-loop-two}
use Rattle.scorers.proofs.two_least.past_alone.Goals as goal

pub loop-two-init : goal.loop-two-init
loop-two-init g c =
    let entries = g.D.DocSet.entries in
    let items = c.args.docsets.now.items in
    let doc = c.two_least-two.ensures.doc in
    record {
      two = c.two_least-two.ensures;
      moved = sym (cut-ahead entries g.met.D.DocSet.rising c.two_least-two.result.doc items (omega (arith, doc)));
      few = λ d l. (let none = ap length (entries-least entries g.met.D.DocSet.rising d items (omega (arith, l, doc))) in omega (arith, none));
    }

pub index_mut-requires : goal.index_mut-requires
index_mut-requires g c =
    let entries = g.D.DocSet.entries in
    let items = c.loop-two.docsets.items in
    let inv = c.loop-two.invariant in
    let next = inv.two.next in
    let ends = next-ends (map entries items) in
    let below = c.loop-two-test.true in
    let index = inv.two.index (omega (arith, next, ends, below)) in
    let long = length-map items entries in
    omega (arith, index.0, long)

pub advance_to-requires-clause-small : goal.advance_to-requires-clause-small
advance_to-requires-clause-small g c =
    let next = c.loop-two.invariant.two.next in
    let ends = next-ends (map g.D.DocSet.entries c.loop-two.docsets.items) in
    omega (arith, next, ends)

-- all are cut at the second document
cut : (g : Over) (c : After-two_least-two-in-loop-two g) → map g.D.DocSet.entries (slice_set c.loop-two.docsets.items c.loop-two.two.index c.advance_to.new.docset) ≡ map (from c.loop-two.two.next) (map g.D.DocSet.entries c.loop-two.docsets.items)
cut g c =
    let entries = g.D.DocSet.entries in
    let items = c.loop-two.docsets.items in
    let all = map entries items in
    let two = c.loop-two.two in
    let i = two.index in
    let inv = c.loop-two.invariant in
    let next = inv.two.next in
    let ends = next-ends all in
    let below = c.loop-two-test.true in
    let index = inv.two.index (omega (arith, next, ends, below)) in
    let long = length-map items entries in
    let here : get_or all i [] ≡ entries c.index_mut.result.now = get_or-map entries items i c.index_mut.result.now [] (omega (arith, long, index.0)) ∙ ap entries (sym c.index_mut.ensures.value) in
    let moved : entries c.advance_to.new.docset ≡ from two.next (get_or all i []) = c.advance_to.ensures ∙ ap (from two.next) (sym here) in
    let whole : set all i (from two.next (get_or all i [])) ≡ map (from two.next) all = cut-alone entries g.met.D.DocSet.rising i two.next items index.0 (omega (arith, index.1, below)) (omega (arith, next)) in
    map-set entries items i c.advance_to.new.docset ∙ (ap (set all i) moved ∙ whole)

-- the least document is then at the second or behind it
further : (g : Over) (c : After-two_least-two-in-loop-two g) → c.loop-two.two.next ≤ c.two_least-two-in-loop-two.result.doc
further g c =
    let all = map g.D.DocSet.entries c.loop-two.docsets.items in
    let next = c.loop-two.invariant.two.next in
    let ends = next-ends all in
    let low = least-cut c.loop-two.two.next all (omega (arith, next, ends)) in
    let same = ap least (cut g c) in
    let doc = c.two_least-two-in-loop-two.ensures.doc in
    omega (arith, low, same, doc)

pub loop-two-smaller : goal.loop-two-smaller
loop-two-smaller g c =
    let later = further g (goal.at.loop-two-smaller g c).After-two_least-two-in-loop-two in
    let next = c.loop-two.invariant.two.next in
    let ends = next-ends (map g.D.DocSet.entries c.loop-two.docsets.items) in
    let below = c.loop-two-test.true in
    omega (arith, later, next, ends, below)

pub loop-two-preserved : goal.loop-two-preserved
loop-two-preserved g c =
    let entries = g.D.DocSet.entries in
    let rising = g.met.D.DocSet.rising in
    let old = c.args.docsets.now.items in
    let items = c.loop-two.docsets.items in
    let after = slice_set items c.loop-two.two.index c.advance_to.new.docset in
    let two = c.loop-two.two in
    let then = c.two_least-two-in-loop-two in
    let inv = c.loop-two.invariant in
    let passed = cut g (goal.at.loop-two-preserved g c).After-two_least-two-in-loop-two in
    let later = further g (goal.at.loop-two-preserved g c).After-two_least-two-in-loop-two in
    let moved = cut-further entries rising old items after two.doc two.next then.result.doc inv.moved c.loop-two-test.true later then.ensures.doc passed in
    record {
      two = then.ensures;
      moved = moved;
      few = few-further entries rising old items after two.doc two.next then.result.doc inv.moved inv.few inv.two.next then.ensures.doc moved passed;
    }

-- two at least have the document that is then the least
many : (g : Over) (c : After-loop-two g) → c.loop-two.two.doc < terminated → 2 ≤ length (entries_at c.loop-two.two.doc (map g.D.DocSet.entries c.loop-two.docsets.items))
many g c l =
    let doc = c.loop-two.invariant.two.doc in
    let next = c.loop-two.invariant.two.next in
    let past = c.loop-two-test.false in
    two-have g.D.DocSet.entries g.met.D.DocSet.rising c.loop-two.two.doc c.loop-two.docsets.items l (omega (arith, doc)) (omega (arith, next, past))

pub returns-then-minimum-eq2-clause-count : goal.returns-then-minimum-eq2-clause-count
returns-then-minimum-eq2-clause-count g c =
    let is = c.if-minimum-eq2.true in
    λ l. (let some = many g (goal.at.returns-then-minimum-eq2-clause-count g c).After-loop-two l in omega (arith, is, some))

pub returns-then-minimum-eq2-clause-several : goal.returns-then-minimum-eq2-clause-several
returns-then-minimum-eq2-clause-several g c = λ l. many g (goal.at.returns-then-minimum-eq2-clause-several g c).After-loop-two l

pub returns-else-minimum-eq2-clause-several : goal.returns-else-minimum-eq2-clause-several
returns-else-minimum-eq2-clause-several g c = λ l. many g (goal.at.returns-else-minimum-eq2-clause-several g c).After-loop-two l
