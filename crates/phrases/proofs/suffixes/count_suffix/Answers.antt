use Rattle.std.proofs.Common.{ap, arith, subst, sym, ◌∙◌, ◌≡◌}
use Rattle.docsets.specs.Entries.{first}
use Rattle.docsets.proofs.MemberLaws.{entries-off, entries-on}
use Rattle.phrases.specs.Places.{Ascends}
use Rattle.phrases.specs.PrefixEntries.{continued, continued_by}
use Rattle.phrases.proofs.Counts.{continued-few}
use Rattle.phrases.proofs.SuffixCounts.{continued-one, single-ascends}
use Rattle.phrases.proofs.suffixes.count_suffix.Goals as goal

pub returns-then-doc-clause-count : goal.returns-then-doc-clause-count
returns-then-doc-clause-count g c =
    let es = g.P.DocSet.entries c.args.suffix.now in
    sym (ap (continued_by c.args.moved c.args.places.now) (entries-off c.args.doc es (g.met.P.DocSet.rising c.args.suffix.now) c.requires.leads (λ e. c.if-doc.true (c.doc.ensures ∙ e))))

pub count_continued-requires-clause-positions : goal.count_continued-requires-clause-positions
count_continued-requires-clause-positions g c =
    let es = g.P.DocSet.entries c.args.suffix.now in
    let at : first es ≡ c.args.doc = sym c.doc.ensures ∙ c.if-doc.false in
    let on = c.requires.on in
    subst (Ascends 0) (sym (c.deref.ensures.value ∙ c.read_positions.ensures.items)) (single-ascends es (g.met.P.Postings.of_one_term c.args.suffix.now) (omega (arith, at, on)))

pub returns-clause-count : goal.returns-clause-count
returns-clause-count g c =
    let es = g.P.DocSet.entries c.args.suffix.now in
    let at : first es ≡ c.args.doc = sym c.doc.ensures ∙ c.if-doc.false in
    let on = c.requires.on in
    c.count_continued.ensures
    ∙ (ap (continued c.args.moved c.args.places.now) (c.deref.ensures.value ∙ c.read_positions.ensures.items)
    ∙ sym (ap (continued_by c.args.moved c.args.places.now) (entries-on c.args.doc es (g.met.P.DocSet.rising c.args.suffix.now) at on) ∙ continued-one c.args.moved c.args.places.now es (omega (arith, at, on))))

pub returns-clause-few : goal.returns-clause-few
returns-clause-few g c = (let few = continued-few c.args.moved c.args.places.now c.deref.result.now in let is = c.count_continued.ensures in omega (arith, few, is))
