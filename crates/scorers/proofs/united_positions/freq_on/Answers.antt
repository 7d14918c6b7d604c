use Rattle.std.proofs.Common.{ap, arith, sum, sym, ◌∙◌, ◌≢◌}
use Rattle.docsets.specs.Entries.{first}
use Rattle.docsets.proofs.MemberLaws.{entries-off}
use Rattle.scorers.specs.Uniting.{counts_in}
use Rattle.scorers.proofs.UnitingLaws.{counts-on}
use Rattle.scorers.proofs.united_positions.freq_on.Goals as goal

pub returns-then-doc : goal.returns-then-doc
returns-then-doc g c =
    let es = g.P.DocSet.entries c.args.docset.now in
    let at = c.doc.ensures in
    c.term_freq.ensures ∙ sym (counts-on c.args.doc es (g.met.P.DocSet.rising c.args.docset.now) (omega (arith, at)) c.requires.on)

pub returns : goal.returns
returns g c =
    let es = g.P.DocSet.entries c.args.docset.now in
    let at = c.doc.ensures in
    let isnt = c.if-doc.false in
    let apart : first es ≢ c.args.doc = λ e. isnt (omega (arith, at, e)) in
    sym (ap (λ xs. sum (counts_in xs)) (entries-off c.args.doc es (g.met.P.DocSet.rising c.args.docset.now) c.requires.leads apart))
