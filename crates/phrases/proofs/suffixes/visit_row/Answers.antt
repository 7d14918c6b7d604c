use Rattle.std.proofs.Common.{[], ap, arith, drop, sym, ◌+◌, ◌∙◌, ◌≡◌}
use Rattle.docsets.specs.Entries.{first, from}
use Rattle.docsets.proofs.EntryLaws.{drop-one}
use Rattle.docsets.proofs.MemberLaws.{entries-cut, entries-kept}
use Rattle.docsets.specs.Members.{entries_of}
use Rattle.phrases.specs.PrefixEntries.{continued_by}
use Rattle.phrases.specs.Rows.{counted_on, places_in}
use Rattle.phrases.proofs.RowLaws.{counted-row, from-later}
use Rattle.phrases.proofs.suffixes.visit_row.Goals as goal

pub returns-then-doc-row-clause-added : goal.returns-then-doc-row-clause-added
returns-then-doc-row-clause-added g c =
    let row = c.args.row.now in
    let es = g.P.DocSet.entries c.args.suffix.now in
    let fs = g.P.DocSet.entries c.step_to.new.suffix in
    ap (λ xs. counted_on (continued_by c.args.moved (places_in c.args.places.now row) xs) row) (sym (entries-kept row.doc row.doc fs (omega arith)) ∙ (ap (entries_of row.doc) c.step_to.ensures.rest ∙ entries-kept row.doc row.doc es (omega arith)))

pub returns-then-doc-row-clause-rest : goal.returns-then-doc-row-clause-rest
returns-then-doc-row-clause-rest g c = from-later c.args.row.now.doc (c.args.row.now.doc + 1) (g.P.DocSet.entries c.args.suffix.now) (g.P.DocSet.entries c.step_to.new.suffix) c.step_to.ensures.rest (omega arith)

pub returns-clause-added : goal.returns-clause-added
returns-clause-added g c =
    let row = c.args.row.now in
    let es = g.P.DocSet.entries c.args.suffix.now in
    let fs = g.P.DocSet.entries c.advance.new.self in
    let same = c.count_suffix-count.ensures.same in
    let at = c.requires.at in
    let ahead = c.requires.ahead in
    let stands : first es ≡ row.doc = omega (arith, at, ahead) in
    let doc : c.args.doc ≡ row.doc = omega (arith, at, stands) in
    let moved_on : fs ≡ from (row.doc + 1) es = c.advance.ensures.rest ∙ (ap (drop 1) same ∙ (drop-one 0 es (g.met.P.DocSet.rising c.args.suffix.now) ∙ ap (λ d. from (d + 1) es) stands)) in
    let none : entries_of row.doc fs ≡ [] = ap (entries_of row.doc) moved_on ∙ entries-cut row.doc (row.doc + 1) es (omega arith) in
    counted-row c.args.moved c.count_suffix-count.result c.args.places.now es fs row none (c.count_suffix-count.ensures.count ∙ ap (λ d. continued_by c.args.moved (places_in c.args.places.now row) (entries_of d es)) doc)
