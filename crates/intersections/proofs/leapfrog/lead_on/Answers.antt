use Rattle.std.proofs.Common.{[], ap, arith, get_or, map, sym, ◌∙◌}
use Rattle.std.proofs.lemmas.List.{get_or-set_same, length-map, map-set}
use Rattle.docsets.specs.Entries.{first, from}
use Rattle.docsets.proofs.EntryLaws.{first-from, from-from}
use Rattle.intersections.proofs.MeetingLaws.{one-passes}
use Rattle.intersections.proofs.leapfrog.lead_on.Goals as goal

pub returns-clause-passes : goal.returns-clause-passes
returns-clause-passes g c =
    let entries = g.D.DocSet.entries in
    let before = c.index_mut.result.now in
    let target = c.args.target in
    let at = c.move_to.ensures.at in
    let is = ap first c.move_to.ensures.rest in
    let low = first-from target (entries before) c.requires.small in
    one-passes entries g.met.D.DocSet.rising target c.move_to.result c.args.lead c.args.docsets.now.items before c.move_to.new.docset c.requires.within c.index_mut.ensures.value
    (ap (from target) c.move_to.ensures.rest ∙ from-from target target (entries before) (omega arith))
    c.requires.small (omega (arith, at, is, low)) (omega (arith, at, is))

pub returns-clause-stands : goal.returns-clause-stands
returns-clause-stands g c =
    let entries = g.D.DocSet.entries in
    let items = c.args.docsets.now.items in
    let long = length-map items entries in
    let within = c.requires.within in
    c.move_to.ensures.at ∙ sym (ap first (ap (λ ess. get_or ess c.args.lead []) (map-set entries items c.args.lead c.move_to.new.docset) ∙ get_or-set_same (map entries items) c.args.lead (entries c.move_to.new.docset) [] (omega (arith, long, within))))
