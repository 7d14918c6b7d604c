use Rattle.std.proofs.Common.{[], ap, arith, get_or, map, sym, ◌+◌, ◌≡◌, ◌∙◌}
use Rattle.std.proofs.lemmas.Bool.Decides.{nat_tests}
use Rattle.std.proofs.lemmas.List.{get_or-set_same, length-map, map-set}
use Rattle.docsets.specs.Entries.{first}
use Rattle.intersections.proofs.ThresholdLaws.{lead_low}
use Rattle.intersections.proofs.leapfrog_above.lead_above.Goals as goal

pub returns-clause-passes : goal.returns-clause-passes
returns-clause-passes g c =
    let moved = c.move_above in
    let len = c.len.ensures in
    lead_low g.S.DocSet.entries g.met.S.DocSet.rising g.met.S.Positioned.one_column _ _ c.args.target moved.result c.args.lead _ c.args.docsets.now.items c.index_mut.result.now moved.new.cursor c.requires.within c.index_mut.ensures.value (λ e. (let same : c.args.lead + 1 ≡ c.len.result = grind (arith, nat_tests, e) in omega (arith, same, len))) moved.ensures.rest moved.ensures.up moved.ensures.small moved.ensures.low

pub returns-clause-stands : goal.returns-clause-stands
returns-clause-stands g c =
    let entries = g.S.DocSet.entries in
    let items = c.args.docsets.now.items in
    let long = length-map items entries in
    let within = c.requires.within in
    c.move_above.ensures.at ∙ sym (ap first (ap (λ ess. get_or ess c.args.lead []) (map-set entries items c.args.lead c.move_above.new.cursor) ∙ get_or-set_same (map entries items) c.args.lead (entries c.move_above.new.cursor) [] (omega (arith, long, within))))
