use Rattle.std.proofs.Common.{[], ap, arith, map, sym, ◌∙◌}
use Rattle.std.proofs.lemmas.List.{at_drop_more, drop_all, get_or-map, length-map}
use Rattle.docsets.specs.Entries.{first}
use Rattle.docsets.specs.Members.{least}
use Rattle.docsets.proofs.MemberLaws.{least-small}
use Rattle.docsets.proofs.moves.least_of.Goals as goal

pub loop-i-init : goal.loop-i-init
loop-i-init g c = let small = least-small g.D.DocSet.entries g.met.D.DocSet.rising c.args.docsets.now.items in record { least = omega (arith, small); small = omega arith }

pub loop-i-preserved : goal.loop-i-preserved
loop-i-preserved g c =
    let entries = g.D.DocSet.entries in
    let items = c.args.docsets.now.items in
    let all = map entries items in
    let inv = c.loop-i.invariant in
    let so_far = inv.least in
    let small = inv.small in
    let long = length-map items entries in
    let next = at_drop_more least all c.loop-i.i [] (omega (arith, long)) in
    let here = ap first (get_or-map entries items c.loop-i.i c.index.result.now [] (omega arith) ∙ ap entries (sym c.index.ensures)) in
    let doc = c.doc.ensures in
    let least_now = c.min-doc.ensures in
    record { least = omega (arith, so_far, next, here, doc, least_now); small = omega (arith, least_now, small) }

pub returns : goal.returns
returns g c =
    let entries = g.D.DocSet.entries in
    let all = map entries c.args.docsets.now.items in
    let so_far = c.loop-i.invariant.least in
    let small = c.loop-i.invariant.small in
    let long = length-map c.args.docsets.now.items entries in
    let none = ap least (drop_all c.loop-i.i all (omega (arith, long))) in
    omega (arith, so_far, small, none)
