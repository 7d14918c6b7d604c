use Rattle.std.proofs.Common.{[], List, ap, arith, length, map, slice_set, take, ◌++◌, ◌+◌, ◌∙◌, ◌∷◌, ◌≡◌}
use Rattle.std.proofs.lemmas.List.{map-append, take_more_set}
use Rattle.docsets.specs.Entries.{Entry}
use Rattle.intersections.proofs.MeetingLaws.{Passes-on, kept-passes, kept-within, one-passes, set-kept}
use Rattle.docsets.proofs.LeaderLaws.{count-last, least-last, one-on}
use Rattle.docsets.specs.Members.{entries_at, least}
use Rattle.intersections.proofs.leapfrog.meet.Goals as goal

pub returns-then-candidate-bound-clause-passes : goal.returns-then-candidate-bound-clause-passes
returns-then-candidate-bound-clause-passes g c =
    let entries = g.D.DocSet.entries in
    let candidate = c.args.candidate in
    let items = c.loop-i.docsets.items in
    let all = map entries c.args.docsets.now.items in
    let reached = c.reach-bound in
    let i = c.loop-i.i in
    let on = c.requires in
    let inside = kept-within entries candidate i items c.args.docsets.now.items c.loop-i.invariant.kept (omega arith) in
    Passes-on candidate candidate reached.result all (map entries items) (map entries (slice_set items i reached.new.docset))
    (kept-passes candidate all (map entries items) (omega (arith, on)) c.loop-i.invariant.kept)
    (one-passes entries g.met.D.DocSet.rising candidate reached.result i items c.index_mut.result.now reached.new.docset inside c.index_mut.ensures.value reached.ensures.kept (omega (arith, on)) reached.ensures.up reached.ensures.before_next)

pub loop-i-preserved : goal.loop-i-preserved
loop-i-preserved g c =
    let entries = g.D.DocSet.entries in
    let candidate = c.args.candidate in
    let items = c.loop-i.docsets.items in
    let i = c.loop-i.i in
    let new = c.reach-bound.new.docset in
    let inside = kept-within entries candidate i items c.args.docsets.now.items c.loop-i.invariant.kept (omega arith) in
    let inv = c.loop-i.invariant in
    let leads = inv.leads in
    let count = inv.count in
    let up = c.reach-bound.ensures.up in
    let first_is = c.reach-bound.ensures.found (omega (arith, up)) in
    let so_far : List (List Entry) = map entries (take i items) in
    let same : map entries (take (i + 1) (slice_set items i new)) ≡ so_far ++ entries new ∷ [] = ap (map entries) (take_more_set items i new inside) ∙ map-append entries (take i items) (new ∷ []) in
    let low = ap least same ∙ least-last so_far (entries new) in
    let both = ap (λ ess. length (entries_at candidate ess)) same ∙ count-last candidate so_far (entries new) in
    let one = one-on candidate (entries new) (g.met.D.DocSet.rising new) first_is c.requires in
    record {
      kept = set-kept entries candidate i items c.index_mut.result.now new inside c.index_mut.ensures.value c.reach-bound.ensures.kept ∙ inv.kept;
      leads = omega (arith, low, leads, first_is);
      count = omega (arith, both, count, one);
    }
