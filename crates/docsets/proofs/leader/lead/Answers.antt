use Rattle.std.proofs.Common.{[], add-one, ap, arith, drop, get_or, length, map, set, slice_set, sym, take, ◌++◌, ◌+◌, ◌<◌, ◌∙◌, ◌∷◌, ◌≡◌}
use Rattle.std.proofs.lemmas.List.{get_or-map, length-map, map-append, map-set, take_more_set}
use Rattle.definitions.specs.Postings.{terminated}
use Rattle.docsets.specs.Entries.{from}
use Rattle.docsets.proofs.ChangedLists.{changed-get, changed-length, changed-set}
use Rattle.docsets.specs.Members.{entries_at, least}
use Rattle.docsets.proofs.LeaderLaws.{leader-next}
use Rattle.docsets.proofs.leader.lead.Goals as goal

pub loop-i-preserved : goal.loop-i-preserved
loop-i-preserved g c =
    let entries = g.D.DocSet.entries in
    let all = map entries c.args.docsets.now.items in
    let items = c.loop-i.docsets.items in
    let cut = from c.args.target in
    let i = c.loop-i.i in
    let now = c.loop-i.leader in
    let next = c.beside-leader.result in
    let moved = c.move_to.new.docset in
    let inv = c.loop-i.invariant in
    let lists = inv.lists in
    let few = inv.few in
    let long_all = length-map c.args.docsets.now.items entries in
    let inside : i < length all = omega (arith, long_all) in
    let short = ap length lists ∙ changed-length cut i all in
    let long = length-map items entries in
    let within : i < length items = omega (arith, short, long, inside) in
    let untouched : get_or all i [] ≡ entries c.index_mut.result.now = sym (changed-get cut i all [] inside) ∙ (ap (λ xs. get_or xs i []) (sym lists) ∙ (get_or-map entries items i c.index_mut.result.now [] within ∙ ap entries (sym c.index_mut.ensures.value))) in
    let same : map entries (take (i + 1) (slice_set items i moved)) ≡ map entries (take i items) ++ entries moved ∷ [] = ap (map entries) (take_more_set items i moved within) ∙ map-append entries (take i items) (moved ∷ []) in
    let at = c.move_to.ensures.at in
    let beside = c.beside-leader.ensures in
    let leads : (next.doc ≡ least (map entries (take i items) ++ entries moved ∷ [])) × (next.doc < terminated → next.count ≡ length (entries_at next.doc (map entries (take i items) ++ entries moved ∷ []))) =
    leader-next entries g.met.D.DocSet.rising (take i items) moved now.doc now.count next.doc next.count inv.least inv.count
    (λ l. (let new = beside.before (omega (arith, at, l)) in (new.0 ∙ at, new.1)))
    (λ e. (let new = beside.on (at ∙ e) in (new.0 ∙ at, new.1)))
    (λ l. beside.behind (omega (arith, at, l))) in
    record {
      lists = map-set entries items i moved
          ∙ (ap (λ x. set (map entries items) i x) (c.move_to.ensures.rest ∙ ap cut (sym untouched))
          ∙ (ap (λ xs. set xs i (cut (get_or all i []))) lists ∙ (changed-set cut i all [] inside ∙ ap (λ n. map cut (take n all) ++ drop n all) (sym (add-one i)))));
      least = leads.0 ∙ ap least (sym same);
      count = λ l. leads.1 l ∙ ap (λ ess. length (entries_at next.doc ess)) (sym same);
      few = (let more = beside.few in omega (arith, few, more));
    }
