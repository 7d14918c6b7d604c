use Rattle.std.proofs.Common.{[], List, add-one, ap, arith, drop, get_or, length, map, set, subst, sym, take, ◌++◌, ◌+◌, ◌<◌, ◌∙◌, ◌∷◌, ◌≡◌}
use Rattle.std.proofs.lemmas.List.{drop_all, drop_more, get_or-map, length-map, map-set}
use Rattle.docsets.specs.Entries.{Entry, from, most_positions}
use Rattle.docsets.proofs.ChangedLists.{changed-all, changed-get, changed-length, changed-set}
use Rattle.phrases.specs.Places.{Rises}
use Rattle.phrases.specs.Rows.{AreRows, added, docs_of, end_of, most_count}
use Rattle.phrases.proofs.RowLaws.{added-more, added-nil, docs-added, most-added, rows-added}
use Rattle.phrases.proofs.SuffixCounts.{most-get}
use Rattle.phrases.proofs.suffixes.add_suffixes.Given.{Over}
use Rattle.phrases.proofs.suffixes.add_suffixes.Goals.{After-index_mut}
use Rattle.phrases.proofs.suffixes.add_suffixes.Goals as goal

-- the suffix that comes next is where it was
within : (g : Over) (c : After-index_mut g) → c.loop-i.i < length (map g.P.DocSet.entries c.args.suffixes.now.items)
within g c = let long = length-map c.args.suffixes.now.items g.P.DocSet.entries in omega (arith, long)

untouched : (g : Over) (c : After-index_mut g) → get_or (map g.P.DocSet.entries c.args.suffixes.now.items) c.loop-i.i [] ≡ g.P.DocSet.entries c.index_mut.result.now
untouched g c =
    let entries = g.P.DocSet.entries in
    let all = map entries c.args.suffixes.now.items in
    let cut = from (end_of (docs_of c.args.rows.now.items)) in
    let i = c.loop-i.i in
    let lists = c.loop-i.invariant.lists in
    let short = ap length lists ∙ changed-length cut i all in
    let long = length-map c.loop-i.suffixes.items entries in
    let inside = within g c in
    sym (changed-get cut i all [] inside) ∙ (ap (λ xs. get_or xs i []) (sym lists) ∙ (get_or-map entries c.loop-i.suffixes.items i c.index_mut.result.now [] (omega (arith, short, long, inside)) ∙ ap entries (sym c.index_mut.ensures.value)))

pub add_suffix-requires-clause-rises : goal.add_suffix-requires-clause-rises
add_suffix-requires-clause-rises g c = subst (Rises 0) (sym c.loop-i.invariant.docs) c.requires.rises

pub add_suffix-requires-clause-room : goal.add_suffix-requires-clause-room
add_suffix-requires-clause-room g c =
    let after = (goal.at.add_suffix-requires-clause-room g c).After-index_mut in
    let most = most-get (map g.P.DocSet.entries c.args.suffixes.now.items) c.loop-i.i (within g after) in
    let same = ap most_positions (untouched g after) in
    let room = c.requires.room in
    let grown = c.loop-i.invariant.room in
    omega (arith, most, same, room, grown)

pub loop-i-preserved : goal.loop-i-preserved
loop-i-preserved g c =
    let after = (goal.at.loop-i-preserved g c).After-index_mut in
    let entries = g.P.DocSet.entries in
    let moved = c.args.moved in
    let places = c.args.places.now in
    let all : List (List Entry) = map entries c.args.suffixes.now.items in
    let cut = from (end_of (docs_of c.args.rows.now.items)) in
    let i = c.loop-i.i in
    let inv = c.loop-i.invariant in
    let items = c.loop-i.rows.items in
    let es = entries c.index_mut.result.now in
    let rises = g.met.P.DocSet.rising c.index_mut.result.now in
    let a = c.add_suffix.ensures in
    let next = a.added in
    let most = most-added moved places es items inv.rows rises in
    let counts = ap most_count next in
    let few = inv.few in
    let room = inv.room in
    let grown = a.room in
    record {
      lists = map-set entries c.loop-i.suffixes.items i c.add_suffix.new.suffix
          ∙ (ap (λ x. set (map entries c.loop-i.suffixes.items) i x) (a.rest ∙ (ap (λ ds. from (end_of ds) es) inv.docs ∙ ap cut (sym (untouched g after))))
          ∙ (ap (λ xs. set xs i (cut (get_or all i []))) inv.lists ∙ (changed-set cut i all [] (within g after) ∙ ap (λ n. map cut (take n all) ++ drop n all) (sym (add-one i)))));
      added = ap (map (added moved places (drop (i + 1) all))) next
          ∙ (added-more moved places es (drop (i + 1) all) items
          ∙ (ap (λ ess. map (added moved places ess) items) (sym (drop_more all i [] (within g after) ∙ ap (λ xs. xs ∷ drop (i + 1) all) (untouched g after))) ∙ inv.added));
      docs = ap docs_of next ∙ (docs-added moved places es items ∙ inv.docs);
      rows = subst (AreRows places) (sym next) (rows-added moved places es items inv.rows);
      few = omega (arith, most, counts, few);
      room = omega (arith, room, grown);
      rows_room = a.rows_room ∙ inv.rows_room;
    }

pub returns-clause-added : goal.returns-clause-added
returns-clause-added g c =
    let all : List (List Entry) = map g.P.DocSet.entries c.args.suffixes.now.items in
    let long = length-map c.args.suffixes.now.items g.P.DocSet.entries in
    let items = c.loop-i.rows.items in
    sym (ap (λ ess. map (added c.args.moved c.args.places.now ess) items) (drop_all c.loop-i.i all (omega (arith, long))) ∙ added-nil c.args.moved c.args.places.now items)
    ∙ c.loop-i.invariant.added

pub returns-clause-rest : goal.returns-clause-rest
returns-clause-rest g c =
    let all = map g.P.DocSet.entries c.args.suffixes.now.items in
    let long = length-map c.args.suffixes.now.items g.P.DocSet.entries in
    c.loop-i.invariant.lists ∙ changed-all (from (end_of (docs_of c.args.rows.now.items))) c.loop-i.i all (omega (arith, long))
