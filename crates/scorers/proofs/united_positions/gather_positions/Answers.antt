use Rattle.std.proofs.Common.{[], ap, append-nil, append_assoc, arith, drop, get_or, length, map, sym, ◌++◌, ◌+◌, ◌<◌, ◌∙◌, ◌∷◌, ◌≡◌}
use Rattle.std.proofs.Math.Seq.{map-set_same}
use Rattle.std.proofs.lemmas.List.{drop_all, drop_more, get_or-map, length-append, length-map, map-append}
use Rattle.docsets.specs.Entries.{first, highest}
use Rattle.docsets.proofs.MemberLaws.{least-get}
use Rattle.docsets.specs.Members.{entries_at, entries_of}
use Rattle.scorers.specs.Uniting.{most_sum, positions_in}
use Rattle.scorers.proofs.UnitingLaws.{few-positions}
use Rattle.scorers.specs.UnitingLaws.{highest-append, positions-append}
use Rattle.scorers.proofs.united_positions.gather_positions.Given.{Over}
use Rattle.scorers.proofs.united_positions.gather_positions.Goals.{After-index_mut}
use Rattle.scorers.proofs.united_positions.gather_positions.Goals as goal

within : (g : Over) (c : After-index_mut g) → c.loop-i.i < length c.loop-i.docsets.items
within g c =
    let entries = g.P.DocSet.entries in
    let same = ap length c.loop-i.invariant.same in
    let long = length-map c.loop-i.docsets.items entries in
    let long_all = length-map c.args.docsets.now.items entries in
    omega (arith, same, long, long_all)

here : (g : Over) (c : After-index_mut g) → get_or (map g.P.DocSet.entries c.args.docsets.now.items) c.loop-i.i [] ≡ g.P.DocSet.entries c.index_mut.result.now
here g c =
    let entries = g.P.DocSet.entries in
    ap (λ ess. get_or ess c.loop-i.i []) (sym c.loop-i.invariant.same) ∙ (get_or-map entries c.loop-i.docsets.items c.loop-i.i c.index_mut.result.now [] (within g c) ∙ ap entries (sym c.index_mut.ensures.value))

next : (g : Over) (c : After-index_mut g) → drop c.loop-i.i (map g.P.DocSet.entries c.args.docsets.now.items) ≡ g.P.DocSet.entries c.index_mut.result.now ∷ drop (c.loop-i.i + 1) (map g.P.DocSet.entries c.args.docsets.now.items)
next g c =
    let all = map g.P.DocSet.entries c.args.docsets.now.items in
    let long = length-map c.args.docsets.now.items g.P.DocSet.entries in
    drop_more all c.loop-i.i [] (omega (arith, long)) ∙ ap (λ es. es ∷ drop (c.loop-i.i + 1) all) (here g c)

-- the positions of those to come
more : (g : Over) (c : After-index_mut g) → positions_in (entries_at c.args.doc (drop c.loop-i.i (map g.P.DocSet.entries c.args.docsets.now.items))) ≡ positions_in (entries_of c.args.doc (g.P.DocSet.entries c.index_mut.result.now)) ++ positions_in (entries_at c.args.doc (drop (c.loop-i.i + 1) (map g.P.DocSet.entries c.args.docsets.now.items)))
more g c =
    let all = map g.P.DocSet.entries c.args.docsets.now.items in
    ap (λ ess. positions_in (entries_at c.args.doc ess)) (next g c) ∙ positions-append (entries_of c.args.doc (g.P.DocSet.entries c.index_mut.result.now)) (entries_at c.args.doc (drop (c.loop-i.i + 1) all))

pub take_positions-requires-clause-leads : goal.take_positions-requires-clause-leads
take_positions-requires-clause-leads g c =
    let all = map g.P.DocSet.entries c.args.docsets.now.items in
    let long = length-map c.args.docsets.now.items g.P.DocSet.entries in
    let low = least-get all c.loop-i.i [] (omega (arith, long)) in
    let same = ap first (here g (goal.at.take_positions-requires-clause-leads g c).After-index_mut) in
    let leads = c.requires.leads in
    omega (arith, low, same, leads)

pub take_positions-requires-clause-fits : goal.take_positions-requires-clause-fits
take_positions-requires-clause-fits g c =
    let all = map g.P.DocSet.entries c.args.docsets.now.items in
    let parts = ap highest (more g (goal.at.take_positions-requires-clause-fits g c).After-index_mut) in
    let both = highest-append (positions_in (entries_of c.args.doc (g.P.DocSet.entries c.index_mut.result.now))) (positions_in (entries_at c.args.doc (drop (c.loop-i.i + 1) all))) in
    let high = c.loop-i.invariant.high in
    let fits = c.requires.fits in
    omega (arith, parts, both, high, fits)

pub take_positions-requires-clause-room : goal.take_positions-requires-clause-room
take_positions-requires-clause-room g c =
    let few = few-positions c.args.doc 0 (g.P.DocSet.entries c.index_mut.result.now) (g.met.P.DocSet.rising c.index_mut.result.now) in
    let parts = ap most_sum (next g (goal.at.take_positions-requires-clause-room g c).After-index_mut) in
    let left = c.loop-i.invariant.few in
    let kept = c.loop-i.invariant.one in
    let room = c.requires.room in
    omega (arith, few, parts, left, kept, room)

pub take_positions-requires-clause-room_for_all : goal.take_positions-requires-clause-room_for_all
take_positions-requires-clause-room_for_all g c =
    let few = few-positions c.args.doc 0 (g.P.DocSet.entries c.index_mut.result.now) (g.met.P.DocSet.rising c.index_mut.result.now) in
    let parts = ap most_sum (next g (goal.at.take_positions-requires-clause-room_for_all g c).After-index_mut) in
    let left = c.loop-i.invariant.few in
    let kept = c.loop-i.invariant.all in
    let room = c.requires.room_for_all in
    omega (arith, few, parts, left, kept, room)

pub loop-i-preserved : goal.loop-i-preserved
loop-i-preserved g c =
    let entries = g.P.DocSet.entries in
    let all = map entries c.args.docsets.now.items in
    let now = positions_in (entries_of c.args.doc (entries c.index_mut.result.now)) in
    let rest = positions_in (entries_at c.args.doc (drop (c.loop-i.i + 1) all)) in
    let at = (goal.at.loop-i-preserved g c).After-index_mut in
    let inv = c.loop-i.invariant in
    record {
      same = map-set_same entries c.loop-i.docsets.items c.loop-i.i c.take_positions.new.docset c.index_mut.result.now (c.take_positions.ensures.same ∙ ap entries c.index_mut.ensures.value) ∙ inv.same;
      taken = ap (λ xs. xs ++ map (λ p. p + c.args.offset) rest) c.take_positions.ensures.taken
          ∙ (append_assoc c.loop-i.all.items (map (λ p. p + c.args.offset) now) (map (λ p. p + c.args.offset) rest)
          ∙ (ap (λ xs. c.loop-i.all.items ++ xs) (sym (map-append (λ p. p + c.args.offset) now rest) ∙ ap (map (λ p. p + c.args.offset)) (sym (more g at))) ∙ inv.taken));
      high = (let parts = ap highest (more g at) in let both = highest-append now rest in let high = inv.high in omega (arith, parts, both, high));
      few = (let long = ap length c.take_positions.ensures.taken in
          let both = length-append c.loop-i.all.items (map (λ p. p + c.args.offset) now) in
          let same = length-map now (λ p. p + c.args.offset) in
          let less = few-positions c.args.doc 0 (entries c.index_mut.result.now) (g.met.P.DocSet.rising c.index_mut.result.now) in
          let parts = ap most_sum (next g at) in
          let left = inv.few in
          omega (arith, long, both, same, less, parts, left));
      one = (let kept = inv.one in let more_room = c.take_positions.ensures.one_kept in omega (arith, kept, more_room));
      all = (let kept = inv.all in let more_room = c.take_positions.ensures.all_kept in omega (arith, kept, more_room));
    }

pub returns-clause-taken : goal.returns-clause-taken
returns-clause-taken g c =
    let all = map g.P.DocSet.entries c.args.docsets.now.items in
    let long = length-map c.args.docsets.now.items g.P.DocSet.entries in
    let none = drop_all c.loop-i.i all (omega (arith, long)) in
    sym (append-nil c.loop-i.all.items) ∙ (ap (λ ess. c.loop-i.all.items ++ map (λ p. p + c.args.offset) (positions_in (entries_at c.args.doc ess))) (sym none) ∙ c.loop-i.invariant.taken)
