use Rattle.std.proofs.Common.{[], List, ap, arith, get_or, length, map, reverse, subst, sym, take, vec_capacity, ◌+◌, ◌∙◌, ◌≡◌, ◌≤◌, ℕ}
use Rattle.docsets.specs.Entries.{first_positions}
use Rattle.intersections.specs.Meetings.{meeting}
use Rattle.phrases.specs.Costs.{IsGradual, IsTable, cheap, column_costs, nearest_costs}
use Rattle.phrases.specs.PhraseEntries.{longest}
use Rattle.phrases.specs.Places.{Ascends}
use Rattle.phrases.proofs.Columns.{column-ascends, near-all, near-gradual, near-length, near-next, near-table}
use Rattle.phrases.proofs.place_finder.PlaceFinder.find_near.Goals as goal
use Rattle.phrases.specs.PlacesLaws.{length-column}

pub column-requires-in-loop-i-clause-room : goal.column-requires-in-loop-i-clause-room
column-requires-in-loop-i-clause-room g c =
    let columns : List (List ℕ) = first_positions (meeting (map g.S.DocSet.entries c.args.terms.now.docsets.items)) in
    let room = (c.loop-i.invariant.room (longest columns) c.requires.can.room).positions in
    let small = length-column columns c.loop-i.i in
    let same = ap (λ es. length (get_or (first_positions es) c.loop-i.i [])) c.loop-i.invariant.same in
    let goal : length (get_or (first_positions (meeting (map g.S.DocSet.entries c.loop-i.terms.docsets.items))) c.loop-i.i []) ≤ vec_capacity c.loop-i.self.positions = omega (arith, same, small, room) in goal

pub reach-requires-clause-table : goal.reach-requires-clause-table
reach-requires-clause-table g c =
    let columns : List (List ℕ) = first_positions (meeting (map g.S.DocSet.entries c.args.terms.now.docsets.items)) in
    let most : ℕ = c.from-most.result + 1 in
    let begun = c.loop-i.auto.i in
    let count = c.num_columns-i-end.ensures in
    let same = ap (λ es. length (first_positions es)) c.column.ensures.same in
    subst (IsTable most 0) (sym (c.deref-in-loop-i.ensures.value ∙ c.loop-i.invariant.costs)) (near-table most columns c.loop-i.i c.requires.can.columns (omega (arith, begun)) (omega (arith, count, same, c.loop-i-test.true)))

pub reach-requires-clause-gradual : goal.reach-requires-clause-gradual
reach-requires-clause-gradual g c =
    let columns : List (List ℕ) = first_positions (meeting (map g.S.DocSet.entries c.args.terms.now.docsets.items)) in
    let most : ℕ = c.from-most.result + 1 in
    let begun = c.loop-i.auto.i in
    let count = c.num_columns-i-end.ensures in
    let same = ap (λ es. length (first_positions es)) c.column.ensures.same in
    subst IsGradual (sym (c.deref-in-loop-i.ensures.value ∙ c.loop-i.invariant.costs)) (near-gradual most columns c.loop-i.i (omega (arith, begun)) (omega (arith, count, same, c.loop-i-test.true)))

pub reach-requires-clause-ascends : goal.reach-requires-clause-ascends
reach-requires-clause-ascends g c =
    let columns : List (List ℕ) = first_positions (meeting (map g.S.DocSet.entries c.args.terms.now.docsets.items)) in
    let count = c.num_columns-i-end.ensures in
    let same = ap (λ es. length (first_positions es)) c.column.ensures.same in
    let column = c.deref-in-loop-i-2.ensures.value ∙ (c.column-in-loop-i.ensures.items ∙ ap (λ es. get_or (first_positions es) c.loop-i.i []) c.loop-i.invariant.same) in
    subst (Ascends 0) (sym column) (column-ascends columns c.loop-i.i c.requires.can.columns (omega (arith, count, same, c.loop-i-test.true)))

pub reach-requires-clause-room : goal.reach-requires-clause-room
reach-requires-clause-room g c =
    let columns : List (List ℕ) = first_positions (meeting (map g.S.DocSet.entries c.args.terms.now.docsets.items)) in
    let slop = c.loop-i.invariant.slop in
    let some = c.requires.some_slop in
    let room = (c.loop-i.invariant.room (longest columns) c.requires.can.room).further_costs (omega (arith, slop, some)) in
    let small = length-column columns c.loop-i.i in
    let column = ap length (c.deref-in-loop-i-2.ensures.value ∙ (c.column-in-loop-i.ensures.items ∙ ap (λ es. get_or (first_positions es) c.loop-i.i []) c.loop-i.invariant.same)) in
    let goal : length c.deref-in-loop-i-2.result.now ≤ vec_capacity c.loop-i.self.further_costs = omega (arith, column, small, room) in goal

pub loop-i-preserved : goal.loop-i-preserved
loop-i-preserved g c =
    let columns : List (List ℕ) = first_positions (meeting (map g.S.DocSet.entries c.args.terms.now.docsets.items)) in
    let most : ℕ = c.from-most.result + 1 in
    let inv = c.loop-i.invariant in
    let i = c.loop-i.i in
    let count = c.num_columns-i-end.ensures in
    let same = ap (λ es. length (first_positions es)) c.column.ensures.same in
    let begun = c.loop-i.auto.i in
    let column = c.deref-in-loop-i-2.ensures.value ∙ (c.column-in-loop-i.ensures.items ∙ ap (λ es. get_or (first_positions es) i []) inv.same) in
    let table = c.deref-in-loop-i.ensures.value ∙ inv.costs in
    let positions = c.column-in-loop-i.ensures.room in
    record {
      same = c.column-in-loop-i.ensures.same ∙ inv.same;
      slop = inv.slop;
      costs = ap (λ v. v.items) c.swap.ensures.x_after ∙ (c.reach.ensures.items ∙ (ap (λ t. nearest_costs most t c.deref-in-loop-i-2.result.now) table ∙ (ap (nearest_costs most (column_costs most (reverse (take i columns)))) column ∙ near-next most columns i (omega (arith, begun)) (omega (arith, count, same, c.loop-i-test.true)))));
      room = λ n h. (let was = inv.room n h in let in_positions = was.positions in record {
        places = was.places;
        positions = omega (arith, positions, in_positions);
        costs = λ some. (let room = was.further_costs some in let swapped = ap vec_capacity c.swap.ensures.x_after in let reached = c.reach.ensures.room in omega (arith, room, swapped, reached));
        further_costs = λ some. (let room = was.costs some in let swapped = ap vec_capacity c.swap.ensures.y_after in omega (arith, room, swapped));
      });
    }

pub copy_cheap-requires : goal.copy_cheap-requires
copy_cheap-requires g c =
    let columns : List (List ℕ) = first_positions (meeting (map g.S.DocSet.entries c.args.terms.now.docsets.items)) in
    let most : ℕ = c.from-most.result + 1 in
    let count = c.num_columns-i-end.ensures in
    let same = ap (λ es. length (first_positions es)) c.column.ensures.same in
    let begun = c.loop-i.auto.i in
    let some = c.requires.can.has_terms in
    let end = c.loop-i.auto.i-end in
    let long = near-length most columns c.loop-i.i (omega (arith, begun)) (omega (arith, count, same, some, end)) in
    let is = ap length (c.deref-2.ensures.value ∙ c.loop-i.invariant.costs) in
    let room = (c.loop-i.invariant.room (longest columns) c.requires.can.room).places in
    record { room = (let goal : length c.deref-2.result.now ≤ vec_capacity c.loop-i.self.places = omega (arith, long, is, room) in goal) }

pub returns : goal.returns
returns g c =
    let columns : List (List ℕ) = first_positions (meeting (map g.S.DocSet.entries c.args.terms.now.docsets.items)) in
    let most : ℕ = c.from-most.result + 1 in
    let slop : ℕ = c.args.self.now.slop in
    let count = c.num_columns-i-end.ensures in
    let same = ap (λ es. length (first_positions es)) c.column.ensures.same in
    let some = c.requires.can.has_terms in
    let end = c.loop-i.auto.i-end in
    let read : c.from-most.result ≡ slop = c.from-most.ensures in
    record {
      same = c.loop-i.invariant.same;
      slop = c.loop-i.invariant.slop;
      places = c.copy_cheap.ensures.items ∙ (ap (λ s. cheap s 0 c.deref-2.result.now) (c.from.ensures ∙ c.loop-i.invariant.slop) ∙ (ap (cheap slop 0) (c.deref-2.ensures.value ∙ c.loop-i.invariant.costs) ∙ near-all most slop columns c.loop-i.i c.requires.can.columns (omega (arith, read)) (omega (arith, count, same, end, some, c.loop-i-test.false))));
      room = λ n h. (let was = c.loop-i.invariant.room n h in let in_places = was.places in let places = c.copy_cheap.ensures.room in record {
        places = omega (arith, places, in_places);
        positions = was.positions;
        costs = was.costs;
        further_costs = was.further_costs;
      });
    }
