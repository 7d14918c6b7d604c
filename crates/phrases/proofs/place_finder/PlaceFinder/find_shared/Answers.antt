use Rattle.std.proofs.Common.{[], List, ap, arith, filter, get_or, length, map, refl, rules, subst, sym, vec_capacity, vec_len, ◌+◌, ◌-◌, ◌∙◌, ◌≡◌, ◌≤◌, ℕ}
use Rattle.std.proofs.lemmas.Bool.Decides.{nat_tests}
use Rattle.std.proofs.lemmas.List.{nil_from_length}
use Rattle.docsets.specs.Entries.{first_positions}
use Rattle.intersections.specs.Meetings.{meeting}
use Rattle.phrases.specs.PhraseEntries.{longest}
use Rattle.phrases.proofs.MergeLaws.{Ascends-filter, distinct-filter}
use Rattle.phrases.specs.Places.{Ascends, distinct, has, places_of}
use Rattle.phrases.proofs.Columns.{column-ascends, shared-all, shared-first, shared-next, shared-none}
use Rattle.phrases.proofs.place_finder.PlaceFinder.find_shared.Goals as goal
use Rattle.phrases.specs.PlacesLaws.{length-column}

pub loop-i-init : goal.loop-i-init
loop-i-init g c =
    let columns : List (List ℕ) = first_positions (meeting (map g.S.DocSet.entries c.args.terms.now.docsets.items)) in
    let room = c.column.ensures.room in
    record {
      same = c.column.ensures.same;
      slop = refl;
      ascends = subst (Ascends 0) (sym c.column.ensures.items) (column-ascends columns 0 c.requires.can.columns c.requires.can.has_terms);
      places = ap (distinct 0) c.column.ensures.items ∙ shared-first columns c.requires.can.has_terms;
      room = λ n h. (let in_places = h.places in record {
        places = omega (arith, room, in_places);
        positions = h.positions;
        costs = h.costs;
        further_costs = h.further_costs;
      });
    }

pub column-requires-in-loop-i-clause-room : goal.column-requires-in-loop-i-clause-room
column-requires-in-loop-i-clause-room g c =
    let columns : List (List ℕ) = first_positions (meeting (map g.S.DocSet.entries c.args.terms.now.docsets.items)) in
    let room = (c.loop-i.invariant.room (longest columns) c.requires.can.room).positions in
    let small = length-column columns c.loop-i.i in
    let same = ap (λ es. length (get_or (first_positions es) c.loop-i.i [])) c.loop-i.invariant.same in
    let goal : length (get_or (first_positions (meeting (map g.S.DocSet.entries c.loop-i.terms.docsets.items))) c.loop-i.i []) ≤ vec_capacity c.loop-i.self.positions = omega (arith, same, small, room) in goal

pub keep_shared-requires-clause-left : goal.keep_shared-requires-clause-left
keep_shared-requires-clause-left g c = c.loop-i.invariant.ascends

pub keep_shared-requires-clause-right : goal.keep_shared-requires-clause-right
keep_shared-requires-clause-right g c =
    let columns : List (List ℕ) = first_positions (meeting (map g.S.DocSet.entries c.args.terms.now.docsets.items)) in
    let count = c.num_columns-i-end.ensures in
    let same = ap (λ es. length (first_positions es)) c.column.ensures.same in
    let column = c.deref.ensures.value ∙ (c.column-in-loop-i.ensures.items ∙ ap (λ es. get_or (first_positions es) c.loop-i.i []) c.loop-i.invariant.same) in
    subst (Ascends 0) (sym column) (column-ascends columns c.loop-i.i c.requires.can.columns (omega (arith, count, same, c.loop-i-test.true)))

pub loop-i-preserved : goal.loop-i-preserved
loop-i-preserved g c =
    let columns : List (List ℕ) = first_positions (meeting (map g.S.DocSet.entries c.args.terms.now.docsets.items)) in
    let inv = c.loop-i.invariant in
    let i = c.loop-i.i in
    let count = c.num_columns-i-end.ensures in
    let same = ap (λ es. length (first_positions es)) c.column.ensures.same in
    let begun = c.loop-i.auto.i in
    let column = c.deref.ensures.value ∙ (c.column-in-loop-i.ensures.items ∙ ap (λ es. get_or (first_positions es) i []) inv.same) in
    let kept = c.keep_shared.ensures.items ∙ ap (λ ps. filter (has ps) c.loop-i.self.places.items) column in
    let positions = c.column-in-loop-i.ensures.room in
    let places = c.keep_shared.ensures.room in
    record {
      same = c.column-in-loop-i.ensures.same ∙ inv.same;
      slop = inv.slop;
      ascends = subst (Ascends 0) (sym kept) (Ascends-filter (has (get_or columns i [])) 0 c.loop-i.self.places.items inv.ascends);
      places = ap (distinct 0) kept ∙ (distinct-filter (has (get_or columns i [])) 0 0 c.loop-i.self.places.items inv.ascends ∙ (ap (filter (has (get_or columns i []))) inv.places ∙ shared-next columns i c.requires.can.columns (omega (arith, begun)) (omega (arith, count, same, c.loop-i-test.true))));
      room = λ n h. (let was = inv.room n h in let in_places = was.places in let in_positions = was.positions in record {
        places = omega (arith, places, in_places);
        positions = omega (arith, positions, in_positions);
        costs = was.costs;
        further_costs = was.further_costs;
      });
    }

pub returns : goal.returns
returns g c =
    let columns : List (List ℕ) = first_positions (meeting (map g.S.DocSet.entries c.args.terms.now.docsets.items)) in
    let count = c.num_columns-i-end.ensures in
    let same = ap (λ es. length (first_positions es)) c.column.ensures.same in
    let end = c.loop-i.auto.i-end in
    let some = c.requires.can.has_terms in
    let places = c.keep_distinct.ensures.items ∙ (c.loop-i.invariant.places ∙ shared-all columns c.loop-i.i 0 c.requires.can.columns (omega (arith, count, same, end, some, c.loop-i-test.false))) in
    record {
      same = search rules;
      slop = search rules;
      places = places ∙ ap (λ slop. places_of slop columns) (sym c.requires.none);
      room = search rules;
    }

pub returns-then-is_empty : goal.returns-then-is_empty
returns-then-is_empty g c =
    let columns : List (List ℕ) = first_positions (meeting (map g.S.DocSet.entries c.args.terms.now.docsets.items)) in
    let inv = c.loop-i.invariant in
    let i = c.loop-i.i in
    let n = length columns - (i + 1) in
    let count = c.num_columns-i-end.ensures in
    let same = ap (λ es. length (first_positions es)) c.column.ensures.same in
    let begun = c.loop-i.auto.i in
    let column = c.deref.ensures.value ∙ (c.column-in-loop-i.ensures.items ∙ ap (λ es. get_or (first_positions es) i []) inv.same) in
    let kept = c.keep_shared.ensures.items ∙ ap (λ ps. filter (has ps) c.loop-i.self.places.items) column in
    let next = distinct-filter (has (get_or columns i [])) 0 0 c.loop-i.self.places.items inv.ascends ∙ (ap (filter (has (get_or columns i []))) inv.places ∙ shared-next columns i c.requires.can.columns (omega (arith, begun)) (omega (arith, count, same, c.loop-i-test.true))) in
    let ok = c.keep_shared.new.left.ok in
    let empty : vec_len c.keep_shared.new.left ≡ 0 = grind (arith, nat_tests, c.is_empty.ensures, c.if-is_empty.true) in
    let none : c.keep_shared.new.left.items ≡ [] = nil_from_length c.keep_shared.new.left.items (sym ok.0 ∙ empty) in
    let few : (i + 1) + n ≤ length columns = omega (arith, count, same, c.loop-i-test.true) in
    let all : (i + 1) + n ≡ length columns = omega (arith, count, same, c.loop-i-test.true) in
    let places = none ∙ (sym (shared-none columns (i + 1) n c.requires.can.columns (omega arith) few (sym next ∙ (ap (distinct 0) (sym kept ∙ none)))) ∙ shared-all columns ((i + 1) + n) 0 c.requires.can.columns all) in
    record {
      same = search rules;
      slop = search rules;
      places = places ∙ ap (λ slop. places_of slop columns) (sym c.requires.none);
      room = search rules;
    }
