use Rattle.std.proofs.Common.{[], ap, arith, drop, length, map, subst, sym, ◌++◌, ◌<◌, ◌∙◌, ◌∷◌, ◌≡◌, ◌≤◌}
use Rattle.std.proofs.lemmas.List.{length-append}
use Rattle.docsets.specs.Entries.{first, first_positions, first_score, single}
use Rattle.definitions.specs.Postings.{terminated}
use Rattle.phrases.proofs.PhraseEntryLaws.{IsRest-on}
use Rattle.phrases.proofs.PrefixEntryLaws.{most-rest}
use Rattle.phrases.specs.Rows.{AreRows, most_count, row_entries, uncounted}
use Rattle.phrases.proofs.SuffixCounts.{column-rises}
use Rattle.phrases.proofs.WindowLaws.{first-most, fresh-next, next_row, rows-next, taken-next}
use Rattle.phrases.proofs.next_rows.take_rows.Goals as goal

pub take_row-requires-clause-few_places : goal.take_row-requires-clause-few_places
take_row-requires-clause-few_places g c =
    let fewer = most-rest (g.W.DocSet.entries c.loop-doc.phrase) (g.W.DocSet.entries c.args.phrase.now) c.loop-doc.invariant.rest in
    let few = c.requires.few_places in
    omega (arith, fewer, few)

pub take_row-requires-clause-places_room : goal.take_row-requires-clause-places_room
take_row-requires-clause-places_room g c =
    let fewer = most-rest (g.W.DocSet.entries c.loop-doc.phrase) (g.W.DocSet.entries c.args.phrase.now) c.loop-doc.invariant.rest in
    let room = c.requires.places_room in
    let same = c.loop-doc.invariant.places_room in
    let len = c.len-then-len-limit.ensures in
    let test = c.if-len-lt-MANY_PLACES.true in
    omega (arith, fewer, room, same, len, test)

pub take_row-requires-clause-here_room : goal.take_row-requires-clause-here_room
take_row-requires-clause-here_room g c =
    let fewer = most-rest (g.W.DocSet.entries c.loop-doc.phrase) (g.W.DocSet.entries c.args.phrase.now) c.loop-doc.invariant.rest in
    let room = c.requires.here_room in
    let grown = c.loop-doc.invariant.here_room in
    omega (arith, fewer, room, grown)

pub loop-doc-preserved : goal.loop-doc-preserved
loop-doc-preserved g c =
    let inv = c.loop-doc.invariant in
    let all = g.W.DocSet.entries c.args.phrase.now in
    let es = g.W.DocSet.entries c.loop-doc.phrase in
    let fs = g.W.DocSet.entries c.advance-doc.new.self in
    let places = c.loop-doc.places.items in
    let rows = c.loop-doc.rows.items in
    let here = single (first_positions es) in
    let next = next_row places es in
    let t = c.take_row.ensures in
    let more = c.take_row.new.places.items in
    let at = inv.at in
    let test = c.loop-doc-test.true in
    let on : first es < terminated = omega (arith, at, test) in
    let column = g.met.W.Positioned.one_column c.loop-doc.phrase in
    let fewer = most-rest es all inv.rest in
    let few_places = c.requires.few_places in
    let longest = first-most es on in
    let few : length here ≤ 4294967295 = omega (arith, fewer, few_places, longest) in
    let places_is : more ≡ places ++ here = t.places in
    let rows_is : c.take_row.new.rows.items ≡ rows ++ next ∷ [] = t.rows ∙ ap (λ d. rows ++ record { doc = d; begin = length places; num_places = length here; score = first_score es; count = 0 } ∷ []) at in
    let moved_on : fs ≡ drop 1 es = c.advance-doc.ensures.rest ∙ ap (drop 1) t.same in
    let one_more = ap length rows_is ∙ length-append rows (next ∷ []) in
    let len = c.len.ensures in
    let room = c.if-len-limit.true in
    record {
      at = c.advance-doc.ensures.at;
      taken = taken-next places rows all es on column inv.rows inv.taken
          ∙ sym (ap (λ xs. row_entries more c.take_row.new.rows.items ++ map uncounted xs) moved_on
          ∙ (ap (λ rs. row_entries more rs ++ map uncounted (drop 1 es)) rows_is
          ∙ ap (λ ps. row_entries ps (rows ++ next ∷ []) ++ map uncounted (drop 1 es)) places_is));
      rest = IsRest-on fs es all (1, moved_on) inv.rest;
      rows = subst (λ ps. AreRows ps c.take_row.new.rows.items) (sym places_is) (subst (AreRows (places ++ here)) (sym rows_is) (rows-next places rows es on few (column-rises es column on) inv.rows));
      fresh = ap most_count rows_is ∙ fresh-next places rows es inv.fresh;
      few = omega (arith, one_more, len, room);
      some = λ none. absurd (omega (arith, none, one_more));
      none = λ none. absurd (omega (arith, none, one_more));
      rows_room = t.rows_room ∙ inv.rows_room;
      places_room = t.places_room ∙ inv.places_room;
      here_room = (let grown = inv.here_room in let longer = t.here_room in omega (arith, grown, longer));
    }
