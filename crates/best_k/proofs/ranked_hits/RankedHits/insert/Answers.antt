use Rattle.std.proofs.Common.{[], ap, arith, length, subst, sym, ◌++◌, ◌∙◌, ◌∷◌}
use Rattle.best_k.proofs.LeftOfBoth.{Hits}
use Rattle.definitions.proofs.Ranking.{All-ranked, NeverRises-ranked}
use Rattle.definitions.specs.NumberedHits.{NeverRises}
use Rattle.definitions.specs.Scanning.{ranked}
use Rattle.best_k.proofs.TwoLists.{length_of_both, one_newer, one_older}
use Rattle.best_k.specs.Kept.{AreSigned, score_of}
use Rattle.definitions.proofs.Lists.{all_append as all_of_both}
use Rattle.best_k.proofs.ranked_hits.RankedHits.insert.Goals as goal

pub invariant_of-self : goal.invariant_of-self
invariant_of-self c =
    let hits = c.args.self.now in
    let items = c.put_in_place.ensures.items in
    let one = ap length items ∙ length_of_both score_of hits.newer.items (c.args.found ∷ []) in
    let both = length_of_both score_of hits.older.items hits.newer.items in
    let room = c.requires.room in
    record {
      older_fall = hits.older_fall;
      newer_fall = subst (λ (hs : Hits). NeverRises score_of hs) (sym items) (NeverRises-ranked score_of (hits.newer.items ++ c.args.found ∷ []));
      older_signed = hits.older_signed;
      newer_signed = c.put_in_place.ensures.signed;
      fits = omega (arith, one, both, room);
    }

pub put_in_place-requires-else-len-capacity-clause-falls : goal.put_in_place-requires-else-len-capacity-clause-falls
put_in_place-requires-else-len-capacity-clause-falls c =
    let hits = c.args.self.now in
    subst (λ (hs : Hits). NeverRises score_of hs) (sym c.merge.ensures.items) (NeverRises-ranked score_of (hits.older.items ++ hits.newer.items))

pub put_in_place-requires-else-len-capacity-clause-signed : goal.put_in_place-requires-else-len-capacity-clause-signed
put_in_place-requires-else-len-capacity-clause-signed c =
    let hits = c.args.self.now in
    subst AreSigned (sym c.merge.ensures.items) (All-ranked _ score_of (hits.older.items ++ hits.newer.items) (all_of_both _ hits.older.items hits.newer.items hits.older_signed hits.newer_signed))

pub invariant_of-self-else-len-capacity : goal.invariant_of-self-else-len-capacity
invariant_of-self-else-len-capacity c =
    let hits = c.args.self.now in
    let items = c.put_in_place-else-len-capacity.ensures.items in
    let none = c.merge.ensures.none in
    let no_more = ap length none in
    let one = ap length items ∙ length_of_both score_of c.merge.new.older.items (c.args.found ∷ []) in
    let merged = ap length c.merge.ensures.items in
    let more = c.merge.ensures.room in
    let most = c.put_in_place-else-len-capacity.ensures.room in
    let room = c.requires.room in
    record {
      older_fall = subst (λ (hs : Hits). NeverRises score_of hs) (sym items) (NeverRises-ranked score_of (c.merge.new.older.items ++ c.args.found ∷ []));
      newer_fall = subst (λ (hs : Hits). NeverRises score_of hs) (sym none) tt;
      older_signed = c.put_in_place-else-len-capacity.ensures.signed;
      newer_signed = subst AreSigned (sym none) tt;
      fits = omega (arith, no_more, one, merged, more, most, room);
    }

pub returns-then-len-capacity-clause-hits : goal.returns-then-len-capacity-clause-hits
returns-then-len-capacity-clause-hits c =
    let hits = c.args.self.now in
    ap (λ (hs : Hits). ranked score_of (hits.older.items ++ hs)) c.put_in_place.ensures.items
    ∙ one_newer score_of hits.older.items hits.newer.items c.args.found

pub returns-else-len-capacity-clause-hits : goal.returns-else-len-capacity-clause-hits
returns-else-len-capacity-clause-hits c =
    let now = c.put_in_place-else-len-capacity.new.hits in
    ap (λ (hs : Hits). ranked score_of (now.items ++ hs)) c.merge.ensures.none
    ∙ ap (λ (hs : Hits). ranked score_of (hs ++ [])) (c.put_in_place-else-len-capacity.ensures.items)
    ∙ one_older score_of c.merge.new.older.items c.args.found
    ∙ ap (λ (hs : Hits). ranked score_of (hs ++ c.args.found ∷ [])) c.merge.ensures.items
