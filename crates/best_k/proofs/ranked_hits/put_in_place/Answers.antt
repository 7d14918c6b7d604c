use Rattle.std.proofs.Common.{IsOk, List, ap, arith, length, rules, subst, sym, ◌<◌, ◌∙◌, ◌≡◌, ◌≤◌, ℕ}
use Rattle.std.specs.List.{insert}
use Rattle.definitions.specs.NumberedHits.{NeverRises}
use Rattle.best_k.proofs.Bests.{insert_last, ranked_with_one}
use Rattle.best_k.proofs.Placing.{falls_at, inserted_at}
use Rattle.best_k.specs.Kept.{ScoredAddress, score_at, score_of}
use Rattle.definitions.proofs.Ranking.{ranked_falling}
use Rattle.best_k.proofs.ranked_hits.put_in_place.Goals as goal

pub insertion_index-at-requires : goal.insertion_index-at-requires
insertion_index-at-requires c = λ i j l within. falls_at c.deref.result.now (subst (λ (xs : List ScoredAddress). NeverRises score_of xs) (sym c.deref.ensures.value) c.requires.falls) i j l within

pub returns-clause-items : goal.returns-clause-items
returns-clause-items c =
    let hits = c.args.hits.now.items in
    let at = c.insertion_index-at.result in
    let value = c.deref.ensures.value in
    let len = ap length value in
    let within : at ≤ length hits = (let it = c.insertion_index-at.ensures.within in omega (arith, it, len)) in
    let before : (i : ℕ) → i < at → score_of c.args.found ≤ score_at hits i = λ i l. (let it = c.insertion_index-at.ensures.before i l in let same = ap (λ (xs : List ScoredAddress). score_at xs i) value in omega (arith, it, same)) in
    let behind : (i : ℕ) → at ≤ i → i < length hits → score_at hits i < score_of c.args.found = λ i l most. (let it = c.insertion_index-at.ensures.behind i l (omega (arith, most, len)) in let same = ap (λ (xs : List ScoredAddress). score_at xs i) value in omega (arith, it, same)) in
    let room = c.requires.room in
    let many = c.args.hits.now.ok.0 in
    let ok : IsOk c.insert.result = c.insert.ensures.succeeds (omega (arith, room, many)) in
    let inserted : c.insert.new.self.items ≡ insert hits at c.args.found = search rules in
    inserted
    ∙ sym (inserted_at c.args.found at hits within before behind)
    ∙ ap (insert_last score_of c.args.found) (sym (ranked_falling score_of hits c.requires.falls))
    ∙ sym (ranked_with_one score_of c.args.found hits)
