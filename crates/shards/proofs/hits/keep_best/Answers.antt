use Rattle.std.proofs.Common.{Bool, ltb, rules, ℕ}
use Rattle.std.specs.Borrow.{Bor}
use Rattle.std.proofs.lemmas.List.Sorted.{IsStrictWeakOrder-by_number, IsStrictWeakOrder-flip, answers_always}
use Rattle.serde_json.specs.declared.value.Value.{Value}
use Rattle.shards.proofs.RankedHits.{best_of_sorted}
use Rattle.shards.proofs.hits.keep_best.Goals as goal

pub returns : goal.returns
returns c =
    let first : ℕ × Bor Value → ℕ × Bor Value → Bool = λ a b. ltb b.0 a.0 in
    let order = IsStrictWeakOrder-flip _ (IsStrictWeakOrder-by_number (λ (h : ℕ × Bor Value). h.0)) in
    best_of_sorted c.args.k c.args.hits.now.items c.sort_by.new.self.items c.truncate.new.self.items
    (c.in_ok-sort_by.ensures.sorted first order (answers_always _ _ _ (λ f a r g h. search rules)))
    (c.sort_by.ensures.stable first order (answers_always _ _ _ (λ f a r g h. search rules)))
    c.truncate.ensures.items
