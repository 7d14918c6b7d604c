use Rattle.std.proofs.Common.{Bool, ltb, rules, List, ℕ}
use Rattle.std.proofs.lemmas.List.Sorted.{IsStrictWeakOrder-by_number, answers_always}
use Rattle.query_trees.proofs.OffsetOrder.{sorted_by_offset}
use Rattle.query_trees.proofs.phrase_terms.sort_by_offset.Goals as goal

pub returns : goal.returns
returns c =
    let first : ℕ × List ℕ → ℕ × List ℕ → Bool = λ a b. ltb a.0 b.0 in
    let order = IsStrictWeakOrder-by_number (λ (t : ℕ × List ℕ). t.0) in
    sorted_by_offset c.args.terms.now.items c.sort_by.new.self.items (c.in_ok-sort_by.ensures.sorted first order (answers_always _ _ _ (λ f a r g h. search rules))) (c.sort_by.ensures.stable first order (answers_always _ _ _ (λ f a r g h. search rules)))
