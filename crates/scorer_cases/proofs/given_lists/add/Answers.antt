use Rattle.std.proofs.Common.{[], List, ap, arith, length, map, ◌*◌, ◌++◌, ◌∙◌, ◌∷◌, ◌≡◌, ◌≤◌}
use Rattle.std.proofs.lemmas.List.{length-append, map-append}
use Rattle.docsets.specs.Entries.{Entry}
use Rattle.docsets.specs.ScoredEntries.{greatest_score}
use Rattle.docsets.specs.contracts.list_scorer.ListScorerDocSet.TheImpl.{entries-value}
use Rattle.docsets.proofs.AtLeastLaws.{greatest-last}
use Rattle.docsets.specs.Members.{greatest_sum}
use Rattle.scorer_cases.proofs.given_lists.add.Goals as goal

added : {X : Type 0} (entries : X → List Entry) (xs ys : List X) (x : X) → ys ≡ xs ++ x ∷ [] → greatest_score (entries x) ≤ 1000000000 → greatest_sum (map entries xs) ≤ length xs * 1000000000 → greatest_sum (map entries ys) ≤ length ys * 1000000000
added entries xs ys x is small so_far =
    let total = ap (λ zs. greatest_sum (map entries zs)) is ∙ (ap greatest_sum (map-append entries xs (x ∷ [])) ∙ greatest-last (map entries xs) (entries x)) in
    let size = ap length is ∙ length-append xs (x ∷ []) in
    omega (arith, total, size, small, so_far)

pub returns-clause-sum : goal.returns-clause-sum
returns-clause-sum c = added entries-value.it c.args.lists.now.items c.push.new.self.items c.args.list c.in_ok-push.ensures.items c.requires.small c.requires.so_far
