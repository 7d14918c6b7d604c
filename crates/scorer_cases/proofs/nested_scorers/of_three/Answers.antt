use Rattle.std.proofs.Common.{[], ap, ◌++◌, ◌∙◌, ◌∷◌, ◌≡◌}
use Rattle.scorer_cases.proofs.NestedScores.{of_three}
use Rattle.scorer_cases.proofs.nested_scorers.of_three.Goals as goal

pub returns-clause-sum : goal.returns-clause-sum
returns-clause-sum g c =
    let are : c.push-3.new.self.items ≡ c.args.first ∷ c.args.second ∷ c.args.third ∷ [] =
    c.in_ok-push-3.ensures.items ∙ ap (λ xs. xs ++ c.args.third ∷ []) (c.in_ok-push-2.ensures.items ∙ ap (λ xs. xs ++ c.args.second ∷ []) (c.in_ok-push.ensures.items ∙ ap (λ xs. xs ++ c.args.first ∷ []) c.new-members.ensures.items)) in
    of_three g.S.DocSet.entries 100000000000000 c.push-3.new.self.items c.args.first c.args.second c.args.third are c.requires.first c.requires.second c.requires.third
