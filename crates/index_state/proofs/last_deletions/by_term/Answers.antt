use Rattle.std.proofs.Common.{map, subst, ◌∙◌, ◌≡◌}
use Rattle.std.specs.List.Sorted.{IsPermutation}
use Rattle.std.proofs.lemmas.List.{take_all}
use Rattle.std.proofs.lemmas.List.Sorted.{IsPermutation-map}
use Rattle.index_state.proofs.last_deletions.by_term.Goals as goal

pub returns : goal.returns
returns c =
    let copied : map (λ d. d.now) c.loop-deletion.sorted.items ≡ c.args.deletions.now = c.loop-deletion.invariant ∙ take_all c.loop-deletion.deletion-index c.args.deletions.now c.loop-deletion-test.false in
    subst (λ ds. IsPermutation ds (map (λ d. d.now) c.sort_by.new.self.items)) copied
    (IsPermutation-map (λ d. d.now) c.loop-deletion.sorted.items c.sort_by.new.self.items c.sort_by.ensures.permutation)
