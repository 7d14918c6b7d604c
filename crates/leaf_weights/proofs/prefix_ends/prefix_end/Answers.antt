use Rattle.std.proofs.Common.{Some, ap, rules, sym, ◌++◌, ◌≡◌, ◌∙◌, ◌∷◌, []}
use Rattle.definitions.specs.Prefixes.{prefix_end}
use Rattle.leaf_weights.proofs.PrefixEnds.{ends_before, ends_here}
use Rattle.leaf_weights.proofs.prefix_ends.prefix_end.Goals as goal

-- src/prefixes.rt:17:13
pub returns-then-last-lt255 : goal.returns-then-last-lt255
returns-then-last-lt255 c =
    ap Some c.in_ok-push.ensures.items
    ∙ sym (ends_here c.pop.new.self.items c.in-Some.last c.if-last-lt255.true)
    ∙ ap prefix_end (sym c.in-Some.ensures.items)
    ∙ c.loop-last.invariant

-- src/prefixes.rt:14:5
pub loop-last-preserved : goal.loop-last-preserved
loop-last-preserved c =
    let full : c.in-Some.last ≡ 255 = search rules in
    sym (ends_before c.pop.new.self.items)
    ∙ ap (λ last. prefix_end (c.pop.new.self.items ++ last ∷ [])) (sym full)
    ∙ ap prefix_end (sym c.in-Some.ensures.items)
    ∙ c.loop-last.invariant
