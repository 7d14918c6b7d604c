use Rattle.std.proofs.Common.{[], arith, length, rules, ◌++◌, ◌∷◌, ◌≡◌, ◌≤◌}
use Rattle.document.proofs.NamedParts.{empty-more}
use Rattle.document.proofs.field_lists.empty_lists.Goals as goal

pub loop-alloc-preserved : goal.loop-alloc-preserved
loop-alloc-preserved c =
    let whole : c.push.new.self.items ≡ c.loop-alloc.lists.items ++ c.new.result ∷ [] = search rules in
    let more : length c.push.new.self.items ≤ c.args.count = grind (arith, rules) in
    (more, empty-more c.loop-alloc.lists.items c.push.new.self.items c.new.result whole c.new.ensures.items c.loop-alloc.invariant.1)
