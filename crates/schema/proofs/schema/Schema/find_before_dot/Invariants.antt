use Rattle.std.proofs.Common.{◌≡◌, None, drop, false, option_map, take}
use Rattle.definitions.specs.FieldPaths.{splits_from}
use Rattle.schema.proofs.FieldSplits.{last_field, splits_after}
use Rattle.schema.proofs.schema.Schema.find_before_dot.Given as goal

-- what was found so far, and the later dots, make the answer
abbrev pub invariant-loop-i : goal.invariant-loop-i
invariant-loop-i l = last_field l.self (option_map (λ p. (p.0, p.1.now)) l.found) (splits_after (take l.i l.path) l.escaped (drop l.i l.path)) ≡ last_field l.self None (splits_from false l.path)
