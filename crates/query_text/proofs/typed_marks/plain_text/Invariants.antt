-- The text so far goes on with the signs that are left.
use Rattle.std.proofs.Common.{drop, map, ◌++◌, ◌≡◌}
use Rattle.query_text.proofs.typed_marks.plain_text.Given as goal

abbrev pub invariant-loop-sign : goal.invariant-loop-sign
invariant-loop-sign l = l.plain.items ++ map (λ s. s.1) (drop l.sign-index l.signs) ≡ map (λ s. s.1) l.signs
