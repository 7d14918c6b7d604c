-- The number so far goes on with the digits that are left.
use Rattle.std.proofs.Common.{drop, ◌≡◌}
use Rattle.query_text.specs.Heads.{with_digits}
use Rattle.query_text.proofs.heads.number_in.Given as goal

abbrev pub invariant-loop-byte : goal.invariant-loop-byte
invariant-loop-byte l = with_digits l.number (drop l.byte-index l.text) ≡ with_digits 0 l.text
