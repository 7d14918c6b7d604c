-- The bytes that are left decide.
use Rattle.std.proofs.Common.{drop, false, ◌≡◌}
use Rattle.query_text.specs.Reading.{has_open_letter}
use Rattle.query_text.proofs.clauses.has_open_letter.Given as goal

abbrev pub invariant-loop-byte : goal.invariant-loop-byte
invariant-loop-byte l = has_open_letter l.before (drop l.byte-index l.text) ≡ has_open_letter false l.text
