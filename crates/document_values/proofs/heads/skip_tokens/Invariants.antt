use Rattle.std.proofs.Common.{◌≡◌}
use Rattle.layouts.specs.DocumentReading.{skip_tokens, skip_tokens_from}
use Rattle.document_values.proofs.heads.skip_tokens.Given as goal

-- what is left decides
abbrev pub invariant-loop-left : goal.invariant-loop-left
invariant-loop-left l = skip_tokens_from l.least l.left l.rest ≡ skip_tokens l.fn.bytes

abbrev pub decreases-loop-left : goal.decreases-loop-left
decreases-loop-left l = l.left
