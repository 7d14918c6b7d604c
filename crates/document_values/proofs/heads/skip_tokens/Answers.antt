use Rattle.std.proofs.Common.{◌∙◌, sym}
use Rattle.document_values.proofs.Skips.{token_step}
use Rattle.document_values.proofs.heads.skip_tokens.Goals as goal

pub loop-left-preserved : goal.loop-left-preserved
loop-left-preserved c = sym (token_step c.loop-left.least c.loop-left.left _ c.in_ok-position.position _ c.loop-left-test.true c.in_ok-position.ensures.ok) ∙ c.loop-left.invariant
