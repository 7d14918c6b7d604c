-- Norms are tested for their number and order, and fit by their type.
use Rattle.std.proofs.Math.Facts.{Fits-lt-pow}
use Rattle.settings.proofs.NormsInOrder.{norms_tested}
use Rattle.settings.proofs.settings.are_norms.Goals as goal

pub returns-then-norms-eq-NORMS : goal.returns-then-norms-eq-NORMS
returns-then-norms-eq-NORMS c = norms_tested c.args.norms.now c.is_sorted.result c.if-norms-eq-NORMS.true (λ k. Fits-lt-pow (c.type_inv.norms k)) c.is_sorted.ensures.cases
