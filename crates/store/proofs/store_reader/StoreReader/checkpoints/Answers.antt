use Rattle.std.proofs.Common.{ap, arith, sym, ◌∙◌}
use Rattle.layouts.specs.Stores.{checkpoints}
use Rattle.store.specs.Slots.{Reader}
use Rattle.store.proofs.Opened.{checks_back}
use Rattle.store.proofs.store_reader.StoreReader.checkpoints.Goals as goal

pub returns : goal.returns
returns c = (let covers = c.self.invariant.0.covers in c.checkpoints.ensures.all ∙ sym (checks_back c.self.inside.index c.self.inside.whole 0 0 c.self.invariant.0.checks.adjoin (omega arith)) ∙ ap (λ (r : Reader). checkpoints 0 0 r.blocks) c.self.view_is)
