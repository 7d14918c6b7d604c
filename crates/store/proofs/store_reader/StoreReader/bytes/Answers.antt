use Rattle.std.proofs.Common.{ap, sym, ◌∙◌}
use Rattle.layouts.specs.Stores.{data_of}
use Rattle.store.specs.Slots.{Reader}
use Rattle.store.proofs.Opened.{whole_back}
use Rattle.store.proofs.store_reader.StoreReader.bytes.Goals as goal

pub returns : goal.returns
returns c = c.as_slice.ensures ∙ sym (whole_back c.self.inside.index c.self.inside.whole c.self.invariant.0.checks.adjoin c.self.invariant.0.covers) ∙ ap (λ (r : Reader). data_of r.blocks) c.self.view_is
