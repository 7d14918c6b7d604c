use Rattle.std.proofs.Common.{ap, arith, subst, ◌≡◌, ◌∙◌}
use Rattle.layouts.specs.Stores.{AreBlocks}
use Rattle.store.specs.Slots.{Reader}
use Rattle.store.specs.Writing.{blocks_in, count_of}
use Rattle.store.proofs.Opened.{blocks_at, counts_back}
use Rattle.store.proofs.store_reader.StoreReader.num_docs.Goals as goal

pub returns-clause-count : goal.returns-clause-count
returns-clause-count c =
    let counts = counts_back c.self.inside.index c.self.inside.whole 0 0 c.self.invariant.0.checks.adjoin in
    let is : c.doc_end.result ≡ count_of (blocks_in c.self.inside.whole c.self.inside.index) = omega (arith, c.doc_end.ensures) in
    is ∙ ap (λ (r : Reader). count_of r.blocks) c.self.view_is

pub returns-clause-valid : goal.returns-clause-valid
returns-clause-valid c = subst (λ (r : Reader). AreBlocks r.blocks) c.self.view_is (blocks_at c.self.inside.index c.self.inside.whole c.self.invariant.0.checks)
