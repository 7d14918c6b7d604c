use Rattle.std.proofs.Common.{[], refl}
use Rattle.std.proofs.lemmas.Grind.{merely}
use Rattle.index_state.proofs.Committing.{installed_stands}
use Rattle.index_state.proofs.index_state.IndexState.install.Goals as goal

pub invariant_of-self-clause-held : goal.invariant_of-self-clause-held
invariant_of-self-clause-held g c =
    let old = c.args.self.now in
    merely (λ _. ([], [], c.new.ensures.holds old.schema (g.A.Analyzer.analyze old.analyzer) old.settings.block_size))

pub returns-clause-left : goal.returns-clause-left
returns-clause-left g c k x p =
    let old = c.args.self.now in
    installed_stands g.A.Analyzer.analyze old _ (record { analyzer = refl; schema = refl; settings = refl }) k x c.args.prepared.alive.items p refl refl (c.new.ensures.holds old.schema (g.A.Analyzer.analyze old.analyzer) old.settings.block_size) c.new-2.ensures.items refl

pub returns-clause-idle : goal.returns-clause-idle
returns-clause-idle g c =
    record { ready = refl; no_documents = c.new.ensures.none; no_deletions = c.new-2.ensures.items }
