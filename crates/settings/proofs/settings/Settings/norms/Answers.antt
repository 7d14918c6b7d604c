-- Settings in range give a similarity.
use Rattle.std.proofs.Common.{◌≡◌, subst, true}
use Rattle.definitions.specs.Settings.{Settings, is_settings}
use Rattle.definitions.proofs.SettingsInRange.{similarity_of_settings}
use Rattle.settings.proofs.settings.Settings.norms.Goals as goal

pub returns-clause-similarity : goal.returns-clause-similarity
returns-clause-similarity c = similarity_of_settings c.args.self.now (subst (λ (s : Settings). is_settings s ≡ true) c.self.view_is c.self.invariant.valid)
