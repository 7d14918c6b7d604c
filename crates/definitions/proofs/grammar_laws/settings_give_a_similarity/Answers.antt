use Rattle.definitions.proofs.SettingsInRange.{similarity_of_settings}
use Rattle.definitions.proofs.grammar_laws.settings_give_a_similarity.Goals as goal

pub returns : goal.returns
returns c = similarity_of_settings
