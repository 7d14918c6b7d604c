use Rattle.definitions.proofs.SettingsReadBack.{settings_back}
use Rattle.definitions.proofs.grammar_laws.settings_read_back.Goals as goal

pub returns : goal.returns
returns c = settings_back
