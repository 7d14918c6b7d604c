-- The norms that are made are those of the default settings.
use Rattle.std.proofs.Common.{◌∙◌, ◌≡◌, Some, ap, replicate, rules}
use Rattle.std.specs.Option.{option_map_or}
use Rattle.definitions.specs.Json.{list_of}
use Rattle.definitions.specs.Settings.{default_settings}
use Rattle.definitions.specs.SettingsGrammar.{norm_in}
use Rattle.settings.proofs.json_settings.norms_or_ones.Goals as goal

pub returns-in_ok-from_elem-in-None : goal.returns-in_ok-from_elem-in-None
returns-in_ok-from_elem-in-None c =
    let norms : c.in_ok-from_elem-in-None.field-0.items ≡ replicate 256 1 = search rules in
    ap Some norms ∙ ap (λ o. option_map_or (list_of norm_in) o (Some default_settings.norms)) c.in-None.ensures
