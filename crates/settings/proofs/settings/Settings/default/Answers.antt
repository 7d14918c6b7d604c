-- The norms that are made are those of the default settings.
use Rattle.std.proofs.Common.{◌≡◌, ap₂, replicate, rules}
use Rattle.settings.specs.Weights.{settings_of}
use Rattle.settings.proofs.settings.Settings.default.Goals as goal

pub returns-clause-ok : goal.returns-clause-ok
returns-clause-ok c =
    let norms : c.in_ok-from_elem.field-0.items ≡ replicate 256 1 = search rules in
    ap₂ (settings_of 65536 16384 100 60) c.new.ensures.items norms
