-- Texts that are no values.
use Rattle.std.proofs.Common.{Err, None, Option, Some, refl, ◌≡◌}
use Rattle.definitions.specs.Reading.{or_parse_error}
use Rattle.definitions.specs.Values.{Value}
use Rattle.definitions.specs.declared.fault.Fault.{Fault}

-- what is a fault has no value
pub none_read : (o : Option Value) (fault : Fault) → Err fault ≡ or_parse_error o → o ≡ None
none_read None fault h = refl
none_read (Some v) fault h = cc
