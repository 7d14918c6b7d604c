-- What the worked examples unfold to compute the definitions on literals.
use Rattle.std.specs.Prelude.{⊤}
use Rattle.std.specs.Str.{chars, is_utf8}
use Rattle.std.specs.Fmt.{digits}
use Rattle.serde_json.proofs.OnLiterals.{serde_json_on_literals}
use Rattle.base64.proofs.OnLiterals.{base64_on_literals}
use Rattle.jiff_fmt.proofs.OnLiterals.{jiff_fmt_on_literals}
use Rattle.definitions.specs.Addresses.{address_in, address_text}
use Rattle.definitions.specs.Dates.{date_in, date_text}
use Rattle.definitions.specs.Refusing.{node_fault}

unfoldable pub definitions_on_literals : ⊤
unfolding serde_json_on_literals base64_on_literals jiff_fmt_on_literals is_utf8 chars digits address_in address_text date_in date_text node_fault
definitions_on_literals = tt
