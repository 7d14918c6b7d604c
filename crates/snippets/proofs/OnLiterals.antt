-- What the worked examples unfold to compute the definitions on literals.
use Rattle.std.specs.Prelude.{⊤}
use Rattle.std.specs.Str.{chars}
use lib.Utf8.{encode}

unfoldable pub shown_on_literals : ⊤
unfolding chars encode
shown_on_literals = tt
