-- What holds of a value, if there is one, by three things that do.
use Rattle.std.proofs.Common.{Err, IfOk, Ok, Result}

pub of_three : {X Y : Type 0} (result : Result X Y) (P Q R S : X → Type 0) → ((x : X) → P x → Q x → R x → S x) → IfOk result P → IfOk result Q → IfOk result R → IfOk result S
of_three (Ok x) P Q R S make p q r = make x p q r
of_three (Err y) P Q R S make p q r = tt
