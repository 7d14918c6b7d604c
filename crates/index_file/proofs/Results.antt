-- What follows from a clause on a result.
use Rattle.std.proofs.Common.{Err, Ok, OnOk, Result}

pub OnOk-map : {T E : Type 0} (result : Result T E) (P Q : Type 0) → (P → Q) → OnOk result P → OnOk result Q
OnOk-map (Ok x) P Q f h = f h
OnOk-map (Err e) P Q f h = tt
