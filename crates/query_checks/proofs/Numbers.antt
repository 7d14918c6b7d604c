-- The numbers of queries.
use Rattle.std.proofs.Common.{Bool, None, Option, Some, cond, false, nat_lt, option_and_then, true, ◌<◌, ◌≡◌, ◌^◌, ℕ, refl}
use Rattle.std.proofs.lemmas.Bool.{ltb-true}
use Rattle.definitions.specs.Json.{number_in}
use Rattle.definitions.specs.Reading.{below}
use Rattle.serde_json.specs.Data.{Data}
use Rattle.serde_json.specs.Find.{as_number, as_u64}

tested : (b : Bool) (m n : ℕ) → Some n ≡ cond b (Some m) None → (b ≡ true) × (n ≡ m)
tested true m n is = (refl, cc)
tested false m n is = cc

found : (o : Option ℕ) (n : ℕ) → Some n ≡ option_and_then (below (2 ^ 63)) o → n < 2 ^ 63
found None n is = cc
found (Some m) n is = let parts = tested (nat_lt m (2 ^ 63)) m n is in let fits = ltb-true m (2 ^ 63) parts.0 in rw parts.1 fits

-- a number fits 63 bits
pub number_fits : (d : Data) (n : ℕ) → Some n ≡ number_in d → n < 2 ^ 63
number_fits d n is = found (option_and_then as_u64 (as_number d)) n is
