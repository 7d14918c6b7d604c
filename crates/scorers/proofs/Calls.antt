-- Calls that may want memory.
use Rattle.std.proofs.Common.{Err, Ok, OnErr, OnOk, Result, arith, is_ok, refl, true, ◌<◌, ◌≡◌, ◌≤◌, ℕ}

-- where there is room a call has its answer
pub must_answer : {X E P : Type 0} (r : Result X E) (a b : ℕ) → OnErr r (a < b) → b ≤ a → OnOk r P → P
must_answer (Ok x) a b full room p = p
must_answer (Err e) a b full room p = absurd (omega (arith, full, room))

pub must_be_ok : {X E : Type 0} (r : Result X E) (a b : ℕ) → OnErr r (a < b) → b ≤ a → is_ok r ≡ true
must_be_ok (Ok x) a b full room = refl
must_be_ok (Err e) a b full room = absurd (omega (arith, full, room))
