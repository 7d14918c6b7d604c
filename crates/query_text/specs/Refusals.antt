-- What is read of a text, or why nothing is.
use Rattle.std.specs.Prelude.{Bool, Err, Ok, Result, if◌then◌else◌, ◌≡◌, ◌≢◌, ℕ}
use Rattle.query_text.specs.declared.refusal.Reason.{Reason}
use Rattle.query_text.specs.declared.refusal.Reason.TheVariants as reasons
use Rattle.query_text.specs.declared.refusal.Refusal.{Refusal}

infixl 10 ◌>>=◌
-- what follows from a value, where there is one
abbrev pub ◌>>=◌ : {A B E : Type 0} → Result A E → (A → Result B E) → Result B E
(Ok a) >>= f = f a
(Err e) >>= f = Err e

-- a reason where a test holds, and else what is read
abbrev pub refused_if : {A : Type 0} → Bool → Reason → Result A Reason → Result A Reason
refused_if test reason read = if test then Err reason else read

-- why something at an offset isn't read
abbrev pub refusal_at : ℕ → Reason → Refusal
refusal_at offset reason = record { reason = reason; place = offset }

-- what is read at an offset
abbrev pub at_offset : {A : Type 0} → ℕ → Result A Reason → Result A Refusal
at_offset offset (Ok a) = Ok a
at_offset offset (Err reason) = Err (refusal_at offset reason)

-- What was returned, seen by view, is what is read, unless memory ran out.
abbrev pub Gives : {X Y : Type 0} → (X → Y) → Result X Reason → Result Y Reason → Type 0
Gives view (Ok x) read = read ≡ Ok (view x)
Gives view (Err reason) read = reason ≢ reasons.OutOfMemory → read ≡ Err reason

-- what a call with an offset in its refusal gives
abbrev pub GivesAt : {X Y : Type 0} → (X → Y) → Result X Refusal → Result Y Refusal → Type 0
GivesAt view (Ok x) read = read ≡ Ok (view x)
GivesAt view (Err refusal) read = refusal.reason ≢ reasons.OutOfMemory → read ≡ Err refusal
