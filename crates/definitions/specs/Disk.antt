-- A disk: its bytes, and what a crash may leave of them.
use Rattle.std.specs.Prelude.{[], ◌++◌, ◌+◌, ◌-◌, ◌<◌, ◌^◌, ◌∷◌, ◌≡◌, ◌≤◌, ◌⊎◌, IsErrOf, List, Result, drop, length, max, min, slice_index, take, ℕ}
use Rattle.definitions.specs.declared.fault.Fault.{Fault}
use Rattle.definitions.specs.declared.fault.Fault.TheVariants as faults

-- the content with these bytes from a place on, over what stood there and past the end
abbrev pub overwritten : ℕ → List ℕ → List ℕ → List ℕ
overwritten at bytes content = take at content ++ bytes ++ drop (at + length bytes) content

-- since the last successful sync: the least and the greatest length, and the ranges that were written, each by its start and its end
pub record Unsynced : Type 0 where
  pub least : ℕ
  pub greatest : ℕ
  pub ranges : List (ℕ × ℕ)

-- after a successful sync of `len` bytes
abbrev pub settled : ℕ → Unsynced
settled len = record { least = len; greatest = len; ranges = [] }

-- after a write of `len` bytes from a place on
abbrev pub written : ℕ → ℕ → Unsynced → Unsynced
written at len u = record { least = u.least; greatest = max u.greatest (at + len); ranges = (at, at + len) ∷ u.ranges }

-- after a cut to a length
abbrev pub shortened : ℕ → Unsynced → Unsynced
shortened len u = record { least = min u.least len; greatest = u.greatest; ranges = u.ranges }

-- some range has this place
abbrev pub IsInRange : List (ℕ × ℕ) → ℕ → Type 0
IsInRange [] i = ⊥
IsInRange (range ∷ ranges) i = ((range.0 ≤ i) × (i < range.1)) ⊎ IsInRange ranges i

-- what a crash may leave: any length between the least and the greatest, and any byte in a range or past the least length; all other bytes stay
pub record IsImage (content : List ℕ) (unsynced : Unsynced) (image : List ℕ) : Type 0 where
  pub no_shorter : unsynced.least ≤ length image
  pub no_longer : length image ≤ unsynced.greatest
  pub bytes : (i : ℕ) → slice_index image i < 256
  pub stays : (i : ℕ) → i < unsynced.least → ¬ IsInRange unsynced.ranges i → slice_index image i ≡ slice_index content i

-- what a call that failed leaves to read: a length between the old one and the asked one, and each byte as before or as asked
pub record IsPartly (old asked new : List ℕ) : Type 0 where
  pub no_shorter : min (length old) (length asked) ≤ length new
  pub no_longer : length new ≤ max (length old) (length asked)
  pub bytes : (i : ℕ) → i < length new → ((i < length old) × (slice_index new i ≡ slice_index old i)) ⊎ ((i < length asked) × (slice_index new i ≡ slice_index asked i))

-- one of two
abbrev pub IsEither : {T : Type 0} → T → T → T → Type 0
IsEither first second x = (x ≡ first) ⊎ (x ≡ second)

-- a number of failures rose, or can't rise
abbrev pub Rose : ℕ → ℕ → Type 0
Rose before now = (before < now) ⊎ (before ≡ 2 ^ 64 - 1)

-- the number of failures doesn't fall, and `Device` is answered only where it rose or can't rise
pub record HasCause {T : Type 0} (before now : ℕ) (result : Result T Fault) : Type 0 where
  pub later : before ≤ now
  pub cause : IsErrOf result faults.Device → Rose before now
