-- The file of records: a gate, then records. A record is the length of its body, the body, and the gate of the next record.
use Rattle.std.specs.Prelude.{[], ◌++◌, ◌+◌, ◌<◌, ◌^◌, ◌∷◌, ◌≡◌, ◌≢◌, ◌⊎◌, Bool, IsTrue, List, length, slice_index, ℕ}
use Rattle.definitions.specs.NumberCodes.{u64_bytes}

-- the length of a body, and the body
abbrev pub sized_body : List ℕ → List ℕ
sized_body body = u64_bytes (length body) ++ body

-- a file of these bodies: at the first closed gate reading ends, and anything may follow
pub data IsFile : List (List ℕ) → List ℕ → Type 0 where
  ends : (gate : ℕ) (rest : List ℕ) → gate ≢ 165 → IsFile [] (gate ∷ rest)
  record_then : (body : List ℕ) (bodies : List (List ℕ)) (rest : List ℕ) → length body < 2 ^ 64 → IsFile bodies rest → IsFile (body ∷ bodies) (165 ∷ sized_body body ++ rest)

-- the bytes of records, each from its open gate to the gate of the next
abbrev pub records : List (List ℕ) → List ℕ
records [] = []
records (body ∷ bodies) = 165 ∷ sized_body body ++ records bodies

-- a file of these bodies whose closed gate stands at an offset
pub record EndsAt (content : List ℕ) (gate : ℕ) (bodies : List (List ℕ)) : Type 0 where
  pub file : IsFile bodies content
  pub place : gate ≡ length (records bodies)

-- and with nothing after it
pub record IsAtRest (content : List ℕ) (gate : ℕ) (bodies : List (List ℕ)) : Type 0 where
  pub file : IsFile bodies content
  pub place : gate ≡ length (records bodies)
  pub length_is : length content ≡ gate + 1

-- no index: too few bytes for one record, or a closed first gate
abbrev pub IsNoIndex : List ℕ → Type 0
IsNoIndex bytes = (length bytes < 10) ⊎ (slice_index bytes 0 ≢ 165)

-- each body is in the grammar after those before it; a grammar is a relation, since what a body means may be hidden in it
abbrev pub AreTaken : (List (List ℕ) → List ℕ → Type 0) → List (List ℕ) → List (List ℕ) → Type 0
AreTaken takes before [] = Unit {0}
AreTaken takes before (body ∷ bodies) = takes before body × AreTaken takes (before ++ body ∷ []) bodies

-- each length is written in eight bytes
abbrev pub AreShort : List (List ℕ) → Type 0
AreShort [] = Unit {0}
AreShort (body ∷ bodies) = (length body < 2 ^ 64) × AreShort bodies

-- after a gate there is a whole record with the gate of the next, and its body is in the grammar
pub record HasRecord (takes : List (List ℕ) → List ℕ → Type 0) (before : List (List ℕ)) (bytes : List ℕ) : Type 0 where
  pub body : List ℕ
  pub gate : ℕ
  pub rest : List ℕ
  pub short : length body < 2 ^ 64
  pub bytes_are : bytes ≡ sized_body body ++ gate ∷ rest
  pub taken : takes before body

-- damaged from the open gate at an offset on: after records with bodies in the grammar there is no other
pub record IsDamaged (takes : List (List ℕ) → List ℕ → Type 0) (bytes : List ℕ) (offset : ℕ) : Type 0 where
  pub bodies : List (List ℕ)
  pub rest : List ℕ
  pub begins : ¬ IsNoIndex bytes
  pub bytes_are : bytes ≡ records bodies ++ 165 ∷ rest
  pub stands : offset ≡ length (records bodies)
  pub short : AreShort bodies
  pub taken : AreTaken takes [] bodies
  pub broken : ¬ HasRecord takes bodies rest

-- what a crash may leave of a file that is being created: no index, or a file of one body that is taken
abbrev pub IsFresh : (List ℕ → Bool) → List ℕ → Type 0
IsFresh takes bytes = IsNoIndex bytes ⊎ ((body : List ℕ) × IsTrue (takes body) × IsFile (body ∷ []) bytes)

-- a file of one of two lists of bodies
abbrev pub IsOneOf : List (List ℕ) → List (List ℕ) → List ℕ → Type 0
IsOneOf first second bytes = IsFile first bytes ⊎ IsFile second bytes
