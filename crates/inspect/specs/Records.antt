-- Records of a file: which are listed, where they stand, and what follows a gate.
use Rattle.std.specs.Prelude.{[], ◌++◌, ◌+◌, ◌<◌, ◌^◌, ◌∷◌, ◌≡◌, List, length, ℕ}
use Rattle.inspect.specs.declared.records.Record.{Record}
use Rattle.layouts.specs.RecordFiles.{AreShort, records, sized_body}

-- the offset of the gate of a record, and its body
abbrev pub gate_and_body : Record → ℕ × List ℕ
gate_and_body r = (r.gate, r.body.now)

-- bodies, each with the offset of its gate: between two gates there are eight bytes of length, and the body
abbrev pub gates : ℕ → List (List ℕ) → List (ℕ × List ℕ)
gates gate [] = []
gates gate (body ∷ bodies) = (gate, body) ∷ gates (gate + 9 + length body) bodies

-- an open gate stands at an offset, behind `number` records, and this follows it
pub record IsGate (bytes : List ℕ) (number offset : ℕ) (rest : List ℕ) : Type 0 where
  pub before : List (List ℕ)
  pub bytes_are : bytes ≡ records before ++ 165 ∷ rest
  pub short : AreShort before
  pub counted : number ≡ length before
  pub stands : offset ≡ length (records before)

-- behind a gate there is a record with this body, and the gate of the next
pub record HasBody (rest body : List ℕ) : Type 0 where
  pub short : length body < 2 ^ 64
  pub gate : ℕ
  pub more : List ℕ
  pub rest_is : rest ≡ sized_body body ++ gate ∷ more
