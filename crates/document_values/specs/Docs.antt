-- Documents as lists of pairs, read from the bytes that hold them.
use Rattle.std.specs.Prelude.{◌<◌, ◌^◌, ◌∷◌, ◌≡◌, ◌≤◌, Bool, List, Option, Some, bytes_eq, false, length, true, ℕ}
use Rattle.std.specs.List.{AllByRecursion}
use Rattle.definitions.specs.Stored.{plain}
use Rattle.definitions.specs.Values.{Document, IsValue, Value, nesting}
use Rattle.document_values.specs.Held.{IsSized, held_pairs}
use Rattle.layouts.specs.DocumentReading.{deepest, items_at, skip_many, skip_tokens, take_any, take_pair}

-- `n` pairs from the first byte on
abbrev pub pairs_at : ℕ → List ℕ → Document
pairs_at n bs = items_at (take_pair take_any) n bs

-- `n` items stand one after another from the first byte on
abbrev pub IsWhole : {A : Type 0} → (List ℕ → Option (A × List ℕ)) → ℕ → List ℕ → Type 0
IsWhole item n bs = (rest : List ℕ) × (skip_many item n bs ≡ Some rest)

-- tokens stand there
abbrev pub AreTokensAt : List ℕ → Type 0
AreTokensAt bs = (rest : List ℕ) × (skip_tokens bs ≡ Some rest)

-- a value that is held, at most so deep; without tokens where there are none
pub record IsGood (tokens : Bool) (depth : ℕ) (v : Value) : Type 0 where
  pub value : IsValue v
  pub sized : IsSized v
  pub shallow : nesting v ≤ depth
  pub kept : tokens ≡ false → plain v ≡ v

pub record IsGoodPair (tokens : Bool) (depth : ℕ) (p : ℕ × Value) : Type 0 where
  pub field : p.0 < 2 ^ 32
  pub value : IsGood tokens depth p.1

-- the bytes are those of `n` pairs
pub record HoldsPairs (bs : List ℕ) (n : ℕ) (doc : Document) : Type 0 where
  pub pairs : AllByRecursion (IsGoodPair true deepest) doc
  pub count : n ≡ length doc
  pub spelled : bs ≡ held_pairs doc

-- the bytes are those of some document with `n` pairs
abbrev pub IsHeap : List ℕ → ℕ → Type 0
IsHeap bs n = (doc : Document) × HoldsPairs bs n doc

-- by what a document is told from others: how many pairs it has, and their bytes
abbrev pub held_document : Document → List ℕ
held_document doc = length doc ∷ held_pairs doc

-- whether documents have the same pairs
abbrev pub same_document : Document → Document → Bool
same_document a b = bytes_eq (held_document a) (held_document b)
