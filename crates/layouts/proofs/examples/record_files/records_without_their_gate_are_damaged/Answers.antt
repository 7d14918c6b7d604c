use Rattle.std.proofs.Common.{[], List, arith, inl, inr, length, refl, ◌∷◌, ◌≤◌, ℕ}
use Rattle.layouts.specs.RecordFiles.{IsNoIndex}
use Rattle.layouts.proofs.FilesOfRecords.{too_few}
use Rattle.layouts.proofs.examples.record_files.records_without_their_gate_are_damaged.Goals as goal

-- ten bytes or more after an open gate are an index
long : (bytes : List ℕ) → 9 ≤ length bytes → ¬ IsNoIndex (165 ∷ bytes)
long bytes many (inl few) = omega arith
long bytes many (inr closed) = closed refl

pub returns-clause-first : goal.returns-clause-first
returns-clause-first c = record {
  bodies = [];
  rest = 1 ∷ 0 ∷ 0 ∷ 0 ∷ 0 ∷ 0 ∷ 0 ∷ 0 ∷ 0 ∷ [];
  begins = long (1 ∷ 0 ∷ 0 ∷ 0 ∷ 0 ∷ 0 ∷ 0 ∷ 0 ∷ 0 ∷ []) (omega arith);
  bytes_are = refl;
  stands = refl;
  short = tt;
  taken = tt;
  broken = too_few _ [] _ 1 refl (omega arith);
}

pub returns-clause-second : goal.returns-clause-second
returns-clause-second c = record {
  bodies = (7 ∷ []) ∷ [];
  rest = 1 ∷ 0 ∷ 0 ∷ 0 ∷ 0 ∷ 0 ∷ 0 ∷ 0 ∷ 0 ∷ [];
  begins = long (1 ∷ 0 ∷ 0 ∷ 0 ∷ 0 ∷ 0 ∷ 0 ∷ 0 ∷ 7 ∷ 165 ∷ 1 ∷ 0 ∷ 0 ∷ 0 ∷ 0 ∷ 0 ∷ 0 ∷ 0 ∷ 0 ∷ []) (omega arith);
  bytes_are = refl;
  stands = refl;
  short = (omega arith, tt);
  taken = (tt, tt);
  broken = too_few _ _ _ 1 refl (omega arith);
}
