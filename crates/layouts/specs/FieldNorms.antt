-- The section of a segment that keeps the lengths of fields.
use Rattle.std.specs.Prelude.{◌++◌, ◌==◌, ◌≡◌, List, Option, find, flat_map, length, map, option_map, ℕ}
use Rattle.std.specs.List.{AllByRecursion}
use Rattle.definitions.specs.NumberCodes.{u32_bytes}

-- a field, with one length id for each document
abbrev pub field_norms_bytes : ℕ × List ℕ → List ℕ
field_norms_bytes norms = u32_bytes norms.0 ++ norms.1

-- fields with their length ids, one after another
abbrev pub norms_bytes : List (ℕ × List ℕ) → List ℕ
norms_bytes norms = flat_map field_norms_bytes norms

-- the bytes are those of these fields, with one length id for each of `num_docs` documents
pub record IsNorms (fields : List ℕ) (num_docs : ℕ) (bytes : List ℕ) (norms : List (ℕ × List ℕ)) : Type 0 where
  pub names : map (λ p. p.0) norms ≡ fields
  pub counts : AllByRecursion (λ p. length p.1 ≡ num_docs) norms
  pub spelled : bytes ≡ norms_bytes norms

-- the length ids of a field, where it keeps lengths
abbrev pub ids_of : ℕ → List (ℕ × List ℕ) → Option (List ℕ)
ids_of field norms = option_map (λ p. p.1) (find (λ p. p.0 == field) norms)
