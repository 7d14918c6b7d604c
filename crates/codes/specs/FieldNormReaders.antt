-- What readers of length ids stand for, and how the ids of a field are taken.
use Rattle.std.specs.Prelude.{[], ◌+◌, ◌<◌, ◌==◌, ◌^◌, ◌∷◌, List, Option, drop, length, replicate, slice_index, take, zip, ℕ}
use Rattle.codes.specs.declared.fieldnorm_reader.Norms.{Norms}
use Rattle.codes.specs.declared.fieldnorm_reader.Norms.TheVariants.{Constant, Ids}
use Rattle.definitions.specs.Json.{only_if, ◌>>=◌}
use Rattle.definitions.specs.NumberCodes.{take_count, take_u32}

-- the length id of each document
abbrev pub ids_in : Norms → List ℕ
ids_in (Constant num_docs id) = replicate num_docs id
ids_in (Ids ids) = ids.now

-- what a reader's ids are: fewer than 2^32, and each one of 256
pub record AreLengthIds (ids : List ℕ) : Type 0 where
  pub count_fits : length ids < 2 ^ 32
  pub ids_fit : (doc : ℕ) → slice_index ids doc < 256

-- the ids of a field, where it stands first, and the rest
abbrev pub take_ids : ℕ → ℕ → List ℕ → Option (List ℕ × List ℕ)
take_ids num_docs field bs = do
  p ← take_u32 bs
  only_if (p.0 == field) (take_count num_docs p.1)

-- the ids of fields that stand one after another, each behind the four bytes of its field's number
abbrev pub ids_from : ℕ → List ℕ → List ℕ → List (List ℕ)
ids_from num_docs [] bs = []
ids_from num_docs (field ∷ fields) bs = take num_docs (drop 4 bs) ∷ ids_from num_docs fields (drop (4 + num_docs) bs)

-- these fields with their ids
abbrev pub norms_in : ℕ → List ℕ → List ℕ → List (ℕ × List ℕ)
norms_in num_docs fields bs = zip fields (ids_from num_docs fields bs)
