-- Settings of an index: sizes, weights of terms, and norms of lengths.
use Rattle.std.specs.Prelude.{[], ◌&&◌, ◌==◌, ◌^◌, ◌∷◌, Bool, List, bytes_eq, find, length, nat_le, nat_lt, not, replicate, true, ℕ}
use Rattle.std.specs.List.{list_all, list_any}
use Rattle.std.specs.Option.{option_map_or}
use Rattle.definitions.specs.Scoring.{Similarity, max_score}

-- How many documents a segment takes, the size past which a block of stored documents is closed, how many of
-- these are kept at hand, the weight of a term, the terms that have another, and a norm for each length id.
pub record Settings : Type 0 where
  pub docs_per_segment : ℕ
  pub block_size : ℕ
  pub cache_blocks : ℕ
  pub default_weight : ℕ
  pub weights : List (List ℕ × ℕ)
  pub norms : List ℕ

-- no weight of its own for any term, and every norm 1
abbrev pub default_settings : Settings
default_settings = record { docs_per_segment = 65536; block_size = 16384; cache_blocks = 100; default_weight = 60; weights = []; norms = replicate 256 1 }

-- ---- which of these are settings

-- the most documents that a segment takes
abbrev pub max_docs_per_segment : ℕ
max_docs_per_segment = 2147483647

-- whether a segment may have `docs` documents, at least one
abbrev pub fits_segment : ℕ → Bool
fits_segment docs = nat_lt 0 docs && nat_le docs max_docs_per_segment

-- whether no weight is above the greatest score
abbrev pub are_weights : ℕ → List (List ℕ × ℕ) → Bool
are_weights default_weight weights = nat_le default_weight max_score && list_all (λ w. nat_le w.1 max_score) weights

-- whether no term is weighted twice
abbrev pub weighs_once : List (List ℕ × ℕ) → Bool
weighs_once [] = true
weighs_once (w ∷ ws) = not (list_any (λ v. bytes_eq v.0 w.0) ws) && weighs_once ws

-- whether no number is above the one after it
abbrev pub never_falls : List ℕ → Bool
never_falls [] = true
never_falls (n ∷ []) = true
never_falls (n ∷ m ∷ ns) = nat_le n m && never_falls (m ∷ ns)

-- whether there is a norm for each length id, of 32 bits and not falling
abbrev pub are_norms : List ℕ → Bool
are_norms ns = (length ns == 256) && list_all (λ n. nat_lt n (2 ^ 32)) ns && never_falls ns

-- whether settings are in range
abbrev pub is_settings : Settings → Bool
is_settings s = fits_segment s.docs_per_segment && nat_lt s.block_size (2 ^ 32) && are_weights s.default_weight s.weights && weighs_once s.weights && are_norms s.norms

-- ---- what scores take of settings

-- the term's own weight, and else the default
abbrev pub weight_of : Settings → List ℕ → ℕ
weight_of s t = option_map_or (λ w. w.1) (find (λ w. bytes_eq w.0 t) s.weights) s.default_weight

-- what scores are made of
abbrev pub similarity_of : Settings → Similarity
similarity_of s = record { weight = weight_of s; norms = s.norms }
