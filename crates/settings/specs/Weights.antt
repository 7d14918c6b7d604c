-- Settings by their parts, and weights by the bytes of their terms.
use Rattle.std.specs.Prelude.{◌≡◌, List, Vec, bytes_eq, find, option_map, true, ℕ}
use Rattle.std.specs.BTreeMap.{BTreeMap, get_by}
use Rattle.std.specs.Cmp.Lexicographic.{slice_cmp}
use Rattle.std.specs.Ordering.{nat_cmp}
use Rattle.std.specs.declared.alloc.Global.{Global}
use Rattle.std.specs.declared.option.Option.{Option}
use Rattle.definitions.specs.Settings.{Settings, is_settings}

-- settings of these parts
abbrev pub settings_of : ℕ → ℕ → ℕ → ℕ → List (List ℕ × ℕ) → List ℕ → Settings
settings_of docs_per_segment block_size cache_blocks default_weight weights norms = record { docs_per_segment = docs_per_segment; block_size = block_size; cache_blocks = cache_blocks; default_weight = default_weight; weights = weights; norms = norms }

-- the value at the key of these bytes
abbrev pub get_by_bytes : {X : Type 0} → BTreeMap (Vec ℕ Global) X → List ℕ → Option X
get_by_bytes map bytes = get_by (λ key. slice_cmp nat_cmp bytes key.items) map

-- each term has the weight at which it is listed, and another none
abbrev pub WeighsTerms : BTreeMap (Vec ℕ Global) ℕ → List (List ℕ × ℕ) → Type 0
WeighsTerms map weights = (term : List ℕ) → get_by_bytes map term ≡ option_map (λ w. w.1) (find (λ w. bytes_eq w.0 term) weights)

-- what stands with settings: weights by their terms, and that they are in range
pub record IsKept (map : BTreeMap (Vec ℕ Global) ℕ) (settings : Settings) : Type 0 where
  pub by_term : WeighsTerms map settings.weights
  pub valid : is_settings settings ≡ true
