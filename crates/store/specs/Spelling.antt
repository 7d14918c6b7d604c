-- The layers of a skip index as they are put.
use Rattle.std.specs.Prelude.{List, length, map, ℕ}
use Rattle.std.specs.List.{concat}
use Rattle.layouts.specs.Stores.{layer_bytes}
use Rattle.layouts.specs.declared.checkpoint.Checkpoint.{Checkpoint}

-- the lengths of layers
abbrev pub layer_lengths : List (List Checkpoint) → List ℕ
layer_lengths = map (λ layer. length (layer_bytes layer))

-- the bytes of layers
abbrev pub layers_bytes : List (List Checkpoint) → List ℕ
layers_bytes ls = concat (map layer_bytes ls)
