-- How deep items of JSON nest that are made one by one.
use Rattle.std.proofs.Common.{[], arith, max, ◌++◌, ◌∷◌, ◌≡◌, List}
use Rattle.serde_json.specs.Data.{depth, items_depth}
use Rattle.serde_json.specs.View.{items_view, view}
use Rattle.serde_json.specs.declared.value.Value.{Value}

-- the depth of items with one more
pub items_depth-last : (vs : List Value) (v : Value) → items_depth (items_view (vs ++ v ∷ [])) ≡ max (items_depth (items_view vs)) (depth (view v))
items_depth-last [] v = omega arith
items_depth-last (w ∷ vs) v = omega (arith, items_depth-last vs v)
