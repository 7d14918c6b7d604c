-- Walking: whether a phrase's earlier terms lead to a place, from the nearest back.
use Rattle.std.specs.Prelude.{[], ◌&&◌, ◌-◌, ◌∷◌, Bool, List, nat_le, true, ℕ}
use Rattle.std.specs.List.{list_any}
use Rattle.definitions.specs.Phrases.{distance}

-- whether the lists, the nearest first, lead to r within the slop
abbrev pub is_led_to : List (List ℕ) → ℕ → ℕ → Bool
is_led_to [] slop r = true
is_led_to (ns ∷ before) slop r = list_any (λ n. nat_le (distance n r) slop && is_led_to before (slop - distance n r) n) ns
