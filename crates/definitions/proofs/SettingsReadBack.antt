-- Settings that are written as JSON read back.
use Rattle.std.proofs.Common.{[], ◌&&◌, ◌==◌, ◌^◌, ◌∷◌, ◌≡◌, List, None, Option, Some, ap, bytes_eq, false, length, map, nat_lt, refl, sym, true, true≢false, ℕ}
use Rattle.std.specs.List.{list_all}
use Rattle.std.specs.Option.{option_map_or}
use Rattle.std.proofs.lemmas.Bool.{and_parts}
use Rattle.std.proofs.lemmas.Slice.Eq.{bytes_eq-Decides}
use Rattle.definitions.specs.Json.{each}
use Rattle.definitions.specs.Replies.{number_data}
use Rattle.definitions.specs.Schema.{Schema}
use Rattle.definitions.specs.Settings.{Settings, are_norms, are_weights, fits_segment, is_settings, never_falls, weighs_once}
use Rattle.definitions.specs.SettingsGrammar.{norm_in, settings_data, settings_in, weighs_named, weight_data, weight_in}
use Rattle.definitions.specs.TermData.{reads_back, term_data}
use Rattle.definitions.specs.TermGrammar.{term_in}
use Rattle.serde_json.specs.View.{items_of}

-- what is found to be the bytes is these bytes
found_bytes : (o : Option (List ℕ)) (t : List ℕ) → option_map_or (bytes_eq t) o false ≡ true → o ≡ Some t
found_bytes None t h = absurd (true≢false (sym h))
found_bytes (Some u) t h = ap Some (sym ((bytes_eq-Decides t u).0 h))

-- a term that reads back is read from what is written of it
pub term_back : (schema : Schema) (t : List ℕ) → reads_back schema t ≡ true → term_in schema (term_data schema t) ≡ Some t
term_back schema t h = found_bytes (term_in schema (term_data schema t)) t h

-- a weight of such a term
weight_back : (schema : Schema) (w : List ℕ × ℕ) → reads_back schema w.0 ≡ true → weight_in schema (weight_data schema w) ≡ Some w
weight_back schema w h = rw (term_back schema w.0 h) refl

-- the weights of such terms
weights_back : (schema : Schema) (ws : List (List ℕ × ℕ)) → list_all (λ w. reads_back schema w.0) ws ≡ true → each (weight_in schema) (items_of (map (weight_data schema) ws)) ≡ Some ws
weights_back schema [] h = refl
weights_back schema (w ∷ ws) h =
    let parts = and_parts (reads_back schema w.0) (list_all (λ v. reads_back schema v.0) ws) h in
    rw (weight_back schema w parts.0) (rw (weights_back schema ws parts.1) refl)

-- numbers of 32 bits
norms_back : (ns : List ℕ) → list_all (λ n. nat_lt n (2 ^ 32)) ns ≡ true → each norm_in (items_of (map number_data ns)) ≡ Some ns
norms_back [] h = refl
norms_back (n ∷ ns) h =
    let parts = and_parts (nat_lt n (2 ^ 32)) (list_all (λ m. nat_lt m (2 ^ 32)) ns) h in
    rw parts.0 (rw (norms_back ns parts.1) refl)

-- norms in range have 32 bits
norms_fit : (s : Settings) → is_settings s ≡ true → list_all (λ n. nat_lt n (2 ^ 32)) s.norms ≡ true
norms_fit s h =
    let norms = and_parts (fits_segment s.docs_per_segment && nat_lt s.block_size (2 ^ 32) && are_weights s.default_weight s.weights && weighs_once s.weights) (are_norms s.norms) h in
    let sizes = and_parts ((length s.norms == 256) && list_all (λ n. nat_lt n (2 ^ 32)) s.norms) (never_falls s.norms) norms.1 in
    (and_parts (length s.norms == 256) (list_all (λ n. nat_lt n (2 ^ 32)) s.norms) sizes.0).1

-- settings in range, of which each weighted term reads back
pub settings_back : (schema : Schema) (s : Settings) → is_settings s ≡ true → weighs_named schema s ≡ true → settings_in schema (settings_data schema s) ≡ Some s
settings_back schema s valid named = rw (weights_back schema s.weights named) (rw (norms_back s.norms (norms_fit s valid)) (rw valid refl))
