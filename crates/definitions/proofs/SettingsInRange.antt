-- Settings in range give a similarity.
use Rattle.std.proofs.Common.{[], ◌&&◌, ◌<◌, ◌==◌, ◌^◌, ◌∷◌, ◌≡◌, ◌≤◌, List, Some, bytes_eq, cond, eqb-true, false, find, leb-true, length, ltb-true, nat_le, nat_lt, true, ℕ}
use Rattle.std.specs.List.{AllByRecursion, list_all}
use Rattle.std.specs.Option.{option_map_or}
use Rattle.definitions.proofs.Lists.{and_first, and_second}
use Rattle.definitions.specs.Scoring.{DontFall, IsSimilarity, max_score}
use Rattle.definitions.specs.Settings.{Settings, are_norms, are_weights, fits_segment, is_settings, never_falls, similarity_of, weighs_once}

-- no weight is above the greatest score, of whatever term
weight_fits : (ws : List (List ℕ × ℕ)) (least : ℕ) (t : List ℕ) → least ≤ max_score → list_all (λ w. nat_le w.1 max_score) ws ≡ true → option_map_or (λ w. w.1) (find (λ w. bytes_eq w.0 t) ws) least ≤ max_score
weight_fits [] least t fits h = fits
weight_fits (w ∷ ws) least t fits h =
    let ih = weight_fits ws least t fits (and_second (nat_le w.1 max_score) _ h) in
    elim (bytes_eq w.0 t) as (λ b. option_map_or (λ w. w.1) (cond b (Some w) (find (λ w. bytes_eq w.0 t) ws)) least ≤ max_score) [ true ↦ leb-true w.1 max_score (and_first (nat_le w.1 max_score) _ h) | false ↦ ih ]

-- norms that pass the test of 32 bits fit them
norms_fit : (ns : List ℕ) → list_all (λ n. nat_lt n (2 ^ 32)) ns ≡ true → AllByRecursion (λ n. n < 2 ^ 32) ns
norms_fit [] h = tt
norms_fit (n ∷ ns) h = (ltb-true n (2 ^ 32) (and_first (nat_lt n (2 ^ 32)) _ h), norms_fit ns (and_second (nat_lt n (2 ^ 32)) _ h))

-- norms that pass the test don't fall
norms_rise : (ns : List ℕ) → never_falls ns ≡ true → DontFall ns
norms_rise [] h = tt
norms_rise (n ∷ []) h = tt
norms_rise (n ∷ m ∷ ns) h = (leb-true n m (and_first (nat_le n m) _ h), norms_rise (m ∷ ns) (and_second (nat_le n m) _ h))

-- weights that pass the test, and norms that do, are a similarity
similarity_from : (s : Settings) → are_weights s.default_weight s.weights ≡ true → are_norms s.norms ≡ true → IsSimilarity (similarity_of s)
similarity_from s weights norms =
    let sizes = and_first ((length s.norms == 256) && list_all (λ n. nat_lt n (2 ^ 32)) s.norms) _ norms in
    record {
      weights = λ t. weight_fits s.weights s.default_weight t (leb-true s.default_weight max_score (and_first (nat_le s.default_weight max_score) _ weights)) (and_second (nat_le s.default_weight max_score) _ weights);
      norm_for_each = eqb-true (length s.norms) 256 (and_first (length s.norms == 256) _ sizes);
      norms_fit = norms_fit s.norms (and_second (length s.norms == 256) _ sizes);
      norms_rise = norms_rise s.norms (and_second ((length s.norms == 256) && list_all (λ n. nat_lt n (2 ^ 32)) s.norms) _ norms);
    }

-- settings in range give a similarity
pub similarity_of_settings : (s : Settings) → is_settings s ≡ true → IsSimilarity (similarity_of s)
similarity_of_settings s h =
    let sizes = fits_segment s.docs_per_segment && nat_lt s.block_size (2 ^ 32) in
    let weights = are_weights s.default_weight s.weights in
    let once = weighs_once s.weights in
    let three = and_first (sizes && weights && once) _ h in
    let two = and_first (sizes && weights) _ three in
    similarity_from s (and_second sizes weights two) (and_second (sizes && weights && once) (are_norms s.norms) h)
