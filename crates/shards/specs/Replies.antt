-- What replies to one request tell, and what they are together.
use Rattle.std.specs.Prelude.{[], ◌∷◌, List, Option, Some, codes, flat_map, map, option_map, sum, take, unwrap_or, ℕ}
use Rattle.std.specs.Option.{option_or}
use Rattle.definitions.specs.Json.{has_only, list_of, number_at, object_of, only_if, ◌>>=◌}
use Rattle.definitions.specs.Replies.{count_reply}
use Rattle.definitions.specs.Scanning.{ranked}
use Rattle.serde_json.specs.Data.{Data, array}
use Rattle.serde_json.specs.Find.{as_number, as_u64, get}
use Rattle.serde_json.specs.Read.{read}
use Rattle.serde_json.specs.View.{items_of}

-- what each element gives, if each gives something
abbrev pub each_of : {A B : Type 0} → (A → Option B) → List A → Option (List B)
each_of f [] = Some []
each_of f (x ∷ xs) = f x >>= (λ y. option_map (◌∷◌ y) (each_of f xs))

-- the JSON of texts, if each is one that is read
abbrev pub readings : List (List ℕ) → Option (List Data)
readings texts = each_of read texts

-- how many hits at most a request asks for
abbrev pub wanted_in : List ℕ → ℕ
wanted_in request = unwrap_or (read request >>= number_at (codes "k")) 0

-- the number at a key
abbrev pub number_of : List ℕ → Data → Option ℕ
number_of k d = get k d >>= as_number >>= as_u64

-- a hit with its score
abbrev pub Scored : Type 0
Scored = ℕ × Data

-- a hit with its score, if it has one
abbrev pub scored : Data → Option Scored
scored hit = option_map (λ n. (n, hit)) (number_of (codes "score") hit)

-- the hits that the reply to a search tells
abbrev pub hits_in : Data → Option (List Scored)
hits_in d = only_if (has_only (codes "hits" ∷ []) d) (get (codes "hits") d >>= list_of scored)

-- how many documents the reply to a count tells
abbrev pub count_in : Data → Option ℕ
count_in d = only_if (has_only (codes "count" ∷ []) d) (number_of (codes "count") d)

-- the best of hits: by score, of equal scores the earlier first
abbrev pub best_of : ℕ → List Scored → List Scored
best_of k hits = take k (ranked (λ h. h.0) hits)

-- the reply that tells these hits
abbrev pub hits_told : List Scored → Data
hits_told hits = object_of ((codes "hits", array (items_of (map (λ h. h.1) hits))) ∷ [])

-- one list behind the other
abbrev pub joined : {A : Type 0} → List (List A) → List A
joined lists = flat_map (λ xs. xs) lists

-- the reply that tells the best of the hits of several
abbrev pub searched : ℕ → List Data → Option Data
searched k ds = option_map (λ lists. hits_told (best_of k (joined lists))) (each_of hits_in ds)

-- the one reply in place of several: counts are added up, and of all hits the best are told
abbrev pub merged : ℕ → List Data → Option Data
merged k ds = option_or (option_map (λ counts. count_reply (sum counts)) (each_of count_in ds)) (searched k ds)
