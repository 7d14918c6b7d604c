-- Paths of keys, byte by byte and key by key.
use Rattle.std.proofs.Common.{[], ◌&&◌, ◌++◌, ◌<◌, ◌+◌, ◌==◌, ◌∙◌, ◌∷◌, ◌≡◌, ◌≢◌, Bool, List, add-one, ap, append_assoc, arith, false, get_or, if◌then◌else◌, length, map, refl, sym, take, true, ◌≤◌, ℕ}
use Rattle.std.proofs.lemmas.Bool.{ne_eqb}
use Rattle.std.proofs.lemmas.List.{length-map, length-take-le, map-append}
use Rattle.std.proofs.Math.Seq.{take-suc}
use Rattle.std.specs.List.{onto_first}
use Rattle.definitions.specs.Facets.{backslash}
use Rattle.definitions.specs.Terms.{key_bytes, path_of_keys}
use Rattle.terms.specs.JsonPaths.{keys_from}

-- the path of what follows in a path text
abbrev pub path_from : Bool → Bool → List ℕ → List ℕ
path_from dots escaped rest = path_of_keys dots (keys_from escaped rest)

-- a byte of a key in its path
abbrev pub byte_in_key : Bool → ℕ → ℕ
byte_in_key dots c = if dots && (c == 46) then 1 else c

abbrev Some_key : List (List ℕ) → Type 0
Some_key [] = ⊥
Some_key (key ∷ keys) = Unit {0}

onto_some : (c : ℕ) (keys : List (List ℕ)) → Some_key (onto_first c keys)
onto_some c [] = tt
onto_some c (key ∷ keys) = tt

-- a text has a key, if an empty one
some_key : (escaped : Bool) (cs : List ℕ) → Some_key (keys_from escaped cs)
some_key escaped [] = tt
some_key true (c ∷ cs) = onto_some c (keys_from false cs)
some_key false (c ∷ cs) = go (c == backslash) (c == 46) (some_key true cs)
  where
    go : (b d : Bool) → Some_key (keys_from true cs) → Some_key (elim b [ true ↦ keys_from true cs | false ↦ (if d then (λ (keys : List (List ℕ)). [] ∷ keys) else onto_first c) (keys_from false cs) ])
    go true d h = h
    go false true h = tt
    go false false h = onto_some c (keys_from false cs)

-- a byte before the first key
path-onto : (dots : Bool) (c : ℕ) (keys : List (List ℕ)) → path_of_keys dots (onto_first c keys) ≡ byte_in_key dots c ∷ path_of_keys dots keys
path-onto dots c [] = refl
path-onto dots c (key ∷ []) = refl
path-onto dots c (key ∷ next ∷ keys) = refl

-- an empty key before others
path-empty : (dots : Bool) (keys : List (List ℕ)) → Some_key keys → path_of_keys dots ([] ∷ keys) ≡ 1 ∷ path_of_keys dots keys
path-empty dots [] h = absurd h
path-empty dots (key ∷ keys) h = refl

pub path-dot : (dots : Bool) (rest : List ℕ) → path_from dots false (46 ∷ rest) ≡ 1 ∷ path_from dots false rest
path-dot dots rest = path-empty dots (keys_from false rest) (some_key false rest)

pub path-taken : (dots : Bool) (c : ℕ) (rest : List ℕ) → path_from dots true (c ∷ rest) ≡ byte_in_key dots c ∷ path_from dots false rest
path-taken dots c rest = path-onto dots c (keys_from false rest)

pub path-plain : (dots : Bool) (c : ℕ) (rest : List ℕ) → c ≢ 92 → c ≢ 46 → path_from dots false (c ∷ rest) ≡ byte_in_key dots c ∷ path_from dots false rest
path-plain dots c rest no_escape no_dot = ap (path_of_keys dots) (keys_plain (c == backslash) (c == 46) (ne_eqb c 92 no_escape) (ne_eqb c 46 no_dot)) ∙ path-onto dots c (keys_from false rest)
  where
    keys_plain : (b d : Bool) → b ≡ false → d ≡ false → elim b [ true ↦ keys_from true rest | false ↦ (if d then (λ (keys : List (List ℕ)). [] ∷ keys) else onto_first c) (keys_from false rest) ] ≡ onto_first c (keys_from false rest)
    keys_plain true d h g = cc
    keys_plain false true h g = cc
    keys_plain false false h g = refl

-- ---- a list of keys

-- one more key
pub path-next : (dots : Bool) (keys : List (List ℕ)) (key : List ℕ) → 0 < length keys → path_of_keys dots (keys ++ (key ∷ [])) ≡ path_of_keys dots keys ++ (1 ∷ key_bytes dots key)
path-next dots [] key some = absurd (omega arith)
path-next dots (k ∷ []) key some = refl
path-next dots (k ∷ next ∷ keys) key some = ap (λ rest. key_bytes dots k ++ (1 ∷ rest)) (path-next dots (next ∷ keys) key (omega arith)) ∙ sym (append_assoc (key_bytes dots k) (1 ∷ path_of_keys dots (next ∷ keys)) (1 ∷ key_bytes dots key))

-- the keys up to a place: the key there stands behind a byte 1, where it isn't the first
module _ {X : Type 0} (dots : Bool) (text : X → List ℕ) (keys : List X) (i : ℕ) (d : X) (within : i < length keys) where
  one_more : map text (take (i + 1) keys) ≡ map text (take i keys) ++ (text (get_or keys i d) ∷ [])
  one_more = rw add-one (ap (map text) (take-suc keys i d within) ∙ map-append text (take i keys) (get_or keys i d ∷ []))

  pub path-first_at : i ≤ 0 → path_of_keys dots (map text (take (i + 1) keys)) ≡ path_of_keys dots (map text (take i keys)) ++ key_bytes dots (text (get_or keys i d))
  path-first_at first =
      let none : take i keys ≡ [] = ap (λ n. take n keys) (let e : i ≡ 0 = omega arith in e) in
      ap (path_of_keys dots) one_more ∙ ap (λ before. path_of_keys dots (map text before ++ (text (get_or keys i d) ∷ []))) none ∙ sym (ap (λ before. path_of_keys dots (map text before) ++ key_bytes dots (text (get_or keys i d))) none)

  pub path-next_at : 0 < i → path_of_keys dots (map text (take (i + 1) keys)) ≡ path_of_keys dots (map text (take i keys)) ++ (1 ∷ key_bytes dots (text (get_or keys i d)))
  path-next_at later =
      let many : length (map text (take i keys)) ≡ i = length-map (take i keys) text ∙ length-take-le i keys (omega arith) in
      ap (path_of_keys dots) one_more ∙ path-next dots (map text (take i keys)) (text (get_or keys i d)) (omega arith)
