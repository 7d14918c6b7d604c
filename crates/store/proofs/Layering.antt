-- Layers of groups: how they are spelled, and how the lowest is read.
use Rattle.std.proofs.Common.{ℕ, zero, suc, List, [], ◌∷◌, ◌++◌, ◌≡◌, ◌≤◌, ◌<◌, ◌+◌, ◌-◌, ◌*◌, ◌/◌, Bool, true, false, map, nat_le, refl, sym, ap, ap₂, ◌∙◌, arith, append_assoc, append-nil, length, take, drop, get_or, flat_map, length-append, min}
use Rattle.std.proofs.lemmas.Bool.Decides.{nat_tests}
use Rattle.std.proofs.lemmas.List.{length-drop, take_all, drop_all}
use Rattle.std.specs.declared.ops.Range.{Range}
use Rattle.definitions.specs.NumberCodes.{vint_bytes}
use Rattle.definitions.specs.State.{groups_of, pieces}
use Rattle.layouts.specs.Stores.{above, doc_end, group_bytes, group_checkpoints, group_docs, layer_bytes, layers, layers_within, skip_index_bytes}
use Rattle.layouts.specs.declared.checkpoint.Checkpoint.{Checkpoint}
use Rattle.store.specs.Spelling.{layer_lengths, layers_bytes}

-- ---- pieces of eight

pub pieces_more : {X : Type 0} (xs : List X) → 0 < length xs → pieces 8 xs ≡ take 8 xs ∷ pieces 8 (drop 8 xs)
pieces_more xs some =
    let left = length-drop 8 xs in
    let e : (length xs + 8 - 1) / 8 ≡ suc ((length (drop 8 xs) + 8 - 1) / 8) = omega (arith, left) in
    ap (λ n. groups_of n 8 xs) e

pub take_few : {X : Type 0} (xs : List X) → take (min (length xs) 8) xs ≡ take 8 xs
take_few xs = go (nat_le (length xs) 8) refl
  where
    go : (b : Bool) → nat_le (length xs) 8 ≡ b → take (min (length xs) 8) xs ≡ take 8 xs
    go true e = (let few : length xs ≤ 8 = grind (arith, nat_tests) in take_all (min (length xs) 8) xs (omega arith) ∙ sym (take_all 8 xs few))
    go false e = (let many : 8 < length xs = grind (arith, nat_tests) in let e : min (length xs) 8 ≡ 8 = omega arith in ap (λ n. take n xs) e)

pub drop_few : {X : Type 0} (xs : List X) → drop (min (length xs) 8) xs ≡ drop 8 xs
drop_few xs = go (nat_le (length xs) 8) refl
  where
    go : (b : Bool) → nat_le (length xs) 8 ≡ b → drop (min (length xs) 8) xs ≡ drop 8 xs
    go true e = (let few : length xs ≤ 8 = grind (arith, nat_tests) in drop_all (min (length xs) 8) xs (omega arith) ∙ sym (drop_all 8 xs few))
    go false e = (let many : 8 < length xs = grind (arith, nat_tests) in let e : min (length xs) 8 ≡ 8 = omega arith in ap (λ n. drop n xs) e)

-- ---- a layer's bytes

pub layer_more : (cs : List Checkpoint) → 0 < length cs → layer_bytes cs ≡ group_bytes (take 8 cs) ++ layer_bytes (drop 8 cs)
layer_more cs some = ap (flat_map group_bytes) (pieces_more cs some)

-- one group of a layer is put
pub layer_put : (out new whole : List ℕ) (cs group after : List Checkpoint) → out ++ layer_bytes cs ≡ whole → 0 < length cs → group ≡ take (min (length cs) 8) cs → after ≡ drop (min (length cs) 8) cs → new ≡ out ++ group_bytes group → new ++ layer_bytes after ≡ whole
layer_put out new whole cs group after left some g a put =
    ap₂ (λ xs ds. xs ++ layer_bytes ds) put (a ∙ drop_few cs)
    ∙ append_assoc out (group_bytes group) (layer_bytes (drop 8 cs))
    ∙ ap (λ ds. out ++ (group_bytes ds ++ layer_bytes (drop 8 cs))) (g ∙ take_few cs)
    ∙ ap (λ xs. out ++ xs) (sym (layer_more cs some))
    ∙ left

-- ---- the layer above

-- the layer above the groups from a byte of a layer on
abbrev pub above_from : ℕ → List Checkpoint → List Checkpoint
above_from at cs = group_checkpoints at (pieces 8 cs)

pub above_more : (at : ℕ) (cs : List Checkpoint) → 0 < length cs → above_from at cs ≡ record { doc_range = group_docs (take 8 cs); byte_range = record { start = at; end = at + length (group_bytes (take 8 cs)) } } ∷ above_from (at + length (group_bytes (take 8 cs))) (drop 8 cs)
above_more at cs some = ap (group_checkpoints at) (pieces_more cs some)

-- one group of a layer is put, and where it stands
pub above_put : (b0 b1 : List ℕ) (docs : Range ℕ) (out new whole : List Checkpoint) (cs group after : List Checkpoint) → out ++ above_from (length b0) cs ≡ whole → 0 < length cs → group ≡ take (min (length cs) 8) cs → after ≡ drop (min (length cs) 8) cs → b1 ≡ b0 ++ group_bytes group → docs ≡ group_docs group → new ≡ out ++ record { doc_range = docs; byte_range = record { start = length b0; end = length b1 } } ∷ [] → new ++ above_from (length b1) after ≡ whole
above_put b0 b1 docs out new whole cs group after left some g a spelled of_docs put =
    let same : group ≡ take 8 cs = g ∙ take_few cs in
    let ends : length b1 ≡ length b0 + length (group_bytes (take 8 cs)) = ap length spelled ∙ length-append b0 (group_bytes group) ∙ ap (λ ds. length b0 + length (group_bytes ds)) same in
    let from : Range ℕ → ℕ → List Checkpoint = λ ds n. record { doc_range = ds; byte_range = record { start = length b0; end = n } } ∷ above_from n (drop 8 cs) in
    ap₂ (λ xs ds. xs ++ above_from (length b1) ds) put (a ∙ drop_few cs)
    ∙ append_assoc out (record { doc_range = docs; byte_range = record { start = length b0; end = length b1 } } ∷ []) (above_from (length b1) (drop 8 cs))
    ∙ ap₂ (λ ds n. out ++ from ds n) (of_docs ∙ ap group_docs same) ends
    ∙ ap (λ xs. out ++ xs) (sym (above_more (length b0) cs some))
    ∙ left

-- a run ends where its last one does
ends_last : (cs : List Checkpoint) (c d : Checkpoint) → doc_end c.doc_range.end cs ≡ (get_or (c ∷ cs) (length cs) d).doc_range.end
ends_last [] c d = refl
ends_last (e ∷ cs) c d = ends_last cs e d

-- as the code reads it
pub docs_read : (group : List Checkpoint) (c d : Checkpoint) → 0 < length group → record { start = (get_or group 0 c).doc_range.start; end = (get_or group (length group - 1) d).doc_range.end } ≡ group_docs group
docs_read [] c d some = absurd (omega arith)
docs_read (e ∷ cs) c d some =
    let at : length (e ∷ cs) - 1 ≡ length cs = omega arith in
    let of : ℕ → Range ℕ = λ n. record { start = e.doc_range.start; end = n } in
    ap of (ap (λ n. (get_or (e ∷ cs) n d).doc_range.end) at ∙ sym (ends_last cs e d))

-- a layer above is at most an eighth, rounded up
above_within : (fuel at : ℕ) (cs : List Checkpoint) → length cs ≤ fuel → 8 * length (above_from at cs) ≤ length cs + 7
above_within fuel at [] few = omega arith
above_within zero at (c ∷ cs) few = absurd (omega arith)
above_within (suc fuel) at (c ∷ cs) few =
    let all : List Checkpoint = c ∷ cs in
    let left = length-drop 8 all in
    let next : ℕ = at + length (group_bytes (take 8 all)) in
    let later = above_within fuel next (drop 8 all) (omega (arith, left)) in
    let e : length (above_from at all) ≡ suc (length (above_from next (drop 8 all))) = ap length (above_more at all (omega arith)) in
    omega (arith, left)

pub above_fewer : (cs : List Checkpoint) → 8 < length cs → length (above cs) < length cs
above_fewer cs many = (let within = above_within (length cs) 0 cs (omega arith) in omega arith)

-- ---- all layers

-- whether it is the top one
abbrev step : Bool → ℕ → List Checkpoint → List (List Checkpoint)
step b fuel cs = elim b [ true ↦ cs ∷ [] | false ↦ layers_within fuel (above cs) ++ cs ∷ [] ]

within_top : (fuel : ℕ) (cs : List Checkpoint) → 0 < length cs → length cs ≤ 8 → layers_within (suc fuel) cs ≡ cs ∷ []
within_top fuel [] some few = absurd (omega arith)
within_top fuel (c ∷ cs) some few = (let e : nat_le (length (c ∷ cs)) 8 ≡ true = grind (arith, nat_tests) in ap (λ b. step b fuel (c ∷ cs)) e)

within_more : (fuel : ℕ) (cs : List Checkpoint) → 8 < length cs → layers_within (suc fuel) cs ≡ layers_within fuel (above cs) ++ cs ∷ []
within_more fuel [] many = absurd (omega arith)
within_more fuel (c ∷ cs) many = (let e : nat_le (length (c ∷ cs)) 8 ≡ false = grind (arith, nat_tests) in ap (λ b. step b fuel (c ∷ cs)) e)

within_none : (fuel : ℕ) → layers_within fuel [] ≡ []
within_none zero = refl
within_none (suc fuel) = refl

-- fuel past the number of checkpoints changes nothing
within_any : (f g : ℕ) (cs : List Checkpoint) → length cs ≤ f → length cs ≤ g → layers_within f cs ≡ layers_within g cs
within_any f g [] low high = within_none f ∙ sym (within_none g)
within_any zero g (c ∷ cs) low high = absurd (omega arith)
within_any (suc f) zero (c ∷ cs) low high = absurd (omega arith)
within_any (suc f) (suc g) (c ∷ cs) low high = go (nat_le (length (c ∷ cs)) 8) refl (within_any f g (above (c ∷ cs)))
  where
    go : (b : Bool) → nat_le (length (c ∷ cs)) 8 ≡ b → (length (above (c ∷ cs)) ≤ f → length (above (c ∷ cs)) ≤ g → layers_within f (above (c ∷ cs)) ≡ layers_within g (above (c ∷ cs))) → layers_within (suc f) (c ∷ cs) ≡ layers_within (suc g) (c ∷ cs)
    go true e rest = (let few : length (c ∷ cs) ≤ 8 = grind (arith, nat_tests) in within_top f (c ∷ cs) (omega arith) few ∙ sym (within_top g (c ∷ cs) (omega arith) few))
    go false e rest =
        let many : 8 < length (c ∷ cs) = grind (arith, nat_tests) in
        let fewer = above_fewer (c ∷ cs) many in
        within_more f (c ∷ cs) many ∙ ap (λ ls. ls ++ (c ∷ cs) ∷ []) (rest (omega arith) (omega arith)) ∙ sym (within_more g (c ∷ cs) many)

pub layers_top : (cs : List Checkpoint) → 0 < length cs → length cs ≤ 8 → layers cs ≡ cs ∷ []
layers_top [] some few = absurd (omega arith)
layers_top (c ∷ cs) some few = within_top (length cs) (c ∷ cs) some few

pub layers_more : (cs : List Checkpoint) → 8 < length cs → layers cs ≡ layers (above cs) ++ cs ∷ []
layers_more [] many = absurd (omega arith)
layers_more (c ∷ cs) many =
    let fewer = above_fewer (c ∷ cs) many in
    within_more (length cs) (c ∷ cs) many
    ∙ ap (λ ls. ls ++ (c ∷ cs) ∷ []) (within_any (length cs) (length (above (c ∷ cs))) (above (c ∷ cs)) (omega arith) (omega arith))

-- the lowest layer is the last one
pub layers_lowest : (cs : List Checkpoint) → 0 < length cs → (upper : List (List Checkpoint)) × (layers cs ≡ upper ++ cs ∷ [])
layers_lowest cs some = go (nat_le (length cs) 8) refl
  where
    go : (b : Bool) → nat_le (length cs) 8 ≡ b → (upper : List (List Checkpoint)) × (layers cs ≡ upper ++ cs ∷ [])
    go true e = (let few : length cs ≤ 8 = grind (arith, nat_tests) in ([], layers_top cs some few))
    go false e = (let many : 8 < length cs = grind (arith, nat_tests) in (layers (above cs), layers_more cs many))

-- ---- as the code puts them

lengths_last : (ls : List (List Checkpoint)) (cs : List Checkpoint) → layer_lengths (ls ++ cs ∷ []) ≡ layer_lengths ls ++ length (layer_bytes cs) ∷ []
lengths_last [] cs = refl
lengths_last (l ∷ ls) cs = ap (λ ns. length (layer_bytes l) ∷ ns) (lengths_last ls cs)

bytes_last : (ls : List (List Checkpoint)) (cs : List Checkpoint) → layers_bytes (ls ++ cs ∷ []) ≡ layers_bytes ls ++ layer_bytes cs
bytes_last [] cs = append-nil (layer_bytes cs)
bytes_last (l ∷ ls) cs = ap (λ bs. layer_bytes l ++ bs) (bytes_last ls cs) ∙ sym (append_assoc (layer_bytes l) (layers_bytes ls) (layer_bytes cs))

-- the layers above, and then the lowest
pub lengths_more : (n0 n1 n2 : List ℕ) (cs : List Checkpoint) → 8 < length cs → n1 ≡ n0 ++ layer_lengths (layers (above cs)) → n2 ≡ n1 ++ length (layer_bytes cs) ∷ [] → n2 ≡ n0 ++ layer_lengths (layers cs)
lengths_more n0 n1 n2 cs many first second =
    second ∙ ap (λ ns. ns ++ length (layer_bytes cs) ∷ []) first
    ∙ append_assoc n0 (layer_lengths (layers (above cs))) (length (layer_bytes cs) ∷ [])
    ∙ ap (λ ns. n0 ++ ns) (sym (lengths_last (layers (above cs)) cs) ∙ ap layer_lengths (sym (layers_more cs many)))

pub bytes_more : (b0 b1 b2 : List ℕ) (cs : List Checkpoint) → 8 < length cs → b1 ≡ b0 ++ layers_bytes (layers (above cs)) → b2 ≡ b1 ++ layer_bytes cs → b2 ≡ b0 ++ layers_bytes (layers cs)
bytes_more b0 b1 b2 cs many first second =
    second ∙ ap (λ bs. bs ++ layer_bytes cs) first
    ∙ append_assoc b0 (layers_bytes (layers (above cs))) (layer_bytes cs)
    ∙ ap (λ bs. b0 ++ bs) (sym (bytes_last (layers (above cs)) cs) ∙ ap layers_bytes (sym (layers_more cs many)))

pub lengths_top : (n0 n1 : List ℕ) (cs : List Checkpoint) → 0 < length cs → length cs ≤ 8 → n1 ≡ n0 ++ length (layer_bytes cs) ∷ [] → n1 ≡ n0 ++ layer_lengths (layers cs)
lengths_top n0 n1 cs some few put = put ∙ ap (λ ls. n0 ++ layer_lengths ls) (sym (layers_top cs some few))

pub bytes_top : (b0 b1 : List ℕ) (cs : List Checkpoint) → 0 < length cs → length cs ≤ 8 → b1 ≡ b0 ++ layer_bytes cs → b1 ≡ b0 ++ layers_bytes (layers cs)
bytes_top b0 b1 cs some few put = put ∙ ap (λ xs. b0 ++ xs) (sym (append-nil (layer_bytes cs))) ∙ ap (λ ls. b0 ++ layers_bytes ls) (sym (layers_top cs some few))

length-layers : (ls : List (List Checkpoint)) → length (layer_lengths ls) ≡ length (map layer_bytes ls)
length-layers [] = refl
length-layers (l ∷ ls) = ap suc (length-layers ls)

lengths_spelled : (ls : List (List Checkpoint)) → flat_map vint_bytes (layer_lengths ls) ≡ flat_map (λ layer. vint_bytes (length layer)) (map layer_bytes ls)
lengths_spelled [] = refl
lengths_spelled (l ∷ ls) = ap (λ bs. vint_bytes (length (layer_bytes l)) ++ bs) (lengths_spelled ls)

pub index_put : (out o1 o2 lengths body : List ℕ) (cs : List Checkpoint) → lengths ≡ layer_lengths (layers cs) → body ≡ layers_bytes (layers cs) → o1 ≡ out ++ (vint_bytes (length lengths) ++ flat_map vint_bytes lengths) → o2 ≡ o1 ++ body → o2 ≡ out ++ skip_index_bytes cs
index_put out o1 o2 lengths body cs n b first second =
    let ls : List (List Checkpoint) = layers cs in
    second ∙ ap₂ (λ xs ys. xs ++ ys) first b
    ∙ append_assoc out (vint_bytes (length lengths) ++ flat_map vint_bytes lengths) (layers_bytes ls)
    ∙ ap (λ ns. out ++ ((vint_bytes (length ns) ++ flat_map vint_bytes ns) ++ layers_bytes ls)) n
    ∙ ap₂ (λ k xs. out ++ ((vint_bytes k ++ xs) ++ layers_bytes ls)) (length-layers ls) (lengths_spelled ls)
