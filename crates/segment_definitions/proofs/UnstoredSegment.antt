-- A segment of two documents whose store has no block is none.
use Rattle.std.proofs.Common.{[], Bool, List, arith, false, flat_map, length, length-append, map, nat_le, refl, sum_by, true, ap, ◌++◌, ◌+◌, ◌<◌, ◌∷◌, ◌≡◌, ◌≤◌, ℕ}
use Rattle.std.specs.List.{concat}
use Rattle.std.proofs.lemmas.List.{length-map}
use Rattle.definitions.proofs.TokenTexts.{vint_some}
use Rattle.definitions.specs.NumberCodes.{vint_bytes}
use Rattle.layouts.specs.declared.checkpoint.Checkpoint.{Checkpoint}
use Rattle.layouts.specs.Stores.{Block, above, checkpoints, data_of, footer_bytes, group_len, index_of, layer_bytes, layers, layers_within, skip_index_bytes, store_bytes}
use Rattle.segment_definitions.specs.SegmentExamples.{bare_sections}
use Rattle.segment_definitions.specs.Segments.{IsSegment, Sections, section_bytes, segment_bytes}

-- a list that isn't empty takes two numbers
index_long : (spelled : List (List ℕ)) → 0 < length spelled → 2 ≤ length (index_of spelled)
index_long [] some = absurd (omega (arith, some))
index_long (layer ∷ more) some =
    let lens = flat_map (λ l. vint_bytes (length l)) more in
    omega (arith, vint_some (length (layer ∷ more)), vint_some (length layer), length-append (vint_bytes (length (layer ∷ more)) ++ (vint_bytes (length layer) ++ lens)) (concat (layer ∷ more)), length-append (vint_bytes (length (layer ∷ more))) (vint_bytes (length layer) ++ lens), length-append (vint_bytes (length layer)) lens)

layers_some : (c : Checkpoint) (cs : List Checkpoint) → 0 < length (layers (c ∷ cs))
layers_some c cs = go (nat_le (length (c ∷ cs)) group_len)
  where
    go : (b : Bool) → 0 < length {A = List Checkpoint} (elim b [ true ↦ (c ∷ cs) ∷ [] | false ↦ layers_within (length cs) (above (c ∷ cs)) ++ (c ∷ cs) ∷ [] ])
    go true = omega arith
    go false = omega (arith, length-append (layers_within (length cs) (above (c ∷ cs))) ((c ∷ cs) ∷ []))

-- a store of a block has more bytes than one of none
store_long : (b : Block) (bs : List Block) → 30 ≤ length (store_bytes (b ∷ bs))
store_long b bs =
    let cs = checkpoints 0 0 (b ∷ bs) in
    let some : 0 < length (layers cs) = layers_some (record { doc_range = record { start = 0; end = 0 + b.count }; byte_range = record { start = 0; end = 0 + length b.bytes } }) (checkpoints (0 + b.count) (0 + length b.bytes) bs) in
    let index : 2 ≤ length (skip_index_bytes cs) = index_long (map layer_bytes (layers cs)) (omega (arith, some, length-map (layers cs) layer_bytes)) in
    omega (arith, index, length-append (data_of (b ∷ bs) ++ skip_index_bytes cs) (footer_bytes (length (data_of (b ∷ bs)))), length-append (data_of (b ∷ bs)) (skip_index_bytes cs))

segment_long : (n : ℕ) (s : Sections) → 44 + length s.terms + length s.store ≤ length (segment_bytes n s)
segment_long n s =
    let two = s.terms ++ section_bytes s.postings in
    let three = two ++ section_bytes s.positions in
    let four = three ++ section_bytes s.norms in
    omega (arith, length-append four (section_bytes s.store), length-append three (section_bytes s.norms), length-append two (section_bytes s.positions), length-append s.terms (section_bytes s.postings))

-- a sections' store without a block
abbrev unstored : Sections
unstored = record bare_sections { store = store_bytes [] }

pub nothing_stored_of_two : ¬ IsSegment [] 2 (segment_bytes 2 unstored)
unfolding vint_bytes
nothing_stored_of_two s = go s.blocks s.store_is s.counted
  where
    long : length (segment_bytes 2 unstored) ≡ 74
    long = refl

    kind : 1 ≤ length s.sections.terms
    kind = let spelled = ap (λ (l : List ℕ). length l) s.terms_are.terms_are.1 in omega (arith, spelled)

    go : (blocks : List Block) → s.sections.store ≡ store_bytes blocks → sum_by (λ (b : Block). b.count) blocks ≡ 2 → ⊥
    go [] is counted = omega (arith, counted)
    go (b ∷ bs) is counted = omega (arith, store_long b bs, ap (λ (l : List ℕ). length l) is, segment_long 2 s.sections, ap (λ (l : List ℕ). length l) s.written.bytes_are, long, kind)
