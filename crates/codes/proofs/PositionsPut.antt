-- Positions that are put, block by block.
use Rattle.std.proofs.Common.{[], List, ap, append-nil, ap₂, length, refl, subst, ◌++◌, ◌<◌, ◌≡◌, ◌∙◌, ℕ}
use Rattle.codes.specs.PositionBlocks.{AreSmall}
use Rattle.definitions.specs.NumberCodes.{sized_bytes}
use Rattle.layouts.specs.Positions.{AreBlocks, ArePositions}
use Rattle.layouts.specs.VintBlocks.{numbers_bytes}

-- the blocks so far, before those of what is left
abbrev pub Goes : List ℕ → List ℕ → List ℕ → List ℕ → Type 0
Goes numbers widths packed rest = (ws bs : List ℕ) → AreBlocks ws rest bs → AreBlocks (widths ++ ws) numbers (packed ++ bs)

-- and the rest
pub goes_all : (numbers widths packed rest : List ℕ) → Goes numbers widths packed rest → length rest < 128 → AreBlocks widths numbers (packed ++ numbers_bytes rest)
goes_all numbers widths packed rest goes few =
    let P : List ℕ → Type 0 = λ xs. AreBlocks xs numbers (packed ++ numbers_bytes rest) in
    subst P (append-nil widths) (goes [] (numbers_bytes rest) (few, refl))

-- the positions of a term
pub positions_put : (numbers widths packed : List ℕ) → AreSmall numbers → AreBlocks widths numbers packed → ArePositions numbers (sized_bytes widths ++ packed)
positions_put numbers widths packed small blocks = record { widths = widths; packed = packed; bytes_are = refl; blocks = blocks; small = small }

-- a term is closed: its positions stand behind the bytes before
pub term_closed : (was : List ℕ × List ℕ) (out waiting numbers widths ws packed ps none named whole lent all left : List ℕ) → ◌≡◌ {A = List ℕ × List ℕ} (out, waiting) was → AreSmall waiting → numbers ≡ waiting → ws ≡ widths → ps ≡ packed → AreBlocks widths numbers packed → none ≡ [] → named ≡ none ++ sized_bytes ws → whole ≡ named ++ ps → lent ≡ whole → all ≡ out ++ lent → left ≡ [] → (x : List ℕ) × ArePositions was.1 x × ◌≡◌ {A = List ℕ × List ℕ} (all, left) (was.0 ++ x, [])
term_closed was out waiting numbers widths ws packed ps none named whole lent all left seen small is names blocks_are blocks begun put_names put_blocks lent_is put nothing =
    let P : List ℕ → Type 0 = λ xs. AreBlocks widths xs packed in
    let here : ArePositions waiting (sized_bytes widths ++ packed) = positions_put waiting widths packed small (subst P is blocks) in
    let Q : List ℕ → Type 0 = λ xs. ArePositions xs (sized_bytes widths ++ packed) in
    let term : lent ≡ sized_bytes widths ++ packed =
    lent_is
    ∙ put_blocks
    ∙ ap₂ (λ a b. a ++ b) (put_names ∙ ap₂ (λ xs ys. xs ++ sized_bytes ys) begun names) blocks_are in
    let stands : all ≡ was.0 ++ (sized_bytes widths ++ packed) =
    put
    ∙ ap (λ xs. out ++ xs) term
    ∙ ap (λ p. p.0 ++ (sized_bytes widths ++ packed)) seen in
    (sized_bytes widths ++ packed, subst Q (ap (λ p. p.1) seen) here, ap₂ (λ a b. (a, b)) stands nothing)
