-- What is known of bytes is known in one way.
use Rattle.std.proofs.Common.{[], ◌+◌, ◌∷◌, Bool, List, drop, ℕ}
use Rattle.std.specs.Coded.{Unit-prop}
use Rattle.std.proofs.Props.{props}
use Rattle.layouts.specs.SkipEntries.{SkipEntry}
use Rattle.segment_postings.specs.Reading.{AreReadable, Ascends, StandsIn}
use Rattle.codes.specs.SkipBlocks.{Skips, block_size}

pub AreReadable-prop : (reads sums : Bool) (before : ℕ) (es : List SkipEntry) (n : ℕ) (bytes : List ℕ) → IsProp (AreReadable reads sums before es n bytes)
AreReadable-prop reads sums before [] n bytes = hlevel props
AreReadable-prop reads sums before (e ∷ es) n bytes = let rest : IsProp (AreReadable reads sums e.last_doc es n (drop (block_size e) bytes)) = AreReadable-prop reads sums e.last_doc es n (drop (block_size e) bytes) in hlevel (props, rest)

pub Ascends-prop : (next : ℕ) (docs : List ℕ) → IsProp (Ascends next docs)
Ascends-prop next [] = Unit-prop
Ascends-prop next (doc ∷ docs) = let rest : IsProp (Ascends (doc + 1) docs) = Ascends-prop (doc + 1) docs in hlevel (props, rest)

pub StandsIn-prop : (reads sums : Bool) (before : ℕ) (skips : Skips) (bytes : List ℕ) → IsProp (StandsIn reads sums before skips bytes)
StandsIn-prop reads sums before skips bytes = let readable : IsProp (AreReadable reads sums before skips.left skips.rest (drop skips.byte_offset bytes)) = AreReadable-prop reads sums before skips.left skips.rest (drop skips.byte_offset bytes) in hlevel (props, readable)
