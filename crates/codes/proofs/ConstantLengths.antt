-- The ids of documents that all have one length.
use Rattle.std.proofs.Common.{arith, replicate, slice_index, suc, zero, ◌<◌, ℕ}

-- each of them is the one that is repeated
pub each_same : (num_docs id doc : ℕ) → id < 256 → slice_index (replicate num_docs id) doc < 256
each_same zero id doc fits = omega arith
each_same (suc num_docs) id zero fits = fits
each_same (suc num_docs) id (suc doc) fits = each_same num_docs id doc fits
