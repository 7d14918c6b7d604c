use Rattle.std.proofs.Common.{List, false, subst, sym, true, ◌∙◌, ◌≡◌, ℕ}
use Rattle.segment_postings.specs.Reading.{HasPostings}
use Rattle.bench.proofs.score_walks.rows.Goals as goal

-- the bytes of a term whose documents have lengths with these ids
abbrev IsWrittenWith : ℕ → List ℕ → List ℕ → Type 0
IsWrittenWith num_docs bytes ids = (docs : List ℕ) × (counts : List ℕ) × (known : HasPostings true false num_docs bytes docs counts) × (known.ids ≡ ids)

same_ids : (num_docs : ℕ) (bytes lengths ids : List ℕ) → lengths ≡ ids → IsWrittenWith num_docs bytes lengths → IsWrittenWith num_docs bytes ids
same_ids num_docs bytes lengths ids same w = (w.0, w.1, w.2, w.3 ∙ same)

pub row-requires : goal.row-requires
row-requires c =
    let lengths = c.in_ok-lengths_of.ensures ∙ c.deref.ensures.value ∙ sym c.deref-in-loop-weight.ensures.value in
    let ids = c.deref-in-loop-weight.result.now in
    subst (λ bytes. IsWrittenWith c.args.num_docs bytes ids) (sym c.deref-in-loop-weight-3.ensures.value) (same_ids c.args.num_docs c.in_ok-bytes.bytes.items _ ids lengths c.in_ok-bytes.ensures)
