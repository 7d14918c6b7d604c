-- Laws of a term's entries.
use Rattle.std.proofs.Common.{[], ◌+◌, ◌∷◌, ◌≤◌, List, arith, drop, get_or, suc, zero, ℕ}
use Rattle.docsets.specs.Entries.{Rising}
use Rattle.segment_postings.specs.Reading.{Ascends}
use Rattle.segment_postings.specs.TermEntries.{entries_of}

-- they rise as the documents ascend
pub Rising-entries_of : (low : ℕ) (docs counts numbers : List ℕ) → Ascends low docs → Rising low (entries_of docs counts numbers)
Rising-entries_of low [] counts numbers a = tt
Rising-entries_of low (d ∷ ds) counts numbers a = (a.0, a.1, omega arith, Rising-entries_of (d + 1) ds (drop 1 counts) (drop (get_or counts 0 0) numbers) a.2)

pub Ascends-from_lower : (low high : ℕ) (docs : List ℕ) → low ≤ high → Ascends high docs → Ascends low docs
Ascends-from_lower low high [] l a = tt
Ascends-from_lower low high (d ∷ ds) l a = (omega (arith, l, a.0), a.1, a.2)

-- documents that ascend still do behind some
pub Ascends-behind : (n low : ℕ) (docs : List ℕ) → Ascends low docs → Ascends low (drop n docs)
Ascends-behind zero low docs a = a
Ascends-behind (suc n) low [] a = tt
Ascends-behind (suc n) low (d ∷ ds) a = Ascends-from_lower low (d + 1) (drop n ds) (omega (arith, a.0)) (Ascends-behind n (d + 1) ds a.2)
