-- Cursors have no document from the end on.
use Rattle.std.proofs.Common.{[], List, ap, arith, length, refl, replicate, ◌+◌, ◌∙◌, ◌∷◌, ◌≡◌, ◌≤◌, ℕ}
use Rattle.std.proofs.lemmas.List.{length-replicate}
use Rattle.std.specs.List.{AllByRecursion}
use Rattle.docsets.specs.Entries.{Entry, Rising, from}
use Rattle.docsets.proofs.EntryLaws.{from-out}
use Rattle.definitions.specs.Postings.{terminated}

pub none-behind : (low n : ℕ) (es : List Entry) → terminated ≤ n → Rising low es → from n es ≡ []
none-behind low n [] end r = refl
none-behind low n (e ∷ es) end r = from-out n e es (let small = r.1 in omega (arith, small, end)) ∙ none-behind (e.doc + 1) n es end r.3

pub all-covered : {X : Type 0} (entries : X → List Entry) (rising : (x : X) → Rising 0 (entries x)) (n : ℕ) (ts : List (ℕ × X)) → terminated ≤ n → AllByRecursion (λ t. from n (entries t.1) ≡ []) ts
all-covered entries rising n [] end = tt
all-covered entries rising n (t ∷ ts) end = (none-behind 0 n (entries t.1) end (rising t.1), all-covered entries rising n ts end)

-- as many length ids as documents
pub many-lengths : (n id : ℕ) (ids : List ℕ) → ids ≡ replicate n id → n ≤ length ids
many-lengths n id ids are = (let many = ap length are ∙ length-replicate n id in omega (arith, many))
