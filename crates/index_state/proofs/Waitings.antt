-- What one call more leaves of what waits, and the groups that a commit makes of it.
use Rattle.std.proofs.Common.{[], ◌*◌, ◌++◌, ◌+◌, ◌<◌, ◌∙◌, ◌∷◌, ◌≡◌, ◌≤◌, List, ap, ap₂, append_assoc, arith, length, length-append, map, refl, suc, sym, ℕ}
use Rattle.std.proofs.Math.Nat.{mul-suc}
use Rattle.std.proofs.lemmas.List.{append-nil}
use Rattle.std.specs.List.{AllByRecursion}
use Rattle.definitions.proofs.Joins.{joined}
use Rattle.definitions.specs.State.{Pending, added, as_group, deleted, deleted_terms}
use Rattle.definitions.specs.Values.{Document}
use Rattle.segment_definitions.specs.Waiting.{AllLong, Numbered, Waits, deletions_from, docs_of}

-- ---- the documents and the deletions of one call more

docs_added : (calls : List Pending) (doc : Document) → docs_of (calls ++ added doc ∷ []) ≡ docs_of calls ++ doc ∷ []
docs_added [] doc = refl
docs_added (added d ∷ calls) doc = ap (λ docs. d ∷ docs) (docs_added calls doc)
docs_added (deleted t ∷ calls) doc = docs_added calls doc

docs_deleted : (calls : List Pending) (t : List ℕ) → docs_of (calls ++ deleted t ∷ []) ≡ docs_of calls
docs_deleted [] t = refl
docs_deleted (added d ∷ calls) t = ap (λ docs. d ∷ docs) (docs_deleted calls t)
docs_deleted (deleted u ∷ calls) t = docs_deleted calls t

deletions_added : (n : ℕ) (calls : List Pending) (doc : Document) → deletions_from n (calls ++ added doc ∷ []) ≡ deletions_from n calls
deletions_added n [] doc = refl
deletions_added n (added d ∷ calls) doc = deletions_added (suc n) calls doc
deletions_added n (deleted t ∷ calls) doc = ap (λ dels. (t, n) ∷ dels) (deletions_added n calls doc)

deletions_deleted : (n : ℕ) (calls : List Pending) (t : List ℕ) → deletions_from n (calls ++ deleted t ∷ []) ≡ deletions_from n calls ++ (t, n + length (docs_of calls)) ∷ []
deletions_deleted n [] t = let e : n ≡ n + 0 = omega arith in ap (λ m. (t, m) ∷ []) e
deletions_deleted n (added d ∷ calls) t = let e : suc n + length (docs_of calls) ≡ n + suc (length (docs_of calls)) = omega arith in
    deletions_deleted (suc n) calls t ∙ ap (λ m. deletions_from (suc n) calls ++ (t, m) ∷ []) e
deletions_deleted n (deleted u ∷ calls) t = ap (λ dels. (u, n) ∷ dels) (deletions_deleted n calls t)

-- the terms of the deletions
pub terms_numbered : (calls : List Pending) (n : ℕ) → deleted_terms calls ≡ map (λ d. d.0) (deletions_from n calls)
terms_numbered [] n = refl
terms_numbered (added doc ∷ calls) n = terms_numbered calls (suc n)
terms_numbered (deleted t ∷ calls) n = ap (λ ts. t ∷ ts) (terms_numbered calls n)

-- ---- sizes

pub length-full : (n : ℕ) (full : List (List Document)) → AllLong n full → length (joined full) ≡ n * length full
length-full n [] long = omega arith
length-full n (docs ∷ full) long =
    let rest = length-full n full long.1 in
    let both = length-append docs (joined full) in
    let more = mul-suc n (length full) in
    let one = long.0 in
    omega (arith, rest, both, more, one)

long_more : (n : ℕ) (full : List (List Document)) (docs : List Document) → AllLong n full → length docs ≡ n → AllLong n (full ++ docs ∷ [])
long_more n [] docs long e = (e, tt)
long_more n (ds ∷ full) docs long e = (long.0, long_more n full docs long.1 e)

joined_more : (full : List (List Document)) (docs : List Document) → joined (full ++ docs ∷ []) ≡ joined full ++ docs
joined_more [] docs = append-nil docs
joined_more (ds ∷ full) docs = ap (λ more. ds ++ more) (joined_more full docs) ∙ sym (append_assoc ds (joined full) docs)

-- no segment has more documents than a full one
pub all_within : (n : ℕ) (full : List (List Document)) (last : List Document) → AllLong n full → length last < n → AllByRecursion (λ docs. length docs ≤ n) (full ++ as_group last)
all_within n [] [] long short = tt
all_within n [] (doc ∷ docs) long short = (omega arith, tt)
all_within n (g ∷ full) last long short = (let e = long.0 in omega (arith, e), all_within n full last long.1 short)

-- ---- one call more

module _ (n : ℕ) (pending : List Pending) (full : List (List Document)) (last : List Document) (dels : List Numbered) (w : Waits n pending full last dels) where
  docs_more : (doc : Document) → docs_of (pending ++ added doc ∷ []) ≡ joined full ++ (last ++ doc ∷ [])
  docs_more doc = docs_added pending doc ∙ ap (λ docs. docs ++ doc ∷ []) w.docs ∙ append_assoc (joined full) last (doc ∷ [])

  -- a document more in a segment that isn't full then
  pub added_open : (doc : Document) → length (last ++ doc ∷ []) < n → Waits n (pending ++ added doc ∷ []) full (last ++ doc ∷ []) dels
  added_open doc less = record {
    docs = docs_more doc;
    long = w.long;
    short = less;
    deletions = deletions_added 0 pending doc ∙ w.deletions;
  }

  -- a document more that fills the segment
  pub added_closed : (doc : Document) → n ≤ length (last ++ doc ∷ []) → Waits n (pending ++ added doc ∷ []) (full ++ (last ++ doc ∷ []) ∷ []) [] dels
  added_closed doc more =
      let few = w.short in
      let one = length-append last (doc ∷ []) in
      record {
        docs = docs_more doc ∙ sym (joined_more full (last ++ doc ∷ [])) ∙ sym (append-nil (joined (full ++ (last ++ doc ∷ []) ∷ [])));
        long = long_more n full (last ++ doc ∷ []) w.long (omega (arith, few, one, more));
        short = omega (arith, few);
        deletions = deletions_added 0 pending doc ∙ w.deletions;
      }

  -- a deletion more
  pub deleted_more : (t : List ℕ) → Waits n (pending ++ deleted t ∷ []) full last (dels ++ (t, n * length full + length last) ∷ [])
  deleted_more t =
      let none : 0 + length (docs_of pending) ≡ length (docs_of pending) = omega arith in
      let number : 0 + length (docs_of pending) ≡ n * length full + length last = none ∙ ap length w.docs ∙ length-append (joined full) last ∙ ap (λ k. k + length last) (length-full n full w.long) in
      record {
        docs = docs_deleted pending t ∙ w.docs;
        long = w.long;
        short = w.short;
        deletions = deletions_deleted 0 pending t ∙ ap₂ (λ (ds : List Numbered) (k : ℕ). ds ++ (t, k) ∷ []) w.deletions number;
      }

-- nothing waits
pub nothing_waits : (n : ℕ) → 0 < n → Waits n [] [] [] []
nothing_waits n some = record { docs = refl; long = tt; short = some; deletions = refl }
