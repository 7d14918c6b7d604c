-- The rows of segments, one after the other.
use Rattle.std.proofs.Common.{[], ◌*◌, ◌++◌, ◌+◌, ◌<◌, ◌∷◌, ◌≡◌, ◌≤◌, Bool, List, ap, arith, drop, length, not, refl, replicate, suc, true, ℕ}
use Rattle.std.proofs.Math.Nat.{mul-le-mul_left, mul-suc}
use Rattle.definitions.specs.Values.{Document}
use Rattle.index_state.specs.Flags.{flagged_each}
use Rattle.segment_definitions.specs.Rows.{flagged}
use Rattle.segment_definitions.specs.Waiting.{Numbered, is_removed, numbered_rows, struck_from}

-- segments behind those with flags change no row
pub each_more : (docs more : List (List Document)) (sets : List (List Bool)) → length sets ≤ length docs → flagged_each (docs ++ more) sets ≡ flagged_each docs sets
each_more docs more [] l = refl
each_more [] more (flags ∷ sets) l = absurd (omega (arith, l))
each_more (ds ∷ docs) more (flags ∷ sets) l = ap (λ rows. flagged ds flags ∷ rows) (each_more docs more sets (omega (arith, l)))

-- the flags of one segment more
pub each_push : (docs rest : List (List Document)) (sets : List (List Bool)) (ds : List Document) (flags : List Bool) → drop (length sets) docs ≡ ds ∷ rest → flagged_each docs (sets ++ flags ∷ []) ≡ flagged_each docs sets ++ flagged ds flags ∷ []
each_push docs rest [] ds flags e = ap (λ all. flagged_each all (flags ∷ [])) e
each_push [] rest (s ∷ sets) ds flags e = absurd (none_is (length sets) e)
  where
    none_is : (n : ℕ) → drop (suc n) [] ≡ ds ∷ rest → ⊥
    none_is n e = let same = ap length e in omega (arith, same)
each_push (x ∷ docs) rest (s ∷ sets) ds flags e = ap (λ rows. flagged x s ∷ rows) (each_push docs rest sets ds flags e)

pub length-each : (docs : List (List Document)) (sets : List (List Bool)) → length sets ≤ length docs → length (flagged_each docs sets) ≡ length sets
length-each docs [] l = refl
length-each [] (flags ∷ sets) l = absurd (omega (arith, l))
length-each (ds ∷ docs) (flags ∷ sets) l = ap suc (length-each docs sets (omega (arith, l)))

-- the rows of documents that are all alive, after deletions
pub rows_struck : (has : List ℕ → Document → Bool) (dels : List Numbered) (i : ℕ) (docs : List Document) → numbered_rows has dels i docs ≡ struck_from has dels i (flagged docs (replicate (length docs) true))
rows_struck has dels i [] = refl
rows_struck has dels i (doc ∷ docs) = ap (λ more. (doc, not (is_removed has dels i doc)) ∷ more) (rows_struck has dels (suc i) docs)

-- ---- numbers of deletions

-- a deletion in a later segment stands behind all documents of this one
pub behind_all : (n segments docs number long : ℕ) → number < segments → long ≤ n → n * number + long ≤ n * segments + docs
behind_all n segments docs number long l k =
    let more : n * suc number ≤ n * segments = mul-le-mul_left n l in
    let e = mul-suc n number in
    omega arith

-- a deletion in an earlier segment stands before them
pub before_all : (n segments docs number : ℕ) → segments < number → docs < n → n * segments + docs ≤ n * number
before_all n segments docs number l k =
    let more : n * suc segments ≤ n * number = mul-le-mul_left n l in
    let e = mul-suc n segments in
    omega arith
