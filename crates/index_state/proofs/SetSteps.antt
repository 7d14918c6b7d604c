-- One alive set more after a commit.
use Rattle.std.proofs.Common.{[], ◌*◌, ◌++◌, ◌+◌, ◌-◌, ◌∙◌, ◌∷◌, ◌≡◌, ◌≤◌, Bool, List, ap, ap₂, append_assoc, arith, drop, length, length-append, map, suc, sym, ℕ}
use Rattle.std.proofs.Math.Nat.{mul-suc}
use Rattle.definitions.specs.Alive.{Segment}
use Rattle.definitions.specs.Values.{Document}
use Rattle.index_state.proofs.EachFlagged.{each_push}
use Rattle.index_state.specs.Flags.{flagged_each}
use Rattle.segment_definitions.specs.Rows.{flagged}
use Rattle.segment_definitions.specs.Waiting.{Numbered, numbered_rows, pending_rows}

pub one_longer : {X : Type 0} (xs new : List X) (x : X) (at : ℕ) → new ≡ xs ++ x ∷ [] → length xs ≡ at → length new ≡ at + 1
one_longer xs new x at e l = let both = length-append xs (x ∷ []) in let same = ap length e in omega (arith, both, same, l)

-- the rows of one segment more, whatever follows them
pushed : (docs : List (List Document)) (sets new : List (List Bool)) (at : ℕ) (ds : List Document) (set : List Bool) → length sets ≡ at → drop at docs ≡ ds ∷ drop (at + 1) docs → new ≡ sets ++ set ∷ []
    → (row : Segment) → flagged ds set ≡ row → (more : List Segment) → flagged_each docs new ++ more ≡ flagged_each docs sets ++ row ∷ more
pushed docs sets new at ds set long here e row is more =
    let there : drop (length sets) docs ≡ ds ∷ drop (at + 1) docs = ap (λ i. drop i docs) long ∙ here in
    ap (λ all. flagged_each docs all ++ more) e
    ∙ ap (λ rows. rows ++ more) (each_push docs (drop (at + 1) docs) sets ds set there ∙ ap (λ r. flagged_each docs sets ++ r ∷ []) is)
    ∙ append_assoc (flagged_each docs sets) (row ∷ []) more

-- of a committed segment
pub left_step : (f : Segment → Segment) (docs : List (List Document)) (alive sets new : List (List Bool)) (at : ℕ) (ds : List Document) (flags set : List Bool) (all : List Segment)
    → length sets ≡ at → drop at docs ≡ ds ∷ drop (at + 1) docs → drop at alive ≡ flags ∷ drop (at + 1) alive → new ≡ sets ++ set ∷ [] → flagged ds set ≡ f (flagged ds flags)
    → flagged_each docs sets ++ map f (flagged_each (drop at docs) (drop at alive)) ≡ all
    → flagged_each docs new ++ map f (flagged_each (drop (at + 1) docs) (drop (at + 1) alive)) ≡ all
left_step f docs alive sets new at ds flags set all long here flagging e is before =
    pushed docs sets new at ds set long here e (f (flagged ds flags)) is (map f (flagged_each (drop (at + 1) docs) (drop (at + 1) alive)))
    ∙ ap (λ rows. flagged_each docs sets ++ map f rows) (sym (ap₂ (λ (xs : List (List Document)) (ys : List (List Bool)). flagged_each xs ys) here flagging))
    ∙ before

-- of one that waits
pub new_step : (has : List ℕ → Document → Bool) (dels : List Numbered) (n k : ℕ) (docs : List (List Document)) (sets new : List (List Bool)) (at : ℕ) (ds : List Document) (set : List Bool) (all : List Segment)
    → k ≤ at → length sets ≡ at → drop at docs ≡ ds ∷ drop (at + 1) docs → new ≡ sets ++ set ∷ [] → flagged ds set ≡ numbered_rows has dels (n * (at - k)) ds
    → flagged_each docs sets ++ pending_rows has dels n (n * (at - k)) (drop at docs) ≡ all
    → flagged_each docs new ++ pending_rows has dels n (n * (at + 1 - k)) (drop (at + 1) docs) ≡ all
new_step has dels n k docs sets new at ds set all behind long here e is before =
    let next : at + 1 - k ≡ suc (at - k) = omega (arith, behind) in
    let more = mul-suc n (at - k) in
    let from : n * (at - k) + n ≡ n * suc (at - k) = omega (arith, more) in
    let number : n * (at + 1 - k) ≡ n * (at - k) + n = ap (λ j. n * j) next ∙ sym from in
    ap (λ i. flagged_each docs new ++ pending_rows has dels n i (drop (at + 1) docs)) number
    ∙ pushed docs sets new at ds set long here e (numbered_rows has dels (n * (at - k)) ds) is (pending_rows has dels n (n * (at - k) + n) (drop (at + 1) docs))
    ∙ ap (λ gs. flagged_each docs sets ++ pending_rows has dels n (n * (at - k)) gs) (sym here)
    ∙ before
