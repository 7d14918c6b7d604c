-- Lists of one document each, one after the other: no document is in two of them.
use Rattle.std.proofs.Common.{[], Bool, List, ap, arith, false, filter, length, map, nat_le, refl, suc, true, zero, ◌+◌, ◌<◌, ◌==◌, ◌∷◌, ◌≡◌, ◌≤◌, ℕ}
use Rattle.std.specs.List.{range_with_len}
use Rattle.std.specs.Prelude.{sum}
use Rattle.std.proofs.lemmas.Bool.Decides.{nat_tests}
use Rattle.definitions.specs.ScoredLists.{ScoredList, all_documents, at_least, each_scoring, scores_at}

-- `n` lists of one document, from `first` on
abbrev singles : ℕ → ℕ → List ScoredList
singles first n = map (λ doc. each_scoring 1 (doc ∷ [])) (range_with_len first n)

-- those before the first are in none
before_all : (doc first n : ℕ) → doc < first → scores_at doc (singles first n) ≡ []
before_all doc first zero less = refl
before_all doc first (suc n) less =
    let other : (first == doc) ≡ false = grind (arith, nat_tests, less) in
    rw other (before_all doc (first + 1) n (omega (arith, less)))

in_one : (doc first n : ℕ) → length (scores_at doc (singles first n)) ≤ 1
in_one doc first zero = omega arith
in_one doc first (suc n) = go (first == doc) refl (in_one doc (first + 1) n)
  where
    go : (b : Bool) → (first == doc) ≡ b → length (scores_at doc (singles (first + 1) n)) ≤ 1 → length (scores_at doc (singles first (suc n))) ≤ 1
    go true here more =
        let same : first ≡ doc = grind (arith, nat_tests, here) in
        rw here (rw (before_all doc (first + 1) n (omega (arith, same))) (omega arith))
    go false other more = rw other more

none_pass : {X : Type 0} (test : X → Bool) → ((x : X) → test x ≡ false) → (xs : List X) → filter test xs ≡ []
none_pass test fails [] = refl
none_pass test fails (x ∷ xs) = rw (fails x) (none_pass test fails xs)

pub no_two_meet : (first n : ℕ) → at_least 2 sum (singles first n) ≡ []
no_two_meet first n =
    let few : (doc : ℕ) → nat_le 2 (length (scores_at doc (singles first n))) ≡ false = λ doc. (let one = in_one doc first n in grind (arith, nat_tests, one)) in
    ap (λ docs. map (λ doc. (doc, sum (scores_at doc (singles first n)))) docs) (none_pass (λ doc. nat_le 2 (length (scores_at doc (singles first n)))) few (all_documents (singles first n)))
