-- Laws of the entries of phrase prefixes.
use Rattle.std.proofs.Common.{[], ◌+◌, ◌<◌, ◌∙◌, ◌∷◌, ◌≡◌, ◌≤◌, List, ap, arith, false, if◌then◌else◌, map, nat_lt, refl, sym, true, ℕ}
use Rattle.std.proofs.lemmas.Bool.Decides.{nat_tests}
use Rattle.docsets.specs.Entries.{Entry, IsRest, Rising, first, from, most_positions, single}
use Rattle.docsets.specs.EntryLaws.{Rising-lower}
use Rattle.docsets.proofs.EntryLaws.{from-in, from-out, most-drop, most-from}
use Rattle.definitions.proofs.Lists.{by_order}
use Rattle.docsets.proofs.MemberLaws.{entries_at-kept}
use Rattle.phrases.specs.PrefixEntries.{continued_by, counted, follows, most_suffix_positions, prefixed}

prefixed-none : (moved : ℕ) (ess : List (List Entry)) (e : Entry) (es : List Entry) → follows moved ess e ≡ 0 → prefixed moved ess (e ∷ es) ≡ prefixed moved ess es
prefixed-none moved ess e es none = ap (λ n. if nat_lt 0 n then counted e n ∷ prefixed moved ess es else prefixed moved ess es) none

prefixed-some : (moved : ℕ) (ess : List (List Entry)) (e : Entry) (es : List Entry) → 0 < follows moved ess e → prefixed moved ess (e ∷ es) ≡ counted e (follows moved ess e) ∷ prefixed moved ess es
prefixed-some moved ess e es some = (let b : nat_lt 0 (follows moved ess e) ≡ true = grind (arith, nat_tests, some) in ap (λ b. if b then counted e (follows moved ess e) ∷ prefixed moved ess es else prefixed moved ess es) b)

pub from-prefixed : (moved : ℕ) (ess : List (List Entry)) (t : ℕ) (es : List Entry) → from t (prefixed moved ess es) ≡ prefixed moved ess (from t es)
from-prefixed moved ess t [] = refl
from-prefixed moved ess t (e ∷ es) =
    let ih = from-prefixed moved ess t es in
    let n : ℕ = follows moved ess e in
    by_order t e.doc (from t (prefixed moved ess (e ∷ es)) ≡ prefixed moved ess (from t (e ∷ es)))
    (λ i. by_order 1 n (from t (prefixed moved ess (e ∷ es)) ≡ prefixed moved ess (from t (e ∷ es)))
    (λ some. ap (from t) (prefixed-some moved ess e es (omega (arith, some))) ∙ (from-in t (counted e n) (prefixed moved ess es) i ∙ (ap (λ xs. counted e n ∷ xs) ih ∙ sym (ap (prefixed moved ess) (from-in t e es i) ∙ prefixed-some moved ess e (from t es) (omega (arith, some))))))
    (λ none. ap (from t) (prefixed-none moved ess e es (omega (arith, none))) ∙ (ih ∙ sym (ap (prefixed moved ess) (from-in t e es i) ∙ prefixed-none moved ess e (from t es) (omega (arith, none))))))
    (λ o. by_order 1 n (from t (prefixed moved ess (e ∷ es)) ≡ prefixed moved ess (from t (e ∷ es)))
    (λ some. ap (from t) (prefixed-some moved ess e es (omega (arith, some))) ∙ (from-out t (counted e n) (prefixed moved ess es) o ∙ (ih ∙ sym (ap (prefixed moved ess) (from-out t e es o)))))
    (λ none. ap (from t) (prefixed-none moved ess e es (omega (arith, none))) ∙ (ih ∙ sym (ap (prefixed moved ess) (from-out t e es o)))))

pub Rising-prefixed : (moved : ℕ) (ess : List (List Entry)) (low : ℕ) (es : List Entry) → Rising low es → Rising low (prefixed moved ess es)
Rising-prefixed moved ess low [] r = tt
Rising-prefixed moved ess low (e ∷ es) r =
    let rest = Rising-prefixed moved ess (e.doc + 1) es r.3 in
    elim (nat_lt 0 (follows moved ess e)) as (λ b. Rising low (if b then counted e (follows moved ess e) ∷ prefixed moved ess es else prefixed moved ess es)) [
      | true ↦ (r.0, r.1, r.2, rest)
      | false ↦ Rising-lower low (e.doc + 1) (prefixed moved ess es) (omega (arith, r.0)) rest
    ]

-- suffixes can be cut up to where the documents begin
pub prefixed-cut : (moved : ℕ) (ess : List (List Entry)) (t : ℕ) (es : List Entry) → Rising t es → prefixed moved (map (from t) ess) es ≡ prefixed moved ess es
prefixed-cut moved ess t [] r = refl
prefixed-cut moved ess t (e ∷ es) r =
    let same : follows moved (map (from t) ess) e ≡ follows moved ess e = ap (continued_by moved (single e.positions)) (entries_at-kept e.doc t ess r.0) in
    ap (λ xs. if nat_lt 0 (follows moved (map (from t) ess) e) then counted e (follows moved (map (from t) ess) e) ∷ xs else xs) (prefixed-cut moved ess t es (Rising-lower t (e.doc + 1) es (omega (arith, r.0)) r.3))
    ∙ ap (λ n. if nat_lt 0 n then counted e n ∷ prefixed moved ess es else prefixed moved ess es) same

-- a cut leaves no more
pub most_suffix-cut : (t : ℕ) (ess : List (List Entry)) → most_suffix_positions (map (from t) ess) ≤ most_suffix_positions ess
most_suffix-cut t [] = omega arith
most_suffix-cut t (es ∷ ess) = (let ih = most_suffix-cut t ess in let here = most-from t es in omega (arith, ih, here))

pub most-rest : (rest es : List Entry) → IsRest rest es → most_positions rest ≤ most_positions es
most-rest rest es is = (let le = most-drop is.0 es in let same = ap most_positions is.1 in omega (arith, le, same))

-- what rises rises from its first
pub Rising-first : (low : ℕ) (es : List Entry) → Rising low es → Rising (first es) es
Rising-first low [] r = tt
Rising-first low (e ∷ es) r = (omega arith, r.1, r.2, r.3)
