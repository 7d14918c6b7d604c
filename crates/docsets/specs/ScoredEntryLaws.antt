-- Laws of entries that have a document and a score alone, and of entries whose scores are changed.
use Rattle.std.proofs.Common.{[], ◌*◌, ◌+◌, ◌-◌, ◌<◌, ◌∷◌, ◌≡◌, ◌≤ℤ◌, ◌≤◌, List, arith, false, leb-false, leb-true, nat_le, negsuc, pos, refl, suc, true, zero, ℕ, ℤ}
use Rattle.std.specs.Coded.{Unit-prop}
use Rattle.std.proofs.Props.{props}
use Rattle.std.proofs.lemmas.Int.{ints}
use Rattle.std.proofs.Math.Nat.{mul-le-mul_left}
use Rattle.definitions.proofs.Lists.{by_order}
use Rattle.docsets.specs.Entries.{Entry, Rising}
use Rattle.definitions.specs.Postings.{terminated}
use Rattle.definitions.specs.Scoring.{max_score, natural}
use Rattle.docsets.specs.ScoredEntries.{AreScores, all_from, greatest_score, naturals, rescored_by, scored}

-- ---- scores from 0 on
natural-small : (n : ℤ) → pos 0 ≤ℤ n → n ≤ℤ pos max_score → natural n ≤ max_score
natural-small (pos n) l h = omega (arith, ints, h)
natural-small (negsuc n) l h = omega arith

-- what is left rises
pub Rising-scores : (low : ℕ) (ps : List (ℕ × ℤ)) → AreScores low ps → Rising low (scored (naturals ps))
Rising-scores low [] r = tt
Rising-scores low (p ∷ ps) r = (r.0, r.1, natural-small p.1 r.2 r.3, Rising-scores (p.0 + 1) ps r.4)

pub AreScores-prop : (low : ℕ) (ps : List (ℕ × ℤ)) → IsProp (AreScores low ps)
AreScores-prop low [] = Unit-prop
AreScores-prop low (p ∷ ps) = let rest : IsProp (AreScores (p.0 + 1) ps) = AreScores-prop (p.0 + 1) ps in hlevel (props, rest)

-- ---- all documents from one on
pub Rising-all : (low doc count : ℕ) → low ≤ doc → doc + count ≤ terminated → Rising low (all_from doc count)
Rising-all low doc zero l f = tt
Rising-all low doc (suc n) l f = (l, omega (arith, f), omega arith, Rising-all (doc + 1) (doc + 1) n (omega arith) (omega (arith, f)))

-- those below a number rise
pub rising_all : (doc max_doc : ℕ) → max_doc ≤ terminated → Rising 0 (all_from doc (max_doc - doc))
rising_all doc max_doc small = by_order doc max_doc (Rising 0 (all_from doc (max_doc - doc)))
    (λ i. Rising-all 0 doc (max_doc - doc) (omega arith) (omega (arith, i, small)))
    (λ o. (let none : max_doc - doc ≡ 0 = omega (arith, o) in rw none tt))

-- scores that stay small enough
pub Rising-rescored : (f : Entry → ℕ) (low : ℕ) (es : List Entry) → Rising low es → ((e : Entry) → e.score ≤ greatest_score es → f e ≤ max_score) → Rising low (rescored_by f es)
Rising-rescored f low [] r fits = tt
Rising-rescored f low (e ∷ es) r fits = (r.0, r.1, fits e (omega arith), Rising-rescored f (e.doc + 1) es r.3 (λ d l. fits d (omega (arith, l))))

-- a constant
pub Rising-constant : (constant low : ℕ) (es : List Entry) → constant ≤ max_score → Rising low es → Rising low (rescored_by (λ e. constant) es)
Rising-constant constant low es small r = Rising-rescored (λ e. constant) low es r (λ e l. small)

-- a boost
pub Rising-boosted : (b low : ℕ) (es : List Entry) → b * greatest_score es ≤ max_score → Rising low es → Rising low (rescored_by (λ e. b * e.score) es)
Rising-boosted b low es fits r = Rising-rescored (λ e. b * e.score) low es r (λ e l. (let le = mul-le-mul_left b l in omega (arith, le, fits)))
