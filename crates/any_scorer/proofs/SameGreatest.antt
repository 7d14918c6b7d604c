-- Lists with the same documents and scores have the same greatest score.
use Rattle.std.proofs.Common.{[], List, ap, arith, map, max, refl, sym, ◌∙◌, ◌∷◌, ◌≡◌, ◌≤◌, ℕ}
use Rattle.docsets.specs.Entries.{Entry}
use Rattle.definitions.specs.Scoring.{greatest_of}
use Rattle.docsets.specs.ScoredEntries.{greatest_score, pairs_of}

pub greatest_paired : (es : List Entry) → greatest_score es ≡ greatest_of (map (λ p. p.1) (pairs_of es))
greatest_paired [] = refl
greatest_paired (e ∷ es) = ap (max e.score) (greatest_paired es)

same_greatest : (es fs : List Entry) → pairs_of es ≡ pairs_of fs → greatest_score es ≡ greatest_score fs
same_greatest es fs same = greatest_paired es ∙ (ap (λ ps. greatest_of (map (λ p. p.1) ps)) same ∙ sym (greatest_paired fs))

pub greatest_below : (bound : ℕ) (es fs gs : List Entry) → pairs_of es ≡ pairs_of fs → fs ≡ gs → greatest_score gs ≤ bound → greatest_score es ≤ bound
greatest_below bound es fs gs same is l = let e = same_greatest es fs same in let i = ap greatest_score is in omega (arith, e, i, l)
