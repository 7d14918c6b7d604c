use Rattle.std.proofs.Common.{ap, arith, length, refl, subst, suc, sym, take, vec_len, zero, ◌++◌, ◌+◌, ◌-◌, ◌<◌, ◌∙◌, ◌≡◌, ℕ}
use Rattle.std.proofs.lemmas.List.{length-take}
use Rattle.definitions.proofs.Ranking.{NeverRises-take}
use Rattle.definitions.specs.NumberedHits.{NeverRises}
use Rattle.definitions.specs.Scanning.{ranked}
use Rattle.best_k.proofs.LastOfBoth.{hit_at, newer_last, older_last, without_last}
use Rattle.best_k.proofs.LeftOfBoth.{Hits}
use Rattle.best_k.proofs.TwoLists.{length_of_both}
use Rattle.best_k.specs.Kept.{AreSigned, score_of}
use Rattle.best_k.specs.Ranked.{hits_in}
use Rattle.definitions.proofs.Lists.{all_take as All_take}
use Rattle.best_k.proofs.ranked_hits.RankedHits.drop_last.Goals as goal

some_newer : (n m : ℕ) → 0 < n + m → (0 < n → 0 < m) → 0 < m
some_newer zero m any told = omega (arith, any)
some_newer (suc n) m any told = told (omega arith)

pub invariant_of-self : goal.invariant_of-self
invariant_of-self c =
    let hits = c.args.self.now in
    let rest = c.pop.ensures.rest in
    let fewer = ap length rest ∙ length-take _ hits.older.items in
    let capacity = c.pop.ensures.capacity in
    let fits = hits.fits in
    record {
      older_fall = subst (λ (hs : Hits). NeverRises score_of hs) (sym rest) (NeverRises-take score_of _ hits.older.items hits.older_fall);
      newer_fall = hits.newer_fall;
      older_signed = subst AreSigned (sym rest) (All_take _ _ hits.older.items hits.older_signed);
      newer_signed = hits.newer_signed;
      fits = omega (arith, fewer, capacity, fits);
    }

pub invariant_of-self-else-ends_with_older : goal.invariant_of-self-else-ends_with_older
invariant_of-self-else-ends_with_older c =
    let hits = c.args.self.now in
    let rest = c.pop-else-ends_with_older.ensures.rest in
    let fewer = ap length rest ∙ length-take _ hits.newer.items in
    let fits = hits.fits in
    record {
      older_fall = hits.older_fall;
      newer_fall = subst (λ (hs : Hits). NeverRises score_of hs) (sym rest) (NeverRises-take score_of _ hits.newer.items hits.newer_fall);
      older_signed = hits.older_signed;
      newer_signed = subst AreSigned (sym rest) (All_take _ _ hits.newer.items hits.newer_signed);
      fits = omega (arith, fewer, fits);
    }

pub returns-then-ends_with_older-clause-hits : goal.returns-then-ends_with_older-clause-hits
returns-then-ends_with_older-clause-hits c =
    let hits = c.args.self.now in
    let n = length hits.older.items - 1 in
    let some = c.if-ends_with_older.ensures.older refl in
    let last = older_last n hits.older.items hits.newer.items (omega (arith, some)) hits.older_fall hits.newer_fall (c.if-ends_with_older.ensures.less refl) in
    let many = hits.older.ok.0 in
    let count : vec_len hits.older - 1 ≡ n = omega (arith, many) in
    ap (λ (hs : Hits). ranked score_of (hs ++ hits.newer.items)) (c.pop.ensures.rest ∙ ap (λ m. take m hits.older.items) count)
    ∙ without_last (hits_in hits) (ranked score_of (take n hits.older.items ++ hits.newer.items)) (hit_at hits.older.items n) last

pub returns-else-ends_with_older-clause-hits : goal.returns-else-ends_with_older-clause-hits
returns-else-ends_with_older-clause-hits c =
    let hits = c.args.self.now in
    let n = length hits.newer.items - 1 in
    let both = length_of_both score_of hits.older.items hits.newer.items in
    let any = c.requires in
    let some = some_newer (length hits.older.items) (length hits.newer.items) (omega (arith, any, both)) (c.if-ends_with_older.ensures.newer refl) in
    let last = newer_last n hits.older.items hits.newer.items (omega (arith, some)) hits.older_fall hits.newer_fall (c.if-ends_with_older.ensures.as_much refl) in
    let many = hits.newer.ok.0 in
    let count : vec_len hits.newer - 1 ≡ n = omega (arith, many) in
    ap (λ (hs : Hits). ranked score_of (hits.older.items ++ hs)) (c.pop-else-ends_with_older.ensures.rest ∙ ap (λ m. take m hits.newer.items) count)
    ∙ without_last (hits_in hits) (ranked score_of (hits.older.items ++ take n hits.newer.items)) (hit_at hits.newer.items n) last
