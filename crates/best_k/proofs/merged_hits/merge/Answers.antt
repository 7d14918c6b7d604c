use Rattle.std.proofs.Common.{ap, arith, drop, refl, set, suc, sym, take, ◌++◌, ◌+◌, ◌-◌, ◌<◌, ◌∙◌, ◌≡◌, ◌≤◌, ℕ}
use Rattle.std.proofs.lemmas.List.{get_or_read, length-set, take-set-le, take-take}
use Rattle.definitions.specs.Scanning.{ranked}
use Rattle.best_k.proofs.LastOfBoth.{hit_at}
use Rattle.best_k.proofs.LeftOfBoth.{all_put, newer_put, older_put, Hits}
use Rattle.best_k.specs.Kept.{score_at, score_of}
use Rattle.best_k.proofs.merged_hits.merge.Goals as goal

fewer_same : (n k : ℕ) (xs ys : Hits) → n ≤ k → take k xs ≡ take k ys → take n xs ≡ take n ys
fewer_same n k xs ys l same = sym (take-take n k xs l) ∙ ap (take n) same ∙ take-take n k ys l

pub loop-j-preserved-then-is_less : goal.loop-j-preserved-then-is_less
loop-j-preserved-then-is_less c =
    let l = c.loop-j in
    let older = c.args.older.now.items in
    let newer = c.args.newer.now.items in
    let now = l.older.items in
    let i = l.i - 1 in
    let few = l.invariant.older in
    let fewer = l.invariant.newer in
    let long = l.invariant.long in
    let some = c.if-is_less.ensures.some refl in
    let left = c.loop-j-test.true in
    let one : suc i ≡ l.i = omega (arith, some) in
    let value = c.deref-in-loop-j.ensures.value in
    let read : c.index.result.now ≡ hit_at newer (l.j - 1) = get_or_read newer (l.j - 1) c.index.result.now (omega (arith, left, fewer)) c.index.ensures (0, 0, 0) in
    let moved : c.index-then-is_less.result.now ≡ hit_at now i = get_or_read now i c.index-then-is_less.result.now (omega (arith, one, few, long)) c.index-then-is_less.ensures (0, 0, 0) in
    let less = c.if-is_less.ensures.less refl in
    let own : score_at c.deref-in-loop-j.result.now i ≡ score_at now i = ap (λ (hs : Hits). score_at hs i) value in
    let other : score_of c.index.result.now ≡ score_at newer (l.j - 1) = ap score_of read in
    record {
      older = omega (arith, few);
      newer = fewer;
      long = length-set now (i + l.j) c.index-then-is_less.result.now ∙ long;
      first = take-set-le i now (i + l.j) c.index-then-is_less.result.now (omega arith) ∙ fewer_same i l.i now older (omega arith) l.invariant.first;
      behind = ap (λ w. ranked score_of (take i older ++ take l.j newer) ++ drop (i + l.j) (set now (i + l.j) w)) moved ∙ older_put i l.i l.j older newer now one few fewer long c.requires.older_fall c.requires.newer_fall l.invariant.first left (omega (arith, less, own, other)) ∙ l.invariant.behind;
      room = l.invariant.room;
    }

pub loop-j-preserved : goal.loop-j-preserved
loop-j-preserved c =
    let l = c.loop-j in
    let older = c.args.older.now.items in
    let newer = c.args.newer.now.items in
    let now = l.older.items in
    let j = l.j - 1 in
    let few = l.invariant.older in
    let fewer = l.invariant.newer in
    let long = l.invariant.long in
    let left = c.loop-j-test.true in
    let one : suc j ≡ l.j = omega (arith, left) in
    let value = c.deref-in-loop-j.ensures.value in
    let read : c.index.result.now ≡ hit_at newer j = get_or_read newer j c.index.result.now (omega (arith, left, fewer)) c.index.ensures (0, 0, 0) in
    let own : score_at c.deref-in-loop-j.result.now (l.i - 1) ≡ score_at now (l.i - 1) = ap (λ (hs : Hits). score_at hs (l.i - 1)) value in
    let other : score_of c.index.result.now ≡ score_at newer j = ap score_of read in
    let no_less : 0 < l.i → score_at newer j ≤ score_at now (l.i - 1) = λ some. (let much = c.if-is_less.ensures.as_much refl some in omega (arith, much, own, other)) in
    record {
      older = few;
      newer = omega (arith, fewer);
      long = length-set now (l.i + j) c.index.result.now ∙ long;
      first = take-set-le l.i now (l.i + j) c.index.result.now (omega arith) ∙ l.invariant.first;
      behind = ap (λ w. ranked score_of (take l.i older ++ take j newer) ++ drop (l.i + j) (set now (l.i + j) w)) read ∙ newer_put l.i j l.j older newer now one few fewer long c.requires.older_fall c.requires.newer_fall l.invariant.first no_less ∙ l.invariant.behind;
      room = l.invariant.room;
    }

pub returns-clause-items : goal.returns-clause-items
returns-clause-items c =
    let l = c.loop-j in
    let older = c.args.older.now.items in
    let newer = c.args.newer.now.items in
    let none = c.loop-j-test.false in
    let zero : 0 ≡ l.j = omega (arith, none) in
    sym (all_put l.i older newer l.older.items c.requires.older_fall l.invariant.first)
    ∙ ap (λ n. ranked score_of (take l.i older ++ take n newer) ++ drop (l.i + n) l.older.items) zero
    ∙ l.invariant.behind
