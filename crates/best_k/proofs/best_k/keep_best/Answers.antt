use Rattle.std.proofs.Common.{[], ap, arith, length, refl, subst, sym, ◌++◌, ◌+◌, ◌∙◌, ◌∷◌, ◌≡◌, ◌≤◌, ℕ}
use Rattle.definitions.specs.NumberedHits.{NeverRises}
use Rattle.definitions.specs.Scanning.{ranked}
use Rattle.best_k.proofs.Bests.{best_falls}
use Rattle.best_k.proofs.Feeding.{all_kept, not_better, take_at_most}
use Rattle.best_k.proofs.LastOfBoth.{in_its_place}
use Rattle.best_k.proofs.LeftOfBoth.{Hits}
use Rattle.best_k.proofs.Placing.{best_at_most}
use Rattle.best_k.proofs.TwoLists.{length_of_both}
use Rattle.best_k.specs.Kept.{ScoredAddress, best_by, least_kept, score_of}
use Rattle.best_k.specs.Ranked.{hits_in}
use Rattle.definitions.proofs.Lists.{take_whole}
use Rattle.best_k.proofs.best_k.keep_best.Goals as goal

-- ---- what is said of the best is said of what they are

falls_as_best : (k : ℕ) (now hs : Hits) → now ≡ best_by score_of k hs → NeverRises score_of now
falls_as_best k now hs is = subst (λ (gs : Hits). NeverRises score_of gs) (sym is) (best_falls score_of k hs)

few_as_best : (k : ℕ) (now hs : Hits) → now ≡ best_by score_of k hs → length now ≤ k
few_as_best k now hs is = (let same = ap length is in let few = take_at_most k (ranked score_of hs) in omega (arith, same, few))

one_as_best : (k : ℕ) (now hs : Hits) (y : ScoredAddress) → now ≡ best_by score_of k (hs ++ y ∷ []) → length now ≤ length hs + 1
one_as_best k now hs y is = (let same = ap length is in let few = best_at_most k hs y in omega (arith, same, few))

no_hits : (hs : Hits) → length hs ≤ 0 → hs ≡ []
no_hits [] l = refl
no_hits (h ∷ hs) l = absurd (omega (arith, l))

-- ---- while fewer are kept

pub returns-then-len-wanted-clause-hits : goal.returns-then-len-wanted-clause-hits
returns-then-len-wanted-clause-hits c =
    let hits = hits_in c.args.hits.now in
    let is = c.len.ensures in
    let less = c.if-len-wanted.true in
    let one = length_of_both score_of hits (c.args.found ∷ []) in
    c.insert.ensures.hits ∙ sym (take_whole c.args.wanted (ranked score_of (hits ++ c.args.found ∷ [])) (omega (arith, is, less, one)))

pub returns-then-len-wanted-clause-falls : goal.returns-then-len-wanted-clause-falls
returns-then-len-wanted-clause-falls c = falls_as_best c.args.wanted (hits_in c.insert.new.self) (hits_in c.args.hits.now ++ c.args.found ∷ []) (returns-then-len-wanted-clause-hits c)

pub returns-then-len-wanted-clause-few : goal.returns-then-len-wanted-clause-few
returns-then-len-wanted-clause-few c = few_as_best c.args.wanted (hits_in c.insert.new.self) (hits_in c.args.hits.now ++ c.args.found ∷ []) (returns-then-len-wanted-clause-hits c)

pub returns-then-len-wanted-clause-one : goal.returns-then-len-wanted-clause-one
returns-then-len-wanted-clause-one c = one_as_best c.args.wanted (hits_in c.insert.new.self) (hits_in c.args.hits.now) c.args.found (returns-then-len-wanted-clause-hits c)

-- ---- where none is wanted, and where it isn't better

pub returns-then-wanted-eq0-clause-hits : goal.returns-then-wanted-eq0-clause-hits
returns-then-wanted-eq0-clause-hits c =
    let hits = hits_in c.args.hits.now in
    let few = c.requires.few in
    let none = c.if-wanted-eq0.true in
    no_hits hits (omega (arith, few, none)) ∙ ap (λ k. best_by score_of k (hits ++ c.args.found ∷ [])) (sym none)

pub returns-then-found-least_score-clause-hits : goal.returns-then-found-least_score-clause-hits
returns-then-found-least_score-clause-hits c =
    let hits = hits_in c.args.hits.now in
    let is = c.len.ensures in
    let few = c.requires.few in
    let full = c.if-len-wanted.false in
    let least = c.least_score.ensures.value in
    let low = c.if-found-least_score.true in
    let many : length hits ≡ c.args.wanted = omega (arith, is, few, full) in
    sym (not_better score_of (least_kept hits) c.args.found hits c.requires.falls (all_kept hits) (omega (arith, low, least)))
    ∙ ap (λ k. best_by score_of k (hits ++ c.args.found ∷ [])) many

-- ---- where it goes in for the last

pub returns-clause-hits : goal.returns-clause-hits
returns-clause-hits c =
    let hits = hits_in c.args.hits.now in
    let is = c.len.ensures in
    let few = c.requires.few in
    let full = c.if-len-wanted.false in
    let some = c.if-wanted-eq0.false in
    let least = c.least_score.ensures.value in
    let better = c.if-found-least_score.false in
    let many : length hits ≡ c.args.wanted = omega (arith, is, few, full) in
    c.insert-2.ensures.hits
    ∙ ap (λ (hs : Hits). ranked score_of (hs ++ c.args.found ∷ [])) c.drop_last.ensures.hits
    ∙ in_its_place c.args.wanted hits c.args.found c.requires.falls many (omega (arith, some)) (omega (arith, least, better))

pub returns-clause-falls : goal.returns-clause-falls
returns-clause-falls c = falls_as_best c.args.wanted (hits_in c.insert-2.new.self) (hits_in c.args.hits.now ++ c.args.found ∷ []) (returns-clause-hits c)

pub returns-clause-few : goal.returns-clause-few
returns-clause-few c = few_as_best c.args.wanted (hits_in c.insert-2.new.self) (hits_in c.args.hits.now ++ c.args.found ∷ []) (returns-clause-hits c)

pub returns-clause-one : goal.returns-clause-one
returns-clause-one c = one_as_best c.args.wanted (hits_in c.insert-2.new.self) (hits_in c.args.hits.now) c.args.found (returns-clause-hits c)
