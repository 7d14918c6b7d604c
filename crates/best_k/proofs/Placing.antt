-- Where one more goes among the best.
use Rattle.std.proofs.Common.{[], Bool, List, ap, arith, cond, false, if◌then◌else◌, le-leb, leb-false, leb-true, length, length-append, nat_le, refl, suc, take, true, zero, ◌++◌, ◌+◌, ◌-◌, ◌<◌, ◌^◌, ◌∙◌, ◌∷◌, ◌≡◌, ◌≤◌, ℕ}
use Rattle.std.specs.Bool.{◌==◌}
use Rattle.std.specs.List.{AllByRecursion, insert}
use Rattle.std.proofs.lemmas.Bool.{lt-leb}
use Rattle.definitions.proofs.Ranking.{length-ranked}
use Rattle.definitions.specs.NumberedHits.{NeverRises}
use Rattle.definitions.specs.Scanning.{ranked}
use Rattle.best_k.proofs.Bests.{insert_last}
use Rattle.best_k.specs.Contents.{room_left}
use Rattle.best_k.specs.Kept.{AreSigned, ScoredAddress, best_by, least_kept, score_at, score_of}

-- ---- scores by their indices

below_first : (n : ℕ) (hs : List ScoredAddress) (i : ℕ) → AllByRecursion (λ h. score_of h ≤ n) hs → i < length hs → score_at hs i ≤ n
below_first n [] i all within = absurd (omega (arith, within))
below_first n (h ∷ hs) zero all within = all.0
below_first n (h ∷ hs) (suc i) all within = below_first n hs i all.1 (omega (arith, within))

pub falls_at : (hs : List ScoredAddress) → NeverRises score_of hs → (i j : ℕ) → i ≤ j → j < length hs → score_at hs j ≤ score_at hs i
falls_at [] falls i j l within = absurd (omega (arith, within))
falls_at (h ∷ hs) falls zero zero l within = omega arith
falls_at (h ∷ hs) falls zero (suc j) l within = below_first (score_of h) hs j falls.0 (omega (arith, within))
falls_at (h ∷ hs) falls (suc i) zero l within = absurd (omega (arith, l))
falls_at (h ∷ hs) falls (suc i) (suc j) l within = falls_at hs falls.1 i j (omega (arith, l)) (omega (arith, within))

-- the last is the least
pub last_is_least : (hs : List ScoredAddress) (n : ℕ) → NeverRises score_of hs → suc n ≡ length hs → least_kept hs ≡ score_at hs n
last_is_least [] n falls len = absurd (omega (arith, len))
last_is_least (h ∷ []) zero falls len = refl
last_is_least (h ∷ []) (suc n) falls len = absurd (omega (arith, len))
last_is_least (h ∷ g ∷ hs) zero falls len = absurd (omega (arith, len))
last_is_least (h ∷ g ∷ hs) (suc n) falls len =
    let ih = last_is_least (g ∷ hs) n falls.1 (omega (arith, len)) in
    let most = below_first (score_of h) (g ∷ hs) n falls.0 (omega (arith, len)) in
    omega (arith, ih, most)

-- ---- one more at its index

pub inserted_at : (y : ScoredAddress) (at : ℕ) (hs : List ScoredAddress) → at ≤ length hs → ((i : ℕ) → i < at → score_of y ≤ score_at hs i) → ((i : ℕ) → at ≤ i → i < length hs → score_at hs i < score_of y) → insert_last score_of y hs ≡ insert hs at y
inserted_at y zero [] few before behind = refl
inserted_at y zero (h ∷ hs) few before behind = ap (λ b. cond b (h ∷ insert_last score_of y hs) (y ∷ h ∷ hs)) (lt-leb (score_of y) (score_of h) (behind 0 (omega arith) (omega arith)))
inserted_at y (suc at) [] few before behind = absurd (omega (arith, few))
inserted_at y (suc at) (h ∷ hs) few before behind =
    let ih = inserted_at y at hs (omega (arith, few)) (λ i l. before (suc i) (omega (arith, l))) (λ i l within. behind (suc i) (omega (arith, l)) (omega (arith, within))) in
    ap (λ b. cond b (h ∷ insert_last score_of y hs) (y ∷ h ∷ hs)) (le-leb (score_of y) (score_of h) (before 0 (omega arith))) ∙ ap (λ ws. h ∷ ws) ih

-- ---- bounds

pub signed_at : (hs : List ScoredAddress) (i : ℕ) → AreSigned hs → i < length hs → score_at hs i < 2 ^ 63
signed_at [] i all within = absurd (omega (arith, within))
signed_at (h ∷ hs) zero all within = all.0
signed_at (h ∷ hs) (suc i) all within = signed_at hs i all.1 (omega (arith, within))

pub some_of : (n : ℕ) → false ≡ (n == 0) → 0 < n
some_of zero e = absurd (cc)
some_of (suc n) e = omega arith

-- one more is at most one more
pub best_at_most : (k : ℕ) (hs : List ScoredAddress) (y : ScoredAddress) → length (best_by score_of k (hs ++ y ∷ [])) ≤ length hs + 1
best_at_most k hs y =
    let few = take_few k (ranked score_of (hs ++ y ∷ [])) in
    let all = length-ranked score_of (hs ++ y ∷ []) in
    let whole = length-append hs (y ∷ []) in
    omega (arith, few, all, whole)
  where
    take_few : (k : ℕ) (xs : List ScoredAddress) → length (take k xs) ≤ length xs
    take_few zero xs = omega arith
    take_few (suc k) [] = omega arith
    take_few (suc k) (x ∷ xs) = (let ih = take_few k xs in omega (arith, ih))

pub room_after : (wanted capacity more len next : ℕ) → capacity ≤ more → next ≤ len + 1 → room_left wanted capacity len ≤ room_left wanted more next + 1
room_after wanted capacity more len next grows one = go (nat_le wanted capacity) (nat_le wanted more) refl refl
  where
    go : (a b : Bool) → nat_le wanted capacity ≡ a → nat_le wanted more ≡ b → (if a then 2 ^ 64 + wanted else capacity - len) ≤ (if b then 2 ^ 64 + wanted else more - next) + 1
    go true true ea eb = omega arith
    go true false ea eb = absurd (let l = leb-true _ _ ea in let m = leb-false _ _ eb in omega (arith, l, m, grows))
    go false true ea eb = (let l = leb-false _ _ ea in omega (arith, l))
    go false false ea eb = omega (arith, grows, one)
