-- The last hit of two lists by rank.
use Rattle.std.proofs.Common.{[], List, ap, arith, length, length-append, refl, slice_index_or, subst, suc, sym, take, zero, ◌++◌, ◌+◌, ◌-◌, ◌<◌, ◌∙◌, ◌∷◌, ◌≡◌, ◌≤◌, ℕ}
use Rattle.std.specs.List.{AllByRecursion}
use Rattle.std.proofs.lemmas.List.{length-take-le, take_all, take_more}
use Rattle.definitions.proofs.Ranking.{All_weaker, NeverRises-ranked}
use Rattle.definitions.specs.NumberedHits.{NeverRises}
use Rattle.definitions.specs.Scanning.{ranked}
use Rattle.best_k.proofs.Placing.{falls_at, last_is_least}
use Rattle.best_k.proofs.TwoLists.{above_last, in_place_of_last, last_newer, last_older, take_before}
use Rattle.best_k.specs.Kept.{ScoredAddress, best_by, least_kept, score_at, score_of}

-- the hit at an index
abbrev pub hit_at : List ScoredAddress → ℕ → ScoredAddress
hit_at hs n = slice_index_or hs n (0, 0, 0)

-- a list is what is before its last hit, and that
pub ends : (hs : List ScoredAddress) (n : ℕ) → suc n ≡ length hs → hs ≡ take n hs ++ hit_at hs n ∷ []
ends hs n len =
    sym (take_all (n + 1) hs (omega (arith, len))) ∙ take_more hs n (0, 0, 0) (omega (arith, len))

-- no score is below the last
all_from : (t : ℕ) (hs : List ScoredAddress) (n : ℕ) → suc n ≡ length hs → NeverRises score_of hs → t ≤ score_at hs n → AllByRecursion (λ h. t ≤ score_of h) hs
all_from t [] n len falls l = tt
all_from t (h ∷ []) zero len falls l = (l, tt)
all_from t (h ∷ []) (suc n) len falls l = absurd (omega (arith, len))
all_from t (h ∷ g ∷ hs) zero len falls l = absurd (omega (arith, len))
all_from t (h ∷ g ∷ hs) (suc n) len falls l =
    let first = falls_at (h ∷ g ∷ hs) falls 0 (suc n) (omega arith) (omega (arith, len)) in
    (omega (arith, l, first), all_from t (g ∷ hs) n (omega (arith, len)) falls.1 l)

-- likewise where there may be none
all_over : (t : ℕ) (hs : List ScoredAddress) → NeverRises score_of hs → (0 < length hs → t ≤ score_at hs (length hs - 1)) → AllByRecursion (λ h. t ≤ score_of h) hs
all_over t [] falls l = tt
all_over t (h ∷ hs) falls l = all_from t (h ∷ hs) (length (h ∷ hs) - 1) (omega arith) falls (l (omega arith))

-- it is the last of the older
pub older_last : (n : ℕ) (older newer : List ScoredAddress) → suc n ≡ length older → NeverRises score_of older → NeverRises score_of newer → (0 < length newer → score_at older n < score_at newer (length newer - 1)) → ranked score_of (older ++ newer) ≡ ranked score_of (take n older ++ newer) ++ hit_at older n ∷ []
older_last n older newer len falls fall less =
    let w = hit_at older n in
    let front = take n older in
    let split = ends older n len in
    let above : AllByRecursion (λ h. score_of w ≤ score_of h) front = above_last score_of w front (subst (λ (hs : List ScoredAddress). NeverRises score_of hs) split falls) in
    let over : AllByRecursion (λ h. suc (score_of w) ≤ score_of h) newer = all_over (suc (score_of w)) newer fall (λ some. let l = less some in omega (arith, l)) in
    ap (λ (hs : List ScoredAddress). ranked score_of (hs ++ newer)) split
    ∙ last_older score_of w front newer above (All_weaker (λ h. suc (score_of w) ≤ score_of h) (λ h. score_of w < score_of h) (λ h l. omega (arith, l)) newer over)

-- it is the last of the newer
pub newer_last : (m : ℕ) (older newer : List ScoredAddress) → suc m ≡ length newer → NeverRises score_of older → NeverRises score_of newer → (0 < length older → score_at newer m ≤ score_at older (length older - 1)) → ranked score_of (older ++ newer) ≡ ranked score_of (older ++ take m newer) ++ hit_at newer m ∷ []
newer_last m older newer len falls fall less =
    let w = hit_at newer m in
    let front = take m newer in
    let split = ends newer m len in
    let above : AllByRecursion (λ h. score_of w ≤ score_of h) front = above_last score_of w front (subst (λ (hs : List ScoredAddress). NeverRises score_of hs) split fall) in
    ap (λ (hs : List ScoredAddress). ranked score_of (older ++ hs)) split
    ∙ last_newer score_of w older front (all_over (score_of w) older falls less) above

-- ---- what the last one tells

-- the least score
pub least_is_last : (hs front : List ScoredAddress) (w : ScoredAddress) → NeverRises score_of hs → hs ≡ front ++ w ∷ [] → least_kept hs ≡ score_of w
least_is_last hs front w falls split =
    let len = ap length split in
    let both = length-append front (w ∷ []) in
    last_is_least hs (length front) falls (omega (arith, len, both))
    ∙ (ap (λ (gs : List ScoredAddress). score_at gs (length front)) split ∙ at_end front)
  where
    at_end : (gs : List ScoredAddress) → score_at (gs ++ w ∷ []) (length gs) ≡ score_of w
    at_end [] = refl
    at_end (g ∷ gs) = at_end gs

-- all but it
pub without_last : {X : Type 0} (hs front : List X) (w : X) → hs ≡ front ++ w ∷ [] → front ≡ take (length hs - 1) hs
without_last hs front w split =
    let len = ap length split in
    let both = length-append front (w ∷ []) in
    let less : length front ≡ length hs - 1 = omega (arith, len, both) in
    sym (take_before front w) ∙ ap (take (length front)) (sym split) ∙ ap (λ n. take n hs) less

-- the least of both
pub least_of_older : (older newer : List ScoredAddress) → NeverRises score_of older → NeverRises score_of newer → 0 < length older → (0 < length newer → score_at older (length older - 1) < score_at newer (length newer - 1)) → least_kept (ranked score_of (older ++ newer)) ≡ least_kept older
least_of_older older newer falls fall some less =
    let n = length older - 1 in
    let len : suc n ≡ length older = omega (arith, some) in
    least_is_last (ranked score_of (older ++ newer)) (ranked score_of (take n older ++ newer)) (hit_at older n) (NeverRises-ranked score_of (older ++ newer)) (older_last n older newer len falls fall less)
    ∙ sym (last_is_least older n falls len)

pub least_of_newer : (older newer : List ScoredAddress) → NeverRises score_of older → NeverRises score_of newer → (0 < length older → 0 < length newer) → (0 < length older → score_at newer (length newer - 1) ≤ score_at older (length older - 1)) → least_kept (ranked score_of (older ++ newer)) ≡ least_kept newer
least_of_newer [] [] falls fall some less = refl
least_of_newer (h ∷ hs) [] falls fall some less = absurd (let l = some (omega arith) in omega (arith, l))
least_of_newer older (g ∷ gs) falls fall some less =
    let n = length (g ∷ gs) - 1 in
    let len : suc n ≡ length (g ∷ gs) = omega arith in
    least_is_last (ranked score_of (older ++ g ∷ gs)) (ranked score_of (older ++ take n (g ∷ gs))) (hit_at (g ∷ gs) n) (NeverRises-ranked score_of (older ++ g ∷ gs)) (newer_last n older (g ∷ gs) len falls fall less)
    ∙ sym (last_is_least (g ∷ gs) n fall len)

-- ---- one in place of the last

pub in_its_place : (k : ℕ) (hs : List ScoredAddress) (y : ScoredAddress) → NeverRises score_of hs → length hs ≡ k → 0 < k → least_kept hs < score_of y → ranked score_of (take (length hs - 1) hs ++ y ∷ []) ≡ best_by score_of k (hs ++ y ∷ [])
in_its_place k hs y falls many some better =
    let n = length hs - 1 in
    let len : suc n ≡ length hs = omega (arith, many, some) in
    let w = hit_at hs n in
    let front = take n hs in
    let split = ends hs n len in
    let least = last_is_least hs n falls len in
    let long = length-take-le n hs (omega arith) in
    let count : suc (length front) ≡ k = omega (arith, long, len, many) in
    sym (in_place_of_last score_of y w front (subst (λ (gs : List ScoredAddress). NeverRises score_of gs) split falls) (omega (arith, least, better)))
    ∙ ap (λ m. best_by score_of m ((front ++ w ∷ []) ++ y ∷ [])) count
    ∙ ap (λ (gs : List ScoredAddress). best_by score_of k (gs ++ y ∷ [])) (sym split)
