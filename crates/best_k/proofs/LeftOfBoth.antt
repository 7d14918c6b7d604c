-- What is left of two lists while one is put among the other, from the last hit on down.
use Rattle.std.proofs.Common.{[], List, ap, arith, drop, length, set, suc, sym, take, ◌++◌, ◌+◌, ◌-◌, ◌<◌, ◌∙◌, ◌∷◌, ◌≡◌, ◌≤◌, ℕ}
use Rattle.std.proofs.lemmas.List.{append-nil, append_assoc, drop-set, get_or-take, length-take-le, take-append-drop, take-take}
use Rattle.definitions.proofs.Ranking.{NeverRises-take, ranked_falling}
use Rattle.definitions.specs.NumberedHits.{NeverRises}
use Rattle.definitions.specs.Scanning.{ranked}
use Rattle.best_k.proofs.LastOfBoth.{hit_at, newer_last, older_last}
use Rattle.best_k.specs.Kept.{ScoredAddress, score_at, score_of}

abbrev pub Hits : Type 0
Hits = List ScoredAddress

-- the last of both, which is in front of what is behind, put there
put_behind : (left both : Hits) (w : ScoredAddress) (n m : ℕ) (now : Hits) → both ≡ left ++ w ∷ [] → n < length now → m ≡ n + 1 → left ++ drop n (set now n w) ≡ both ++ drop m now
put_behind left both w n m now last within next =
    ap (λ hs. left ++ hs) (drop-set now n w within)
    ∙ sym (append_assoc left (w ∷ []) (drop (n + 1) now))
    ∙ ap (λ hs. hs ++ drop (n + 1) now) (sym last)
    ∙ ap (λ k. both ++ drop k now) (sym next)

-- the last of the older goes behind what is left
pub older_put : (i k j : ℕ) (older newer now : Hits) → suc i ≡ k → k ≤ length older → j ≤ length newer → length now ≡ length older + length newer → NeverRises score_of older → NeverRises score_of newer → take k now ≡ take k older → 0 < j → score_at now i < score_at newer (j - 1) → ranked score_of (take i older ++ take j newer) ++ drop (i + j) (set now (i + j) (hit_at now i)) ≡ ranked score_of (take k older ++ take j newer) ++ drop (k + j) now
older_put i k j older newer now one few fewer long falls fall same some less =
    let len = length-take-le k older few in
    let more = length-take-le j newer fewer in
    let cut : take i (take k older) ≡ take i older = take-take i k older (omega (arith, one)) in
    let here : hit_at (take k older) i ≡ hit_at now i = ap (λ (hs : Hits). hit_at hs i) (sym same) ∙ get_or-take k now i (0, 0, 0) (omega (arith, one)) in
    let there : hit_at (take j newer) (j - 1) ≡ hit_at newer (j - 1) = get_or-take j newer (j - 1) (0, 0, 0) (omega (arith, some)) in
    let at : length (take j newer) - 1 ≡ j - 1 = omega (arith, more) in
    let other : score_at (take j newer) (length (take j newer) - 1) ≡ score_at newer (j - 1) = ap (λ n. score_at (take j newer) n) at ∙ ap score_of there in
    let own : score_at (take k older) i ≡ score_at now i = ap score_of here in
    let last = older_last i (take k older) (take j newer) (omega (arith, one, len)) (NeverRises-take score_of k older falls) (NeverRises-take score_of j newer fall) (λ l. omega (arith, less, own, other)) in
    let split : ranked score_of (take k older ++ take j newer) ≡ ranked score_of (take i older ++ take j newer) ++ hit_at now i ∷ [] = last ∙ ap (λ (hs : Hits). ranked score_of (hs ++ take j newer) ++ hit_at (take k older) i ∷ []) cut ∙ ap (λ w. ranked score_of (take i older ++ take j newer) ++ w ∷ []) here in
    put_behind (ranked score_of (take i older ++ take j newer)) (ranked score_of (take k older ++ take j newer)) (hit_at now i) (i + j) (k + j) now split (omega (arith, one, few, fewer, long)) (omega (arith, one))

-- the last of the newer goes behind what is left
pub newer_put : (i j k : ℕ) (older newer now : Hits) → suc j ≡ k → i ≤ length older → k ≤ length newer → length now ≡ length older + length newer → NeverRises score_of older → NeverRises score_of newer → take i now ≡ take i older → (0 < i → score_at newer j ≤ score_at now (i - 1)) → ranked score_of (take i older ++ take j newer) ++ drop (i + j) (set now (i + j) (hit_at newer j)) ≡ ranked score_of (take i older ++ take k newer) ++ drop (i + k) now
newer_put i j k older newer now one few fewer long falls fall same less =
    let len = length-take-le i older few in
    let more = length-take-le k newer fewer in
    let cut : take j (take k newer) ≡ take j newer = take-take j k newer (omega (arith, one)) in
    let here : hit_at (take k newer) j ≡ hit_at newer j = get_or-take k newer j (0, 0, 0) (omega (arith, one)) in
    let at : length (take i older) - 1 ≡ i - 1 = omega (arith, len) in
    let own : score_at (take k newer) j ≡ score_at newer j = ap score_of here in
    let last = newer_last j (take i older) (take k newer) (omega (arith, one, more)) (NeverRises-take score_of i older falls) (NeverRises-take score_of k newer fall) (λ l. let some : 0 < i = omega (arith, l, len) in let there : hit_at (take i older) (i - 1) ≡ hit_at now (i - 1) = ap (λ (hs : Hits). hit_at hs (i - 1)) (sym same) ∙ get_or-take i now (i - 1) (0, 0, 0) (omega (arith, some)) in let other : score_at (take i older) (length (take i older) - 1) ≡ score_at now (i - 1) = ap (λ n. score_at (take i older) n) at ∙ ap score_of there in let no_less = less some in omega (arith, no_less, own, other)) in
    let split : ranked score_of (take i older ++ take k newer) ≡ ranked score_of (take i older ++ take j newer) ++ hit_at newer j ∷ [] = last ∙ ap (λ (hs : Hits). ranked score_of (take i older ++ hs) ++ hit_at (take k newer) j ∷ []) cut ∙ ap (λ w. ranked score_of (take i older ++ take j newer) ++ w ∷ []) here in
    put_behind (ranked score_of (take i older ++ take j newer)) (ranked score_of (take i older ++ take k newer)) (hit_at newer j) (i + j) (i + k) now split (omega (arith, one, few, fewer, long)) (omega (arith, one))

-- nothing is left of the newer
pub all_put : (i : ℕ) (older newer now : Hits) → NeverRises score_of older → take i now ≡ take i older → ranked score_of (take i older ++ take 0 newer) ++ drop (i + 0) now ≡ now
all_put i older newer now falls same =
    let here : i + 0 ≡ i = omega arith in
    ap (λ n. ranked score_of (take i older ++ []) ++ drop n now) here
    ∙ ap (λ (hs : Hits). ranked score_of hs ++ drop i now) (append-nil (take i older))
    ∙ ap (λ (hs : Hits). hs ++ drop i now) (ranked_falling score_of (take i older) (NeverRises-take score_of i older falls) ∙ sym same)
    ∙ take-append-drop i now
