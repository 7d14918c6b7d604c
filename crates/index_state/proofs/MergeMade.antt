-- The body of a merge makes the members after it of those before.
use Rattle.std.proofs.Common.{[], ◌++◌, ◌+◌, ◌-◌, ◌<◌, ◌∙◌, ◌∷◌, ◌≡◌, ◌≤◌, ◌^◌, List, ap, append_assoc, arith, drop, filter_map, length, length-append, map, refl, subst, suc, take, true, zero, ℕ}
use Rattle.std.proofs.lemmas.List.{append-nil, length-drop, length-map, length-replicate, length-take-le, take-append-drop}
use Rattle.std.specs.List.{AllByRecursion, AllZip}
use Rattle.definitions.specs.Schema.{Schema}
use Rattle.layouts.specs.Deltas.{IsAscendingFrom}
use Rattle.segment.specs.Opened.{IsOpened, bytes_of, num_docs_of}
use Rattle.segment.specs.declared.segment.Segment as code
use Rattle.segment_definitions.specs.ListBodies.{Fits, IsMember, IsOfPart, Makes, Member, Part, fresh, place_of, segments_body}
use Rattle.segment_definitions.specs.Segments.{IsSegment}
use Rattle.segment_search.proofs.Places.{zip_more}
use Rattle.index_state.proofs.BodyMade.{are_members, get_seam, kept_fit, length-kept}
use Rattle.definitions.proofs.Lists.{all_append as all_both}
use Rattle.index_state.proofs.MergedLists.{all_replaced}
use Rattle.index_state.specs.Bodies.{kept_from, merged_parts}
use Rattle.index_state.specs.Merges.{all_alive, alive_member, replaced}

-- ---- members of parts

-- kept segments are those that stand at their indices
kept_of : (pre ms rest : List Member) → AllZip (IsOfPart (pre ++ (ms ++ rest))) (kept_from (length pre) (length ms)) ms
kept_of pre [] rest = tt
kept_of pre ((bytes, flags) ∷ ms) rest =
    let m : Member = (bytes, flags) in
    let next : length (pre ++ m ∷ []) ≡ suc (length pre) = length-append pre (m ∷ []) ∙ (let one : length pre + 1 ≡ suc (length pre) = omega arith in one) in
    let later = subst (λ all. AllZip (IsOfPart all) (kept_from (length (pre ++ m ∷ [])) (length ms)) ms) (append_assoc pre (m ∷ []) (ms ++ rest)) (kept_of (pre ++ m ∷ []) ms rest) in
    ((flags, get_seam pre (ms ++ rest) m), subst (λ n. AllZip (IsOfPart (pre ++ m ∷ (ms ++ rest))) (kept_from n (length ms)) ms) next later)

-- the first of them
front_of : (before : List Member) (from : ℕ) → from ≤ length before → AllZip (IsOfPart before) (kept_from 0 from) (take from before)
front_of before from l =
    let of = kept_of [] (take from before) (drop from before) in
    let all = subst (λ ms. AllZip (IsOfPart ms) (kept_from 0 (length (take from before))) (take from before)) (take-append-drop from before) of in
    subst (λ n. AllZip (IsOfPart before) (kept_from 0 n) (take from before)) (length-take-le from before l) all

-- and those from an index on
rest_of : (before : List Member) (to : ℕ) → to ≤ length before → AllZip (IsOfPart before) (kept_from to (length before - to)) (drop to before)
rest_of before to l =
    let whole : take to before ++ (drop to before ++ []) ≡ before = ap (λ ms. take to before ++ ms) (append-nil (drop to before)) ∙ take-append-drop to before in
    let of = subst (λ ms. AllZip (IsOfPart ms) (kept_from (length (take to before)) (length (drop to before))) (drop to before)) whole (kept_of (take to before) (drop to before) []) in
    let from = subst (λ n. AllZip (IsOfPart before) (kept_from n (length (drop to before))) (drop to before)) (length-take-le to before l) of in
    subst (λ n. AllZip (IsOfPart before) (kept_from to n) (drop to before)) (length-drop to before) from

-- new segments are their own
fresh_of : (before news : List Member) → AllZip (IsOfPart before) (map fresh (map (λ m. m.0) news)) news
fresh_of before [] = tt
fresh_of before (m ∷ news) = (refl, fresh_of before news)

parts_of : (before news : List Member) (from to : ℕ) → from ≤ to → to ≤ length before → AllZip (IsOfPart before) (merged_parts (length before) from to (map (λ m. m.0) news)) (replaced from to news before)
parts_of before news from to l m =
    let within : from ≤ length before = omega (arith, l, m) in
    let segments = map fresh (map (λ (n : Member). n.0) news) in
    let kept_last = kept_from to (length before - to) in
    zip_more (IsOfPart before) (kept_from 0 from) (segments ++ kept_last) (take from before) (news ++ drop to before) (front_of before from within)
    (zip_more (IsOfPart before) segments kept_last news (drop to before) (fresh_of before news) (rest_of before to m))

-- ---- indices ascend

ascend_later : (least i k : ℕ) → least ≤ i → IsAscendingFrom least (filter_map place_of (kept_from i k))
ascend_later least i zero l = tt
ascend_later least i (suc k) l = (l, ascend_later (i + 1) (suc i) k (omega arith))

ascend_fresh : (least : ℕ) (bs : List (List ℕ)) (parts : List Part) → IsAscendingFrom least (filter_map place_of parts) → IsAscendingFrom least (filter_map place_of (map fresh bs ++ parts))
ascend_fresh least [] parts h = h
ascend_fresh least (b ∷ bs) parts h = ascend_fresh least bs parts h

ascend_kept : (i k : ℕ) (parts : List Part) → IsAscendingFrom (i + k) (filter_map place_of parts) → IsAscendingFrom i (filter_map place_of (kept_from i k ++ parts))
ascend_kept i zero parts h = subst (λ n. IsAscendingFrom n (filter_map place_of parts)) (let e : i + 0 ≡ i = omega arith in e) h
ascend_kept i (suc k) parts h =
    let next : suc i ≡ i + 1 = omega arith in
    let same : i + suc k ≡ suc i + k = omega arith in
    (omega arith, subst (λ n. IsAscendingFrom n (filter_map place_of (kept_from (suc i) k ++ parts))) next (ascend_kept (suc i) k parts (subst (λ n. IsAscendingFrom n (filter_map place_of parts)) same h)))

parts_ascend : (count from to : ℕ) (bs : List (List ℕ)) → from ≤ to → IsAscendingFrom 0 (filter_map place_of (merged_parts count from to bs))
parts_ascend count from to bs l =
    let kept_last = kept_from to (count - to) in
    ascend_kept 0 from (map fresh bs ++ kept_last) (ascend_fresh (0 + from) bs kept_last (ascend_later (0 + from) to (count - to) (omega (arith, l))))

-- ---- they fit

fresh_fit : (bs : List (List ℕ)) → AllByRecursion (λ b. length b < 2 ^ 64) bs → AllByRecursion Fits (map fresh bs)
fresh_fit [] h = tt
fresh_fit (b ∷ bs) h = (h.0, fresh_fit bs h.1)

pub length-merged : (count from to : ℕ) (bs : List (List ℕ)) → length (merged_parts count from to bs) ≡ from + (length bs + (count - to))
length-merged count from to bs =
    let both = length-append (kept_from 0 from) (map fresh bs ++ kept_from to (count - to)) in
    let later = length-append (map fresh bs) (kept_from to (count - to)) in
    let first = length-kept 0 from in
    let rest = length-kept to (count - to) in
    let new = length-map bs fresh in
    omega (arith, both, later, first, rest, new)

parts_fit : (count from to : ℕ) (bs : List (List ℕ)) → from < to → to ≤ count → count < 2 ^ 32 → AllByRecursion (λ b. length b < 2 ^ 64) bs → AllByRecursion Fits (merged_parts count from to bs)
parts_fit count from to bs l m few short =
    all_both Fits (kept_from 0 from) (map fresh bs ++ kept_from to (count - to)) (kept_fit 0 from (omega (arith, l, m, few)))
    (all_both Fits (map fresh bs) (kept_from to (count - to)) (fresh_fit bs short) (kept_fit to (count - to) (omega (arith, m, few))))

-- ---- the body

-- at most one segment is new
pub merge_makes : (schema : Schema) (before news : List Member) (from to : ℕ) → from < to → to ≤ length before → length before < 2 ^ 32 → length news ≤ 1
    → AllByRecursion (IsMember (IsSegment schema)) before → AllByRecursion (IsMember (IsSegment schema)) news → AllByRecursion (λ b. length b < 2 ^ 64) (map (λ m. m.0) news)
    → Makes (IsSegment schema) before (replaced from to news before) (segments_body (merged_parts (length before) from to (map (λ m. m.0) news)) (map (λ m. m.1) (replaced from to news before)))
merge_makes schema before news from to l m few one old new short =
    let segments = map (λ (n : Member). n.0) news in
    let count = length-merged (length before) from to segments in
    let same = length-map news (λ (n : Member). n.0) in
    record {
      parts = merged_parts (length before) from to segments;
      parts_are = parts_of before news from to (omega (arith, l)) m;
      ascend = parts_ascend (length before) from to segments (omega (arith, l));
      fit = parts_fit (length before) from to segments l m few short;
      num_parts_fits = omega (arith, count, same, one, l, m, few);
      members = all_replaced (IsMember (IsSegment schema)) from to news before new old;
      body_is = refl;
    }

-- ---- new segments

-- with all documents alive
pub alive_members : (schema : Schema) (news : List code.Segment) → AllByRecursion (IsOpened schema) news → AllByRecursion (IsMember (IsSegment schema)) (map alive_member news)
alive_members schema [] o = tt
alive_members schema (s ∷ news) o = ((are_members schema (s ∷ []) (all_alive s ∷ []) (o.0, tt) (length-replicate (num_docs_of s) true, tt)).0, alive_members schema news o.1)

pub alive_bytes : (news : List code.Segment) → map (λ m. m.0) (map alive_member news) ≡ map bytes_of news
alive_bytes [] = refl
alive_bytes (s ∷ news) = ap (λ bs. bytes_of s ∷ bs) (alive_bytes news)

pub alive_flags : (news : List code.Segment) → map (λ m. m.1) (map alive_member news) ≡ map all_alive news
alive_flags [] = refl
alive_flags (s ∷ news) = ap (λ fs. all_alive s ∷ fs) (alive_flags news)

pub short_bytes : (schema : Schema) (news : List code.Segment) → AllByRecursion (IsOpened schema) news → AllByRecursion (λ b. length b < 2 ^ 64) (map bytes_of news)
short_bytes schema [] o = tt
short_bytes schema (s ∷ news) o = (o.0.written.short, short_bytes schema news o.1)
