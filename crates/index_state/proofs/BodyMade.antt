-- The body of a commit makes the members after it of those before.
use Rattle.std.proofs.Common.{[], ◌++◌, ◌+◌, ◌-◌, ◌<◌, ◌∙◌, ◌∷◌, ◌≡◌, ◌≤◌, ◌^◌, Bool, List, Some, ap, append_assoc, arith, drop, filter_map, flat_map, length, length-append, map, refl, slice_get, subst, suc, sym, zero, ℕ}
use Rattle.std.proofs.lemmas.List.{length-drop, length-map}
use Rattle.std.proofs.lemmas.List.Concat.{flat_map-append}
use Rattle.std.specs.List.{AllByRecursion, AllZip, zip}
use Rattle.definitions.proofs.Lists.{all_append as all_both}
use Rattle.definitions.specs.Schema.{Schema}
use Rattle.layouts.specs.Deltas.{IsAscendingFrom}
use Rattle.segment.specs.Opened.{IsOpened, bytes_of}
use Rattle.segment.specs.declared.segment.Segment as code
use Rattle.index_file.proofs.PlacesFollow.{body_makes}
use Rattle.index_file.specs.Bodies.{IsBody, IsShort}
use Rattle.index_file.specs.Places.{Follow, Says}
use Rattle.index_file.proofs.OpenedSegments.{opened_few, opened_is}
use Rattle.segment_definitions.specs.ListBodies.{Fits, IsMember, IsOfPart, Makes, Member, Part, fresh, kept, part_bytes, place_of, segments_body}
use Rattle.segment_definitions.specs.Segments.{IsSegment}
use Rattle.segment_search.proofs.Flagging.{flagged_within}
use Rattle.index_state.specs.Bodies.{kept_from, next_parts}
use Rattle.index_state.specs.Flags.{AreFlagged, members}

-- ---- members

-- segments behind those with flags are no members
pub members_more : (segments more : List code.Segment) (sets : List (List Bool)) → length sets ≤ length segments → members (segments ++ more) sets ≡ members segments sets
members_more [] [] [] l = refl
members_more [] (s ∷ more) [] l = refl
members_more [] more (flags ∷ sets) l = absurd (omega (arith, l))
members_more (s ∷ segments) more [] l = refl
members_more (s ∷ segments) more (flags ∷ sets) l = ap (λ ms. (bytes_of s, flags) ∷ ms) (members_more segments more sets (omega (arith, l)))

pub members_behind : (segments more new : List code.Segment) (sets : List (List Bool)) → new ≡ segments ++ more → AreFlagged segments sets → members new sets ≡ members segments sets
members_behind segments more new sets e f = ap (λ ss. members ss sets) e ∙ members_more segments more sets (flagged_within segments sets f)

pub zip_flags : (segs : List (List ℕ)) (sets : List (List Bool)) → length sets ≤ length segs → map (λ (m : Member). m.1) (zip segs sets) ≡ sets
zip_flags [] [] l = refl
zip_flags [] (flags ∷ sets) l = absurd (omega (arith, l))
zip_flags (b ∷ segs) [] l = refl
zip_flags (b ∷ segs) (flags ∷ sets) l = ap (λ fs. flags ∷ fs) (zip_flags segs sets (omega (arith, l)))

pub length-zip : (segs : List (List ℕ)) (sets : List (List Bool)) → length sets ≤ length segs → length (zip segs sets) ≡ length sets
length-zip [] [] l = refl
length-zip [] (flags ∷ sets) l = absurd (omega (arith, l))
length-zip (b ∷ segs) [] l = refl
length-zip (b ∷ segs) (flags ∷ sets) l = ap suc (length-zip segs sets (omega (arith, l)))

pub are_members : (schema : Schema) (segments : List code.Segment) (sets : List (List Bool)) → AllByRecursion (IsOpened schema) segments → AreFlagged segments sets → AllByRecursion (IsMember (IsSegment schema)) (members segments sets)
are_members schema [] [] o f = tt
are_members schema [] (flags ∷ sets) o f = absurd f
are_members schema (s ∷ segments) [] o f = tt
are_members schema (s ∷ segments) (flags ∷ sets) o f =
    let few = opened_few schema s o.0 in
    let long = f.0 in
    ((subst (λ n. IsSegment schema n (bytes_of s)) (sym f.0) (opened_is schema s o.0), omega (arith, few, long)), are_members schema segments sets o.1 f.1)

-- ---- parts

-- each member is that of its part
of_parts : (before : List Member) (segs : List (List ℕ)) (sets : List (List Bool)) → length sets ≡ length segs → AllZip (IsOfPart before) (map fresh segs) (zip segs sets)
of_parts before [] [] e = tt
of_parts before [] (flags ∷ sets) e = absurd (omega (arith, e))
of_parts before (b ∷ segs) [] e = absurd (omega (arith, e))
of_parts before (b ∷ segs) (flags ∷ sets) e = (refl, of_parts before segs sets (omega (arith, e)))

pub get_seam : (pre rest : List Member) (m : Member) → slice_get (pre ++ m ∷ rest) (length pre) ≡ Some m
get_seam [] rest m = refl
get_seam (x ∷ pre) rest m = get_seam pre rest m

of_kept : (pre : List Member) (segs : List (List ℕ)) (alive sets : List (List Bool)) → length alive ≤ length segs → length sets ≡ length segs → AllZip (IsOfPart (pre ++ zip segs alive)) (kept_from (length pre) (length alive) ++ map fresh (drop (length alive) segs)) (zip segs sets)
of_kept pre segs [] sets l e = of_parts (pre ++ zip segs []) segs sets e
of_kept pre [] (f ∷ alive) sets l e = absurd (omega (arith, l))
of_kept pre (b ∷ segs) (f ∷ alive) [] l e = absurd (omega (arith, e))
of_kept pre (b ∷ segs) (f ∷ alive) (flags ∷ sets) l e =
    let m : Member = (b, f) in
    let next : length (pre ++ m ∷ []) ≡ suc (length pre) = length-append pre (m ∷ []) ∙ (let one : length pre + 1 ≡ suc (length pre) = omega arith in one) in
    let rest = of_kept (pre ++ m ∷ []) segs alive sets (omega (arith, l)) (omega (arith, e)) in
    let here = subst (λ all. AllZip (IsOfPart all) (kept_from (length (pre ++ m ∷ [])) (length alive) ++ map fresh (drop (length alive) segs)) (zip segs sets)) (append_assoc pre (m ∷ []) (zip segs alive)) rest in
    ((f, get_seam pre (zip segs alive) m), subst (λ n. AllZip (IsOfPart (pre ++ m ∷ zip segs alive)) (kept_from n (length alive) ++ map fresh (drop (length alive) segs)) (zip segs sets)) next here)

-- indices ascend, each one of the list before
none_ascend : (least : ℕ) (bs : List (List ℕ)) → IsAscendingFrom least (filter_map place_of (map fresh bs))
none_ascend least [] = tt
none_ascend least (b ∷ bs) = none_ascend least bs

ascend : (i k : ℕ) (bs : List (List ℕ)) → IsAscendingFrom i (filter_map place_of (kept_from i k ++ map fresh bs))
ascend i zero bs = none_ascend i bs
ascend i (suc k) bs = let next : suc i ≡ i + 1 = omega arith in (omega arith, subst (λ j. IsAscendingFrom j (filter_map place_of (kept_from (suc i) k ++ map fresh bs))) next (ascend (suc i) k bs))

none_below : (len : ℕ) (bs : List (List ℕ)) → AllByRecursion (λ index. index < len) (filter_map place_of (map fresh bs))
none_below len [] = tt
none_below len (b ∷ bs) = none_below len bs

below : (len i k : ℕ) (bs : List (List ℕ)) → i + k ≤ len → AllByRecursion (λ index. index < len) (filter_map place_of (kept_from i k ++ map fresh bs))
below len i zero bs l = none_below len bs
below len i (suc k) bs l = (omega (arith, l), below len (suc i) k bs (omega (arith, l)))

pub kept_fit : (i k : ℕ) → i + k < 2 ^ 32 → AllByRecursion Fits (kept_from i k)
kept_fit i zero l = tt
kept_fit i (suc k) l = (omega (arith, l), kept_fit (suc i) k (omega (arith, l)))

fresh_fit : (schema : Schema) (k : ℕ) (segments : List code.Segment) → AllByRecursion (IsOpened schema) segments → AllByRecursion Fits (map fresh (drop k (map bytes_of segments)))
fresh_fit schema zero [] o = tt
fresh_fit schema zero (s ∷ segments) o = (o.0.written.short, fresh_fit schema zero segments o.1)
fresh_fit schema (suc k) [] o = tt
fresh_fit schema (suc k) (s ∷ segments) o = fresh_fit schema k segments o.1

pub length-kept : (i k : ℕ) → length (kept_from i k) ≡ k
length-kept i zero = refl
length-kept i (suc k) = ap suc (length-kept (suc i) k)

short_sets : (schema : Schema) (segments : List code.Segment) (sets : List (List Bool)) → AllByRecursion (IsOpened schema) segments → AreFlagged segments sets → AllByRecursion IsShort sets
short_sets schema segments [] o f = tt
short_sets schema [] (flags ∷ sets) o f = absurd f
short_sets schema (s ∷ segments) (flags ∷ sets) o f = let few = opened_few schema s o.0 in let long = f.0 in (omega (arith, few, long), short_sets schema segments sets o.1 f.1)

-- as many parts as segments
pub length-parts : (segments : List code.Segment) (k : ℕ) → k ≤ length segments → length (next_parts k (map bytes_of segments)) ≡ length segments
length-parts segments k few =
    let bytes = map bytes_of segments in
    let long : length bytes ≡ length segments = length-map segments bytes_of in
    let both = length-append (kept_from 0 k) (map fresh (drop k bytes)) in
    let first = length-kept 0 k in
    let more = length-map (drop k bytes) fresh in
    let rest = length-drop k bytes in
    omega (arith, both, first, more, rest, long, few)

pub drop-bytes : (k : ℕ) (segments : List code.Segment) → map bytes_of (drop k segments) ≡ drop k (map bytes_of segments)
drop-bytes zero segments = refl
drop-bytes (suc k) [] = refl
drop-bytes (suc k) (s ∷ segments) = drop-bytes k segments

-- of as many members as sets were alive, and all segments
pub commit_makes : (schema : Schema) (segments : List code.Segment) (alive sets : List (List Bool)) → AllByRecursion (IsOpened schema) segments → AreFlagged segments sets → length alive ≤ length segments → length sets ≡ length segments → length segments < 2 ^ 32
    → Makes (IsSegment schema) (members segments alive) (members segments sets) (segments_body (next_parts (length alive) (map bytes_of segments)) sets)
commit_makes schema segments alive sets o f few each small =
    let bytes = map bytes_of segments in
    let k = length alive in
    let long : length bytes ≡ length segments = length-map segments bytes_of in
    let parts = next_parts k bytes in
    let count : length parts ≡ length segments = length-parts segments k few in
    let inside : length alive ≤ length bytes = omega (arith, few, long) in
    let whole : length sets ≡ length bytes = omega (arith, each, long) in
    let old : length (members segments alive) ≡ k = length-zip bytes alive inside in
    let body : IsBody parts sets (segments_body parts sets) = record {
      num_parts_fits = omega (arith, count, small);
      fit = all_both Fits (kept_from 0 k) (map fresh (drop k bytes)) (kept_fit 0 k (omega (arith, few, small))) (fresh_fit schema k segments o);
      set_for_each = omega (arith, count, each);
      short = short_sets schema segments sets o f;
      body_is = refl;
    } in
    let follow : Follow (length (members segments alive)) parts = record { ascend = ascend 0 k (drop k bytes); below = below (length (members segments alive)) 0 k (drop k bytes) (omega (arith, old)) } in
    let says : Says schema (members segments alive) (members segments sets) parts sets = record {
      flags = sym (zip_flags bytes sets (omega (arith, whole)));
      follow = follow;
      parts_are = of_kept [] bytes alive sets inside whole;
      members = are_members schema segments sets o f;
    } in
    body_makes schema (members segments alive) (members segments sets) parts sets (segments_body parts sets) body says

-- ---- parts, put one behind another

-- the first of the kept segments from one index to another
pub kept_first : (index to : ℕ) → index < to → kept_from index (to - index) ≡ kept index ∷ kept_from (index + 1) (to - (index + 1))
kept_first index to below =
    let count : to - index ≡ suc (to - (index + 1)) = omega (arith, below) in
    let next : suc index ≡ index + 1 = omega arith in
    ap (kept_from index) count ∙ ap (λ n. kept index ∷ kept_from n (to - (index + 1))) next

-- some parts, and others behind them
pub parts_more : (begun mid new : List ℕ) (parts more : List Part) → mid ≡ begun ++ flat_map part_bytes parts → new ≡ mid ++ flat_map part_bytes more → new ≡ begun ++ flat_map part_bytes (parts ++ more)
parts_more begun mid new parts more first second =
    second
    ∙ ap (λ l. l ++ flat_map part_bytes more) first
    ∙ append_assoc begun (flat_map part_bytes parts) (flat_map part_bytes more)
    ∙ ap (λ l. begun ++ l) (sym (flat_map-append part_bytes parts more))
