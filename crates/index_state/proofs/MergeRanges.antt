-- The new segment of a merge, where it stands in the record.
use Rattle.std.proofs.Common.{[], ◌++◌, ◌+◌, ◌-◌, ◌<◌, ◌∙◌, ◌∷◌, ◌≡◌, ◌≤◌, Bool, List, None, Option, Some, ap, ap₂, append-nil, arith, drop, false, flat_map, length, length-append, map, nat_lt, refl, subst, sum_by, sym, take, true, ℕ}
use Rattle.std.proofs.Math.Logic.{∥∥₁_map}
use Rattle.std.proofs.lemmas.Bool.Decides.{nat_tests}
use Rattle.std.proofs.lemmas.List.{take-append-drop}
use Rattle.std.proofs.lemmas.List.Sums.{sum_by-cons}
use Rattle.std.specs.Int.{from_bool}
use Rattle.std.specs.List.{AllByRecursion, zip}
use Rattle.std.specs.Prelude.{IfSome, MatchOption, option_to_list}
use Rattle.common.specs.BitSets.{count_set}
use Rattle.common.specs.declared.analyzer.Analyzer as analyzers
use Rattle.definitions.specs.Alive as alive
use Rattle.definitions.specs.Alive.{live}
use Rattle.definitions.specs.Analyzers.{Analyzer}
use Rattle.definitions.specs.Calls as calls
use Rattle.definitions.specs.NumberCodes.{u32_bytes}
use Rattle.definitions.specs.Schema.{Schema}
use Rattle.definitions.specs.Values.{Document}
use Rattle.index_file.proofs.BodiesBack.{is_written}
use Rattle.index_file.proofs.FreshPlaces.{place_framed}
use Rattle.index_file.specs.Frames.{frame_bytes}
use Rattle.index_file.specs.FreshPlaces.{StandsAt, begun_fresh, framed_at}
use Rattle.layouts.specs.AliveSets.{alive_bytes}
use Rattle.segment.proofs.Counts.{set_living}
use Rattle.segment.proofs.MergedSegments.{living_is}
use Rattle.segment.specs.Members.{AreOpened, StandFor, living_count}
use Rattle.segment.specs.Opened.{IsOpened, StandsFor, bytes_of}
use Rattle.segment.specs.declared.segment.Segment as code
use Rattle.segment_definitions.specs.ListBodies.{fresh, part_bytes, segments_body}
use Rattle.segment_definitions.specs.Segments.{IsSegment, IsSegmentOf}
use Rattle.segment_search.proofs.Flagging.{flagged_within}
use Rattle.index_state.proofs.BodyMade.{parts_more}
use Rattle.index_state.proofs.MergeMade.{length-merged}
use Rattle.index_state.proofs.MergedGroups.{length-range, range_opened, range_stands}
use Rattle.index_state.specs.Bodies.{kept_from, merged_parts}
use Rattle.index_state.specs.Merges.{joined_groups}
use Rattle.index_state.specs.NewSegments.{AreKnown, ArePut, AreWithin, IsKnownIn, IsNew, segment_at, segment_in}
use Rattle.index_state.specs.Standing.{Stands}
use Rattle.index_state.specs.declared.index_state.IndexState.{IndexState}
use Rattle.index_state.specs.declared.new_segments.NewSegment.{NewSegment}

-- as many documents live as flags are set
pub living_zipped : (segments : List code.Segment) (sets : List (List Bool)) → length segments ≡ length sets → living_count (zip segments sets) ≡ sum_by count_set sets
living_zipped [] [] e = refl
living_zipped [] (flags ∷ sets) e = absurd (omega (arith, e))
living_zipped (s ∷ segments) [] e = absurd (omega (arith, e))
living_zipped (s ∷ segments) (flags ∷ sets) e = ap₂ (λ (a b : ℕ). a + b) (set_living flags) (living_zipped segments sets (omega (arith, e))) ∙ sym (sum_by-cons count_set flags sets)

-- the members of a range, lent
module _ {A : Type 0} {a : analyzers.Ghosts A} (index : IndexState A a) (from to : ℕ) (within : to ≤ length index.alive.items) (segments : List code.Segment) (sets : List (List Bool)) (lent : segments ≡ index.segments.items) (flags : sets ≡ index.alive.items) where
  -- each has a set
  pub range_each : length (take (to - from) (drop from segments)) ≡ length (take (to - from) (drop from sets))
  range_each =
      let few = flagged_within index.segments.items index.alive.items index.flagged in
      ap (λ ss. length (take (to - from) (drop from ss))) lent
      ∙ length-range from to index.segments.items (omega (arith, few, within))
      ∙ sym (length-range from to index.alive.items within)
      ∙ ap (λ fs. length (take (to - from) (drop from fs))) (sym flags)

  -- how many of their documents live
  pub range_living : living_count (zip (take (to - from) (drop from segments)) (take (to - from) (drop from sets))) ≡ sum_by count_set (take (to - from) (drop from index.alive.items))
  range_living = living_zipped (take (to - from) (drop from segments)) (take (to - from) (drop from sets)) range_each ∙ ap (λ fs. sum_by count_set (take (to - from) (drop from fs))) flags

  -- they are opened
  pub range_known : ∥ AllByRecursion (IsOpened index.schema) index.segments.items ∥₁ → ∥ AreOpened index.schema (zip (take (to - from) (drop from segments)) (take (to - from) (drop from sets))) ∥₁
  range_known opened = ∥∥₁_map opened (λ all.
      subst (λ ss. AreOpened index.schema (zip (take (to - from) (drop from ss)) (take (to - from) (drop from sets)))) (sym lent)
      (subst (λ fs. AreOpened index.schema (zip (take (to - from) (drop from index.segments.items)) (take (to - from) (drop from fs)))) (sym flags) (range_opened index from (to - from) all)))

  -- and stand for the documents of the groups of the range
  pub range_of : (analyze : A → Analyzer) (c : calls.Configuration) (x : calls.Index) → Stands analyze index c x
      → (rows : List alive.Segment) × StandFor index.schema (analyze index.analyzer) (zip (take (to - from) (drop from segments)) (take (to - from) (drop from sets))) rows × (live rows ≡ joined_groups from to x.state.groups)
  range_of analyze c x s =
      let cut = analyze index.analyzer in
      let r = range_stands analyze index c x s from to within in
      let stand = subst (λ ss. StandFor index.schema cut (zip (take (to - from) (drop from ss)) (take (to - from) (drop from sets))) r.rows) (sym lent)
      (subst (λ fs. StandFor index.schema cut (zip (take (to - from) (drop from index.segments.items)) (take (to - from) (drop from fs))) r.rows) (sym flags) r.stand) in
      (r.rows, stand, r.whole)

  -- of which as many live as the range has documents
  pub range_documents : (analyze : A → Analyzer) (c : calls.Configuration) (x : calls.Index) → Stands analyze index c x → sum_by count_set (take (to - from) (drop from index.alive.items)) ≡ length (joined_groups from to x.state.groups)
  range_documents analyze c x s =
      let r = range_of analyze c x s in
      sym range_living ∙ living_is index.schema (analyze index.analyzer) (zip (take (to - from) (drop from segments)) (take (to - from) (drop from sets))) r.0 r.1 ∙ ap length r.2

-- ---- put behind a body

-- what stands in front of bytes is no longer than these
pub front_within : (front bytes : List ℕ) → take (length front) bytes ≡ front → length front ≤ length bytes
front_within front bytes stands =
    let whole = ap length (take-append-drop (length front) bytes) in
    let both = length-append (take (length front) bytes) (drop (length front) bytes) in
    let same = ap length stands in
    omega (arith, whole, both, same)

-- a segment that is ended is put
pub put_ended : (body put prefix frame : List ℕ) (start : ℕ) (new : NewSegment) → start ≡ length prefix → take (length prefix) frame ≡ prefix → drop 8 prefix ≡ begun_fresh body
    → ((before : List ℕ) → drop 8 (take start frame) ≡ begun_fresh before → put ≡ before ++ part_bytes (fresh (drop start frame))) → StandsAt put (drop start frame) new.range → ArePut body put (new ∷ [])
put_ended body put prefix frame start new starts front begun ended stands =
    let begins : drop 8 (take start frame) ≡ begun_fresh body = ap (λ n. drop 8 (take n frame)) starts ∙ ap (drop 8) front ∙ begun in
    record {
      within = ((stands.forward, stands.within), tt);
      put = ended body begins ∙ ap (λ bs. body ++ part_bytes (fresh bs)) (sym stands.bytes_are) ∙ ap (λ bs. body ++ bs) (sym (append-nil (part_bytes (fresh (segment_at put new)))));
    }

-- none is new where no document lives
pub counted_if : (n : ℕ) (new : Option NewSegment) → MatchOption new (n ≡ 0) (λ (o : NewSegment). 0 < n) → from_bool (nat_lt 0 n) ≡ length (option_to_list new)
counted_if n None none = ap from_bool (let e : nat_lt 0 n ≡ false = grind (arith, nat_tests, none) in e)
counted_if n (Some new) some = ap from_bool (let e : nat_lt 0 n ≡ true = grind (arith, nat_tests, some) in e)

-- ---- in the frame

module _ (body more frame : List ℕ) (framed : frame ≡ frame_bytes (body ++ more)) where
  -- its bytes are those in the body
  same_range : (new : NewSegment) → new.range.end ≤ length body → segment_in frame new ≡ segment_at body new
  same_range new l = ap (λ bs. framed_at bs new.range) framed ∙ place_framed body more new.range l

  pub same_ranges : (news : List NewSegment) → AreWithin body news → map (segment_in frame) news ≡ map (segment_at body) news
  same_ranges [] h = refl
  same_ranges (new ∷ news) h = ap₂ (λ (bs : List ℕ) rest. bs ∷ rest) (same_range new h.0.1) (same_ranges news h.1)

  -- what is known of it in the body is known in the frame
  pub new_known : (schema : Schema) (new : Option NewSegment) → AreWithin body (option_to_list new) → ∥ AreKnown schema body (option_to_list new) ∥₁ → IfSome new (λ n. ∥ IsKnownIn schema frame n ∥₁)
  new_known schema None within known = tt
  new_known schema (Some new) within known =
      let end = within.0.1 in
      let whole = ap length framed in
      let both = length-append body more in
      let last = length-append (body ++ more) (0 ∷ []) in
      let inside : 8 + new.range.end ≤ length frame = omega (arith, end, whole, both, last) in
      ∥∥₁_map known (λ are. (within.0.0, inside, subst (IsSegment schema new.num_docs) (sym (same_range new end)) are.0))

-- opened, it stands for its documents
pub new_stands : (schema : Schema) (analyze : Analyzer) (body frame : List ℕ) (new : Option NewSegment) (o : Option code.Segment) (docs : List Document) → IfSome o (IsOpened schema)
    → map bytes_of (option_to_list o) ≡ map (segment_in frame) (option_to_list new) → map (segment_in frame) (option_to_list new) ≡ map (segment_at body) (option_to_list new)
    → MatchOption new (docs ≡ []) (IsNew schema analyze body docs) → MatchOption o (docs ≡ []) (StandsFor schema analyze docs)
new_stands schema analyze body frame None None docs opened bytes same of = of
new_stands schema analyze body frame None (Some s) docs opened bytes same of = absurd (let long = ap length bytes in omega (arith, long))
new_stands schema analyze body frame (Some new) None docs opened bytes same of = absurd (let long = ap length bytes in omega (arith, long))
new_stands schema analyze body frame (Some new) (Some s) docs opened bytes same of =
    let whole : bytes_of s ∷ [] ≡ segment_at body new ∷ [] = bytes ∙ same in
    let one : bytes_of s ≡ segment_at body new = first_of (bytes_of s) (segment_at body new) whole in
    record { opened = opened; bytes_are = subst (IsSegmentOf schema analyze docs) (sym one) of.0 }
  where
    head : List (List ℕ) → List ℕ
    head [] = []
    head (xs ∷ rest) = xs

    first_of : (xs ys : List ℕ) → xs ∷ [] ≡ ys ∷ [] → xs ≡ ys
    first_of xs ys e = ap head e

-- ---- the body

-- kept segments, new ones, and kept ones, and then the sets
pub merge_written : (count from to n : ℕ) (news : List (List ℕ)) (sets : List (List Bool)) (begun before mid put : List ℕ) → begun ≡ 2 ∷ u32_bytes n → n ≡ from + (length news + (count - to))
    → before ≡ begun ++ flat_map part_bytes (kept_from 0 (from - 0)) → mid ≡ before ++ flat_map part_bytes (map fresh news) → put ≡ mid ++ flat_map part_bytes (kept_from to (count - to))
    → put ++ flat_map alive_bytes sets ≡ segments_body (merged_parts count from to news) sets
merge_written count from to n news sets begun before mid put begins counted first second third =
    let all_kept : from - 0 ≡ from = omega arith in
    let front : before ≡ begun ++ flat_map part_bytes (kept_from 0 from) = first ∙ ap (λ k. begun ++ flat_map part_bytes (kept_from 0 k)) all_kept in
    let all = parts_more begun before put (kept_from 0 from) (map fresh news ++ kept_from to (count - to)) front (parts_more before mid put (map fresh news) (kept_from to (count - to)) second third) in
    is_written (merged_parts count from to news) sets begun put n begins (counted ∙ sym (length-merged count from to news)) all

-- bytes are a segment by another name of them and of how many documents it has
pub known_at : (schema : Schema) (n many : ℕ) (bytes at : List ℕ) → n ≡ many → at ≡ bytes → IsSegment schema n bytes → IsSegment schema many at
known_at schema n many bytes at counted same is = subst (λ k. IsSegment schema k at) counted (subst (IsSegment schema n) (sym same) is)
