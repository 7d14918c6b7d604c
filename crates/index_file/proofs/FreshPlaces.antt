-- New segments in the body of a record, and in its frame.
use Rattle.std.proofs.Common.{[], ◌++◌, ◌+◌, ◌-◌, ◌<◌, ◌∙◌, ◌∷◌, ◌≡◌, ◌≤◌, List, ap, ap₂, append_assoc, arith, drop, inl, inr, length, length-append, length-drop, slice_range, sym, take, ℕ}
use Rattle.std.proofs.Math.Seq.{drop-append-add, take-append_seam}
use Rattle.std.proofs.lemmas.Bool.{cases_lt}
use Rattle.std.proofs.lemmas.List.{drop-append-le, drop-take, length-take-le, take-append-drop, take-append-le}
use Rattle.common.proofs.TokenParts.{last_part}
use Rattle.definitions.specs.Disk.{overwritten}
use Rattle.definitions.specs.NumberCodes.{u64_bytes}
use Rattle.segment_definitions.specs.ListBodies.{fresh, part_bytes}
use Rattle.index_file.specs.Frames.{frame_bytes}
use Rattle.index_file.specs.FreshPlaces.{StandsAt, begun_fresh, bytes_at, framed_at}
use Rattle.index_file.specs.declared.fresh_place.FreshPlace.{FreshPlace}

-- ---- what stands behind changes nothing

-- a range that ends before it begins is empty
none_there : (xs ys : List ℕ) (start end : ℕ) → end < start → slice_range xs start end ≡ slice_range ys start end
none_there xs ys start end less =
    let none : end - start ≡ 0 = omega (arith, less) in
    ap (λ n. take n (drop start xs)) none ∙ sym (ap (λ n. take n (drop start ys)) none)

range_more : (xs ys : List ℕ) (start end : ℕ) → end ≤ length xs → slice_range (xs ++ ys) start end ≡ slice_range xs start end
range_more xs ys start end inside = elim (cases_lt end start) [
  | inl less ↦ none_there (xs ++ ys) xs start end less
  | inr from ↦
      let long = length-drop start xs in
      ap (take (end - start)) (drop-append-le start xs ys (omega (arith, from, inside))) ∙ take-append-le (end - start) (drop start xs) ys (omega (arith, long, from, inside))
]

-- the bytes at a range of a body are there still when more is put behind it
pub place_more : (body more : List ℕ) (range : FreshPlace) → range.end ≤ length body → bytes_at (body ++ more) range ≡ bytes_at body range
place_more body more range inside = range_more body more range.start range.end inside

-- and they stand in the frame
pub place_framed : (body more : List ℕ) (range : FreshPlace) → range.end ≤ length body → framed_at (frame_bytes (body ++ more)) range ≡ bytes_at body range
place_framed body more range inside =
    let start = range.start in
    let end = range.end in
    let front = u64_bytes (length (body ++ more)) in
    let behind = more ++ 0 ∷ [] in
    let whole : frame_bytes (body ++ more) ≡ front ++ (body ++ behind) = append_assoc front (body ++ more) (0 ∷ []) ∙ ap (λ l. front ++ l) (append_assoc body more (0 ∷ [])) in
    let count : (8 + end) - (8 + start) ≡ end - start = omega arith in
    ap (λ l. framed_at l range) whole
    ∙ ap (take ((8 + end) - (8 + start))) (drop-append-add front (body ++ behind) start)
    ∙ ap (λ n. take n (drop start (body ++ behind))) count
    ∙ place_more body behind range inside

-- ---- what is put stands there

-- the body goes on where it is put
rest_put : (front segment whole : List ℕ) → 8 ≤ length front → whole ≡ front ++ segment → drop 8 whole ≡ drop 8 front ++ segment
rest_put front segment whole room is = ap (λ (l : List ℕ). drop 8 l) is ∙ drop-append-le 8 front segment room

-- a segment that is put behind eight bytes and more stands behind what stood there
pub stands_put : (front segment whole : List ℕ) (range : FreshPlace) → 8 ≤ length front → whole ≡ front ++ segment → range.start ≡ length front - 8 → range.end ≡ length whole - 8 → StandsAt (drop 8 whole) segment range
stands_put front segment whole range room is from to =
    let body = drop 8 front in
    let rest = rest_put front segment whole room is in
    let long = length-drop 8 front in
    let left = length-drop 8 whole in
    let both = length-append body segment in
    let counted = ap length rest in
    let first : range.start ≡ length body = omega (arith, from, long) in
    let last : range.end ≡ length (body ++ segment) = omega (arith, to, left, counted) in
    record {
      forward = omega (arith, first, last, both);
      within = omega (arith, to, left);
      bytes_are = ap (λ l. bytes_at l range) rest ∙ ap₂ (slice_range (body ++ segment)) first last ∙ last_part body segment;
    }

-- ---- a length that is written late

-- before the room for a length stands what stood there, and the code
before_room : (frame before : List ℕ) (start : ℕ) → 17 ≤ start → start ≤ length frame → drop 8 (take start frame) ≡ begun_fresh before → drop 8 (take (start - 8) frame) ≡ before ++ 1 ∷ []
before_room frame before start room inside begun =
    let body = drop 8 frame in
    let n = start - 8 in
    let front = before ++ 1 ∷ [] in
    let rest = drop n body in
    let long = length-drop 8 frame in
    let up : start ≡ 8 + n = omega (arith, room) in
    let down : n ≡ 8 + (start - 16) = omega (arith, room) in
    let cut : take n body ≡ begun_fresh before = sym (drop-take 8 n frame) ∙ ap (λ k. drop 8 (take k frame)) (sym up) ∙ begun in
    let size : length (take n body) ≡ n = length-take-le n body (omega (arith, long, inside, room)) in
    let sized = ap length cut in
    let begins = length-append before (1 ∷ u64_bytes 0) in
    let one = length-append before (1 ∷ []) in
    let count : start - 16 ≡ length front = omega (arith, size, sized, begins, one, room) in
    let parts : body ≡ front ++ (u64_bytes 0 ++ rest) = sym (take-append-drop n body) ∙ ap (λ l. l ++ rest) cut ∙ append_assoc before (1 ∷ u64_bytes 0) rest ∙ sym (append_assoc before (1 ∷ []) (u64_bytes 0 ++ rest)) in
    ap (λ k. drop 8 (take k frame)) down
    ∙ drop-take 8 (start - 16) frame
    ∙ ap₂ (λ k (l : List ℕ). take k l) count parts
    ∙ take-append_seam front (u64_bytes 0 ++ rest)

module _ (frame new spelled : List ℕ) (start n : ℕ) (room : 17 ≤ start) (inside : start ≤ length frame) (many : n ≡ length (drop start frame)) (length_is : spelled ≡ u64_bytes n) (is : new ≡ overwritten (start - 8) spelled frame) where
  segment : List ℕ
  segment = drop start frame

  front : List ℕ
  front = take (start - 8) frame ++ u64_bytes (length segment)

  -- a frame in which the length is written
  whole_put : new ≡ front ++ segment
  unfolding segment front
  whole_put =
      let lengthy : spelled ≡ u64_bytes (length (drop start frame)) = length_is ∙ ap u64_bytes many in
      let back : (start - 8) + 8 ≡ start = omega (arith, room) in
      is
      ∙ ap (λ l. overwritten (start - 8) l frame) lengthy
      ∙ ap (λ k. take (start - 8) frame ++ u64_bytes (length (drop start frame)) ++ drop k frame) back

  cut_sized : length (take (start - 8) frame) ≡ start - 8
  cut_sized = length-take-le (start - 8) frame (omega (arith, inside))

  front_sized : length front ≡ start
  unfolding segment front
  front_sized =
      let both = length-append (take (start - 8) frame) (u64_bytes (length (drop start frame))) in
      let cut = cut_sized in
      omega (arith, both, cut, room)

  -- the new segment is put
  pub ended_put : (before : List ℕ) → drop 8 (take start frame) ≡ begun_fresh before → drop 8 new ≡ before ++ part_bytes (fresh (drop start frame))
  unfolding segment front
  ended_put before begun =
      let spelling = u64_bytes (length (drop start frame)) in
      let cut = cut_sized in
      ap (λ (l : List ℕ). drop 8 l) whole_put
      ∙ ap (λ (l : List ℕ). drop 8 l) (append_assoc (take (start - 8) frame) spelling (drop start frame))
      ∙ drop-append-le 8 (take (start - 8) frame) (spelling ++ drop start frame) (omega (arith, cut, room))
      ∙ ap (λ l. l ++ (spelling ++ drop start frame)) (before_room frame before start room inside begun)
      ∙ append_assoc before (1 ∷ []) (spelling ++ drop start frame)

  -- and stands there
  pub ended_stands : (range : FreshPlace) → range.start ≡ start - 8 → range.end ≡ length new - 8 → StandsAt (drop 8 new) (drop start frame) range
  unfolding segment front
  ended_stands range from to = (let sized = front_sized in stands_put front (drop start frame) new range (omega (arith, sized, room)) whole_put (omega (arith, from, sized)) to)
