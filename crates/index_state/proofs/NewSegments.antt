-- New segments: put into a body one behind another, found in its frame, and opened.
use Rattle.std.proofs.Common.{[], ◌++◌, ◌+◌, ◌<◌, ◌∙◌, ◌∷◌, ◌≡◌, ◌≤◌, Bool, List, ap, ap₂, append_assoc, arith, drop, flat_map, get_or, length, length-append, map, refl, replicate, subst, suc, sym, take, true, zero, ℕ}
use Rattle.std.proofs.Math.Logic.{∥∥₁_map}
use Rattle.std.proofs.Math.Seq.{drop-append_seam}
use Rattle.std.proofs.lemmas.List.{append-nil, length-map, map-append, take_more}
use Rattle.std.specs.List.{AllByRecursion, AllZip}
use Rattle.definitions.proofs.Lists.{all_push, zip_length}
use Rattle.definitions.specs.Analyzers.{Analyzer}
use Rattle.definitions.specs.NumberCodes.{u32_bytes, u64_bytes}
use Rattle.definitions.specs.Schema.{Schema}
use Rattle.definitions.specs.Values.{Document}
use Rattle.index_file.proofs.BodiesBack.{is_written}
use Rattle.index_file.proofs.FreshPlaces.{place_framed, place_more}
use Rattle.index_file.specs.Frames.{frame_bytes}
use Rattle.layouts.specs.AliveSets.{alive_bytes}
use Rattle.segment.specs.Opened.{IsOpened, StandsFor, bytes_of, num_docs_of}
use Rattle.segment.specs.declared.segment.Segment as code
use Rattle.segment_definitions.specs.ListBodies.{fresh, part_bytes, segments_body}
use Rattle.segment_definitions.specs.Segments.{IsSegment, IsSegmentOf}
use Rattle.segment_search.proofs.Places.{zip_more}
use Rattle.index_state.proofs.BodyMade.{length-kept, parts_more}
use Rattle.index_state.specs.Bodies.{kept_from, next_parts}
use Rattle.index_state.specs.Merges.{all_alive}
use Rattle.index_state.specs.NewSegments.{AreKnown, ArePut, AreWithin, IsKnownIn, IsNew, segment_at, segment_in, told_at, told_of}
use Rattle.index_state.specs.Pending.{IsFull}
use Rattle.index_state.specs.declared.new_segments.NewSegment.{NewSegment}
use Rattle.index_state.specs.declared.pending_segments.FullSegment.{FullSegment}
use Rattle.segment_definitions.proofs.SegmentDocs.{segment_alone as segment_known}

-- ---- put into a body

-- what was put stands there still when more is put behind it
there_still : (body more : List ℕ) (news : List NewSegment) → AreWithin body news → map (segment_at (body ++ more)) news ≡ map (segment_at body) news
there_still body more [] within = refl
there_still body more (new ∷ news) within = ap₂ (λ (b : List ℕ) (bs : List (List ℕ)). b ∷ bs) (place_more body more new.range within.0.1) (there_still body more news within.1)

told_still : (body more : List ℕ) (news : List NewSegment) → AreWithin body news → map (told_at (body ++ more)) news ≡ map (told_at body) news
told_still body more [] within = refl
told_still body more (new ∷ news) within = ap₂ (λ (b : List ℕ) (ts : List (List ℕ × ℕ)). (b, new.num_docs) ∷ ts) (place_more body more new.range within.0.1) (told_still body more news within.1)

-- likewise of a body that goes on
pub told_next : (body next part : List ℕ) (news : List NewSegment) → AreWithin body news → next ≡ body ++ part → map (told_at next) news ≡ map (told_at body) news
told_next body next part news within whole = ap (λ (b : List ℕ). map (told_at b) news) whole ∙ told_still body part news within

within_more : (body next : List ℕ) (news : List NewSegment) → length body ≤ length next → AreWithin body news → AreWithin next news
within_more body next [] longer within = tt
within_more body next (new ∷ news) longer within = (let inside = within.0.1 in ((within.0.0, omega (arith, inside, longer)), within_more body next news longer within.1))

-- none are put
pub put_none : (body : List ℕ) → ArePut body body []
put_none body = record { within = tt; put = sym (append-nil body) }

-- one more is put
pub put_more : (before body next : List ℕ) (news : List NewSegment) (new : NewSegment) → ArePut before body news → next ≡ body ++ part_bytes (fresh (segment_at next new)) → new.range.start ≤ new.range.end → new.range.end ≤ length next → ArePut before next (news ++ new ∷ [])
put_more before body next news new are whole forward inside =
    let segment = segment_at next new in
    let part = part_bytes (fresh segment) in
    let was = map (segment_at body) news in
    let still : map (segment_at next) news ≡ was = ap (λ (b : List ℕ). map (segment_at b) news) whole ∙ there_still body part news are.within in
    let long = ap length whole in
    let both = length-append body part in
    let listed : map (segment_at next) (news ++ new ∷ []) ≡ was ++ segment ∷ [] = map-append (segment_at next) news (new ∷ []) ∙ ap (λ (bs : List (List ℕ)). bs ++ segment ∷ []) still in
    let parts : map fresh was ++ fresh segment ∷ [] ≡ map fresh (map (segment_at next) (news ++ new ∷ [])) = sym (map-append fresh was (segment ∷ [])) ∙ ap (map fresh) (sym listed) in
    let last : next ≡ body ++ flat_map part_bytes (fresh segment ∷ []) = whole ∙ ap (λ (l : List ℕ). body ++ l) (sym (append-nil part)) in
    record {
      within = all_push (λ (n : NewSegment). (n.range.start ≤ n.range.end) × (n.range.end ≤ length next)) news new (within_more body next news (omega (arith, long, both)) are.within) (forward, inside);
      put = parts_more before body next (map fresh was) (fresh segment ∷ []) are.put last ∙ ap (λ ps. before ++ flat_map part_bytes ps) parts;
    }

-- a full segment is told as it was
pub told_more : (body next part : List ℕ) (news : List NewSegment) (new : NewSegment) (segment : FullSegment) (left rest : List FullSegment) → AreWithin body news → next ≡ body ++ part → segment_at next new ≡ segment.bytes → new.num_docs ≡ segment.num_docs → left ≡ segment ∷ rest
    → map (told_at next) (news ++ new ∷ []) ++ map told_of rest ≡ map (told_at body) news ++ map told_of left
told_more body next part news new segment left rest within whole same count front =
    let still = told_next body next part news within whole in
    let one : told_at next new ≡ told_of segment = ap₂ (λ (b : List ℕ) (n : ℕ). (b, n)) same count in
    ap (λ (ts : List (List ℕ × ℕ)). ts ++ map told_of rest) (map-append (told_at next) news (new ∷ []) ∙ ap₂ (λ (ts : List (List ℕ × ℕ)) (t : List ℕ × ℕ). ts ++ t ∷ []) still one)
    ∙ append_assoc (map (told_at body) news) (told_of segment ∷ []) (map told_of rest)
    ∙ ap (λ (ss : List FullSegment). map (told_at body) news ++ map told_of ss) (sym front)

-- new segments that are told like full ones are of their documents
pub new_full : (schema : Schema) (analyze : Analyzer) (body : List ℕ) (docs : List (List Document)) (full : List FullSegment) (news : List NewSegment) → map (told_at body) news ≡ map told_of full → AllZip (IsFull schema analyze) docs full → AllZip (IsNew schema analyze body) docs news
new_full schema analyze body [] [] [] e h = tt
new_full schema analyze body [] [] (new ∷ news) e h = absurd (cc)
new_full schema analyze body [] (s ∷ full) news e h = absurd h
new_full schema analyze body (ds ∷ docs) [] news e h = absurd h
new_full schema analyze body (ds ∷ docs) (s ∷ full) [] e h = absurd (cc)
new_full schema analyze body (ds ∷ docs) (s ∷ full) (new ∷ news) e h =
    let first : told_at body new ≡ told_of s = cc in
    let rest : map (told_at body) news ≡ map told_of full = cc in
    let same : segment_at body new ≡ s.bytes = ap (λ (t : List ℕ × ℕ). t.0) first in
    let count : new.num_docs ≡ s.num_docs = ap (λ (t : List ℕ × ℕ). t.1) first in
    ((subst (IsSegmentOf schema analyze ds) (sym same) h.0.0, count ∙ h.0.1), new_full schema analyze body docs full news rest h.1)

-- as many are told
pub told_counted : (body : List ℕ) (full : List FullSegment) (news : List NewSegment) → map (told_at body) news ≡ map told_of full → length news ≡ length full
told_counted body full news e = sym (length-map news (told_at body)) ∙ ap length e ∙ length-map full told_of

-- new segments of documents are segments of their number
pub new_known : (schema : Schema) (analyze : Analyzer) (body : List ℕ) (docs : List (List Document)) (news : List NewSegment) → AllZip (IsNew schema analyze body) docs news → AreKnown schema body news
new_known schema analyze body [] [] h = tt
new_known schema analyze body [] (new ∷ news) h = absurd h
new_known schema analyze body (ds ∷ docs) [] h = absurd h
new_known schema analyze body (ds ∷ docs) (new ∷ news) h = (subst (λ n. IsSegment schema n (segment_at body new)) (sym h.0.1) (segment_known schema analyze ds (segment_at body new) h.0.0), new_known schema analyze body docs news h.1)

-- ---- in the frame of a body

-- a new segment in a frame is of these documents
abbrev pub IsNewIn : Schema → Analyzer → List ℕ → List Document → NewSegment → Type 0
IsNewIn schema analyze frame docs new = IsSegmentOf schema analyze docs (segment_in frame new)

pub in_frame : (body more : List ℕ) (news : List NewSegment) → AreWithin body news → map (segment_in (frame_bytes (body ++ more))) news ≡ map (segment_at body) news
in_frame body more [] within = refl
in_frame body more (new ∷ news) within = ap₂ (λ (b : List ℕ) (bs : List (List ℕ)). b ∷ bs) (place_framed body more new.range within.0.1) (in_frame body more news within.1)

-- a frame is nine bytes longer than its body
length-frame : (body : List ℕ) → length (frame_bytes body) ≡ length body + 9
length-frame body =
    let front = u64_bytes (length body) in
    let eight : length front ≡ 8 = refl in
    let both = length-append front body in
    let all = length-append (front ++ body) (0 ∷ []) in
    omega (arith, eight, both, all)

known_there : (schema : Schema) (body more : List ℕ) (news : List NewSegment) → AreWithin body news → AreKnown schema body news → AllByRecursion (IsKnownIn schema (frame_bytes (body ++ more))) news
known_there schema body more [] within known = tt
known_there schema body more (new ∷ news) within known =
    let frame = frame_bytes (body ++ more) in
    let inside = within.0.1 in
    let long = length-frame (body ++ more) in
    let both = length-append body more in
    ((within.0.0, omega (arith, inside, long, both), subst (IsSegment schema new.num_docs) (sym (place_framed body more new.range within.0.1)) known.0), known_there schema body more news within.1 known.1)

-- they are known there
pub known_framed : (schema : Schema) (body more frame : List ℕ) (news : List NewSegment) → frame ≡ frame_bytes (body ++ more) → AreWithin body news → ∥ AreKnown schema body news ∥₁ → ∥ AllByRecursion (IsKnownIn schema frame) news ∥₁
known_framed schema body more frame news framed within known = ∥∥₁_map known (λ are. subst (λ (f : List ℕ). AllByRecursion (IsKnownIn schema f) news) (sym framed) (known_there schema body more news within are))

new_there : (schema : Schema) (analyze : Analyzer) (body more : List ℕ) (docs : List (List Document)) (news : List NewSegment) → AreWithin body news → AllZip (IsNew schema analyze body) docs news → AllZip (IsNewIn schema analyze (frame_bytes (body ++ more))) docs news
new_there schema analyze body more [] [] within h = tt
new_there schema analyze body more [] (new ∷ news) within h = absurd h
new_there schema analyze body more (ds ∷ docs) [] within h = absurd h
new_there schema analyze body more (ds ∷ docs) (new ∷ news) within h = (subst (IsSegmentOf schema analyze ds) (sym (place_framed body more new.range within.0.1)) h.0.0, new_there schema analyze body more docs news within.1 h.1)

-- and of their documents
pub new_framed : (schema : Schema) (analyze : Analyzer) (body more frame : List ℕ) (docs : List (List Document)) (news : List NewSegment) → frame ≡ frame_bytes (body ++ more) → AreWithin body news → AllZip (IsNew schema analyze body) docs news → AllZip (IsNewIn schema analyze frame) docs news
new_framed schema analyze body more frame docs news framed within h = subst (λ (f : List ℕ). AllZip (IsNewIn schema analyze f) docs news) (sym framed) (new_there schema analyze body more docs news within h)

-- the frame of a body of kept segments and new ones is that of the segments that were opened over its bytes
pub frame_put : (begun kept body frame : List ℕ) (sets : List (List Bool)) (k n : ℕ) (news : List NewSegment) (old new : List code.Segment) → begun ≡ 2 ∷ u32_bytes n → n ≡ k + length news → kept ≡ begun ++ flat_map part_bytes (kept_from 0 k) → ArePut kept body news
    → frame ≡ frame_bytes (body ++ flat_map alive_bytes sets) → length old ≡ k → map bytes_of new ≡ map bytes_of old ++ map (segment_in frame) news
    → frame ≡ frame_bytes (segments_body (next_parts k (map bytes_of new)) sets)
frame_put begun kept body frame sets k n news old new begins count kept_is are framed long opened =
    let segments = map (segment_at body) news in
    let were = map bytes_of old in
    let parts = kept_from 0 k ++ map fresh segments in
    let standing : map (segment_in frame) news ≡ segments = ap (λ (f : List ℕ). map (segment_in f) news) framed ∙ in_frame body (flat_map alive_bytes sets) news are.within in
    let many : length were ≡ k = length-map old bytes_of ∙ long in
    let behind : drop k (map bytes_of new) ≡ segments = ap (drop k) (opened ∙ ap (λ (bs : List (List ℕ)). were ++ bs) standing) ∙ ap (λ m. drop m (were ++ segments)) (sym many) ∙ drop-append_seam were segments in
    let all = parts_more begun kept body (kept_from 0 k) (map fresh segments) kept_is are.put in
    let both = length-append (kept_from 0 k) (map fresh segments) in
    let first = length-kept 0 k in
    let more = length-map segments fresh in
    let rest = length-map news (segment_at body) in
    let counted : n ≡ length parts = omega (arith, count, both, first, more, rest) in
    framed ∙ ap frame_bytes (is_written parts sets begun body n begins counted all) ∙ ap (λ (bs : List (List ℕ)). frame_bytes (segments_body (kept_from 0 k ++ map fresh bs) sets)) (sym behind)

-- ---- opened

-- where one more stands for its index in another list
pub map_next : {X Y Z : Type 0} (f : X → Z) (g : Y → Z) (old was : List X) (s : X) (ys : List Y) (i : ℕ) (d : Y) → i < length ys → map f was ≡ map f old ++ map g (take i ys) → f s ≡ g (get_or ys i d) → map f (was ++ s ∷ []) ≡ map f old ++ map g (take (i + 1) ys)
map_next {X} {Y} {Z} f g old was s ys i d inside so same =
    let y = get_or ys i d in
    map-append f was (s ∷ [])
    ∙ ap₂ (λ (zs : List Z) (z : Z). zs ++ z ∷ []) so same
    ∙ append_assoc (map f old) (map g (take i ys)) (g y ∷ [])
    ∙ ap (λ (zs : List Z). map f old ++ zs) (sym (map-append g (take i ys) (y ∷ [])))
    ∙ ap (λ (zs : List Y). map f old ++ map g zs) (sym (take_more ys i d inside))

-- what stands at an index stands for what stands there
got_both : {X Y : Type 0} (R : X → Y → Type 0) (xs : List X) (ys : List Y) (i : ℕ) (d : X) (e : Y) → AllZip R xs ys → i < length ys → R (get_or xs i d) (get_or ys i e)
got_both R [] [] i d e h l = absurd (omega (arith, l))
got_both R [] (y ∷ ys) i d e h l = absurd h
got_both R (x ∷ xs) [] i d e h l = absurd h
got_both R (x ∷ xs) (y ∷ ys) zero d e h l = h.0
got_both R (x ∷ xs) (y ∷ ys) (suc i) d e h l = got_both R xs ys i d e h.1 (omega (arith, l))

-- one more is opened, behind those of the documents so far
pub new_opened : (schema : Schema) (analyze : Analyzer) (frame : List ℕ) (some : List (List Document)) (news : List NewSegment) (i : ℕ) (d : NewSegment) (docs : List (List Document)) (was : List code.Segment) (s : code.Segment) → AllZip (IsNewIn schema analyze frame) some news → i < length news
    → AllZip (StandsFor schema analyze) (docs ++ take i some) was → IsOpened schema s → bytes_of s ≡ segment_in frame (get_or news i d) → AllZip (StandsFor schema analyze) (docs ++ take (i + 1) some) (was ++ s ∷ [])
new_opened schema analyze frame some news i d docs was s are inside before opened same =
    let one = get_or some i [] in
    let many = zip_length (IsNewIn schema analyze frame) some news are in
    let is : IsNewIn schema analyze frame one (get_or news i d) = got_both (IsNewIn schema analyze frame) some news i [] d are inside in
    let stands : StandsFor schema analyze one s = record { opened = opened; bytes_are = subst (IsSegmentOf schema analyze one) (sym same) is } in
    let next = zip_more (StandsFor schema analyze) (docs ++ take i some) (one ∷ []) was (s ∷ []) before (stands, tt) in
    let docs_are : (docs ++ take i some) ++ one ∷ [] ≡ docs ++ take (i + 1) some = append_assoc docs (take i some) (one ∷ []) ∙ ap (λ (ds : List (List Document)). docs ++ ds) (sym (take_more some i [] (omega (arith, inside, many)))) in
    subst (λ ds. AllZip (StandsFor schema analyze) ds (was ++ s ∷ [])) docs_are next

-- one that is known at an index
pub known_at : (schema : Schema) (frame : List ℕ) (news : List NewSegment) (i : ℕ) (d : NewSegment) → ∥ AllByRecursion (IsKnownIn schema frame) news ∥₁ → i < length news → ∥ IsKnownIn schema frame (get_or news i d) ∥₁
known_at schema frame news i d known inside = ∥∥₁_map known (λ are. got news i are inside)
  where
    got : (news : List NewSegment) (i : ℕ) → AllByRecursion (IsKnownIn schema frame) news → i < length news → IsKnownIn schema frame (get_or news i d)
    got [] i are inside = absurd (omega (arith, inside))
    got (n ∷ news) zero are inside = are.0
    got (n ∷ news) (suc i) are inside = got news i are.1 (omega (arith, inside))

-- ---- the alive sets of new segments

drop_counts : (k : ℕ) (segments : List code.Segment) → map num_docs_of (drop k segments) ≡ drop k (map num_docs_of segments)
drop_counts zero segments = refl
drop_counts (suc k) [] = refl
drop_counts (suc k) (s ∷ segments) = drop_counts k segments

alive_counts : (segments : List code.Segment) → map all_alive segments ≡ map (λ (n : ℕ). replicate n true) (map num_docs_of segments)
alive_counts [] = refl
alive_counts (s ∷ segments) = ap (λ (sets : List (List Bool)). all_alive s ∷ sets) (alive_counts segments)

new_counts : (news : List NewSegment) → map (λ (new : NewSegment). replicate new.num_docs true) news ≡ map (λ (n : ℕ). replicate n true) (map (λ (new : NewSegment). new.num_docs) news)
new_counts [] = refl
new_counts (new ∷ news) = ap (λ (sets : List (List Bool)). replicate new.num_docs true ∷ sets) (new_counts news)

-- those of the segments that were opened
pub sets_opened : (k : ℕ) (news : List NewSegment) (old new : List code.Segment) → length old ≡ k → map num_docs_of new ≡ map num_docs_of old ++ map (λ (n : NewSegment). n.num_docs) news → map (λ (n : NewSegment). replicate n.num_docs true) news ≡ map all_alive (drop k new)
sets_opened k news old new long counted =
    let were = map num_docs_of old in
    let counts = map (λ (n : NewSegment). n.num_docs) news in
    let many : length were ≡ k = length-map old num_docs_of ∙ long in
    let behind : map num_docs_of (drop k new) ≡ counts = drop_counts k new ∙ ap (drop k) counted ∙ ap (λ m. drop m (were ++ counts)) (sym many) ∙ drop-append_seam were counts in
    new_counts news ∙ ap (map (λ (n : ℕ). replicate n true)) (sym behind) ∙ sym (alive_counts (drop k new))

-- ---- all that is pending

module _ (schema : Schema) (analyze : Analyzer) (before body : List ℕ) (full : List (List Document)) (segments : List FullSegment) (news : List NewSegment) (put : ArePut before body news) (same : map (told_at body) news ≡ map told_of segments) (closed : AllZip (IsFull schema analyze) full segments) where
  -- full segments, and the open one behind them
  pub all_new : (next : List ℕ) (new : NewSegment) (last : List Document) → next ≡ body ++ part_bytes (fresh (segment_at next new)) → IsNew schema analyze next last new → AllZip (IsNew schema analyze next) (full ++ last ∷ []) (news ++ new ∷ [])
  all_new next new last whole is =
      let still = told_next body next (part_bytes (fresh (segment_at next new))) news put.within whole in
      zip_more (IsNew schema analyze next) full (last ∷ []) news (new ∷ []) (new_full schema analyze next full segments news (still ∙ same) closed) (is, tt)
