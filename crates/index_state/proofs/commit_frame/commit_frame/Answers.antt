use Rattle.std.proofs.Common.{List, ap, arith, drop, flat_map, length, map, sym, take, ◌++◌, ◌-◌, ◌∙◌, ◌≡◌, ℕ}
use Rattle.std.proofs.lemmas.List.{length-drop, take_all}
use Rattle.index_file.specs.Frames.{frame_bytes}
use Rattle.segment.specs.Opened.{bytes_of}
use Rattle.segment.specs.declared.segment.Segment.{Segment}
use Rattle.index_file.proofs.BodiesBack.{is_written}
use Rattle.index_state.proofs.BodyMade.{drop-bytes, length-parts, parts_more}
use Rattle.index_state.specs.Bodies.{kept_from, next_parts}
use Rattle.segment_definitions.specs.ListBodies.{fresh, part_bytes}
use Rattle.index_state.proofs.commit_frame.commit_frame.Goals as goal

-- the segments from an index on
from_index : (k : ℕ) (segments : List Segment) → map bytes_of (take (length segments - k) (drop k segments)) ≡ drop k (map bytes_of segments)
from_index k segments =
    let long = length-drop k segments in
    ap (map bytes_of) (take_all (length segments - k) (drop k segments) (omega (arith, long))) ∙ drop-bytes k segments

pub returns-clause-ok : goal.returns-clause-ok
returns-clause-ok c =
    let k = c.args.num_committed in
    let segments = c.args.segments.now in
    let bytes = map bytes_of segments in
    let begun = c.in_ok-body.body in
    let put = c.put_fresh.new.body in
    let all_kept : k - 0 ≡ k = omega arith in
    let kept_put : c.put_kept.new.body ≡ begun ++ flat_map part_bytes (kept_from 0 k) = c.in_ok-put_kept.ensures ∙ ap (λ n. begun ++ flat_map part_bytes (kept_from 0 n)) all_kept in
    let fresh_put : put ≡ c.put_kept.new.body ++ flat_map part_bytes (map fresh (drop k bytes)) = c.in_ok-put_fresh.ensures.ok ∙ ap (λ bs. c.put_kept.new.body ++ flat_map part_bytes (map fresh bs)) (from_index k segments) in
    let all = parts_more begun c.put_kept.new.body put (kept_from 0 k) (map fresh (drop k bytes)) kept_put fresh_put in
    let whole = is_written (next_parts k bytes) c.args.alive.now begun put (length segments) c.in_ok-body.ensures (sym (length-parts segments k c.requires.within)) all in
    c.in_ok-framed.ensures ∙ ap frame_bytes whole
