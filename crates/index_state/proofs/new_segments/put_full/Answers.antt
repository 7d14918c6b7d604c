use Rattle.std.proofs.Common.{List, ap, map, refl, subst, sym, ◌++◌, ◌∙◌, ℕ}
use Rattle.segment_definitions.specs.ListBodies.{fresh, part_bytes}
use Rattle.index_state.proofs.NewSegments.{put_more, put_none, told_more}
use Rattle.index_state.specs.NewSegments.{ArePut, told_at, told_of}
use Rattle.index_state.specs.declared.new_segments.NewSegment.{NewSegment}
use Rattle.index_state.proofs.new_segments.put_full.Goals as goal

pub loop-segment-init : goal.loop-segment-init
loop-segment-init c =
    let body = c.args.body.now in
    let none = c.in_ok-news.ensures.items in
    let left = c.from_vec-left.ensures.items in
    record {
      put = subst (ArePut body body) (sym none) (put_none body);
      same = ap (λ ns. map (told_at body) ns ++ map told_of c.from_vec-left.result.items) none ∙ ap (map told_of) left;
    }

pub loop-segment-preserved : goal.loop-segment-preserved
loop-segment-preserved c =
    let l = c.loop-segment in
    let segment = c.in-Some.segment in
    let next = c.put_fresh.new.self in
    let stands = c.in_ok-range.ensures.place in
    let new : NewSegment = record { range = c.in_ok-range.range; num_docs = segment.num_docs } in
    let put = c.in_ok-range.ensures.put in
    let whole = put ∙ ap (λ (bs : List ℕ). l.body ++ part_bytes (fresh bs)) (sym stands.bytes_are) in
    let same = stands.bytes_are ∙ c.as_slice.ensures in
    let rest = c.pop_front.new.self.items in
    let pushed = c.in_ok-push.ensures.items in
    record {
      put = subst (ArePut c.args.body.now next) (sym pushed) (put_more c.args.body.now l.body next l.news.items new l.invariant.put whole stands.forward stands.within);
      same = ap (λ ns. map (told_at next) ns ++ map told_of rest) pushed ∙ told_more l.body next (part_bytes (fresh c.as_slice.result.now)) l.news.items new segment l.left.items rest l.invariant.put.within put same refl c.in-Some.ensures.items ∙ l.invariant.same;
    }

-- likewise where the segment is let go after the push
pub loop-segment-preserved-in_ok-push : goal.loop-segment-preserved-in_ok-push
loop-segment-preserved-in_ok-push c =
    let l = c.loop-segment in
    let segment = c.in-Some.segment in
    let next = c.put_fresh.new.self in
    let stands = c.in_ok-range.ensures.place in
    let new : NewSegment = record { range = c.in_ok-range.range; num_docs = segment.num_docs } in
    let put = c.in_ok-range.ensures.put in
    let whole = put ∙ ap (λ (bs : List ℕ). l.body ++ part_bytes (fresh bs)) (sym stands.bytes_are) in
    let same = stands.bytes_are ∙ c.as_slice.ensures in
    let rest = c.pop_front.new.self.items in
    let pushed = c.in_ok-push.ensures.items in
    record {
      put = subst (ArePut c.args.body.now next) (sym pushed) (put_more c.args.body.now l.body next l.news.items new l.invariant.put whole stands.forward stands.within);
      same = ap (λ ns. map (told_at next) ns ++ map told_of rest) pushed ∙ told_more l.body next (part_bytes (fresh c.as_slice.result.now)) l.news.items new segment l.left.items rest l.invariant.put.within put same refl c.in-Some.ensures.items ∙ l.invariant.same;
    }
