use Rattle.std.proofs.Common.{None, ap, append_assoc, arith, drop, flat_map, length, map, sum_by, sym, take, ◌+◌, ◌++◌, ◌-◌, ◌∙◌, ◌≡◌, ◌≢◌}
use Rattle.std.proofs.lemmas.List.{length-map}
use Rattle.std.specs.Prelude.{option_to_list}
use Rattle.definitions.specs.declared.fault.Fault.TheVariants as faults
use Rattle.common.specs.BitSets.{count_set}
use Rattle.index_file.proofs.ErrorsKept.{err_has}
use Rattle.index_file.specs.Frames.{frame_bytes}
use Rattle.layouts.specs.AliveSets.{alive_bytes}
use Rattle.segment.specs.Opened.{bytes_of}
use Rattle.segment_definitions.specs.ListBodies.{part_bytes, segments_body}
use Rattle.index_state.proofs.MergeRanges.{counted_if, merge_written, new_known, new_stands, same_ranges}
use Rattle.index_state.proofs.MergedGroups.{length-range}
use Rattle.index_state.specs.Bodies.{kept_from, merged_parts}
use Rattle.index_state.specs.Merges.{MergePasses, all_alive, joined_groups, replaced}
use Rattle.index_state.specs.NewSegments.{segment_at}
use Rattle.index_state.proofs.index_state.IndexState.merge_record.Goals as goal

pub slice_bounds-count_alive-end : goal.slice_bounds-count_alive-end
slice_bounds-count_alive-end g c =
    let same = ap length c.deref.ensures.value in
    let within = c.requires.within in
    omega (arith, same, within)

pub count_alive-num_living-requires : goal.count_alive-num_living-requires
count_alive-num_living-requires g c =
    let index = c.args.self.now in
    let from = c.args.from in
    let to = c.args.to in
    let few = index.few in
    let same = ap (λ fs. length (take (to - from) (drop from fs))) c.deref.ensures.value in
    let long = length-range from to index.alive.items c.requires.within in
    let within = c.requires.within in
    record { few = omega (arith, few, same, long, within) }

pub put_merged-requires-clause-living : goal.put_merged-requires-clause-living
put_merged-requires-clause-living g c =
    c.count_alive-num_living.ensures ∙ ap (λ fs. sum_by count_set (take (c.args.to - c.args.from) (drop c.args.from fs))) c.deref.ensures.value

pub open_if_any-requires : goal.open_if_any-requires
open_if_any-requires g c =
    let index = c.args.self.now in
    let mid = c.in_ok-body-2.body in
    let kept = flat_map part_bytes (kept_from c.args.to (c.len-num_committed.result - c.args.to)) in
    let sets = flat_map alive_bytes c.deref-3.result.now in
    let whole = c.in_ok-frame.ensures.ok ∙ c.in_ok-framed.ensures ∙ ap (λ b. frame_bytes (b ++ sets)) c.in_ok-put_kept-2.ensures ∙ ap frame_bytes (append_assoc mid kept sets) in
    record { known = new_known mid (kept ++ sets) c.in_ok-frame.frame whole index.schema c.in_ok-body-2.new c.in_ok-body-2.ensures.put.within c.in_ok-body-2.ensures.known }

pub returns-clause-of : goal.returns-clause-of
returns-clause-of g c k x s =
    let index = c.args.self.now in
    let mid = c.in_ok-body-2.body in
    let new = c.in_ok-body-2.new in
    let kept = flat_map part_bytes (kept_from c.args.to (c.len-num_committed.result - c.args.to)) in
    let sets = flat_map alive_bytes c.deref-3.result.now in
    let whole = c.in_ok-frame.ensures.ok ∙ c.in_ok-framed.ensures ∙ ap (λ b. frame_bytes (b ++ sets)) c.in_ok-put_kept-2.ensures ∙ ap frame_bytes (append_assoc mid kept sets) in
    let there = same_ranges mid (kept ++ sets) c.in_ok-frame.frame whole (option_to_list new) c.in_ok-body-2.ensures.put.within in
    new_stands index.schema (g.A.Analyzer.analyze index.analyzer) mid c.in_ok-frame.frame new c.in_ok-segment.segment (joined_groups c.args.from c.args.to x.state.groups) c.in_ok-segment.ensures.opened c.in_ok-segment.ensures.bytes there (c.in_ok-body-2.ensures.of k x s)

pub returns-clause-sets : goal.returns-clause-sets
returns-clause-sets g c =
    c.in_ok-alive.ensures
    ∙ ap (λ fs. replaced c.args.from c.args.to fs c.deref-2.result.now) (sym c.in_ok-segment.ensures.counted)
    ∙ ap (λ fs. replaced c.args.from c.args.to (map all_alive (option_to_list c.in_ok-segment.segment)) fs) c.deref-2.ensures.value

pub returns-clause-frame : goal.returns-clause-frame
returns-clause-frame g c =
    let index = c.args.self.now in
    let from = c.args.from in
    let to = c.args.to in
    let k = length index.alive.items in
    let counted : c.len-num_committed.result ≡ k = c.len-num_committed.ensures ∙ index.alive.ok.0 in
    let begun = c.in_ok-body.body in
    let before = c.put_kept.new.body in
    let mid = c.in_ok-body-2.body in
    let new = c.in_ok-body-2.new in
    let put = c.put_kept-2.new.body in
    let kept = flat_map part_bytes (kept_from to (c.len-num_committed.result - to)) in
    let flags = c.deref-3.result.now in
    let sets = flat_map alive_bytes flags in
    let news = map (segment_at mid) (option_to_list new) in
    let framed = c.in_ok-frame.ensures.ok ∙ c.in_ok-framed.ensures in
    let whole = framed ∙ ap (λ b. frame_bytes (b ++ sets)) c.in_ok-put_kept-2.ensures ∙ ap frame_bytes (append_assoc mid kept sets) in
    let there = same_ranges mid (kept ++ sets) c.in_ok-frame.frame whole (option_to_list new) c.in_ok-body-2.ensures.put.within in
    let bytes : map bytes_of (option_to_list c.in_ok-segment.segment) ≡ news = c.in_ok-segment.ensures.bytes ∙ there in
    let one = counted_if c.count_alive-num_living.result new c.in_ok-body-2.ensures.one in
    let many = length-map (option_to_list new) (segment_at mid) in
    let n = from + c.from.result + (c.len-num_committed.result - to) in
    let is = c.from.ensures in
    let count : n ≡ from + (length news + (k - to)) = omega (arith, one, many, is, counted) in
    let last : put ≡ mid ++ flat_map part_bytes (kept_from to (k - to)) = c.in_ok-put_kept-2.ensures ∙ ap (λ m. mid ++ flat_map part_bytes (kept_from to (m - to))) counted in
    let body = merge_written k from to n news flags begun before mid put c.in_ok-body.ensures count c.in_ok-put_kept.ensures c.in_ok-body-2.ensures.put.put last in
    framed ∙ ap frame_bytes body
    ∙ ap (λ bs. frame_bytes (segments_body (merged_parts k from to bs) flags)) (sym bytes)
    ∙ ap (λ fs. frame_bytes (segments_body (merged_parts k from to (map bytes_of (option_to_list c.in_ok-segment.segment))) fs)) c.deref-3.ensures.value

pub returns-in_err-body-2-clause-limit : goal.returns-in_err-body-2-clause-limit
returns-in_err-body-2-clause-limit g c k x s =
    err_has c.from_residual-in_err-body-2.result c.in_err-body-2.field-0.0 (λ f. f ≢ faults.OutOfMemory → (f ≡ faults.Limit) × MergePasses g.A.Analyzer.analyze c.args.self.now c.args.from c.args.to x.state.groups) c.from_residual-in_err-body-2.ensures.1 (c.in_err-body-2.ensures.limit k x s)

pub returns-in_err-body-2-clause-faults : goal.returns-in_err-body-2-clause-faults
returns-in_err-body-2-clause-faults g c =
    err_has c.from_residual-in_err-body-2.result c.in_err-body-2.field-0.0 (λ f. f ≢ faults.OutOfMemory → f ≢ faults.Limit → f ≡ faults.Damaged None) c.from_residual-in_err-body-2.ensures.1 c.in_err-body-2.ensures.faults
