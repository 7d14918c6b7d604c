use Rattle.std.proofs.Common.{ap, arith, drop, length, ◌++◌, ◌+◌, ◌≡◌, ◌∙◌}
use Rattle.segment.proofs.SlicesInFront.{moved_behind}
use Rattle.segment.proofs.section_list.put_front.Goals as goal

pub returns : goal.returns
returns c =
    let front = c.args.front.now in
    let bytes = c.args.bytes.now in
    let whole = c.resize.new.self in
    let moved = c.copy_within.new.self in
    let many = c.len-len.ensures in
    let resized = c.in_ok-resize.ensures.len in
    let same = c.copy_within.ensures.len in
    let long : length moved.items ≡ length front + length bytes.items = omega (arith, many, resized, same, moved.ok, bytes.ok) in
    let behind : drop (length front) moved.items ≡ bytes.items =
    moved_behind front bytes.items whole.items moved.items _ (omega (arith, many, bytes.ok)) (λ k below. c.in_ok-resize.ensures.by_index.0 k 0 (omega (arith, many, below, bytes.ok)) (omega (arith, below, bytes.ok))) long c.copy_within.ensures.by_index.0 in
    c.overwrite_front.ensures ∙ ap (λ ds. front ++ ds) behind
