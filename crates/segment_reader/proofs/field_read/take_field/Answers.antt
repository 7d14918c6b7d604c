use Rattle.std.proofs.Common.{arith, ◌<◌, ◌^◌}
use Rattle.std.proofs.lemmas.Result.{err_from_is_err_and}
use Rattle.segment_reader.proofs.HeadersTaken.{field_there, no_header, not_there}
use Rattle.segment_reader.proofs.field_read.take_field.Goals as goal

pub returns-in_err-header-clause-err : goal.returns-in_err-header-clause-err
returns-in_err-header-clause-err c =
    let p = err_from_is_err_and c.from_residual.result c.from_residual.ensures.1 in
    let refused = c.in_err-header.ensures.err in
    rw (p.1, p.2) (λ other. (refused.0, no_header c.args.front_coded c.args.section.now c.args.start c.args.lengths.postings c.args.lengths.positions c.args.field refused.1))

pub returns-in_err-shape-clause-err : goal.returns-in_err-shape-clause-err
returns-in_err-shape-clause-err c =
    let p = err_from_is_err_and c.from_residual-in_err-shape.result c.from_residual-in_err-shape.ensures.1 in
    let small : c.args.field < 2 ^ 32 = omega (arith, c.ranges.field.fits) in
    rw (p.1, p.2) (λ other. let refused = c.in_err-shape.ensures.err other in (refused.0, not_there c.args.front_coded c.args.section.now c.args.start c.args.lengths.postings c.args.lengths.positions c.args.field c.in_ok-header.header.num_tokens c.in_ok-header.header.num_terms c.in_ok-header.header.first small c.in_ok-header.ensures.ok refused.1))

pub returns-clause-ok : goal.returns-clause-ok
returns-clause-ok c =
    let read = c.in_ok-shape.ensures.ok in
    let there = field_there c.args.front_coded c.args.section.now c.args.start c.args.lengths.postings c.args.lengths.positions c.args.field c.in_ok-header.header.num_tokens c.in_ok-header.header.num_terms c.in_ok-header.header.first c.in_ok-shape.shape c.in_ok-shape.starts.items c.in_ok-shape.end read.0 c.in_ok-header.ensures.ok read.1 read.2 read.3 read.4 in
    (there.told, there.field_is, there.tokens_are, there.read, there.shape_is, there.starts_are)
