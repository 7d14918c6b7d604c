use Rattle.std.proofs.Common.{arith, inl, subst, sym, ◌∙◌, map}
use Rattle.std.proofs.Math.Logic.{∥∥₁_map}
use Rattle.std.proofs.lemmas.Result.{err_from_is_err_and}
use Rattle.definitions.proofs.Lists.{no_documents as none_of}
use Rattle.definitions.specs.Alive.{live}
use Rattle.segment.proofs.BehindPrefixes.{behind_none}
use Rattle.segment.proofs.Opening.{one_segment}
use Rattle.segment.specs.Opened.{bytes_of}
use Rattle.segment_definitions.specs.Segments.{AreWritten, IsSegment, IsSegmentOf}
use Rattle.segment.proofs.MergedSegments.{living_is}
use Rattle.segment.specs.Members.{member_of}
use Rattle.segment.proofs.merger.merge_members.Goals as goal

pub returns-in_err-num_docs-clause-limit : goal.returns-in_err-num_docs-clause-limit
returns-in_err-num_docs-clause-limit c analyze segments stand =
    let many = living_is c.args.schema.now analyze (map member_of c.args.members.now) segments stand in
    let refused = c.in_err-num_docs.ensures.err in
    let past = refused.1 in
    let p = err_from_is_err_and c.from_residual.result c.from_residual.ensures.1 in
    rw (p.1, p.2) (λ other. (refused.0, inl (omega (arith, past, many))))

pub returns-then-num_docs-eq0-clause-stands : goal.returns-then-num_docs-eq0-clause-stands
returns-then-num_docs-eq0-clause-stands c analyze segments stand =
    let many = living_is c.args.schema.now analyze (map member_of c.args.members.now) segments stand in
    let count = c.in_ok-num_docs.ensures.ok.0 in
    let none = c.if-num_docs-eq0.true in
    none_of (live segments) (omega (arith, many, count, none))

pub new-requires : goal.new-requires
new-requires c =
    let same = behind_none c.new-prefix.result.items c.in_ok-bytes.bytes.items c.new-prefix.ensures.items in
    ∥∥₁_map c.in_ok-bytes.ensures.known (λ is. (c.in_ok-num_docs.num_docs, subst (IsSegment c.args.schema.now c.in_ok-num_docs.num_docs) (same ∙ sym c.in_ok-bytes-2.ensures.ok) is))

pub returns-clause-living : goal.returns-clause-living
returns-clause-living c =
    let opened = c.in_ok-segment.ensures.ok in
    let ours = c.in_ok-bytes.ensures.written in
    let count = c.in_ok-num_docs.ensures.ok.0 in
    let some = c.if-num_docs-eq0.false in
    let whole = behind_none c.new-prefix.result.items c.in_ok-bytes.bytes.items c.new-prefix.ensures.items in
    let there = subst (AreWritten c.in_ok-num_docs.num_docs ours.0) (whole ∙ sym (c.in_ok-segment.ensures.bytes ∙ c.in_ok-bytes-2.ensures.ok)) ours.1 in
    let same = one_segment c.in_ok-segment.segment.num_docs c.in_ok-num_docs.num_docs opened.sections ours.0 (bytes_of c.in_ok-segment.segment) opened.written there in
    (omega (arith, count, some), same.0 ∙ count)

pub returns-clause-stands : goal.returns-clause-stands
returns-clause-stands c analyze segments stand =
    let whole = behind_none c.new-prefix.result.items c.in_ok-bytes.bytes.items c.new-prefix.ensures.items in
    record {
      opened = c.in_ok-segment.ensures.ok;
      bytes_are = subst (IsSegmentOf c.args.schema.now analyze (live segments)) (whole ∙ sym (c.in_ok-segment.ensures.bytes ∙ c.in_ok-bytes-2.ensures.ok)) (c.in_ok-bytes.ensures.stands analyze segments stand);
    }
