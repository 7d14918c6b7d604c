use Rattle.std.proofs.Common.{[], ap, append_assoc, arith, length, map, subst, sym, take, ◌++◌, ◌+◌, ◌<◌, ◌∙◌, ◌∷◌, ◌≤◌}
use Rattle.std.proofs.lemmas.List.{take_all}
use Rattle.std.specs.List.{AllZip}
use Rattle.definitions.proofs.Lists.{zip_length}
use Rattle.segment.specs.Opened.{StandsFor, bytes_of, num_docs_of}
use Rattle.index_state.proofs.NewSegments.{IsNewIn, known_at, map_next, new_opened}
use Rattle.index_state.proofs.PendingDocs.{opened_more, some_opened}
use Rattle.index_state.specs.NewSegments.{segment_in}
use Rattle.index_state.specs.declared.new_segments.NewSegment.{NewSegment}
use Rattle.index_state.proofs.new_segments.open_news.Goals as goal

pub open_new-requires : goal.open_new-requires
open_new-requires c =
    record { known = known_at c.args.schema.now c.args.frame.now c.args.news.now c.loop-new.new-index _ c.requires.known c.loop-new-test.true }

pub loop-new-preserved : goal.loop-new-preserved
loop-new-preserved c =
    let schema = c.args.schema.now in
    let frame = c.args.frame.now in
    let news = c.args.news.now in
    let i = c.loop-new.new-index in
    let inside : i < length news = c.loop-new-test.true in
    let old = c.args.segments.now.items in
    let was = c.loop-new.segments.items in
    let segment = c.in_ok-segment.segment in
    let opened = c.in_ok-segment.ensures.opened in
    let same = c.in_ok-segment.ensures.bytes in
    let pushed = c.in_ok-push.ensures.items in
    let invariant = c.loop-new.invariant in
    record {
      opened = λ all. opened_more schema was c.push.new.self.items segment (invariant.opened all) opened pushed;
      behind = (invariant.behind.0 ++ segment ∷ [], pushed ∙ (ap (λ ss. ss ++ segment ∷ []) invariant.behind.1 ∙ append_assoc old invariant.behind.0 (segment ∷ [])));
      bytes = ap (map bytes_of) pushed ∙ map_next bytes_of (segment_in frame) old was segment news i _ inside invariant.bytes same;
      counted = ap (map num_docs_of) pushed ∙ map_next num_docs_of (λ (n : NewSegment). n.num_docs) old was segment news i _ inside invariant.counted c.in_ok-segment.ensures.counted;
      stand = λ analyze docs some stand are. subst (AllZip (StandsFor schema analyze) (docs ++ take (i + 1) some)) (sym pushed) (new_opened schema analyze frame some news i _ docs was segment are inside (invariant.stand analyze docs some stand are) opened same);
    }

pub returns-in_err-segment-clause-err : goal.returns-in_err-segment-clause-err
returns-in_err-segment-clause-err c analyze docs some stand are =
    some_opened c.from_residual.result c.args.schema.now analyze docs (take c.loop-new.new-index some) c.loop-new.segments.items (c.loop-new.invariant.stand analyze docs some stand are)

pub returns-in_err-push-clause-err : goal.returns-in_err-push-clause-err
returns-in_err-push-clause-err c analyze docs some stand are =
    let first = take c.loop-new.new-index some in
    some_opened c.from_residual-in_err-push.result c.args.schema.now analyze docs first c.push.new.self.items
    (subst (AllZip (StandsFor c.args.schema.now analyze) (docs ++ first)) (sym c.in_err-push.ensures.items) (c.loop-new.invariant.stand analyze docs some stand are))

pub returns-clause-bytes : goal.returns-clause-bytes
returns-clause-bytes c =
    let i = c.loop-new.new-index in
    let news = c.args.news.now in
    let past = c.loop-new-test.false in
    let all : length news ≤ i = omega (arith, past) in
    c.loop-new.invariant.bytes ∙ ap (λ ns. map bytes_of c.args.segments.now.items ++ map (segment_in c.args.frame.now) ns) (take_all i news all)

pub returns-clause-counted : goal.returns-clause-counted
returns-clause-counted c =
    let i = c.loop-new.new-index in
    let news = c.args.news.now in
    let past = c.loop-new-test.false in
    let all : length news ≤ i = omega (arith, past) in
    c.loop-new.invariant.counted ∙ ap (λ ns. map num_docs_of c.args.segments.now.items ++ map (λ (n : NewSegment). n.num_docs) ns) (take_all i news all)

pub returns-clause-ok : goal.returns-clause-ok
returns-clause-ok c analyze docs some stand are =
    let i = c.loop-new.new-index in
    let past = c.loop-new-test.false in
    let many = zip_length (IsNewIn c.args.schema.now analyze c.args.frame.now) some c.args.news.now are in
    let all : length some ≤ i = omega (arith, past, many) in
    subst (λ ds. AllZip (StandsFor c.args.schema.now analyze) (docs ++ ds) c.loop-new.segments.items) (take_all i some all) (c.loop-new.invariant.stand analyze docs some stand are)
