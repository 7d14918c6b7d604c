use Rattle.std.proofs.Common.{List, ap, arith, flat_map, length, length-append, map, replicate, subst, sym, ◌++◌, ◌+◌, ◌-◌, ◌∙◌, ◌≡◌, Bool, true}
use Rattle.std.proofs.lemmas.List.{length-map}
use Rattle.std.specs.List.{AllByRecursion}
use Rattle.definitions.proofs.Lists.{on_err}
use Rattle.definitions.specs.declared.fault.Fault.TheVariants as faults
use Rattle.index_file.proofs.ErrorsKept.{err_has}
use Rattle.index_file.specs.Frames.{frame_bytes}
use Rattle.layouts.specs.AliveSets.{alive_bytes}
use Rattle.segment.specs.Opened.{bytes_of, num_docs_of}
use Rattle.segment_definitions.specs.ListBodies.{part_bytes}
use Rattle.index_state.proofs.NewSegments.{frame_put, known_framed, sets_opened}
use Rattle.index_state.proofs.RecordsLaid.{OpensAll, OpensSome, all_behind, no_limit, none_behind, some_behind}
use Rattle.index_state.specs.Bodies.{kept_from}
use Rattle.index_state.specs.CommitRecords.{LastPasses}
use Rattle.index_state.specs.NewSegments.{IsKnownIn, segment_in}
use Rattle.index_state.specs.declared.new_segments.NewSegment.{NewSegment}
use Rattle.index_state.proofs.commit_record.record_in_place.Goals as goal

-- ---- no segment is opened yet

pub returns-in_err-body-clause-err : goal.returns-in_err-body-clause-err
returns-in_err-body-clause-err c = on_err c.from_residual.result (none_behind c.args.schema.now c.args.pending c.args.segments.now.items)

pub returns-in_err-body-clause-limit : goal.returns-in_err-body-clause-limit
returns-in_err-body-clause-limit c = no_limit c.from_residual.result c.args.schema.now c.args.pending c.from_residual.ensures.1

pub returns-in_err-put_kept-clause-err : goal.returns-in_err-put_kept-clause-err
returns-in_err-put_kept-clause-err c = on_err c.from_residual-in_err-put_kept.result (none_behind c.args.schema.now c.args.pending c.args.segments.now.items)

pub returns-in_err-put_kept-clause-limit : goal.returns-in_err-put_kept-clause-limit
returns-in_err-put_kept-clause-limit c = no_limit c.from_residual-in_err-put_kept.result c.args.schema.now c.args.pending c.from_residual-in_err-put_kept.ensures.1

pub returns-in_err-body-2-clause-err : goal.returns-in_err-body-2-clause-err
returns-in_err-body-2-clause-err c = on_err c.from_residual-in_err-body-2.result (none_behind c.args.schema.now c.args.pending c.args.segments.now.items)

pub returns-in_err-body-2-clause-limit : goal.returns-in_err-body-2-clause-limit
returns-in_err-body-2-clause-limit c = err_has c.from_residual-in_err-body-2.result c.in_err-body-2.field-0.0 (LastPasses c.args.schema.now c.args.pending) c.from_residual-in_err-body-2.ensures.1 c.in_err-body-2.ensures.limit

pub returns-in_err-sets-clause-err : goal.returns-in_err-sets-clause-err
returns-in_err-sets-clause-err c = on_err c.from_residual-in_err-sets.result (none_behind c.args.schema.now c.args.pending c.args.segments.now.items)

pub returns-in_err-sets-clause-limit : goal.returns-in_err-sets-clause-limit
returns-in_err-sets-clause-limit c = no_limit c.from_residual-in_err-sets.result c.args.schema.now c.args.pending c.from_residual-in_err-sets.ensures.1

pub returns-in_err-framed-clause-err : goal.returns-in_err-framed-clause-err
returns-in_err-framed-clause-err c = on_err c.from_residual-in_err-framed.result (none_behind c.args.schema.now c.args.pending c.args.segments.now.items)

pub returns-in_err-framed-clause-limit : goal.returns-in_err-framed-clause-limit
returns-in_err-framed-clause-limit c = no_limit c.from_residual-in_err-framed.result c.args.schema.now c.args.pending c.from_residual-in_err-framed.ensures.1

pub returns-in_err-frame-clause-err : goal.returns-in_err-frame-clause-err
returns-in_err-frame-clause-err c = on_err c.from_residual-in_err-frame.result (none_behind c.args.schema.now c.args.pending c.args.segments.now.items)

pub returns-in_err-frame-clause-limit : goal.returns-in_err-frame-clause-limit
returns-in_err-frame-clause-limit c = no_limit c.from_residual-in_err-frame.result c.args.schema.now c.args.pending c.from_residual-in_err-frame.ensures.1

-- ---- and then opened over their bytes

pub open_news-requires : goal.open_news-requires
open_news-requires c =
    let body = c.in_ok-body-2.body in
    let news = c.in_ok-body-2.news.items in
    let schema = c.args.schema.now in
    let frame = c.in_ok-frame.frame in
    let framed = c.in_ok-frame.ensures.ok ∙ c.in_ok-framed.ensures ∙ ap (λ (ss : List (List Bool)). frame_bytes (body ++ flat_map alive_bytes ss)) c.deref-2.ensures.value in
    let are = known_framed schema body (flat_map alive_bytes c.in_ok-sets.sets.items) frame news framed c.in_ok-body-2.ensures.put.within c.in_ok-body-2.ensures.known in
    record { known = subst (λ (ns : List NewSegment). ∥ AllByRecursion (IsKnownIn schema frame) ns ∥₁) (sym c.deref-3.ensures.value) are }

pub returns-in_err-open_news-clause-err : goal.returns-in_err-open_news-clause-err
returns-in_err-open_news-clause-err c =
    let body = c.in_ok-body-2.body in
    let news = c.in_ok-body-2.news.items in
    let schema = c.args.schema.now in
    let frame = c.in_ok-frame.frame in
    let old = c.args.segments.now.items in
    let new = c.open_news.new.segments.items in
    let framed = c.in_ok-frame.ensures.ok ∙ c.in_ok-framed.ensures ∙ ap (λ (ss : List (List Bool)). frame_bytes (body ++ flat_map alive_bytes ss)) c.deref-2.ensures.value in
    let opens : OpensSome schema frame news old new = subst (λ (ns : List NewSegment). OpensSome schema frame ns old new) c.deref-3.ensures.value c.in_err-open_news.ensures.err in
    on_err c.from_residual-in_err-open_news.result (some_behind schema c.args.pending body (flat_map alive_bytes c.in_ok-sets.sets.items) frame news old new framed c.in_ok-body-2.ensures.put.within c.in_ok-body-2.ensures.ok opens)

pub returns-in_err-open_news-clause-limit : goal.returns-in_err-open_news-clause-limit
returns-in_err-open_news-clause-limit c = no_limit c.from_residual-in_err-open_news.result c.args.schema.now c.args.pending c.from_residual-in_err-open_news.ensures.1

pub returns-clause-ok : goal.returns-clause-ok
returns-clause-ok c =
    let body = c.in_ok-body-2.body in
    let news = c.in_ok-body-2.news.items in
    let schema = c.args.schema.now in
    let frame = c.in_ok-frame.frame in
    let old = c.args.segments.now.items in
    let new = c.open_news.new.segments.items in
    let framed = c.in_ok-frame.ensures.ok ∙ c.in_ok-framed.ensures ∙ ap (λ (ss : List (List Bool)). frame_bytes (body ++ flat_map alive_bytes ss)) c.deref-2.ensures.value in
    let opens : OpensAll schema frame news old new = subst (λ (ns : List NewSegment). OpensAll schema frame ns old new) c.deref-3.ensures.value c.in_ok-open_news.ensures.ok in
    all_behind schema c.args.pending body (flat_map alive_bytes c.in_ok-sets.sets.items) frame news old new framed c.in_ok-body-2.ensures.put.within c.in_ok-body-2.ensures.ok opens

-- ---- what is prepared

pub returns-clause-sets : goal.returns-clause-sets
returns-clause-sets c =
    let body = c.in_ok-body-2.body in
    let news = c.in_ok-body-2.news.items in
    let alive = c.args.alive.now in
    let old = c.args.segments.now.items in
    let counts = c.in_ok-open_news.ensures.counted ∙ ap (λ ns. map num_docs_of old ++ map (λ (n : NewSegment). n.num_docs) ns) c.deref-3.ensures.value in
    c.in_ok-sets.ensures
    ∙ ap (λ ns. alive ++ map (λ (n : NewSegment). replicate n.num_docs true) ns) c.deref.ensures.value
    ∙ ap (λ (fs : List (List Bool)). alive ++ fs) (sets_opened (length alive) news old c.open_news.new.segments.items c.requires.each counts)

pub returns-clause-frame : goal.returns-clause-frame
returns-clause-frame c =
    let body = c.in_ok-body-2.body in
    let news = c.in_ok-body-2.news.items in
    let alive = c.args.alive.now in
    let k = length alive in
    let frame = c.in_ok-frame.frame in
    let begun = c.in_ok-body.body in
    let kept = c.put_kept.new.body in
    let old = c.args.segments.now.items in
    let framed = c.in_ok-frame.ensures.ok ∙ c.in_ok-framed.ensures ∙ ap (λ (ss : List (List Bool)). frame_bytes (body ++ flat_map alive_bytes ss)) c.deref-2.ensures.value in
    let opened = c.in_ok-open_news.ensures.bytes ∙ ap (λ ns. map bytes_of old ++ map (segment_in frame) ns) c.deref-3.ensures.value in
    let many = c.num_segments.ensures in
    let counted = c.in_ok-body-2.ensures.count in
    let n = k + c.num_segments.result in
    let count : n ≡ k + length news = omega (arith, many, counted) in
    let whole : k - 0 ≡ k = omega arith in
    let kept_is : kept ≡ begun ++ flat_map part_bytes (kept_from 0 k) = c.in_ok-put_kept.ensures ∙ ap (λ m. begun ++ flat_map part_bytes (kept_from 0 m)) whole in
    frame_put begun kept body frame c.in_ok-sets.sets.items k n news old c.open_news.new.segments.items c.in_ok-body.ensures count kept_is c.in_ok-body-2.ensures.put framed c.requires.each opened

pub returns-clause-count : goal.returns-clause-count
returns-clause-count c =
    let news = c.in_ok-body-2.news.items in
    let frame = c.in_ok-frame.frame in
    let old = c.args.segments.now.items in
    let new = c.open_news.new.segments.items in
    let opened = ap length (c.in_ok-open_news.ensures.bytes ∙ ap (λ ns. map bytes_of old ++ map (segment_in frame) ns) c.deref-3.ensures.value) in
    let all = length-map new bytes_of in
    let were = length-map old bytes_of in
    let both = length-append (map bytes_of old) (map (segment_in frame) news) in
    let more = length-map news (segment_in frame) in
    let counted = c.in_ok-body-2.ensures.count in
    omega (arith, opened, all, were, both, more, counted)
