use Rattle.std.proofs.Common.{None, ap, arith, drop, length, refl, subst, sym, ◌∙◌, ◌≡◌, ◌≢◌}
use Rattle.std.proofs.Math.Logic.{∥∥₁_map}
use Rattle.definitions.proofs.Lists.{no_documents}
use Rattle.definitions.specs.declared.fault.Fault.TheVariants as faults
use Rattle.index_file.proofs.ErrorsKept.{err_has}
use Rattle.segment.specs.Limits.{DocumentsPass}
use Rattle.segment_definitions.specs.Segments.{IsSegmentOf}
use Rattle.segment_search.proofs.Flagging.{flagged_within}
use Rattle.index_state.proofs.MergeRanges.{front_within, known_at, put_ended, range_documents, range_each, range_known, range_living, range_of}
use Rattle.index_state.proofs.MergedGroups.{refused_otherwise}
use Rattle.index_state.specs.Merges.{MergePasses, joined_groups}
use Rattle.index_state.proofs.index_state.IndexState.put_merged.Goals as goal

-- ---- no document lives

pub returns-then-num_living-eq0-clause-of : goal.returns-then-num_living-eq0-clause-of
returns-then-num_living-eq0-clause-of g c k x s =
    let index = c.args.self.now in
    let from = c.args.from in
    let to = c.args.to in
    let many = range_documents index from to c.requires.within index.segments.items index.alive.items refl refl g.A.Analyzer.analyze k x s in
    let living = c.requires.living in
    let none = c.if-num_living-eq0.true in
    no_documents (joined_groups from to x.state.groups) (omega (arith, many, living, none))

-- ---- some live

pub slice_bounds-merge_behind-end : goal.slice_bounds-merge_behind-end
slice_bounds-merge_behind-end g c =
    let index = c.args.self.now in
    let few = flagged_within index.segments.items index.alive.items index.flagged in
    let same = ap length c.deref.ensures.value in
    let within = c.requires.within in
    omega (arith, few, same, within)

pub merge_behind-requires-clause-each : goal.merge_behind-requires-clause-each
merge_behind-requires-clause-each g c = range_each c.args.self.now c.args.from c.args.to c.requires.within c.deref.result.now c.deref-2.result.now c.deref.ensures.value c.deref-2.ensures.value

pub merge_behind-requires-clause-opened : goal.merge_behind-requires-clause-opened
merge_behind-requires-clause-opened g c = range_known c.args.self.now c.args.from c.args.to c.requires.within c.deref.result.now c.deref-2.result.now c.deref.ensures.value c.deref-2.ensures.value c.args.self.now.opened

pub merge_behind-requires-clause-some : goal.merge_behind-requires-clause-some
merge_behind-requires-clause-some g c =
    let many = range_living c.args.self.now c.args.from c.args.to c.requires.within c.deref.result.now c.deref-2.result.now c.deref.ensures.value c.deref-2.ensures.value in
    let living = c.requires.living in
    let some = c.if-num_living-eq0.false in
    omega (arith, many, living, some)

pub overflow_cast-num_docs : goal.overflow_cast-num_docs
overflow_cast-num_docs g c =
    let few = c.in_ok-frame.ensures.few in
    let many = range_living c.args.self.now c.args.from c.args.to c.requires.within c.deref.result.now c.deref-2.result.now c.deref.ensures.value c.deref-2.ensures.value in
    let living = c.requires.living in
    omega (arith, few, many, living)

pub end_fresh-body-requires-clause-within : goal.end_fresh-body-requires-clause-within
end_fresh-body-requires-clause-within g c =
    let inside = front_within c.in_ok-prefix.prefix.items c.in_ok-frame.frame.items c.in_ok-frame.ensures.front in
    let start = c.len-start.ensures ∙ c.in_ok-prefix.prefix.ok.0 in
    omega (arith, inside, start)

pub returns-clause-put : goal.returns-clause-put
returns-clause-put g c =
    put_ended c.args.body c.end_fresh-body.result.0 c.in_ok-prefix.prefix.items c.in_ok-frame.frame.items c.len-start.result _ (c.len-start.ensures ∙ c.in_ok-prefix.prefix.ok.0) c.in_ok-frame.ensures.front c.in_ok-prefix.ensures.begun c.end_fresh-body.ensures.put c.end_fresh-body.ensures.place

pub returns-clause-known : goal.returns-clause-known
returns-clause-known g c =
    let index = c.args.self.now in
    let frame = c.in_ok-frame.frame.items in
    let many = range_living index c.args.from c.args.to c.requires.within c.deref.result.now c.deref-2.result.now c.deref.ensures.value c.deref-2.ensures.value ∙ sym c.requires.living in
    let start = c.len-start.ensures ∙ c.in_ok-prefix.prefix.ok.0 in
    let same = c.end_fresh-body.ensures.place.bytes_are ∙ ap (λ n. drop n frame) start in
    ∥∥₁_map c.in_ok-frame.ensures.known (λ is. (known_at index.schema _ _ _ _ many same is, tt))

pub returns-clause-of : goal.returns-clause-of
returns-clause-of g c k x s =
    let index = c.args.self.now in
    let from = c.args.from in
    let to = c.args.to in
    let cut = g.A.Analyzer.analyze index.analyzer in
    let frame = c.in_ok-frame.frame.items in
    let r = range_of index from to c.requires.within c.deref.result.now c.deref-2.result.now c.deref.ensures.value c.deref-2.ensures.value g.A.Analyzer.analyze k x s in
    let many = range_documents index from to c.requires.within index.segments.items index.alive.items refl refl g.A.Analyzer.analyze k x s in
    let start = c.len-start.ensures ∙ c.in_ok-prefix.prefix.ok.0 in
    let same = c.end_fresh-body.ensures.place.bytes_are ∙ ap (λ n. drop n frame) start in
    let is = subst (λ ds. IsSegmentOf index.schema cut ds (drop (length c.in_ok-prefix.prefix.items) frame)) r.2 (c.in_ok-frame.ensures.stands cut r.0 r.1) in
    (subst (IsSegmentOf index.schema cut (joined_groups from to x.state.groups)) (sym same) is, c.requires.living ∙ many)

-- ---- refusals

pub returns-in_err-frame-clause-fault : goal.returns-in_err-frame-clause-fault
returns-in_err-frame-clause-fault g c = err_has c.from_residual-in_err-frame.result c.in_err-frame.field-0.0 (λ f. f ≢ faults.Device) c.from_residual-in_err-frame.ensures.1 (refused_otherwise c.in_err-frame.field-0.0 (λ memory limit. (c.in_err-frame.ensures.err memory limit).0))

pub returns-in_err-frame-clause-limit : goal.returns-in_err-frame-clause-limit
returns-in_err-frame-clause-limit g c k x s =
    let index = c.args.self.now in
    let from = c.args.from in
    let to = c.args.to in
    let cut = g.A.Analyzer.analyze index.analyzer in
    let fault = c.in_err-frame.field-0.0 in
    let r = range_of index from to c.requires.within c.deref.result.now c.deref-2.result.now c.deref.ensures.value c.deref-2.ensures.value g.A.Analyzer.analyze k x s in
    let limit : fault ≢ faults.OutOfMemory → (fault ≡ faults.Limit) × DocumentsPass index.schema cut index.settings.block_size (joined_groups from to x.state.groups) =
    subst (λ size. fault ≢ faults.OutOfMemory → (fault ≡ faults.Limit) × DocumentsPass index.schema cut size (joined_groups from to x.state.groups)) c.block_size.ensures
    (subst (λ ds. fault ≢ faults.OutOfMemory → (fault ≡ faults.Limit) × DocumentsPass index.schema cut c.block_size.result ds) r.2 (c.in_err-frame.ensures.limit cut r.0 r.1)) in
    err_has c.from_residual-in_err-frame.result fault (λ f. f ≢ faults.OutOfMemory → (f ≡ faults.Limit) × MergePasses g.A.Analyzer.analyze index from to x.state.groups) c.from_residual-in_err-frame.ensures.1 limit

pub returns-in_err-frame-clause-faults : goal.returns-in_err-frame-clause-faults
returns-in_err-frame-clause-faults g c = err_has c.from_residual-in_err-frame.result c.in_err-frame.field-0.0 (λ f. f ≢ faults.OutOfMemory → f ≢ faults.Limit → f ≡ faults.Damaged None) c.from_residual-in_err-frame.ensures.1 (λ memory limit. (c.in_err-frame.ensures.err memory limit).0)
