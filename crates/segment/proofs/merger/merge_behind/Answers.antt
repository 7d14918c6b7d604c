use Rattle.std.proofs.Common.{ap, arith, drop, inl, length, map, subst, sym, ◌∙◌, ◌≡◌, ◌≤◌}
use Rattle.std.proofs.lemmas.Result.{IfOk-weaker, err_from_is_err_and}
use Rattle.std.specs.List.{zip}
use Rattle.layouts.specs.Stores.{max_docs}
use Rattle.segment.proofs.MergedSegments.{living_is}
use Rattle.segment.specs.Members.{AreOpened, living_count, member_of}
use Rattle.segment_definitions.specs.Segments.{IsSegment}
use Rattle.segment.proofs.merger.merge_behind.Goals as goal

pub merged_bytes-requires-clause-opened : goal.merged_bytes-requires-clause-opened
merged_bytes-requires-clause-opened c =
    let same : map member_of c.deref-2.result.now ≡ zip c.args.segments.now c.args.sets.now = ap (map member_of) c.deref-2.ensures.value ∙ c.in_ok-members.ensures in
    subst (λ ms. ∥ AreOpened c.args.schema.now ms ∥₁) (sym same) c.requires.opened

pub merged_bytes-requires-clause-living : goal.merged_bytes-requires-clause-living
merged_bytes-requires-clause-living c =
    let there : map member_of c.deref.result.now ≡ map member_of c.deref-2.result.now = ap (map member_of) (c.deref.ensures.value ∙ sym c.deref-2.ensures.value) in
    c.in_ok-num_docs.ensures.ok.0 ∙ ap living_count there

pub merged_bytes-requires-clause-some : goal.merged_bytes-requires-clause-some
merged_bytes-requires-clause-some c =
    let some = c.requires.some in
    let same : map member_of c.deref.result.now ≡ zip c.args.segments.now c.args.sets.now = ap (map member_of) c.deref.ensures.value ∙ c.in_ok-members.ensures in
    let count = c.in_ok-num_docs.ensures.ok.0 ∙ ap living_count same in
    omega (arith, some, count)

pub returns-in_err-num_docs-clause-limit : goal.returns-in_err-num_docs-clause-limit
returns-in_err-num_docs-clause-limit c analyze rows stand =
    let same : map member_of c.deref.result.now ≡ zip c.args.segments.now c.args.sets.now = ap (map member_of) c.deref.ensures.value ∙ c.in_ok-members.ensures in
    let counted = ap living_count same in
    let many = living_is c.args.schema.now analyze (zip c.args.segments.now c.args.sets.now) rows stand in
    let refused = c.in_err-num_docs.ensures.err in
    let past = refused.1 in
    let p = err_from_is_err_and c.from_residual-in_err-num_docs.result c.from_residual-in_err-num_docs.ensures.1 in
    rw (p.1, p.2) (λ other. (refused.0, inl (omega (arith, counted, past, many))))

pub returns-clause-known : goal.returns-clause-known
returns-clause-known c =
    let schema = c.args.schema.now in
    let front = length c.args.prefix.items in
    let same : map member_of c.deref.result.now ≡ zip c.args.segments.now c.args.sets.now = ap (map member_of) c.deref.ensures.value ∙ c.in_ok-members.ensures in
    let count = c.in_ok-num_docs.ensures.ok.0 ∙ ap living_count same in
    IfOk-weaker c.merged_bytes.result (λ bytes. ∥ IsSegment schema c.in_ok-num_docs.num_docs (drop front bytes.items) ∥₁) (λ bytes. ∥ IsSegment schema (living_count (zip c.args.segments.now c.args.sets.now)) (drop front bytes.items) ∥₁) (λ bytes. subst (λ n. ∥ IsSegment schema n (drop front bytes.items) ∥₁) count) c.merged_bytes.ensures.known

pub returns-clause-few : goal.returns-clause-few
returns-clause-few c =
    let same : map member_of c.deref.result.now ≡ zip c.args.segments.now c.args.sets.now = ap (map member_of) c.deref.ensures.value ∙ c.in_ok-members.ensures in
    let count = c.in_ok-num_docs.ensures.ok.0 ∙ ap living_count same in
    let most = c.in_ok-num_docs.ensures.ok.1 in
    let few : living_count (zip c.args.segments.now c.args.sets.now) ≤ max_docs = omega (arith, count, most) in
    IfOk-weaker c.merged_bytes.result _ (λ bytes. living_count (zip c.args.segments.now c.args.sets.now) ≤ max_docs) (λ bytes is. few) c.merged_bytes.ensures.front

pub returns-clause-stands : goal.returns-clause-stands
returns-clause-stands c =
    let same : map member_of c.deref-2.result.now ≡ zip c.args.segments.now c.args.sets.now = ap (map member_of) c.deref-2.ensures.value ∙ c.in_ok-members.ensures in
    rw same at c.merged_bytes.ensures.stands

pub returns-clause-err : goal.returns-clause-err
returns-clause-err c =
    let same : map member_of c.deref-2.result.now ≡ zip c.args.segments.now c.args.sets.now = ap (map member_of) c.deref-2.ensures.value ∙ c.in_ok-members.ensures in
    rw same at c.merged_bytes.ensures.err

pub returns-clause-limit : goal.returns-clause-limit
returns-clause-limit c =
    let same : map member_of c.deref-2.result.now ≡ zip c.args.segments.now c.args.sets.now = ap (map member_of) c.deref-2.ensures.value ∙ c.in_ok-members.ensures in
    rw same at c.merged_bytes.ensures.limit
