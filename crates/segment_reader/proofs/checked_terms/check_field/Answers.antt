use Rattle.std.proofs.Common.{IsSome, ap, arith, get_or, length, refl, subst, sym, ◌+◌, ◌<◌, ◌≡◌}
use Rattle.std.proofs.Math.Logic.{∥∥₁_map}
use Rattle.std.proofs.lemmas.Result.{err_from_is_err_and}
use Rattle.codes.specs.UnpackedBlocks.{listed}
use Rattle.segment_reader.proofs.CheckedOnce.{AreReal, Checked, all_checked, as_many_told, no_term, none_there, nothing_checked, one_more, other_sum, stands_on, too_many, walks_on, within_at_told}
use Rattle.segment_reader.specs.CheckedTerms.{IsTermAt, IsWithin, bytes_of}
use Rattle.segment_reader.specs.KeptTerms.{placed_terms}
use Rattle.segment_reader.proofs.checked_terms.check_field.Goals as goal

pub new-requires : goal.new-requires
new-requires c = ∥∥₁_map c.requires.within (λ checking. checking.shaped)

pub loop-init : goal.loop-init
loop-init c = (0, omega arith, ap (λ w. w.rest) c.in_ok-range.ensures, nothing_checked (bytes_of c.args.sections) c.args.index.now.kind c.args.num_docs (listed c.args.fieldnorm_reader.now) (placed_terms c.args.sections.terms.now c.args.index.now.shape))

pub key-key-requires : goal.key-key-requires
key-key-requires c =
    let all : c.args.index.now.shape.num_terms ≡ length (placed_terms c.args.sections.terms.now c.args.index.now.shape) = as_many_told (bytes_of c.args.sections) c.args.index.now (omega arith) c.requires.within in
    let within : c.loop.counter < length (placed_terms c.args.sections.terms.now c.args.index.now.shape) = omega (arith, all) in
    let walk = walks_on c.loop.counter (placed_terms c.args.sections.terms.now c.args.index.now.shape) no_term c.loop.range c.advance.new.self within c.loop.invariant.2 c.advance.ensures.next in
    subst IsSome (sym walk.0) refl

pub value-info-requires : goal.value-info-requires
value-info-requires c =
    let all : c.args.index.now.shape.num_terms ≡ length (placed_terms c.args.sections.terms.now c.args.index.now.shape) = as_many_told (bytes_of c.args.sections) c.args.index.now (omega arith) c.requires.within in
    let within : c.loop.counter < length (placed_terms c.args.sections.terms.now c.args.index.now.shape) = omega (arith, all) in
    let walk = walks_on c.loop.counter (placed_terms c.args.sections.terms.now c.args.index.now.shape) no_term c.loop.range c.advance.new.self within c.loop.invariant.2 c.advance.ensures.next in
    subst IsSome (sym walk.0) refl

pub check_at-requires-clause-within : goal.check_at-requires-clause-within
check_at-requires-clause-within c =
    let all : c.args.index.now.shape.num_terms ≡ length (placed_terms c.args.sections.terms.now c.args.index.now.shape) = as_many_told (bytes_of c.args.sections) c.args.index.now (omega arith) c.requires.within in
    let within : c.loop.counter < length (placed_terms c.args.sections.terms.now c.args.index.now.shape) = omega (arith, all) in
    let walk = walks_on c.loop.counter (placed_terms c.args.sections.terms.now c.args.index.now.shape) no_term c.loop.range c.advance.new.self within c.loop.invariant.2 c.advance.ensures.next in
    let stood = stands_on (get_or (placed_terms c.args.sections.terms.now c.args.index.now.shape) c.loop.counter no_term) c.advance.new.self.here c.key-key.result.now c.value-info.result.now walk.0 c.key-key.ensures c.value-info.ensures in
    subst (IsWithin (bytes_of c.args.sections)) stood (within_at_told (bytes_of c.args.sections) c.args.index.now c.loop.counter no_term within c.requires.within)

pub returns-in_err-total-clause-err : goal.returns-in_err-total-clause-err
returns-in_err-total-clause-err c =
    let p = err_from_is_err_and c.from_residual-in_err-total.result c.from_residual-in_err-total.ensures.1 in
    let refused = c.in_err-total.ensures.err in
    let all : c.args.index.now.shape.num_terms ≡ length (placed_terms c.args.sections.terms.now c.args.index.now.shape) = as_many_told (bytes_of c.args.sections) c.args.index.now (omega arith) c.requires.within in
    let within : c.loop.counter < length (placed_terms c.args.sections.terms.now c.args.index.now.shape) = omega (arith, all) in
    let walk = walks_on c.loop.counter (placed_terms c.args.sections.terms.now c.args.index.now.shape) no_term c.loop.range c.advance.new.self within c.loop.invariant.2 c.advance.ensures.next in
    let stood = stands_on (get_or (placed_terms c.args.sections.terms.now c.args.index.now.shape) c.loop.counter no_term) c.advance.new.self.here c.key-key.result.now c.value-info.result.now walk.0 c.key-key.ensures c.value-info.ensures in
    rw (p.1, p.2) (λ other. (refused.0, λ xs whole. none_there (bytes_of c.args.sections) c.args.num_docs (listed c.args.fieldnorm_reader.now) c.args.index.now.kind (placed_terms c.args.sections.terms.now c.args.index.now.shape) c.loop.counter no_term within (λ x at checked. refused.1 x (subst (λ t. IsTermAt (bytes_of c.args.sections) t x) stood at) checked) xs whole.terms_are whole.each_term))

pub returns-then-total-left-clause-err : goal.returns-then-total-left-clause-err
returns-then-total-left-clause-err c =
    let real : AreReal (bytes_of c.args.sections) = record { bytes = c.args.sections.bytes; postings_short = omega arith; positions_short = omega arith } in
    let all : c.args.index.now.shape.num_terms ≡ length (placed_terms c.args.sections.terms.now c.args.index.now.shape) = as_many_told (bytes_of c.args.sections) c.args.index.now (omega arith) c.requires.within in
    let within : c.loop.counter < length (placed_terms c.args.sections.terms.now c.args.index.now.shape) = omega (arith, all) in
    let walk = walks_on c.loop.counter (placed_terms c.args.sections.terms.now c.args.index.now.shape) no_term c.loop.range c.advance.new.self within c.loop.invariant.2 c.advance.ensures.next in
    let stood = stands_on (get_or (placed_terms c.args.sections.terms.now c.args.index.now.shape) c.loop.counter no_term) c.advance.new.self.here c.key-key.result.now c.value-info.result.now walk.0 c.key-key.ensures c.value-info.ensures in
    let total = c.loop.invariant.0 in
    let sum = c.loop.invariant.1 in
    let next = one_more (bytes_of c.args.sections) c.args.index.now.kind c.args.num_docs (listed c.args.fieldnorm_reader.now) (placed_terms c.args.sections.terms.now c.args.index.now.shape) c.loop.counter total c.in_ok-total.total no_term within c.loop.invariant.3 (subst (λ t. Checked (bytes_of c.args.sections) c.args.index.now.kind c.args.num_docs (listed c.args.fieldnorm_reader.now) t c.in_ok-total.total) (sym stood) c.in_ok-total.ensures.ok) in
    λ other. (refl, too_many (bytes_of c.args.sections) c.args.num_docs (listed c.args.fieldnorm_reader.now) c.args.index.now (c.loop.counter + 1) (total + c.in_ok-total.total) real next (omega (arith, sum)))

pub loop-preserved : goal.loop-preserved
loop-preserved c =
    let all : c.args.index.now.shape.num_terms ≡ length (placed_terms c.args.sections.terms.now c.args.index.now.shape) = as_many_told (bytes_of c.args.sections) c.args.index.now (omega arith) c.requires.within in
    let within : c.loop.counter < length (placed_terms c.args.sections.terms.now c.args.index.now.shape) = omega (arith, all) in
    let walk = walks_on c.loop.counter (placed_terms c.args.sections.terms.now c.args.index.now.shape) no_term c.loop.range c.advance.new.self within c.loop.invariant.2 c.advance.ensures.next in
    let stood = stands_on (get_or (placed_terms c.args.sections.terms.now c.args.index.now.shape) c.loop.counter no_term) c.advance.new.self.here c.key-key.result.now c.value-info.result.now walk.0 c.key-key.ensures c.value-info.ensures in
    let total = c.loop.invariant.0 in
    let sum = c.loop.invariant.1 in
    let next = one_more (bytes_of c.args.sections) c.args.index.now.kind c.args.num_docs (listed c.args.fieldnorm_reader.now) (placed_terms c.args.sections.terms.now c.args.index.now.shape) c.loop.counter total c.in_ok-total.total no_term within c.loop.invariant.3 (subst (λ t. Checked (bytes_of c.args.sections) c.args.index.now.kind c.args.num_docs (listed c.args.fieldnorm_reader.now) t c.in_ok-total.total) (sym stood) c.in_ok-total.ensures.ok) in
    (total + c.in_ok-total.total, omega (arith, sum), walk.1, next)

pub returns-then-left-ne0-clause-err : goal.returns-then-left-ne0-clause-err
returns-then-left-ne0-clause-err c =
    let real : AreReal (bytes_of c.args.sections) = record { bytes = c.args.sections.bytes; postings_short = omega arith; positions_short = omega arith } in
    let all : c.args.index.now.shape.num_terms ≡ length (placed_terms c.args.sections.terms.now c.args.index.now.shape) = as_many_told (bytes_of c.args.sections) c.args.index.now (omega arith) c.requires.within in
    let sum = c.loop.invariant.1 in
    λ other. (refl, other_sum (bytes_of c.args.sections) c.args.num_docs (listed c.args.fieldnorm_reader.now) c.args.index.now c.loop.counter c.loop.invariant.0 real (omega (arith, all)) c.loop.invariant.3 (λ is. omega (arith, sum, is)))

pub returns-clause-ok : goal.returns-clause-ok
returns-clause-ok c =
    let all : c.args.index.now.shape.num_terms ≡ length (placed_terms c.args.sections.terms.now c.args.index.now.shape) = as_many_told (bytes_of c.args.sections) c.args.index.now (omega arith) c.requires.within in
    let sum = c.loop.invariant.1 in
    all_checked (bytes_of c.args.sections) c.args.num_docs (listed c.args.fieldnorm_reader.now) c.args.index.now c.loop.counter c.loop.invariant.0 (omega (arith, all)) c.loop.invariant.3 (omega (arith, sum))
