use Rattle.std.proofs.Common.{ap, arith, option_map, sym, ◌<◌, ◌≡◌, ◌∙◌, ℕ}
use Rattle.std.specs.declared.cmp.Ordering.{Ordering}
use Rattle.std.specs.declared.cmp.Ordering.TheVariants.{Equal, Greater}
use Rattle.front_coding.proofs.BlockLoop.{above_counts, above_found, all_counted, all_looked, begins, compared_above, compared_equal, equal_counts, equal_found, looks_on, none_stands, stands}
use Rattle.front_coding.specs.Lengths.{located_at, parts_as}
use Rattle.front_coding.specs.LookUps.{compared}
use Rattle.layouts.specs.TermSections.{block_size}
use Rattle.front_coding.proofs.look_ups.search_block.Goals as goal

pub loop-number-init : goal.loop-number-init
loop-number-init c = begins (block_size c.args.front_coded) c.args.key.now c.args.section.now c.args.num_terms c.args.start c.from-rest.result.now c.from-rest.ensures

pub compare-told-requires : goal.compare-told-requires
compare-told-requires c = c.loop-number.invariant.safe

pub returns-in_default-clause-below : goal.returns-in_default-clause-below
returns-in_default-clause-below c = λ ts end block. absurd (none_stands (block_size c.args.front_coded) c.args.key.now c.args.section.now c.args.num_terms c.args.start c.loop-number.number c.loop-number.alike c.loop-number.rest.now c.loop-number.postings c.loop-number.positions (omega arith) c.loop-number-test.true c.loop-number.invariant c.in_default.ensures.err.1 ts end block)

pub returns-in_default-clause-found : goal.returns-in_default-clause-found
returns-in_default-clause-found c = λ ts end block ends. absurd (none_stands (block_size c.args.front_coded) c.args.key.now c.args.section.now c.args.num_terms c.args.start c.loop-number.number c.loop-number.alike c.loop-number.rest.now c.loop-number.postings c.loop-number.positions (omega arith) c.loop-number-test.true c.loop-number.invariant c.in_default.ensures.err.1 ts end block)

pub returns-in-Equal-clause-below : goal.returns-in-Equal-clause-below
returns-in-Equal-clause-below c = λ ts end block.
    let s = stands (block_size c.args.front_coded) c.args.key.now c.args.section.now c.args.num_terms c.args.start c.loop-number.number c.loop-number.alike c.loop-number.rest.now c.loop-number.postings c.loop-number.positions (parts_as c.in-Ok.parts) c.in-Ok.after.now (omega arith) c.loop-number-test.true c.loop-number.invariant c.in-Ok.ensures.ok ts end block in
    let order : (compared (parts_as c.in-Ok.parts) c.loop-number.alike c.args.key.now).0 ≡ Equal = ap (λ (x : Ordering × ℕ). x.0) (sym c.compare-told.ensures) ∙ c.in-Equal.is in
    let equal = compared_equal (block_size c.args.front_coded) c.args.key.now c.loop-number.number c.loop-number.alike ts end (parts_as c.in-Ok.parts) c.in-Ok.after.now s.standing order in
    c.found_at.ensures.0 ∙ equal_counts (block_size c.args.front_coded) c.args.key.now c.loop-number.number c.loop-number.alike ts end (parts_as c.in-Ok.parts) c.in-Ok.after.now s.standing equal

pub returns-in-Equal-clause-found : goal.returns-in-Equal-clause-found
returns-in-Equal-clause-found c = λ ts end block ends.
    let s = stands (block_size c.args.front_coded) c.args.key.now c.args.section.now c.args.num_terms c.args.start c.loop-number.number c.loop-number.alike c.loop-number.rest.now c.loop-number.postings c.loop-number.positions (parts_as c.in-Ok.parts) c.in-Ok.after.now (omega arith) c.loop-number-test.true c.loop-number.invariant c.in-Ok.ensures.ok ts end block in
    let order : (compared (parts_as c.in-Ok.parts) c.loop-number.alike c.args.key.now).0 ≡ Equal = ap (λ (x : Ordering × ℕ). x.0) (sym c.compare-told.ensures) ∙ c.in-Equal.is in
    let equal = compared_equal (block_size c.args.front_coded) c.args.key.now c.loop-number.number c.loop-number.alike ts end (parts_as c.in-Ok.parts) c.in-Ok.after.now s.standing order in
    c.found_at.ensures.1 ∙ equal_found (block_size c.args.front_coded) c.args.key.now c.args.start c.loop-number.number c.loop-number.alike c.loop-number.postings c.loop-number.positions ts end (parts_as c.in-Ok.parts) c.in-Ok.after.now s.standing (c.loop-number.invariant.summed ts end block ends) equal

pub returns-in-Greater-clause-below : goal.returns-in-Greater-clause-below
returns-in-Greater-clause-below c = λ ts end block.
    let s = stands (block_size c.args.front_coded) c.args.key.now c.args.section.now c.args.num_terms c.args.start c.loop-number.number c.loop-number.alike c.loop-number.rest.now c.loop-number.postings c.loop-number.positions (parts_as c.in-Ok.parts) c.in-Ok.after.now (omega arith) c.loop-number-test.true c.loop-number.invariant c.in-Ok.ensures.ok ts end block in
    let few : c.loop-number.number < block_size c.args.front_coded = (let w = c.loop-number-test.true in let f = block.num_terms_fit in omega (arith, w, f)) in
    let order : (compared (parts_as c.in-Ok.parts) c.loop-number.alike c.args.key.now).0 ≡ Greater = ap (λ (x : Ordering × ℕ). x.0) (sym c.compare-told.ensures) ∙ c.in-Greater.is in
    let above = compared_above (block_size c.args.front_coded) c.args.key.now c.loop-number.number c.loop-number.alike ts end (parts_as c.in-Ok.parts) c.in-Ok.after.now few s.standing order in
    c.ended-in-Greater.ensures.0 ∙ above_counts (block_size c.args.front_coded) c.args.key.now c.loop-number.number c.loop-number.alike ts end (parts_as c.in-Ok.parts) c.in-Ok.after.now s.standing above

pub returns-in-Greater-clause-found : goal.returns-in-Greater-clause-found
returns-in-Greater-clause-found c = λ ts end block ends.
    let s = stands (block_size c.args.front_coded) c.args.key.now c.args.section.now c.args.num_terms c.args.start c.loop-number.number c.loop-number.alike c.loop-number.rest.now c.loop-number.postings c.loop-number.positions (parts_as c.in-Ok.parts) c.in-Ok.after.now (omega arith) c.loop-number-test.true c.loop-number.invariant c.in-Ok.ensures.ok ts end block in
    let few : c.loop-number.number < block_size c.args.front_coded = (let w = c.loop-number-test.true in let f = block.num_terms_fit in omega (arith, w, f)) in
    let order : (compared (parts_as c.in-Ok.parts) c.loop-number.alike c.args.key.now).0 ≡ Greater = ap (λ (x : Ordering × ℕ). x.0) (sym c.compare-told.ensures) ∙ c.in-Greater.is in
    let above = compared_above (block_size c.args.front_coded) c.args.key.now c.loop-number.number c.loop-number.alike ts end (parts_as c.in-Ok.parts) c.in-Ok.after.now few s.standing order in
    ap (option_map located_at) c.ended-in-Greater.ensures.1 ∙ above_found (block_size c.args.front_coded) c.args.key.now c.args.start c.loop-number.number c.loop-number.alike c.loop-number.postings c.loop-number.positions ts end (parts_as c.in-Ok.parts) c.in-Ok.after.now s.standing (c.loop-number.invariant.summed ts end block ends) above

pub loop-number-preserved : goal.loop-number-preserved
loop-number-preserved c = looks_on (block_size c.args.front_coded) c.args.key.now c.args.section.now c.args.num_terms c.args.start c.loop-number.number c.loop-number.alike c.compare-told.result.alike c.loop-number.rest.now c.loop-number.postings c.loop-number.positions c.saturating_add-postings.result c.saturating_add-positions.result (parts_as c.in-Ok.parts) c.in-Ok.after.now (omega arith) c.loop-number-test.true c.loop-number.invariant c.in-Ok.ensures.ok c.saturating_add-postings.ensures c.saturating_add-positions.ensures (ap (λ (x : Ordering × ℕ). x.0) (sym c.compare-told.ensures) ∙ c.in-Less.is) (ap (λ (x : Ordering × ℕ). x.1) c.compare-told.ensures)

pub returns-clause-below : goal.returns-clause-below
returns-clause-below c = λ ts end block.
    let same : c.args.num_terms ≡ c.loop-number.number = omega arith in
    c.ended-2.ensures.0 ∙ same ∙ all_counted (block_size c.args.front_coded) c.args.key.now c.args.section.now c.args.num_terms c.args.start c.loop-number.number c.loop-number.alike c.loop-number.rest.now c.loop-number.postings c.loop-number.positions (omega arith) c.loop-number.invariant ts end block

pub returns-clause-found : goal.returns-clause-found
returns-clause-found c = λ ts end block ends. ap (option_map located_at) c.ended-2.ensures.1 ∙ all_looked (block_size c.args.front_coded) c.args.key.now c.args.section.now c.args.num_terms c.args.start c.loop-number.number c.loop-number.alike c.loop-number.rest.now c.loop-number.postings c.loop-number.positions (omega arith) c.loop-number.invariant ts end block ends
