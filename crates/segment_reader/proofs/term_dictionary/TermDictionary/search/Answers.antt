use Rattle.std.proofs.Common.{None, ap, arith, option_map, refl, subst, suc, ◌*◌, ◌+◌, ◌-◌, ◌≡◌, ◌∙◌}
use Rattle.front_coding.specs.BlockPlaces.{AreUpTo}
use Rattle.front_coding.specs.Lengths.{located_at}
use Rattle.layouts.specs.TermSections.{block_size}
use Rattle.segment_reader.proofs.KeptFound.{found_fits, none_told, some_told, told_below, told_found}
use Rattle.segment_reader.proofs.term_dictionary.TermDictionary.search.Goals as goal

pub returns-then-up_to-eq0-clause-below : goal.returns-then-up_to-eq0-clause-below
returns-then-up_to-eq0-clause-below c = told_below c.self.inside.section.now c.args.key.now c.self.inside.shape c.self.inside.starts.now (omega arith) c.self.invariant 0 None c.args.self.now c.self.view_is (none_told c.self.inside.section.now c.args.key.now c.self.inside.shape c.self.inside.starts.now (omega arith) c.self.invariant (subst (AreUpTo c.self.inside.section.now c.self.inside.starts.now c.args.key.now) c.if-up_to-eq0.true c.blocks_up_to-up_to.ensures))

pub returns-then-up_to-eq0-clause-found : goal.returns-then-up_to-eq0-clause-found
returns-then-up_to-eq0-clause-found c = told_found c.self.inside.section.now c.args.key.now c.self.inside.shape c.self.inside.starts.now (omega arith) c.self.invariant 0 None c.args.self.now c.self.view_is (none_told c.self.inside.section.now c.args.key.now c.self.inside.shape c.self.inside.starts.now (omega arith) c.self.invariant (subst (AreUpTo c.self.inside.section.now c.self.inside.starts.now c.args.key.now) c.if-up_to-eq0.true c.blocks_up_to-up_to.ensures))

pub returns-clause-below : goal.returns-clause-below
returns-clause-below c = ap (λ m. m * (c.blocks_up_to-up_to.result - 1) + c.search_block-told.result.below) c.terms_in_block.ensures ∙ told_below c.self.inside.section.now c.args.key.now c.self.inside.shape c.self.inside.starts.now (omega arith) c.self.invariant (block_size c.self.inside.shape.front_coded * (c.blocks_up_to-up_to.result - 1) + c.search_block-told.result.below) (option_map located_at c.search_block-told.result.found) c.args.self.now c.self.view_is (some_told c.self.inside.section.now c.args.key.now c.self.inside.shape c.self.inside.starts.now (omega arith) c.self.invariant (c.blocks_up_to-up_to.result - 1) c.terms_left-left.result c.search_block-told.result.below (option_map located_at c.search_block-told.result.found) _ _ (subst (AreUpTo c.self.inside.section.now c.self.inside.starts.now c.args.key.now) (let some = c.if-up_to-eq0.false in let same : c.blocks_up_to-up_to.result ≡ suc (c.blocks_up_to-up_to.result - 1) = omega (arith, some) in same) c.blocks_up_to-up_to.ensures) c.terms_left-left.ensures refl c.search_block-told.ensures.below c.search_block-told.ensures.found)

pub returns-clause-found : goal.returns-clause-found
returns-clause-found c = told_found c.self.inside.section.now c.args.key.now c.self.inside.shape c.self.inside.starts.now (omega arith) c.self.invariant (block_size c.self.inside.shape.front_coded * (c.blocks_up_to-up_to.result - 1) + c.search_block-told.result.below) (option_map located_at c.search_block-told.result.found) c.args.self.now c.self.view_is (some_told c.self.inside.section.now c.args.key.now c.self.inside.shape c.self.inside.starts.now (omega arith) c.self.invariant (c.blocks_up_to-up_to.result - 1) c.terms_left-left.result c.search_block-told.result.below (option_map located_at c.search_block-told.result.found) _ _ (subst (AreUpTo c.self.inside.section.now c.self.inside.starts.now c.args.key.now) (let some = c.if-up_to-eq0.false in let same : c.blocks_up_to-up_to.result ≡ suc (c.blocks_up_to-up_to.result - 1) = omega (arith, some) in same) c.blocks_up_to-up_to.ensures) c.terms_left-left.ensures refl c.search_block-told.ensures.below c.search_block-told.ensures.found)

pub returns-clause-fits : goal.returns-clause-fits
returns-clause-fits c = found_fits c.self.inside.section.now c.args.key.now c.self.inside.shape c.self.inside.starts.now (omega arith) c.self.invariant (block_size c.self.inside.shape.front_coded * (c.blocks_up_to-up_to.result - 1) + c.search_block-told.result.below) c.search_block-told.result.found (some_told c.self.inside.section.now c.args.key.now c.self.inside.shape c.self.inside.starts.now (omega arith) c.self.invariant (c.blocks_up_to-up_to.result - 1) c.terms_left-left.result c.search_block-told.result.below (option_map located_at c.search_block-told.result.found) _ _ (subst (AreUpTo c.self.inside.section.now c.self.inside.starts.now c.args.key.now) (let some = c.if-up_to-eq0.false in let same : c.blocks_up_to-up_to.result ≡ suc (c.blocks_up_to-up_to.result - 1) = omega (arith, some) in same) c.blocks_up_to-up_to.ensures) c.terms_left-left.ensures refl c.search_block-told.ensures.below c.search_block-told.ensures.found)
