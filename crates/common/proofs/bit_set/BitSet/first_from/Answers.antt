use Rattle.std.proofs.Common.{ap, arith, false, get_or, ◌∙◌}
use Rattle.common.proofs.FirstBits.{first_inside, first_same}
use Rattle.common.proofs.SetSteps.{seen_flag, seen_length}
use Rattle.common.specs.BitSets.{flag_at}
use Rattle.common.proofs.bit_set.BitSet.first_from.Goals as goal

pub returns-clause-first : goal.returns-clause-first
returns-clause-first c =
    first_same (flag_at c.deref.result.now) (λ i. get_or c.args.self.now i false) c.args.el c.first_bit.result
    (λ i. ap (λ ws. flag_at ws i) c.deref.ensures.value ∙ seen_flag c.self.inside.max_value i c.self.inside.words.items c.args.self.now c.self.invariant.words_are c.self.view_is)
    c.first_bit.ensures

pub returns-clause-within : goal.returns-clause-within
returns-clause-within c =
    first_inside c.args.self.now c.args.el c.first_bit.result (omega (arith, c.self.invariant.words_are.n_fits, seen_length c.self.inside.max_value c.self.inside.words.items c.args.self.now c.self.view_is))
    (first_same (flag_at c.deref.result.now) (λ i. get_or c.args.self.now i false) c.args.el c.first_bit.result
    (λ i. ap (λ ws. flag_at ws i) c.deref.ensures.value ∙ seen_flag c.self.inside.max_value i c.self.inside.words.items c.args.self.now c.self.invariant.words_are c.self.view_is)
    c.first_bit.ensures)
