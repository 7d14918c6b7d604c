use Rattle.std.proofs.Common.{ap, arith, false, nat_lt, sym, ◌≡◌, ◌∙◌}
use Rattle.std.proofs.lemmas.Bool.Decides.{nat_tests}
use Rattle.std.proofs.lemmas.List.{get_or_past}
use Rattle.common.proofs.SetSteps.{seen_flag, seen_length}
use Rattle.common.specs.BitSets.{flag_at}
use Rattle.common.proofs.bit_set.BitSet.contains.Goals as goal

pub returns-then-el-self : goal.returns-then-el-self
returns-then-el-self c = c.has_bit.ensures ∙ ap (λ ws. flag_at ws c.args.el) c.deref.ensures.value ∙ seen_flag c.self.inside.max_value c.args.el c.self.inside.words.items c.args.self.now c.self.invariant.words_are c.self.view_is

pub returns-else-el-self : goal.returns-else-el-self
returns-else-el-self c =
    let past : nat_lt c.args.el c.self.inside.max_value ≡ false = (let h = c.if-el-self.false in grind (arith, nat_tests)) in
    past ∙ sym (get_or_past c.args.self.now c.args.el false (let long = seen_length c.self.inside.max_value c.self.inside.words.items c.args.self.now c.self.view_is in let h = c.if-el-self.false in omega arith))
