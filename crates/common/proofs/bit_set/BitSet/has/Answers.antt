use Rattle.std.proofs.Common.{List, ap, length, subst, sym, ◌/◌, ◌<◌, ◌∙◌, ℕ}
use Rattle.common.proofs.SetSteps.{seen_flag, seen_word}
use Rattle.common.specs.BitSets.{flag_at}
use Rattle.common.proofs.bit_set.BitSet.has.Goals as goal

pub has_bit-requires : goal.has_bit-requires
has_bit-requires c =
    let P : List ℕ → Type 0 = λ ws. c.args.el / 64 < length ws in
    subst P (sym c.deref.ensures.value) (seen_word c.self.inside.max_value c.args.el c.self.inside.words.items c.args.self.now c.self.invariant.words_are c.self.view_is c.requires)

pub returns : goal.returns
returns c = c.has_bit.ensures ∙ ap (λ ws. flag_at ws c.args.el) c.deref.ensures.value ∙ seen_flag c.self.inside.max_value c.args.el c.self.inside.words.items c.args.self.now c.self.invariant.words_are c.self.view_is
