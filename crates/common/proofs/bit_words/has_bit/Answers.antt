use Rattle.std.proofs.Common.{ap, get_or, nat_eq, sym, ◌%◌, ◌/◌, ◌∙◌}
use Rattle.std.proofs.lemmas.Nat.Bits.{shr_and_one}
use Rattle.common.proofs.BitFlags.{flag_is}
use Rattle.common.proofs.bit_words.has_bit.Goals as goal

pub returns : goal.returns
returns c = ap (λ b. nat_eq b 1) (shr_and_one (get_or c.args.words.now (c.args.el / 64) 0) (c.args.el % 64)) ∙ sym (flag_is c.args.words.now c.args.el)
