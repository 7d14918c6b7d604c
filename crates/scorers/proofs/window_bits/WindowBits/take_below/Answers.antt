use Rattle.std.proofs.Common.{arith, ◌-◌}
use Rattle.std.proofs.lemmas.Nat.Bits.{ones_shr}
use Rattle.scorers.proofs.WindowWords.{taken}
use Rattle.scorers.proofs.window_bits.WindowBits.take_below.Goals as goal

pub invariant_of-self : goal.invariant_of-self
invariant_of-self c =
    let is = c.min.ensures in
    let some = c.requires.some in
    (taken c.self.inside.words.items c.args.self.now c.args.at c.args.limit c.index-word.result.now _ (64 - (63 - c.min.result)) c.self.invariant c.self.view_is c.requires.at c.index-word.ensures some (ones_shr 64 (63 - c.min.result) (omega arith)) (omega (arith, is, some))).0

pub returns : goal.returns
returns c =
    let is = c.min.ensures in
    let some = c.requires.some in
    (taken c.self.inside.words.items c.args.self.now c.args.at c.args.limit c.index-word.result.now _ (64 - (63 - c.min.result)) c.self.invariant c.self.view_is c.requires.at c.index-word.ensures some (ones_shr 64 (63 - c.min.result) (omega arith)) (omega (arith, is, some))).1
