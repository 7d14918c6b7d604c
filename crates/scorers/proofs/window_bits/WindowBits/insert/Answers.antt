use Rattle.std.proofs.Common.{ap, arith, set, true, ◌∙◌}
use Rattle.common.proofs.SetSteps.{word_inside}
use Rattle.scorers.proofs.WindowWords.{set_flags, set_words}
use Rattle.scorers.proofs.window_bits.WindowBits.insert.Goals as goal

pub index-word-requires : goal.index-word-requires
index-word-requires c =
    let within = word_inside 4096 c.args.el c.self.inside.words.items c.self.invariant c.requires in
    omega (arith, c.self.inside.words.ok.0)

pub index_mut-requires : goal.index_mut-requires
index_mut-requires c =
    let within = word_inside 4096 c.args.el c.self.inside.words.items c.self.invariant c.requires in
    omega (arith, c.self.inside.words.ok.0)

pub invariant_of-self : goal.invariant_of-self
invariant_of-self c = set_words c.args.el c.index-word.result.now c.self.inside.words.items c.self.invariant c.requires c.index-word.ensures

pub returns : goal.returns
returns c = set_flags c.args.el c.index-word.result.now c.self.inside.words.items c.self.invariant c.requires c.index-word.ensures ∙ ap (λ flags. set flags c.args.el true) c.self.view_is
