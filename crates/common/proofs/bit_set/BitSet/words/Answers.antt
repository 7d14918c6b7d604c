use Rattle.std.proofs.Common.{ap, ◌∙◌}
use Rattle.common.proofs.FlagWords.{alive_words-flags_of}
use Rattle.layouts.specs.AliveSets.{alive_words}
use Rattle.common.proofs.bit_set.BitSet.words.Goals as goal

pub returns : goal.returns
returns c = c.deref.ensures.value ∙ alive_words-flags_of c.self.inside.max_value c.self.inside.words.items c.self.invariant.words_are ∙ ap alive_words c.self.view_is
