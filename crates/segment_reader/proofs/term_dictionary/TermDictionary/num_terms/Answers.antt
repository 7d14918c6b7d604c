use Rattle.std.proofs.Common.{ap, arith, length, ◌∙◌}
use Rattle.segment_reader.proofs.KeptFound.{how_many}
use Rattle.segment_reader.proofs.term_dictionary.TermDictionary.num_terms.Goals as goal

pub returns : goal.returns
returns c = how_many c.self.inside.section.now c.self.inside.shape c.self.inside.starts.now (omega arith) c.self.invariant ∙ ap length c.self.view_is
