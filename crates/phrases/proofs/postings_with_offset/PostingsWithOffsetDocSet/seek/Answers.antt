use Rattle.std.proofs.Common.{ap, sym, ◌∙◌}
use Rattle.phrases.specs.PhraseEntries.{placed}
use Rattle.phrases.proofs.PhraseEntryLaws.{from-placed}
use Rattle.phrases.proofs.postings_with_offset.PostingsWithOffsetDocSet.seek.Goals as goal

pub returns-clause-rest : goal.returns-clause-rest
returns-clause-rest g c = ap (placed c.args.self.now.offset) c.seek.ensures.rest ∙ sym (from-placed c.args.self.now.offset c.args.target (g.P.DocSet.entries c.args.self.now.postings))
