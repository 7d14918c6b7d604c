use Rattle.phrases.proofs.PhraseEntryLaws.{danger-placed}
use Rattle.phrases.proofs.postings_with_offset.PostingsWithOffsetDocSet.seek_danger.Goals as goal

pub returns : goal.returns
returns g c = danger-placed c.args.self.now.offset c.seek_danger.result c.args.target (g.P.DocSet.entries c.args.self.now.postings) (g.P.DocSet.entries c.seek_danger.new.self) c.seek_danger.ensures
