use Rattle.std.proofs.Common.{arith}
use Rattle.phrases.proofs.PhraseEntryLaws.{most-placed}
use Rattle.phrases.proofs.postings_with_offset.PostingsWithOffsetPositioned.most_positions.Goals as goal

pub returns : goal.returns
returns g c = (let same = most-placed c.args.self.now.offset (g.P.DocSet.entries c.args.self.now.postings) in let most = c.most_positions.ensures in omega (arith, same, most))
