use Rattle.std.proofs.Common.{arith}
use Rattle.phrases.proofs.OneTermLaws.{most-one_term}
use Rattle.phrases.proofs.one_term_phrase.OneTermPhrasePositioned.most_positions.Goals as goal

pub returns : goal.returns
returns g c = (let fewer = most-one_term c.args.self.now.boost (g.P.DocSet.entries c.args.self.now.postings) (g.met.P.Postings.of_one_term c.args.self.now.postings) in let most = c.most_positions.ensures in omega (arith, fewer, most))
