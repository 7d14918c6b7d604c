use Rattle.std.proofs.lemmas.List.Filters.{dedup_is}
use Rattle.docsets.proofs.DistinctLaws.{sorted-distinct}
use Rattle.scorers.proofs.distinct_positions.sort_once.Goals as goal

pub returns-clause-items : goal.returns-clause-items
returns-clause-items c = sorted-distinct c.args.numbers.now.items c.sort_unstable.new.self.items c.dedup.new.self.items c.sort_unstable.ensures.permutation c.sort_unstable.ensures.sorted (dedup_is _ c.sort_unstable.new.self.items c.dedup.new.self.items c.dedup.ensures.filtered)
