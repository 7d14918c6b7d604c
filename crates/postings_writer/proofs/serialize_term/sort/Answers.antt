use Rattle.postings_writer.proofs.Sorting.{sorted_is_ascending, sorted_rises}
use Rattle.postings_writer.proofs.serialize_term.sort.Goals as goal

pub returns-then-len-gt1-clause-ascending : goal.returns-then-len-gt1-clause-ascending
returns-then-len-gt1-clause-ascending c = sorted_is_ascending c.args.positions.now.items c.sort_unstable.new.self.items c.sort_unstable.ensures.permutation (sorted_rises c.sort_unstable.new.self.items c.sort_unstable.ensures.sorted)

pub returns-then-len-gt1-clause-rising : goal.returns-then-len-gt1-clause-rising
returns-then-len-gt1-clause-rising c = sorted_rises c.sort_unstable.new.self.items c.sort_unstable.ensures.sorted
