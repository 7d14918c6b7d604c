use Rattle.std.proofs.Common.{rules}
use Rattle.weight_calls.proofs.PlainWeights.{none_weighed}
use Rattle.weight_calls.proofs.counted_forms.count_none.Goals as goal

pub count-requires : goal.count-requires
count-requires c κs = (search rules, none_weighed)
