use Rattle.weight_calls.proofs.PlainWeights.{all_weighed}
use Rattle.weight_calls.proofs.counted_forms.count_all.Goals as goal

pub count-requires : goal.count-requires
count-requires c = all_weighed
