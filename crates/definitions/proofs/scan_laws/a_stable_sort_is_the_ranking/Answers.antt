use Rattle.definitions.proofs.StableSorts.{sorted_is_ranked}
use Rattle.definitions.proofs.scan_laws.a_stable_sort_is_the_ranking.Goals as goal

pub returns : goal.returns
returns g c = sorted_is_ranked
