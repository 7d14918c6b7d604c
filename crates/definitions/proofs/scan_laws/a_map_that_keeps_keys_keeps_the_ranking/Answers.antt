use Rattle.definitions.proofs.Ranking.{map-ranked}
use Rattle.definitions.proofs.scan_laws.a_map_that_keeps_keys_keeps_the_ranking.Goals as goal

pub returns : goal.returns
returns g c = map-ranked
