use Rattle.store.proofs.CacheLaws.{counted}
use Rattle.store.proofs.cache_laws.look_ups_are_counted.Goals as goal

pub returns : goal.returns
returns c = counted
