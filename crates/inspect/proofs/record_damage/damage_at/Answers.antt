use Rattle.inspect.proofs.Damages.{told_damage}
use Rattle.inspect.proofs.record_damage.damage_at.Goals as goal

pub returns : goal.returns
returns c = told_damage c.args.bytes.now c.args.number c.args.gate c.in_ok-reason.reason c.requires.0 c.requires.1 (c.in_ok-reason.ensures c.requires.0)
