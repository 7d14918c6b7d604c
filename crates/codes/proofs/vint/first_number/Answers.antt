use Rattle.codes.proofs.FirstNumber.{digit_more, none_so_far}
use Rattle.codes.proofs.vint.first_number.Goals as goal

pub loop-rest-init : goal.loop-rest-init
loop-rest-init c = none_so_far c.args.bytes.now c.requires

pub loop-rest-preserved : goal.loop-rest-preserved
loop-rest-preserved c = digit_more c.args.bytes.now c.loop-rest.value c.loop-rest.shift c.from.result c.loop-rest.rest.now c.loop-rest.invariant c.from.ensures c.loop-rest-test.true
