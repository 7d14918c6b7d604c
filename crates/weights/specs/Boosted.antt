-- What the weights of queries over another have.
use Rattle.std.specs.Prelude.{ℤ}
use Rattle.weights.specs.declared.boost_weight.BoostWeight.{BoostWeight}
use Rattle.weights.specs.declared.const_weight.ConstWeight.{ConstWeight}

-- the weight that is boosted
abbrev pub boosted_in : {W : Type 0} → BoostWeight W → W
boosted_in w = w.weight

-- its factor
abbrev pub boost_in : {W : Type 0} → BoostWeight W → ℤ
boost_in w = w.boost

-- the weight whose documents have one score
abbrev pub scored_in : {W : Type 0} → ConstWeight W → W
scored_in w = w.weight

-- the score
abbrev pub score_in : {W : Type 0} → ConstWeight W → ℤ
score_in w = w.score
