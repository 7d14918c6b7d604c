use Rattle.std.proofs.Common.{arith, length, true, ◌≡◌}
use Rattle.std.proofs.lemmas.Bool.Decides.{nat_tests}
use Rattle.phrases.proofs.PlaceBounds.{places_bound}
use Rattle.phrases.specs.Places.{places_of}
use Rattle.phrases.proofs.phrase_threshold.PhraseThresholdColumnThreshold.is_low.Goals as goal

pub returns : goal.returns
returns c = λ yes columns index within last few.
    (let s = c.args.self.now in
    let sure : c.has_places.result ≡ true = grind (arith, nat_tests, c.if-not-has_places.false) in
    c.earns_low.ensures yes (length (places_of s.slop columns)) (places_bound s.slop c.args.most index c.args.is_last columns (c.has_places.ensures sure) within last few))
