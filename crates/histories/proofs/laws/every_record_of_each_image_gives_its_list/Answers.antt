use Rattle.std.proofs.Common.{inl, refl}
use Rattle.histories.proofs.Beginnings.{lists_begin}
use Rattle.histories.proofs.Following.{follows, lists_inside, lists_now}
use Rattle.histories.specs.Events.{standing_of}
use Rattle.std.specs.Bool.{⊤}
use Rattle.histories.proofs.laws.every_record_of_each_image_gives_its_list.Goals as goal

pub returns-clause-now : goal.returns-clause-now
returns-clause-now g c k groups events begins have leads =
    let m = g.met.D.Device in
    let found = follows g.D.Device g.A.Analyzer m.only_now m.counts_now m.remains ⊤ k (standing_of groups) c.args.first.now c.args.last.now events (record { stands = begins.stands; honest = begins.honest; file = inl (begins.rests, refl); lists = λ u. lists_begin g.D.Device g.A.Analyzer k groups c.args.first.now begins have }) leads in
    (found.0, found.1, found.2.stands, lists_now g.D.Device g.A.Analyzer m.only_now m.counts_now m.remains ⊤ k found.0 c.args.last.now found.2 tt)

pub returns-clause-inside : goal.returns-clause-inside
returns-clause-inside g c k groups events call outcome begins have leads did =
    let m = g.met.D.Device in
    let found = follows g.D.Device g.A.Analyzer m.only_now m.counts_now m.remains ⊤ k (standing_of groups) c.args.first.now c.args.last.now events (record { stands = begins.stands; honest = begins.honest; file = inl (begins.rests, refl); lists = λ u. lists_begin g.D.Device g.A.Analyzer k groups c.args.first.now begins have }) leads in
    (found.0, found.1, lists_inside g.D.Device g.A.Analyzer m.only_now m.counts_now m.remains ⊤ k found.0 c.args.last.now c.args.next.now call outcome found.2 did tt)
