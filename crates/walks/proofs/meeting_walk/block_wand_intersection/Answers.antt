use Rattle.std.proofs.Common.{ap, arith, length, map, ◌<◌, ◌∙◌, ◌∷◌, ◌≡◌, ℕ}
use Rattle.std.proofs.lemmas.List.{length-map}
use Rattle.definitions.specs.Sinks.{fed}
use Rattle.docsets.specs.Members.{greatest_sum}
use Rattle.docsets.specs.ScoredEntries.{pairs_of}
use Rattle.intersections.specs.Meetings.{meeting}
use Rattle.walks.proofs.MeetingOrders.{greatest_led, led_by, led_mapped, pairs_led}
use Rattle.walks.proofs.meeting_walk.block_wand_intersection.Given.{Over}
use Rattle.walks.proofs.meeting_walk.block_wand_intersection.Goals.{After-remove-lead}
use Rattle.walks.proofs.meeting_walk.block_wand_intersection.Goals as goal

led : (g : Over) (c : After-remove-lead g) → g.S.DocSet.entries c.remove-lead.result ∷ map g.S.DocSet.entries c.remove-lead.new.self.items ≡ led_by c.least_cost-index.result (map g.S.DocSet.entries c.args.scorers.items)
led g c = led_mapped g.S.DocSet.entries c.least_cost-index.result c.remove-lead.result c.args.scorers.items c.remove-lead.new.self.items c.least_cost-index.ensures c.remove-lead.ensures.value c.remove-lead.ensures.items

within : (g : Over) (c : After-remove-lead g) → c.least_cost-index.result < length (map g.S.DocSet.entries c.args.scorers.items)
within g c = (let at = c.least_cost-index.ensures in let long = length-map c.args.scorers.items g.S.DocSet.entries in omega (arith, at, long))

same : (g : Over) (c : After-remove-lead g) → pairs_of (meeting (g.S.DocSet.entries c.remove-lead.result ∷ map g.S.DocSet.entries c.remove-lead.new.self.items)) ≡ pairs_of (meeting (map g.S.DocSet.entries c.args.scorers.items))
same g c = ap (λ ess. pairs_of (meeting ess)) (led g c) ∙ pairs_led c.least_cost-index.result (map g.S.DocSet.entries c.args.scorers.items) (within g c)

pub feed_led-requires-clause-fits : goal.feed_led-requires-clause-fits
feed_led-requires-clause-fits g c =
    let it = (goal.at.feed_led-requires-clause-fits g c).After-remove-lead in
    let all = map g.S.DocSet.entries c.args.scorers.items in
    let those = ap greatest_sum (led g it) in
    let whole = greatest_led c.least_cost-index.result all (within g it) in
    let fits = c.requires.fits in
    omega (arith, those, whole, fits)

pub feed_led-requires-clause-room : goal.feed_led-requires-clause-room
feed_led-requires-clause-room g c =
    let it = (goal.at.feed_led-requires-clause-room g c).After-remove-lead in
    let all = map g.S.DocSet.entries c.args.scorers.items in
    let those = meeting (g.S.DocSet.entries c.remove-lead.result ∷ map g.S.DocSet.entries c.remove-lead.new.self.items) in
    let pairs = ap length (same g it) in
    let led_long = length-map {B = ℕ × ℕ} those (λ e. (e.doc, e.score)) in
    let long = length-map {B = ℕ × ℕ} (meeting all) (λ e. (e.doc, e.score)) in
    let room = c.requires.room in
    omega (arith, pairs, led_long, long, room)

pub returns : goal.returns
returns g c = c.feed_led.ensures ∙ ap (fed g.K.Sink.limit g.K.Sink.taken (g.K.Sink.state c.args.sink.now)) (same g (goal.at.returns g c).After-remove-lead)
