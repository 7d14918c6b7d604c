use Rattle.std.proofs.Common.{arith}
use Rattle.docsets.proofs.EntryLaws.{most-first as first-most}
use Rattle.phrase_cases.proofs.phrase_rows.places_here.Goals as goal

pub positions-requires-clause-room : goal.positions-requires-clause-room
positions-requires-clause-room g c = (let most = first-most (g.S.DocSet.entries c.args.scorer.now) in let bound = c.most_positions.ensures in let room = c.in_ok-places.ensures.capacity in omega (arith, most, bound, room))
