use Rattle.std.proofs.Common.{ap, arith, length}
use Rattle.best_k.proofs.Placing.{room_after}
use Rattle.best_k.specs.Contents.{room_in}
use Rattle.best_k.specs.Ranked.{hits_in, room_for_hits}
use Rattle.best_k.proofs.best_k.BestKSink.collect.Goals.{else-is_alive, then-is_alive}
use Rattle.best_k.proofs.best_k.BestKSink.collect.Goals as goal

pub returns-clause-room : goal.returns-clause-room
returns-clause-room c =
    let self = c.args.self.now in
    elim c.if-is_alive.branch [
      | then-is_alive w ↦ (let is = ap room_in w.self-is in let room = room_after self.wanted (room_for_hits self.hits) (room_for_hits w.keep_best.new.hits) (length (hits_in self.hits)) (length (hits_in w.keep_best.new.hits)) w.keep_best.ensures.room w.keep_best.ensures.one in omega (arith, is, room))
      | else-is_alive w ↦ (let is = ap room_in w.self-is in omega (arith, is))
    ]
