use Rattle.std.proofs.Common.{[], List, subst, sym, ◌++◌, ◌∙◌}
use Rattle.std.proofs.Math.Logic.{∥∥₁_map}
use Rattle.std.proofs.lemmas.Result.{on_ok_weaker}
use Rattle.definitions.specs.Values.{Document}
use Rattle.index_state.proofs.PendingDocs.{group_of, one_full, writer_holds}
use Rattle.index_state.specs.Pending.{Holds}
use Rattle.index_state.proofs.pending_segments.PendingSegments.close.Goals as goal

pub push-requires : goal.push-requires
push-requires c = record {
  written = ∥∥₁_map c.requires.held (λ h.
      let w = writer_holds c.args.schema.now h.0 h.1 c.args.self.now h.2.0 h.2.1 h.2.2 c.in-Some.writer (sym c.in-Some.ensures.value) in
      (h.0, h.1, h.2.1, w.1, w.0));
}

pub returns-in-Some-clause-ok : goal.returns-in-Some-clause-ok
returns-in-Some-clause-ok c analyze block_size full last h =
    let schema = c.args.schema.now in
    let new = c.push.new.self in
    let w = writer_holds schema analyze block_size c.args.self.now full last h c.in-Some.writer (sym c.in-Some.ensures.value) in
    on_ok_weaker c.push.result
    (λ closing. subst (λ (group : List (List Document)). Holds schema analyze block_size new (full ++ group) []) (sym (group_of last w.0))
    (one_full schema analyze block_size new full c.args.self.now.full.items last closing.0 h.closed closing.1 closing.2 (c.push.ensures.writer ∙ c.in-Some.ensures.after)))
    (c.push.ensures.ok analyze block_size last w.1)

pub returns-in-Some-clause-limit : goal.returns-in-Some-clause-limit
returns-in-Some-clause-limit c analyze block_size full last h = c.push.ensures.limit analyze block_size last (writer_holds c.args.schema.now analyze block_size c.args.self.now full last h c.in-Some.writer (sym c.in-Some.ensures.value)).1
