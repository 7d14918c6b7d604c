use Rattle.std.proofs.Common.{ap, arith, sym, ◌∙◌, ◌≡◌}
use Rattle.std.proofs.lemmas.List.Folds.{find_at}
use Rattle.std.proofs.lemmas.Option.{slice_get_past}
use Rattle.std.specs.List.{find, position_or_len, slice_get}
use Rattle.store.specs.SkipIndexes.{passes}
use Rattle.store.proofs.Lowest.{slice_get_at}
use Rattle.store.proofs.skip_index.SkipIndex.seek.Goals as goal

pub returns-then-at-len : goal.returns-then-at-len
returns-then-at-len c =
    let at : c.block_of-at.result ≡ position_or_len (passes c.args.target) c.self.inside.checkpoints.items = c.block_of-at.ensures ∙ ap (position_or_len (passes c.args.target)) (sym c.self.view_is) in
    slice_get_at c.self.inside.checkpoints.items c.block_of-at.result c.index.result.now (omega (arith, c.self.inside.checkpoints.ok.0)) c.index.ensures
    ∙ ap (slice_get c.self.inside.checkpoints.items) at ∙ sym (find_at (passes c.args.target) c.self.inside.checkpoints.items) ∙ ap (find (passes c.args.target)) c.self.view_is

pub returns-else-at-len : goal.returns-else-at-len
returns-else-at-len c =
    let at : c.block_of-at.result ≡ position_or_len (passes c.args.target) c.self.inside.checkpoints.items = c.block_of-at.ensures ∙ ap (position_or_len (passes c.args.target)) (sym c.self.view_is) in
    sym (slice_get_past c.self.inside.checkpoints.items c.block_of-at.result (omega (arith, c.self.inside.checkpoints.ok.0)))
    ∙ ap (slice_get c.self.inside.checkpoints.items) at ∙ sym (find_at (passes c.args.target) c.self.inside.checkpoints.items) ∙ ap (find (passes c.args.target)) c.self.view_is
