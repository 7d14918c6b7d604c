use Rattle.std.proofs.Common.{[], ap, replicate, sym, true, ◌∙◌, ◌∷◌}
use Rattle.index_state.specs.Merges.{new_flags}
use Rattle.index_state.proofs.merge_record.open_if_any.Goals as goal

pub returns-clause-counted : goal.returns-clause-counted
returns-clause-counted c = ap (λ n. replicate n true ∷ []) c.in_ok-segment.ensures.counted ∙ ap new_flags (sym c.in-Some.is)
