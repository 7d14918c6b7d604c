use Rattle.std.proofs.Common.{ap, subst, sym, ◌∙◌}
use Rattle.std.specs.List.{slice_range}
use Rattle.layouts.specs.Stores.{IsBlock}
use Rattle.store.proofs.Readers.{slot_cut}
use Rattle.store.proofs.store_reader.slot_of.Goals as goal

pub returns : goal.returns
returns c = λ docs many block.
    slot_cut c.args.block c.truncate.new.self c.advance.new.self c.slot_range-range.result.start c.slot_range-range.result.end c.slot_range-range.ensures.within.0 c.truncate.ensures c.advance.ensures
    ∙ ap (λ xs. slice_range xs c.slot_range-range.result.start c.slot_range-range.result.end) (sym c.as_slice.ensures) ∙ c.slot_range-range.ensures.slot docs many (subst (IsBlock docs) (sym c.as_slice.ensures) block)
