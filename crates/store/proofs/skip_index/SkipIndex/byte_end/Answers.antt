use Rattle.std.proofs.Common.{ap, sym, ◌∙◌, option_copied}
use Rattle.layouts.specs.Stores.{byte_end}
use Rattle.store.proofs.Opened.{last_ends}
use Rattle.store.proofs.skip_index.SkipIndex.byte_end.Goals as goal

pub returns-in-Some : goal.returns-in-Some
returns-in-Some c =
    sym (last_ends c.deref.result.now c.in-Some.last.now 0 0 (sym c.last.ensures.value ∙ ap option_copied c.in-Some.is)).1
    ∙ ap (byte_end 0) (c.deref.ensures.value ∙ c.self.view_is)
