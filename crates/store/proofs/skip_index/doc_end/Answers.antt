use Rattle.std.proofs.Common.{ap, option_copied, sym, ◌∙◌}
use Rattle.store.proofs.Opened.{last_ends}
use Rattle.store.proofs.skip_index.doc_end.Goals as goal

pub returns-in-Some : goal.returns-in-Some
returns-in-Some c = sym (last_ends c.args.checkpoints.now c.in-Some.last.now 0 0 (sym c.last.ensures.value ∙ ap option_copied c.in-Some.is)).0
