use Rattle.std.proofs.Common.{ap, drop, ◌∙◌}
use Rattle.std.proofs.lemmas.List.{drop-drop}
use Rattle.index_file.proofs.part_reader.take_at.Goals as goal

pub loop-i-preserved : goal.loop-i-preserved
loop-i-preserved c = c.pop_front.ensures.rest ∙ ap (drop 1) c.loop-i.invariant ∙ drop-drop 1 c.loop-i._i c.args.members.now.items
