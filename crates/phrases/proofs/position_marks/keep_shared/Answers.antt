use Rattle.std.proofs.Common.{subst, sym}
use Rattle.phrases.specs.Places.{Ascends}
use Rattle.phrases.proofs.position_marks.keep_shared.Goals as goal

pub are_below-requires : goal.are_below-requires
are_below-requires c = subst (Ascends 0) (sym c.deref.ensures.value) c.requires.left
