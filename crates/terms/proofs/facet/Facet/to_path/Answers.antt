use Rattle.std.proofs.Common.{lit<, ◌∙◌}
use Rattle.std.proofs.lemmas.Iterator.Splits.{YieldsList-from_str_split}
use Rattle.std.proofs.lemmas.Iterator.Consumers.{map_from_collect}
use Rattle.terms.proofs.facet.Facet.to_path.Goals as goal

pub returns : goal.returns
returns c = rw (← c.self.view_is) (map_from_collect _ c.collect.ensures.ran (YieldsList-from_str_split 0 _ (lit< tt) (c.split.ensures.text ∙ c.deref.ensures) c.split.ensures.has_more c.split.ensures.pattern))
