use Rattle.std.proofs.Common.{None, Some, ap, not, sym, ◌∙◌}
use Rattle.std.proofs.lemmas.Bool.Decides.{Decides-eqb}
use Rattle.std.proofs.lemmas.Slice.Eq.{strip_prefix_is}
use Rattle.terms.proofs.FacetBelow.{below-itself, below-none, below-some}
use Rattle.terms.proofs.facet.is_below.Goals as goal

pub returns-then-not-is_empty : goal.returns-then-not-is_empty
returns-then-not-is_empty c = below-some c.args.start.now c.args.text.now c.in-Some.rest.now (strip_prefix_is Decides-eqb c.args.text.now c.args.start.now (Some c.in-Some.rest) c.in-Some.ensures.cases) (sym c.if-not-is_empty.ensures)

pub returns-else-not-is_empty : goal.returns-else-not-is_empty
returns-else-not-is_empty c = ap not c.if-not-is_empty.false ∙ below-itself c.args.start.now c.args.text.now c.in-Some.rest.now (strip_prefix_is Decides-eqb c.args.text.now c.args.start.now (Some c.in-Some.rest) c.in-Some.ensures.cases) (sym c.if-not-is_empty.ensures)

pub returns-in-None : goal.returns-in-None
returns-in-None c = below-none c.args.start.now c.args.text.now (strip_prefix_is Decides-eqb c.args.text.now c.args.start.now None c.in-None.ensures.cases)
