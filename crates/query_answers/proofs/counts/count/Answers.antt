use Rattle.std.proofs.Common.{ap, sym, ◌∙◌}
use Rattle.definitions.specs.Answers.{living_count}
use Rattle.definitions.specs.Query.{term}
use Rattle.query_trees.specs.Queries.{query_of}
use Rattle.query_answers.proofs.counts.count.Goals as goal

pub returns-in-All : goal.returns-in-All
returns-in-All g c schema analyze rows has passes =
    c.count_all.ensures schema analyze rows has ∙ ap (λ q. living_count schema analyze (query_of q) rows) (sym c.in-All.is)

pub returns-in-Term : goal.returns-in-Term
returns-in-Term g c schema analyze rows has passes =
    let option = c.in-Term.query.1 in
    c.count_term.ensures schema analyze option rows has
    ∙ ap (λ t. living_count schema analyze (term t option) rows) c.term.ensures
    ∙ ap (λ q. living_count schema analyze (query_of q) rows) (sym c.in-Term.is)
