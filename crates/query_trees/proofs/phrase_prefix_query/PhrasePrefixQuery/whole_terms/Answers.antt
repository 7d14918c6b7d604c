use Rattle.std.proofs.Common.{ap, take, ◌-◌, ◌∙◌}
use Rattle.std.specs.Vec.{vec_len}
use Rattle.definitions.specs.Phrases.{whole_terms}
use Rattle.query_trees.proofs.OffsetOrder.{whole_first}
use Rattle.query_trees.proofs.phrase_prefix_query.PhrasePrefixQuery.whole_terms.Goals as goal

pub returns : goal.returns
returns c =
    let terms = c.self.inside.terms.items in
    ap (λ n. take (n - 1) c.deref.result.now) c.len.ensures
    ∙ ap (take (vec_len c.self.inside.terms - 1)) c.deref.ensures.value
    ∙ ap (λ n. take (n - 1) terms) c.self.inside.terms.ok.0
    ∙ whole_first terms c.self.invariant.sorted
    ∙ ap (λ q. whole_terms q.0) c.self.view_is
