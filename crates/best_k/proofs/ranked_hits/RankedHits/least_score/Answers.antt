use Rattle.std.proofs.Common.{ap, refl, sym, ◌∙◌}
use Rattle.best_k.proofs.LastOfBoth.{least_of_newer, least_of_older}
use Rattle.best_k.specs.Kept.{least_kept}
use Rattle.best_k.proofs.ranked_hits.RankedHits.least_score.Goals as goal

pub returns-then-ends_with_older-clause-value : goal.returns-then-ends_with_older-clause-value
returns-then-ends_with_older-clause-value c =
    let hits = c.args.self.now in
    c.last_score.ensures.value
    ∙ ap least_kept c.deref.ensures.value
    ∙ sym (least_of_older hits.older.items hits.newer.items hits.older_fall hits.newer_fall (c.if-ends_with_older.ensures.older refl) (c.if-ends_with_older.ensures.less refl))

pub returns-clause-value : goal.returns-clause-value
returns-clause-value c =
    let hits = c.args.self.now in
    c.last_score-2.ensures.value
    ∙ ap least_kept c.deref-2.ensures.value
    ∙ sym (least_of_newer hits.older.items hits.newer.items hits.older_fall hits.newer_fall (c.if-ends_with_older.ensures.newer refl) (c.if-ends_with_older.ensures.as_much refl))
