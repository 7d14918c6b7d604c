use Rattle.std.proofs.Common.{ap, arith, rules, subst, sym, ◌*◌, ◌-◌, ◌<◌, ◌≤◌, ◌≡◌, ◌∙◌, ℕ}
use Rattle.std.proofs.lemmas.Int.{to_z-of_z}
use mir.Syntax.{w64}
use mir.Val.{SFits, of_z, to_z}
use Rattle.definitions.specs.Scoring.{max_score, natural}
use Rattle.docsets.proofs.EntryLaws.{greatest_all as ones-greatest}
use Rattle.docsets.specs.ScoredEntries.{all_from, greatest_score}
use Rattle.scorer_cases.proofs.GreatestOnes.{boosted-fits}
use Rattle.scorer_cases.proofs.changed_scores.boosted.Goals as goal

pub new-scorer-requires-clause-fits : goal.new-scorer-requires-clause-fits
new-scorer-requires-clause-fits c =
    let n = c.in_ok-small_number.field-0 in
    let fits : SFits w64 c.from-boost.result = search rules in
    let few : n < 4294967296 = search rules in
    let small : n ≤ max_score = omega (arith, few) in
    let all = c.new.result in
    let greatest = greatest_score (all_from all.doc (all.max_doc - all.doc)) in
    let is : natural (to_z w64 (of_z w64 c.from-boost.result)) ≡ n = ap natural (to_z-of_z w64 c.from-boost.result fits ∙ c.from-boost.ensures) in
    subst (λ (b : ℕ). b * greatest ≤ max_score) (sym is) (boosted-fits n greatest max_score (ones-greatest all.doc (all.max_doc - all.doc)) small)
