-- Each weight that is noted is one more of those that are; one that is refused is among no weights of settings.
use Rattle.std.proofs.Common.{drop, refl, suc, take, ◌≡◌, ◌&&◌, ◌∷◌, ◌∙◌, false, List, ℕ, [], subst, sym, nat_le, ◌<◌, length, arith, get_or}
use Rattle.std.specs.List.{list_all}
use Rattle.std.proofs.lemmas.Bool.{and_from}
use Rattle.std.proofs.lemmas.List.Folds.{list_all-append}
use Rattle.std.proofs.lemmas.Result.{err_from_is_err_and}
use Rattle.definitions.specs.Scoring.{max_score}
use Rattle.definitions.specs.Settings.{weighs_once}
use Rattle.settings.specs.Weights.{WeighsTerms}
use Rattle.settings.proofs.WeightsByTerms.{between, not_weights, one_more, weighs-push, weighs_once-push}
use Rattle.settings.proofs.settings.weights_by_term.Goals as goal

pub returns-in_err-note_weight-clause-err : goal.returns-in_err-note_weight-clause-err
returns-in_err-note_weight-clause-err c =
    let p = err_from_is_err_and c.from_residual.result c.from_residual.ensures.1 in
    let ws : List (List ℕ × ℕ) = c.args.weights.now in
    let i = c.loop-term.term-index in
    let w : List ℕ × ℕ = c.loop-term-item.result in
    let within : i < length ws = omega arith in
    let here : w ≡ get_or ws i w = c.loop-term-item.is in
    let whole = between ws i w within here in
    let rest = drop (suc i) ws in
    rw (p.1, p.2) (λ other. let refused = c.in_err-note_weight.ensures.err other in (refused.0, subst (λ (vs : List (List ℕ × ℕ)). (list_all (λ v. nat_le v.1 max_score) vs && weighs_once vs) ≡ false) (sym whole) (not_weights c.loop-term.weight_by_term (take i ws) w rest c.loop-term.invariant.by_term refused.1)))

pub loop-term-preserved : goal.loop-term-preserved
loop-term-preserved c =
    let ws : List (List ℕ × ℕ) = c.args.weights.now in
    let i = c.loop-term.term-index in
    let w : List ℕ × ℕ = c.loop-term-item.result in
    let within : i < length ws = omega arith in
    let here : w ≡ get_or ws i w = c.loop-term-item.is in
    let more = one_more ws i w within here in
    let before = c.loop-term.invariant in
    let noted = c.in_ok-note_weight.ensures in
    record {
      by_term = subst (λ vs. WeighsTerms c.note_weight.new.weight_by_term vs) (sym more) (weighs-push c.loop-term.weight_by_term c.note_weight.new.weight_by_term (take i ws) w before.by_term noted.first noted.noted);
      fit = rw more (list_all-append (λ v. nat_le v.1 max_score) (take i ws) (w ∷ []) ∙ and_from _ _ before.fit (and_from _ _ noted.fits refl));
      once = rw more (weighs_once-push c.loop-term.weight_by_term (take i ws) w before.by_term before.once noted.first);
    }
