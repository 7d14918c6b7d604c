-- What is noted for a term, or else the default, is the term's weight.
use Rattle.std.proofs.Common.{◌∙◌, ◌≡◌, ◌≤◌, ap, subst, sym, true, unwrap_or, ℕ}
use Rattle.definitions.specs.Scoring.{max_score}
use Rattle.definitions.specs.Settings.{Settings, is_settings, weight_of}
use Rattle.settings.specs.Weights.{get_by_bytes}
use Rattle.settings.proofs.WeightsByTerms.{noted_or_default, weight_within}
use Rattle.settings.proofs.settings.Settings.weight_of.Goals as goal

pub returns : goal.returns
returns c =
    let term = c.args.term.now in
    let map = c.self.inside.weight_by_term in
    let found = c.copied.ensures ∙ c.get.ensures.value ∙ ap (get_by_bytes map) c.serialized_term.ensures in
    let noted = noted_or_default map _ term c.self.invariant in
    let own : c.unwrap_or.result ≡ weight_of c.args.self.now term = c.unwrap_or.ensures ∙ ap (λ o. unwrap_or o c.self.inside.default_weight) found ∙ noted ∙ ap (λ (s : Settings). weight_of s term) c.self.view_is in
    let valid : is_settings c.args.self.now ≡ true = subst (λ (s : Settings). is_settings s ≡ true) c.self.view_is c.self.invariant.valid in
    record { value = own; within = subst (λ (n : ℕ). n ≤ max_score) (sym own) (weight_within c.args.self.now term valid) }
