use Rattle.std.proofs.Common.{[], ap, length, map, nat_lt, sym, ◌++◌, ◌∙◌, ◌∷◌}
use Rattle.definitions.specs.Refusing.{all_expansions, first_fault, own_tests, phrase_tests, term_tests}
use Rattle.definitions.specs.declared.fault.Fault.TheVariants as faults
use Rattle.query_trees.specs.Queries.{query_of}
use Rattle.query_checks.proofs.node_tests.check_own.Goals as goal

pub returns-in-Phrase : goal.returns-in-Phrase
returns-in-Phrase c =
    let schema = c.args.schema.now in
    c.check_phrase.ensures
    ∙ ap (λ terms. first_fault (term_tests schema (map (λ t. t.1) terms) ++ phrase_tests schema terms)) c.terms.ensures.value
    ∙ ap (λ q. first_fault (own_tests schema (query_of q))) (sym c.in-Phrase.is)

pub returns-in-PhrasePrefix : goal.returns-in-PhrasePrefix
returns-in-PhrasePrefix c =
    let schema = c.args.schema.now in
    c.check_phrase_prefix.ensures
    ∙ ap (λ terms. first_fault (term_tests schema (map (λ t. t.1) terms) ++ phrase_tests schema terms ++ ((nat_lt (length terms) 2, faults.NoWholeTerm) ∷ (nat_lt c.max_expansions.result all_expansions, faults.PartialExpansion) ∷ []))) c.terms-in-PhrasePrefix.ensures.value
    ∙ ap (λ limit. first_fault (term_tests schema (map (λ t. t.1) c.in-PhrasePrefix.query.0) ++ phrase_tests schema c.in-PhrasePrefix.query.0 ++ ((nat_lt (length c.in-PhrasePrefix.query.0) 2, faults.NoWholeTerm) ∷ (nat_lt limit all_expansions, faults.PartialExpansion) ∷ []))) c.max_expansions.ensures
    ∙ ap (λ q. first_fault (own_tests schema (query_of q))) (sym c.in-PhrasePrefix.is)
