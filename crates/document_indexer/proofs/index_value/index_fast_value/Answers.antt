use Rattle.std.proofs.Common.{[], ◌∙◌, ◌∷◌, IfErr, List, OnOk, ap, ap₂, option_map, subst, sym}
use Rattle.definitions.specs.Schema.{Kind}
use Rattle.definitions.specs.Terms.{term_bytes}
use Rattle.document_indexer.specs.Contexts.{Records, Refuses}
use Rattle.document_indexer.specs.Steps.{Step, term_step, term_steps}
use Rattle.document_indexer.proofs.index_value.index_fast_value.Goals as goal

pub returns-clause-ok : goal.returns-clause-ok
returns-clause-ok g c =
    let kind : Kind = g.T.FastValue.kind in
    let P : List Step → Type 0 = λ ss. OnOk c.index_term.result (Records c.args.schema.now c.args.indexer.now c.index_term.new.self ss) in
    subst P (ap₂ (λ k bs. term_step (term_bytes c.args.field k bs) ∷ []) c.to_type.ensures c.to_be_bytes.ensures ∙ sym (ap (λ o. term_steps (option_map (term_bytes c.args.field kind) o)) c.to_u64.ensures)) c.index_term.ensures.ok

pub returns-clause-err : goal.returns-clause-err
returns-clause-err g c =
    let kind : Kind = g.T.FastValue.kind in
    let P : List Step → Type 0 = λ ss. IfErr c.index_term.result (Refuses c.args.schema.now c.args.indexer.now ss) in
    subst P (ap₂ (λ k bs. term_step (term_bytes c.args.field k bs) ∷ []) c.to_type.ensures c.to_be_bytes.ensures ∙ sym (ap (λ o. term_steps (option_map (term_bytes c.args.field kind) o)) c.to_u64.ensures)) c.index_term.ensures.err
