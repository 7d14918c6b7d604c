use Rattle.std.proofs.Common.{[], ◌∙◌, ◌∷◌, IfErr, List, OnOk, ap, subst, sym}
use Rattle.definitions.specs.Schema.{ip_addr_kind}
use Rattle.definitions.specs.Terms.{term_bytes}
use Rattle.document_values.specs.Shown.{value_of}
use Rattle.document_indexer.specs.Contexts.{Records, Refuses}
use Rattle.document_indexer.specs.Steps.{Step, plain_steps, term_step}
use Rattle.document_indexer.proofs.index_value.index_ip_addr.Goals as goal

pub returns-in-IpAddr-clause-ok : goal.returns-in-IpAddr-clause-ok
returns-in-IpAddr-clause-ok c =
    let P : List Step → Type 0 = λ ss. OnOk c.index_term.result (Records c.args.schema.now c.args.indexer.now c.index_term.new.self ss) in
    subst P (ap (λ bs. term_step (term_bytes c.args.field ip_addr_kind bs) ∷ []) c.to_be_bytes.ensures ∙ ap (λ v. plain_steps ip_addr_kind c.args.field (value_of v)) (sym c.in-IpAddr.is)) c.index_term.ensures.ok

pub returns-in-IpAddr-clause-err : goal.returns-in-IpAddr-clause-err
returns-in-IpAddr-clause-err c =
    let P : List Step → Type 0 = λ ss. IfErr c.index_term.result (Refuses c.args.schema.now c.args.indexer.now ss) in
    subst P (ap (λ bs. term_step (term_bytes c.args.field ip_addr_kind bs) ∷ []) c.to_be_bytes.ensures ∙ ap (λ v. plain_steps ip_addr_kind c.args.field (value_of v)) (sym c.in-IpAddr.is)) c.index_term.ensures.err
