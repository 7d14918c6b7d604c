use Rattle.std.proofs.Common.{[], ◌++◌, ◌∙◌, ◌∷◌, IfErr, List, OnOk, ap, ap₂, map, option_map, subst, sym, ℕ}
use Rattle.definitions.specs.Schema.{Kind}
use Rattle.definitions.specs.Terms.{json_term, path_of_keys, type_code}
use Rattle.document_indexer.specs.Contexts.{Records, Refuses}
use Rattle.document_indexer.specs.Steps.{Step, term_step, term_steps}
use Rattle.document_indexer.proofs.index_json.index_fast_value.Goals as goal

pub returns-clause-ok : goal.returns-clause-ok
returns-clause-ok g c =
    let kind : Kind = g.T.FastValue.kind in
    let leaf : List ℕ → List ℕ = json_term c.args.json_field.now.field (path_of_keys c.args.json_field.now.expand_dots (map (λ k. k.now) c.args.keys.now)) in
    let P : List Step → Type 0 = λ ss. OnOk c.index_leaf.result (Records c.args.json_field.now.schema.now c.args.indexer.now c.index_leaf.new.self ss) in
    subst P (ap₂ (λ k bs. term_step (leaf (type_code k ++ bs)) ∷ []) c.to_type.ensures c.to_be_bytes-bytes.ensures ∙ sym (ap (λ o. term_steps (option_map (λ payload. leaf (type_code kind ++ payload)) o)) c.to_u64.ensures)) c.index_leaf.ensures.ok

pub returns-clause-err : goal.returns-clause-err
returns-clause-err g c =
    let kind : Kind = g.T.FastValue.kind in
    let leaf : List ℕ → List ℕ = json_term c.args.json_field.now.field (path_of_keys c.args.json_field.now.expand_dots (map (λ k. k.now) c.args.keys.now)) in
    let P : List Step → Type 0 = λ ss. IfErr c.index_leaf.result (Refuses c.args.json_field.now.schema.now c.args.indexer.now ss) in
    subst P (ap₂ (λ k bs. term_step (leaf (type_code k ++ bs)) ∷ []) c.to_type.ensures c.to_be_bytes-bytes.ensures ∙ sym (ap (λ o. term_steps (option_map (λ payload. leaf (type_code kind ++ payload)) o)) c.to_u64.ensures)) c.index_leaf.ensures.err
