use Rattle.std.proofs.Common.{[], ◌++◌, ◌∙◌, ◌∷◌, ◌≡◌, IfErr, List, OnOk, ap, map, subst, sym, ℕ}
use Rattle.definitions.specs.Schema.{json_kind}
use Rattle.definitions.specs.Terms.{json_term, path_of_keys, type_code}
use Rattle.postings_writer.specs.Writers.{IsIndexedTerm}
use Rattle.terms.specs.Kinds.{kind_of}
use Rattle.document_indexer.specs.Contexts.{CanIndex, Context, Records, Refuses, context}
use Rattle.document_indexer.specs.Steps.{term_step}
use Rattle.document_indexer.proofs.PathTerms.{known_behind, leaf-append}
use Rattle.document_indexer.proofs.Recording.{term_recorded, term_refused}
use Rattle.document_indexer.proofs.indexing_context.IndexingContext.index_leaf.Goals as goal

pub subscribe-requires-clause-known : goal.subscribe-requires-clause-known
subscribe-requires-clause-known c =
    let schema = c.args.json_field.now.schema.now in
    let field = c.args.json_field.now.field in
    let path = path_of_keys c.args.json_field.now.expand_dots (map (λ k. k.now) c.args.keys.now) in
    let was : Context = context c.self.inside.postings_writer c.self.inside.positions c.self.inside.doc in
    let P : Context → Type 0 = λ x. CanIndex schema x field json_kind in
    let known = known_behind schema was field path (type_code (kind_of c.args.kind)) c.begin_leaf.new.term_buffer.items (subst P (sym c.self.view_is) c.requires) c.in_ok-begin_leaf.ensures c.args.value.now in
    subst (IsIndexedTerm schema) (sym (c.deref.ensures.value ∙ c.in_ok-extend_from_slice.ensures.items)) known

pub returns-clause-ok : goal.returns-clause-ok
returns-clause-ok c =
    let schema = c.args.json_field.now.schema.now in
    let field = c.args.json_field.now.field in
    let path = path_of_keys c.args.json_field.now.expand_dots (map (λ k. k.now) c.args.keys.now) in
    let code = type_code (kind_of c.args.kind) in
    let was : Context = context c.self.inside.postings_writer c.self.inside.positions c.self.inside.doc in
    let now : Context = context c.subscribe.new.self c.self.inside.positions c.self.inside.doc in
    let term : c.deref.result.now ≡ json_term field path (code ++ c.args.value.now) = c.deref.ensures.value ∙ c.in_ok-extend_from_slice.ensures.items ∙ ap (λ bs. bs ++ c.args.value.now) c.in_ok-begin_leaf.ensures ∙ leaf-append field path code c.args.value.now in
    let P : Context → Type 0 = λ x. OnOk c.subscribe.result (Records schema x now (term_step (json_term field path (code ++ c.args.value.now)) ∷ [])) in
    let Q : List ℕ → Type 0 = λ bs. OnOk c.subscribe.result (Records schema was now (term_step bs ∷ [])) in
    subst P c.self.view_is (subst Q term (term_recorded c.subscribe.result schema c.self.inside.postings_writer c.subscribe.new.self c.self.inside.positions c.self.inside.doc c.deref.result.now c.subscribe.ensures.ok c.subscribe.ensures.same))

pub returns-clause-err : goal.returns-clause-err
returns-clause-err c =
    let schema = c.args.json_field.now.schema.now in
    let field = c.args.json_field.now.field in
    let path = path_of_keys c.args.json_field.now.expand_dots (map (λ k. k.now) c.args.keys.now) in
    let code = type_code (kind_of c.args.kind) in
    let was : Context = context c.self.inside.postings_writer c.self.inside.positions c.self.inside.doc in
    let term : c.deref.result.now ≡ json_term field path (code ++ c.args.value.now) = c.deref.ensures.value ∙ c.in_ok-extend_from_slice.ensures.items ∙ ap (λ bs. bs ++ c.args.value.now) c.in_ok-begin_leaf.ensures ∙ leaf-append field path code c.args.value.now in
    let P : Context → Type 0 = λ x. IfErr c.subscribe.result (Refuses schema x (term_step (json_term field path (code ++ c.args.value.now)) ∷ [])) in
    let Q : List ℕ → Type 0 = λ bs. IfErr c.subscribe.result (Refuses schema was (term_step bs ∷ [])) in
    subst P c.self.view_is (subst Q term (term_refused c.subscribe.result schema c.self.inside.postings_writer c.self.inside.positions c.self.inside.doc c.deref.result.now c.subscribe.ensures.err))
