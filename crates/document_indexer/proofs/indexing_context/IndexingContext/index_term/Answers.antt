use Rattle.std.proofs.Common.{[], ◌++◌, ◌∙◌, ◌∷◌, ◌≡◌, IfErr, List, OnOk, ap, rules, subst, ℕ}
use Rattle.definitions.proofs.TermsReadBack.{term-append}
use Rattle.definitions.specs.Terms.{term_bytes}
use Rattle.terms.specs.Kinds.{kind_of}
use Rattle.document_indexer.specs.Contexts.{Context, Records, Refuses, context}
use Rattle.document_indexer.specs.Steps.{term_step}
use Rattle.document_indexer.proofs.Recording.{term_recorded, term_refused}
use Rattle.document_indexer.proofs.indexing_context.IndexingContext.index_term.Goals as goal

pub returns-clause-ok : goal.returns-clause-ok
returns-clause-ok c =
    let was : Context = context c.self.inside.postings_writer c.self.inside.positions c.self.inside.doc in
    let now : Context = context c.subscribe.new.self c.self.inside.positions c.self.inside.doc in
    let buffer : c.push_term_header.new.bytes.items ≡ term_bytes c.args.field (kind_of c.args.kind) [] = search rules in
    let term : c.deref.result.now ≡ term_bytes c.args.field (kind_of c.args.kind) c.args.value.now = c.deref.ensures.value ∙ c.in_ok-extend_from_slice.ensures.items ∙ ap (λ bs. bs ++ c.args.value.now) buffer ∙ term-append c.args.field (kind_of c.args.kind) [] c.args.value.now in
    let P : Context → Type 0 = λ x. OnOk c.subscribe.result (Records c.args.schema.now x now (term_step (term_bytes c.args.field (kind_of c.args.kind) c.args.value.now) ∷ [])) in
    let Q : List ℕ → Type 0 = λ bs. OnOk c.subscribe.result (Records c.args.schema.now was now (term_step bs ∷ [])) in
    subst P c.self.view_is (subst Q term (term_recorded c.subscribe.result c.args.schema.now c.self.inside.postings_writer c.subscribe.new.self c.self.inside.positions c.self.inside.doc c.deref.result.now c.subscribe.ensures.ok c.subscribe.ensures.same))

pub returns-clause-err : goal.returns-clause-err
returns-clause-err c =
    let was : Context = context c.self.inside.postings_writer c.self.inside.positions c.self.inside.doc in
    let buffer : c.push_term_header.new.bytes.items ≡ term_bytes c.args.field (kind_of c.args.kind) [] = search rules in
    let term : c.deref.result.now ≡ term_bytes c.args.field (kind_of c.args.kind) c.args.value.now = c.deref.ensures.value ∙ c.in_ok-extend_from_slice.ensures.items ∙ ap (λ bs. bs ++ c.args.value.now) buffer ∙ term-append c.args.field (kind_of c.args.kind) [] c.args.value.now in
    let P : Context → Type 0 = λ x. IfErr c.subscribe.result (Refuses c.args.schema.now x (term_step (term_bytes c.args.field (kind_of c.args.kind) c.args.value.now) ∷ [])) in
    let Q : List ℕ → Type 0 = λ bs. IfErr c.subscribe.result (Refuses c.args.schema.now was (term_step bs ∷ [])) in
    subst P c.self.view_is (subst Q term (term_refused c.subscribe.result c.args.schema.now c.self.inside.postings_writer c.self.inside.positions c.self.inside.doc c.deref.result.now c.subscribe.ensures.err))
