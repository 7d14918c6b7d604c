use Rattle.std.proofs.Common.{[], ◌∷◌, List, map, subst, sym, ℕ}
use Rattle.std.proofs.lemmas.Result.{err_from_is_err_and}
use Rattle.definitions.specs.Analyzers.{kept}
use Rattle.definitions.specs.Schema.{json_kind, text_kind}
use Rattle.definitions.specs.Terms.{json_term, path_of_keys, type_code}
use Rattle.definitions.specs.Values.{Token}
use Rattle.document_indexer.specs.Contexts.{CanIndex, Context, Records, Refuses, context}
use Rattle.document_indexer.specs.Steps.{text_step}
use Rattle.document_indexer.proofs.PathTerms.{known_behind}
use Rattle.document_indexer.proofs.indexing_context.IndexingContext.index_path_text.Goals as goal

pub record_text-requires-clause-ready : goal.record_text-requires-clause-ready
record_text-requires-clause-ready g c = (let P : Context → Type 0 = λ x. CanIndex c.args.json_field.now.schema.now x c.args.json_field.now.field json_kind in (subst P (sym c.self.view_is) c.requires).0)

pub record_text-requires-clause-known : goal.record_text-requires-clause-known
record_text-requires-clause-known g c =
    let schema = c.args.json_field.now.schema.now in
    let field = c.args.json_field.now.field in
    let path = path_of_keys c.args.json_field.now.expand_dots (map (λ k. k.now) c.args.keys.now) in
    let was : Context = context c.self.inside.postings_writer c.self.inside.positions c.self.inside.doc in
    let P : Context → Type 0 = λ x. CanIndex schema x field json_kind in
    known_behind schema was field path (type_code text_kind) c.begin_leaf.new.term_buffer.items (subst P (sym c.self.view_is) c.requires) c.in_ok-begin_leaf.ensures

pub returns-clause-ok : goal.returns-clause-ok
returns-clause-ok g c =
    let schema = c.args.json_field.now.schema.now in
    let field = c.args.json_field.now.field in
    let ts = kept (g.A.Analyzer.analyze c.args.analyzer.now c.args.json_field.now.tokenizer.now c.args.text.now) in
    let path = path_of_keys c.args.json_field.now.expand_dots (map (λ k. k.now) c.args.keys.now) in
    let was : Context = context c.self.inside.postings_writer c.self.inside.positions c.self.inside.doc in
    let now : Context = context c.record_text.new.postings_writer c.record_text.new.positions c.self.inside.doc in
    let P : Context → Type 0 = λ x. Records schema x now (text_step (json_term field path (type_code text_kind)) 1 ts ∷ []) in
    let Q : List ℕ → Type 0 = λ bs. Records schema was now (text_step bs 1 ts ∷ []) in
    let R : List Token → Type 0 = λ xs. Records schema was now (text_step c.begin_leaf.new.term_buffer.items 1 (kept xs) ∷ []) in
    subst P c.self.view_is (subst Q c.in_ok-begin_leaf.ensures (subst R c.in_ok-tokens_into.ensures c.in_ok-record_text.ensures.ok))

pub returns-in_err-record_text-clause-err : goal.returns-in_err-record_text-clause-err
returns-in_err-record_text-clause-err g c =
    let schema = c.args.json_field.now.schema.now in
    let field = c.args.json_field.now.field in
    let ts = kept (g.A.Analyzer.analyze c.args.analyzer.now c.args.json_field.now.tokenizer.now c.args.text.now) in
    let path = path_of_keys c.args.json_field.now.expand_dots (map (λ k. k.now) c.args.keys.now) in
    let was : Context = context c.self.inside.postings_writer c.self.inside.positions c.self.inside.doc in
    let fault = c.in_err-record_text.field-0.0 in
    let P : Context → Type 0 = λ x. Refuses schema x (text_step (json_term field path (type_code text_kind)) 1 ts ∷ []) fault in
    let Q : List ℕ → Type 0 = λ bs. Refuses schema was (text_step bs 1 ts ∷ []) fault in
    let R : List Token → Type 0 = λ xs. Refuses schema was (text_step c.begin_leaf.new.term_buffer.items 1 (kept xs) ∷ []) fault in
    let e = err_from_is_err_and c.from_residual-in_err-record_text.result c.from_residual-in_err-record_text.ensures.1 in
    rw (e.1, e.2) (subst P c.self.view_is (subst Q c.in_ok-begin_leaf.ensures (subst R c.in_ok-tokens_into.ensures c.in_err-record_text.ensures.err)))
