use Rattle.std.proofs.Common.{[], ◌∷◌, ◌≡◌, IfErr, List, OnOk, rules, subst, sym, ℕ}
use Rattle.definitions.specs.Analyzers.{kept}
use Rattle.definitions.specs.Schema.{text_kind}
use Rattle.definitions.specs.Terms.{term_bytes}
use Rattle.definitions.specs.Values.{Token}
use Rattle.document_indexer.specs.Contexts.{CanIndex, Context, Records, Refuses, context}
use Rattle.document_indexer.specs.Steps.{text_step}
use Rattle.document_indexer.proofs.PathTerms.{known_token}
use Rattle.document_indexer.proofs.indexing_context.IndexingContext.index_text.Goals as goal

pub record_text-requires-clause-ready : goal.record_text-requires-clause-ready
record_text-requires-clause-ready g c = (let P : Context → Type 0 = λ x. CanIndex c.args.schema.now x c.args.field text_kind in (subst P (sym c.self.view_is) c.requires.can).0)

pub record_text-requires-clause-known : goal.record_text-requires-clause-known
record_text-requires-clause-known g c =
    let was : Context = context c.self.inside.postings_writer c.self.inside.positions c.self.inside.doc in
    let buffer : c.push_term_header.new.bytes.items ≡ term_bytes c.args.field text_kind [] = search rules in
    let P : Context → Type 0 = λ x. CanIndex c.args.schema.now x c.args.field text_kind in
    known_token c.args.schema.now was c.args.field c.push_term_header.new.bytes.items (subst P (sym c.self.view_is) c.requires.can) buffer

pub returns-clause-ok : goal.returns-clause-ok
returns-clause-ok g c =
    let ts = kept (g.A.Analyzer.analyze c.args.analyzer.now c.args.tokenizer.now c.args.text.now) in
    let was : Context = context c.self.inside.postings_writer c.self.inside.positions c.self.inside.doc in
    let now : Context = context c.record_text.new.postings_writer c.record_text.new.positions c.self.inside.doc in
    let buffer : c.push_term_header.new.bytes.items ≡ term_bytes c.args.field text_kind [] = search rules in
    let P : Context → Type 0 = λ x. OnOk c.record_text.result (Records c.args.schema.now x now (text_step (term_bytes c.args.field text_kind []) c.args.gap ts ∷ [])) in
    let Q : List ℕ → Type 0 = λ bs. OnOk c.record_text.result (Records c.args.schema.now was now (text_step bs c.args.gap ts ∷ [])) in
    let R : List Token → Type 0 = λ xs. OnOk c.record_text.result (Records c.args.schema.now was now (text_step c.push_term_header.new.bytes.items c.args.gap (kept xs) ∷ [])) in
    subst P c.self.view_is (subst Q buffer (subst R c.in_ok-tokens_into.ensures c.record_text.ensures.ok))

pub returns-clause-err : goal.returns-clause-err
returns-clause-err g c =
    let ts = kept (g.A.Analyzer.analyze c.args.analyzer.now c.args.tokenizer.now c.args.text.now) in
    let was : Context = context c.self.inside.postings_writer c.self.inside.positions c.self.inside.doc in
    let buffer : c.push_term_header.new.bytes.items ≡ term_bytes c.args.field text_kind [] = search rules in
    let P : Context → Type 0 = λ x. IfErr c.record_text.result (Refuses c.args.schema.now x (text_step (term_bytes c.args.field text_kind []) c.args.gap ts ∷ [])) in
    let Q : List ℕ → Type 0 = λ bs. IfErr c.record_text.result (Refuses c.args.schema.now was (text_step bs c.args.gap ts ∷ [])) in
    let R : List Token → Type 0 = λ xs. IfErr c.record_text.result (Refuses c.args.schema.now was (text_step c.push_term_header.new.bytes.items c.args.gap (kept xs) ∷ [])) in
    subst P c.self.view_is (subst Q buffer (subst R c.in_ok-tokens_into.ensures c.record_text.ensures.err))
