use Rattle.std.proofs.Common.{[], ◌++◌, ◌+◌, ◌<◌, ◌≡◌, ◌≤◌, ◌∙◌, ◌∷◌, ap, arith, length, List, Some, slice_get, subst, sym, ℕ}
use Rattle.std.proofs.lemmas.Option.{slice_get-get_or, slice_get_within}
use Rattle.std.proofs.lemmas.Result.{err_from_is_err_and}
use Rattle.definitions.specs.Terms.{term_bytes}
use Rattle.postings_writer.specs.Occurrences.{places_of}
use Rattle.postings_writer.specs.Recorders.{IsCountRefusal}
use Rattle.postings_writer.specs.Writers.{IsIndexedTerm, Stands, Writer}
use Rattle.postings_writer.proofs.Standing.{known_has, known_key, known_more}
use Rattle.postings_writer.proofs.postings_writer.PostingsWriter.record.Goals as goal

pub returns-in_err-record-clause-err : goal.returns-in_err-record-clause-err
returns-in_err-record-clause-err c t os known of_field of_key stands =
    let w : Writer = record { fields = c.self.inside.fields.items; num_docs = c.self.inside.num_docs } in
    let view : w ≡ c.args.self.now = c.self.view_is in
    let field = c.args.field in
    let key = c.args.key.now in
    let e = c.get_field_entry-entry.result.now in
    let old = c.index_mut.result.now in
    let schema = c.args.schema.now in
    let P : Writer → Type 0 = λ x. Stands schema x os in
    let there : Stands schema w os = subst P (sym view) stands in
    let k : IsIndexedTerm schema t = known in
    let at : slice_get schema field ≡ Some e = ap (slice_get schema) (sym c.from_field_id.ensures) ∙ c.get_field_entry-entry.ensures in
    let inside : field < length w.fields = (let within = slice_get_within schema field e at in let long = there.fields_are in omega arith) in
    let here : slice_get w.fields field ≡ Some old = slice_get-get_or w.fields field old inside ∙ ap Some (sym c.index_mut.ensures.value) in
    let has = known_has schema w os t c.args.doc c.args.position k e field key old there of_field at here in
    let p = err_from_is_err_and c.from_residual.result c.from_residual.ensures.1 in
    let R : List (ℕ × ℕ) → Type 0 = λ ps. IsCountRefusal c.in_err-record.field-0.0 (ps ++ (c.args.doc, c.args.position) ∷ []) in
    rw (p.1, p.2) (subst R (known_key schema w os t c.args.doc c.args.position k e field key old of_key) (c.in_err-record.ensures.err (λ q. places_of (term_bytes k.field k.entry.kind q) os) has))

pub returns-clause-ok : goal.returns-clause-ok
returns-clause-ok c t os known of_field of_key stands =
    let w : Writer = record { fields = c.self.inside.fields.items; num_docs = c.self.inside.num_docs } in
    let view : w ≡ c.args.self.now = c.self.view_is in
    let field = c.args.field in
    let key = c.args.key.now in
    let e = c.get_field_entry-entry.result.now in
    let old = c.index_mut.result.now in
    let schema = c.args.schema.now in
    let P : Writer → Type 0 = λ x. Stands schema x os in
    let there : Stands schema w os = subst P (sym view) stands in
    let k : IsIndexedTerm schema t = known in
    let at : slice_get schema field ≡ Some e = ap (slice_get schema) (sym c.from_field_id.ensures) ∙ c.get_field_entry-entry.ensures in
    let inside : field < length w.fields = (let within = slice_get_within schema field e at in let long = there.fields_are in omega arith) in
    let here : slice_get w.fields field ≡ Some old = slice_get-get_or w.fields field old inside ∙ ap Some (sym c.index_mut.ensures.value) in
    let has = known_has schema w os t c.args.doc c.args.position k e field key old there of_field at here in
    let next : w.num_docs ≤ c.args.doc + 1 = (let same = ap (λ (x : Writer). x.num_docs) view in let below = c.requires.next in omega arith) in
    known_more schema w os t c.args.doc c.args.position k e field key old c.record.new.self there of_field at of_key next c.requires.placed (c.in_ok-record.ensures.ok (λ q. places_of (term_bytes k.field k.entry.kind q) os) has)
