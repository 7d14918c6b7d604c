use Rattle.std.proofs.Common.{[], ◌+◌, ◌<◌, ◌∙◌, ◌∷◌, ◌≡◌, IfErr, List, OnOk, ap, arith, drop, length, map, subst, sym, take, ℕ}
use Rattle.std.proofs.lemmas.Result.{err_from_is_err_and}
use Rattle.definitions.specs.Values.{facet}
use Rattle.layouts.specs.DocumentReading.{steps_in}
use Rattle.document_indexer.specs.Contexts.{Context, Records, Refuses}
use Rattle.document_indexer.specs.Steps.{Step, facet_steps}
use Rattle.document_indexer.proofs.FacetSteps.{cuts, cuts_end, cuts_other, cuts_zero, facet_cuts, text_term}
use Rattle.document_indexer.proofs.Recording.{refused_first}
use Rattle.document_indexer.proofs.Seen.{Seen, last_recorded, last_refused, seen_more, seen_refused}
use Rattle.document_indexer.proofs.index_facet.index_prefixes.Goals as goal
use Rattle.document_indexer.proofs.index_facet.index_prefixes.Goals.{else-bytes-end-eq-FACET_SEP_BYTE, then-bytes-end-eq-FACET_SEP_BYTE+in_ok-index_term-2}

-- the steps by the bytes of the text
abbrev all_steps : ℕ → List ℕ → List Step
all_steps field bytes = text_term field [] ∷ map (text_term field) (cuts [] bytes)

-- those that are left from a byte on
abbrev left_steps : ℕ → List ℕ → ℕ → List Step
left_steps field bytes i = map (text_term field) (cuts (take i bytes) (drop i bytes))

same_steps : (field : ℕ) (bytes text : List ℕ) → bytes ≡ text → all_steps field bytes ≡ facet_steps field (facet (steps_in text))
same_steps field bytes text is = ap (all_steps field) is ∙ sym (facet_cuts field text)

pub returns-in_err-index_term-clause-err : goal.returns-in_err-index_term-clause-err
returns-in_err-index_term-clause-err c =
    let p = err_from_is_err_and c.from_residual.result c.from_residual.ensures.1 in
    let field = c.args.field in
    let bytes = c.as_bytes-bytes.result.now in
    let fault = c.in_err-index_term.field-0.0 in
    rw (p.1, p.2) (subst (λ ss. Refuses c.args.schema.now c.args.indexer.now ss fault) (same_steps field bytes c.args.text.now c.as_bytes-bytes.ensures.value) (refused_first c.args.schema.now c.args.indexer.now (text_term field [] ∷ []) (map (text_term field) (cuts [] bytes)) fault c.in_err-index_term.ensures.err))

pub returns-in_err-index_term-2-clause-err : goal.returns-in_err-index_term-2-clause-err
returns-in_err-index_term-2-clause-err c =
    let p = err_from_is_err_and c.from_residual-in_err-index_term-2.result c.from_residual-in_err-index_term-2.ensures.1 in
    let field = c.args.field in
    let bytes = c.as_bytes-bytes.result.now in
    let i = c.loop-end.end in
    let fault = c.in_err-index_term-2.field-0.0 in
    rw (p.1, p.2) (subst (λ ss. Refuses c.args.schema.now c.args.indexer.now ss fault) (same_steps field bytes c.args.text.now c.as_bytes-bytes.ensures.value) (seen_refused c.args.schema.now c.args.indexer.now c.loop-end.indexer (left_steps field bytes i) (text_term field (take i bytes) ∷ []) (left_steps field bytes (i + 1)) (all_steps field bytes) fault c.loop-end.invariant (cuts_zero field bytes i (omega (arith, c.loop-end-test.true)) c.if-bytes-end-eq-FACET_SEP_BYTE.true) c.in_err-index_term-2.ensures.err))

pub loop-end-preserved : goal.loop-end-preserved
loop-end-preserved c =
    let field = c.args.field in
    let bytes = c.as_bytes-bytes.result.now in
    let i = c.loop-end.end in
    let inside : i < length bytes = omega (arith, c.loop-end-test.true) in
    let P : Context → Type 0 = λ x. Seen c.args.schema.now c.args.indexer.now x (left_steps field bytes (i + 1)) (all_steps field bytes) in
    elim c.if-bytes-end-eq-FACET_SEP_BYTE.branch [
      | then-bytes-end-eq-FACET_SEP_BYTE+in_ok-index_term-2 w ↦
          subst P (sym w.indexer-is) (seen_more c.args.schema.now c.args.indexer.now c.loop-end.indexer w.index_term-then-bytes-end-eq-FACET_SEP_BYTE.new.self (left_steps field bytes i) (text_term field (take i bytes) ∷ []) (left_steps field bytes (i + 1)) (all_steps field bytes) c.loop-end.invariant (cuts_zero field bytes i inside w.if-bytes-end-eq-FACET_SEP_BYTE.true) w.in_ok-index_term-2.ensures.ok)
      | else-bytes-end-eq-FACET_SEP_BYTE w ↦
          subst P (sym w.indexer-is) (subst (λ ss. Seen c.args.schema.now c.args.indexer.now c.loop-end.indexer ss (all_steps field bytes)) (cuts_other field bytes i inside w.if-bytes-end-eq-FACET_SEP_BYTE.false) c.loop-end.invariant)
    ]

pub returns-clause-ok : goal.returns-clause-ok
returns-clause-ok c =
    let field = c.args.field in
    let bytes = c.as_bytes-bytes.result.now in
    let i = c.loop-end.end in
    subst (λ ss. OnOk c.index_term-2.result (Records c.args.schema.now c.args.indexer.now c.index_term-2.new.self ss)) (same_steps field bytes c.args.text.now c.as_bytes-bytes.ensures.value) (last_recorded c.index_term-2.result c.args.schema.now c.args.indexer.now c.loop-end.indexer c.index_term-2.new.self (left_steps field bytes i) (text_term field bytes ∷ []) (all_steps field bytes) c.loop-end.invariant (cuts_end field bytes i (omega (arith, c.loop-end-test.false))) c.index_term-2.ensures.ok)

pub returns-clause-err : goal.returns-clause-err
returns-clause-err c =
    let field = c.args.field in
    let bytes = c.as_bytes-bytes.result.now in
    let i = c.loop-end.end in
    subst (λ ss. IfErr c.index_term-2.result (Refuses c.args.schema.now c.args.indexer.now ss)) (same_steps field bytes c.args.text.now c.as_bytes-bytes.ensures.value) (last_refused c.index_term-2.result c.args.schema.now c.args.indexer.now c.loop-end.indexer (left_steps field bytes i) (text_term field bytes ∷ []) (all_steps field bytes) c.loop-end.invariant (cuts_end field bytes i (omega (arith, c.loop-end-test.false))) c.index_term-2.ensures.err)
