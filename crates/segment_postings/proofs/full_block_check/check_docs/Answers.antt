use Rattle.std.proofs.Common.{List, arith, get_or, length, refl, rules, subst, sym, take, ◌*◌, ◌<◌, ◌∙◌, ◌≡◌, ◌≢◌, ◌≤◌, ◌^◌, ℕ}
use Rattle.std.proofs.lemmas.Result.{err_from_is_err_and}
use Rattle.std.specs.List.{AllByRecursion}
use Rattle.segment_postings.proofs.BlockChecks.{decoded_docs, doc_block, doc_block_sorted, kept_all}
use Rattle.segment_postings.specs.Blocks.{IsDocBlock, entry_of}
use Rattle.codes.specs.UnpackedBlocks.{listed}
use Rattle.layouts.specs.Deltas.{next_of}
use Rattle.layouts.specs.PackedBlocks.{IsSortedBlock}
use Rattle.segment_postings.proofs.full_block_check.check_docs.Goals.{After-output_array-docs}
use Rattle.segment_postings.proofs.full_block_check.check_docs.Goals as goal

sorted : (c : After-output_array-docs) → IsSortedBlock c.args.before c.args.entry.doc_width c.output_array-docs.result.now (take (16 * c.args.entry.doc_width) c.args.bytes.now)
sorted c = subst (λ xs. IsSortedBlock c.args.before c.args.entry.doc_width xs (take (16 * c.args.entry.doc_width) c.args.bytes.now)) (sym c.output_array-docs.ensures) c.in_ok-checked_block_sorted.ensures.ok.1

counted : (c : After-output_array-docs) → length c.output_array-docs.result.now ≡ 128
counted c = subst (λ xs. length xs ≡ 128) (sym c.output_array-docs.ensures) c.in_ok-checked_block_sorted.ensures.count

-- no other documents are in the block
held : (c : After-output_array-docs) (docs : List ℕ) → IsDocBlock (listed c.args.fieldnorm_reader.now) c.args.num_docs (next_of c.args.before) (entry_of c.args.entry) docs c.args.bytes.now → IsDocBlock (listed c.args.fieldnorm_reader.now) c.args.num_docs (next_of c.args.before) (entry_of c.args.entry) c.output_array-docs.result.now c.args.bytes.now
held c docs b = decoded_docs (listed c.args.fieldnorm_reader.now) c.args.num_docs c.args.before (entry_of c.args.entry) c.output_array-docs.result.now docs c.args.bytes.now (let few : c.args.num_docs ≤ 2 ^ 32 = omega arith in few) c.requires.long (sorted c) b

pub returns-in_err-checked_block_sorted-clause-err : goal.returns-in_err-checked_block_sorted-clause-err
returns-in_err-checked_block_sorted-clause-err c =
    let p = err_from_is_err_and c.from_residual.result c.from_residual.ensures.1 in
    let refused = c.in_err-checked_block_sorted.ensures.err in
    rw (p.1, p.2) (refused.0, λ docs b. refused.1 docs (doc_block_sorted (listed c.args.fieldnorm_reader.now) c.args.num_docs c.args.before (entry_of c.args.entry) docs c.args.bytes.now (let few : c.args.num_docs ≤ 2 ^ 32 = omega arith in few) c.requires.long b))

pub returns-then-docs-entry-clause-err : goal.returns-then-docs-entry-clause-err
returns-then-docs-entry-clause-err c =
    let here = (goal.at.returns-then-docs-entry-clause-err c).After-output_array-docs in
    let other : get_or c.output_array-docs.result.now 127 0 ≢ c.args.entry.last_doc = search rules in
    (refl, λ docs b. other (sym (held here docs b).last))

pub returns-then-not-are_below-clause-err : goal.returns-then-not-are_below-clause-err
returns-then-not-are_below-clause-err c =
    let here = (goal.at.returns-then-not-are_below-clause-err c).After-output_array-docs in
    let other : AllByRecursion (λ doc. doc < c.args.num_docs) c.output_array-docs.result.now → ⊥ = search rules in
    (refl, λ docs b. other (held here docs b).docs_are.within)

pub least_id-requires-clause-kept : goal.least_id-requires-clause-kept
least_id-requires-clause-kept c = (let within : AllByRecursion (λ doc. doc < c.args.num_docs) c.output_array-docs.result.now = search rules in kept_all c.args.fieldnorm_reader.now c.args.num_docs _ c.requires.kept within)

pub returns-then-least_id-entry-clause-err : goal.returns-then-least_id-entry-clause-err
returns-then-least_id-entry-clause-err c =
    let here = (goal.at.returns-then-least_id-entry-clause-err c).After-output_array-docs in
    let other = c.if-least_id-entry.true in
    (refl, λ docs b. (let same : c.least_id.result ≡ c.args.entry.least_id = c.least_id.ensures ∙ sym (held here docs b).least in absurd (omega (arith, same, other))))

pub returns-clause-ok : goal.returns-clause-ok
returns-clause-ok c =
    let here = (goal.at.returns-clause-ok c).After-output_array-docs in
    let within : AllByRecursion (λ doc. doc < c.args.num_docs) c.output_array-docs.result.now = search rules in
    let last : get_or c.output_array-docs.result.now 127 0 ≡ c.args.entry.last_doc = search rules in
    let compared = c.if-least_id-entry.false in
    let least : c.least_id.result ≡ c.args.entry.least_id = omega (arith, compared) in
    (c.output_array-docs.result.now, doc_block (listed c.args.fieldnorm_reader.now) c.args.num_docs c.args.before (entry_of c.args.entry) c.output_array-docs.result.now c.args.bytes.now (λ i. omega (arith, c.type_inv.bytes i)) c.requires.long (sorted here) (counted here) last within (sym c.least_id.ensures ∙ least))
