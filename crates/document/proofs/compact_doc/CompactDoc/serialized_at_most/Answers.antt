use Rattle.std.proofs.Common.{rules, ◌+◌, ◌<◌, ◌≤◌, ◌^◌, ◌≡◌, ◌∙◌, ap, arith, length}
use Rattle.definitions.specs.Stored.{stored_pairs}
use Rattle.document_values.specs.Held.{held_pairs}
use Rattle.layouts.specs.DocumentBytes.{document_bytes}
use Rattle.document.proofs.HeldPairs.{heap_count}
use Rattle.document.proofs.StoredLengths.{bytes_no_longer, heap_length}
use Rattle.document.proofs.compact_doc.CompactDoc.serialized_at_most.Goals as goal

pub returns-clause-bytes : goal.returns-clause-bytes
returns-clause-bytes c = ap (λ n. n + 10) (heap_length c.held.result.0.now c.held.result.1 c.held.ensures.heap ∙ ap (λ d. length (held_pairs d)) c.held.ensures.pairs)

pub returns-clause-most : goal.returns-clause-most
returns-clause-most c schema =
    let doc = c.args.self.now in
    let fits : c.held.result.1 < 2 ^ 64 = search rules in
    let count : c.held.result.1 ≡ length doc = heap_count c.held.result.0.now c.held.result.1 c.held.ensures.heap ∙ ap length c.held.ensures.pairs in
    let few : length doc < 2 ^ 64 = omega (arith, fits, count) in
    let same : length c.held.result.0.now ≡ length (held_pairs doc) = heap_length c.held.result.0.now c.held.result.1 c.held.ensures.heap ∙ ap (λ d. length (held_pairs d)) c.held.ensures.pairs in
    let most : length (document_bytes (stored_pairs schema doc)) ≤ length (held_pairs doc) + 10 = bytes_no_longer schema doc few in
    omega (arith, same, most)
