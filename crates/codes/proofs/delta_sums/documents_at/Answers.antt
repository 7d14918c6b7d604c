-- One document more, and the next may come after it.
use Rattle.std.proofs.Common.{◌*◌, ◌+◌, ◌≡◌, ◌∙◌, ◌%◌, ◌^◌, ap, arith, suc, ℕ, sym}
use Rattle.std.proofs.lemmas.List.{length-set}
use Rattle.common.proofs.DigitNumbers.{set_more}
use Rattle.codes.proofs.StrictDeltaSums.{document_next, least_next}
use Rattle.codes.specs.BlockFields.{document, field, next_after}
use lib.Lanes.{number_l}
use Rattle.codes.proofs.delta_sums.documents_at.Goals as goal

pub loop-index-preserved : goal.loop-index-preserved
loop-index-preserved g c =
    let delta : ℕ → ℕ = field g.row.W (number_l 256 c.args.bytes.now) in
    let at = 8 * c.loop-group.group + c.loop-index.index in
    let next : 8 * c.loop-group.group + (c.loop-index.index + 1) ≡ suc at = omega arith in
    let here : (c.loop-index.least + c.field_at.result) % 2 ^ 32 ≡ document c.args.next delta at = ap (λ d. (c.loop-index.least + d) % 2 ^ 32) c.field_at.ensures ∙ document_next c.loop-index.least (next_after c.args.next delta at) (delta at) c.loop-index.invariant.least in
    record {
      told = λ i within. set_more (document c.args.next delta) c.loop-index.out at ((c.loop-index.least + c.field_at.result) % 2 ^ 32) (omega (arith, c.loop-index.invariant.long)) c.loop-index.invariant.told here i (omega arith);
      long = length-set c.loop-index.out at ((c.loop-index.least + c.field_at.result) % 2 ^ 32) ∙ c.loop-index.invariant.long;
      least = ap (λ d. ((c.loop-index.least + d) % 2 ^ 32 + 1) % 2 ^ 32) c.field_at.ensures ∙ least_next c.loop-index.least (next_after c.args.next delta at) (delta at) c.loop-index.invariant.least ∙ ap (λ k. next_after c.args.next delta k % 2 ^ 32) (sym next);
    }
