use Rattle.std.proofs.Common.{ap, arith, length, length-take, max, sum, sym, take, ◌*◌, ◌+◌, ◌<◌, ◌≡◌, ◌≤◌, ◌∙◌}
use Rattle.definitions.proofs.Lists.{greatest-last as greatest_more}
use Rattle.definitions.specs.Scoring.{greatest_of}
use Rattle.postings_writer.specs.TermWriting.{Waiting}
use Rattle.postings_writer.proofs.WaitingBlocks.{counts_more, counts_of, sum_more}
use Rattle.postings_writer.proofs.unfilled_block.Block.append_doc.Goals as goal

pub invariant_of-self : goal.invariant_of-self
invariant_of-self c =
    let len = c.self.inside.len in
    let counts = counts_of (take len c.self.inside.counts_less_1) in
    let held : (len ≤ 128) × (c.self.inside.greatest_count ≡ greatest_of counts) × (c.self.inside.count_sum ≡ sum counts) × (c.self.inside.count_sum ≤ 4294967295 * len) = c.self.invariant in
    let few : len < 128 = omega (arith, c.requires.room, ap (λ (w : Waiting). length w.docs) c.self.view_is, length-take len c.self.inside.docs, c.self.told.0, held.0) in
    let more = counts_more c.self.inside.counts_less_1 len c.args.term_freq (omega (arith, few, c.self.told.1)) c.requires.some in (
      omega (arith, few),
      c.max-self-inside.ensures ∙ ap (λ n. max n c.args.term_freq) held.1 ∙ sym (greatest_more counts c.args.term_freq) ∙ ap greatest_of (sym more),
      ap (λ n. n + c.args.term_freq) held.2 ∙ sym (sum_more counts c.args.term_freq) ∙ ap sum (sym more),
      omega (arith, held.3, c.ranges.term_freq.fits),
    )
