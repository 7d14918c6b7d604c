-- A value goes above the bits that wait, and four bytes are written where they are there.
use Rattle.std.proofs.Common.{◌*◌, ◌≤◌, ◌∙◌, ap, arith, length}
use Rattle.codes.proofs.BlockFilling.{all_packed, digits_as, digits_done, digits_packed, packs_as, value_packed, word_packed, words_few}
use Rattle.codes.proofs.bit_packer.pack.Goals as goal
use Rattle.codes.proofs.bit_packer.pack.Goals.{then-filled-ge32, else-filled-ge32}

pub loop-n-preserved : goal.loop-n-preserved
loop-n-preserved c =
    let taken = value_packed c.args.numbers.now _ c.args.width c.loop-n.n-index c.loop-n.waiting c.loop-n.filled c.loop-n.words c.loop-n-test.true c.requires.width c.loop-n.invariant.few (c.requires.holds c.loop-n.n-index) c.loop-n.invariant.packs in
    elim c.if-filled-ge32.branch [
      | then-filled-ge32 w ↦
          (let room : 4 * c.loop-n.words ≤ length c.loop-n.out = omega (arith, c.loop-n.invariant.long, words_few _ _ c.loop-n.waiting c.loop-n.filled c.loop-n.words c.args.width c.loop-n.n-index (omega (arith, c.requires.count, c.loop-n-test.true)) c.requires.width c.loop-n.invariant.packs) in
          record {
            packs = packs_as _ _ _ _ _ _ _ _ _ _ w.out-is w.waiting-is w.filled-is w.words-is (word_packed c.loop-n.out w.put_word.new.out _ _ _ _ _ room w.if-filled-ge32.true w.put_word.ensures taken);
            few = omega (arith, w.filled-is, c.requires.width, c.loop-n.invariant.few);
            digits = digits_as _ _ _ _ w.out-is w.words-is (digits_packed c.loop-n.out w.put_word.new.out c.loop-n.words _ w.put_word.ensures c.loop-n.invariant.digits);
            long = ap (λ o. length o) w.out-is ∙ w.put_word.array_long;
          })
      | else-filled-ge32 w ↦ record {
        packs = packs_as _ _ _ _ _ _ _ _ _ _ w.out-is w.waiting-is w.filled-is w.words-is taken;
        few = omega (arith, w.filled-is, w.if-filled-ge32.false);
        digits = digits_as _ _ _ _ w.out-is w.words-is c.loop-n.invariant.digits;
        long = ap (λ o. length o) w.out-is ∙ c.loop-n.invariant.long;
      }
    ]

pub returns-clause-number : goal.returns-clause-number
returns-clause-number c = all_packed c.args.numbers.now c.loop-n.out c.args.width c.loop-n.n-index c.loop-n.waiting c.loop-n.filled c.loop-n.words c.requires.count (omega (arith, c.requires.count)) c.loop-n.invariant.few c.loop-n.invariant.packs

pub returns-clause-bytes : goal.returns-clause-bytes
returns-clause-bytes c = digits_done _ _ c.args.width c.loop-n.n-index c.loop-n.waiting c.loop-n.filled c.loop-n.words c.loop-n.out (omega (arith, c.requires.count)) c.loop-n.invariant.few c.loop-n.invariant.packs c.loop-n.invariant.digits
