-- The bytes of the block, and then zeros.
use Rattle.std.proofs.Common.{List, drop, length, replicate, ◌≡◌, ◌++◌, ℕ, arith, subst, sym}
use Rattle.common.proofs.DigitNumbers.{AreDigits}
use Rattle.codes.proofs.BitWindows.{digits-append, digits-drop, digits-zeros}
use Rattle.codes.proofs.bit_unpacker.padded.Goals as goal

pub returns-clause-bytes : goal.returns-clause-bytes
returns-clause-bytes c =
    let front : AreDigits 256 c.args.block.now = λ i. omega (arith, c.type_inv.block i) in
    let after : c.copy_from_slice.new.self ≡ c.args.block.now = c.copy_from_slice.ensures.after in
    let P : List ℕ → Type 0 = λ xs. AreDigits 256 (xs ++ drop (length c.args.block.now) (replicate 520 0)) in
    subst P (sym after) (digits-append 256 c.args.block.now (drop (length c.args.block.now) (replicate 520 0)) front (digits-drop 256 (length c.args.block.now) (replicate 520 0) (digits-zeros 256 520 (omega arith))))
