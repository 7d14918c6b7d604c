use Rattle.std.proofs.Common.{[], ◌%◌, ◌++◌, ◌/◌, ◌≡◌, ◌∷◌, arith, refl, rules}
use Rattle.definitions.specs.NumberCodes.{vint_bytes}
use Rattle.common.proofs.VintDigits.{put_digit, put_last}
use Rattle.postings_writer.proofs.position_recorder.put_short.Goals as goal

pub returns-then-number-lt128-clause-items : goal.returns-then-number-lt128-clause-items
returns-then-number-lt128-clause-items c = put_last c.args.bytes.now.items _ _ c.args.number _ refl (omega arith) (omega arith) c.push_reserved.ensures.items

pub returns-then-high-lt128-clause-items : goal.returns-then-high-lt128-clause-items
returns-then-high-lt128-clause-items c =
    let n = c.args.number in
    let whole = c.args.bytes.now.items ++ vint_bytes n in
    let pushed : c.push_reserved-2.new.self.items ≡ c.args.bytes.now.items ++ (n % 128) ∷ [] = search rules in
    let left = put_digit c.args.bytes.now.items c.push_reserved-2.new.self.items whole n (n % 128) refl (omega arith) refl pushed in
    put_last _ _ whole (n / 128) _ left (omega arith) (omega arith) c.push_reserved-then-high-lt128.ensures.items

pub returns-clause-items : goal.returns-clause-items
returns-clause-items c =
    let n = c.args.number in
    let whole = c.args.bytes.now.items ++ vint_bytes n in
    let first : c.push_reserved-2.new.self.items ≡ c.args.bytes.now.items ++ (n % 128) ∷ [] = search rules in
    let second : c.push_reserved-3.new.self.items ≡ c.push_reserved-2.new.self.items ++ (n / 128 % 128) ∷ [] = search rules in
    let left = put_digit c.args.bytes.now.items c.push_reserved-2.new.self.items whole n (n % 128) refl (omega arith) refl first in
    let rest = put_digit c.push_reserved-2.new.self.items c.push_reserved-3.new.self.items whole (n / 128) (n / 128 % 128) left (omega arith) refl second in
    put_last _ _ whole (n / 128 / 128) _ rest (omega arith) (omega arith) c.push_reserved-4.ensures.items
