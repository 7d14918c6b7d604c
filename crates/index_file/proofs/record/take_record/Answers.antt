use Rattle.std.proofs.Common.{ap, ap₂, arith, drop, length, length-append, rules, sym, take, ◌++◌, ◌<◌, ◌^◌, ◌≡◌, ◌∙◌, List, ℕ}
use Rattle.std.proofs.lemmas.List.{length-take-le, take-append-drop}
use Rattle.definitions.specs.NumberCodes.{u64_bytes}
use Rattle.layouts.specs.RecordFiles.{sized_body}
use Rattle.index_file.proofs.record.take_record.Goals as goal

-- the next `n` bytes are the body
body_taken : (bytes rest body after : List ℕ) (n : ℕ) → n < length rest → n < 2 ^ 64 → bytes ≡ u64_bytes n ++ rest → body ≡ take n rest → after ≡ drop n rest
    → (length body < 2 ^ 64) × (bytes ≡ sized_body body ++ after) × (0 < length after)
body_taken bytes rest body after n few small is front back =
    let long : length body ≡ n = ap length front ∙ length-take-le n rest (omega arith) in
    let parts : rest ≡ body ++ after = sym (take-append-drop n rest) ∙ ap₂ (λ (x y : List ℕ). x ++ y) (sym front) (sym back) in
    (omega arith, is ∙ ap₂ (λ (m : ℕ) (l : List ℕ). u64_bytes m ++ l) (sym long) parts, omega (arith, ap length parts, length-append body after))

pub returns-clause-ok : goal.returns-clause-ok
returns-clause-ok c =
    let bytes = c.as_slice.result.now in
    let n = c.in_ok-len.len in
    let is = c.in_ok-len.ensures.ok in
    let whole : bytes ≡ drop 1 c.args.rest.now = c.as_slice.ensures ∙ c.advance.ensures in
    let behind : c.advance-2.new.self ≡ drop 8 bytes = c.advance-2.ensures ∙ ap (drop 8) (sym c.as_slice.ensures) in
    let found = body_taken bytes (drop 8 bytes) c.in_ok-split_to.field-0 c.split_to.new.self n is.1 (search rules) is.0 (c.in_ok-split_to.ensures.front ∙ ap (take n) behind) (c.in_ok-split_to.ensures.rest ∙ ap (drop n) behind) in
    (found.0, sym whole ∙ found.1, found.2)
