-- Each turn appends a key, behind a byte 1 where others stand before it.
use Rattle.std.proofs.Common.{Bor, List, [], append_assoc, ◌++◌, ◌∷◌, ◌≡◌, ◌<◌, arith, length, ℕ}
use Rattle.terms.proofs.JsonPathSteps.{path-first_at, path-next_at}
use Rattle.terms.proofs.json_path.push_keys.Goals as goal
use Rattle.terms.proofs.json_path.push_keys.Goals.{then-i-gt0+in_ok-push, else-i-gt0}

abbrev text_of : Bor (List ℕ) → List ℕ
text_of key = key.now

-- what would stand past the keys
abbrev past : Bor (List ℕ)
past = record { ref_ptr = (0, 0); now = [] }

pub loop-i-preserved : goal.loop-i-preserved
loop-i-preserved c =
    let within : c.loop-i.i < length c.args.keys.now = omega arith in
    elim c.if-i-gt0.branch [
      | then-i-gt0+in_ok-push w ↦
          let pushed : c.if-i-gt0.bytes.items ≡ c.loop-i.bytes.items ++ (1 ∷ []) = cc (w.in_ok-push.ensures.items) in
          let next = path-next_at c.args.expand_dots text_of c.args.keys.now c.loop-i.i past within w.if-i-gt0.true in
          rw (next, c.in_ok-push_key.ensures, pushed, c.loop-i.invariant) (simp append_assoc)
      | else-i-gt0 w ↦
          let same : c.if-i-gt0.bytes.items ≡ c.loop-i.bytes.items = cc in
          let first = path-first_at c.args.expand_dots text_of c.args.keys.now c.loop-i.i past within w.if-i-gt0.false in
          rw (first, c.in_ok-push_key.ensures, same, c.loop-i.invariant) (simp append_assoc)
    ]
