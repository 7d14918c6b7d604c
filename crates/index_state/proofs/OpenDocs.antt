-- The documents of the segment that isn't full.
use Rattle.std.proofs.Common.{◌*◌, ◌+◌, ◌/◌, ◌∙◌, ◌≡◌, List, ap, arith, drop, length, length-append, sym, ℕ}
use Rattle.std.proofs.Math.Seq.{drop-append_seam}
use Rattle.std.proofs.lemmas.Nat.{div-mul-add}
use Rattle.definitions.proofs.Joins.{joined}
use Rattle.definitions.specs.State.{Pending}
use Rattle.definitions.specs.Values.{Document}
use Rattle.segment_definitions.specs.Waiting.{Numbered, Waits, docs_of}
use Rattle.index_state.proofs.Waitings.{length-full}
use Rattle.index_state.specs.Pending.{open_docs}

-- they are the last of what waits
pub open_last : (n : ℕ) (pending : List Pending) (full : List (List Document)) (last : List Document) (dels : List Numbered) → Waits n pending full last dels → open_docs n pending ≡ last
open_last n pending full last dels w =
    let long = length-full n full w.long in
    let parts : length (docs_of pending) ≡ length (joined full) + length last = ap length w.docs ∙ length-append (joined full) last in
    let whole : length (docs_of pending) ≡ length full * n + length last = omega (arith, parts, long) in
    let segments : length (docs_of pending) / n ≡ length full = ap (λ k. k / n) whole ∙ div-mul-add (length full) n (length last) w.short in
    let before : n * (length (docs_of pending) / n) ≡ length (joined full) = ap (λ k. n * k) segments ∙ sym long in
    ap (λ k. drop k (docs_of pending)) before ∙ (ap (λ docs. drop (length (joined full)) docs) w.docs ∙ drop-append_seam (joined full) last)
