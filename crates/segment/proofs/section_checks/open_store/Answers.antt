use Rattle.std.proofs.Common.{List, ap, arith, length, refl, subst, sum_by, sym, ◌<◌, ◌∙◌, ◌≡◌, ◌^◌, ℕ}
use Rattle.layouts.specs.Stores.{Block, store_bytes}
use Rattle.store.proofs.Opened.{store_once}
use Rattle.store.proofs.SlotLaws.{count_is}
use Rattle.segment.proofs.section_checks.open_store.Goals as goal

pub returns-then-num_docs-clause-err : goal.returns-then-num_docs-clause-err
returns-then-num_docs-clause-err c = λ other. (
  refl,
  λ blocks are is counted.
      let ours = c.in_ok-store.ensures.ok in
      let short : length (store_bytes blocks) < 2 ^ 64 = subst (λ (bs : List ℕ). length bs < 2 ^ 64) is c.requires in
      let same : blocks ≡ c.in_ok-store.store.blocks = store_once blocks c.in_ok-store.store.blocks are ours.0 (sym is ∙ ours.1) short in
      let count = c.num_docs.ensures.count in
      let sum = count_is c.in_ok-store.store.blocks in
      let theirs = ap (λ (bs : List Block). sum_by (λ (b : Block). b.count) bs) same in
      let differ = c.if-num_docs.true in
      absurd (omega (arith, count, sum, theirs, counted, differ)),
)

pub returns-clause-counted : goal.returns-clause-counted
returns-clause-counted c =
    let count = c.num_docs.ensures.count in
    let sum = count_is c.in_ok-store.store.blocks in
    let equal = c.if-num_docs.false in
    omega (arith, count, sum, equal)
