use Rattle.std.proofs.Common.{[], ◌++◌, ◌+◌, ◌<◌, ◌^◌, ◌∙◌, ◌∷◌, List, ap, arith, subst, sym, ℕ}
use Rattle.postings_writer.specs.Occurrences.{by_document, last_count}
use Rattle.postings_writer.specs.OccurrenceBytes.{AreBytesOf, occurrences_in}
use Rattle.postings_writer.proofs.OccurrenceBytes.{kept_back, kept_many, kept_more}
use Rattle.postings_writer.proofs.position_recorder.TfAndPositionRecorder.record.Goals as goal

pub overflow_add-self : goal.overflow_add-self
overflow_add-self c =
    let r = c.self.inside in
    let many = kept_many (occurrences_in r.len 0 r.bytes.items) r.bytes.items r.len r.doc c.self.invariant.0 in
    omega arith

pub invariant_of-self-2 : goal.invariant_of-self-2
invariant_of-self-2 c =
    let r = c.self.inside in
    let new = c.put_two.new.bytes.items in
    let kept = kept_more (occurrences_in r.len 0 r.bytes.items) r.bytes.items new r.len r.doc c.args.doc c.args.position c.self.invariant.0 (omega arith) (omega arith) c.in_ok-put_two.ensures.ok in
    let back = kept_back _ new (r.len + 1) c.args.doc kept in
    let P : List (ℕ × ℕ) → Type 0 = λ ps. AreBytesOf ps new (r.len + 1) c.args.doc in
    let with : List (ℕ × ℕ) → ℕ = λ ps. last_count (by_document (ps ++ (c.args.doc, c.args.position) ∷ [])) in (
      subst P (sym back) kept,
      c.in_ok-count.ensures.ok c.args.position ∙ ap with (sym c.self.view_is) ∙ ap (λ ps. last_count (by_document ps)) (sym back),
    )

pub returns-clause-ok : goal.returns-clause-ok
returns-clause-ok c =
    let r = c.self.inside in
    let new = c.put_two.new.bytes.items in
    let kept = kept_more (occurrences_in r.len 0 r.bytes.items) r.bytes.items new r.len r.doc c.args.doc c.args.position c.self.invariant.0 (omega arith) (omega arith) c.in_ok-put_two.ensures.ok in
    kept_back _ new (r.len + 1) c.args.doc kept ∙ ap (λ ps. ps ++ (c.args.doc, c.args.position) ∷ []) c.self.view_is

pub returns-clause-within : goal.returns-clause-within
returns-clause-within c = subst (λ n. n < 2 ^ 32) (c.in_ok-count.ensures.ok c.args.position) c.in_ok-count.ensures.within
