use Rattle.std.proofs.Common.{List, ap, arith, drop, inl, inr, length, subst, sym, take, ◌++◌, ◌∙◌, ◌≡◌, ◌≤◌, ℕ}
use Rattle.std.proofs.Math.Logic.{∥∥₁_map}
use Rattle.std.proofs.lemmas.Bool.{cases_lt}
use Rattle.std.proofs.lemmas.List.{take_all}
use Rattle.std.proofs.lemmas.Result.{err_from_is_err_and}
use Rattle.segment_definitions.specs.ListBodies.{fresh, part_bytes}
use Rattle.segment_definitions.specs.Segments.{IsSegmentOf}
use Rattle.index_state.proofs.PendingDocs.{close_err, close_passes, want_known}
use Rattle.index_state.proofs.new_segments.put_open.Goals as goal

-- what is taken whole from bytes is no longer than these
taken_within : (n : ℕ) (bytes front : List ℕ) → take n bytes ≡ front → n ≡ length front → n ≤ length bytes
taken_within n bytes front taken count = elim (cases_lt (length bytes) n) [
  | inl less ↦ (let all = take_all n bytes (omega (arith, less)) in let same = ap length (sym all ∙ taken) in omega (arith, same, count))
  | inr within ↦ within
]

pub end_fresh-body-requires-clause-room : goal.end_fresh-body-requires-clause-room
end_fresh-body-requires-clause-room c = (let room = c.in_ok-prefix.ensures.room in let len = c.len-start.ensures ∙ c.in_ok-prefix.prefix.ok.0 in omega (arith, room, len))

pub end_fresh-body-requires-clause-within : goal.end_fresh-body-requires-clause-within
end_fresh-body-requires-clause-within c =
    let front = c.in_ok-frame.ensures.front in
    let len = c.len-start.ensures ∙ c.in_ok-prefix.prefix.ok.0 in
    taken_within c.len-start.result c.in_ok-frame.frame.items c.in_ok-prefix.prefix.items (ap (λ n. take n c.in_ok-frame.frame.items) len ∙ front) len

pub returns-in_err-frame-clause-err : goal.returns-in_err-frame-clause-err
returns-in_err-frame-clause-err c =
    let fault = c.in_err-frame.field-0.0 in
    let p = err_from_is_err_and c.from_residual-in_err-frame.result c.from_residual-in_err-frame.ensures.1 in
    rw (p.1, p.2) (want_known fault (∥∥₁_map c.requires.written (λ w. close_err c.args.schema.now w.0 w.2 fault (c.in_err-frame.ensures.err w.0 w.1 w.2 w.3))))

pub returns-in_err-frame-clause-limit : goal.returns-in_err-frame-clause-limit
returns-in_err-frame-clause-limit c analyze block_size docs written =
    let fault = c.in_err-frame.field-0.0 in
    let p = err_from_is_err_and c.from_residual-in_err-frame.result c.from_residual-in_err-frame.ensures.1 in
    rw (p.1, p.2) (close_passes c.args.schema.now analyze docs fault (c.in_err-frame.ensures.err analyze block_size docs written))

pub returns-clause-put : goal.returns-clause-put
returns-clause-put c =
    let bytes = c.in_ok-frame.frame.items in
    let started : take c.len-start.result bytes ≡ c.in_ok-prefix.prefix.items = ap (λ n. take n bytes) (c.len-start.ensures ∙ c.in_ok-prefix.prefix.ok.0) ∙ c.in_ok-frame.ensures.front in
    c.end_fresh-body.ensures.put c.args.body (ap (λ (l : List ℕ). drop 8 l) started ∙ c.in_ok-prefix.ensures.begun)
    ∙ ap (λ s. c.args.body ++ part_bytes (fresh s)) (sym c.end_fresh-body.ensures.place.bytes_are)

pub returns-clause-within : goal.returns-clause-within
returns-clause-within c = (c.end_fresh-body.ensures.place.forward, c.end_fresh-body.ensures.place.within)

pub returns-clause-ok : goal.returns-clause-ok
returns-clause-ok c analyze block_size docs written =
    let bytes = c.in_ok-frame.frame.items in
    let schema = c.args.schema.now in
    let from = ap (λ n. drop n bytes) (c.len-start.ensures ∙ c.in_ok-prefix.prefix.ok.0) in
    (subst (IsSegmentOf schema analyze docs) (sym from ∙ sym c.end_fresh-body.ensures.place.bytes_are) (c.in_ok-frame.ensures.ok analyze block_size docs written), c.num_docs-num_docs.ensures schema analyze block_size docs written)
