use Rattle.std.proofs.Common.{[], ◌++◌, ◌∙◌, ◌∷◌, ap, arith}
use Rattle.std.proofs.lemmas.Result.{err_from_is_err_and}
use Rattle.document_values.specs.Docs.{pairs_at}
use Rattle.document.proofs.HeldPairs.{heap_long, heap_more, view_more}
use Rattle.document.proofs.compact_doc.CompactDoc.add_sized.Goals as goal

pub overflow_add-self : goal.overflow_add-self
overflow_add-self c =
    let long = heap_long c.self.inside.heap.items c.self.inside.count c.self.invariant in
    let same = c.self.inside.heap.ok.0 in
    let room = c.self.inside.heap.ok.1 in
    let small = c.self.inside.heap.small in
    omega (arith, long, same, room, small)

pub invariant_of-self-2 : goal.invariant_of-self-2
invariant_of-self-2 c = heap_more c.self.inside.heap.items c.append_sized.new.heap.items c.self.inside.count c.requires.0 c.self.invariant (c.requires.1 c.append_sized.ensures.few) (c.in_ok-append_sized.ensures.ok ∙ ap (λ ys. c.self.inside.heap.items ++ ys) c.requires.2)

pub returns-in_err-append_sized-clause-err : goal.returns-in_err-append_sized-clause-err
returns-in_err-append_sized-clause-err c =
    let p = err_from_is_err_and c.from_residual.result c.from_residual.ensures.1 in
    rw p.1 (ap (pairs_at c.self.inside.count) c.in_err-append_sized.ensures.err ∙ c.self.view_is)

pub returns-clause-ok : goal.returns-clause-ok
returns-clause-ok c = λ p good put.
    view_more c.self.inside.heap.items c.append_sized.new.heap.items c.self.inside.count p c.self.invariant (good c.append_sized.ensures.few) (c.in_ok-append_sized.ensures.ok ∙ ap (λ ys. c.self.inside.heap.items ++ ys) put)
    ∙ ap (λ doc. doc ++ (p ∷ [])) c.self.view_is
