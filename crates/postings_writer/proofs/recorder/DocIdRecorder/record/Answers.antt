use Rattle.std.proofs.Common.{[], ◌++◌, ◌≡◌, ◌∙◌, ◌∷◌, ap, sym, true, false}
use Rattle.postings_writer.specs.Occurrences.{docs_of, ends_in}
use Rattle.postings_writer.proofs.Groups.{docs_of-again, docs_of-new}
use Rattle.postings_writer.proofs.recorder.DocIdRecorder.record.Goals as goal

pub returns-then-ends_in : goal.returns-then-ends_in
returns-then-ends_in c ps position is =
    let again : ends_in c.args.doc (docs_of ps) ≡ true = sym (ap (ends_in c.args.doc) (c.deref.ensures.value ∙ c.self.view_is ∙ is)) ∙ sym c.ends_in.ensures ∙ c.if-ends_in.true in
    is ∙ sym (docs_of-again ps c.args.doc position again)

pub returns : goal.returns
returns c ps position is =
    let new : ends_in c.args.doc (docs_of ps) ≡ false = sym (ap (ends_in c.args.doc) (c.deref.ensures.value ∙ c.self.view_is ∙ is)) ∙ sym c.ends_in.ensures ∙ c.if-ends_in.false in
    c.in_ok-push.ensures.items ∙ ap (λ ds. ds ++ c.args.doc ∷ []) (c.self.view_is ∙ is) ∙ sym (docs_of-new ps c.args.doc position new)
