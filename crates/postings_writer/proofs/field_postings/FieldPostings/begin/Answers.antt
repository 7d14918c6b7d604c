use Rattle.std.proofs.Common.{[], ◌++◌, ◌≡◌, ◌∙◌, ◌∷◌, List, ap, subst, sym, ℕ}
use Rattle.postings_writer.specs.Fields.{option_of_key}
use Rattle.postings_writer.specs.Recorders.{IsCountWithin, recorded_as}
use Rattle.postings_writer.proofs.KeptRecorders.{has_recorders-updated}
use Rattle.postings_writer.proofs.field_postings.FieldPostings.begin.Goals as goal

pub returns-clause-ok : goal.returns-clause-ok
returns-clause-ok c occurrences has none =
    let option = option_of_key c.args.entry.now c.args.key.now in
    let new = c.new-recorder.ensures ∙ ap (λ o. recorded_as o []) c.option_of_key.ensures in
    let recorded = c.in_ok-record.ensures.ok option [] new in
    let P : List (ℕ × ℕ) → Type 0 = λ ps. IsCountWithin option (ps ++ (c.args.doc, c.args.position) ∷ []) in
    let within = subst P (sym none) (c.in_ok-record.ensures.within option [] new) in
    let is : c.record.new.self ≡ recorded_as option (occurrences c.args.key.now ++ (c.args.doc, c.args.position) ∷ []) = recorded ∙ ap (λ ps. recorded_as option (ps ++ (c.args.doc, c.args.position) ∷ [])) (sym none) in
    has_recorders-updated c.args.entry.now c.args.self.now c.insert.new.self occurrences c.args.key.now (c.args.doc, c.args.position) c.record.new.self has is within c.in_ok-insert.ensures
