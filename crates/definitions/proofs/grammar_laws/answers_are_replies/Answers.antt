use Rattle.std.proofs.Common.{[], List, flat_map, inl, refl, ◌∷◌, ℕ}
use Rattle.definitions.specs.Replying.{AreReplies, answers_to, output_line, state_after}
use Rattle.definitions.specs.Step.{Session, after_line, answer_of}
use Rattle.definitions.proofs.grammar_laws.answers_are_replies.Goals as goal

answered : (session : Session) (lines : List (List ℕ)) → AreReplies answer_of after_line (λ (s : Session) (line : List ℕ). ⊥) ⊥ session lines (flat_map output_line (answers_to session lines))
answered session [] = refl
answered session (line ∷ lines) =
    let next = state_after answer_of after_line session line in
    inl (flat_map output_line (answers_to next lines), refl, answered next lines)

pub returns : goal.returns
returns c = answered
