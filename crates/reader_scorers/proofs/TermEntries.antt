-- What remains of scorers of terms.
use Rattle.std.proofs.Common.{[], ap, ap₂, List, map, refl, ◌∙◌, ◌∷◌, ◌≡◌}
use Rattle.any_scorer.specs.declared.leaf.Leaf.TheVariants as leaves
use Rattle.docsets.specs.Entries.{Entry}
use Rattle.docsets.specs.declared.doc_set.DocSet.{Ghosts}
use Rattle.reader_scorers.specs.Terms.{AreTerms, of_term, terms_in}
use Rattle.any_scorer.specs.declared.any_scorer.AnyScorer.{AnyScorer}
use Rattle.any_scorer.specs.declared.any_scorer.AnyScorer.TheVariants as forms

module _ {A T P X : Type 0} {a : Ghosts A} {t : Ghosts T} {p : Ghosts P} {x : Ghosts X} (of_any : AnyScorer A T P X a t p x → List Entry) (own : T → List Entry) (same : (s : T) → own s ≡ of_any (of_term s)) where
  all_entries : (scorers : List (AnyScorer A T P X a t p x)) → AreTerms scorers → map own (terms_in scorers) ≡ map of_any scorers
  all_entries [] are = refl
  all_entries (forms.Leaf (leaves.Term s) ∷ ss) are = ap₂ (λ e es. e ∷ es) (same s) (all_entries ss are.1)
  all_entries (forms.Leaf (leaves.All _) ∷ ss) are = absurd are.0
  all_entries (forms.Leaf (leaves.Phrase _) ∷ ss) are = absurd are.0
  all_entries (forms.Leaf (leaves.PhrasePrefix _) ∷ ss) are = absurd are.0
  all_entries (forms.Leaf (leaves.List _) ∷ ss) are = absurd are.0
  all_entries (forms.ConstAll _ ∷ ss) are = absurd are.0
  all_entries (forms.ConstTerm _ ∷ ss) are = absurd are.0
  all_entries (forms.ConstPhrase _ ∷ ss) are = absurd are.0
  all_entries (forms.ConstPhrasePrefix _ ∷ ss) are = absurd are.0

  -- scorers that are all of terms have what the terms have
  pub same_entries : (terms : List T) (scorers : List (AnyScorer A T P X a t p x)) → terms ≡ terms_in scorers → AreTerms scorers → map own terms ≡ map of_any scorers
  same_entries terms scorers all are = ap (map own) all ∙ all_entries scorers are
