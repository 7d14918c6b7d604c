-- Scorers of terms.
use Rattle.std.specs.Prelude.{[], ◌∷◌, ⊤, List, flat_map}
use Rattle.std.specs.List.{AllByRecursion}
use Rattle.any_scorer.specs.declared.leaf.Leaf.TheVariants as leaves
use Rattle.docsets.specs.declared.doc_set.DocSet.{Ghosts}
use Rattle.any_scorer.specs.declared.any_scorer.AnyScorer.{AnyScorer}
use Rattle.any_scorer.specs.declared.any_scorer.AnyScorer.TheVariants as forms

module _ {A T P X : Type 0} {a : Ghosts A} {t : Ghosts T} {p : Ghosts P} {x : Ghosts X} where
  -- it is the scorer of a term, with the term's own scores
  abbrev pub IsTerm : AnyScorer A T P X a t p x → Type 0
  IsTerm (forms.Leaf (leaves.Term s)) = ⊤
  IsTerm (forms.Leaf (leaves.All s)) = ⊥
  IsTerm (forms.Leaf (leaves.Phrase s)) = ⊥
  IsTerm (forms.Leaf (leaves.PhrasePrefix s)) = ⊥
  IsTerm (forms.Leaf (leaves.List s)) = ⊥
  IsTerm (forms.ConstAll s) = ⊥
  IsTerm (forms.ConstTerm s) = ⊥
  IsTerm (forms.ConstPhrase s) = ⊥
  IsTerm (forms.ConstPhrasePrefix s) = ⊥

  -- each of them is
  abbrev pub AreTerms : List (AnyScorer A T P X a t p x) → Type 0
  AreTerms scorers = AllByRecursion IsTerm scorers

  -- the scorer of a term as one of any query
  abbrev pub of_term : T → AnyScorer A T P X a t p x
  of_term s = forms.Leaf (leaves.Term s)

  -- the scorer of the term that it is, if it is one
  abbrev pub term_in : AnyScorer A T P X a t p x → List T
  term_in (forms.Leaf (leaves.Term s)) = s ∷ []
  term_in (forms.Leaf (leaves.All s)) = []
  term_in (forms.Leaf (leaves.Phrase s)) = []
  term_in (forms.Leaf (leaves.PhrasePrefix s)) = []
  term_in (forms.Leaf (leaves.List s)) = []
  term_in (forms.ConstAll s) = []
  term_in (forms.ConstTerm s) = []
  term_in (forms.ConstPhrase s) = []
  term_in (forms.ConstPhrasePrefix s) = []

  -- those of the terms among them
  abbrev pub terms_in : List (AnyScorer A T P X a t p x) → List T
  terms_in scorers = flat_map term_in scorers
