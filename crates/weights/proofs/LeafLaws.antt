-- What the weights of terms, phrases and phrase prefixes score.
use Rattle.std.proofs.Common.{[], IfNone, IfSome, List, None, Option, Some, ap, refl, subst, sym, ◌*◌, ◌≡◌, ◌≤◌, ℕ}
use Rattle.std.proofs.Math.Logic.{∥∥₁_elim}
use Rattle.std.proofs.Props.{props}
use Rattle.definitions.specs.Analyzers.{Analyzer}
use Rattle.definitions.specs.Answers.{answers}
use Rattle.definitions.specs.Phrases.{whole_terms}
use Rattle.definitions.specs.Query.{Query, phrase, phrase_prefix, term}
use Rattle.definitions.specs.Refusing.{bound, tree_fault}
use Rattle.definitions.specs.Schema.{Schema}
use Rattle.definitions.specs.Scoring.{Similarity, max_score}
use Rattle.definitions.specs.Values.{Document}
use Rattle.docsets.specs.Entries.{Entry, from}
use Rattle.docsets.specs.ScoredEntries.{greatest_score, pairs_of}
use Rattle.leaf_weights.proofs.LeafScores.{nothing_scores, some_scores}
use Rattle.query_scorers.specs.Scores.{Scores}
use Rattle.leaf_weights.specs.PhrasePrefixWeights as prefixes
use Rattle.leaf_weights.specs.PhraseWeights as phrases
use Rattle.leaf_weights.specs.PlacedAnswers.{whole_weight}
use Rattle.leaf_weights.specs.declared.phrase_prefix_weight.PhrasePrefixWeight.{PhrasePrefixWeight}
use Rattle.leaf_weights.specs.declared.phrase_weight.PhraseWeight.{PhraseWeight}
use Rattle.query_scorers.proofs.FormScores.{from_found, moved}
use Rattle.segment_reader.specs.SegmentReaders.{StandsFor, max_doc_of}
use Rattle.segment_reader.specs.declared.segment_reader.SegmentReader.{SegmentReader}
use Rattle.leaf_weights.specs.TermWeights as terms
use Rattle.leaf_weights.specs.declared.term_weight.TermWeight.{TermWeight}
use Rattle.query_scorers.proofs.AcceptedParts.{fits}
use Rattle.weights.specs.Weighing.{IsWeighed}

-- ---- what they earn is at most the greatest score

pub term_fits : (w : TermWeight) (b n : ℕ) → n ≡ b → IsWeighed (λ sim. terms.ScoresBy sim w) b (term (terms.term_of w) (terms.option_asked w)) → n * terms.weight_in w ≤ max_score
term_fits w b n same weighed = subst (λ m. m * terms.weight_in w ≤ max_score) (sym same) (∥∥₁_elim weighed (hlevel props) (λ a. subst (λ m. b * m ≤ max_score) (a.1).weight_is (fits a.0.weight b (term (terms.term_of w) (terms.option_asked w)) a.2)))

pub phrase_fits : (w : PhraseWeight) (b n : ℕ) → n ≡ b → IsWeighed (λ sim. phrases.ScoresBy sim w) b (phrase (phrases.terms_of w) (phrases.slop_of w)) → n * phrases.weight_in w ≤ max_score
phrase_fits w b n same weighed = subst (λ m. m * phrases.weight_in w ≤ max_score) (sym same) (∥∥₁_elim weighed (hlevel props) (λ a. subst (λ m. b * m ≤ max_score) (a.1).weight_is (fits a.0.weight b (phrase (phrases.terms_of w) (phrases.slop_of w)) a.2)))

pub prefix_fits : (w : PhrasePrefixWeight) (b n : ℕ) → n ≡ b → IsWeighed (λ sim. prefixes.ScoresPrefixBy sim w) b (phrase_prefix (prefixes.prefix_terms_of w) (prefixes.limit_of w)) → n * prefixes.most_in w ≤ max_score
prefix_fits w b n same weighed = subst (λ m. m * prefixes.most_in w ≤ max_score) (sym same) (∥∥₁_elim weighed (hlevel props) (λ a. subst (λ m. b * whole_weight (whole_terms (prefixes.prefix_terms_of w)) m ≤ max_score) (a.1).weight_is (fits a.0.weight b (phrase_prefix (prefixes.prefix_terms_of w) (prefixes.limit_of w)) a.2)))

-- ---- their bounds

pub term_bound : (w : TermWeight) (sim : Similarity) (n : ℕ) → terms.ScoresBy sim w → n * terms.weight_in w ≡ bound sim.weight n (term (terms.term_of w) (terms.option_asked w))
term_bound w sim n by = ap (λ m. n * m) (sym by.weight_is)

pub phrase_bound : (w : PhraseWeight) (sim : Similarity) (n : ℕ) → phrases.ScoresBy sim w → n * phrases.weight_in w ≡ bound sim.weight n (phrase (phrases.terms_of w) (phrases.slop_of w))
phrase_bound w sim n by = ap (λ m. n * m) (sym by.weight_is)

pub prefix_bound : (w : PhrasePrefixWeight) (sim : Similarity) (n : ℕ) → prefixes.ScoresPrefixBy sim w → n * prefixes.most_in w ≡ bound sim.weight n (phrase_prefix (prefixes.prefix_terms_of w) (prefixes.limit_of w))
prefix_bound w sim n by = ap (λ m. n * whole_weight (whole_terms (prefixes.prefix_terms_of w)) m) (sym by.weight_is)

-- ---- what was found scores the query

module _ {X : Type 0} (entries : X → List Entry) (sim : Similarity) (n b : ℕ) (q : Query) (r : SegmentReader) where
  -- what a weight says of the scorer that it found, if any, is what the query answers
  pub found_scores : (o : Option X) (es : List Entry) (most : ℕ) → n ≡ b → most ≡ bound sim.weight n q → ((schema : Schema) (analyze : Analyzer) (docs : List Document) → StandsFor schema analyze docs r → tree_fault schema sim.weight n q ≡ None → IfSome o (λ x. pairs_of (entries x) ≡ answers schema analyze sim n q docs)) → ((schema : Schema) (analyze : Analyzer) (docs : List Document) → StandsFor schema analyze docs r → IfNone o (answers schema analyze sim n q docs ≡ [])) → IfSome o (λ x. from (max_doc_of r) (entries x) ≡ []) → IfSome o (λ x. greatest_score (entries x) ≤ most) → IfSome o (λ x. es ≡ entries x) → IfNone o (es ≡ []) → Scores sim b q r es
  found_scores o es most same is some none within bounded are lack =
      moved sim n b q r es es refl same (from_found entries sim n q r o es (some_scores entries sim n q r o most some within bounded is) (nothing_scores sim n q r o none) are lack)

-- what is said of a scorer by what is known where there is one
pub given_all : {X P : Type 0} (Q : X → Type 0) (o : Option X) → IfSome o (λ x. P) → (P → IfSome o Q) → IfSome o Q
given_all Q (Some x) known make = make known
given_all Q None known make = tt
