-- A plan finds what its query finds.
use Rattle.std.proofs.Common.{[], ap, ap₂, filter_map, map, refl, suc, true, false, ◌*◌, ◌++◌, ◌∙◌, ◌∷◌, ◌≡◌, Bool, List, None, Option, Some, if◌then◌else◌, ℕ}
use Rattle.definitions.specs.Alive.{Segment}
use Rattle.definitions.specs.Analyzers.{Analyzer}
use Rattle.definitions.specs.Answers.{answer_at, answers, living_answers}
use Rattle.definitions.specs.Matching.{matches}
use Rattle.definitions.specs.Query.{Query}
use Rattle.definitions.specs.Schema.{Schema}
use Rattle.definitions.specs.Scoring.{Similarity, score}
use Rattle.definitions.specs.Values.{Document}
use Rattle.query_plans.specs.Plans.{IsPlan}
use Rattle.segment_definitions.specs.Found.{places_from}

-- a document's answer
same_answer : (schema : Schema) (analyze : Analyzer) (sim : Similarity) (q p : Query) → IsPlan 1 q p → (at : ℕ × Document) → answer_at schema analyze sim 1 p at ≡ answer_at schema analyze sim 1 q at
same_answer schema analyze sim q p plan (place, doc) =
    ap (λ m. if◌then◌else◌ {A = Option (ℕ × ℕ)} m (Some (place, score schema analyze sim doc 1 p)) None) (plan.same_matches schema analyze doc)
    ∙ by_match (matches schema analyze doc q) (plan.same_scores schema analyze sim doc 1)
  where
    by_match : (m : Bool) → (m ≡ true → score schema analyze sim doc 1 p ≡ score schema analyze sim doc (1 * 1) q) → if◌then◌else◌ {A = Option (ℕ × ℕ)} m (Some (place, score schema analyze sim doc 1 p)) None ≡ if◌then◌else◌ {A = Option (ℕ × ℕ)} m (Some (place, score schema analyze sim doc 1 q)) None
    by_match true same = ap (λ n. Some (place, n)) (same refl)
    by_match false same = refl

all_same : (schema : Schema) (analyze : Analyzer) (sim : Similarity) (q p : Query) → IsPlan 1 q p → (xs : List (ℕ × Document)) → filter_map (answer_at schema analyze sim 1 p) xs ≡ filter_map (answer_at schema analyze sim 1 q) xs
all_same schema analyze sim q p plan xs = λ k. filter_map (λ at. same_answer schema analyze sim q p plan at k) xs

-- the places of all segments
pub same_places : (schema : Schema) (analyze : Analyzer) (sim : Similarity) (q p : Query) → IsPlan 1 q p → (number : ℕ) (rows : List Segment) → places_from schema analyze sim p number rows ≡ places_from schema analyze sim q number rows
same_places schema analyze sim q p plan number [] = refl
same_places schema analyze sim q p plan number (rows ∷ more) =
    ap₂ (λ xs ys. xs ++ ys)
    (ap (λ found. map (λ p. record { segment = number; doc = p.0; score = p.1 }) (living_answers (map (λ row. row.1) rows) found)) (all_same schema analyze sim q p plan _))
    (same_places schema analyze sim q p plan (suc number) more)
