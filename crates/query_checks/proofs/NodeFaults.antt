-- What a node is refused by, from what its tests tell.
use Rattle.std.proofs.Common.{[], Bool, List, None, Option, Some, ap, false, if◌then◌else◌, refl, sym, true, ◌∙◌, ◌∷◌, ◌≡◌, ◌||◌, ℕ}
use Rattle.std.specs.Option.{option_or}
use Rattle.definitions.specs.Query.{Query}
use Rattle.definitions.specs.Refusing.{first_fault, is_score_too_large, node_fault, own_tests}
use Rattle.definitions.specs.Schema.{Schema}
use Rattle.definitions.specs.declared.fault.Fault.{Fault}
use Rattle.definitions.specs.declared.fault.Fault.TheVariants as faults
use Rattle.query_checks.proofs.Tests.{first_fault-append}

-- ---- numbers that are told where a test passes

-- the second test fails
pub lost : (a b : Bool) (n p m : ℕ) → Some n ≡ (if a then None else Some p) → None ≡ (if b then None else Some m) → None ≡ (if a || b then None else Some p)
lost true b n p m h k = refl
lost false true n p m h k = refl
lost false false n p m h k = cc

-- both pass
pub kept : (a b : Bool) (n p k m : ℕ) → Some n ≡ (if a then None else Some p) → Some k ≡ (if b then None else Some m) → Some n ≡ (if a || b then None else Some p)
kept true b n p k m h l = h
kept false true n p k m h l = cc
kept false false n p k m h l = h

-- a test that passes refuses nothing
pub passes : (large : Bool) (n p : ℕ) → Some n ≡ (if large then None else Some p) → None ≡ (if large then Some faults.ScoreTooLarge else None)
passes true n p h = cc
passes false n p h = refl

-- one that fails refuses
pub fails : (large : Bool) (p : ℕ) → None ≡ (if large then None else Some p) → Some faults.ScoreTooLarge ≡ (if large then Some faults.ScoreTooLarge else None)
fails true p h = refl
fails false p h = cc

-- ---- a node

-- the fault of its own tests, or else that of its score
pub node_by : (schema : Schema) (weight : List ℕ → ℕ) (b : ℕ) (q : Query) (o : Option Fault) → o ≡ first_fault (own_tests schema q) → option_or o (if is_score_too_large weight b q then Some faults.ScoreTooLarge else None) ≡ node_fault schema weight b q
unfolding node_fault
node_by schema weight b q o same = ap (λ p. option_or p (if is_score_too_large weight b q then Some faults.ScoreTooLarge else None)) same ∙ sym (first_fault-append (own_tests schema q) ((is_score_too_large weight b q, faults.ScoreTooLarge) ∷ []))
