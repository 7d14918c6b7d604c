-- Laws of unions that stand in a window: laws.
use Rattle.std.proofs.Common.{◌+◌, ◌-◌, ◌≤◌, Bool, List, arith, sum, ℕ}
use Rattle.std.proofs.Props.{props}
use Rattle.definitions.specs.Scoring.{max_score}
use Rattle.docsets.specs.Entries.{Entry, Rising}
use Rattle.docsets.specs.Members.{entries_at, scores_in}
use Rattle.docsets.proofs.MemberLaws.{Rising-listed}
use Rattle.scorers.specs.Windows.{IsStanding, IsWindow, entry_ahead, held, is_ahead, windowed}

pub IsWindow-prop : {C : Type 0} (total : C → ℕ) (flags : List Bool) (slots : List C) (fresh : C) (start : ℕ) (ess : List (List Entry)) → IsProp (IsWindow total flags slots fresh start ess)
IsWindow-prop total flags slots fresh start ess = hlevel props

pub IsStanding-prop : {C : Type 0} (answer : C → List ℕ → ℕ) (total : C → ℕ) (flags : List Bool) (slots : List C) (fresh : C) (start : ℕ) (ess : List (List Entry)) (doc : ℕ) → IsProp (IsStanding answer total flags slots fresh start ess doc)
IsStanding-prop answer total flags slots fresh start ess doc = let window = IsWindow-prop total flags slots fresh start ess in hlevel (props, window)

-- the scores fit
pub Rising-windowed : {C : Type 0} (answer : C → List ℕ → ℕ) (total : C → ℕ) → ((c : C) (xs : List ℕ) → total c + sum xs ≤ max_score → answer c xs ≤ max_score) → (flags : List Bool) (slots : List C) (fresh : C) (start : ℕ) (ess : List (List Entry)) (doc : ℕ) → IsStanding answer total flags slots fresh start ess doc → Rising 0 (windowed answer flags slots fresh start ess doc)
Rising-windowed answer total bounded flags slots fresh start ess doc s =
    let begun = s.begun in
    Rising-listed (is_ahead flags start ess) (entry_ahead answer flags slots fresh start ess) doc (λ d l t e. bounded (held flags slots fresh (d - start)) (scores_in (entries_at d ess)) (s.window.fits d (omega (arith, l, begun)) t))
