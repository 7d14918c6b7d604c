-- Lists of scorers, of which some may be left out.
use Rattle.std.specs.Prelude.{◌≡◌, List, ℕ}
use Rattle.docsets.specs.Entries.{Entry}
use Rattle.docsets.specs.Members.{entries_at, greatest_sum}

-- they have the same entries of each document, and greatest scores with the same sum
pub record HaveSame (ess fss : List (List Entry)) : Type 0 where
  pub entries : (d : ℕ) → entries_at d ess ≡ entries_at d fss
  pub greatest : greatest_sum ess ≡ greatest_sum fss
