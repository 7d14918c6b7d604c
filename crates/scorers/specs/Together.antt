-- The document on which a union stands that looks no further.
use Rattle.std.specs.Prelude.{◌≡◌, ◌≤◌, Bool, List, sum, true, ℕ}
use Rattle.docsets.specs.Entries.{Entry, Rising}
use Rattle.scorers.specs.Uniting.{counts_in, uniting}
use Rattle.docsets.specs.Members.{at_least, entries_at, least}

-- it stands on the least document of the lists; where counts are told, their sums fit 32 bits
pub record IsTogether (told : Bool) (ess : List (List Entry)) (doc : ℕ) : Type 0 where
  pub leads : doc ≡ least ess
  pub rises : Rising 0 (at_least 1 (uniting told) ess)
  pub counts_fit : told ≡ true → (d : ℕ) → sum (counts_in (entries_at d ess)) ≤ 4294967295
