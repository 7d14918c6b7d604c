-- What numbers have that are the positions of a term.
use Rattle.std.specs.Prelude.{[], ◌<◌, ◌^◌, ◌∷◌, ◌≡◌, List, drop, length, sum, take, ℕ}
use Rattle.definitions.specs.Postings.{Posting}
use Rattle.layouts.specs.InvertedIndexes.{IndexedTerm}
use Rattle.layouts.specs.Positions.{ArePositions}

-- as many numbers for each document as its count, whose sum is the document's last position: it is below 2^31
abbrev pub LastPositionsFit : List ℕ → List ℕ → Type 0
LastPositionsFit [] numbers = Unit {0}
LastPositionsFit (n ∷ ns) numbers = (sum (take n numbers) < 2 ^ 31) × LastPositionsFit ns (drop n numbers)

-- the bytes are the positions of documents with these counts
pub record HasNumbers (counts bytes : List ℕ) : Type 0 where
  pub numbers : List ℕ
  pub stand : ArePositions numbers bytes
  pub many : length numbers ≡ sum counts
  pub bounded : LastPositionsFit counts numbers

-- the bytes are `total` numbers, whose sum is below 2^31
pub record HasFew (total : ℕ) (bytes : List ℕ) : Type 0 where
  pub numbers : List ℕ
  pub stand : ArePositions numbers bytes
  pub many : length numbers ≡ total
  pub sum_fits : sum numbers < 2 ^ 31

-- a term by its postings and bytes, whatever its key
abbrev pub term_of : List Posting → List ℕ → List ℕ → IndexedTerm
term_of ps postings_bytes positions_bytes = record { key = []; postings = ps; postings_bytes = postings_bytes; positions_bytes = positions_bytes }
