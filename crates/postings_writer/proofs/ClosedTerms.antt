-- A term that is closed in its field.
use Rattle.std.proofs.Common.{[], ap, Bool, false, List, refl, subst, true, ◌≡◌, ◌∙◌, ℕ, if◌then◌else◌}
use Rattle.layouts.specs.Positions.{ArePositions}
use Rattle.layouts.specs.TermSections.{TermLengths}
use Rattle.layouts.specs.InvertedIndexes.{HasPositions}
use Rattle.postings_writer.specs.FieldWriting.{Terms, inserted}

-- positions of a term that records them are all numbers
pub numbers_recorded : (b : Bool) (xs numbers bytes : List ℕ) → xs ≡ (if b then numbers else []) → HasPositions b xs bytes → HasPositions b numbers bytes
numbers_recorded true xs numbers bytes are has = (let P : List ℕ → Type 0 = λ ns. ArePositions ns bytes in subst P are has)
numbers_recorded false xs numbers bytes are has = has

-- nothing waits behind a closed term
pub none_waits : (b : Bool) (xs numbers : List ℕ) → xs ≡ (if b then numbers else []) → (if b then [] else xs) ≡ []
none_waits true xs numbers are = refl
none_waits false xs numbers are = are

abbrev pub lengths_of : ℕ → ℕ → ℕ → TermLengths
lengths_of d p q = record { doc_freq = d; postings_len = p; positions_len = q }

pub same_entry : (k key : List ℕ) (d docs p postings q positions : ℕ) (t terms : Terms) → k ≡ key → d ≡ docs → p ≡ postings → q ≡ positions → t ≡ terms → inserted k (lengths_of d p q) t ≡ inserted key (lengths_of docs postings positions) terms
same_entry k key d docs p postings q positions t terms to_key to_docs to_postings to_positions to_terms =
    ap (λ x. inserted x (lengths_of d p q) t) to_key
    ∙ ap (λ x. inserted key (lengths_of x p q) t) to_docs
    ∙ ap (λ x. inserted key (lengths_of docs x q) t) to_postings
    ∙ ap (λ x. inserted key (lengths_of docs postings x) t) to_positions
    ∙ ap (λ (x : Terms). inserted key (lengths_of docs postings positions) x) to_terms
