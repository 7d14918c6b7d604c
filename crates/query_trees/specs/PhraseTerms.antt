-- Terms of phrases: of one field, in the order of their offsets.
use Rattle.std.specs.Prelude.{◌&&◌, ◌==◌, ◌≡◌, ◌≤◌, Bool, length, nat_le, ℕ}
use Rattle.std.specs.List.{AllByRecursion, list_all}
use Rattle.definitions.specs.Phrases.{by_offset}
use Rattle.definitions.specs.Query.{Terms}
use Rattle.definitions.specs.Scoring.{phrase_field}
use Rattle.definitions.specs.Terms.{field_of}

-- whether they are at least `least` terms, all of one field
abbrev pub are_phrase_terms : ℕ → Terms → Bool
are_phrase_terms least terms = nat_le least (length terms) && list_all (λ t. field_of t.1 == phrase_field terms) terms

-- at least `least` terms, all of one field
pub record ArePhraseTerms (least : ℕ) (terms : Terms) : Type 0 where
  pub enough : least ≤ length terms
  pub one_field : AllByRecursion (λ t. field_of t.1 ≡ phrase_field terms) terms

-- terms of a phrase in the order of their offsets
pub record AreSortedTerms (least : ℕ) (terms : Terms) : Type 0 where
  pub phrase : ArePhraseTerms least terms
  pub sorted : by_offset terms ≡ terms
