-- Dictionaries: the terms of a field, and where their postings stand.
use Rattle.std.specs.Prelude.{[], ◌+◌, ◌<◌, ◌^◌, ◌∷◌, ◌≤◌, List, None, Option, Some, length, map, ℕ}
use Rattle.std.specs.List.{AllByRecursion}
use Rattle.layouts.specs.TermSections.{TermLengths, TermsAscend, Told}
use Rattle.segment_reader.specs.declared.term_info.TermInfo.{TermInfo}

-- a term by its value bytes, and where its postings stand
abbrev pub Placed : Type 0
Placed = List ℕ × TermInfo

-- where the postings of a term stand that begin at these offsets
abbrev pub info_from : ℕ → ℕ → TermLengths → TermInfo
info_from postings positions l = record {
  doc_freq = l.doc_freq;
  postings_range = record { start = postings; end = postings + l.postings_len };
  positions_range = record { start = positions; end = positions + l.positions_len };
}

-- terms with where their postings stand, when the first one's begin at these offsets
abbrev pub placed_by : ℕ → ℕ → List Told → List Placed
placed_by p q [] = []
placed_by p q (t ∷ ts) = (t.0, info_from p q t.1) ∷ placed_by (p + t.1.postings_len) (q + t.1.positions_len) ts

-- where the postings of a term stand that was located
abbrev pub info_of_located : TermLengths × ℕ × ℕ → TermInfo
info_of_located l = info_from l.1 l.2 l.0

-- the numbers of a term's entry fit those of the code
pub record InfoFits (info : TermInfo) : Type 0 where
  pub docs : info.doc_freq < 2 ^ 32
  pub postings : info.postings_range.end < 2 ^ 64
  pub positions : info.positions_range.end < 2 ^ 64

-- terms whose numbers fit
abbrev pub AllFit : List Placed → Type 0
AllFit terms = AllByRecursion (λ t. InfoFits t.1) terms

-- a walk over terms: the one on which it stands, if it stands on one, and those that it has before it
pub record Walked : Type 0 where
  pub here : Option Placed
  pub rest : List Placed

-- before the first of these terms
abbrev pub ahead : List Placed → Walked
ahead terms = record { here = None; rest = terms }

-- on the first of these terms
abbrev pub onto : List Placed → Walked
onto [] = record { here = None; rest = [] }
onto (t ∷ ts) = record { here = Some t; rest = ts }

-- one term further
abbrev pub advanced : Walked → Walked
advanced w = onto w.rest

-- ascending terms, no more than a u32 can count, whose numbers fit
pub record IsDictionary (terms : List Placed) : Type 0 where
  pub ascend : TermsAscend (map (λ t. t.0) terms)
  pub count_fits : length terms ≤ 4294967295
  pub fit : AllByRecursion (λ t. InfoFits t.1) terms
