-- The terms of a field, by what is kept of them.
use Rattle.std.specs.Prelude.{[], ◌*◌, ◌+◌, ◌-◌, ◌<◌, ◌^◌, ◌≡◌, ◌≤◌, Bool, List, None, Option, Some, drop, length, option_map, slice_get, true, ℕ}
use Rattle.front_coding.specs.BlockPlaces.{EndWithin, starts_from}
use Rattle.front_coding.specs.TakenKeys.{AreTerms}
use Rattle.front_coding.specs.Walks.{keys_fit, terms_taken}
use Rattle.front_coding.specs.declared.term_starts.TermStart.{TermStart}
use Rattle.layouts.specs.TermSections.{Told, block_size}
use Rattle.segment_reader.specs.Dictionaries.{AllFit, Placed, Walked, placed_by}
use Rattle.segment_reader.specs.declared.field_index.TermsShape.{TermsShape}
use Rattle.segment_reader.specs.declared.term_info.TermInfo.{TermInfo}

-- the terms of a shape, put together of their parts, and with where their postings stand
abbrev pub told_in : List ℕ → TermsShape → List Told
told_in section shape = terms_taken (block_size shape.front_coded) shape.num_terms 0 [] (drop shape.first.entry section)

abbrev pub placed_terms : List ℕ → TermsShape → List Placed
placed_terms section shape = placed_by shape.first.postings shape.first.positions (told_in section shape)

-- terms of this shape stand in the section
pub record AreShaped (section : List ℕ) (shape : TermsShape) : Type 0 where
  pub terms : List Told
  pub end : List ℕ
  pub many : length terms ≡ shape.num_terms
  pub terms_are : AreTerms (block_size shape.front_coded) 0 [] (drop shape.first.entry section) terms end
  pub longest : keys_fit shape.longest terms ≡ true
  pub fit : AllFit (placed_by shape.first.postings shape.first.positions terms)

-- and their blocks begin at these starts
pub record IsKeptTerms (section : List ℕ) (shape : TermsShape) (starts : List TermStart) : Type 0 where
  pub shaped : AreShaped section shape
  pub starts_are : starts ≡ starts_from (block_size shape.front_coded) 0 [] shape.first shaped.terms
  pub count_fits : length shaped.terms ≤ 4294967295
  pub ends : EndWithin shape.first shaped.terms

-- the shape of the terms from the first on of a block; of none where there is no such block
abbrev pub shape_from : TermsShape → List TermStart → ℕ → TermsShape
shape_from shape starts block = elim (slice_get starts block) [ None ↦ record shape { num_terms = 0; first = shape.first } | Some start ↦ record shape { num_terms = shape.num_terms - block_size shape.front_coded * block; first = start } ]

-- a walk over terms: on one with this key, if it stands on one, and with `left` more to come
abbrev pub walked : Bool → ℕ → ℕ → ℕ → ℕ → List ℕ → List ℕ → Option TermInfo → Walked
walked front_coded number left p q key rest here = record { here = option_map (λ i. (key, i)) here; rest = placed_by p q (terms_taken (block_size front_coded) left number key rest) }

-- the terms before it are `left` in number, no key of them is longer than that, and their numbers fit
pub record IsWalk (front_coded : Bool) (number left p q longest : ℕ) (key rest : List ℕ) : Type 0 where
  pub numbers_fit : number + left < 2 ^ 64
  pub fit : keys_fit longest (terms_taken (block_size front_coded) left number key rest) ≡ true
  pub many : length (terms_taken (block_size front_coded) left number key rest) ≡ left
  pub infos : ∥ AllFit (placed_by p q (terms_taken (block_size front_coded) left number key rest)) ∥₁
