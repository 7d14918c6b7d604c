-- What is kept of terms that stand in a section.
use Rattle.std.proofs.Common.{[], Bool, List, ap, arith, drop, length, length-drop, subst, sym, ◌+◌, ◌<◌, ◌≡◌, ◌≤◌, ◌∙◌, ◌∷◌, ◌^◌, ℕ}
use Rattle.std.specs.List.{AllByRecursion}
use Rattle.front_coding.proofs.BlockLoop.{positions_grow, postings_grow}
use Rattle.front_coding.proofs.WalkSteps.{many_taken}
use Rattle.front_coding.specs.BlockPlaces.{positions_end, postings_end, starts_from}
use Rattle.front_coding.specs.TakenKeys as taken
use Rattle.front_coding.specs.declared.term_starts.TermStart.{TermStart}
use Rattle.layouts.specs.InvertedIndexes.{Sections}
use Rattle.layouts.specs.TermSections.{Told, block_size}
use Rattle.segment_reader.proofs.TermsLoop.{coded_of}
use Rattle.segment_reader.specs.CheckedTerms.{IsWithin}
use Rattle.segment_reader.specs.Dictionaries.{AllFit, placed_by}
use Rattle.segment_reader.specs.KeptTerms.{AreShaped, IsKeptTerms, placed_terms, told_in}
use Rattle.segment_reader.specs.TermPlaces.{AreTerms, TermFits}
use Rattle.segment_reader.specs.ToldFields.{AreKept, HasShape}
use Rattle.segment_reader.specs.declared.field_index.FieldIndex.{FieldIndex}
use Rattle.segment_reader.specs.declared.field_index.TermsShape.{TermsShape}

-- numbers that end within the sections fit
pub all_fit : (p q first second : ℕ) (ts : List Told) → first < 2 ^ 63 → second < 2 ^ 63 → postings_end p ts ≤ first → positions_end q ts ≤ second → AllByRecursion (λ (t : Told). TermFits t.1) ts → AllFit (placed_by p q ts)
all_fit p q first second [] a b c d fit = tt
all_fit p q first second (t ∷ ts) a b c d fit =
    let p_grows = postings_grow (p + t.1.postings_len) ts in
    let q_grows = positions_grow (q + t.1.positions_len) ts in
    (record { docs = fit.0.doc_freq_fits; postings = omega (arith, a, c, p_grows); positions = omega (arith, b, d, q_grows) }, all_fit (p + t.1.postings_len) (q + t.1.positions_len) first second ts a b c d fit.1)

pub all_within : (s : Sections) (p q : ℕ) (ts : List Told) → postings_end p ts ≤ length s.postings → positions_end q ts ≤ length s.positions → AllByRecursion (λ (t : Told). TermFits t.1) ts → AllByRecursion (IsWithin s) (placed_by p q ts)
all_within s p q [] c d fit = tt
all_within s p q (t ∷ ts) c d fit =
    let p_grows = postings_grow (p + t.1.postings_len) ts in
    let q_grows = positions_grow (q + t.1.positions_len) ts in
    (record { docs_fit = fit.0.doc_freq_fits; postings_order = omega arith; positions_order = omega arith; postings_end = omega (arith, c, p_grows); positions_end = omega (arith, d, q_grows) }, all_within s (p + t.1.postings_len) (q + t.1.positions_len) ts c d fit.1)

module _ (kind : Bool) (section : List ℕ) (at : TermStart) (p q : ℕ) (ts : List Told) (rest : List ℕ) (shape : TermsShape) (short : length section < 2 ^ 63) (has : HasShape kind at ts shape) (terms : AreTerms (block_size kind) section at p q ts rest) where
  there : taken.AreTerms (block_size shape.front_coded) 0 [] (drop shape.first.entry section) ts rest
  there = subst (λ k. taken.AreTerms (block_size k) 0 [] (drop shape.first.entry section) ts rest) (sym has.kind) (subst (λ (s : TermStart). taken.AreTerms (block_size kind) 0 [] (drop s.entry section) ts rest) (sym has.first) (coded_of (block_size kind) section at p q ts rest terms))

  told_there : told_in section shape ≡ ts
  told_there = many_taken (block_size shape.front_coded) shape.num_terms (drop shape.first.entry section) ts rest (let l = length-drop shape.first.entry section in omega (arith, short, l)) has.many there

  -- they are put together, with their ranges
  pub placed_there : placed_terms section shape ≡ placed_by at.postings at.positions ts
  placed_there = ap (placed_by shape.first.postings shape.first.positions) told_there ∙ ap (λ (s : TermStart). placed_by s.postings s.positions ts) has.first

  pub shaped_there : p < 2 ^ 63 → q < 2 ^ 63 → AreShaped section shape
  shaped_there a b = record {
    terms = ts;
    end = rest;
    many = has.many;
    terms_are = there;
    longest = has.longest;
    fit = subst (λ (s : TermStart). AllFit (placed_by s.postings s.positions ts)) (sym has.first) (all_fit at.postings at.positions p q ts a b terms.postings_end terms.positions_end terms.fit);
  }

pub kept_there : (kind : Bool) (section : List ℕ) (at : TermStart) (p q : ℕ) (ts : List Told) (rest : List ℕ) (i : FieldIndex) → length section < 2 ^ 63 → p < 2 ^ 63 → q < 2 ^ 63 → length ts ≤ 4294967295 → AreKept kind at ts i → AreTerms (block_size kind) section at p q ts rest → IsKeptTerms section i.shape i.starts.items
unfolding shaped_there
kept_there kind section at p q ts rest i short a b few kept terms =
    let has = kept.shape in
    let p_end = terms.postings_end in
    let q_end = terms.positions_end in
    let p_here : postings_end i.shape.first.postings ts ≡ postings_end at.postings ts = ap (λ (s : TermStart). postings_end s.postings ts) has.first in
    let q_here : positions_end i.shape.first.positions ts ≡ positions_end at.positions ts = ap (λ (s : TermStart). positions_end s.positions ts) has.first in
    record {
      shaped = shaped_there kind section at p q ts rest i.shape short has terms a b;
      starts_are = kept.starts ∙ ap (λ k. starts_from (block_size k) 0 [] at ts) (sym has.kind) ∙ ap (λ (s : TermStart). starts_from (block_size i.shape.front_coded) 0 [] s ts) (sym has.first);
      count_fits = few;
      ends = record { postings = omega (arith, p_here, p_end, a); positions = omega (arith, q_here, q_end, b) };
    }
