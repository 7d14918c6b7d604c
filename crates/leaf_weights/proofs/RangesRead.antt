-- Ranges of terms, read one term after another.
use Rattle.std.proofs.Common.{[], List, None, Option, Some, ap, arith, map, option_map, subst, suc, sym, take, ◌++◌, ◌-◌, ◌<◌, ◌≡◌, ◌∙◌, ◌∷◌, ℕ}
use Rattle.std.proofs.lemmas.List.{append_assoc, map-append}
use Rattle.std.specs.Option.{option_map_or}
use Rattle.std.specs.Prelude.{slice_index}
use Rattle.segment_reader.specs.Dictionaries.{Placed, Walked, advanced}
use Rattle.segment_reader.specs.Readers.{postings_in}
use Rattle.segment_reader.specs.declared.term_info.TermInfo.{TermInfo}
use Rattle.layouts.specs.InvertedIndexes.{IndexedField}
use Rattle.leaf_weights.specs.ReadTerms.{with_positions}
use Rattle.leaf_weights.specs.Suffixes.{HaveBytes, read_places}
use Rattle.segment_postings.specs.Cursors.{entries_left}
use Rattle.segment_postings.specs.declared.segment_postings.SegmentPostings.{SegmentPostings}

-- the term on which a range stands was its next
pub stepped : (here : Option Placed) (rest : List Placed) (after : Walked) (key : List ℕ) (info : TermInfo) → after ≡ advanced (record { here = here; rest = rest }) → option_map (λ (t : Placed). t.0) after.here ≡ Some key → option_map (λ (t : Placed). t.1) after.here ≡ Some info → rest ≡ (key, info) ∷ after.rest
stepped here [] after key info next is_key is_info = absurd (let none : ◌≡◌ {A = Option (List ℕ)} None (Some key) = sym (ap (λ (w : Walked). option_map (λ (t : Placed). t.0) w.here) next) ∙ is_key in cc)
stepped here (t ∷ ts) after key info next is_key is_info =
    let own_key : t.0 ≡ key = ap (λ (o : Option (List ℕ)). option_map_or (λ x. x) o key) (sym (ap (λ (w : Walked). option_map (λ (t : Placed). t.0) w.here) next) ∙ is_key) in
    let own_info : t.1 ≡ info = ap (λ (o : Option TermInfo). option_map_or (λ x. x) o info) (sym (ap (λ (w : Walked). option_map (λ (t : Placed). t.1) w.here) next) ∙ is_info) in
    ap (λ k. (k, t.1) ∷ ts) own_key ∙ ap (λ i. (key, i) ∷ ts) own_info ∙ ap (λ us. (key, info) ∷ us) (sym (ap (λ (w : Walked). w.rest) next))

-- the first of `n` is the first
pub first_taken : {X : Type 0} (n : ℕ) (xs ys : List X) (x : X) → 0 < n → xs ≡ x ∷ ys → take n xs ≡ x ∷ take (n - 1) ys
first_taken n xs ys x some is = (let size : n ≡ suc (n - 1) = omega (arith, some) in ap (take n) is ∙ ap (λ k. take k (x ∷ ys)) size)

pub read_more : (fields : List IndexedField) (field : ℕ) (read more : List SegmentPostings) (p : SegmentPostings) (places later all : List Placed) (d : Placed) → more ≡ read ++ p ∷ [] → places ≡ d ∷ later → entries_left p ≡ with_positions (postings_in fields field d.0) → map entries_left read ++ read_places fields field places ≡ read_places fields field all → map entries_left more ++ read_places fields field later ≡ read_places fields field all
read_more fields field read more p places later all d is are here so_far =
    ap (λ ps. map entries_left ps ++ read_places fields field later) is
    ∙ ap (λ es. es ++ read_places fields field later) (map-append entries_left read (p ∷ []))
    ∙ ap (λ e. (map entries_left read ++ e ∷ []) ++ read_places fields field later) here
    ∙ append_assoc (map entries_left read) (with_positions (postings_in fields field d.0) ∷ []) (read_places fields field later)
    ∙ sym (ap (λ ds. map entries_left read ++ read_places fields field ds) are)
    ∙ so_far

pub bytes_more : (places later : List Placed) (d : Placed) → places ≡ d ∷ later → ((i : ℕ) → slice_index d.0 i < 256) → HaveBytes later → HaveBytes places
bytes_more places later d are here rest = subst HaveBytes (sym are) (here, rest)
