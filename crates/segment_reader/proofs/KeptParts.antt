-- A part of the terms that are kept.
use Rattle.std.proofs.Common.{[], List, None, Option, Some, ap, ap₂, arith, drop, get_or, inl, inr, length, length-drop, refl, slice_get, subst, suc, sym, zero, ◌*◌, ◌+◌, ◌-◌, ◌/◌, ◌%◌, ◌<◌, ◌≡◌, ◌≤◌, ◌∙◌, ◌∷◌, ◌^◌, ◌⊎◌, ℕ}
use Rattle.std.proofs.Math.Logic.{∥∥₁_elim}
use Rattle.std.proofs.Math.Nat.{div-add-mod}
use Rattle.std.proofs.Props.{props}
use Rattle.std.proofs.lemmas.Bool.{cases_lt}
use Rattle.std.proofs.lemmas.List.{drop-drop, drop_all}
use Rattle.definitions.proofs.Lists.{all_drop}
use Rattle.front_coding.proofs.BlockFound.{begins_at, has_block}
use Rattle.front_coding.specs.BlockPlaces.{BeginsAt, starts_from}
use Rattle.front_coding.specs.declared.term_starts.TermStart.{TermStart}
use Rattle.layouts.specs.TermSections.{Told, block_size}
use Rattle.segment_reader.proofs.KeptFound.{some_in, told_are}
use Rattle.segment_reader.proofs.PlacedTerms.{drop_by, keys_drop, length_by}
use Rattle.segment_reader.specs.Dictionaries.{AllFit, InfoFits, Placed, Walked, ahead, placed_by}
use Rattle.segment_reader.specs.KeptTerms.{AreShaped, IsKeptTerms, placed_terms, shape_from}
use Rattle.segment_reader.specs.declared.field_index.TermsShape.{TermsShape}

-- what stands at an index of a list
index_known : {X : Type 0} (xs : List X) (n : ℕ) (x : X) → slice_get xs n ≡ Some x → (n < length xs) × (get_or xs n x ≡ x)
index_known [] n x is = absurd cc
index_known (y ∷ ys) zero x is = (omega arith, ap (or_value x) is)
  where
    or_value : {X : Type 0} → X → Option X → X
    or_value d None = d
    or_value d (Some z) = z
index_known (y ∷ ys) (suc n) x is = (let later = index_known ys n x is in let l = later.0 in (omega (arith, l), later.1))

index_past : {X : Type 0} (xs : List X) (n : ℕ) → slice_get xs n ≡ None → length xs ≤ n
index_past [] n none = omega arith
index_past (x ∷ xs) zero none = absurd cc
index_past (x ∷ xs) (suc n) none = (let later = index_past xs n none in omega (arith, later))

-- the terms from the first of a block on, as they are kept
pub record IsPart (section : List ℕ) (shape part : TermsShape) (n : ℕ) : Type 0 where
  pub shaped : AreShaped section part
  pub placed : placed_terms section part ≡ drop n (placed_terms section shape)

module _ (section : List ℕ) (shape : TermsShape) (starts : List TermStart) (short : length section < 2 ^ 63) (k : IsKeptTerms section shape starts) (block : ℕ) where
  abbrev size : ℕ
  size = block_size shape.front_coded

  abbrev ts : List Told
  ts = k.shaped.terms

  abbrev first : TermStart
  first = shape.first

  all_placed : placed_terms section shape ≡ placed_by first.postings first.positions ts
  all_placed = ap (placed_by first.postings first.positions) (told_are section shape short k.shaped)

  none_part : length starts ≤ block → IsPart section shape (record shape { num_terms = 0; first = shape.first }) (size * block)
  none_part past = go (cases_lt (size * block) (length ts))
    where
      go : (size * block < length ts) ⊎ (length ts ≤ size * block) → IsPart section shape (record shape { num_terms = 0; first = shape.first }) (size * block)
      go (inl less) = (let has = has_block size section first ts k.shaped.end (some_in shape.front_coded) short k.shaped.terms_are block less in let l = ap length k.starts_are in absurd (omega (arith, past, has, l)))
      go (inr over) = record {
        shaped = record { terms = []; end = drop shape.first.entry section; many = refl; terms_are = record { spelled = refl; follow = tt; fit = tt }; longest = refl; fit = tt };
        placed = sym (drop_all (size * block) (placed_terms section shape) (let l = ap length all_placed ∙ length_by first.postings first.positions ts in omega (arith, over, l)));
      }

  some_part : (start : TermStart) → block < length starts → get_or starts block start ≡ start → IsPart section shape (record shape { num_terms = shape.num_terms - size * block; first = start }) (size * block)
  some_part start within at =
      let has : block < length (starts_from size 0 [] first ts) = (let l = ap length k.starts_are in omega (arith, within, l)) in
      let same : get_or (starts_from size 0 [] first ts) block start ≡ start = ap (λ ss. get_or ss block start) (sym k.starts_are) ∙ at in
      let b : BeginsAt size block start section first ts k.shaped.end = subst (λ s. BeginsAt size block s section first ts k.shaped.end) same (begins_at size section first ts k.shaped.end (some_in shape.front_coded) short k.shaped.terms_are block start has) in
      let later = drop (size * block) ts in
      let placed : placed_by start.postings start.positions later ≡ drop (size * block) (placed_by first.postings first.positions ts) = ap₂ (λ p q. placed_by p q later) b.postings b.positions ∙ drop_by (size * block) first.postings first.positions ts in
      let part : TermsShape = record shape { num_terms = shape.num_terms - size * block; first = start } in
      let shaped : AreShaped section part = record {
        terms = later;
        end = k.shaped.end;
        many = (let l = length-drop (size * block) ts in let m = k.shaped.many in omega (arith, l, m));
        terms_are = b.there;
        longest = keys_drop shape.longest (size * block) ts k.shaped.longest;
        fit = subst AllFit (sym placed) (all_drop (λ (t : Placed). InfoFits t.1) (size * block) (placed_by first.postings first.positions ts) k.shaped.fit);
      } in
      record {
        shaped = shaped;
        placed = ap (placed_by start.postings start.positions) (told_are section part short shaped) ∙ placed ∙ ap (drop (size * block)) (sym all_placed);
      }

  pub part_shaped : IsPart section shape (shape_from shape starts block) (size * block)
  part_shaped = go (slice_get starts block) refl
    where
      go : (o : Option TermStart) → slice_get starts block ≡ o → IsPart section shape (elim o [ None ↦ record shape { num_terms = 0; first = shape.first } | Some start ↦ record shape { num_terms = shape.num_terms - block_size shape.front_coded * block; first = start } ]) (size * block)
      go None is = none_part (index_past starts block is)
      go (Some start) is = (let known = index_known starts block start is in some_part start known.0 known.1)

-- a walk from the first of a block on, that goes on to a number, has the terms from that number on before it
pub number_there : (section : List ℕ) (shape : TermsShape) (starts : List TermStart) → length section < 2 ^ 63 → ∥ IsKeptTerms section shape starts ∥₁ → (number size : ℕ) (view : List Placed) (made skipped : Walked) (part : TermsShape) → size ≡ block_size shape.front_coded → placed_terms section shape ≡ view → part ≡ shape_from shape starts (number / size) → made ≡ ahead (placed_terms section part) → skipped.rest ≡ drop (number % size) made.rest → skipped.rest ≡ drop number view
number_there section shape starts short known number size view made skipped part size_is view_is part_is made_is skipped_is =
    let block = number / size in
    let placed : placed_terms section (shape_from shape starts block) ≡ drop (block_size shape.front_coded * block) (placed_terms section shape) = ∥∥₁_elim known (hlevel props) (λ k. (part_shaped section shape starts short k block).placed) in
    let parts = div-add-mod number size in
    let whole : size * block + number % size ≡ number = omega (arith, parts) in
    skipped_is
    ∙ ap (λ (w : Walked). drop (number % size) w.rest) made_is
    ∙ ap (λ (s : TermsShape). drop (number % size) (placed_terms section s)) part_is
    ∙ ap (drop (number % size)) (placed ∙ ap (λ n. drop (n * block) (placed_terms section shape)) (sym size_is))
    ∙ drop-drop (number % size) (size * block) (placed_terms section shape)
    ∙ ap (λ n. drop n (placed_terms section shape)) whole
    ∙ ap (drop number) view_is
