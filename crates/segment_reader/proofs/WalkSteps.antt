-- Walks over the terms that are kept, one term at a time.
use Rattle.std.proofs.Common.{[], Bool, None, Option, Some, ap, arith, drop, length, min, refl, subst, suc, sym, take, zero, ◌++◌, ◌+◌, ◌-◌, ◌<◌, ◌≡◌, ◌≢◌, ◌≤◌, ◌∙◌, ◌∷◌, ◌^◌, List, ℕ}
use Rattle.std.proofs.Math.Logic.{∥∥₁_elim, ∥∥₁_map}
use Rattle.std.proofs.Props.{props}
use Rattle.front_coding.proofs.WalkSteps.{Moved, first_left, key_moved, moved_on}
use Rattle.front_coding.specs.LookUps.{Parts, take_parts}
use Rattle.front_coding.specs.Walks.{keys_fit, terms_taken}
use Rattle.definitions.proofs.Lists.{all_take}
use Rattle.layouts.specs.TermSections.{block_size}
use Rattle.segment_reader.proofs.KeptFound.{told_are}
use Rattle.segment_reader.proofs.PlacedTerms.{keys_take, take_by, taken_fewer}
use Rattle.segment_reader.specs.Dictionaries.{AllFit, InfoFits, Placed, Walked, advanced, info_from, onto, placed_by}
use Rattle.segment_reader.specs.KeptTerms.{AreShaped, IsWalk, told_in, walked}
use Rattle.segment_reader.specs.declared.field_index.TermsShape.{TermsShape}
use Rattle.segment_reader.specs.declared.term_info.TermInfo.{TermInfo}

-- the term infos of the first term that is left, and of the others
first_placed : (size left number p q : ℕ) (before bs : List ℕ) (parts : Parts) (after : List ℕ) → left ≢ 0 → take_parts size number bs ≡ Some (parts, after) → placed_by p q (terms_taken size left number before bs) ≡ (take parts.shared_len before ++ parts.left, info_from p q parts.lengths) ∷ placed_by (p + parts.lengths.postings_len) (q + parts.lengths.positions_len) (terms_taken size (left - 1) (number + 1) (take parts.shared_len before ++ parts.left) after)
first_placed size left number p q before bs parts after some is = ap (placed_by p q) (first_left size left number before bs parts after some is)

pub first_fits : (size left number p q : ℕ) (before bs : List ℕ) (parts : Parts) (after : List ℕ) → left ≢ 0 → take_parts size number bs ≡ Some (parts, after) → ∥ AllFit (placed_by p q (terms_taken size left number before bs)) ∥₁ → InfoFits (info_from p q parts.lengths)
first_fits size left number p q before bs parts after some is infos = ∥∥₁_elim infos (Prim.hlevel props) (λ all. (subst AllFit (first_placed size left number p q before bs parts after some is) all).0)

module _ (front_coded : Bool) (left number p q key_len : ℕ) (buffer bs : List ℕ) (parts : Parts) (after : List ℕ) (new_len : ℕ) (new : List ℕ) (m : Moved (block_size front_coded) left number key_len buffer bs parts after new_len new) where
  abbrev size : ℕ
  size = block_size front_coded

  pub walk_moved : ∥ AllFit (placed_by p q (terms_taken size left number (take key_len buffer) bs)) ∥₁ → (new_len ≤ length new) × IsWalk front_coded (number + 1) (left - 1) (p + parts.lengths.postings_len) (q + parts.lengths.positions_len) (length new) (take new_len new) after
  walk_moved infos =
      let on = moved_on size left number key_len buffer bs parts after new_len new m in
      let key = key_moved size left number key_len buffer bs parts after new_len new m in
      let rest = ∥∥₁_map infos (λ all. (subst AllFit (first_placed size left number p q (take key_len buffer) bs parts after m.some m.taken) all).1) in (
        on.0,
        record {
          numbers_fit = on.1;
          fit = on.2;
          many = on.3;
          infos = subst (λ k. ∥ AllFit (placed_by (p + parts.lengths.postings_len) (q + parts.lengths.positions_len) (terms_taken size (left - 1) (number + 1) k after)) ∥₁) (sym key) rest;
        },
      )

  pub view_moved : (here : Option TermInfo) → walked front_coded (number + 1) (left - 1) (p + parts.lengths.postings_len) (q + parts.lengths.positions_len) (take new_len new) after (Some (info_from p q parts.lengths)) ≡ advanced (walked front_coded number left p q (take key_len buffer) bs here)
  view_moved here =
      ap (λ (k : List ℕ). record { here = Some (k, info_from p q parts.lengths); rest = placed_by (p + parts.lengths.postings_len) (q + parts.lengths.positions_len) (terms_taken size (left - 1) (number + 1) k after) }) (key_moved size left number key_len buffer bs parts after new_len new m)
      ∙ ap onto (sym (first_placed size left number p q (take key_len buffer) bs parts after m.some m.taken))

length-take : {X : Type 0} (n : ℕ) (xs : List X) → length (take n xs) ≡ min n (length xs)
length-take zero xs = omega arith
length-take (suc n) [] = omega arith
length-take (suc n) (x ∷ xs) = (let later = length-take n xs in omega (arith, later))

-- ---- a walk that begins

pub walk_begun : (section : List ℕ) (shape : TermsShape) (buffer rest : List ℕ) → length section < 2 ^ 63 → shape.num_terms < 2 ^ 64 → length buffer ≡ shape.longest → rest ≡ drop shape.first.entry section → ∥ AreShaped section shape ∥₁ → IsWalk shape.front_coded 0 shape.num_terms shape.first.postings shape.first.positions (length buffer) [] rest
walk_begun section shape buffer rest short few items there known = subst (λ (bs : List ℕ). IsWalk shape.front_coded 0 shape.num_terms shape.first.postings shape.first.positions (length buffer) [] bs) (sym there) (record {
  numbers_fit = omega (arith, few);
  fit = ap (λ l. keys_fit l (told_in section shape)) items ∙ ∥∥₁_elim known (Prim.hlevel props) (λ k. ap (keys_fit shape.longest) (told_are section shape short k) ∙ k.longest);
  many = ∥∥₁_elim known (Prim.hlevel props) (λ k. ap length (told_are section shape short k) ∙ k.many);
  infos = ∥∥₁_map known (λ k. subst (λ ts. AllFit (placed_by shape.first.postings shape.first.positions ts)) (sym (told_are section shape short k)) k.fit);
})

-- ---- a walk that is cut

module _ (front_coded : Bool) (left number p q longest count : ℕ) (key bs : List ℕ) (walk : IsWalk front_coded number left p q longest key bs) where
  fewer : terms_taken (block_size front_coded) (min count left) number key bs ≡ take count (terms_taken (block_size front_coded) left number key bs)
  fewer = taken_fewer (block_size front_coded) count left number key bs

  pub walk_cut : IsWalk front_coded number (min count left) p q longest key bs
  walk_cut = record {
    numbers_fit = (let few = walk.numbers_fit in omega (arith, few));
    fit = ap (keys_fit longest) fewer ∙ keys_take longest count (terms_taken (block_size front_coded) left number key bs) walk.fit;
    many = (let all = walk.many in let long = ap length fewer ∙ length-take count (terms_taken (block_size front_coded) left number key bs) in omega (arith, all, long));
    infos = ∥∥₁_map walk.infos (λ all. subst AllFit (sym (ap (placed_by p q) fewer ∙ take_by count p q (terms_taken (block_size front_coded) left number key bs))) (all_take (λ (t : Placed). InfoFits t.1) count (placed_by p q (terms_taken (block_size front_coded) left number key bs)) all));
  }

  pub view_cut : walked front_coded number (min count left) p q key bs None ≡ record { here = None; rest = take count (placed_by p q (terms_taken (block_size front_coded) left number key bs)) }
  view_cut = ap (λ (ts : List Placed). record { here = None; rest = ts }) (ap (placed_by p q) fewer ∙ take_by count p q (terms_taken (block_size front_coded) left number key bs))

-- a move leaves fewer
pub advanced_shorter : (w : Walked) → 0 < length w.rest → length (advanced w).rest < length w.rest
advanced_shorter w some = go w.rest some
  where
    go : (ts : List Placed) → 0 < length ts → length (onto ts).rest < length ts
    go [] none = none
    go (t ∷ ts) some = omega arith

-- one move behind `n`
pub moved_by : (n : ℕ) (was now : Walked) (ts : List Placed) → was.rest ≡ drop n ts → now ≡ advanced was → now.rest ≡ drop (n + 1) ts
moved_by n was now ts rest next = ap (λ (w : Walked). w.rest) next ∙ ap (λ us. (onto us).rest) rest ∙ go n ts
  where
    go : (k : ℕ) (us : List Placed) → (onto (drop k us)).rest ≡ drop (k + 1) us
    go zero [] = refl
    go zero (u ∷ us) = refl
    go (suc k) [] = (let next : suc (k + 1) ≡ suc k + 1 = omega arith in ap (λ m. drop {A = Placed} m []) next)
    go (suc k) (u ∷ us) = (let next : suc (k + 1) ≡ suc k + 1 = omega arith in go k us ∙ ap (λ m. drop m (u ∷ us)) next)
