-- What is found by what is kept of terms.
use Rattle.std.proofs.Common.{[], Bool, IfSome, List, None, Option, Some, ap, arith, drop, false, get_or, length, length-drop, map, min, option_map, refl, subst, suc, sym, true, ◌*◌, ◌+◌, ◌-◌, ◌<◌, ◌≡◌, ◌∙◌, ◌^◌, ℕ}
use Rattle.std.proofs.Math.Logic.{∥∥₁_elim}
use Rattle.std.proofs.Props.{props}
use Rattle.std.specs.List.{prefix_len}
use Rattle.front_coding.proofs.BlockFound.{block_counts, block_ends, block_found, block_is, none_up_to, own_terms}
use Rattle.front_coding.proofs.WalkSteps.{many_taken}
use Rattle.front_coding.specs.BlockPlaces.{AreUpTo, EndWithin, IsBlock}
use Rattle.front_coding.specs.Lengths.{located_at}
use Rattle.front_coding.specs.LookUps.{located, stands_below}
use Rattle.front_coding.specs.declared.look_ups.TermPlace.{TermPlace}
use Rattle.front_coding.specs.declared.term_starts.TermStart.{TermStart}
use Rattle.layouts.specs.TermSections.{TermLengths, TermsAscend, Told, block_size}
use Rattle.segment_reader.proofs.Found.{TermsAscend-prop}
use Rattle.segment_reader.proofs.PlacedTerms.{ascend_all, counted_by, info_in, keys_by, length_by, located_by, located_fits}
use Rattle.segment_reader.specs.Dictionaries.{AllFit, InfoFits, IsDictionary, Placed, info_of_located, placed_by}
use Rattle.segment_reader.specs.KeptTerms.{AreShaped, IsKeptTerms, placed_terms, told_in}
use Rattle.segment_reader.specs.Searching.{is_below}
use Rattle.segment_reader.specs.declared.field_index.TermsShape.{TermsShape}

pub some_in : (front_coded : Bool) → 0 < block_size front_coded
some_in true = omega arith
some_in false = omega arith

-- the terms that are put together are those that stand there
pub told_are : (section : List ℕ) (shape : TermsShape) → length section < 2 ^ 63 → (k : AreShaped section shape) → told_in section shape ≡ k.terms
told_are section shape short k = many_taken (block_size shape.front_coded) shape.num_terms (drop shape.first.entry section) k.terms k.end (let l = length-drop shape.first.entry section in omega (arith, short, l)) k.many k.terms_are

-- they are a dictionary
pub is_dictionary : (section : List ℕ) (shape : TermsShape) (starts : List TermStart) → length section < 2 ^ 63 → IsKeptTerms section shape starts → IsDictionary (placed_terms section shape)
is_dictionary section shape starts short k =
    let are = told_are section shape short k.shaped in
    let p = shape.first.postings in
    let q = shape.first.positions in
    record {
      ascend = subst TermsAscend (sym (keys_by p q (told_in section shape) ∙ ap (map (λ (t : Told). t.0)) are)) (ascend_all k.shaped.terms k.shaped.terms_are.follow);
      count_fits = (let long = length_by p q (told_in section shape) ∙ ap length are in let few = k.count_fits in omega (arith, long, few));
      fit = subst (λ ts. AllFit (placed_by p q ts)) (sym are) k.shaped.fit;
    }

pub ascends : (section : List ℕ) (shape : TermsShape) (starts : List TermStart) → length section < 2 ^ 63 → ∥ IsKeptTerms section shape starts ∥₁ → TermsAscend (map (λ (t : Placed). t.0) (placed_terms section shape))
ascends section shape starts short known = ∥∥₁_elim known (TermsAscend-prop (map (λ (t : Placed). t.0) (placed_terms section shape))) (λ k. (is_dictionary section shape starts short k).ascend)

pub how_many : (section : List ℕ) (shape : TermsShape) (starts : List TermStart) → length section < 2 ^ 63 → ∥ IsKeptTerms section shape starts ∥₁ → shape.num_terms ≡ length (placed_terms section shape)
how_many section shape starts short known = ∥∥₁_elim known (hlevel props) (λ k. (let are = told_are section shape short k.shaped in sym (length_by shape.first.postings shape.first.positions (told_in section shape) ∙ ap length are ∙ k.shaped.many)))

pub shaped_many : (section : List ℕ) (shape : TermsShape) → length section < 2 ^ 63 → AreShaped section shape → shape.num_terms ≡ length (placed_terms section shape)
shaped_many section shape short k = sym (length_by shape.first.postings shape.first.positions (told_in section shape) ∙ ap length (told_are section shape short k) ∙ k.many)

-- ---- look-ups

-- what a look-up tells: how many terms are below the key, and the one that has it
pub record IsTold (section key : List ℕ) (shape : TermsShape) (n : ℕ) (o : Option (TermLengths × ℕ × ℕ)) : Type 0 where
  pub below : n ≡ prefix_len (stands_below key) (told_in section shape)
  pub found : o ≡ located key shape.first.postings shape.first.positions (told_in section shape)

module _ (section key : List ℕ) (shape : TermsShape) (starts : List TermStart) (short : length section < 2 ^ 63) (known : ∥ IsKeptTerms section shape starts ∥₁) where
  abbrev size : ℕ
  size = block_size shape.front_coded

  abbrev no_start : TermStart
  no_start = record { entry = 0; postings = 0; positions = 0 }

  pub none_told : AreUpTo section starts key 0 → IsTold section key shape 0 None
  none_told up = record {
    below = ∥∥₁_elim known (hlevel props) (λ k. sym (ap (prefix_len (stands_below key)) (told_are section shape short k.shaped) ∙ (none_up_to size section shape.first k.shaped.terms k.shaped.end (some_in shape.front_coded) short k.shaped.terms_are starts key no_start k.starts_are up).none));
    found = ∥∥₁_elim known (hlevel props) (λ k. sym (ap (located key shape.first.postings shape.first.positions) (told_are section shape short k.shaped) ∙ (none_up_to size section shape.first k.shaped.terms k.shaped.end (some_in shape.front_coded) short k.shaped.terms_are starts key no_start k.starts_are up).other shape.first.postings shape.first.positions));
  }

  module _ (block left n : ℕ) (o : Option (TermLengths × ℕ × ℕ)) (start d : TermStart) (up : AreUpTo section starts key (suc block)) (left_is : left ≡ min (shape.num_terms - size * block) size) (start_is : start ≡ get_or starts block d) (below : (ts : List Told) (end : List ℕ) → IsBlock size left section start ts end → n ≡ prefix_len (stands_below key) ts) (found : (ts : List Told) (end : List ℕ) → IsBlock size left section start ts end → EndWithin start ts → o ≡ located key start.postings start.positions ts) where
    module _ (k : IsKeptTerms section shape starts) where
      own_left : left ≡ min (length k.shaped.terms - size * block) size
      own_left = left_is ∙ ap (λ m. min (m - size * block) size) (sym k.shaped.many)

      abbrev own : List Told
      own = own_terms size section shape.first k.shaped.terms k.shaped.end (some_in shape.front_coded) short k.shaped.terms_are starts key d k.starts_are block up left own_left

      there : (rest : List ℕ) × IsBlock size left section (get_or starts block d) own rest
      there = block_is size section shape.first k.shaped.terms k.shaped.end (some_in shape.front_coded) short k.shaped.terms_are starts key d k.starts_are block up left own_left

      is_block : IsBlock size left section start own there.0
      is_block = subst (λ s. IsBlock size left section s own there.0) (sym start_is) there.1

      all_below : size * block + n ≡ prefix_len (stands_below key) (told_in section shape)
      all_below = block_counts size section shape.first k.shaped.terms k.shaped.end (some_in shape.front_coded) short k.shaped.terms_are starts key d k.starts_are block up left own_left n (below own there.0 is_block) ∙ sym (ap (prefix_len (stands_below key)) (told_are section shape short k.shaped))

      ends : EndWithin start own
      ends = subst (λ s. EndWithin s own) (sym start_is) (block_ends size section shape.first k.shaped.terms k.shaped.end (some_in shape.front_coded) short k.shaped.terms_are starts key d k.starts_are block up left own_left k.ends)

      all_found : o ≡ located key shape.first.postings shape.first.positions (told_in section shape)
      all_found =
          block_found size section shape.first k.shaped.terms k.shaped.end (some_in shape.front_coded) short k.shaped.terms_are starts key d k.starts_are block up left own_left o (found own there.0 is_block ends ∙ ap (λ (s : TermStart). located key s.postings s.positions own) start_is)
          ∙ sym (ap (located key shape.first.postings shape.first.positions) (told_are section shape short k.shaped))

    pub some_told : IsTold section key shape (size * block + n) o
    some_told = record { below = ∥∥₁_elim known (hlevel props) (λ k. all_below k); found = ∥∥₁_elim known (hlevel props) (λ k. all_found k) }

  -- what is told is so of the terms with their ranges
  pub told_below : (n : ℕ) (o : Option (TermLengths × ℕ × ℕ)) (view : List Placed) → placed_terms section shape ≡ view → IsTold section key shape n o → n ≡ prefix_len (λ (t : Placed). is_below key t.0) view
  told_below n o view view_is told = told.below ∙ counted_by key shape.first.postings shape.first.positions (told_in section shape) ∙ ap (prefix_len (λ (t : Placed). is_below key t.0)) view_is

  pub told_found : (n : ℕ) (o : Option (TermLengths × ℕ × ℕ)) (view : List Placed) → placed_terms section shape ≡ view → IsTold section key shape n o → option_map info_of_located o ≡ info_in key view
  told_found n o view view_is told = ap (option_map info_of_located) told.found ∙ located_by key shape.first.postings shape.first.positions (told_in section shape) ∙ ap (info_in key) view_is

  told_fits : (n : ℕ) (l : TermLengths × ℕ × ℕ) → IsTold section key shape n (Some l) → InfoFits (info_of_located l)
  told_fits n l told = ∥∥₁_elim known (hlevel props) (λ k. located_fits key shape.first.postings shape.first.positions (told_in section shape) l (is_dictionary section shape starts short k).fit told.found)

  pub found_fits : (n : ℕ) (o : Option TermPlace) → IsTold section key shape n (option_map located_at o) → IfSome o (λ found. InfoFits (info_of_located (located_at found)))
  found_fits n None told = tt
  found_fits n (Some found) told = told_fits n (located_at found) told

-- no terms
pub none_kept : (section : List ℕ) (starts : List TermStart) → section ≡ [] → starts ≡ [] → IsKeptTerms section (record { front_coded = false; num_terms = 0; longest = 0; first = record { entry = 0; postings = 0; positions = 0 } }) starts
none_kept section starts none empty = record {
  shaped = record { terms = []; end = []; many = refl; terms_are = record { spelled = none; follow = tt; fit = tt }; longest = refl; fit = tt };
  starts_are = empty;
  count_fits = omega arith;
  ends = record { postings = omega arith; positions = omega arith };
}
