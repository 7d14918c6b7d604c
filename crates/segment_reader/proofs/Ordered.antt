-- Terms in ascending order: where a key stands among them.
use Rattle.std.proofs.Common.{[], List, ap, arith, get_or, length, suc, true, zero, ◌<◌, ◌≡◌, ◌≤◌, ◌∷◌, ℕ}
use Rattle.std.specs.Cmp.Lexicographic.{nat_list_cmp_total, slice_cmp}
use Rattle.std.specs.Ordering.{is_lt, nat_cmp}
use Rattle.std.specs.declared.cmp.Ordering.TheVariants.{Less}
use Rattle.layouts.specs.TermSections.{TermsAscend}
use Rattle.segment_reader.specs.Searching.{is_below}
use Rattle.front_coding.proofs.TermsTaken.{less_from}

pub behind : (s : List ℕ) (ts : List (List ℕ)) → TermsAscend (s ∷ ts) → TermsAscend ts
behind s [] a = tt
behind s (t ∷ ts) a = a.1

transitive : (r s t : List ℕ) → slice_cmp nat_cmp r s ≡ Less → slice_cmp nat_cmp s t ≡ Less → slice_cmp nat_cmp r t ≡ Less
transitive r s t first second = nat_list_cmp_total.trans r s t first second

-- a term is below where one behind it is
first_below : (key s : List ℕ) (ts : List (List ℕ)) (j : ℕ) (d : List ℕ) → TermsAscend (s ∷ ts) → j < length (s ∷ ts) → is_below key (get_or (s ∷ ts) j d) ≡ true → is_below key s ≡ true
first_below key s ts zero d a within holds = holds
first_below key s [] (suc j) d a within holds = absurd (omega arith)
first_below key s (t ∷ ts) (suc j) d a within holds =
    let later : is_below key t ≡ true = first_below key t ts j d a.1 (omega arith) holds in
    ap is_lt (transitive s t key a.0 (less_from (slice_cmp nat_cmp t key) later))

pub below_before : (key : List ℕ) (ts : List (List ℕ)) (i j : ℕ) (d : List ℕ) → TermsAscend ts → i ≤ j → j < length ts → is_below key (get_or ts j d) ≡ true → is_below key (get_or ts i d) ≡ true
below_before key [] i j d a order within holds = absurd (omega arith)
below_before key (t ∷ ts) zero j d a order within holds = first_below key t ts j d a within holds
below_before key (t ∷ ts) (suc i) zero d a order within holds = absurd (omega arith)
below_before key (t ∷ ts) (suc i) (suc j) d a order within holds = below_before key ts i j d (behind t ts a) (omega arith) (omega arith) holds
