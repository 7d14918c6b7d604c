-- Skip entries, taken one after another.
use Rattle.std.proofs.Common.{[], Bool, IsSome, List, None, Option, Some, ap, ap₂, arith, cond, drop, false, length, nat_eq, nat_lt, refl, subst, suc, sym, take, true, zero, ◌&&◌, ◌+◌, ◌-◌, ◌<◌, ◌≡◌, ◌≤◌, ◌∙◌, ◌∷◌, ℕ}
use Rattle.std.proofs.lemmas.Bool.Decides.{nat_tests}
use Rattle.std.specs.List.{prefix_len}
use Rattle.std.specs.Option.{option_map_or}
use Rattle.codes.specs.SkipBlocks.{Skips, are_skips, block_size, blocks_before, blocks_len, counts_len, entries_of, last_doc, passed, take_entries, take_entry}
use Rattle.definitions.specs.Json.{◌>>=◌}
use Rattle.layouts.specs.SkipEntries.{SkipEntry, are_entries, is_entry}

-- ---- entries one by one

step_some : (c p : Bool) (n least : ℕ) (bs after : List ℕ) (e : SkipEntry) → take_entry c p bs ≡ Some (e, after) → are_skips c p (suc n) least bs ≡ (is_entry c p least e && are_skips c p n (e.last_doc + 1) after)
step_some c p n least bs after e taken =
    ap (λ o. option_map_or (are_entries c p least) (o >>= (λ q. take_entries c p n q.1 >>= (λ es. Some (q.0 ∷ es)))) false) taken
    ∙ go (take_entries c p n after)
  where
    no : (b : Bool) → false ≡ (b && false)
    no true = refl
    no false = refl

    go : (o : Option (List SkipEntry)) → option_map_or (are_entries c p least) (o >>= (λ es. Some (e ∷ es))) false ≡ (is_entry c p least e && option_map_or (are_entries c p (e.last_doc + 1)) o false)
    go None = no (is_entry c p least e)
    go (Some es) = refl

-- what is left decides
pub one_checked : (c p : Bool) (n i least next : ℕ) (bs rest after : List ℕ) (e : SkipEntry) → are_skips c p n 0 bs ≡ are_skips c p (n - i) least rest → i < n → take_entry c p rest ≡ Some (e, after) → is_entry c p least e ≡ true → next ≡ e.last_doc + 1 → are_skips c p n 0 bs ≡ are_skips c p (n - (i + 1)) next after
one_checked c p n i least next bs rest after e so_far more taken sound is =
    let left : n - i ≡ suc (n - (i + 1)) = omega arith in
    so_far
    ∙ ap (λ k. are_skips c p k least rest) left
    ∙ step_some c p (n - (i + 1)) least rest after e taken
    ∙ ap (λ b. b && are_skips c p (n - (i + 1)) (e.last_doc + 1) after) sound
    ∙ ap (λ k. are_skips c p (n - (i + 1)) k after) (sym is)

pub one_refused : (c p : Bool) (n i least : ℕ) (bs rest after : List ℕ) (e : SkipEntry) → are_skips c p n 0 bs ≡ are_skips c p (n - i) least rest → i < n → take_entry c p rest ≡ Some (e, after) → is_entry c p least e ≡ false → false ≡ are_skips c p n 0 bs
one_refused c p n i least bs rest after e so_far more taken sound =
    let left : n - i ≡ suc (n - (i + 1)) = omega arith in
    sym (so_far
    ∙ ap (λ k. are_skips c p k least rest) left
    ∙ step_some c p (n - (i + 1)) least rest after e taken
    ∙ ap (λ b. b && are_skips c p (n - (i + 1)) (e.last_doc + 1) after) sound)

pub all_taken : (c p : Bool) (n i least : ℕ) (bs rest : List ℕ) (b : Bool) → are_skips c p n 0 bs ≡ are_skips c p (n - i) least rest → i ≡ n → b ≡ nat_eq (length rest) 0 → b ≡ are_skips c p n 0 bs
all_taken c p n i least bs rest b so_far all is =
    let none : n - i ≡ 0 = omega arith in
    is ∙ empty rest ∙ sym (so_far ∙ ap (λ k. are_skips c p k least rest) none)
  where
    empty : (xs : List ℕ) → nat_eq (length xs) 0 ≡ are_skips c p 0 least xs
    empty [] = refl
    empty (x ∷ xs) = (let e : nat_eq (length (x ∷ xs)) 0 ≡ false = grind (arith, nat_tests) in e)

-- ---- a reader

follow_suc : (c p : Bool) (n : ℕ) (bs after : List ℕ) (e : SkipEntry) → IsSome (take_entries c p (suc n) bs) → take_entry c p bs ≡ Some (e, after) → (entries_of (take_entries c p (suc n) bs) ≡ e ∷ entries_of (take_entries c p n after)) × IsSome (take_entries c p n after)
follow_suc c p n bs after e some taken =
    let whole : take_entries c p (suc n) bs ≡ (take_entries c p n after >>= (λ es. Some (e ∷ es))) = ap (λ o. o >>= (λ q. take_entries c p n q.1 >>= (λ es. Some (q.0 ∷ es)))) taken in
    let both = go (take_entries c p n after) (subst IsSome whole some) in
    (ap entries_of whole ∙ both.0, both.1)
  where
    go : (o : Option (List SkipEntry)) → IsSome (o >>= (λ es. Some (e ∷ es))) → (entries_of (o >>= (λ es. Some (e ∷ es))) ≡ e ∷ entries_of o) × IsSome o
    go None is = absurd (let h : IsSome {T = List SkipEntry} None = is in cc)
    go (Some es) is = (refl, refl)

-- the entries are that one and those that follow
pub entries_follow : (c p : Bool) (n : ℕ) (bs after : List ℕ) (e : SkipEntry) → IsSome (take_entries c p n bs) → 0 < n → take_entry c p bs ≡ Some (e, after) → (entries_of (take_entries c p n bs) ≡ e ∷ entries_of (take_entries c p (n - 1) after)) × IsSome (take_entries c p (n - 1) after)
entries_follow c p zero bs after e some more taken = absurd (omega arith)
entries_follow c p (suc n) bs after e some more taken =
    let less : n ≡ suc n - 1 = omega arith in
    let P : ℕ → Type 0 = λ k. (entries_of (take_entries c p (suc n) bs) ≡ e ∷ entries_of (take_entries c p k after)) × IsSome (take_entries c p k after) in
    subst P less (follow_suc c p n bs after e some taken)

-- one block on
pub passed_one : (c p : Bool) (left after : List SkipEntry) (e : SkipEntry) (rest bytes sums bytes' sums' : ℕ) → left ≡ e ∷ after → bytes' ≡ bytes + block_size e → sums' ≡ sums + e.count_sum → record { counts = c; positions = p; left = after; rest = rest; byte_offset = bytes'; position_offset = sums' } ≡ passed 1 (record { counts = c; positions = p; left = left; rest = rest; byte_offset = bytes; position_offset = sums })
passed_one c p left after e rest bytes sums bytes' sums' is more_bytes more_sums =
    let here : bytes' ≡ bytes + blocks_len (e ∷ []) = omega (arith, more_bytes) in
    let there : sums' ≡ sums + counts_len (e ∷ []) = omega (arith, more_sums) in
    ap₂ (λ b s. make after b s) here there ∙ ap of_left (sym is)
  where
    make : List SkipEntry → ℕ → ℕ → Skips
    make l b s = record { counts = c; positions = p; left = l; rest = rest; byte_offset = b; position_offset = s }

    of_left : List SkipEntry → Skips
    of_left l = passed 1 (record { counts = c; positions = p; left = l; rest = rest; byte_offset = bytes; position_offset = sums })

-- ---- seeking

abbrev reader : Bool → Bool → List SkipEntry → ℕ → ℕ → ℕ → Skips
reader c p l r b q = record { counts = c; positions = p; left = l; rest = r; byte_offset = b; position_offset = q }

-- a block that ends before the document is passed
pub record Passes (target : ℕ) (s : Skips) : Type 0 where
  pub some : 0 < length s.left
  pub before : 0 < blocks_before target s
  pub goes : passed (blocks_before target (passed 1 s)) (passed 1 s) ≡ passed (blocks_before target s) s
  pub fewer : length (passed 1 s).left < length s.left

passes_first : (c p : Bool) (l : List SkipEntry) (r b q target : ℕ) → last_doc l < target → target ≤ 2147483647 → Passes target (reader c p l r b q)
passes_first c p [] r b q target early few = absurd (omega arith)
passes_first c p (e ∷ es) r b q target early few =
    let is : nat_lt e.last_doc target ≡ true = grind (arith, nat_tests) in
    let k = prefix_len (λ (d : SkipEntry). nat_lt d.last_doc target) es in
    let count : blocks_before target (reader c p (e ∷ es) r b q) ≡ suc k = ap (λ t. cond t (1 + k) 0) is ∙ (let one : 1 + k ≡ suc k = omega arith in one) in
    let bytes : b + (block_size e + 0) + blocks_len (take k es) ≡ b + (block_size e + blocks_len (take k es)) = omega arith in
    let sums : q + (e.count_sum + 0) + counts_len (take k es) ≡ q + (e.count_sum + counts_len (take k es)) = omega arith in
    record {
      some = omega arith;
      before = omega (arith, count);
      goes = ap₂ (λ m n. reader c p (drop k es) r m n) bytes sums ∙ ap (λ n. passed n (reader c p (e ∷ es) r b q)) (sym count);
      fewer = omega arith;
    }

pub passes : (s : Skips) (target : ℕ) → last_doc s.left < target → target ≤ 2147483647 → Passes target s
passes s target early few = passes_first s.counts s.positions s.left s.rest s.byte_offset s.position_offset target early few

-- a block that ends at the document or later stays
pub stays : (s : Skips) (target : ℕ) → target ≤ last_doc s.left → blocks_before target s ≡ 0
stays s target late = go s.left late
  where
    go : (l : List SkipEntry) → target ≤ last_doc l → prefix_len (λ (d : SkipEntry). nat_lt d.last_doc target) l ≡ 0
    go [] h = refl
    go (e ∷ es) h = (let no : nat_lt e.last_doc target ≡ false = grind (arith, nat_tests) in ap (λ t. cond t (1 + prefix_len (λ (d : SkipEntry). nat_lt d.last_doc target) es) 0) no)

-- where a reader stands on its way
pub record Seeks (target : ℕ) (first now : Skips) (moved : Bool) : Type 0 where
  pub goes : passed (blocks_before target now) now ≡ passed (blocks_before target first) first
  pub still : moved ≡ false → now ≡ first
  pub on : moved ≡ true → 0 < blocks_before target first
