-- Laws of deletions that a later one repeats.
use Rattle.std.proofs.Common.{[], ◌++◌, ◌*◌, ◌+◌, ◌<◌, ◌==◌, ◌∙◌, ◌∷◌, ◌≡◌, ◌≤◌, ◌||◌, ◌&&◌, Bool, List, ap, ap₂, arith, drop, false, get_or, length, map, nat_le, nat_lt, not, refl, suc, sym, true, ℕ}
use Rattle.std.specs.Cmp.Derive.{both_true}
use Rattle.std.specs.List.{AllByRecursion, list_any}
use Rattle.std.specs.List.Sorted.{IsPermutation}
use Rattle.std.specs.Str.{bytes_eq}
use Rattle.std.proofs.lemmas.Bool.{and_parts, true≢false}
use Rattle.std.proofs.lemmas.Bool.Decides.{nat_tests}
use Rattle.std.proofs.lemmas.List.{drop-map, drop_all}
use Rattle.std.proofs.lemmas.List.Folds.{list_any-append}
use Rattle.std.proofs.lemmas.List.Sorted.{list_any-IsPermutation}
use Rattle.std.proofs.lemmas.Slice.Eq.{bytes_eq-Decides}
use Rattle.definitions.proofs.Lists.{or_false as or-none}
use Rattle.definitions.proofs.Walks.{any_map as any-map}
use Rattle.definitions.specs.Alive.{Segment}
use Rattle.definitions.specs.Values.{Document}
use Rattle.segment_definitions.specs.Rows.{left_rows}
use Rattle.segment_definitions.specs.Waiting.{is_removed, numbered_rows, pending_rows}
use Rattle.segment_search.proofs.Places.{rest_is}
use Rattle.index_state.proofs.EachFlagged.{before_all}
use Rattle.index_state.specs.Deletions.{IsSmall, is_repeated, numbered, repeats, term_of}
use Rattle.index_state.specs.declared.deletions.Deletion.{Deletion}

-- the last one is not repeated
pub last-stays : {X : Type 0} (f : X → Deletion) (xs : List X) (at : ℕ) (x : X) → at < length xs → length xs ≤ at + 1 → x ≡ get_or xs at x → is_repeated (drop at (map f xs)) ≡ false
last-stays f xs at x l past here =
    ap is_repeated (drop-map f at xs)
    ∙ ap (λ ys. is_repeated (map f ys)) (rest_is xs at x l here ∙ ap (λ ys. x ∷ ys) (drop_all (at + 1) xs past))

-- another one is, or isn't, by the next
pub by-next : {X : Type 0} (f : X → Deletion) (xs : List X) (at : ℕ) (x next : X) → at + 1 < length xs → x ≡ get_or xs at x → next ≡ get_or xs (at + 1) next → is_repeated (drop at (map f xs)) ≡ repeats (f x) (f next)
by-next f xs at x next l here there =
    ap is_repeated (drop-map f at xs)
    ∙ ap (λ ys. is_repeated (map f ys)) (rest_is xs at x (omega (arith, l)) here ∙ ap (λ ys. x ∷ ys) (rest_is xs (at + 1) next l there))

-- a test that passes from a deletion to the one that repeats it
abbrev pub Passes : ℕ → (Deletion → Bool) → Type 0
Passes n test = (d next : Deletion) → IsSmall n d → repeats d next ≡ true → test d ≡ true → test next ≡ true

-- one that is repeated makes no difference
pub any-repeated : (n : ℕ) (test : Deletion → Bool) (ds : List Deletion) → Passes n test → AllByRecursion (IsSmall n) ds → is_repeated ds ≡ true → list_any test ds ≡ list_any test (drop 1 ds)
any-repeated n test [] passes small is = absurd (true≢false (sym is))
any-repeated n test (d ∷ []) passes small is = absurd (true≢false (sym is))
any-repeated n test (d ∷ next ∷ ds) passes small is =
    (elim (test d) as (λ b. test d ≡ b → (b || (test next || list_any test ds)) ≡ (test next || list_any test ds)) [
      | true ↦ (λ e. sym (ap (λ b. b || list_any test ds) (passes d next small.0 is e)))
      | false ↦ (λ e. refl)
    ]) refl

-- one that is kept is looked at where it then is
moved : (a t r : Bool) → ((a || (t || false)) || r) ≡ (a || (t || r))
moved true t r = refl
moved false true r = refl
moved false false r = refl

pub any-kept : (test : Deletion → Bool) (d : Deletion) (last next rest ds : List Deletion) → ds ≡ d ∷ rest → next ≡ last ++ d ∷ [] → (list_any test next || list_any test rest) ≡ (list_any test last || list_any test ds)
any-kept test d last next rest ds here more =
    ap (λ xs. list_any test xs || list_any test rest) more
    ∙ ap (λ b. b || list_any test rest) (list_any-append test last (d ∷ []))
    ∙ moved (list_any test last) (test d) (list_any test rest)
    ∙ ap (λ xs. list_any test last || list_any test xs) (sym here)

pub any-over : (test : Deletion → Bool) (last rest : List Deletion) → rest ≡ [] → list_any test last ≡ (list_any test last || list_any test rest)
any-over test last rest none = sym (ap (λ xs. list_any test last || list_any test xs) none ∙ or-none (list_any test last))

-- deletions in another order
abbrev too-many : ℕ → Deletion → Bool
too-many n d = nat_le n d.docs

pub small-moved : (n : ℕ) (ds es : List Deletion) → IsPermutation ds es → AllByRecursion (IsSmall n) ds → AllByRecursion (IsSmall n) es
small-moved n ds es moved small = from-none es (sym (list_any-IsPermutation (too-many n) ds es moved) ∙ to-none ds small)
  where
    to-none : (ds : List Deletion) → AllByRecursion (IsSmall n) ds → list_any (too-many n) ds ≡ false
    to-none [] small = refl
    to-none (d ∷ ds) small = ap (λ b. b || list_any (too-many n) ds) (let e : nat_le n d.docs ≡ false = grind (arith, nat_tests, small.0) in e) ∙ to-none ds small.1

    from-none : (es : List Deletion) → list_any (too-many n) es ≡ false → AllByRecursion (IsSmall n) es
    from-none [] none = tt
    from-none (e ∷ es) none =
        (elim (nat_le n e.docs) as (λ b. nat_le n e.docs ≡ b → (b || list_any (too-many n) es) ≡ false → AllByRecursion (IsSmall n) (e ∷ es)) [
          | true ↦ (λ is no. absurd (true≢false no))
          | false ↦ (λ is no. (grind (arith, nat_tests, is), from-none es no))
        ]) refl none

-- ---- what deletions do, where each such test tells the same of two lists of them
abbrev pub AreAlike : ℕ → List Deletion → List Deletion → Type 0
AreAlike n ds es = (test : Deletion → Bool) → Passes n test → list_any test ds ≡ list_any test es

same-term : (d next : Deletion) → repeats d next ≡ true → d.term ≡ next.term
same-term d next is = (bytes_eq-Decides d.term next.term).0 (and_parts (bytes_eq d.term next.term) _ is).0

no-earlier : (n : ℕ) (d next : Deletion) → IsSmall n d → repeats d next ≡ true → n * d.segments + d.docs ≤ n * next.segments + next.docs
no-earlier n d next small is =
    let later = (and_parts (bytes_eq d.term next.term) (nat_lt d.segments next.segments || ((d.segments == next.segments) && nat_le d.docs next.docs)) is).1 in
    (elim (nat_lt d.segments next.segments) as (λ b. nat_lt d.segments next.segments ≡ b → (b || ((d.segments == next.segments) && nat_le d.docs next.docs)) ≡ true → n * d.segments + d.docs ≤ n * next.segments + next.docs) [
      | true ↦ (λ less t. (let whole = before_all n d.segments d.docs next.segments (grind (arith, nat_tests, less)) small in omega (arith, whole)))
      | false ↦ (λ more t.
          let parts = and_parts (d.segments == next.segments) (nat_le d.docs next.docs) t in
          let segments : d.segments ≡ next.segments = grind (arith, nat_tests, parts.0) in
          let docs : d.docs ≤ next.docs = grind (arith, nat_tests, parts.1) in
          let same = ap (λ k. n * k) segments in
          omega (arith, same, docs))
    ]) refl later

terms-alike : (has : List ℕ → Document → Bool) (n : ℕ) (ds es : List Deletion) → AreAlike n ds es → (doc : Document) → list_any (λ t. has t doc) (map term_of ds) ≡ list_any (λ t. has t doc) (map term_of es)
terms-alike has n ds es alike doc =
    any-map term_of (λ t. has t doc) ds
    ∙ alike (λ d. has (term_of d) doc) (λ d next small is t. ap (λ term. has term doc) (sym (same-term d next is)) ∙ t)
    ∙ sym (any-map term_of (λ t. has t doc) es)

removed-alike : (has : List ℕ → Document → Bool) (n : ℕ) (ds es : List Deletion) → AreAlike n ds es → (i : ℕ) (doc : Document) → is_removed has (map (numbered n) ds) i doc ≡ is_removed has (map (numbered n) es) i doc
removed-alike has n ds es alike i doc =
    let test : Deletion → Bool = λ d. nat_lt i (n * d.segments + d.docs) && has d.term doc in
    any-map (numbered n) (λ del. nat_lt i del.1 && has del.0 doc) ds
    ∙ alike test
    (λ d next small is t.
    let parts = and_parts (nat_lt i (n * d.segments + d.docs)) (has d.term doc) t in
    let later = no-earlier n d next small is in
    both_true (let e : nat_lt i (n * next.segments + next.docs) ≡ true = grind (arith, nat_tests, parts.0, later) in e) (ap (λ term. has term doc) (sym (same-term d next is)) ∙ parts.1))
    ∙ sym (any-map (numbered n) (λ del. nat_lt i del.1 && has del.0 doc) es)

pub left-alike : (has : List ℕ → Document → Bool) (n : ℕ) (ds es : List Deletion) → AreAlike n ds es → (groups : List Segment) → map (left_rows has (map term_of ds)) groups ≡ map (left_rows has (map term_of es)) groups
left-alike has n ds es alike [] = refl
left-alike has n ds es alike (rows ∷ groups) = ap₂ (λ rs more. rs ∷ more) (one rows) (left-alike has n ds es alike groups)
  where
    one : (rows : Segment) → left_rows has (map term_of ds) rows ≡ left_rows has (map term_of es) rows
    one [] = refl
    one (row ∷ rows) = ap₂ (λ (b : Bool) more. (row.0, row.1 && not b) ∷ more) (terms-alike has n ds es alike row.0) (one rows)

pub pending-alike : (has : List ℕ → Document → Bool) (n : ℕ) (ds es : List Deletion) → AreAlike n ds es → (i : ℕ) (docs : List (List Document)) → pending_rows has (map (numbered n) ds) n i docs ≡ pending_rows has (map (numbered n) es) n i docs
pending-alike has n ds es alike i [] = refl
pending-alike has n ds es alike i (group ∷ docs) = ap₂ (λ rs more. rs ∷ more) (one i group) (pending-alike has n ds es alike (i + n) docs)
  where
    one : (i : ℕ) (docs : List Document) → numbered_rows has (map (numbered n) ds) i docs ≡ numbered_rows has (map (numbered n) es) i docs
    one i [] = refl
    one i (doc ∷ docs) = ap₂ (λ (b : Bool) more. (doc, not b) ∷ more) (removed-alike has n ds es alike i doc) (one (suc i) docs)
