-- Laws of documents that are known to earn low scores.
use Rattle.std.proofs.Common.{[], Bool, List, ap, arith, false, flat_map, get_or, if◌then◌else◌, length, leb-true, map, refl, set, subst, suc, sym, take, true, zero, ◌++◌, ◌+◌, ◌<◌, ◌==◌, ◌∙◌, ◌∷◌, ◌≡◌, ◌≤◌, ℕ}
use Rattle.std.specs.Prelude.{pos, ◌≤ℤ◌, ℤ}
use Rattle.std.specs.List.{AllByRecursion}
use Rattle.std.proofs.lemmas.Grind.{flat_map-append}
use Rattle.std.proofs.lemmas.List.{append-nil, get_or-map, length-append, length-map, length-set}
use Rattle.definitions.proofs.Lists.{by_order}
use Rattle.definitions.specs.Postings.{terminated}
use Rattle.docsets.proofs.EntryLaws.{from-from, from-in, from-out, none_of as no_entry}
use Rattle.docsets.proofs.MemberLaws.{entries-on, few-have, one-entry, same-from}
use Rattle.docsets.specs.Entries.{Entry, Rising, first, first_positions, from, single}
use Rattle.docsets.specs.Members.{at_document, enough, entries_at, entries_of, joining, listed, walk}
use Rattle.intersections.proofs.MeetingLaws.{kept-later, set-kept}
use Rattle.intersections.specs.Columns.{HaveOneColumn}
use Rattle.intersections.specs.Meetings.{Passes, meeting}
use Rattle.intersections.specs.Thresholds.{EarnLow, PassLow, columns_at}

-- what is low for a number of positions is low for fewer
pub EarnLow-lower : (score : ℕ → List (List ℕ) → ℕ) (limit : ℤ) (d few most : ℕ) (is_last : Bool) → few ≤ most → EarnLow score limit d is_last most → EarnLow score limit d is_last few
EarnLow-lower score limit d few most is_last l low = λ columns index within last long. low columns index within last (omega (arith, l, long))

-- the first has the positions of its document
pub first_own : (d : ℕ) (es : List Entry) → Rising 0 es → first es ≡ d → d < terminated → single (first_positions (entries_of d es)) ≡ single (first_positions es)
first_own d es r at small = ap (λ xs. single (first_positions xs)) (entries-on d es r at small) ∙ taken es
  where
    taken : (xs : List Entry) → single (first_positions (take 1 xs)) ≡ single (first_positions xs)
    taken [] = refl
    taken (x ∷ xs) = refl

-- ---- columns of a document that all have

-- the column of a list that has it
own_column : (d : ℕ) (es : List Entry) → HaveOneColumn es → length (entries_of d es) ≡ 1 → columns_at d (es ∷ []) ≡ single (first_positions (entries_of d es)) ∷ []
own_column d [] c one = absurd (omega (arith, one))
own_column d (e ∷ es) c one = (elim (d == e.doc) as (λ b. length (if b then e ∷ entries_of d es else entries_of d es) ≡ 1 → flat_map (λ e. e.positions) ((if b then e ∷ entries_of d es else entries_of d es) ++ []) ≡ single (first_positions (if b then e ∷ entries_of d es else entries_of d es)) ∷ []) [
  | true ↦ (λ h. ap (λ xs. flat_map (λ e. e.positions) ((e ∷ xs) ++ [])) (no_entry (entries_of d es) (omega (arith, h))) ∙ (append-nil e.positions ∙ c.0))
  | false ↦ (λ h. own_column d es c.3 h)
]) one

-- of those that all have it each has one entry
each_has : {X : Type 0} (entries : X → List Entry) → ((x : X) → Rising 0 (entries x)) → (d : ℕ) (x : X) (xs : List X) → length (x ∷ xs) ≤ length (entries_at d (map entries (x ∷ xs))) → (length (entries_of d (entries x)) ≡ 1) × (length xs ≤ length (entries_at d (map entries xs)))
each_has entries rising d x xs all =
    let one = one-entry d 0 (entries x) (rising x) in
    let few = few-have entries rising d xs in
    let both = length-append (entries_of d (entries x)) (entries_at d (map entries xs)) in
    (omega (arith, all, one, few, both), omega (arith, all, one, few, both))

-- its columns are theirs
pub columns_of : {X : Type 0} (entries : X → List Entry) → ((x : X) → Rising 0 (entries x)) → ((x : X) → HaveOneColumn (entries x)) → (d : ℕ) (xs : List X) → length xs ≤ length (entries_at d (map entries xs)) → columns_at d (map entries xs) ≡ map (λ x. single (first_positions (entries_of d (entries x)))) xs
columns_of entries rising one d [] all = refl
columns_of entries rising one d (x ∷ xs) all =
    let has = each_has entries rising d x xs all in
    let own = ap (flat_map (λ e. e.positions)) (sym (append-nil (entries_of d (entries x)))) ∙ own_column d (entries x) (one x) has.0 in
    flat_map-append (λ e. e.positions) (entries_of d (entries x)) (entries_at d (map entries xs))
    ∙ (ap (λ ps. ps ++ columns_at d (map entries xs)) own
    ∙ ap (λ ps. single (first_positions (entries_of d (entries x))) ∷ ps) (columns_of entries rising one d xs has.1))

-- each of them has it
pub has_entry : {X : Type 0} (entries : X → List Entry) → ((x : X) → Rising 0 (entries x)) → (d i : ℕ) (xs : List X) (x : X) → length xs ≤ length (entries_at d (map entries xs)) → i < length xs → length (entries_of d (entries (get_or xs i x))) ≡ 1
has_entry entries rising d i [] x all l = absurd (omega (arith, l))
has_entry entries rising d zero (y ∷ ys) x all l = (each_has entries rising d y ys all).0
has_entry entries rising d (suc i) (y ∷ ys) x all l = has_entry entries rising d i ys x (each_has entries rising d y ys all).1 (omega (arith, l))

-- what one column tells of all
pub low_by_one : {X : Type 0} (entries : X → List Entry) → ((x : X) → Rising 0 (entries x)) → ((x : X) → HaveOneColumn (entries x)) → (score : ℕ → List (List ℕ) → ℕ) (limit : ℤ) (d i most : ℕ) (is_last : Bool) (xs : List X) (x : X) → length xs ≤ length (entries_at d (map entries xs)) → i < length xs → x ≡ get_or xs i x → (is_last ≡ true → i + 1 ≡ length xs) → length (single (first_positions (entries_of d (entries x)))) ≤ most → EarnLow score limit d is_last most → pos (score d (columns_at d (map entries xs))) ≤ℤ limit
low_by_one entries rising one score limit d i most is_last xs x all l is last few low =
    let own : List ℕ = single (first_positions (entries_of d (entries x))) in
    let columns = columns_of entries rising one d xs all in
    let long = ap length columns in
    let count = length-map xs (λ x. single (first_positions (entries_of d (entries x)))) in
    let here : get_or (columns_at d (map entries xs)) i [] ≡ own = ap (λ cs. get_or cs i []) columns ∙ (get_or-map (λ x. single (first_positions (entries_of d (entries x)))) xs i x [] l ∙ ap (λ y. single (first_positions (entries_of d (entries y)))) (sym is)) in
    let size = ap length here in
    low (columns_at d (map entries xs)) i (omega (arith, long, count, l)) (λ e. (let at = last e in omega (arith, at, long, count))) (omega (arith, size, few))

-- ---- lists that go on

pub PassLow_on : (score : ℕ → List (List ℕ) → ℕ) (limit : ℤ) (a b c : ℕ) (xss yss zss : List (List Entry)) → PassLow score limit a b xss yss → PassLow score limit b c yss zss → PassLow score limit a c xss zss
PassLow_on score limit a b c xss yss zss p q =
    let up = p.up in
    let further = q.up in
    let long = p.long in
    record {
      up = omega (arith, up, further);
      small = q.small;
      long = q.long ∙ p.long;
      kept = q.kept ∙ kept-later b c yss xss p.kept q.up;
      passed = λ d l h all. by_order b d (pos (score d (columns_at d xss)) ≤ℤ limit)
          (λ i. (let same = same-from b d yss xss p.kept i in let len = ap length same in subst (λ es. pos (score d (flat_map (λ e. e.positions) es)) ≤ℤ limit) same (q.passed d i h (omega (arith, len, all, long)))))
          (λ o. p.passed d l o all);
    }

-- where not all have one that is passed
pub none_low : (score : ℕ → List (List ℕ) → ℕ) (limit : ℤ) (low high : ℕ) (olds news : List (List Entry)) → Passes low high olds news → PassLow score limit low high olds news
none_low score limit low high olds news p = record {
  up = p.up;
  small = p.small;
  long = p.long;
  kept = p.kept;
  passed = λ d l h all. (let few = p.passed d l h in absurd (omega (arith, few, all)));
}

-- where the one that is passed earns a low score
pub one_low : (score : ℕ → List (List ℕ) → ℕ) (limit : ℤ) (d : ℕ) (ess : List (List Entry)) → d < terminated → pos (score d (columns_at d ess)) ≤ℤ limit → PassLow score limit d (d + 1) ess ess
one_low score limit d ess small low = record {
  up = omega arith;
  small = omega (arith, small);
  long = refl;
  kept = refl;
  passed = λ x l h all. (let same : d ≡ x = omega (arith, l, h) in subst (λ y. pos (score y (columns_at y ess)) ≤ℤ limit) same low);
}

-- where one list moves, and those that it passes are low by its column
pub lead_low : {X : Type 0} (entries : X → List Entry) → ((x : X) → Rising 0 (entries x)) → ((x : X) → HaveOneColumn (entries x)) → (score : ℕ → List (List ℕ) → ℕ) (limit : ℤ) (target bound i : ℕ) (is_last : Bool) (xs : List X) (old new : X) → i < length xs → old ≡ get_or xs i old → (is_last ≡ true → i + 1 ≡ length xs) → entries new ≡ from bound (entries old) → target ≤ bound → bound ≤ terminated → ((d : ℕ) → target ≤ d → d < bound → 1 ≤ length (entries_of d (entries old)) → EarnLow score limit d is_last (length (single (first_positions (entries_of d (entries old)))))) → PassLow score limit target bound (map entries xs) (map entries (set xs i new))
lead_low entries rising one score limit target bound i is_last xs old new l is last rest up small low = record {
  up = up;
  small = small;
  long = length-map (set xs i new) entries ∙ (length-set xs i new ∙ sym (length-map xs entries));
  kept = set-kept entries bound i xs old new l is (ap (from bound) rest ∙ from-from bound bound (entries old) (omega arith));
  passed = λ d b h all. (let many = length-map xs entries in
      let has : length (entries_of d (entries old)) ≡ 1 = ap (λ y. length (entries_of d (entries y))) is ∙ has_entry entries rising d i xs old (omega (arith, all, many)) l in
      low_by_one entries rising one score limit d i (length (single (first_positions (entries_of d (entries old))))) is_last xs old (omega (arith, all, many)) l is last (omega arith) (low d b h (omega (arith, has))));
}

-- ---- what they have together

all_walk : (P : Entry → Type 0) (flag : ℕ → Bool) (entry : ℕ → Entry) → ((d : ℕ) → flag d ≡ true → P (at_document d (entry d))) → (low n : ℕ) → AllByRecursion P (walk flag entry low n)
unfolding walk
all_walk P flag entry holds low zero = tt
all_walk P flag entry holds low (suc n) =
    let ih = all_walk P flag entry holds (low + 1) n in
    (elim (flag low) as (λ b. flag low ≡ b → AllByRecursion P (if b then at_document low (entry low) ∷ walk flag entry (low + 1) n else walk flag entry (low + 1) n)) [ true ↦ (λ e. (holds low e, ih)) | false ↦ (λ e. ih) ]) refl

all_listed : (P : Entry → Type 0) (flag : ℕ → Bool) (entry : ℕ → Entry) → ((d : ℕ) → flag d ≡ true → P (at_document d (entry d))) → AllByRecursion P (listed flag entry 0)
unfolding listed
all_listed P flag entry holds = all_walk P flag entry holds 0 terminated

-- those that are passed earn low scores
pub meeting_low : (score : ℕ → List (List ℕ) → ℕ) (limit : ℤ) (low high : ℕ) (olds news : List (List Entry)) → PassLow score limit low high olds news → AllByRecursion (λ e. low ≤ e.doc → e.doc < high → pos (score e.doc e.positions) ≤ℤ limit) (meeting olds)
meeting_low score limit low high olds news p = all_listed (λ e. low ≤ e.doc → e.doc < high → pos (score e.doc e.positions) ≤ℤ limit) (enough (length olds) olds) (λ d. joining d (entries_at d olds))
    (λ d f. λ l h. p.passed d l h (leb-true (length olds) (length (entries_at d olds)) f))

-- of those from a document on
pub low_behind : (score : ℕ → List (List ℕ) → ℕ) (limit : ℤ) (doc high low : ℕ) (es : List Entry) → Rising low es → AllByRecursion (λ e. doc ≤ e.doc → e.doc < high → pos (score e.doc e.positions) ≤ℤ limit) es → AllByRecursion (λ e. e.doc < high → pos (score e.doc e.positions) ≤ℤ limit) (from doc es)
low_behind score limit doc high low [] r all = tt
low_behind score limit doc high low (e ∷ es) r all =
    let rest = low_behind score limit doc high (e.doc + 1) es r.3 all.1 in
    let P : List Entry → Type 0 = AllByRecursion (λ e. e.doc < high → pos (score e.doc e.positions) ≤ℤ limit) in
    by_order doc e.doc (P (from doc (e ∷ es)))
    (λ i. subst P (sym (from-in doc e es i)) ((λ h. all.0 i h), rest))
    (λ o. subst P (sym (from-out doc e es o)) rest)
