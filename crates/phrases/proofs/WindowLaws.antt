-- Laws of the rows that a window takes and leaves.
use Rattle.std.proofs.Common.{[], List, ap, append_assoc, arith, drop, false, filter, get_or, if◌then◌else◌, length, map, max, nat_le, nat_lt, refl, subst, suc, sym, take, true, zero, ◌++◌, ◌+◌, ◌-◌, ◌<◌, ◌∙◌, ◌∷◌, ◌≡◌, ◌≤◌, ℕ}
use Rattle.std.proofs.Math.Seq.{drop-append_seam, take-length}
use Rattle.std.proofs.lemmas.List.{drop-append-le, drop_more, length-append, length-drop, map-append, take-append-le}
use Rattle.docsets.specs.Entries.{Entry, IsRest, Rising, first, first_positions, first_score, from, most_positions, single}
use Rattle.docsets.specs.EntryLaws.{Rising-lower}
use Rattle.docsets.proofs.EntryLaws.{from-first, from-out, none_left}
use Rattle.definitions.specs.Postings.{terminated}
use Rattle.intersections.specs.Columns.{HaveOneColumn}
use Rattle.docsets.specs.Members.{entries_at}
use Rattle.phrases.specs.Places.{Ascends, Rises}
use Rattle.phrases.specs.PrefixEntries.{continued_by, prefixed}
use Rattle.phrases.proofs.PrefixEntryLaws.{Rising-first, most-rest, prefixed-cut}
use Rattle.phrases.specs.PrefixEntries.{most_suffix_positions}
use Rattle.phrases.specs.PrefixWindows.{IsFollowing}
use Rattle.phrases.specs.Rows.{AreRows, IsRow, added, docs_of, end_of, most_count, places_in, row_entries, row_entry, uncounted}
use Rattle.phrases.specs.Windows.{IsWindow, left_in}
use Rattle.phrases.specs.declared.row.Row.{Row}
use Rattle.phrases.specs.declared.window.Window.{Window}

-- ---- rows that are taken

-- places that come behind those of a row change nothing
places-grown : (places more : List ℕ) (r : Row) → IsRow places r → places_in (places ++ more) r ≡ places_in places r
places-grown places more r is =
    let within = is.within in
    let long = length-drop r.begin places in
    ap (take ((r.begin + r.num_places) - r.begin)) (drop-append-le r.begin places more (omega (arith, within)))
    ∙ take-append-le ((r.begin + r.num_places) - r.begin) (drop r.begin places) more (omega (arith, within, long))

entries-grown : (places more : List ℕ) (rows : List Row) → AreRows places rows → row_entries (places ++ more) rows ≡ row_entries places rows
entries-grown places more [] h = refl
entries-grown places more (r ∷ rows) h =
    ap (λ ps. record { doc = r.doc; score = r.score; count = r.count; positions = ps ∷ [] } ∷ row_entries (places ++ more) rows) (places-grown places more r h.0)
    ∙ ap (λ es. row_entry places r ∷ es) (entries-grown places more rows h.1)

rows-grown : (places more : List ℕ) (rows : List Row) → AreRows places rows → AreRows (places ++ more) rows
rows-grown places more [] h = tt
rows-grown places more (r ∷ rows) h =
    let within = h.0.within in
    let long = length-append places more in (
      record {
        small = h.0.small;
        within = omega (arith, within, long);
        num_places_fit = h.0.num_places_fit;
        ascends = subst (Ascends 0) (sym (places-grown places more r h.0)) h.0.ascends;
      },
      rows-grown places more rows h.1,
    )

rows-last : (places : List ℕ) (rows : List Row) (r : Row) → AreRows places rows → IsRow places r → AreRows places (rows ++ r ∷ [])
rows-last places [] r h is = (is, tt)
rows-last places (x ∷ rows) r h is = (h.0, rows-last places rows r h.1 is)

most-last : (rows : List Row) (r : Row) → most_count (rows ++ r ∷ []) ≡ max (most_count rows) r.count
most-last [] r = omega arith
most-last (x ∷ rows) r = (let ih = most-last rows r in omega (arith, ih))

-- a row of the document on which a phrase stands
abbrev pub next_row : List ℕ → List Entry → Row
next_row places es = record { doc = first es; begin = length places; num_places = length (single (first_positions es)); score = first_score es; count = 0 }

-- its places are put behind the others
next-places : (places here : List ℕ) → take ((length places + length here) - length places) (drop (length places) (places ++ here)) ≡ here
next-places places here =
    ap (λ n. take n (drop (length places) (places ++ here))) (let e : (length places + length here) - length places ≡ length here = omega arith in e)
    ∙ (ap (take (length here)) (drop-append_seam places here) ∙ take-length here)

pub next-is : (places : List ℕ) (es : List Entry) → first es < terminated → length (single (first_positions es)) ≤ 4294967295 → Ascends 0 (single (first_positions es)) → IsRow (places ++ single (first_positions es)) (next_row places es)
next-is places es l few ascends =
    let here = single (first_positions es) in
    let long = length-append places here in
    record {
      small = l;
      within = omega (arith, long);
      num_places_fit = few;
      ascends = subst (Ascends 0) (sym (next-places places here)) ascends;
    }

uncounted-first : (places : List ℕ) (es : List Entry) → first es < terminated → HaveOneColumn es → map uncounted es ≡ row_entry (places ++ single (first_positions es)) (next_row places es) ∷ map uncounted (drop 1 es)
uncounted-first places [] l c = absurd (omega (arith, l))
uncounted-first places (e ∷ es) l c =
    ap (λ ps. record { doc = e.doc; score = e.score; count = 0; positions = ps } ∷ map uncounted es) c.0
    ∙ ap (λ ps. record { doc = e.doc; score = e.score; count = 0; positions = ps ∷ [] } ∷ map uncounted es) (sym (next-places places (single e.positions)))

-- one document more is taken
pub taken-next : (places : List ℕ) (rows : List Row) (all es : List Entry) → first es < terminated → HaveOneColumn es → AreRows places rows → map uncounted all ≡ row_entries places rows ++ map uncounted es → map uncounted all ≡ row_entries (places ++ single (first_positions es)) (rows ++ next_row places es ∷ []) ++ map uncounted (drop 1 es)
taken-next places rows all es l c h taken =
    let here = single (first_positions es) in
    let more = places ++ here in
    let r = next_row places es in
    let rest = map uncounted (drop 1 es) in
    taken
    ∙ (ap (λ xs. row_entries places rows ++ xs) (uncounted-first places es l c)
    ∙ (ap (λ xs. xs ++ row_entry more r ∷ rest) (sym (entries-grown places here rows h))
    ∙ sym (ap (λ xs. xs ++ rest) (map-append (row_entry more) rows (r ∷ [])) ∙ append_assoc (row_entries more rows) (row_entry more r ∷ []) rest)))

pub rows-next : (places : List ℕ) (rows : List Row) (es : List Entry) → first es < terminated → length (single (first_positions es)) ≤ 4294967295 → Ascends 0 (single (first_positions es)) → AreRows places rows → AreRows (places ++ single (first_positions es)) (rows ++ next_row places es ∷ [])
rows-next places rows es l few ascends h = rows-last (places ++ single (first_positions es)) rows (next_row places es) (rows-grown places (single (first_positions es)) rows h) (next-is places es l few ascends)

pub fresh-next : (places : List ℕ) (rows : List Row) (es : List Entry) → most_count rows ≡ 0 → most_count (rows ++ next_row places es ∷ []) ≡ 0
fresh-next places rows es fresh = (let last = most-last rows (next_row places es) in omega (arith, last, fresh))

-- ---- rows that suffixes follow

prefixed-append : (moved : ℕ) (ess : List (List Entry)) (es fs : List Entry) → prefixed moved ess (es ++ fs) ≡ prefixed moved ess es ++ prefixed moved ess fs
prefixed-append moved ess [] fs = refl
prefixed-append moved ess (e ∷ es) fs =
    let n : ℕ = continued_by moved (single e.positions) (entries_at e.doc ess) in
    let x : Entry = record e { count = n } in
    let rest = prefixed moved ess es in
    let others = prefixed moved ess fs in
    ap (λ xs. if nat_lt 0 n then x ∷ xs else xs) (prefixed-append moved ess es fs)
    ∙ elim (nat_lt 0 n) as (λ b. (if b then x ∷ (rest ++ others) else (rest ++ others)) ≡ (if b then x ∷ rest else rest) ++ others) [ true ↦ refl | false ↦ refl ]

-- counts that entries had don't matter
prefixed-uncounted : (moved : ℕ) (ess : List (List Entry)) (es : List Entry) → prefixed moved ess (map uncounted es) ≡ prefixed moved ess es
prefixed-uncounted moved ess [] = refl
prefixed-uncounted moved ess (e ∷ es) =
    let n : ℕ = continued_by moved (single e.positions) (entries_at e.doc ess) in
    ap (λ xs. if nat_lt 0 n then record e { count = n } ∷ xs else xs) (prefixed-uncounted moved ess es)

-- rows that had no counts are, with those of the suffixes and without those that none follows, the entries of the prefix
rows-prefixed : (moved : ℕ) (places : List ℕ) (ess : List (List Entry)) (rows : List Row) → most_count rows ≡ 0 → row_entries places (filter (λ r. nat_lt 0 r.count) (map (added moved places ess) rows)) ≡ prefixed moved ess (row_entries places rows)
rows-prefixed moved places ess [] fresh = refl
rows-prefixed moved places ess (r ∷ rows) fresh =
    let n : ℕ = continued_by moved (places_in places r) (entries_at r.doc ess) in
    let x : Row = added moved places ess r in
    let kept : List Row = filter (λ s. nat_lt 0 s.count) (map (added moved places ess) rows) in
    let none : r.count + n ≡ n = omega (arith, fresh) in
    let rest = prefixed moved ess (row_entries places rows) in
    elim (nat_lt 0 (r.count + n)) as (λ b. row_entries places (if b then x ∷ kept else kept) ≡ (if b then row_entry places x ∷ row_entries places kept else row_entries places kept)) [ true ↦ refl | false ↦ refl ]
    ∙ (ap (λ xs. if nat_lt 0 (r.count + n) then row_entry places x ∷ xs else xs) (rows-prefixed moved places ess rows (omega (arith, fresh)))
    ∙ ap (λ m. if nat_lt 0 m then record { doc = r.doc; score = r.score; count = m; positions = places_in places r ∷ [] } ∷ rest else rest) none)

-- ---- where rows end

rising-uncounted : (low : ℕ) (es : List Entry) → Rising low es → Rising low (map uncounted es)
rising-uncounted low [] r = tt
rising-uncounted low (e ∷ es) r = (r.0, r.1, r.2, rising-uncounted (e.doc + 1) es r.3)

first-uncounted : (es : List Entry) → first (map uncounted es) ≡ first es
first-uncounted [] = refl
first-uncounted (e ∷ es) = refl

rises-rows : (low : ℕ) (places : List ℕ) (rows : List Row) (es : List Entry) → Rising low (row_entries places rows ++ es) → Rises low (docs_of rows)
rises-rows low places [] es r = tt
rises-rows low places (x ∷ rows) es r = (r.0, rises-rows (x.doc + 1) places rows es r.3)

rising-behind : (low : ℕ) (places : List ℕ) (rows : List Row) (es : List Entry) → low ≤ terminated → Rising low (row_entries places rows ++ es) → (low ≤ first es) × (end_of (docs_of rows) ≤ first es)
rising-behind low places [] [] l r = (l, omega arith)
rising-behind low places [] (e ∷ es) l r = (r.0, omega arith)
rising-behind low places (x ∷ rows) es l r =
    let below = r.1 in
    let up = r.0 in
    let ih = rising-behind (x.doc + 1) places rows es (omega (arith, below)) r.3 in
    let here = ih.0 in
    let others = ih.1 in
    (omega (arith, here, up), omega (arith, here, others))

first-taken : (places : List ℕ) (rows : List Row) (es : List Entry) → 0 < length rows → first (row_entries places rows ++ es) < end_of (docs_of rows)
first-taken places [] es l = absurd (omega (arith, l))
first-taken places (x ∷ rows) es l = omega arith

-- what a window took: rows of the first documents of a phrase, and the documents that are left
pub record IsTaken (places : List ℕ) (rows : List Row) (es rest : List Entry) : Type 0 where
  pub taken : map uncounted es ≡ row_entries places rows ++ map uncounted rest
  pub rising : Rising 0 es
  pub rest_rising : Rising 0 rest

-- documents of rows rise
pub taken-rises : (places : List ℕ) (rows : List Row) (es rest : List Entry) → IsTaken places rows es rest → Rises 0 (docs_of rows)
taken-rises places rows es rest t = rises-rows 0 places rows (map uncounted rest) (subst (Rising 0) t.taken (rising-uncounted 0 es t.rising))

-- those that are left come behind
pub taken-ends : (places : List ℕ) (rows : List Row) (es rest : List Entry) → IsTaken places rows es rest → end_of (docs_of rows) ≤ first rest
taken-ends places rows es rest t =
    let behind = rising-behind 0 places rows (map uncounted rest) (omega arith) (subst (Rising 0) t.taken (rising-uncounted 0 es t.rising)) in
    let ends = behind.1 in
    let same = first-uncounted rest in
    omega (arith, ends, same)

pub taken-later : (places : List ℕ) (rows : List Row) (es rest : List Entry) → IsTaken places rows es rest → 0 < length rows → first es < first rest
taken-later places rows es rest t some =
    let ends = taken-ends places rows es rest t in
    let starts = first-taken places rows (map uncounted rest) some in
    let at = sym (first-uncounted es) ∙ ap first t.taken in
    omega (arith, ends, starts, at)

-- a window has the entries of the prefix among those that it took
pub window-same : (moved : ℕ) (places : List ℕ) (rows : List Row) (ess : List (List Entry)) (es rest : List Entry) → IsTaken places rows es rest → most_count rows ≡ 0 → row_entries places (filter (λ r. nat_lt 0 r.count) (map (added moved places ess) rows)) ++ prefixed moved (map (from (end_of (docs_of rows))) ess) rest ≡ prefixed moved ess es
window-same moved places rows ess es rest t fresh =
    let end = end_of (docs_of rows) in
    let rises : Rising end rest = Rising-lower end (first rest) rest (taken-ends places rows es rest t) (Rising-first 0 rest t.rest_rising) in
    ap (λ xs. xs ++ prefixed moved (map (from end) ess) rest) (rows-prefixed moved places ess rows fresh)
    ∙ (ap (λ xs. prefixed moved ess (row_entries places rows) ++ xs) (prefixed-cut moved ess end rest rises ∙ sym (prefixed-uncounted moved ess rest))
    ∙ (sym (prefixed-append moved ess (row_entries places rows) (map uncounted rest))
    ∙ (ap (prefixed moved ess) (sym t.taken) ∙ prefixed-uncounted moved ess es)))

-- ---- rows that are left

no_row : Row
no_row = record { doc = 0; begin = 0; num_places = 0; score = 0; count = 0 }

pub left-first : (places : List ℕ) (rows : List Row) (row : ℕ) → row < length rows → first (row_entries places (drop row rows)) ≡ get_or (docs_of rows) row 0
left-first places [] row l = absurd (omega (arith, l))
left-first places (x ∷ rows) zero l = refl
left-first places (x ∷ rows) (suc row) l = left-first places rows row (omega (arith, l))

pub left-step : (places : List ℕ) (rows : List Row) (row : ℕ) → row < length rows → row_entries places (drop (row + 1) rows) ≡ drop 1 (row_entries places (drop row rows))
left-step places rows row l = sym (ap (λ xs. drop 1 (row_entries places xs)) (drop_more rows row no_row l))

-- rows that are passed come before a target, and the next doesn't
pub left-sought : (places : List ℕ) (low target : ℕ) (rows : List Row) (row index : ℕ) → Rising low (row_entries places (drop row rows)) → row ≤ index → index ≤ length rows → ((k : ℕ) → row ≤ k → k < index → get_or (docs_of rows) k 0 < target) → (index < length rows → target ≤ get_or (docs_of rows) index 0) → row_entries places (drop index rows) ≡ from target (row_entries places (drop row rows))
left-sought places low target [] zero zero r b l passed found = refl
left-sought places low target [] (suc row) zero r b l passed found = refl
left-sought places low target [] row (suc index) r b l passed found = absurd (omega (arith, l))
left-sought places low target (x ∷ rows) zero zero r b l passed found = sym (from-first target low (row_entries places (x ∷ rows)) (found (omega arith)) r)
left-sought places low target (x ∷ rows) zero (suc index) r b l passed found =
    left-sought places (x.doc + 1) target rows zero index r.3 (omega arith) (omega (arith, l)) (λ k m n. passed (suc k) (omega arith) (omega (arith, n))) (λ m. found (omega (arith, m)))
    ∙ sym (from-out target (row_entry places x) (row_entries places rows) (passed 0 (omega arith) (omega arith)))
left-sought places low target (x ∷ rows) (suc row) zero r b l passed found = absurd (omega (arith, b))
left-sought places low target (x ∷ rows) (suc row) (suc index) r b l passed found = left-sought places low target rows row index r (omega (arith, b)) (omega (arith, l)) (λ k m n. passed (suc k) (omega (arith, m)) (omega (arith, n))) (λ m. found (omega (arith, m)))

-- ---- lists one behind the other

pub from-append : (t : ℕ) (es fs : List Entry) → from t (es ++ fs) ≡ from t es ++ from t fs
from-append t [] fs = refl
from-append t (e ∷ es) fs =
    ap (λ xs. if nat_le t e.doc then e ∷ xs else xs) (from-append t es fs)
    ∙ elim (nat_le t e.doc) as (λ b. (if b then e ∷ (from t es ++ from t fs) else (from t es ++ from t fs)) ≡ (if b then e ∷ from t es else from t es) ++ from t fs) [ true ↦ refl | false ↦ refl ]

pub rising-front : (low : ℕ) (es fs : List Entry) → Rising low (es ++ fs) → Rising low es
rising-front low [] fs r = tt
rising-front low (e ∷ es) fs r = (r.0, r.1, r.2, rising-front (e.doc + 1) es fs r.3)

pub drop-both : (es fs : List Entry) → (terminated ≤ first es → fs ≡ []) → drop 1 es ++ fs ≡ drop 1 (es ++ fs)
drop-both [] fs h = h (omega arith) ∙ ap (drop 1) (sym (h (omega arith)))
drop-both (e ∷ es) fs h = refl

-- ---- windows

-- room for more is room for fewer
pub window-fewer : (w : Window) (n m fewer least : ℕ) → IsWindow w n m → fewer ≤ n → least ≤ m → IsWindow w fewer least
window-fewer w n m fewer least is l k =
    let places = is.places in
    let here = is.here in
    let positions = is.positions in
    record {
      within = is.within;
      limit_positive = is.limit_positive;
      limit_fits = is.limit_fits;
      rows = is.rows;
      guesses = is.guesses;
      places = omega (arith, places, l);
      here = omega (arith, here, l);
      positions = omega (arith, positions, k);
    }

pub first-most : (es : List Entry) → first es < terminated → length (single (first_positions es)) ≤ most_positions es
first-most [] l = absurd (omega (arith, l))
first-most (e ∷ es) l = omega arith

pub prefix-ends : (moved : ℕ) (ess : List (List Entry)) (es : List Entry) → Rising 0 es → terminated ≤ first es → prefixed moved ess es ≡ []
prefix-ends moved ess es r l = ap (prefixed moved ess) (none_left 0 es r l)

-- a window that was filled again
pub refilled : (w was : Window) (doc num many : ℕ) (ess fss : List (List Entry)) (es rest : List Entry) → IsWindow was (most_positions es) (most_suffix_positions ess) → most_positions es ≤ 4294967295 → num < 4294967296 → ((n m : ℕ) → IsWindow was n m → IsWindow w n m) → doc ≡ first (left_in w) → (terminated ≤ doc → terminated ≤ first rest) → IsRest rest es → most_suffix_positions fss ≤ most_suffix_positions ess → many ≡ num → IsFollowing w many fss rest
refilled w was doc num many ess fss es rest window few_places few_suffixes kept at ends left fewer same =
    let fewer_places = most-rest rest es left in
    record {
      window = window-fewer w (most_positions es) (most_suffix_positions ess) (most_positions rest) (most_suffix_positions fss) (kept (most_positions es) (most_suffix_positions ess) window) fewer_places fewer;
      ends = λ l. ends (omega (arith, at, l));
      few_places = omega (arith, fewer_places, few_places);
      few_suffixes = omega (arith, same, few_suffixes);
    }
