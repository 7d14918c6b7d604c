-- Laws of the columns of documents that several lists have.
use Rattle.std.proofs.Common.{[], List, ap, arith, flat_map, get_or, leb-true, length, map, refl, suc, sym, take, zero, ◌++◌, ◌<◌, ◌∙◌, ◌∷◌, ◌≡◌, ◌≤◌, ℕ}
use Rattle.std.proofs.lemmas.Grind.{flat_map-append}
use Rattle.std.proofs.lemmas.List.{append-nil, get_or-map, length-append, length-map}
use Rattle.definitions.specs.Postings.{terminated}
use Rattle.docsets.specs.Entries.{Entry, Rising, first, first_positions, single}
use Rattle.intersections.specs.Columns.{HaveOneColumn}
use Rattle.intersections.proofs.MeetingLaws.{few-before, meeting-here}
use Rattle.intersections.specs.Meetings.{IsMeeting, meeting}
use Rattle.definitions.proofs.Lists.{by_order}
use Rattle.docsets.proofs.AtLeastLaws.{too_few}
use Rattle.docsets.proofs.MemberLaws.{entries-low, entries-on, few-have, least-both, listed-skip, listed-stands, one-entry}
use Rattle.docsets.specs.Members.{enough, entries_at, entries_of, joining, least}

-- the column of a list that isn't at its end
first-column : (es : List Entry) → HaveOneColumn es → first es < terminated → flat_map (λ e. e.positions) (take 1 es) ≡ single (first_positions es) ∷ []
first-column [] c l = absurd (omega (arith, l))
first-column (e ∷ es) c l = append-nil e.positions ∙ c.0

-- a list that stands on a document, before others that all have it
record Having {X : Type 0} (entries : X → List Entry) (doc : ℕ) (x : X) (xs : List X) : Type 0 where
  here : first (entries x) ≡ doc
  others : length xs ≤ length (entries_at doc (map entries xs))
  leads : doc ≤ least (map entries xs)

-- where all have it the first stands on it, and all others have it
having : {X : Type 0} (entries : X → List Entry) → ((x : X) → Rising 0 (entries x)) → (doc : ℕ) (x : X) (xs : List X) → doc ≤ least (map entries (x ∷ xs)) → length (x ∷ xs) ≤ length (entries_at doc (map entries (x ∷ xs))) → Having entries doc x xs
having entries rising doc x xs leads all =
    let low = least-both (entries x) (map entries xs) in
    let both = length-append (entries_of doc (entries x)) (entries_at doc (map entries xs)) in
    let one = one-entry doc 0 (entries x) (rising x) in
    let few = few-have entries rising doc xs in
    record {
      here = by_order (first (entries x)) doc (first (entries x) ≡ doc)
          (λ i. omega (arith, i, low.0, leads))
          (λ o. (let none = ap length (entries-low doc 0 (entries x) (rising x) o) in absurd (omega (arith, none, both, few, all))));
      others = omega (arith, both, one, all);
      leads = omega (arith, low.1, leads);
    }

-- where all lists have a document, its columns are theirs
pub columns-at : {X : Type 0} (entries : X → List Entry) → ((x : X) → Rising 0 (entries x)) → ((x : X) → HaveOneColumn (entries x)) → (doc : ℕ) (xs : List X) → doc ≤ least (map entries xs) → doc < terminated → length xs ≤ length (entries_at doc (map entries xs)) → flat_map (λ e. e.positions) (entries_at doc (map entries xs)) ≡ map (λ x. single (first_positions (entries x))) xs
columns-at entries rising one doc [] leads l all = refl
columns-at entries rising one doc (x ∷ xs) leads l all =
    let h = having entries rising doc x xs leads all in
    let here = h.here in
    flat_map-append (λ e. e.positions) (entries_of doc (entries x)) (entries_at doc (map entries xs))
    ∙ (ap (λ es. flat_map (λ e. e.positions) es ++ flat_map (λ e. e.positions) (entries_at doc (map entries xs))) (entries-on doc (entries x) (rising x) here l)
    ∙ (ap (λ ps. ps ++ flat_map (λ e. e.positions) (entries_at doc (map entries xs))) (first-column (entries x) (one x) (omega (arith, here, l)))
    ∙ ap (λ ps. single (first_positions (entries x)) ∷ ps) (columns-at entries rising one doc xs h.leads l h.others)))

-- and each list stands there
pub stands-at : {X : Type 0} (entries : X → List Entry) → ((x : X) → Rising 0 (entries x)) → (doc i : ℕ) (xs : List X) (x : X) → doc ≤ least (map entries xs) → length xs ≤ length (entries_at doc (map entries xs)) → i < length xs → first (entries (get_or xs i x)) ≡ doc
stands-at entries rising doc i [] x leads all l = absurd (omega (arith, l))
stands-at entries rising doc zero (y ∷ ys) x leads all l = (having entries rising doc y ys leads all).here
stands-at entries rising doc (suc i) (y ∷ ys) x leads all l = (let h = having entries rising doc y ys leads all in stands-at entries rising doc i ys x h.leads h.others (omega (arith, l)))

-- ---- of a meeting

-- all have the document on which it stands
pub all-have : {X : Type 0} (entries : X → List Entry) → ((x : X) → Rising 0 (entries x)) → (doc : ℕ) (xs : List X) → IsMeeting (map entries xs) doc → 0 < length xs → doc < terminated → length xs ≤ length (entries_at doc (map entries xs))
all-have entries rising doc xs m some l =
    let ess : List (List Entry) = map entries xs in
    let n : ℕ = length ess in
    let entry : ℕ → Entry = λ d. joining d (entries_at d ess) in
    let at : doc ≡ first (meeting ess) = m.at in
    let low = listed-skip (enough n ess) entry 0 doc (omega arith) (omega (arith, l)) (λ d b h. too_few n ess d (few-before entries rising doc d xs (m.leads l) h some)) in
    let enough_have = leb-true n (length (entries_at doc ess)) (listed-stands (enough n ess) entry doc l (at ∙ ap first low)) in
    let long = length-map xs entries in
    omega (arith, enough_have, long)

-- its columns are those of the lists
pub meeting-columns : {X : Type 0} (entries : X → List Entry) → ((x : X) → Rising 0 (entries x)) → ((x : X) → HaveOneColumn (entries x)) → (doc : ℕ) (xs : List X) → IsMeeting (map entries xs) doc → 0 < length xs → doc < terminated → first_positions (meeting (map entries xs)) ≡ map (λ x. single (first_positions (entries x))) xs
meeting-columns entries rising one doc xs m some l = ap first_positions (meeting-here entries rising xs doc m some l) ∙ columns-at entries rising one doc xs (m.leads l) l (all-have entries rising doc xs m some l)

-- there are as many as lists
pub columns-count : {X : Type 0} (entries : X → List Entry) → ((x : X) → Rising 0 (entries x)) → ((x : X) → HaveOneColumn (entries x)) → (doc : ℕ) (xs : List X) → IsMeeting (map entries xs) doc → 0 < length xs → doc < terminated → length (first_positions (meeting (map entries xs))) ≡ length xs
columns-count entries rising one doc xs m some l = ap length (meeting-columns entries rising one doc xs m some l) ∙ length-map xs (λ x. single (first_positions (entries x)))

-- each is that of its list
pub column-is : {X : Type 0} (entries : X → List Entry) → ((x : X) → Rising 0 (entries x)) → ((x : X) → HaveOneColumn (entries x)) → (doc i : ℕ) (xs : List X) (x : X) → IsMeeting (map entries xs) doc → 0 < length xs → doc < terminated → i < length xs → x ≡ get_or xs i x → get_or (first_positions (meeting (map entries xs))) i [] ≡ single (first_positions (entries x))
column-is entries rising one doc i xs x m some l within is =
    ap (λ cs. get_or cs i []) (meeting-columns entries rising one doc xs m some l)
    ∙ (get_or-map (λ x. single (first_positions (entries x))) xs i x [] within ∙ ap (λ y. single (first_positions (entries y))) (sym is))

-- an index of a column is one of a list
pub column-within : {X : Type 0} (entries : X → List Entry) → ((x : X) → Rising 0 (entries x)) → ((x : X) → HaveOneColumn (entries x)) → (doc i : ℕ) (xs : List X) → IsMeeting (map entries xs) doc → 0 < length xs → first (meeting (map entries xs)) < terminated → i < length (first_positions (meeting (map entries xs))) → i < length xs
column-within entries rising one doc i xs m some on l =
    let at = m.at in
    let count = columns-count entries rising one doc xs m some (omega (arith, at, on)) in
    omega (arith, count, l)
