-- Laws of the two least documents on which lists stand.
use Rattle.std.proofs.Common.{[], List, ap, arith, drop, get_or, length, map, max, min, refl, set, suc, sym, take, zero, ◌++◌, ◌+◌, ◌<◌, ◌∙◌, ◌∷◌, ◌≡◌, ◌≤◌, ℕ}
use Rattle.std.proofs.Math.ListN.{get_or-append}
use Rattle.std.proofs.Math.Seq.{get_or-append_seam, take-append_seam}
use Rattle.std.proofs.lemmas.List.{length-append, length-map, take-append-le}
use Rattle.definitions.specs.Postings.{terminated}
use Rattle.docsets.specs.Entries.{Entry, Rising, first, from}
use Rattle.docsets.proofs.EntryLaws.{first_at_most, from-first, none_in}
use Rattle.definitions.proofs.Lists.{by_order}
use Rattle.docsets.proofs.AtLeastLaws.{chosen-from, too_few}
use Rattle.docsets.proofs.LeaderLaws.{least-last, one-on}
use Rattle.docsets.proofs.MemberLaws.{entries-least, entries-low, entries_at-kept, from-listed, has-least, least-get, listed-skip, one-entry}
use Rattle.docsets.specs.Members.{at_least, enough, entries_at, entries_of, least}
use Rattle.intersections.proofs.MeetingLaws.{from-each as cut-again}
use Rattle.scorers.specs.TwoLeast.{AreTwoLeast, next_least}
use Rattle.scorers.specs.declared.two_least.TwoLeast.{TwoLeast}

-- nothing is behind the end
pub least-ends : (ess : List (List Entry)) → least ess ≤ terminated
least-ends [] = omega arith
least-ends (es ∷ ess) = (let ih = least-ends ess in omega (arith, ih))

pub next-ends : (ess : List (List Entry)) → next_least ess ≤ terminated
next-ends [] = omega arith
next-ends (es ∷ ess) = (let ih = next-ends ess in omega (arith, ih))

-- the second of three numbers, whichever two are compared first
middle : (a b c : ℕ) → min (max a b) (max (min a b) c) ≡ min (max b c) (max a (min b c))
middle a b c =
    by_order a b (min (max a b) (max (min a b) c) ≡ min (max b c) (max a (min b c)))
    (λ i. by_order b c (min (max a b) (max (min a b) c) ≡ min (max b c) (max a (min b c))) (λ j. omega (arith, i, j)) (λ j. omega (arith, i, j)))
    (λ o. by_order a c (min (max a b) (max (min a b) c) ≡ min (max b c) (max a (min b c))) (λ j. omega (arith, o, j)) (λ j. omega (arith, o, j)))

ends-same : (a b c : ℕ) → min a (min b c) ≡ min b (min c a)
ends-same a b c = omega arith

ends-other : (a b c : ℕ) → min (min a b) c ≡ min b (min a c)
ends-other a b c = omega arith

-- the second least beside one list more
next-last : (ess : List (List Entry)) (es : List Entry) → first es ≤ terminated → next_least (ess ++ es ∷ []) ≡ min (next_least ess) (max (least ess) (first es))
next-last [] es l = omega (arith, l)
next-last (xs ∷ ess) es l =
    let ih = next-last ess es l in
    let low = least-last ess es in
    ap (λ d. min (max (first xs) d) (next_least (ess ++ es ∷ []))) low
    ∙ (ap (min (max (first xs) (min (least ess) (first es)))) ih
    ∙ (ends-same (max (first xs) (min (least ess) (first es))) (next_least ess) (max (least ess) (first es))
    ∙ (ap (min (next_least ess)) (sym (middle (first xs) (least ess) (first es)))
    ∙ sym (ends-other (max (first xs) (least ess)) (next_least ess) (max (min (first xs) (least ess)) (first es))))))

-- the two least beside one list more
pub two-more : {X : Type 0} (entries : X → List Entry) → ((x : X) → Rising 0 (entries x)) → (xs : List X) (x : X) (two then : TwoLeast) → AreTwoLeast (map entries xs) two → then.doc ≡ min two.doc (first (entries x)) → then.next ≡ min two.next (max two.doc (first (entries x))) → (first (entries x) < two.doc → then.index ≡ length xs) → (two.doc ≤ first (entries x) → then.index ≡ two.index) → AreTwoLeast (map entries xs ++ entries x ∷ []) then
two-more entries rising xs x two then are is_doc is_next ahead behind =
    let ess : List (List Entry) = map entries xs in
    let es : List Entry = entries x in
    let all : List (List Entry) = ess ++ es ∷ [] in
    let doc = are.doc in
    let near = are.near in
    let long = length-append ess (es ∷ []) in
    let size = length-map xs entries in
    let low = least-last ess es in
    by_order two.doc (first es) (AreTwoLeast all then)
    (λ i. (let same = behind i in
    let at : then.doc ≡ two.doc = omega (arith, is_doc, i) in
    record {
      doc = is_doc ∙ (ap (λ d. min d (first es)) doc ∙ sym low);
      next = is_next ∙ (ap (λ d. min d (max two.doc (first es))) are.next ∙ (ap (λ d. min (next_least ess) (max d (first es))) doc ∙ sym (next-last ess es (first_at_most 0 es (rising x)))));
      near = omega (arith, same, near, long);
      index = λ l. (let old = are.index (omega (arith, l, at)) in (omega (arith, same, old.0, long), ap (λ n. first (get_or all n [])) same ∙ (ap first (get_or-append ess (es ∷ []) [] two.index old.0) ∙ (old.1 ∙ sym at))));
      before = ap (λ d. entries_at d (take then.index all)) at ∙ (ap (λ n. entries_at two.doc (take n all)) same ∙ (ap (entries_at two.doc) (take-append-le two.index ess (es ∷ []) near) ∙ are.before));
    }))
    (λ o. (let same = ahead o ∙ sym size in
    let at : then.doc ≡ first es = omega (arith, is_doc, o) in
    record {
      doc = is_doc ∙ (ap (λ d. min d (first es)) doc ∙ sym low);
      next = is_next ∙ (ap (λ d. min d (max two.doc (first es))) are.next ∙ (ap (λ d. min (next_least ess) (max d (first es))) doc ∙ sym (next-last ess es (first_at_most 0 es (rising x)))));
      near = omega (arith, same, long);
      index = λ l. (omega (arith, same, long), ap (λ n. first (get_or all n [])) same ∙ (ap first (get_or-append_seam ess es [] []) ∙ sym at));
      before = ap (λ d. entries_at d (take then.index all)) at ∙ (ap (λ n. entries_at (first es) (take n all)) same ∙ (ap (entries_at (first es)) (take-append_seam ess (es ∷ [])) ∙ entries-least entries rising (first es) xs (omega (arith, o, doc))));
    }))

-- those of no list
pub two-none : (two : TwoLeast) → two.doc ≡ terminated → two.index ≡ 0 → two.next ≡ terminated → AreTwoLeast [] two
two-none two d p n = record { doc = d; next = n; near = omega (arith, p); index = λ l. absurd (omega (arith, l, d)); before = ap (λ i. entries_at two.doc (take i [])) p }

-- where those before an index don't have a document, those from it on have all of its entries
pub entries-behind : (d i : ℕ) (ess : List (List Entry)) → entries_at d (take i ess) ≡ [] → entries_at d (drop i ess) ≡ entries_at d ess
entries-behind d zero ess none = refl
entries-behind d (suc i) [] none = refl
entries-behind d (suc i) (es ∷ ess) none =
    let both = ap length none in
    let parts = length-append (entries_of d es) (entries_at d (take i ess)) in
    let here : entries_of d es ≡ [] = none_in (entries_of d es) (omega (arith, both, parts)) in
    entries-behind d i ess (none_in (entries_at d (take i ess)) (omega (arith, both, parts))) ∙ ap (λ xs. xs ++ entries_at d ess) (sym here)

-- one list alone may have what comes before the second
pub few-before : {X : Type 0} (entries : X → List Entry) → ((x : X) → Rising 0 (entries x)) → (d : ℕ) (xs : List X) → d < next_least (map entries xs) → length (entries_at d (map entries xs)) ≤ 1
few-before entries rising d [] l = omega arith
few-before entries rising d (x ∷ xs) l =
    let es : List Entry = entries x in
    let ess : List (List Entry) = map entries xs in
    let both = length-append (entries_of d es) (entries_at d ess) in
    by_order (first es) d (length (entries_of d es ++ entries_at d ess) ≤ 1)
    (λ i. (let none = ap length (entries-least entries rising d xs (omega (arith, l, i))) in let here = one-entry d 0 es (rising x) in omega (arith, both, none, here)))
    (λ o. (let none = ap length (entries-low d 0 es (rising x) o) in let ih = few-before entries rising d xs (omega (arith, l)) in omega (arith, both, none, ih)))

-- where the second isn't past a document on which the first stands, two have it
pub two-have : {X : Type 0} (entries : X → List Entry) → ((x : X) → Rising 0 (entries x)) → (d : ℕ) (xs : List X) → d < terminated → d ≤ least (map entries xs) → next_least (map entries xs) ≤ d → 2 ≤ length (entries_at d (map entries xs))
two-have entries rising d [] t b l = absurd (omega (arith, t, l))
two-have entries rising d (x ∷ xs) t b l =
    let es : List Entry = entries x in
    let ess : List (List Entry) = map entries xs in
    let both = length-append (entries_of d es) (entries_at d ess) in
    by_order (next_least ess) d (2 ≤ length (entries_of d es ++ entries_at d ess))
    (λ i. (let ih = two-have entries rising d xs t (omega (arith, b)) i in omega (arith, both, ih)))
    (λ o. (let here : first es ≡ d = omega (arith, b, l, o) in
    let there : least ess ≡ d = omega (arith, b, l, o) in
    let one = one-on d es (rising x) here t in
    let more = has-least entries rising xs (omega (arith, there, t)) in
    let same = ap (λ n. length (entries_at n ess)) there in
    omega (arith, both, one, more, same)))

-- lists that all stand behind a cut are as they were
pub cut-ahead : {X : Type 0} (entries : X → List Entry) → ((x : X) → Rising 0 (entries x)) → (t : ℕ) (xs : List X) → t ≤ least (map entries xs) → map (from t) (map entries xs) ≡ map entries xs
cut-ahead entries rising t [] l = refl
cut-ahead entries rising t (x ∷ xs) l =
    ap (λ es. es ∷ map (from t) (map entries xs)) (from-first t 0 (entries x) (omega (arith, l)) (rising x))
    ∙ ap (λ ess. entries x ∷ ess) (cut-ahead entries rising t xs (omega (arith, l)))

-- up to the second, a cut of the list that stands before it is a cut of all
pub cut-alone : {X : Type 0} (entries : X → List Entry) → ((x : X) → Rising 0 (entries x)) → (i t : ℕ) (xs : List X) → i < length (map entries xs) → first (get_or (map entries xs) i []) < t → t ≤ next_least (map entries xs) → set (map entries xs) i (from t (get_or (map entries xs) i [])) ≡ map (from t) (map entries xs)
cut-alone entries rising i t [] w b l = absurd (omega (arith, w))
cut-alone entries rising zero t (x ∷ xs) w b l = ap (λ ess. from t (entries x) ∷ ess) (sym (cut-ahead entries rising t xs (omega (arith, b, l))))
cut-alone entries rising (suc i) t (x ∷ xs) w b l =
    let low = least-get (map entries xs) i [] (omega (arith, w)) in
    ap (λ ess. entries x ∷ ess) (cut-alone entries rising i t xs (omega (arith, w)) b (omega (arith, l)))
    ∙ ap (λ es. es ∷ map (from t) (map entries xs)) (sym (from-first t 0 (entries x) (omega (arith, low, b, l)) (rising x)))

-- where one list alone went on to the second document, all are cut at the one that is then the least
pub cut-further : {X : Type 0} (entries : X → List Entry) → ((x : X) → Rising 0 (entries x)) → (old now after : List X) (doc next later : ℕ) → map entries now ≡ map (from doc) (map entries old) → doc < next → next ≤ later → later ≡ least (map entries after) → map entries after ≡ map (from next) (map entries now) → map entries after ≡ map (from later) (map entries old)
cut-further entries rising old now after doc next later were ahead further is moved =
    let twice : map entries after ≡ map (from next) (map entries old) = moved ∙ (ap (map (from next)) were ∙ cut-again doc next (map entries old) (omega (arith, ahead))) in
    sym (cut-ahead entries rising later after (omega (arith, is)))
    ∙ (ap (map (from later)) twice ∙ cut-again next later (map entries old) further)

-- and one list at most has what was passed
pub few-further : {X : Type 0} (entries : X → List Entry) → ((x : X) → Rising 0 (entries x)) → (old now after : List X) (doc next later : ℕ) → map entries now ≡ map (from doc) (map entries old) → ((d : ℕ) → d < doc → length (entries_at d (map entries old)) ≤ 1) → next ≡ next_least (map entries now) → later ≡ least (map entries after) → map entries after ≡ map (from later) (map entries old) → map entries after ≡ map (from next) (map entries now) → (d : ℕ) → d < later → length (entries_at d (map entries old)) ≤ 1
few-further entries rising old now after doc next later were few second is cut moved d l =
    by_order doc d (length (entries_at d (map entries old)) ≤ 1)
    (λ i. (let kept = ap length (ap (entries_at d) were ∙ entries_at-kept d doc (map entries old) i) in
    by_order next d (length (entries_at d (map entries old)) ≤ 1)
    (λ j. (let same = ap length (ap (entries_at d) moved ∙ entries_at-kept d next (map entries now) j) in
    let none = ap length (entries-least entries rising d after (omega (arith, l, is))) in
    omega (arith, kept, same, none)))
    (λ o. (let one = few-before entries rising d now (omega (arith, o, second)) in omega (arith, kept, one)))))
    (λ o. few d o)

-- where one list alone had the least document and several have the one that is then the least, this is later
pub alone-further : {X : Type 0} (entries : X → List Entry) → ((x : X) → Rising 0 (entries x)) → (old after : List X) (doc later : ℕ) → doc ≡ least (map entries old) → doc < terminated → length (entries_at doc (map entries old)) ≡ 1 → map entries after ≡ map (from later) (map entries old) → (later < terminated → 2 ≤ length (entries_at later (map entries after))) → doc < later
alone-further entries rising old after doc later is on one cut several =
    by_order (doc + 1) later (doc < later)
    (λ i. omega (arith, i))
    (λ o. (let many = several (omega (arith, o, on)) in
    let kept = ap length (ap (entries_at later) cut ∙ entries_at-kept later later (map entries old) (omega arith)) in
    by_order doc later (doc < later)
    (λ j. (let same : later ≡ doc = omega (arith, o, j) in let here = ap (λ n. length (entries_at n (map entries old))) same in absurd (omega (arith, many, kept, here, one))))
    (λ j. (let none = ap length (entries-least entries rising later old (omega (arith, j, is))) in absurd (omega (arith, many, kept, none))))))

-- where too few lists have what comes before a cut, all that is chosen comes after it
pub chosen-cut : (minimum : ℕ) (make : ℕ → List Entry → Entry) (ess moved : List (List Entry)) (t : ℕ) → 1 ≤ minimum → t ≤ terminated → ((d : ℕ) → d < t → length (entries_at d ess) < minimum) → moved ≡ map (from t) ess → at_least minimum make moved ≡ at_least minimum make ess
chosen-cut minimum make ess moved t some small few same =
    ap (at_least minimum make) same
    ∙ (chosen-from minimum make ess t some small
    ∙ (from-listed (enough minimum ess) (λ d. make d (entries_at d ess)) 0 t (omega arith) small
    ∙ sym (listed-skip (enough minimum ess) (λ d. make d (entries_at d ess)) 0 t (omega arith) small (λ d b h. too_few minimum ess d (few d h)))))
