-- The least document of several lists, and how many have it, with one list more.
use Rattle.std.proofs.Common.{[], List, ap, arith, length, map, min, sym, ◌++◌, ◌+◌, ◌<◌, ◌∙◌, ◌∷◌, ◌≡◌, ℕ}
use Rattle.std.proofs.lemmas.List.{append-nil, append_assoc, length-append}
use Rattle.definitions.specs.Postings.{terminated}
use Rattle.docsets.specs.Entries.{Entry, Rising, first}
use Rattle.definitions.proofs.Lists.{by_order}
use Rattle.docsets.specs.Members.{entries_at, entries_of, least}
use Rattle.docsets.proofs.MemberLaws.{entries-least, entries-low, entries-on, one-first}

pub least-last : (ess : List (List Entry)) (es : List Entry) → least (ess ++ es ∷ []) ≡ min (least ess) (first es)
least-last [] es = omega arith
least-last (xs ∷ ess) es = (let ih = least-last ess es in omega (arith, ih))

pub entries-last : (d : ℕ) (ess : List (List Entry)) (es : List Entry) → entries_at d (ess ++ es ∷ []) ≡ entries_at d ess ++ entries_of d es
entries-last d [] es = append-nil (entries_of d es)
entries-last d (xs ∷ ess) es = ap (λ ys. entries_of d xs ++ ys) (entries-last d ess es) ∙ sym (append_assoc (entries_of d xs) (entries_at d ess) (entries_of d es))

pub count-last : (d : ℕ) (ess : List (List Entry)) (es : List Entry) → length (entries_at d (ess ++ es ∷ [])) ≡ length (entries_at d ess) + length (entries_of d es)
count-last d ess es = ap length (entries-last d ess es) ∙ length-append (entries_at d ess) (entries_of d es)

pub one-on : (d : ℕ) (es : List Entry) → Rising 0 es → first es ≡ d → d < terminated → length (entries_of d es) ≡ 1
one-on d es r e l = ap length (entries-on d es r e l) ∙ (one-first es (omega (arith, e, l))).0

-- the leader beside one list more is the leader of all
pub leader-next : {X : Type 0} (entries : X → List Entry) → ((x : X) → Rising 0 (entries x)) → (xs : List X) (x : X) (doc count next counted : ℕ) → doc ≡ least (map entries xs) → (doc < terminated → count ≡ length (entries_at doc (map entries xs))) → (first (entries x) < doc → (next ≡ first (entries x)) × (counted ≡ 1)) → (first (entries x) ≡ doc → (next ≡ first (entries x)) × (counted ≡ count + 1)) → (doc < first (entries x) → (next ≡ doc) × (counted ≡ count)) → (next ≡ least (map entries xs ++ entries x ∷ [])) × (next < terminated → counted ≡ length (entries_at next (map entries xs ++ entries x ∷ [])))
leader-next entries rising xs x doc count next counted is many before on behind =
    let ess : List (List Entry) = map entries xs in
    let es : List Entry = entries x in
    let all : List (List Entry) = ess ++ es ∷ [] in
    let low = least-last ess es in
    let both = count-last next ess es in
    by_order doc (first es) ((next ≡ least all) × (next < terminated → counted ≡ length (entries_at next all)))
    (λ i. by_order (doc + 1) (first es) ((next ≡ least all) × (next < terminated → counted ≡ length (entries_at next all)))
    (λ j. (let new = behind (omega (arith, j)) in
    let at = new.0 in
    let size = new.1 in
    (omega (arith, low, is, at, j), λ l. (let none = ap length (entries-low next 0 es (rising x) (omega (arith, at, j))) in let here = ap (λ d. length (entries_at d ess)) at in let old = many (omega (arith, at, l)) in omega (arith, both, none, here, old, size)))))
    (λ o. (let new = on (omega (arith, i, o)) in
    let at = new.0 in
    let size = new.1 in
    let same : next ≡ doc = omega (arith, at, i, o) in
    (omega (arith, low, is, at, i), λ l. (let one = one-on next es (rising x) (sym at) l in let here = ap (λ d. length (entries_at d ess)) same in let old = many (omega (arith, same, l)) in omega (arith, both, one, here, old, size))))))
    (λ o. (let new = before o in
    let at = new.0 in
    let size = new.1 in
    (omega (arith, low, is, at, o), λ l. (let none = ap length (entries-least entries rising next xs (omega (arith, at, o, is))) in let one = one-on next es (rising x) (sym at) l in omega (arith, both, none, one, size)))))
