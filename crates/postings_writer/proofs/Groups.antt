-- Occurrences by document, as one more is recorded.
use Rattle.std.proofs.Common.{[], ◌++◌, ◌+◌, ◌-◌, ◌<◌, ◌^◌, ◌≡◌, ◌≢◌, ◌≤◌, ◌∙◌, ◌∷◌, Bool, List, Some, ap, arith, cond, false, get_or, length, length-append, map, nat_eq, option_map, refl, set, slice_get, subst, suc, sym, true, zero, ℕ}
use Rattle.std.proofs.lemmas.Bool.Decides.{nat_tests}
use Rattle.std.proofs.lemmas.List.{length-map}
use Rattle.std.proofs.lemmas.Option.{get_or_from_slice_get, slice_get_within}
use Rattle.codes.proofs.RecordedLengths.{no_ids as none}
use Rattle.definitions.proofs.Lists.{nat_same as same}
use Rattle.postings_writer.proofs.Runs.{pick}
use Rattle.postings_writer.specs.Occurrences.{by_document, counts_of, docs_of, ends_in, grouped, last_count}
use Rattle.postings_writer.specs.OccurrenceBytes.{last_doc}

-- one occurrence more, at the end
abbrev pub extended : List (ℕ × List ℕ) → ℕ × ℕ → List (ℕ × List ℕ)
extended [] p = (p.0, p.1 ∷ []) ∷ []
extended (g ∷ []) p = cond (nat_eq g.0 p.0) ((g.0, g.1 ++ p.1 ∷ []) ∷ []) (g ∷ (p.0, p.1 ∷ []) ∷ [])
extended (g ∷ h ∷ gs) p = g ∷ extended (h ∷ gs) p

through : {A B : Type 0} (f : A → B) (b : Bool) (x y : A) → f (cond b x y) ≡ cond b (f x) (f y)
through f true x y = refl
through f false x y = refl

grouped-extended : (q p : ℕ × ℕ) (gs : List (ℕ × List ℕ)) → grouped q (extended gs p) ≡ extended (grouped q gs) p
grouped-extended q p [] = go (nat_eq q.0 p.0) (same q.0 p.0)
  where
    go : (b : Bool) → (b ≡ true → q.0 ≡ p.0) → pick b ((p.0, q.1 ∷ p.1 ∷ []) ∷ []) ((q.0, q.1 ∷ []) ∷ (p.0, p.1 ∷ []) ∷ []) ≡ pick b ((q.0, q.1 ∷ p.1 ∷ []) ∷ []) ((q.0, q.1 ∷ []) ∷ (p.0, p.1 ∷ []) ∷ [])
    go true e = ap (λ d. (d, q.1 ∷ p.1 ∷ []) ∷ []) (sym (e refl))
    go false e = refl
grouped-extended q p (g ∷ []) =
    through (grouped q) (nat_eq g.0 p.0) ((g.0, g.1 ++ p.1 ∷ []) ∷ []) (g ∷ (p.0, p.1 ∷ []) ∷ [])
    ∙ go (nat_eq q.0 g.0) (nat_eq g.0 p.0)
    ∙ sym (through (λ xs. extended xs p) (nat_eq q.0 g.0) ((g.0, q.1 ∷ g.1) ∷ []) ((q.0, q.1 ∷ []) ∷ g ∷ []))
  where
    go : (a b : Bool) → pick b (pick a ((g.0, q.1 ∷ (g.1 ++ p.1 ∷ [])) ∷ []) ((q.0, q.1 ∷ []) ∷ (g.0, g.1 ++ p.1 ∷ []) ∷ [])) (pick a ((g.0, q.1 ∷ g.1) ∷ (p.0, p.1 ∷ []) ∷ []) ((q.0, q.1 ∷ []) ∷ g ∷ (p.0, p.1 ∷ []) ∷ [])) ≡ pick a (pick b ((g.0, q.1 ∷ (g.1 ++ p.1 ∷ [])) ∷ []) ((g.0, q.1 ∷ g.1) ∷ (p.0, p.1 ∷ []) ∷ [])) ((q.0, q.1 ∷ []) ∷ pick b ((g.0, g.1 ++ p.1 ∷ []) ∷ []) (g ∷ (p.0, p.1 ∷ []) ∷ []))
    go true true = refl
    go true false = refl
    go false true = refl
    go false false = refl
grouped-extended q p (g ∷ h ∷ gs) = sym (through (λ xs. extended xs p) (nat_eq q.0 g.0) ((g.0, q.1 ∷ g.1) ∷ h ∷ gs) ((q.0, q.1 ∷ []) ∷ g ∷ h ∷ gs))

-- one occurrence more is the last of the groups, or a group of its own
pub by_document-push : (ps : List (ℕ × ℕ)) (p : ℕ × ℕ) → by_document (ps ++ p ∷ []) ≡ extended (by_document ps) p
by_document-push [] p = refl
by_document-push (q ∷ ps) p = ap (grouped q) (by_document-push ps p) ∙ grouped-extended q p (by_document ps)

-- ---- what recorders keep of groups

abbrev pub docs : List (ℕ × List ℕ) → List ℕ
docs gs = map (λ g. g.0) gs

abbrev counts : List (ℕ × List ℕ) → List (ℕ × ℕ)
counts gs = map (λ g. (g.0, length g.1)) gs

docs_more : (gs : List (ℕ × List ℕ)) (p : ℕ × ℕ) → ends_in p.0 (docs gs) ≡ false → docs (extended gs p) ≡ docs gs ++ p.0 ∷ []
docs_more [] p new = refl
docs_more (g ∷ []) p new = ap (λ b. docs (pick b ((g.0, g.1 ++ p.1 ∷ []) ∷ []) (g ∷ (p.0, p.1 ∷ []) ∷ []))) new
docs_more (g ∷ h ∷ gs) p new = ap (λ ds. g.0 ∷ ds) (docs_more (h ∷ gs) p new)

docs_same : (gs : List (ℕ × List ℕ)) (p : ℕ × ℕ) → ends_in p.0 (docs gs) ≡ true → docs (extended gs p) ≡ docs gs
docs_same [] p again = cc
docs_same (g ∷ []) p again = ap (λ b. docs (pick b ((g.0, g.1 ++ p.1 ∷ []) ∷ []) (g ∷ (p.0, p.1 ∷ []) ∷ []))) again
docs_same (g ∷ h ∷ gs) p again = ap (λ ds. g.0 ∷ ds) (docs_same (h ∷ gs) p again)

counts_more : (gs : List (ℕ × List ℕ)) (p : ℕ × ℕ) → ends_in p.0 (docs gs) ≡ false → counts (extended gs p) ≡ counts gs ++ (p.0, 1) ∷ []
counts_more [] p new = refl
counts_more (g ∷ []) p new = ap (λ b. counts (pick b ((g.0, g.1 ++ p.1 ∷ []) ∷ []) (g ∷ (p.0, p.1 ∷ []) ∷ []))) new
counts_more (g ∷ h ∷ gs) p new = ap (λ ds. (g.0, length g.1) ∷ ds) (counts_more (h ∷ gs) p new)

last_same : (gs : List (ℕ × List ℕ)) (p : ℕ × ℕ) → ends_in p.0 (docs gs) ≡ true → last_count (extended gs p) ≡ last_count gs + 1
last_same [] p again = cc
last_same (g ∷ []) p again = ap (λ b. last_count (pick b ((g.0, g.1 ++ p.1 ∷ []) ∷ []) (g ∷ (p.0, p.1 ∷ []) ∷ []))) again ∙ length-append g.1 (p.1 ∷ [])
last_same (g ∷ h ∷ []) p again = ap (λ b. last_count (g ∷ pick b ((h.0, h.1 ++ p.1 ∷ []) ∷ []) (h ∷ (p.0, p.1 ∷ []) ∷ []))) again ∙ length-append h.1 (p.1 ∷ [])
last_same (g ∷ h ∷ k ∷ gs) p again = last_same (h ∷ k ∷ gs) p again

last_new : (gs : List (ℕ × List ℕ)) (p : ℕ × ℕ) → ends_in p.0 (docs gs) ≡ false → last_count (extended gs p) ≡ 1
last_new [] p new = refl
last_new (g ∷ []) p new = ap (λ b. last_count (pick b ((g.0, g.1 ++ p.1 ∷ []) ∷ []) (g ∷ (p.0, p.1 ∷ []) ∷ []))) new
last_new (g ∷ h ∷ []) p new = ap (λ b. last_count (g ∷ pick b ((h.0, h.1 ++ p.1 ∷ []) ∷ []) (h ∷ (p.0, p.1 ∷ []) ∷ []))) new
last_new (g ∷ h ∷ k ∷ gs) p new = last_new (h ∷ k ∷ gs) p new

counts_same : (gs : List (ℕ × List ℕ)) (p : ℕ × ℕ) (m : ℕ) → ends_in p.0 (docs gs) ≡ true → length gs ≡ suc m → counts (extended gs p) ≡ set (counts gs) m ((get_or (counts gs) m (0, 0)).0, (get_or (counts gs) m (0, 0)).1 + 1)
counts_same [] p m again long = cc
counts_same (g ∷ []) p zero again long = ap (λ b. counts (pick b ((g.0, g.1 ++ p.1 ∷ []) ∷ []) (g ∷ (p.0, p.1 ∷ []) ∷ []))) again ∙ ap (λ n. (g.0, n) ∷ []) (length-append g.1 (p.1 ∷ []))
counts_same (g ∷ []) p (suc m) again long = absurd (omega arith)
counts_same (g ∷ h ∷ gs) p zero again long = absurd (omega arith)
counts_same (g ∷ h ∷ gs) p (suc m) again long = ap (λ ds. (g.0, length g.1) ∷ ds) (counts_same (h ∷ gs) p m again (omega arith))

last_is : (gs : List (ℕ × List ℕ)) (m : ℕ) → length gs ≡ suc m → last_count gs ≡ (get_or (counts gs) m (0, 0)).1
last_is [] m long = absurd (omega arith)
last_is (g ∷ []) zero long = refl
last_is (g ∷ []) (suc m) long = absurd (omega arith)
last_is (g ∷ h ∷ gs) zero long = absurd (omega arith)
last_is (g ∷ h ∷ gs) (suc m) long = last_is (h ∷ gs) m (omega arith)

-- where a last document stands there is one
pub ends_some : (doc : ℕ) (ds : List ℕ) → ends_in doc ds ≡ true → 0 < length ds
ends_some doc [] again = cc
ends_some doc (d ∷ ds) again = omega arith

long_counts : (gs : List (ℕ × List ℕ)) → length (counts gs) ≡ length gs
long_counts [] = refl
long_counts (g ∷ gs) = ap suc (long_counts gs)

-- where a last document stands, it has an occurrence
pub last_occurrence : (doc : ℕ) (ps : List (ℕ × ℕ)) → ends_in doc (docs_of ps) ≡ true → length (counts_of ps) ≡ suc (length (counts_of ps) - 1)
last_occurrence doc ps again = (let some : 0 < length (docs_of ps) = ends_some doc (docs_of ps) again in omega (arith, length-map (by_document ps) (λ (g : ℕ × List ℕ). g.0), long_counts (by_document ps)))

-- ---- one occurrence more

pub docs_of-new : (ps : List (ℕ × ℕ)) (doc position : ℕ) → ends_in doc (docs_of ps) ≡ false → docs_of (ps ++ (doc, position) ∷ []) ≡ docs_of ps ++ doc ∷ []
docs_of-new ps doc position new = ap docs (by_document-push ps (doc, position)) ∙ docs_more (by_document ps) (doc, position) new

pub docs_of-again : (ps : List (ℕ × ℕ)) (doc position : ℕ) → ends_in doc (docs_of ps) ≡ true → docs_of (ps ++ (doc, position) ∷ []) ≡ docs_of ps
docs_of-again ps doc position again = ap docs (by_document-push ps (doc, position)) ∙ docs_same (by_document ps) (doc, position) again

pub counts_of-new : (ps : List (ℕ × ℕ)) (doc position : ℕ) → ends_in doc (docs_of ps) ≡ false → counts_of (ps ++ (doc, position) ∷ []) ≡ counts_of ps ++ (doc, 1) ∷ []
counts_of-new ps doc position new = ap counts (by_document-push ps (doc, position)) ∙ counts_more (by_document ps) (doc, position) new

pub counts_of-again : (ps : List (ℕ × ℕ)) (doc position m : ℕ) → ends_in doc (docs_of ps) ≡ true → length (counts_of ps) ≡ suc m → counts_of (ps ++ (doc, position) ∷ []) ≡ set (counts_of ps) m ((get_or (counts_of ps) m (0, 0)).0, (get_or (counts_of ps) m (0, 0)).1 + 1)
counts_of-again ps doc position m again long = ap counts (by_document-push ps (doc, position)) ∙ counts_same (by_document ps) (doc, position) m again (sym (length-map (by_document ps) (λ g. (g.0, length g.1))) ∙ long)

pub last_count-again : (ps : List (ℕ × ℕ)) (doc position : ℕ) → ends_in doc (docs_of ps) ≡ true → last_count (by_document (ps ++ (doc, position) ∷ [])) ≡ last_count (by_document ps) + 1
last_count-again ps doc position again = ap last_count (by_document-push ps (doc, position)) ∙ last_same (by_document ps) (doc, position) again

pub last_count-new : (ps : List (ℕ × ℕ)) (doc position : ℕ) → ends_in doc (docs_of ps) ≡ false → last_count (by_document (ps ++ (doc, position) ∷ [])) ≡ 1
last_count-new ps doc position new = ap last_count (by_document-push ps (doc, position)) ∙ last_new (by_document ps) (doc, position) new

pub last_count-counts : (ps : List (ℕ × ℕ)) (m : ℕ) → length (counts_of ps) ≡ suc m → last_count (by_document ps) ≡ (get_or (counts_of ps) m (0, 0)).1
last_count-counts ps m long = last_is (by_document ps) m (sym (length-map (by_document ps) (λ g. (g.0, length g.1))) ∙ long)

-- the documents stand with their counts
pub docs_of-counts : (ps : List (ℕ × ℕ)) → map (λ p. p.0) (counts_of ps) ≡ docs_of ps
docs_of-counts ps = go (by_document ps)
  where
    go : (gs : List (ℕ × List ℕ)) → map (λ p. p.0) (counts gs) ≡ docs gs
    go [] = refl
    go (g ∷ gs) = ap (λ ds. g.0 ∷ ds) (go gs)

ends_more : (doc : ℕ) (ds : List ℕ) → ends_in doc (ds ++ doc ∷ []) ≡ true
ends_more doc [] = grind (arith, nat_tests)
ends_more doc (d ∷ []) = grind (arith, nat_tests)
ends_more doc (d ∷ e ∷ ds) = ends_more doc (e ∷ ds)

-- the document of one occurrence more is the last one
pub ends_push : (ps : List (ℕ × ℕ)) (doc position : ℕ) → ends_in doc (docs_of (ps ++ (doc, position) ∷ [])) ≡ true
ends_push ps doc position = go (ends_in doc (docs_of ps)) refl
  where
    go : (b : Bool) → ends_in doc (docs_of ps) ≡ b → ends_in doc (docs_of (ps ++ (doc, position) ∷ [])) ≡ true
    go true again = ap (ends_in doc) (docs_of-again ps doc position again) ∙ again
    go false new = ap (ends_in doc) (docs_of-new ps doc position new) ∙ ends_more doc (docs_of ps)

-- a count that would pass 32 bits is the last one
pub count_past : (ps items : List (ℕ × ℕ)) (doc position m : ℕ) → items ≡ counts_of ps → ends_in doc (docs_of ps) ≡ true → length (counts_of ps) ≡ suc m → 2 ^ 32 ≤ (get_or items m (0, 0)).1 + 1 → 2 ^ 32 ≤ last_count (by_document (ps ++ (doc, position) ∷ []))
count_past ps items doc position m is again long past =
    subst (λ n. 2 ^ 32 ≤ n) (ap (λ (xs : List (ℕ × ℕ)). (get_or {A = ℕ × ℕ} xs m (0, 0)).1 + 1) is ∙ ap (λ n. n + 1) (sym (last_count-counts ps m long)) ∙ sym (last_count-again ps doc position again)) past

-- one that doesn't
pub count_within : (ps items : List (ℕ × ℕ)) (doc position m : ℕ) → items ≡ counts_of ps → ends_in doc (docs_of ps) ≡ true → length (counts_of ps) ≡ suc m → (get_or items m (0, 0)).1 + 1 < 2 ^ 32 → last_count (by_document (ps ++ (doc, position) ∷ [])) < 2 ^ 32
count_within ps items doc position m is again long within =
    subst (λ n. n < 2 ^ 32) (ap (λ (xs : List (ℕ × ℕ)). (get_or {A = ℕ × ℕ} xs m (0, 0)).1 + 1) is ∙ ap (λ n. n + 1) (sym (last_count-counts ps m long)) ∙ sym (last_count-again ps doc position again)) within

-- ---- the count of the last document, by the last occurrence

some_groups : (q : ℕ × ℕ) (gs : List (ℕ × List ℕ)) → 0 < length (grouped q gs)
some_groups q [] = omega arith
some_groups q (g ∷ gs) = go (nat_eq q.0 g.0)
  where
    go : (b : Bool) → 0 < length (pick b ((g.0, q.1 ∷ g.1) ∷ gs) ((q.0, q.1 ∷ []) ∷ g ∷ gs))
    go true = omega arith
    go false = omega arith

-- an occurrence in front of others doesn't change which document is the last
ends_grouped : (doc : ℕ) (q : ℕ × ℕ) (gs : List (ℕ × List ℕ)) → 0 < length gs → ends_in doc (docs (grouped q gs)) ≡ ends_in doc (docs gs)
ends_grouped doc q [] some = absurd (omega arith)
ends_grouped doc q (g ∷ gs) some = go (nat_eq q.0 g.0)
  where
    go : (b : Bool) → ends_in doc (docs (pick b ((g.0, q.1 ∷ g.1) ∷ gs) ((q.0, q.1 ∷ []) ∷ g ∷ gs))) ≡ ends_in doc (docs (g ∷ gs))
    go true = refl
    go false = refl

last_ends : (doc : ℕ) (q : ℕ × ℕ) (ps : List (ℕ × ℕ)) → ends_in doc (docs_of (q ∷ ps)) ≡ nat_eq (last_doc q.0 ps) doc
last_ends doc q [] = refl
last_ends doc q (p ∷ ps) = ends_grouped doc q (by_document (p ∷ ps)) (some_groups p (by_document ps)) ∙ last_ends doc p ps

pub count_again : (ps : List (ℕ × ℕ)) (doc position count : ℕ) → doc ≡ last_doc 0 ps → count ≡ last_count (by_document ps) → count + 1 ≡ last_count (by_document (ps ++ (doc, position) ∷ []))
count_again [] doc position count last is = ap (λ n. n + 1) is
count_again (q ∷ ps) doc position count last is =
    let here : nat_eq (last_doc q.0 ps) doc ≡ true = grind (arith, nat_tests) in
    ap (λ n. n + 1) is ∙ sym (last_count-again (q ∷ ps) doc position (last_ends doc q ps ∙ here))

pub count_anew : (ps : List (ℕ × ℕ)) (doc last_one position : ℕ) → last_one ≡ last_doc 0 ps → doc ≢ last_one → 1 ≡ last_count (by_document (ps ++ (doc, position) ∷ []))
count_anew [] doc last_one position last other = refl
count_anew (q ∷ ps) doc last_one position last other =
    let here : nat_eq (last_doc q.0 ps) doc ≡ false = grind (arith, nat_tests) in
    sym (last_count-new (q ∷ ps) doc position (last_ends doc q ps ∙ here))

-- the last document of a list by its index
pub ends_in-last : (doc : ℕ) (ds : List ℕ) (m : ℕ) → length ds ≡ suc m → ends_in doc ds ≡ nat_eq (get_or ds m 0) doc
ends_in-last doc [] m long = absurd (omega arith)
ends_in-last doc (d ∷ []) zero long = refl
ends_in-last doc (d ∷ []) (suc m) long = absurd (omega arith)
ends_in-last doc (d ∷ e ∷ ds) zero long = absurd (omega arith)
ends_in-last doc (d ∷ e ∷ ds) (suc m) long = ends_in-last doc (e ∷ ds) m (omega arith)

-- the last document, where there is one
pub ends_at : (doc d : ℕ) (ds : List ℕ) → slice_get ds (length ds - 1) ≡ Some d → nat_eq d doc ≡ ends_in doc ds
ends_at doc d [] last = absurd (omega (arith, slice_get_within none (length none - 1) d last))
ends_at doc d (e ∷ ds) last =
    let here : length (e ∷ ds) - 1 ≡ length ds = omega arith in
    let at : get_or (e ∷ ds) (length ds) 0 ≡ d = get_or_from_slice_get (e ∷ ds) (length ds) d 0 (sym (ap (slice_get (e ∷ ds)) here) ∙ last) in
    ap (λ x. nat_eq x doc) (sym at) ∙ sym (ends_in-last doc (e ∷ ds) (length ds) refl)

-- likewise of pairs
pub ends_at_pair : (doc : ℕ) (p : ℕ × ℕ) (ps : List (ℕ × ℕ)) → slice_get ps (length ps - 1) ≡ Some p → nat_eq p.0 doc ≡ ends_in doc (map (λ x. x.0) ps)
ends_at_pair doc p ps last = ends_at doc p.0 (map (λ x. x.0) ps) (ap (slice_get (map (λ x. x.0) ps)) (ap (λ n. n - 1) (length-map ps (λ x. x.0))) ∙ first ps (length ps - 1) last)
  where
    first : (ps : List (ℕ × ℕ)) (i : ℕ) → slice_get ps i ≡ Some p → slice_get (map (λ x. x.0) ps) i ≡ Some p.0
    first [] i at = cc
    first (q ∷ ps) zero at = ap (option_map (λ x. x.0)) at
    first (q ∷ ps) (suc i) at = first ps i at
