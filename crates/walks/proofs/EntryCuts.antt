-- Entries before a document and from it on, by how many documents are below it.
use Rattle.std.proofs.Common.{[], List, ap, ap₂, arith, cond, drop, false, if◌then◌else◌, le-leb, length, map, nat_le, nat_lt, refl, suc, sym, take, true, zero, ◌+◌, ◌-◌, ◌<◌, ◌≡◌, ◌≤◌, ◌∙◌, ◌∷◌, ℕ}
use Rattle.std.specs.Prelude.{int_lt, min, pos, ℤ}
use Rattle.std.proofs.lemmas.Bool.{lt-leb}
use Rattle.std.proofs.lemmas.Bool.Decides.{nat_tests}
use Rattle.std.proofs.lemmas.List.{drop-drop}
use Rattle.definitions.proofs.Lists.{by_order}
use Rattle.definitions.specs.Postings.{terminated}
use Rattle.definitions.specs.Sinks.{fed}
use Rattle.docsets.proofs.EntryLaws.{from-first, from-out}
use Rattle.docsets.specs.Entries.{Entry, Rising, first, first_score, from}
use Rattle.docsets.specs.ScoredEntries.{pairs_of}
use Rattle.walks.specs.BlocksLeft.{up_to}
use Rattle.segment_postings.specs.Reading.{Ascends, below}

-- ---- how many documents are below one

-- the documents of entries
abbrev pub docs_in : List Entry → List ℕ
docs_in es = map (λ e. e.doc) es

pub below-in : (t d : ℕ) (ds : List ℕ) → d < t → below t (d ∷ ds) ≡ suc (below t ds)
below-in t d ds l =
    let yes : nat_lt d t ≡ true = grind (arith, nat_tests) in
    let next : 1 + below t ds ≡ suc (below t ds) = omega arith in
    ap (λ b. cond b (1 + below t ds) 0) yes ∙ next

pub below-out : (t d : ℕ) (ds : List ℕ) → t ≤ d → below t (d ∷ ds) ≡ 0
below-out t d ds l = let no : nat_lt d t ≡ false = grind (arith, nat_tests) in ap (λ b. cond b (1 + below t ds) 0) no

below-none : (t low : ℕ) (ds : List ℕ) → Ascends low ds → t ≤ low → below t ds ≡ 0
below-none t low [] a l = refl
below-none t low (d ∷ ds) a l = below-out t d ds (let least = a.0 in omega (arith, least, l))

-- behind `n` documents, `n` fewer
pub below-drop : (t n low : ℕ) (ds : List ℕ) → Ascends low ds → below t (drop n ds) ≡ below t ds - n
below-drop t zero low ds a = omega arith
below-drop t (suc n) low [] a = omega arith
below-drop t (suc n) low (d ∷ ds) a =
    let ih = below-drop t n (d + 1) ds a.2 in
    by_order t d (below t (drop n ds) ≡ below t (d ∷ ds) - suc n)
    (λ late. (let none = below-none t (d + 1) ds a.2 (omega (arith, late)) in let out = below-out t d ds late in omega (arith, ih, none, out)))
    (λ early. (let in_it = below-in t d ds early in omega (arith, ih, in_it)))

-- as many documents as stand before one are below it
least_at : (n low d : ℕ) (ds rest : List ℕ) → Ascends low ds → drop n ds ≡ d ∷ rest → low ≤ d
least_at zero low d [] rest a is = absurd (cc)
least_at zero low d (x ∷ ds) rest a is = (let same = ap (λ xs. below-head xs) is in let least = a.0 in omega (arith, same, least))
  where
    below-head : List ℕ → ℕ
    below-head [] = 0
    below-head (y ∷ ys) = y
least_at (suc n) low d [] rest a is = absurd (cc)
least_at (suc n) low d (x ∷ ds) rest a is = (let ih = least_at n (x + 1) d ds rest a.2 is in let least = a.0 in omega (arith, ih, least))

pub below-own : (n low d : ℕ) (ds rest : List ℕ) → Ascends low ds → drop n ds ≡ d ∷ rest → n ≤ below d ds
below-own zero low d ds rest a is = omega arith
below-own (suc n) low d [] rest a is = absurd (cc)
below-own (suc n) low d (x ∷ ds) rest a is =
    let ih = below-own n (x + 1) d ds rest a.2 is in
    let late = least_at n (x + 1) d ds rest a.2 is in
    let in_it = below-in d x ds (omega (arith, late)) in
    omega (arith, ih, in_it)

-- ---- cuts

up_to-in : (t : ℕ) (e : Entry) (es : List Entry) → e.doc < t → up_to t (e ∷ es) ≡ e ∷ up_to t es
up_to-in t e es l = ap (λ b. if b then up_to t es else e ∷ up_to t es) (lt-leb t e.doc l)

up_to-out : (t : ℕ) (e : Entry) (es : List Entry) → t ≤ e.doc → up_to t (e ∷ es) ≡ up_to t es
up_to-out t e es l = ap (λ b. if b then up_to t es else e ∷ up_to t es) (le-leb t e.doc l)

up_to-low : (t low : ℕ) (es : List Entry) → t ≤ low → Rising low es → up_to t es ≡ []
up_to-low t low [] l r = refl
up_to-low t low (e ∷ es) l r = up_to-out t e es (omega (arith, l, r.0)) ∙ up_to-low t (e.doc + 1) es (omega (arith, l, r.0)) r.3

-- nothing is before the first
pub up_to-first : (t low : ℕ) (es : List Entry) → t ≤ first es → Rising low es → up_to t es ≡ []
up_to-first t low [] l r = refl
up_to-first t low (e ∷ es) l r = up_to-out t e es l ∙ up_to-low t (e.doc + 1) es (omega (arith, l)) r.3

-- the first, and then what is left before a document
pub fed_next : {S : Type 0} (limit : S → ℤ) (taken : S → ℕ × ℕ → S) (s : S) (until : ℕ) (es : List Entry) → first es < terminated → first es < until → fed limit taken (fed limit taken s ((first es, first_score es) ∷ [])) (pairs_of (up_to until (drop 1 es))) ≡ fed limit taken s (pairs_of (up_to until es))
fed_next limit taken s until [] on early = absurd (omega (arith, on))
fed_next limit taken s until (e ∷ es) on early = sym (ap (λ xs. fed limit taken s (pairs_of xs)) (up_to-in until e es early))

-- the first alone, where the next isn't before it
pub fed_last : {S : Type 0} (limit : S → ℤ) (taken : S → ℕ × ℕ → S) (s : S) (until low : ℕ) (es : List Entry) → first es < terminated → until ≡ first es + 1 → Rising low es → fed limit taken s ((first es, first_score es) ∷ []) ≡ fed limit taken s (pairs_of (up_to until es))
fed_last limit taken s until low [] on last r = absurd (omega (arith, on))
fed_last limit taken s until low (e ∷ es) on last r = sym (ap (λ xs. fed limit taken s (pairs_of xs)) (up_to-in until e es (omega (arith, last)) ∙ ap (λ xs. e ∷ xs) (up_to-low until (e.doc + 1) es (omega (arith, last)) r.3)))

-- before the end are all
pub up_to-end : (low : ℕ) (es : List Entry) → Rising low es → up_to terminated es ≡ es
up_to-end low [] r = refl
up_to-end low (e ∷ es) r = up_to-in terminated e es r.1 ∙ ap (λ xs. e ∷ xs) (up_to-end (e.doc + 1) es r.3)

pub cut-from : (t low : ℕ) (es : List Entry) → Rising low es → from t es ≡ drop (below t (docs_in es)) es
cut-from t low [] r = refl
cut-from t low (e ∷ es) r =
    by_order t e.doc (from t (e ∷ es) ≡ drop (below t (docs_in (e ∷ es))) (e ∷ es))
    (λ late. from-first t low (e ∷ es) late r ∙ sym (ap (λ n. drop n (e ∷ es)) (below-out t e.doc (docs_in es) late)))
    (λ early. from-out t e es early ∙ (cut-from t (e.doc + 1) es r.3 ∙ sym (ap (λ n. drop n (e ∷ es)) (below-in t e.doc (docs_in es) early))))

pub cut-up_to : (t low : ℕ) (es : List Entry) → Rising low es → up_to t es ≡ take (below t (docs_in es)) es
cut-up_to t low [] r = sym (none (below t []))
  where
    none : (n : ℕ) → take {A = Entry} n [] ≡ []
    none zero = refl
    none (suc n) = refl
cut-up_to t low (e ∷ es) r =
    by_order t e.doc (up_to t (e ∷ es) ≡ take (below t (docs_in (e ∷ es))) (e ∷ es))
    (λ late. up_to-first t low (e ∷ es) late r ∙ sym (ap (λ n. take n (e ∷ es)) (below-out t e.doc (docs_in es) late)))
    (λ early. up_to-in t e es early ∙ (ap (λ xs. e ∷ xs) (cut-up_to t (e.doc + 1) es r.3) ∙ sym (ap (λ n. take n (e ∷ es)) (below-in t e.doc (docs_in es) early))))

pub length-from : (t : ℕ) (es : List Entry) → length (from t es) ≤ length es
length-from t [] = omega arith
length-from t (e ∷ es) = (let ih = length-from t es in elim (nat_le t e.doc) as (λ b. length (if b then e ∷ from t es else from t es) ≤ suc (length es)) [ true ↦ omega (arith, ih) | false ↦ omega (arith, ih) ])

-- nothing is at the end or behind it
pub none_behind : (t low : ℕ) (es : List Entry) → terminated ≤ t → Rising low es → from t es ≡ []
none_behind t low [] l r = refl
none_behind t low (e ∷ es) l r = from-out t e es (omega (arith, l, r.1)) ∙ none_behind t (e.doc + 1) es l r.3

docs-drop : (n : ℕ) (es : List Entry) → docs_in (drop n es) ≡ drop n (docs_in es)
docs-drop zero es = refl
docs-drop (suc n) [] = refl
docs-drop (suc n) (e ∷ es) = docs-drop n es

-- what is cut off and what is left are fed one after the other
pub fed_cut : {S : Type 0} (limit : S → ℤ) (taken : S → ℕ × ℕ → S) (s : S) (until low : ℕ) (es : List Entry) → Rising low es → fed limit taken (fed limit taken s (pairs_of (up_to until es))) (pairs_of (from until es)) ≡ fed limit taken s (pairs_of es)
fed_cut limit taken s until low [] r = refl
fed_cut {S} limit taken s until low (e ∷ es) r =
    let next : S = if int_lt (limit s) (pos e.score) then taken s (e.doc, e.score) else s in
    let ih = fed_cut limit taken next until (e.doc + 1) es r.3 in
    by_order until e.doc (fed limit taken (fed limit taken s (pairs_of (up_to until (e ∷ es)))) (pairs_of (from until (e ∷ es))) ≡ fed limit taken s (pairs_of (e ∷ es)))
    (λ late. ap₂ (λ xs ys. fed limit taken (fed limit taken s (pairs_of xs)) (pairs_of ys)) (up_to-first until low (e ∷ es) late r) (from-first until low (e ∷ es) late r))
    (λ early. ap₂ (λ xs ys. fed limit taken (fed limit taken s (pairs_of xs)) (pairs_of ys)) (up_to-in until e es early) (from-out until e es early) ∙ ih)

-- entries that stand at an index in a list of documents, from one of these on
pub docs_from : (index target low : ℕ) (docs : List ℕ) (es : List Entry) → Ascends low docs → Rising 0 es → docs_in es ≡ drop index docs → index ≤ below target docs → docs_in (from target es) ≡ drop (below target docs) docs
docs_from index target low docs es ascends rising at ahead =
    let m = below target (docs_in es) in
    let behind : m ≡ below target docs - index = ap (below target) at ∙ below-drop target index low docs ascends in
    let whole : index + m ≡ below target docs = omega (arith, behind, ahead) in
    ap docs_in (cut-from target 0 es rising)
    ∙ (docs-drop m es
    ∙ (ap (drop m) at
    ∙ (drop-drop m index docs ∙ ap (λ k. drop k docs) whole)))

-- of what is below a number at the end or behind it there is no more than before the end
pub below-end : (n low : ℕ) (ds : List ℕ) → Ascends low ds → below (min terminated n) ds ≡ below n ds
below-end n low [] a = refl
below-end n low (d ∷ ds) a =
    by_order n d (below (min terminated n) (d ∷ ds) ≡ below n (d ∷ ds))
    (λ late. below-out (min terminated n) d ds (omega (arith, late)) ∙ sym (below-out n d ds late))
    (λ early. (let small = a.1 in below-in (min terminated n) d ds (omega (arith, early, small))) ∙ (ap suc (below-end n (d + 1) ds a.2) ∙ sym (below-in n d ds early)))

pub record IsCut (until n : ℕ) (es : List Entry) : Type 0 where
  pub before : up_to until es ≡ take n es
  pub behind : from until es ≡ drop n es

-- of entries that stand at an index in a list of documents, those from one on are cut at a later one
pub cut_block : (index target until low : ℕ) (docs : List ℕ) (es : List Entry) → Ascends low docs → Rising 0 es → docs_in es ≡ drop index docs → Rising 0 (from target es) → index ≤ below target docs → IsCut until (below until docs - below target docs) (from target es)
cut_block index target until low docs es ascends rising at rises ahead =
    let rest = from target es in
    let here = cut-from target 0 es rising in
    let behind : below target (docs_in es) ≡ below target docs - index = ap (below target) at ∙ below-drop target index low docs ascends in
    let which : below until (docs_in rest) ≡ below until (docs_in es) - below target (docs_in es) = ap (λ xs. below until (docs_in xs)) here ∙ (ap (below until) (docs-drop (below target (docs_in es)) es) ∙ below-cut) in
    let all : below until (docs_in es) ≡ below until docs - index = ap (below until) at ∙ below-drop until index low docs ascends in
    let n : below until (docs_in rest) ≡ below until docs - below target docs = omega (arith, which, behind, all, ahead) in
    record {
      before = cut-up_to until 0 rest rises ∙ ap (λ k. take k rest) n;
      behind = cut-from until 0 rest rises ∙ ap (λ k. drop k rest) n;
    }
  where
    rising_docs : (low : ℕ) (xs : List Entry) → Rising low xs → Ascends low (docs_in xs)
    rising_docs low [] r = tt
    rising_docs low (e ∷ xs) r = (r.0, r.1, rising_docs (e.doc + 1) xs r.3)

    below-cut : below until (drop (below target (docs_in es)) (docs_in es)) ≡ below until (docs_in es) - below target (docs_in es)
    below-cut = below-drop until (below target (docs_in es)) 0 (docs_in es) (rising_docs 0 es rising)
