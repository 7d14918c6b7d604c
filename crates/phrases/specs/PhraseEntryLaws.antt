-- Laws of the entries of phrases.
use Rattle.std.proofs.Common.{[], ◌+◌, ◌<◌, ◌∷◌, ◌≡◌, ◌≤◌, List, ap, arith, false, if◌then◌else◌, length, map, nat_lt, refl, true, ℕ}
use Rattle.std.proofs.lemmas.Bool.Decides.{nat_tests}
use Rattle.docsets.specs.Entries.{AreSingle, Entry, Rising, single}
use Rattle.docsets.specs.EntryLaws.{Rising-lower}
use Rattle.docsets.proofs.EntryLaws.{highest_moved}
use Rattle.definitions.specs.Scoring.{DontFall, max_score}
use Rattle.intersections.specs.Columns.{HaveOneColumn}
use Rattle.phrases.specs.PhraseEntries.{phrased, placed}
use Rattle.phrases.specs.Places.{places_of}

-- ---- positions plus an offset
pub Rising-placed : (o low : ℕ) (es : List Entry) → Rising low es → Rising low (placed o es)
Rising-placed o low [] r = tt
Rising-placed o low (e ∷ es) r = (r.0, r.1, omega arith, Rising-placed o (e.doc + 1) es r.3)

-- positions plus an offset don't fall either
DontFall-more : (o : ℕ) (ps : List ℕ) → DontFall ps → DontFall (map (λ p. p + o) ps)
DontFall-more o [] f = tt
DontFall-more o (p ∷ []) f = tt
DontFall-more o (p ∷ q ∷ ps) f = (omega (arith, f.0), DontFall-more o (q ∷ ps) f.1)

pub one_column-placed : (o : ℕ) (es : List Entry) → o ≤ 1073741824 → AreSingle es → HaveOneColumn (placed o es)
one_column-placed o [] small s = tt
one_column-placed o (e ∷ es) small s = (let more = highest_moved o (single e.positions) in (refl, DontFall-more o (single e.positions) s.1, omega (arith, more, small, s.2), one_column-placed o es small s.3))

-- an entry with its positions plus an offset
abbrev pub place : ℕ → Entry → Entry
place o e = record { doc = e.doc; score = 0; count = e.count; positions = map (λ p. p + o) (single e.positions) ∷ [] }

-- ---- documents with places

-- a document where the phrase stands
abbrev pub phrase_at : (ℕ → ℕ → ℕ) → Entry → List ℕ → Entry
phrase_at score e places = record { doc = e.doc; score = score e.doc (length places); count = length places; positions = places ∷ [] }

pub phrased-none : (score : ℕ → ℕ → ℕ) (slop : ℕ) (e : Entry) (es : List Entry) → length (places_of slop e.positions) ≡ 0 → phrased score slop (e ∷ es) ≡ phrased score slop es
phrased-none score slop e es none = ap (λ n. if nat_lt 0 n then phrase_at score e (places_of slop e.positions) ∷ phrased score slop es else phrased score slop es) none

pub phrased-some : (score : ℕ → ℕ → ℕ) (slop : ℕ) (e : Entry) (es : List Entry) → 0 < length (places_of slop e.positions) → phrased score slop (e ∷ es) ≡ phrase_at score e (places_of slop e.positions) ∷ phrased score slop es
phrased-some score slop e es some = (let b : nat_lt 0 (length (places_of slop e.positions)) ≡ true = grind (arith, nat_tests, some) in ap (λ b. if b then phrase_at score e (places_of slop e.positions) ∷ phrased score slop es else phrased score slop es) b)

pub Rising-phrased : (score : ℕ → ℕ → ℕ) (slop low : ℕ) (es : List Entry) → ((d n : ℕ) → score d n ≤ max_score) → Rising low es → Rising low (phrased score slop es)
Rising-phrased score slop low [] small r = tt
Rising-phrased score slop low (e ∷ es) small r =
    let rest = Rising-phrased score slop (e.doc + 1) es small r.3 in
    elim (nat_lt 0 (length (places_of slop e.positions))) as (λ b. Rising low (if b then phrase_at score e (places_of slop e.positions) ∷ phrased score slop es else phrased score slop es)) [
      | true ↦ (r.0, r.1, small e.doc (length (places_of slop e.positions)), rest)
      | false ↦ Rising-lower low (e.doc + 1) (phrased score slop es) (omega (arith, r.0)) rest
    ]
