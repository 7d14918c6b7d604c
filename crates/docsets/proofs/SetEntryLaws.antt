-- Laws of the entries of a set.
use Rattle.std.proofs.Common.{[], ◌+◌, ◌-◌, ◌<◌, ◌∙◌, ◌∷◌, ◌≡◌, ◌≤◌, Bool, List, None, Some, ap, arith, drop, false, length, refl, slice_index_or, suc, sym, true, ℕ}
use Rattle.common.specs.BitSets.{IsFirst}
use Rattle.docsets.specs.Entries.{Entry, Rising, first, from}
use Rattle.docsets.specs.EntryLaws.{Rising-from}
use Rattle.docsets.proofs.EntryLaws.{drop-one, first_at_most, from-first, from-from, from-in, from-out}
use Rattle.definitions.specs.Postings.{terminated}
use Rattle.definitions.proofs.Lists.{by_order}
use Rattle.docsets.specs.SetEntries.{flag_entries, set_entries}
use Rattle.docsets.specs.SetEntryLaws.{NoneBetween, Rising-flags, Rising-set, bare, flag_of}

-- a flag behind the first is one of the others
behind : (flag : Bool) (flags : List Bool) (n i : ℕ) → n < i → flag_of n (flag ∷ flags) i ≡ flag_of (n + 1) flags i
behind flag flags n i l = ap (λ k. slice_index_or (flag ∷ flags) k false) (let is : i - n ≡ suc (i - (n + 1)) = omega (arith, l) in is)

here : (flag : Bool) (flags : List Bool) (n i : ℕ) → i ≡ n → flag_of n (flag ∷ flags) i ≡ flag
here flag flags n i e = ap (λ k. slice_index_or (flag ∷ flags) k false) (let is : i - n ≡ 0 = omega (arith, e) in is)

later : (flag : Bool) (flags : List Bool) (n low high : ℕ) → NoneBetween n (flag ∷ flags) low high → NoneBetween (n + 1) flags low high
later flag flags n low high none i above l h = sym (behind flag flags n i (omega (arith, above))) ∙ none i (omega (arith, above)) l h

unlike : (P : Type 0) → true ≡ false → P
unlike P e = cc

-- the first entry from a number on is that of the least number whose flag is set
first-flag : (n : ℕ) (flags : List Bool) (low at : ℕ) → n ≤ at → low ≤ at → flag_of n flags at ≡ true → NoneBetween n flags low at → first (from low (flag_entries n flags)) ≡ at
first-flag n [] low at above l is none = unlike (first (from low (flag_entries n [])) ≡ at) (sym is)
first-flag n (false ∷ flags) low at above l is none = by_order at n (first (from low (flag_entries (n + 1) flags)) ≡ at)
    (λ i. unlike (first (from low (flag_entries (n + 1) flags)) ≡ at) (sym is ∙ here false flags n at (omega (arith, i, above))))
    (λ o. first-flag (n + 1) flags low at (omega (arith, o)) l (sym (behind false flags n at o) ∙ is) (later false flags n low at none))
first-flag n (true ∷ flags) low at above l is none = by_order low n (first (from low (flag_entries n (true ∷ flags))) ≡ at)
    (λ i. ap first (from-in low (bare n) (flag_entries (n + 1) flags) i) ∙ by_order at n (n ≡ at) (λ j. omega (arith, j, above)) (λ o. unlike (n ≡ at) (sym (here true flags n n refl) ∙ none n (omega arith) i o)))
    (λ o. ap first (from-out low (bare n) (flag_entries (n + 1) flags) o) ∙ first-flag (n + 1) flags low at (omega (arith, o, l)) l (sym (behind true flags n at (omega (arith, o, l))) ∙ is) (later true flags n low at none))

-- no entry comes from a number on where no flag from there on is set
none-flag : (n : ℕ) (flags : List Bool) (low : ℕ) → ((i : ℕ) → n ≤ i → low ≤ i → flag_of n flags i ≡ false) → from low (flag_entries n flags) ≡ []
none-flag n [] low none = refl
none-flag n (false ∷ flags) low none = none-flag (n + 1) flags low (λ i above l. sym (behind false flags n i (omega (arith, above))) ∙ none i (omega (arith, above)) l)
none-flag n (true ∷ flags) low none = by_order low n (from low (flag_entries n (true ∷ flags)) ≡ [])
    (λ i. unlike (from low (flag_entries n (true ∷ flags)) ≡ []) (sym (here true flags n n refl) ∙ none n (omega arith) i))
    (λ o. from-out low (bare n) (flag_entries (n + 1) flags) o ∙ none-flag (n + 1) flags low (λ i above l. sym (behind true flags n i (omega (arith, above))) ∙ none i (omega (arith, above)) l))

-- ---- a set, whose first flag is that of 0

-- the flag of a number as its index in the list
pub at-zero : (flags : List Bool) (i : ℕ) → flag_of 0 flags i ≡ slice_index_or flags i false
at-zero flags i = ap (λ k. slice_index_or flags k false) (let is : i - 0 ≡ i = omega arith in is)

pub first-set : (flags : List Bool) (low at : ℕ) → IsFirst (λ i. slice_index_or flags i false) low (Some at) → first (from low (set_entries flags)) ≡ at
first-set flags low at is = first-flag 0 flags low at (omega arith) is.0 (at-zero flags at ∙ is.1) (λ i above l h. at-zero flags i ∙ is.2 i l h)

pub none-set : (flags : List Bool) (low : ℕ) → IsFirst (λ i. slice_index_or flags i false) low None → from low (set_entries flags) ≡ []
none-set flags low none = none-flag 0 flags low (λ i above l. at-zero flags i ∙ none i l)

-- what is left from the first number on is what is left
pub same-set : (flags : List Bool) (low at : ℕ) → length flags ≤ terminated → low ≤ at → first (from low (set_entries flags)) ≡ at → from at (set_entries flags) ≡ from low (set_entries flags)
same-set flags low at small l is =
    let all : Rising 0 (set_entries flags) = Rising-flags 0 flags (omega (arith, small)) in
    sym (from-from low at (set_entries flags) l) ∙ from-first at 0 (from low (set_entries flags)) (omega (arith, is)) (Rising-from low 0 (set_entries flags) all)

pub all-before : (low : ℕ) (es : List Entry) → Rising low es → from terminated es ≡ []
all-before low [] r = refl
all-before low (e ∷ es) r = from-out terminated e es r.1 ∙ all-before (e.doc + 1) es r.3

-- nothing is left at the end
pub end-set : (flags : List Bool) → length flags ≤ terminated → from terminated (set_entries flags) ≡ []
end-set flags small = all-before 0 (set_entries flags) (Rising-flags 0 flags (omega (arith, small)))

-- the next step leaves what comes behind the document
pub next-set : (flags : List Bool) (doc : ℕ) → length flags ≤ terminated → doc ≡ first (from doc (set_entries flags)) → drop 1 (from doc (set_entries flags)) ≡ from (doc + 1) (set_entries flags)
next-set flags doc small at =
    let all : Rising 0 (set_entries flags) = Rising-flags 0 flags (omega (arith, small)) in
    drop-one 0 (from doc (set_entries flags)) (Rising-from doc 0 (set_entries flags) all) ∙ (ap (λ d. from (d + 1) (from doc (set_entries flags))) (sym at) ∙ from-from doc (doc + 1) (set_entries flags) (omega arith))

-- no document of a set is behind the end
pub doc-set : (doc : ℕ) (flags : List Bool) → length flags ≤ terminated → doc ≡ first (from doc (set_entries flags)) → doc ≤ terminated
doc-set doc flags small at = (let le = first_at_most 0 (from doc (set_entries flags)) (Rising-set doc flags small) in omega (arith, le, at))
