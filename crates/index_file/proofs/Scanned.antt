-- What a reader of records knows between two of them.
use Rattle.std.proofs.Common.{[], ◌++◌, ◌-◌, ◌<◌, ◌^◌, ◌↔◌, ◌∙◌, ◌∷◌, ◌≡◌, ◌≢◌, ◌≤◌, Bool, IsTrue, List, ap, append_assoc, arith, cond, drop, get_or, inl, inr, length, length-append, refl, subst, sym, true, ℕ}
use Rattle.layouts.specs.RecordFiles.{AreShort, AreTaken, EndsAt, HasRecord, IsDamaged, IsFile, IsNoIndex, records, sized_body}
use Rattle.layouts.proofs.FilesOfRecords.{file_of, records_more, short_more, taken_more}

pub record IsScanned (takes : List (List ℕ) → List ℕ → Type 0) (bytes : List ℕ) (bodies : List (List ℕ)) (rest : List ℕ) : Type 0 where
  pub whole : bytes ≡ records bodies ++ rest
  pub short : AreShort bodies
  pub taken : AreTaken takes [] bodies
  pub next : 0 < length rest
  pub index : ¬ IsNoIndex bytes

-- a list with something in it, by its first element
parted : (rest : List ℕ) → 0 < length rest → rest ≡ get_or rest 0 0 ∷ drop 1 rest
parted [] some = absurd (omega arith)
parted (byte ∷ rest) some = refl

pub scan_starts : (takes : List (List ℕ) → List ℕ → Type 0) (bytes : List ℕ) (bodies : List (List ℕ)) → bodies ≡ [] → 10 ≤ length bytes → get_or bytes 0 0 ≡ 165 → IsScanned takes bytes bodies bytes
scan_starts takes bytes bodies none long first = record {
  whole = ap (λ (l : List (List ℕ)). records l ++ bytes) (sym none);
  short = subst AreShort (sym none) tt;
  taken = subst (λ (l : List (List ℕ)). AreTaken takes [] l) (sym none) tt;
  next = omega arith;
  index = index;
}
  where
    index : ¬ IsNoIndex bytes
    index (inl few) = omega arith
    index (inr closed) = closed first

-- one record more
pub scan_goes_on : (takes : List (List ℕ) → List ℕ → Type 0) (bytes : List ℕ) (old new : List (List ℕ)) (rest body after : List ℕ) (took : Bool) → IsScanned takes bytes old rest → get_or rest 0 0 ≡ 165
    → length body < 2 ^ 64 → drop 1 rest ≡ sized_body body ++ after → 0 < length after → IsTrue took ↔ takes old body → new ≡ cond took (old ++ body ∷ []) old → took ≡ true → IsScanned takes bytes new after
scan_goes_on takes bytes old new rest body after took scanned open_gate few is more answer appended good =
    let same : new ≡ old ++ body ∷ [] = appended ∙ ap (λ (b : Bool). cond b (old ++ body ∷ []) old) good in
    let begin : rest ≡ 165 ∷ (sized_body body ++ after) = parted rest scanned.next ∙ ap (λ (b : ℕ). b ∷ drop 1 rest) open_gate ∙ ap (λ (l : List ℕ). 165 ∷ l) is in
    let whole : bytes ≡ records (old ++ body ∷ []) ++ after =
    scanned.whole ∙ ap (λ (l : List ℕ). records old ++ l) begin ∙ sym (append_assoc (records old) (165 ∷ sized_body body) after) ∙ ap (λ (l : List ℕ). l ++ after) (sym (records_more old body)) in
    let taken : takes old body = answer.0 good in
    record {
      whole = whole ∙ ap (λ (l : List (List ℕ)). records l ++ after) (sym same);
      short = subst AreShort (sym same) (short_more old body scanned.short few);
      taken = subst (λ (l : List (List ℕ)). AreTaken takes [] l) (sym same) (taken_more takes [] old body scanned.taken taken);
      next = more;
      index = scanned.index;
    }

-- at a closed gate the file ends
pub scan_ends : (takes : List (List ℕ) → List ℕ → Type 0) (bytes : List ℕ) (bodies : List (List ℕ)) (rest : List ℕ) → IsScanned takes bytes bodies rest → get_or rest 0 0 ≢ 165 → EndsAt bytes (length bytes - length rest) bodies
scan_ends takes bytes bodies rest scanned closed = record {
  file = subst (λ (l : List ℕ). IsFile bodies l) (sym (scanned.whole ∙ ap (λ (l : List ℕ). records bodies ++ l) (parted rest scanned.next))) (file_of bodies (get_or rest 0 0) (drop 1 rest) closed scanned.short);
  place = omega (arith, ap length scanned.whole, length-append (records bodies) rest);
}

-- and without a record it is damaged there
pub scan_breaks : (takes : List (List ℕ) → List ℕ → Type 0) (bytes : List ℕ) (bodies : List (List ℕ)) (rest : List ℕ) → IsScanned takes bytes bodies rest → get_or rest 0 0 ≡ 165 → ¬ HasRecord takes bodies (drop 1 rest) → IsDamaged takes bytes (length bytes - length rest)
scan_breaks takes bytes bodies rest scanned open_gate broken = record {
  bodies = bodies;
  rest = drop 1 rest;
  begins = scanned.index;
  bytes_are = scanned.whole ∙ ap (λ (l : List ℕ). records bodies ++ l) (parted rest scanned.next ∙ ap (λ (b : ℕ). b ∷ drop 1 rest) open_gate);
  stands = omega (arith, ap length scanned.whole, length-append (records bodies) rest);
  short = scanned.short;
  taken = scanned.taken;
  broken = broken;
}
