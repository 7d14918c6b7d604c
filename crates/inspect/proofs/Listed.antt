-- Records that are listed one by one.
use Rattle.std.proofs.Common.{[], ◌++◌, ◌+◌, ◌<◌, ◌^◌, ◌∙◌, ◌∷◌, ◌≡◌, ◌≤◌, List, ap, ap₂, append-nil, append_assoc, arith, length, length-append, refl, subst, suc, sym, zero, ℕ}
use Rattle.std.specs.Prelude.{Some, slice_get}
use Rattle.definitions.proofs.Lists.{tail_of, some_same as some_is}
use Rattle.definitions.specs.NumberCodes.{u64_bytes}
use Rattle.inspect.specs.Records.{HasBody, IsGate, gates}
use Rattle.layouts.proofs.FilesOfRecords.{first_of_more, one_frame, records_more, short_more}
use Rattle.layouts.specs.RecordFiles.{AreShort, records, sized_body}

-- these were listed, and the others are left
pub record IsListedTo (bodies : List (List ℕ)) (byte : ℕ) (tail : List ℕ) (at : ℕ) (listed : List (ℕ × List ℕ)) (rest : List ℕ) : Type 0 where
  pub left : List (List ℕ)
  pub joined : listed ++ gates at left ≡ gates 0 bodies
  pub behind : rest ≡ records left ++ byte ∷ tail
  pub short : AreShort left
  pub ends : at + length (records left) ≡ length (records bodies)

-- how long a record is
long_record : (body : List ℕ) (bodies : List (List ℕ)) → length (records (body ∷ bodies)) ≡ 9 + length body + length (records bodies)
long_record body bodies = omega (arith, length-append (sized_body body) (records bodies), length-append (u64_bytes (length body)) body)

pub listed_all : (bodies : List (List ℕ)) (byte : ℕ) (tail : List ℕ) (at : ℕ) (listed : List (ℕ × List ℕ)) (rest : List ℕ) → length (records bodies) ≤ at → IsListedTo bodies byte tail at listed rest → listed ≡ gates 0 bodies
listed_all bodies byte tail at listed rest past to = go to.left to.joined to.ends
  where
    go : (left : List (List ℕ)) → listed ++ gates at left ≡ gates 0 bodies → at + length (records left) ≡ length (records bodies) → listed ≡ gates 0 bodies
    go [] joined ends = sym (append-nil listed) ∙ joined
    go (body ∷ left) joined ends = absurd (omega (arith, long_record body left))

pub listed_more : (bodies : List (List ℕ)) (byte : ℕ) (tail : List ℕ) (at next : ℕ) (listed more : List (ℕ × List ℕ)) (rest body after : List ℕ) (gate : ℕ) → at < length (records bodies) → IsListedTo bodies byte tail at listed rest
    → rest ≡ gate ∷ (sized_body body ++ after) → length body < 2 ^ 64 → next ≡ at + (9 + length body) → more ≡ listed ++ (at, body) ∷ [] → IsListedTo bodies byte tail next more after
listed_more bodies byte tail at next listed more rest body after gate before to is few stands grown = go to.left to.joined to.behind to.short to.ends
  where
    go : (left : List (List ℕ)) → listed ++ gates at left ≡ gates 0 bodies → rest ≡ records left ++ byte ∷ tail → AreShort left → at + length (records left) ≡ length (records bodies) → IsListedTo bodies byte tail next more after
    go [] joined behind short ends = absurd (omega arith)
    go (first ∷ left) joined behind short ends =
        let same : sized_body body ++ after ≡ sized_body first ++ (records left ++ byte ∷ tail) = tail_of gate 165 _ _ (sym is ∙ behind) ∙ append_assoc (sized_body first) (records left) (byte ∷ tail) in
        let both = one_frame body first after (records left ++ byte ∷ tail) few short.0 same in
        let offset : next ≡ at + 9 + length first = stands ∙ omega (arith, ap length both.0) in
        record {
          left = left;
          joined = ap₂ (λ (l : List (ℕ × List ℕ)) (n : ℕ). l ++ gates n left) grown offset ∙ append_assoc listed ((at, body) ∷ []) (gates (at + 9 + length first) left) ∙ ap (λ (b : List ℕ). listed ++ (at, b) ∷ gates (at + 9 + length first) left) both.0 ∙ joined;
          behind = both.1;
          short = short.1;
          ends = omega (arith, offset, long_record first left);
        }

-- where another is left, one can be read
pub no_refusal : (bodies : List (List ℕ)) (byte : ℕ) (tail : List ℕ) (at : ℕ) (listed : List (ℕ × List ℕ)) (rest : List ℕ) → at < length (records bodies) → IsListedTo bodies byte tail at listed rest
    → ((gate : ℕ) (behind body : List ℕ) → rest ≡ gate ∷ behind → ¬ HasBody behind body) → ⊥
no_refusal bodies byte tail at listed rest before to none = go to.left to.behind to.short to.ends
  where
    go : (left : List (List ℕ)) → rest ≡ records left ++ byte ∷ tail → AreShort left → at + length (records left) ≡ length (records bodies) → ⊥
    go [] behind short ends = omega arith
    go (first ∷ left) behind short ends =
        let next = first_of_more left byte tail in
        none 165 (sized_body first ++ (records left ++ byte ∷ tail)) first (behind ∙ ap (λ (l : List ℕ). 165 ∷ l) (append_assoc (sized_body first) (records left) (byte ∷ tail)))
        (record { short = short.0; gate = next.0; more = next.1; rest_is = ap (λ (l : List ℕ). sized_body first ++ l) next.2 })

-- ---- a record at an index

-- a gate, its record, and the gate of the next one, where a listed record stands
pub record IsRecordAt (bytes : List ℕ) (number offset : ℕ) (body : List ℕ) : Type 0 where
  pub rest : List ℕ
  pub gate : IsGate bytes number offset rest
  pub has : HasBody rest body

-- one of several, the bodies before it kept apart
record_behind : (before bodies : List (List ℕ)) (byte : ℕ) (tail bytes : List ℕ) (at number offset : ℕ) (body : List ℕ) → bytes ≡ records before ++ (records bodies ++ byte ∷ tail) → AreShort before → AreShort bodies → at ≡ length (records before)
    → slice_get (gates at bodies) number ≡ Some (offset, body) → IsRecordAt bytes (length before + number) offset body
record_behind before [] byte tail bytes at number offset body whole first short stands is = absurd (none_is number is)
  where
    none_is : (k : ℕ) → slice_get (gates at []) k ≡ Some (offset, body) → ⊥
    none_is zero e = cc
    none_is (suc k) e = cc
record_behind before (b ∷ bodies) byte tail bytes at zero offset body whole first short stands is =
    let same : (at, b) ≡ (offset, body) = some_is (at, b) (offset, body) is in
    let same_offset : at ≡ offset = ap (λ (p : ℕ × List ℕ). p.0) same in
    let is_body : b ≡ body = ap (λ (p : ℕ × List ℕ). p.1) same in
    let next = first_of_more bodies byte tail in
    subst (IsRecordAt bytes (length before + 0) offset) is_body (record {
      rest = sized_body b ++ (records bodies ++ byte ∷ tail);
      gate = record {
        before = before;
        bytes_are = whole ∙ ap (λ (l : List ℕ). records before ++ 165 ∷ l) (append_assoc (sized_body b) (records bodies) (byte ∷ tail));
        short = first;
        counted = omega arith;
        stands = sym same_offset ∙ stands;
      };
      has = record { short = short.0; gate = next.0; more = next.1; rest_is = ap (λ (l : List ℕ). sized_body b ++ l) next.2 };
    })
record_behind before (b ∷ bodies) byte tail bytes at (suc number) offset body whole first short stands is =
    let more : records (before ++ b ∷ []) ≡ records before ++ 165 ∷ sized_body b = records_more before b in
    let counted : length (before ++ b ∷ []) + number ≡ length before + suc number = omega (arith, length-append before (b ∷ [])) in
    let behind : bytes ≡ records (before ++ b ∷ []) ++ (records bodies ++ byte ∷ tail) =
    whole ∙ ap (λ (l : List ℕ). records before ++ 165 ∷ l) (append_assoc (sized_body b) (records bodies) (byte ∷ tail)) ∙ sym (append_assoc (records before) (165 ∷ sized_body b) (records bodies ++ byte ∷ tail)) ∙ ap (λ (l : List ℕ). l ++ (records bodies ++ byte ∷ tail)) (sym more) in
    let offset_is : at + 9 + length b ≡ length (records (before ++ b ∷ [])) =
    omega (arith, ap length more, length-append (records before) (165 ∷ sized_body b), length-append (u64_bytes (length b)) b) in
    subst (λ n. IsRecordAt bytes n offset body) counted
    (record_behind (before ++ b ∷ []) bodies byte tail bytes (at + 9 + length b) number offset body behind (short_more before b first short.0) short.1 offset_is is)

pub record_at : (bodies : List (List ℕ)) (byte : ℕ) (tail bytes : List ℕ) (number offset : ℕ) (body : List ℕ) → bytes ≡ records bodies ++ byte ∷ tail → AreShort bodies → slice_get (gates 0 bodies) number ≡ Some (offset, body)
    → IsRecordAt bytes number offset body
record_at bodies byte tail bytes number offset body whole short is =
    let counted : length {A = List ℕ} [] + number ≡ number = omega arith in
    subst (λ n. IsRecordAt bytes n offset body) counted (record_behind [] bodies byte tail bytes 0 number offset body whole tt short refl is)
