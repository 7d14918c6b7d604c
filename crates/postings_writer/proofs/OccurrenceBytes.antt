-- The bytes of occurrences give them back, and one occurrence more appends its own.
use Rattle.std.proofs.Common.{[], ◌%◌, ◌*◌, ◌++◌, ◌+◌, ◌<◌, ◌^◌, ◌≡◌, ◌≤◌, ◌∙◌, ◌∷◌, List, None, Option, Some, IsSomeAnd, add-one, ap, append-nil, append_assoc, arith, drop, get_or, length, length-append, refl, suc, sym, take, zero, ℕ}
use Rattle.std.proofs.Math.Seq.{drop-cons, take-suc}
use Rattle.definitions.specs.Json.{◌>>=◌}
use Rattle.definitions.specs.NumberCodes.{take_vint, vint_bytes}
use Rattle.common.proofs.TakenBack.{vint_back}
use Rattle.definitions.proofs.TokenTexts.{vint_some}
use Rattle.postings_writer.specs.OccurrenceBytes.{AreBytesOf, AreOccurrences, doc_gap, last_doc, occurrence_bytes, occurrences_in, take_occurrence}

-- ---- taken back

gap_small : (before doc : ℕ) → doc_gap before doc < 2 ^ 32
gap_small before doc = omega arith

-- a gap leads to its document
gap_back : (before doc : ℕ) → before < 2 ^ 32 → doc < 2 ^ 32 → (before + doc_gap before doc) % 2 ^ 32 ≡ doc
gap_back before doc small fits = omega arith

pub gap_taken : (before : ℕ) (p : ℕ × ℕ) (rest : List ℕ) → take_vint (vint_bytes (doc_gap before p.0) ++ rest) ≡ Some (doc_gap before p.0, rest)
gap_taken before p rest = vint_back (doc_gap before p.0) rest (let small = gap_small before p.0 in omega arith)

pub position_taken : (n : ℕ) (rest : List ℕ) → n < 2 ^ 32 → take_vint (vint_bytes n ++ rest) ≡ Some (n, rest)
position_taken n rest small = vint_back n rest (omega arith)

occurrence_back : (before : ℕ) (p : ℕ × ℕ) (rest : List ℕ) → before < 2 ^ 32 → p.0 < 2 ^ 32 → p.1 < 2 ^ 32 → take_occurrence before (vint_bytes (doc_gap before p.0) ++ (vint_bytes p.1 ++ rest)) ≡ Some (p, rest)
occurrence_back before p rest small doc position =
    ap (λ o. o >>= (λ gap. take_vint gap.1 >>= (λ n. Some (((before + gap.0) % 2 ^ 32, n.0), n.1)))) (gap_taken before p (vint_bytes p.1 ++ rest))
    ∙ ap (λ o. o >>= (λ n. Some (((before + doc_gap before p.0) % 2 ^ 32, n.0), n.1))) (position_taken p.1 rest position)
    ∙ ap (λ d. Some ((d, p.1), rest)) (gap_back before p.0 small doc)

pub occurrences_back : (before : ℕ) (ps : List (ℕ × ℕ)) → before < 2 ^ 32 → AreOccurrences ps → occurrences_in (length ps) before (occurrence_bytes before ps) ≡ ps
occurrences_back before [] small few = refl
occurrences_back before (p ∷ ps) small few =
    ap (λ o. elim o [ None ↦ [] | Some q ↦ q.0 ∷ occurrences_in (length ps) q.0.0 q.1 ]) (occurrence_back before p (occurrence_bytes p.0 ps) small few.0.0 few.0.1)
    ∙ ap (λ qs. p ∷ qs) (occurrences_back p.0 ps few.0.0 few.1)

-- ---- one more

bytes_push : (before : ℕ) (ps : List (ℕ × ℕ)) (p : ℕ × ℕ) → occurrence_bytes before (ps ++ p ∷ []) ≡ occurrence_bytes before ps ++ (vint_bytes (doc_gap (last_doc before ps) p.0) ++ vint_bytes p.1)
bytes_push before [] p = ap (λ bs. vint_bytes (doc_gap before p.0) ++ bs) (append-nil (vint_bytes p.1))
bytes_push before (q ∷ ps) p =
    let gap = vint_bytes (doc_gap before q.0) in
    let position = vint_bytes q.1 in
    let more = vint_bytes (doc_gap (last_doc q.0 ps) p.0) ++ vint_bytes p.1 in
    ap (λ bs. gap ++ (position ++ bs)) (bytes_push q.0 ps p)
    ∙ ap (λ bs. gap ++ bs) (sym (append_assoc position (occurrence_bytes q.0 ps) more))
    ∙ sym (append_assoc gap (position ++ occurrence_bytes q.0 ps) more)

few_push : (ps : List (ℕ × ℕ)) (p : ℕ × ℕ) → AreOccurrences ps → p.0 < 2 ^ 32 → p.1 < 2 ^ 32 → AreOccurrences (ps ++ p ∷ [])
few_push [] p few doc position = ((doc, position), tt)
few_push (q ∷ ps) p few doc position = (few.0, few_push ps p few.1 doc position)

last_push : (before : ℕ) (ps : List (ℕ × ℕ)) (p : ℕ × ℕ) → last_doc before (ps ++ p ∷ []) ≡ p.0
last_push before [] p = refl
last_push before (q ∷ ps) p = last_push q.0 ps p

-- ---- what a recorder keeps

-- its occurrences are read from its bytes
pub kept_back : (ps : List (ℕ × ℕ)) (bytes : List ℕ) (len doc : ℕ) → AreBytesOf ps bytes len doc → occurrences_in len 0 bytes ≡ ps
kept_back ps bytes len doc kept =
    ap (λ n. occurrences_in n 0 bytes) kept.long
    ∙ ap (occurrences_in (length ps) 0) kept.bytes_are
    ∙ occurrences_back 0 ps (omega arith) kept.are_occurrences

-- with one occurrence more
pub kept_more : (ps : List (ℕ × ℕ)) (bytes more : List ℕ) (len doc next position : ℕ) → AreBytesOf ps bytes len doc → next < 2 ^ 32 → position < 2 ^ 32 → more ≡ bytes ++ vint_bytes (doc_gap doc next) ++ vint_bytes position → AreBytesOf (ps ++ (next, position) ∷ []) more (len + 1) next
kept_more ps bytes more len doc next position kept below fits put = record {
  bytes_are =
      put
      ∙ append_assoc bytes (vint_bytes (doc_gap doc next)) (vint_bytes position)
      ∙ ap (λ d. bytes ++ (vint_bytes (doc_gap d next) ++ vint_bytes position)) kept.last
      ∙ ap (λ bs. bs ++ (vint_bytes (doc_gap (last_doc 0 ps) next) ++ vint_bytes position)) kept.bytes_are
      ∙ sym (bytes_push 0 ps (next, position));
  are_occurrences = few_push ps (next, position) kept.are_occurrences below fits;
  long = (let long = kept.long in let more_long = length-append ps ((next, position) ∷ []) in omega arith);
  last = sym (last_push 0 ps (next, position));
}

bytes_many : (before : ℕ) (ps : List (ℕ × ℕ)) → 2 * length ps ≤ length (occurrence_bytes before ps)
bytes_many before [] = omega arith
bytes_many before (p ∷ ps) =
    let gap = vint_bytes (doc_gap before p.0) in
    let position = vint_bytes p.1 in
    let rest = occurrence_bytes p.0 ps in
    let some = vint_some (doc_gap before p.0) in
    let more = vint_some p.1 in
    let others = bytes_many p.0 ps in
    let one = length-append gap (position ++ rest) in
    let two = length-append position rest in
    omega arith

pub kept_many : (ps : List (ℕ × ℕ)) (bytes : List ℕ) (len doc : ℕ) → AreBytesOf ps bytes len doc → 2 * len ≤ length bytes
kept_many ps bytes len doc kept = (let long = kept.long in let many = bytes_many 0 ps in let is = ap length kept.bytes_are in omega arith)

-- ---- as they are read

-- an occurrence of them
abbrev pub occurrence_at : List (ℕ × ℕ) → ℕ → ℕ × ℕ
occurrence_at ps i = get_or ps i (0, 0)

few_at : (ps : List (ℕ × ℕ)) (i : ℕ) → AreOccurrences ps → i < length ps → ((occurrence_at ps i).0 < 2 ^ 32) × ((occurrence_at ps i).1 < 2 ^ 32)
few_at [] i few within = absurd (omega arith)
few_at (p ∷ ps) zero few within = few.0
few_at (p ∷ ps) (suc i) few within = few_at ps i few.1 (omega arith)

-- the bytes of the occurrences from one on
left_at : (before : ℕ) (ps : List (ℕ × ℕ)) (i : ℕ) → i < length ps → occurrence_bytes before (drop i ps) ≡ vint_bytes (doc_gap before (occurrence_at ps i).0) ++ (vint_bytes (occurrence_at ps i).1 ++ occurrence_bytes (occurrence_at ps i).0 (drop (i + 1) ps))
left_at before ps i within =
    let next : drop i ps ≡ occurrence_at ps i ∷ drop (i + 1) ps = rw (add-one, drop-cons ps i (0, 0)) in
    ap (occurrence_bytes before) next

first_same : (a x : ℕ) (b y : List ℕ) → ◌≡◌ {A = Option (ℕ × List ℕ)} (Some (a, b)) (Some (x, y)) → a ≡ x
first_same a x b y e = ap (λ (o : Option (ℕ × List ℕ)). elim o [ None ↦ 0 | Some p ↦ p.0 ]) e

rest_same : (a x : ℕ) (b y : List ℕ) → ◌≡◌ {A = Option (ℕ × List ℕ)} (Some (a, b)) (Some (x, y)) → b ≡ y
rest_same a x b y e = ap (λ (o : Option (ℕ × List ℕ)). elim o [ None ↦ [] | Some p ↦ p.1 ]) e

-- the numbers that stand there
pub gap_there : (before : ℕ) (ps : List (ℕ × ℕ)) (i : ℕ) (bytes : List ℕ) → i < length ps → bytes ≡ occurrence_bytes before (drop i ps) → take_vint bytes ≡ Some (doc_gap before (occurrence_at ps i).0, vint_bytes (occurrence_at ps i).1 ++ occurrence_bytes (occurrence_at ps i).0 (drop (i + 1) ps))
gap_there before ps i bytes within left = ap take_vint (left ∙ left_at before ps i within) ∙ gap_taken before (occurrence_at ps i) _

pub gap_fits : (before : ℕ) (ps : List (ℕ × ℕ)) (i : ℕ) (bytes : List ℕ) → i < length ps → bytes ≡ occurrence_bytes before (drop i ps) → IsSomeAnd (take_vint bytes) (λ p. p.0 < 2 ^ 32)
gap_fits before ps i bytes within left = rw (gap_there before ps i bytes within left) (gap_small before (occurrence_at ps i).0)

pub gap_is : (before : ℕ) (ps : List (ℕ × ℕ)) (i : ℕ) (bytes : List ℕ) (gap : ℕ) (after : List ℕ) → i < length ps → bytes ≡ occurrence_bytes before (drop i ps) → take_vint bytes ≡ Some (gap, after) → gap ≡ doc_gap before (occurrence_at ps i).0
gap_is before ps i bytes gap after within left taken = first_same gap _ after _ (sym taken ∙ gap_there before ps i bytes within left)

pub gap_rest : (before : ℕ) (ps : List (ℕ × ℕ)) (i : ℕ) (bytes : List ℕ) (gap : ℕ) (after : List ℕ) → i < length ps → bytes ≡ occurrence_bytes before (drop i ps) → take_vint bytes ≡ Some (gap, after) → after ≡ vint_bytes (occurrence_at ps i).1 ++ occurrence_bytes (occurrence_at ps i).0 (drop (i + 1) ps)
gap_rest before ps i bytes gap after within left taken = rest_same gap _ after _ (sym taken ∙ gap_there before ps i bytes within left)

pub position_fits : (ps : List (ℕ × ℕ)) (i : ℕ) (bytes more : List ℕ) → i < length ps → AreOccurrences ps → bytes ≡ vint_bytes (occurrence_at ps i).1 ++ more → IsSomeAnd (take_vint bytes) (λ p. p.0 < 2 ^ 32)
position_fits ps i bytes more within few left = rw (left, position_taken (occurrence_at ps i).1 more (few_at ps i few within).1) (few_at ps i few within).1

pub position_is : (ps : List (ℕ × ℕ)) (i : ℕ) (bytes more : List ℕ) (n : ℕ) (after : List ℕ) → i < length ps → AreOccurrences ps → bytes ≡ vint_bytes (occurrence_at ps i).1 ++ more → take_vint bytes ≡ Some (n, after) → n ≡ (occurrence_at ps i).1
position_is ps i bytes more n after within few left taken = first_same n _ after _ (sym taken ∙ ap take_vint left ∙ position_taken (occurrence_at ps i).1 more (few_at ps i few within).1)

pub position_rest : (ps : List (ℕ × ℕ)) (i : ℕ) (bytes more : List ℕ) (n : ℕ) (after : List ℕ) → i < length ps → AreOccurrences ps → bytes ≡ vint_bytes (occurrence_at ps i).1 ++ more → take_vint bytes ≡ Some (n, after) → after ≡ more
position_rest ps i bytes more n after within few left taken = rest_same n _ after _ (sym taken ∙ ap take_vint left ∙ position_taken (occurrence_at ps i).1 more (few_at ps i few within).1)

-- the document that a gap leads to
pub doc_there : (before : ℕ) (ps : List (ℕ × ℕ)) (i gap : ℕ) → i < length ps → AreOccurrences ps → before < 2 ^ 32 → gap ≡ doc_gap before (occurrence_at ps i).0 → (before + gap) % 2 ^ 32 ≡ (occurrence_at ps i).0
doc_there before ps i gap within few small is = ap (λ n. (before + n) % 2 ^ 32) is ∙ gap_back before (occurrence_at ps i).0 small (few_at ps i few within).0

pub copied_more : (ps copied : List (ℕ × ℕ)) (i doc position : ℕ) → i < length ps → copied ≡ take i ps → doc ≡ (occurrence_at ps i).0 → position ≡ (occurrence_at ps i).1 → copied ++ (doc, position) ∷ [] ≡ take (i + 1) ps
copied_more ps copied i doc position within so doc_is position_is = rw (so, doc_is, position_is, add-one, take-suc ps i (0, 0))
