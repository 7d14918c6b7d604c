-- Files of records: what their bytes have before, at and after the closed gate.
use Rattle.std.proofs.Common.{[], ◌++◌, ◌+◌, ◌<◌, ◌^◌, ◌∙◌, ◌∷◌, ◌≡◌, ◌≢◌, ◌≤◌, List, ap, ap₂, append_assoc, append-nil, arith, drop, get_or, inl, inr, length, length-append, refl, subst, suc, sym, take, ℕ}
use Rattle.std.specs.Int.{from_le_bytes, w64}
use Rattle.std.proofs.lemmas.List.{ext_get_or, get_or-take, get_or_append_left, length-take-le, take-append-drop}
use Rattle.std.proofs.lemmas.Nat.{from_le_bytes-to_le_bytes_8}
use Rattle.std.proofs.Math.Seq.{drop-append_seam, drop-cons, get_or-append_seam, take-append_seam}
use Rattle.definitions.proofs.Lists.{head_of, tail_of}
use Rattle.definitions.specs.NumberCodes.{u64_bytes}
use Rattle.layouts.specs.RecordFiles.{AreShort, AreTaken, EndsAt, HasRecord, IsAtRest, IsDamaged, IsFile, IsNoIndex, records, sized_body}

-- ---- flat: the records, a closed gate, and anything after it

pub record IsFlat (bodies : List (List ℕ)) (bytes : List ℕ) : Type 0 where
  pub gate : ℕ
  pub rest : List ℕ
  pub closed : gate ≢ 165
  pub whole : bytes ≡ records bodies ++ gate ∷ rest
  pub short : AreShort bodies

pub flat : {bodies : List (List ℕ)} {bytes : List ℕ} → IsFile bodies bytes → IsFlat bodies bytes
flat (IsFile.ends gate rest closed) = record { gate = gate; rest = rest; closed = closed; whole = refl; short = tt }
flat (IsFile.record_then body bodies rest short file) =
    let f : IsFlat bodies rest = flat file in
    record {
      gate = f.gate;
      rest = f.rest;
      closed = f.closed;
      whole = ap (λ (l : List ℕ). 165 ∷ sized_body body ++ l) f.whole ∙ ap (λ (l : List ℕ). 165 ∷ l) (sym (append_assoc (sized_body body) (records bodies) (f.gate ∷ f.rest)));
      short = (short, f.short);
    }

pub file_of : (bodies : List (List ℕ)) (gate : ℕ) (rest : List ℕ) → gate ≢ 165 → AreShort bodies → IsFile bodies (records bodies ++ gate ∷ rest)
file_of [] gate rest closed short = IsFile.ends gate rest closed
file_of (body ∷ bodies) gate rest closed short =
    subst (λ (l : List ℕ). IsFile (body ∷ bodies) (165 ∷ l)) (sym (append_assoc (sized_body body) (records bodies) (gate ∷ rest)))
    (IsFile.record_then body bodies (records bodies ++ gate ∷ rest) short.0 (file_of bodies gate rest closed short.1))

-- ---- one reading

pub one_frame : (x y r s : List ℕ) → length x < 2 ^ 64 → length y < 2 ^ 64 → sized_body x ++ r ≡ sized_body y ++ s → (x ≡ y) × (r ≡ s)
one_frame x y r s short_x short_y same =
    let spelled : u64_bytes (length x) ≡ u64_bytes (length y) = ap (λ (l : List ℕ). take 8 l) same in
    let long : length x ≡ length y = sym (from_le_bytes-to_le_bytes_8 (length x) short_x) ∙ ap (λ (l : List ℕ). from_le_bytes w64 l) spelled ∙ from_le_bytes-to_le_bytes_8 (length y) short_y in
    let after : x ++ r ≡ y ++ s = ap (λ (l : List ℕ). drop 8 l) same in
    (sym (take-append_seam x r) ∙ ap₂ (λ (n : ℕ) (l : List ℕ). take n l) long after ∙ take-append_seam y s, sym (drop-append_seam x r) ∙ ap₂ (λ (n : ℕ) (l : List ℕ). drop n l) long after ∙ drop-append_seam y s)

-- the first record and what follows it, where two begin alike
one_record : (x y : List ℕ) (a b : List (List ℕ)) (r s : List ℕ) → length x < 2 ^ 64 → length y < 2 ^ 64 → records (x ∷ a) ++ r ≡ records (y ∷ b) ++ s → (x ≡ y) × (records a ++ r ≡ records b ++ s)
one_record x y a b r s short_x short_y same =
    one_frame x y (records a ++ r) (records b ++ s) short_x short_y
    (sym (append_assoc (sized_body x) (records a) r) ∙ tail_of 165 165 _ _ same ∙ append_assoc (sized_body y) (records b) s)

one_split : (a b : List (List ℕ)) (g h : ℕ) (r s : List ℕ) → g ≢ 165 → h ≢ 165 → AreShort a → AreShort b → records a ++ g ∷ r ≡ records b ++ h ∷ s → a ≡ b
one_split [] [] g h r s closed_g closed_h short_a short_b same = refl
one_split [] (y ∷ b) g h r s closed_g closed_h short_a short_b same = absurd (closed_g (head_of g 165 _ _ same))
one_split (x ∷ a) [] g h r s closed_g closed_h short_a short_b same = absurd (closed_h (sym (head_of 165 h _ _ same)))
one_split (x ∷ a) (y ∷ b) g h r s closed_g closed_h short_a short_b same =
    let e = one_record x y a b (g ∷ r) (h ∷ s) short_a.0 short_b.0 same in
    ap₂ (λ (z : List ℕ) (c : List (List ℕ)). z ∷ c) e.0 (one_split a b g h r s closed_g closed_h short_a.1 short_b.1 e.1)

-- a file has one list of bodies
pub one_reading : (a b : List (List ℕ)) (bytes : List ℕ) → IsFile a bytes → IsFile b bytes → a ≡ b
one_reading a b bytes file_a file_b =
    let f = flat file_a in
    let g = flat file_b in
    one_split a b f.gate g.gate f.rest g.rest f.closed g.closed f.short g.short (sym f.whole ∙ g.whole)

-- ---- a record that is there

-- records and a byte are not nothing
pub first_of_more : (bodies : List (List ℕ)) (byte : ℕ) (rest : List ℕ) → (gate : ℕ) × (more : List ℕ) × (records bodies ++ byte ∷ rest ≡ gate ∷ more)
first_of_more [] byte rest = (byte, rest, refl)
first_of_more (body ∷ bodies) byte rest = (165, sized_body body ++ (records bodies ++ byte ∷ rest), ap (λ (l : List ℕ). 165 ∷ l) (append_assoc (sized_body body) (records bodies) (byte ∷ rest)))

-- after an open gate with a body that is taken there is a record
has_record : (takes : List (List ℕ) → List ℕ → Type 0) (before : List (List ℕ)) (x : List ℕ) (a : List (List ℕ)) (byte : ℕ) (more rest : List ℕ) → length x < 2 ^ 64 → takes before x
    → records (x ∷ a) ++ byte ∷ more ≡ 165 ∷ rest → HasRecord takes before rest
has_record takes before x a byte more rest short taken same =
    let next = first_of_more a byte more in
    record {
      body = x;
      gate = next.0;
      rest = next.1;
      short = short;
      bytes_are = sym (tail_of 165 165 _ _ same) ∙ append_assoc (sized_body x) (records a) (byte ∷ more) ∙ ap (λ (l : List ℕ). sized_body x ++ l) next.2;
      taken = taken;
    }

-- no file of bodies that are all taken is damaged
no_damage : (takes : List (List ℕ) → List ℕ → Type 0) (before all : List (List ℕ)) (a b : List (List ℕ)) (gate : ℕ) (more rest : List ℕ) → gate ≢ 165 → AreShort a → AreShort b → AreTaken takes before a
    → before ++ b ≡ all → ¬ HasRecord takes all rest → records a ++ gate ∷ more ≡ records b ++ 165 ∷ rest → ⊥
no_damage takes before all [] [] gate more rest closed short_a short_b taken is broken same = closed (head_of gate 165 _ _ same)
no_damage takes before all [] (y ∷ b) gate more rest closed short_a short_b taken is broken same = closed (head_of gate 165 _ _ same)
no_damage takes before all (x ∷ a) [] gate more rest closed short_a short_b taken is broken same =
    broken (subst (λ (l : List (List ℕ)). HasRecord takes l rest) (sym (append-nil before) ∙ is) (has_record takes before x a gate more rest short_a.0 taken.0 same))
no_damage takes before all (x ∷ a) (y ∷ b) gate more rest closed short_a short_b taken is broken same =
    let e = one_record x y a b (gate ∷ more) (165 ∷ rest) short_a.0 short_b.0 same in
    no_damage takes (before ++ x ∷ []) all a b gate more rest closed short_a.1 short_b.1 taken.1
    (append_assoc before (x ∷ []) b ∙ ap (λ (z : List ℕ). before ++ z ∷ b) e.0 ∙ is) broken e.1

pub files_are_whole : (takes : List (List ℕ) → List ℕ → Type 0) (bodies : List (List ℕ)) (bytes : List ℕ) (offset : ℕ) → IsFile bodies bytes → AreTaken takes [] bodies → ¬ IsDamaged takes bytes offset
files_are_whole takes bodies bytes offset file taken damaged =
    let f = flat file in
    no_damage takes [] damaged.bodies bodies damaged.bodies f.gate f.rest damaged.rest f.closed f.short damaged.short taken refl damaged.broken (sym f.whole ∙ damaged.bytes_are)

-- damage stands at one offset
one_offset : (takes : List (List ℕ) → List ℕ → Type 0) (before all others : List (List ℕ)) (a b : List (List ℕ)) (r s : List ℕ) → AreShort a → AreShort b → AreTaken takes before a → AreTaken takes before b
    → before ++ a ≡ all → before ++ b ≡ others → ¬ HasRecord takes all r → ¬ HasRecord takes others s → records a ++ 165 ∷ r ≡ records b ++ 165 ∷ s → a ≡ b
one_offset takes before all others [] [] r s short_a short_b taken_a taken_b is_a is_b broken_a broken_b same = refl
one_offset takes before all others [] (y ∷ b) r s short_a short_b taken_a taken_b is_a is_b broken_a broken_b same =
    absurd (broken_a (subst (λ (l : List (List ℕ)). HasRecord takes l r) (sym (append-nil before) ∙ is_a) (has_record takes before y b 165 s r short_b.0 taken_b.0 (sym same))))
one_offset takes before all others (x ∷ a) [] r s short_a short_b taken_a taken_b is_a is_b broken_a broken_b same =
    absurd (broken_b (subst (λ (l : List (List ℕ)). HasRecord takes l s) (sym (append-nil before) ∙ is_b) (has_record takes before x a 165 r s short_a.0 taken_a.0 same)))
one_offset takes before all others (x ∷ a) (y ∷ b) r s short_a short_b taken_a taken_b is_a is_b broken_a broken_b same =
    let e = one_record x y a b (165 ∷ r) (165 ∷ s) short_a.0 short_b.0 same in
    let taken : AreTaken takes (before ++ x ∷ []) b = subst (λ (z : List ℕ). AreTaken takes (before ++ z ∷ []) b) (sym e.0) taken_b.1 in
    ap₂ (λ (z : List ℕ) (c : List (List ℕ)). z ∷ c) e.0
    (one_offset takes (before ++ x ∷ []) all others a b r s short_a.1 short_b.1 taken_a.1 taken
    (append_assoc before (x ∷ []) a ∙ is_a) (append_assoc before (x ∷ []) b ∙ ap (λ (z : List ℕ). before ++ z ∷ b) e.0 ∙ is_b) broken_a broken_b e.1)

pub one_damage : (takes : List (List ℕ) → List ℕ → Type 0) (bytes : List ℕ) (p q : ℕ) → IsDamaged takes bytes p → IsDamaged takes bytes q → p ≡ q
one_damage takes bytes p q d e =
    let same = one_offset takes [] d.bodies e.bodies d.bodies e.bodies d.rest e.rest d.short e.short d.taken e.taken refl refl d.broken e.broken (sym d.bytes_are ∙ e.bytes_are) in
    d.stands ∙ ap (λ (l : List (List ℕ)). length (records l)) same ∙ sym e.stands

-- ---- lengths, and no index

pub long_records : (body : List ℕ) (bodies : List (List ℕ)) (gate : ℕ) (rest : List ℕ) → 10 ≤ length (records (body ∷ bodies) ++ gate ∷ rest)
long_records body bodies gate rest = omega (arith, length-append (records (body ∷ bodies)) (gate ∷ rest), length-append body (records bodies))

-- a file of a body is an index
pub files_are_indexes : (body : List ℕ) (bodies : List (List ℕ)) (bytes : List ℕ) → IsFile (body ∷ bodies) bytes → ¬ IsNoIndex bytes
files_are_indexes body bodies bytes file (inl few) =
    let f = flat file in
    let long = long_records body bodies f.gate f.rest in
    omega (arith, ap length f.whole)
files_are_indexes body bodies bytes file (inr closed) = closed (ap (λ (l : List ℕ). get_or l 0 0) (flat file).whole)

-- a file of no body is none
pub empty_is_no_index : (bytes : List ℕ) → IsFile [] bytes → IsNoIndex bytes
empty_is_no_index bytes file = let f = flat file in inr (λ first. f.closed (sym (ap (λ (l : List ℕ). get_or l 0 0) f.whole) ∙ first))

-- ---- bytes alike up to the closed gate

-- what begins alike
pub same_front : (front image : List ℕ) → length front ≤ length image → ((i : ℕ) → i < length front → get_or image i 0 ≡ get_or front i 0) → image ≡ front ++ drop (length front) image
same_front front image long same =
    let cut : length (take (length front) image) ≡ length front = length-take-le (length front) image long in
    let is : take (length front) image ≡ front = ext_get_or 0 (take (length front) image) front cut (λ i below. get_or-take (length front) image i 0 (omega (arith, cut)) ∙ same i (omega (arith, cut))) in
    sym (take-append-drop (length front) image) ∙ ap (λ (l : List ℕ). l ++ drop (length front) image) is

-- what begins with records, a closed gate and more
pub same_gate : (bodies : List (List ℕ)) (gate : ℕ) (rest image : List ℕ) → length (records bodies) < length image → ((i : ℕ) → i < length (records bodies) + 1 → get_or image i 0 ≡ get_or (records bodies ++ gate ∷ rest) i 0)
    → (more : List ℕ) × (image ≡ records bodies ++ gate ∷ more)
same_gate bodies gate rest image long same =
    let front = records bodies in
    let n = length front in
    let is : image ≡ front ++ drop n image = same_front front image (omega arith) (λ i below. same i (omega arith) ∙ get_or_append_left front (gate ∷ rest) 0 i below) in
    let at : get_or image n 0 ≡ gate = same n (omega arith) ∙ get_or-append_seam front gate rest 0 in
    let next : drop n image ≡ gate ∷ drop (suc n) image = drop-cons image n 0 long ∙ ap (λ (b : ℕ). b ∷ drop (suc n) image) at in
    (drop (suc n) image, is ∙ ap (λ (l : List ℕ). front ++ l) next)

-- a file's bytes up to its closed gate are a file of the same bodies, with anything after them
pub same_file : (bodies : List (List ℕ)) (content image : List ℕ) (gate : ℕ) → EndsAt content gate bodies → gate < length image → ((i : ℕ) → i < gate + 1 → get_or image i 0 ≡ get_or content i 0) → IsFile bodies image
same_file bodies content image gate ends long same =
    let f = flat ends.file in
    let offset = ends.place in
    let e = same_gate bodies f.gate f.rest image (omega arith) (λ i below. same i (omega arith) ∙ ap (λ (l : List ℕ). get_or l i 0) f.whole) in
    subst (λ (l : List ℕ). IsFile bodies l) (sym e.1) (file_of bodies f.gate e.0 f.closed f.short)

-- the closed gate stands within
pub gate_inside : (bodies : List (List ℕ)) (content : List ℕ) (gate : ℕ) → EndsAt content gate bodies → gate < length content
gate_inside bodies content gate ends =
    let f = flat ends.file in
    omega (arith, ends.place, ap length f.whole, length-append (records bodies) (f.gate ∷ f.rest))

-- ---- one body more

pub records_more : (bodies : List (List ℕ)) (body : List ℕ) → records (bodies ++ body ∷ []) ≡ records bodies ++ 165 ∷ sized_body body
records_more [] body = ap (λ (l : List ℕ). 165 ∷ l) (append-nil (sized_body body))
records_more (first ∷ bodies) body = ap (λ (l : List ℕ). 165 ∷ sized_body first ++ l) (records_more bodies body) ∙ ap (λ (l : List ℕ). 165 ∷ l) (sym (append_assoc (sized_body first) (records bodies) (165 ∷ sized_body body)))

pub short_more : (bodies : List (List ℕ)) (body : List ℕ) → AreShort bodies → length body < 2 ^ 64 → AreShort (bodies ++ body ∷ [])
short_more [] body short last = (last, tt)
short_more (first ∷ bodies) body short last = (short.0, short_more bodies body short.1 last)

pub taken_more : (takes : List (List ℕ) → List ℕ → Type 0) (before bodies : List (List ℕ)) (body : List ℕ) → AreTaken takes before bodies → takes (before ++ bodies) body → AreTaken takes before (bodies ++ body ∷ [])
taken_more takes before [] body taken last = (subst (λ (l : List (List ℕ)). takes l body) (append-nil before) last, tt)
taken_more takes before (first ∷ bodies) body taken last =
    (taken.0, taken_more takes (before ++ first ∷ []) bodies body taken.1 (subst (λ (l : List (List ℕ)). takes l body) (sym (append_assoc before (first ∷ []) bodies)) last))

-- a record has the bytes that its length says, and a gate
pub too_few : (takes : List (List ℕ) → List ℕ → Type 0) (before : List (List ℕ)) (bytes : List ℕ) (n : ℕ) → from_le_bytes w64 (take 8 bytes) ≡ n → length bytes < 9 + n → ¬ HasRecord takes before bytes
too_few takes before bytes n is few has =
    let long : length has.body ≡ n = sym (from_le_bytes-to_le_bytes_8 (length has.body) has.short) ∙ sym (ap (λ (l : List ℕ). from_le_bytes w64 (take 8 l)) has.bytes_are) ∙ is in
    omega (arith, ap length has.bytes_are, length-append has.body (has.gate ∷ has.rest))

-- what stands after the closed gate changes nothing
pub any_rest : (bodies : List (List ℕ)) (content more : List ℕ) (gate : ℕ) → EndsAt content gate bodies → EndsAt (content ++ more) gate bodies
any_rest bodies content more gate ends =
    let inside = gate_inside bodies content gate ends in
    record {
      file = same_file bodies content (content ++ more) gate ends (omega (arith, length-append content more)) (λ i below. get_or_append_left content more 0 i (omega arith));
      place = ends.place;
    }

-- a content that is cut behind the closed gate is at rest
pub cut_at_rest : (bodies : List (List ℕ)) (content : List ℕ) (gate : ℕ) → EndsAt content gate bodies → IsAtRest (take (gate + 1) content) gate bodies
cut_at_rest bodies content gate ends =
    let inside = gate_inside bodies content gate ends in
    let long : length (take (gate + 1) content) ≡ gate + 1 = length-take-le (gate + 1) content (omega arith) in
    record {
      file = same_file bodies content (take (gate + 1) content) gate ends (omega arith) (λ i below. get_or-take (gate + 1) content i 0 below);
      place = ends.place;
      length_is = long;
    }

pub ends_at_rest : (bodies : List (List ℕ)) (content : List ℕ) (gate : ℕ) → IsAtRest content gate bodies → EndsAt content gate bodies
ends_at_rest bodies content gate rest = record { file = rest.file; place = rest.place }
