-- Groups of checkpoints: what was put is taken back, and what is taken was put.
use Rattle.std.proofs.Common.{ℕ, zero, suc, List, [], ◌∷◌, ◌++◌, ◌≡◌, ◌≤◌, ◌<◌, ◌+◌, ◌-◌, ◌^◌, ◌&&◌, Bool, true, false, Option, Some, None, option_map, cond, nat_eq, nat_lt, refl, sym, ap, ap₂, ◌∙◌, subst, arith, append_assoc, length, flat_map, length-append}
use Rattle.std.proofs.lemmas.Bool.Decides.{nat_tests}
use Rattle.std.specs.declared.ops.Range.{Range}
use Rattle.definitions.specs.Json.{only_if, ◌>>=◌}
use Rattle.definitions.specs.NumberCodes.{AreBytes, take_vint, vint_bytes}
use Rattle.common.proofs.TakenBack.{vint_back, vint_put}
use Rattle.layouts.specs.Stores.{Adjoin, byte_end, doc_end, extent_bytes, group_bytes}
use Rattle.layouts.specs.declared.checkpoint.Checkpoint.{Checkpoint}
use Rattle.std.proofs.Common.{inl, inr}
use Rattle.common.proofs.Many.{only_some as passed}
use Rattle.common.proofs.WordBytes.{back_bytes as bytes_right}
use Rattle.definitions.proofs.Lists.{map_some as mapped, bind_some as bound, both_true as both}
use Rattle.definitions.proofs.TokenTexts.{vint_some}
use Rattle.definitions.specs.declared.fault.Fault.{Fault}
use Rattle.store.specs.TakenGroups.{IsDamage, IsGroup, reach, take_extent, take_extents, take_group}

-- ---- steps of reading

-- what was found, and what follows it
abbrev pub found : List Checkpoint → List ℕ → Option (List Checkpoint × List ℕ)
found cs rest = Some (cs, rest)

pub same_found : (a b : List Checkpoint) (x y : List ℕ) → found a x ≡ found b y → (a ≡ b) × (x ≡ y)
same_found a b x y e =
    let is : (a, x) ≡ (b, y) = cc in
    (ap (λ (p : List Checkpoint × List ℕ). p.0) is, ap (λ (p : List Checkpoint × List ℕ). p.1) is)

-- nothing is no value
pub absent : {A : Type 0} (o : Option A) (y : A) → o ≡ None → o ≡ Some y → ⊥
absent None y none some = cc
absent (Some x) y none some = cc

-- ---- checkpoints

pub same_checkpoint : (c : Checkpoint) (doc docs byte bytes : ℕ) → c.doc_range.start ≡ doc → c.doc_range.end ≡ doc + docs → c.byte_range.start ≡ byte → c.byte_range.end ≡ byte + bytes → c ≡ reach doc docs byte bytes
same_checkpoint c doc docs byte bytes a b x y =
    let range : ℕ → ℕ → Range ℕ = λ s e. record { start = s; end = e } in
    let made : Range ℕ → Range ℕ → Checkpoint = λ ds bs. record { doc_range = ds; byte_range = bs } in
    ap₂ made (ap₂ range a b) (ap₂ range x y)

pub docs_rise : (cs : List Checkpoint) (doc byte : ℕ) → Adjoin doc byte cs → doc ≤ doc_end doc cs
docs_rise [] doc byte run = omega arith
docs_rise (c ∷ cs) doc byte run = (let rest = docs_rise cs c.doc_range.end c.byte_range.end run.4 in let low = run.2 in omega arith)

pub bytes_rise : (cs : List Checkpoint) (doc byte : ℕ) → Adjoin doc byte cs → byte ≤ byte_end byte cs
bytes_rise [] doc byte run = omega arith
bytes_rise (c ∷ cs) doc byte run = (let rest = bytes_rise cs c.doc_range.end c.byte_range.end run.4 in let low = run.3 in omega arith)

-- ---- one extent

extent_back : (c : Checkpoint) (doc byte : ℕ) (rest : List ℕ) → c.doc_range.start ≡ doc → c.byte_range.start ≡ byte → doc ≤ c.doc_range.end → byte ≤ c.byte_range.end → c.doc_range.end < 2 ^ 32 → c.byte_range.end < 2 ^ 64 → take_extent doc byte (extent_bytes c ++ rest) ≡ Some (c, rest)
extent_back c doc byte rest s t low below fits small =
    let docs : ℕ = c.doc_range.end - c.doc_range.start in
    let bytes : ℕ = c.byte_range.end - c.byte_range.start in
    let a : nat_lt (doc + docs) (2 ^ 32) ≡ true = (let h : doc + docs < 2 ^ 32 = omega arith in grind (arith, nat_tests)) in
    let b : nat_lt (byte + bytes) (2 ^ 64) ≡ true = (let h : byte + bytes < 2 ^ 64 = omega arith in grind (arith, nat_tests)) in
    let first : take_vint (extent_bytes c ++ rest) ≡ Some (docs, vint_bytes bytes ++ rest) = ap take_vint (append_assoc (vint_bytes docs) (vint_bytes bytes) rest) ∙ vint_back docs (vint_bytes bytes ++ rest) (omega arith) in
    let second : take_vint (vint_bytes bytes ++ rest) ≡ Some (bytes, rest) = vint_back bytes rest (omega arith) in
    ap (λ o. o >>= (λ p. take_vint p.1 >>= (λ q. only_if (nat_lt (doc + p.0) (2 ^ 32) && nat_lt (byte + q.0) (2 ^ 64)) (Some (reach doc p.0 byte q.0, q.1))))) first
    ∙ ap (λ o. o >>= (λ q. only_if (nat_lt (doc + docs) (2 ^ 32) && nat_lt (byte + q.0) (2 ^ 64)) (Some (reach doc docs byte q.0, q.1)))) second
    ∙ ap₂ (λ x y. only_if (x && y) (Some (reach doc docs byte bytes, rest))) a b
    ∙ ap (λ d. Some (d, rest)) (sym (same_checkpoint c doc docs byte bytes s (omega arith) t (omega arith)))

-- an extent that was taken
record Took (doc byte : ℕ) (bs : List ℕ) (c : Checkpoint) (rest : List ℕ) : Type 0 where
  doc_start : c.doc_range.start ≡ doc
  byte_start : c.byte_range.start ≡ byte
  doc_order : doc ≤ c.doc_range.end
  byte_order : byte ≤ c.byte_range.end
  docs : c.doc_range.end < 2 ^ 32
  bytes : c.byte_range.end < 2 ^ 64
  whole : bs ≡ extent_bytes c ++ rest
  left : AreBytes rest

extent_put : (doc byte : ℕ) (bs : List ℕ) (c : Checkpoint) (rest : List ℕ) → AreBytes bs → take_extent doc byte bs ≡ Some (c, rest) → Took doc byte bs c rest
extent_put doc byte bs c rest small e =
    let first = bound (take_vint bs) (λ p. take_vint p.1 >>= (λ q. only_if (nat_lt (doc + p.0) (2 ^ 32) && nat_lt (byte + q.0) (2 ^ 64)) (Some (reach doc p.0 byte q.0, q.1)))) (c, rest) e in
    let p = first.0 in
    let second = bound (take_vint p.1) (λ q. only_if (nat_lt (doc + p.0) (2 ^ 32) && nat_lt (byte + q.0) (2 ^ 64)) (Some (reach doc p.0 byte q.0, q.1))) (c, rest) first.2 in
    let q = second.0 in
    let last = passed (nat_lt (doc + p.0) (2 ^ 32) && nat_lt (byte + q.0) (2 ^ 64)) (Some (reach doc p.0 byte q.0, q.1)) (c, rest) second.2 in
    let tests = both (nat_lt (doc + p.0) (2 ^ 32)) (nat_lt (byte + q.0) (2 ^ 64)) last.0 in
    let t0 = tests.0 in
    let t1 = tests.1 in
    let a : doc + p.0 < 2 ^ 32 = grind (arith, nat_tests) in
    let b : byte + q.0 < 2 ^ 64 = grind (arith, nat_tests) in
    let is : (reach doc p.0 byte q.0, q.1) ≡ (c, rest) = (let s = last.1 in cc) in
    let made : reach doc p.0 byte q.0 ≡ c = ap (λ (x : Checkpoint × List ℕ). x.0) is in
    let after : q.1 ≡ rest = ap (λ (x : Checkpoint × List ℕ). x.1) is in
    let put = vint_put bs p.0 p.1 small first.1 in
    let more : AreBytes p.1 = bytes_right (vint_bytes p.0) p.1 (subst AreBytes put.1 small) in
    let put2 = vint_put p.1 q.0 q.1 more second.1 in
    let ds : c.doc_range.start ≡ doc = ap (λ (x : Checkpoint). x.doc_range.start) (sym made) in
    let de : c.doc_range.end ≡ doc + p.0 = ap (λ (x : Checkpoint). x.doc_range.end) (sym made) in
    let bst : c.byte_range.start ≡ byte = ap (λ (x : Checkpoint). x.byte_range.start) (sym made) in
    let be : c.byte_range.end ≡ byte + q.0 = ap (λ (x : Checkpoint). x.byte_range.end) (sym made) in
    let docs : p.0 ≡ c.doc_range.end - c.doc_range.start = omega arith in
    let bytes : q.0 ≡ c.byte_range.end - c.byte_range.start = omega arith in
    record {
      doc_start = ds;
      byte_start = bst;
      doc_order = omega arith;
      byte_order = omega arith;
      docs = omega arith;
      bytes = omega arith;
      whole = put.1 ∙ ap (λ xs. vint_bytes p.0 ++ xs) (put2.1 ∙ ap (λ xs. vint_bytes q.0 ++ xs) after) ∙ sym (append_assoc (vint_bytes p.0) (vint_bytes q.0) rest) ∙ ap₂ (λ m n. (vint_bytes m ++ vint_bytes n) ++ rest) docs bytes;
      left = subst AreBytes after (bytes_right (vint_bytes q.0) q.1 (subst AreBytes put2.1 more));
    }

-- ---- a number of extents

-- the checkpoint before those that follow it
abbrev pub before : Checkpoint → List Checkpoint × List ℕ → List Checkpoint × List ℕ
before c p = (c ∷ p.0, p.1)

-- those that were read before
abbrev pub with_front : List Checkpoint → List Checkpoint × List ℕ → List Checkpoint × List ℕ
with_front front p = (front ++ p.0, p.1)

pub extents_back : (cs : List Checkpoint) (doc byte : ℕ) (rest : List ℕ) → Adjoin doc byte cs → doc_end doc cs < 2 ^ 32 → byte_end byte cs < 2 ^ 64 → take_extents (length cs) doc byte (flat_map extent_bytes cs ++ rest) ≡ Some (cs, rest)
extents_back [] doc byte rest run fits small = refl
extents_back (c ∷ cs) doc byte rest run fits small =
    let rise = docs_rise cs c.doc_range.end c.byte_range.end run.4 in
    let climb = bytes_rise cs c.doc_range.end c.byte_range.end run.4 in
    let first : take_extent doc byte (extent_bytes c ++ (flat_map extent_bytes cs ++ rest)) ≡ Some (c, flat_map extent_bytes cs ++ rest) = extent_back c doc byte (flat_map extent_bytes cs ++ rest) run.0 run.1 run.2 run.3 (omega arith) (omega arith) in
    ap (take_extents (suc (length cs)) doc byte) (append_assoc (extent_bytes c) (flat_map extent_bytes cs) rest)
    ∙ ap (λ o. o >>= (λ x. option_map (before x.0) (take_extents (length cs) x.0.doc_range.end x.0.byte_range.end x.1))) first
    ∙ ap (option_map (before c)) (extents_back cs c.doc_range.end c.byte_range.end rest run.4 fits small)

-- extents that were taken
pub record TookAll (n doc byte : ℕ) (bs : List ℕ) (cs : List Checkpoint) (rest : List ℕ) : Type 0 where
  pub many : length cs ≡ n
  pub run : Adjoin doc byte cs
  pub docs : doc < 2 ^ 32 → doc_end doc cs < 2 ^ 32
  pub bytes : byte < 2 ^ 64 → byte_end byte cs < 2 ^ 64
  pub whole : bs ≡ flat_map extent_bytes cs ++ rest

pub extents_put : (n doc byte : ℕ) (bs : List ℕ) (cs : List Checkpoint) (rest : List ℕ) → AreBytes bs → take_extents n doc byte bs ≡ Some (cs, rest) → TookAll n doc byte bs cs rest
extents_put zero doc byte bs [] rest small e =
    let is : bs ≡ rest = (same_found [] [] bs rest e).1 in
    record { many = refl; run = tt; docs = λ h. h; bytes = λ h. h; whole = is }
extents_put zero doc byte bs (c ∷ cs) rest small e = (let is : [] ≡ c ∷ cs = (same_found [] (c ∷ cs) bs rest e).0 in absurd (omega (arith, ap length is)))
extents_put (suc n) doc byte bs cs rest small e =
    let first = bound (take_extent doc byte bs) (λ c. option_map (before c.0) (take_extents n c.0.doc_range.end c.0.byte_range.end c.1)) (cs, rest) e in
    let c = first.0.0 in
    let second = mapped (before c) (take_extents n c.doc_range.end c.byte_range.end first.0.1) (cs, rest) first.2 in
    let took = extent_put doc byte bs c first.0.1 small first.1 in
    let later = extents_put n c.doc_range.end c.byte_range.end first.0.1 second.0.0 second.0.1 took.left second.1 in
    let all : c ∷ second.0.0 ≡ cs = ap (λ (x : List Checkpoint × List ℕ). x.0) second.2 in
    let after : second.0.1 ≡ rest = ap (λ (x : List Checkpoint × List ℕ). x.1) second.2 in
    let here : TookAll (suc n) doc byte bs (c ∷ second.0.0) second.0.1 = record {
      many = ap suc later.many;
      run = (took.doc_start, took.byte_start, took.doc_order, took.byte_order, later.run);
      docs = λ h. later.docs took.docs;
      bytes = λ h. later.bytes took.bytes;
      whole = took.whole ∙ ap (λ xs. extent_bytes c ++ xs) later.whole ∙ sym (append_assoc (extent_bytes c) (flat_map extent_bytes second.0.0) second.0.1);
    } in
    subst (λ ds. TookAll (suc n) doc byte bs ds rest) all (subst (TookAll (suc n) doc byte bs (c ∷ second.0.0)) after here)

-- ---- a group

-- the rest of a group, after its number of checkpoints
abbrev after_count : ℕ × List ℕ → Option (List Checkpoint × List ℕ)
after_count count = cond (nat_eq count.0 0) (Some ([], count.1)) (take_vint count.1 >>= (λ doc. take_vint doc.1 >>= (λ byte. only_if (nat_lt doc.0 (2 ^ 32)) (take_extents count.0 doc.0 byte.0 byte.1))))

pub group_back : (cs : List Checkpoint) (rest : List ℕ) → IsGroup cs → take_group (group_bytes cs ++ rest) ≡ Some (cs, rest)
group_back [] rest group = ap (λ o. o >>= after_count) (vint_back 0 rest (omega arith))
group_back (c ∷ cs) rest group =
    let run = group.run.2 in
    let rise = docs_rise cs c.doc_range.end c.byte_range.end run.4 in
    let climb = bytes_rise cs c.doc_range.end c.byte_range.end run.4 in
    let n : ℕ = length (c ∷ cs) in
    let extents : List ℕ = flat_map extent_bytes (c ∷ cs) in
    let doc : ℕ = c.doc_range.start in
    let byte : ℕ = c.byte_range.start in
    let d0 = run.0 in
    let d2 = run.2 in
    let b1 = run.1 in
    let b3 = run.3 in
    let docs = group.docs in
    let bytes = group.bytes in
    let apart : group_bytes (c ∷ cs) ++ rest ≡ vint_bytes n ++ (vint_bytes doc ++ (vint_bytes byte ++ (extents ++ rest))) = append_assoc (vint_bytes n ++ vint_bytes doc ++ vint_bytes byte) extents rest ∙ append_assoc (vint_bytes n ++ vint_bytes doc) (vint_bytes byte) (extents ++ rest) ∙ append_assoc (vint_bytes n) (vint_bytes doc) (vint_bytes byte ++ (extents ++ rest)) in
    let e1 = vint_back n (vint_bytes doc ++ (vint_bytes byte ++ (extents ++ rest))) group.count in
    let e2 = vint_back doc (vint_bytes byte ++ (extents ++ rest)) (omega arith) in
    let e3 = vint_back byte (extents ++ rest) (omega arith) in
    let some : nat_eq n 0 ≡ false = grind (arith, nat_tests) in
    let low : nat_lt doc (2 ^ 32) ≡ true = (let h : doc < 2 ^ 32 = omega arith in grind (arith, nat_tests)) in
    let own : Adjoin doc byte (c ∷ cs) = (refl, refl, omega arith, omega arith, run.4) in
    ap take_group apart
    ∙ ap (λ o. o >>= after_count) e1
    ∙ ap (λ b. cond b (Some ([], vint_bytes doc ++ (vint_bytes byte ++ (extents ++ rest)))) (take_vint (vint_bytes doc ++ (vint_bytes byte ++ (extents ++ rest))) >>= (λ d. take_vint d.1 >>= (λ x. only_if (nat_lt d.0 (2 ^ 32)) (take_extents n d.0 x.0 x.1))))) some
    ∙ ap (λ o. o >>= (λ d. take_vint d.1 >>= (λ x. only_if (nat_lt d.0 (2 ^ 32)) (take_extents n d.0 x.0 x.1)))) e2
    ∙ ap (λ o. o >>= (λ x. only_if (nat_lt doc (2 ^ 32)) (take_extents n doc x.0 x.1))) e3
    ∙ ap (λ b. only_if b (take_extents n doc byte (extents ++ rest))) low
    ∙ extents_back (c ∷ cs) doc byte rest own docs bytes

-- a group that was taken
pub group_put : (bs : List ℕ) (cs : List Checkpoint) (rest : List ℕ) → AreBytes bs → take_group bs ≡ Some (cs, rest) → IsGroup cs × (bs ≡ group_bytes cs ++ rest)
group_put bs cs rest small e =
    let first = bound (take_vint bs) after_count (cs, rest) e in
    let n = first.0.0 in
    let put = vint_put bs n first.0.1 small first.1 in
    let more : AreBytes first.0.1 = bytes_right (vint_bytes n) first.0.1 (subst AreBytes put.1 small) in
    go n first.0.1 put.0 put.1 more (nat_eq n 0) refl first.2
  where
    few : (n : ℕ) (xs : List ℕ) → bs ≡ vint_bytes n ++ xs → n ≡ 0 → (ds : List Checkpoint) → found [] xs ≡ found ds rest → IsGroup ds × (bs ≡ group_bytes ds ++ rest)
    few n xs whole none [] is =
        let after : xs ≡ rest = (same_found [] [] xs rest is).1 in
        (record { run = (0, 0, tt); count = omega arith; docs = omega arith; bytes = omega arith }, whole ∙ ap₂ (λ m ys. vint_bytes m ++ ys) none after)
    few n xs whole none (d ∷ ds) is = (let i : [] ≡ d ∷ ds = (same_found [] (d ∷ ds) xs rest is).0 in absurd (omega (arith, ap length i)))

    some : (n : ℕ) (xs : List ℕ) → n < 2 ^ 64 → bs ≡ vint_bytes n ++ xs → AreBytes xs → (n ≡ 0 → ⊥) → (ds : List Checkpoint) → (take_vint xs >>= (λ doc. take_vint doc.1 >>= (λ byte. only_if (nat_lt doc.0 (2 ^ 32)) (take_extents n doc.0 byte.0 byte.1)))) ≡ Some (ds, rest) → IsGroup ds × (bs ≡ group_bytes ds ++ rest)
    some n xs fits whole small' none ds is =
        let one = bound (take_vint xs) (λ doc. take_vint doc.1 >>= (λ byte. only_if (nat_lt doc.0 (2 ^ 32)) (take_extents n doc.0 byte.0 byte.1))) (ds, rest) is in
        let doc = one.0.0 in
        let put1 = vint_put xs doc one.0.1 small' one.1 in
        let more1 : AreBytes one.0.1 = bytes_right (vint_bytes doc) one.0.1 (subst AreBytes put1.1 small') in
        let two = bound (take_vint one.0.1) (λ byte. only_if (nat_lt doc (2 ^ 32)) (take_extents n doc byte.0 byte.1)) (ds, rest) one.2 in
        let byte = two.0.0 in
        let put2 = vint_put one.0.1 byte two.0.1 more1 two.1 in
        let more2 : AreBytes two.0.1 = bytes_right (vint_bytes byte) two.0.1 (subst AreBytes put2.1 more1) in
        let three = passed (nat_lt doc (2 ^ 32)) (take_extents n doc byte two.0.1) (ds, rest) two.2 in
        let t = three.0 in
        let low : doc < 2 ^ 32 = grind (arith, nat_tests) in
        let took = extents_put n doc byte two.0.1 ds rest more2 three.1 in
        let e2 : bs ≡ vint_bytes n ++ (vint_bytes doc ++ (vint_bytes byte ++ (flat_map extent_bytes ds ++ rest))) = whole ∙ ap (λ ys. vint_bytes n ++ ys) (put1.1 ∙ ap (λ ys. vint_bytes doc ++ ys) (put2.1 ∙ ap (λ ys. vint_bytes byte ++ ys) took.whole)) in
        of_some ds n doc byte fits none low put2.0 took e2
      where
        of_some : (ds : List Checkpoint) (n doc byte : ℕ) → n < 2 ^ 64 → (n ≡ 0 → ⊥) → doc < 2 ^ 32 → byte < 2 ^ 64 → {bs' : List ℕ} → TookAll n doc byte bs' ds rest → bs ≡ vint_bytes n ++ (vint_bytes doc ++ (vint_bytes byte ++ (flat_map extent_bytes ds ++ rest))) → IsGroup ds × (bs ≡ group_bytes ds ++ rest)
        of_some [] n doc byte fits none low small took e = absurd (none (sym took.many))
        of_some (d ∷ ds) n doc byte fits none low small took e =
            let run = took.run in
            let extents : List ℕ = flat_map extent_bytes (d ∷ ds) in
            let joined : vint_bytes n ++ (vint_bytes doc ++ (vint_bytes byte ++ (extents ++ rest))) ≡ (vint_bytes n ++ vint_bytes doc ++ vint_bytes byte ++ extents) ++ rest = sym (append_assoc (vint_bytes n ++ vint_bytes doc ++ vint_bytes byte) extents rest ∙ append_assoc (vint_bytes n ++ vint_bytes doc) (vint_bytes byte) (extents ++ rest) ∙ append_assoc (vint_bytes n) (vint_bytes doc) (vint_bytes byte ++ (extents ++ rest))) in (
              record { run = (doc, byte, run); count = subst (λ m. m < 2 ^ 64) (sym took.many) fits; docs = took.docs low; bytes = took.bytes small },
              e ∙ joined ∙ ap (λ m. (vint_bytes m ++ vint_bytes doc ++ vint_bytes byte ++ extents) ++ rest) (sym took.many) ∙ ap₂ (λ x y. (vint_bytes (length (d ∷ ds)) ++ vint_bytes x ++ vint_bytes y ++ extents) ++ rest) (sym run.0) (sym run.1),
            )

    go : (n : ℕ) (xs : List ℕ) → n < 2 ^ 64 → bs ≡ vint_bytes n ++ xs → AreBytes xs → (b : Bool) → nat_eq n 0 ≡ b → after_count (n, xs) ≡ Some (cs, rest) → IsGroup cs × (bs ≡ group_bytes cs ++ rest)
    go n xs fits whole small' true is e' = few n xs whole (grind (arith, nat_tests)) cs (sym (ap (λ b. cond b (Some ([], xs)) (take_vint xs >>= (λ doc. take_vint doc.1 >>= (λ byte. only_if (nat_lt doc.0 (2 ^ 32)) (take_extents n doc.0 byte.0 byte.1))))) is) ∙ e')
    go n xs fits whole small' false is e' = some n xs fits whole small' (λ z. let t : nat_eq n 0 ≡ true = grind (arith, nat_tests) in cc) cs (sym (ap (λ b. cond b (Some ([], xs)) (take_vint xs >>= (λ doc. take_vint doc.1 >>= (λ byte. only_if (nat_lt doc.0 (2 ^ 32)) (take_extents n doc.0 byte.0 byte.1))))) is) ∙ e')

pub group_some : (cs : List Checkpoint) → 0 < length (group_bytes cs)
group_some [] = vint_some 0
group_some (c ∷ cs) =
    let n : List ℕ = vint_bytes (length (c ∷ cs)) in
    let doc : List ℕ = vint_bytes c.doc_range.start in
    let byte : List ℕ = vint_bytes c.byte_range.start in
    omega (arith, vint_some (length (c ∷ cs)), length-append (n ++ doc ++ byte) (flat_map extent_bytes (c ∷ cs)), length-append (n ++ doc) byte, length-append n doc)

-- a group that was taken leaves fewer bytes
pub group_shorter : (bs : List ℕ) (cs : List Checkpoint) (rest : List ℕ) → AreBytes bs → take_group bs ≡ Some (cs, rest) → length rest < length bs
group_shorter bs cs rest small e =
    let put = group_put bs cs rest small e in
    omega (arith, group_some cs, ap length put.1, length-append (group_bytes cs) rest)

-- ---- the loop over a group's extents

-- these were taken, and what is left decides
pub record Taking (bytes : List ℕ) (count first_doc first_byte : ℕ) (old out : List Checkpoint) (left doc byte : ℕ) (rest : List ℕ) : Type 0 where
  pub front : List Checkpoint
  pub kept : out ≡ old ++ front
  pub whole : take_extents count first_doc first_byte bytes ≡ option_map (with_front front) (take_extents left doc byte rest)

extents_more : (left doc byte : ℕ) (bs : List ℕ) (o : Option (Checkpoint × List ℕ)) → 0 < left → take_extent doc byte bs ≡ o → take_extents left doc byte bs ≡ (o >>= (λ c. option_map (before c.0) (take_extents (left - 1) c.0.doc_range.end c.0.byte_range.end c.1)))
extents_more zero doc byte bs o some e = absurd (omega arith)
extents_more (suc left) doc byte bs o some e =
    let same : left ≡ suc left - 1 = omega arith in
    ap (λ o'. o' >>= (λ c. option_map (before c.0) (take_extents left c.0.doc_range.end c.0.byte_range.end c.1))) e
    ∙ ap (λ n. o >>= (λ c. option_map (before c.0) (take_extents n c.0.doc_range.end c.0.byte_range.end c.1))) same

pub taking_more : {bytes : List ℕ} {count first_doc first_byte : ℕ} {old out : List Checkpoint} {left doc byte : ℕ} {rest : List ℕ} (new : List Checkpoint) (c : Checkpoint) (after : List ℕ) → Taking bytes count first_doc first_byte old out left doc byte rest → 0 < left → take_extent doc byte rest ≡ Some (c, after) → new ≡ out ++ c ∷ [] → Taking bytes count first_doc first_byte old new (left - 1) c.doc_range.end c.byte_range.end after
taking_more {old = old} {left = left} {doc = doc} {byte = byte} {rest = rest} new c after t some e is = record {
  front = t.front ++ c ∷ [];
  kept = is ∙ ap (λ xs. xs ++ c ∷ []) t.kept ∙ append_assoc old t.front (c ∷ []);
  whole = t.whole ∙ ap (option_map (with_front t.front)) (extents_more left doc byte rest (Some (c, after)) some e) ∙ go (take_extents (left - 1) c.doc_range.end c.byte_range.end after);
}
  where
    go : (o : Option (List Checkpoint × List ℕ)) → option_map (with_front t.front) (option_map (before c) o) ≡ option_map (with_front (t.front ++ c ∷ [])) o
    go None = refl
    go (Some p) = ap (λ cs. Some (cs, p.1)) (sym (append_assoc t.front (c ∷ []) p.0))

-- ---- a group that was read

pub group_read : (bs : List ℕ) (got start : List Checkpoint) (rest : List ℕ) → AreBytes bs → start ≡ [] → (cs : List Checkpoint) × (take_group bs ≡ Some (cs, rest)) × (got ≡ start ++ cs) → IsGroup got × (bs ≡ group_bytes got ++ rest)
group_read bs got start rest small none took =
    let put = group_put bs took.0 rest small took.1 in
    let same : took.0 ≡ got = sym (took.2 ∙ ap (λ xs. xs ++ took.0) none) in
    subst (λ cs. IsGroup cs × (bs ≡ group_bytes cs ++ rest)) same put

pub group_unread : (bs : List ℕ) (fault : Fault) → IsDamage fault (take_group bs ≡ None) → IsDamage fault ((cs : List Checkpoint) (rest : List ℕ) → IsGroup cs → bs ≡ group_bytes cs ++ rest → ⊥)
group_unread bs fault (inl memory) = inl memory
group_unread bs fault (inr damage) = inr (damage.0, λ cs rest fits e. absent (take_group bs) (cs, rest) damage.1 (ap take_group e ∙ group_back cs rest fits))
