-- Skip entries are taken as they are put.
use Rattle.std.proofs.Common.{[], Bool, if◌then◌else◌, IsSome, List, None, Option, Some, ap, ap₂, append_assoc, append-nil, arith, false, length, length-append, refl, subst, suc, suc-mul, sym, true, zero, ◌*◌, ◌++◌, ◌+◌, ◌<◌, ◌≡◌, ◌∙◌, ◌∷◌, ◌^◌, ℕ}
use Rattle.std.proofs.Math.Logic.{∥∥₁_elim}
use Rattle.std.proofs.Props.{props}
use Rattle.std.proofs.lemmas.Bool.Decides.{nat_tests}
use Rattle.std.specs.Option.{option_map_or}
use Rattle.common.proofs.TakenBack.{u32_put}
use Rattle.definitions.proofs.Lists.{and_first, and_second as and_last, bind_some}
use Rattle.codes.specs.SkipBlocks.{are_skips, entries_of, take_byte, take_entries, take_entry, take_where}
use Rattle.common.proofs.AliveSetBytes.{u32_back}
use Rattle.common.proofs.Many.{first_or as part_of}
use Rattle.common.proofs.WordBytes.{back_bytes as last_bytes}
use Rattle.definitions.specs.Json.{◌>>=◌}
use Rattle.definitions.specs.NumberCodes.{AreBytes, take_u32, u32_bytes}
use Rattle.layouts.specs.SkipEntries.{AreSkips, SkipEntry, are_entries, entry_bytes, is_entry, skip_bytes}

-- ---- what is taken was put

abbrev rest_of : {A : Type 0} → List ℕ → Option (A × List ℕ) → List ℕ
rest_of other None = other
rest_of other (Some p) = p.1

byte_put : (bs : List ℕ) (q : ℕ × List ℕ) → take_byte bs ≡ Some q → bs ≡ q.0 ∷ q.1
byte_put [] q taken = absurd cc
byte_put (b ∷ bs) q taken = ap₂ (λ x xs. x ∷ xs) (ap (part_of 0) taken) (ap (rest_of []) taken)

byte_where_put : (c : Bool) (bs : List ℕ) (q : ℕ × List ℕ) → take_where c take_byte bs ≡ Some q → bs ≡ (if c then q.0 ∷ [] else []) ++ q.1
byte_where_put true bs q taken = byte_put bs q taken
byte_where_put false bs q taken = ap (rest_of []) taken

u32_where_put : (p : Bool) (bs : List ℕ) (q : ℕ × List ℕ) → AreBytes bs → take_where p take_u32 bs ≡ Some q → bs ≡ (if p then u32_bytes q.0 else []) ++ q.1
u32_where_put true bs q bytes taken = (u32_put bs q.0 q.1 bytes taken).1
u32_where_put false bs q bytes taken = ap (rest_of []) taken

spelled : (c p : Bool) (e : SkipEntry) (rest : List ℕ) → u32_bytes e.last_doc ++ (e.doc_width ∷ ((if c then e.count_width ∷ [] else []) ++ ((if p then u32_bytes e.count_sum else []) ++ (e.least_id ∷ (e.greatest_count ∷ rest))))) ≡ entry_bytes c p e ++ rest
spelled true true e rest = refl
spelled true false e rest = refl
spelled false true e rest = refl
spelled false false e rest = refl

-- the parts of an entry, one behind another
parts_put : (c p : Bool) (bs after_last after_doc after_count after_sum after_least rest : List ℕ) (e : SkipEntry) → bs ≡ u32_bytes e.last_doc ++ after_last → after_last ≡ e.doc_width ∷ after_doc → after_doc ≡ (if c then e.count_width ∷ [] else []) ++ after_count → after_count ≡ (if p then u32_bytes e.count_sum else []) ++ after_sum → after_sum ≡ e.least_id ∷ after_least → after_least ≡ e.greatest_count ∷ rest → bs ≡ entry_bytes c p e ++ rest
parts_put c p bs after_last after_doc after_count after_sum after_least rest e last doc count sum least greatest =
    last
    ∙ ap (λ xs. u32_bytes e.last_doc ++ xs) (doc ∙ ap (λ xs. e.doc_width ∷ xs) (count ∙ ap (λ xs. (if c then e.count_width ∷ [] else []) ++ xs) (sum ∙ ap (λ xs. (if p then u32_bytes e.count_sum else []) ++ xs) (least ∙ ap (λ xs. e.least_id ∷ xs) greatest))))
    ∙ spelled c p e rest

-- the steps of an entry: a number, and what follows it
abbrev with_greatest : ℕ → ℕ → ℕ → ℕ → ℕ → Option (ℕ × List ℕ) → Option (SkipEntry × List ℕ)
with_greatest last doc count sum least o = o >>= (λ greatest. Some (record { last_doc = last; doc_width = doc; count_width = count; count_sum = sum; least_id = least; greatest_count = greatest.0 }, greatest.1))

abbrev with_least : ℕ → ℕ → ℕ → ℕ → Option (ℕ × List ℕ) → Option (SkipEntry × List ℕ)
with_least last doc count sum o = o >>= (λ least. with_greatest last doc count sum least.0 (take_byte least.1))

abbrev with_sum : ℕ → ℕ → ℕ → Option (ℕ × List ℕ) → Option (SkipEntry × List ℕ)
with_sum last doc count o = o >>= (λ sum. with_least last doc count sum.0 (take_byte sum.1))

abbrev with_count : Bool → ℕ → ℕ → Option (ℕ × List ℕ) → Option (SkipEntry × List ℕ)
with_count positions last doc o = o >>= (λ count. with_sum last doc count.0 (take_where positions take_u32 count.1))

abbrev with_doc : Bool → Bool → ℕ → Option (ℕ × List ℕ) → Option (SkipEntry × List ℕ)
with_doc counts positions last o = o >>= (λ doc. with_count positions last doc.0 (take_where counts take_byte doc.1))

abbrev with_last : Bool → Bool → Option (ℕ × List ℕ) → Option (SkipEntry × List ℕ)
with_last counts positions o = o >>= (λ last. with_doc counts positions last.0 (take_byte last.1))

pub entry_put : (counts positions : Bool) (bs rest : List ℕ) (e : SkipEntry) → AreBytes bs → take_entry counts positions bs ≡ Some (e, rest) → bs ≡ entry_bytes counts positions e ++ rest
entry_put c p bs rest e bytes taken = last_step (take_u32 bs) refl taken
  where
    greatest_step : (last doc count sum least : ℕ × List ℕ) → bs ≡ u32_bytes last.0 ++ last.1 → last.1 ≡ doc.0 ∷ doc.1 → doc.1 ≡ (if c then count.0 ∷ [] else []) ++ count.1 → count.1 ≡ (if p then u32_bytes sum.0 else []) ++ sum.1 → sum.1 ≡ least.0 ∷ least.1 → (o : Option (ℕ × List ℕ)) → take_byte least.1 ≡ o → with_greatest last.0 doc.0 count.0 sum.0 least.0 o ≡ Some (e, rest) → bs ≡ entry_bytes c p e ++ rest
    greatest_step last doc count sum least first second third fourth fifth None is h = cc
    greatest_step last doc count sum least first second third fourth fifth (Some q) is h =
        let whole : SkipEntry = record { last_doc = last.0; doc_width = doc.0; count_width = count.0; count_sum = sum.0; least_id = least.0; greatest_count = q.0 } in
        let same : whole ≡ e = ap (part_of e) h in
        let left : q.1 ≡ rest = ap (rest_of rest) h in
        let P : SkipEntry → Type 0 = λ x. bs ≡ entry_bytes c p x ++ rest in
        subst P same (parts_put c p bs last.1 doc.1 count.1 sum.1 least.1 rest whole first second third fourth fifth (byte_put least.1 q is ∙ ap (λ xs. q.0 ∷ xs) left))

    least_step : (last doc count sum : ℕ × List ℕ) → bs ≡ u32_bytes last.0 ++ last.1 → last.1 ≡ doc.0 ∷ doc.1 → doc.1 ≡ (if c then count.0 ∷ [] else []) ++ count.1 → count.1 ≡ (if p then u32_bytes sum.0 else []) ++ sum.1 → (o : Option (ℕ × List ℕ)) → take_byte sum.1 ≡ o → with_least last.0 doc.0 count.0 sum.0 o ≡ Some (e, rest) → bs ≡ entry_bytes c p e ++ rest
    least_step last doc count sum first second third fourth None is h = cc
    least_step last doc count sum first second third fourth (Some q) is h = greatest_step last doc count sum q first second third fourth (byte_put sum.1 q is) (take_byte q.1) refl h

    sum_step : (last doc count : ℕ × List ℕ) → AreBytes count.1 → bs ≡ u32_bytes last.0 ++ last.1 → last.1 ≡ doc.0 ∷ doc.1 → doc.1 ≡ (if c then count.0 ∷ [] else []) ++ count.1 → (o : Option (ℕ × List ℕ)) → take_where p take_u32 count.1 ≡ o → with_sum last.0 doc.0 count.0 o ≡ Some (e, rest) → bs ≡ entry_bytes c p e ++ rest
    sum_step last doc count few first second third None is h = cc
    sum_step last doc count few first second third (Some q) is h = least_step last doc count q first second third (u32_where_put p count.1 q few is) (take_byte q.1) refl h

    count_step : (last doc : ℕ × List ℕ) → AreBytes doc.1 → bs ≡ u32_bytes last.0 ++ last.1 → last.1 ≡ doc.0 ∷ doc.1 → (o : Option (ℕ × List ℕ)) → take_where c take_byte doc.1 ≡ o → with_count p last.0 doc.0 o ≡ Some (e, rest) → bs ≡ entry_bytes c p e ++ rest
    count_step last doc few first second None is h = cc
    count_step last doc few first second (Some q) is h =
        let put = byte_where_put c doc.1 q is in
        sum_step last doc q (last_bytes (if c then q.0 ∷ [] else []) q.1 (subst AreBytes put few)) first second put (take_where p take_u32 q.1) refl h

    doc_step : (last : ℕ × List ℕ) → AreBytes last.1 → bs ≡ u32_bytes last.0 ++ last.1 → (o : Option (ℕ × List ℕ)) → take_byte last.1 ≡ o → with_doc c p last.0 o ≡ Some (e, rest) → bs ≡ entry_bytes c p e ++ rest
    doc_step last few first None is h = cc
    doc_step last few first (Some q) is h =
        let put = byte_put last.1 q is in
        count_step last q (last_bytes (q.0 ∷ []) q.1 (subst AreBytes put few)) first put (take_where c take_byte q.1) refl h

    last_step : (o : Option (ℕ × List ℕ)) → take_u32 bs ≡ o → with_last c p o ≡ Some (e, rest) → bs ≡ entry_bytes c p e ++ rest
    last_step None is h = cc
    last_step (Some q) is h =
        let put = (u32_put bs q.0 q.1 bytes is).1 in
        doc_step q (last_bytes (u32_bytes q.0) q.1 (subst AreBytes put bytes)) put (take_byte q.1) refl h

pub entries_put : (c p : Bool) (n : ℕ) (bs : List ℕ) (es : List SkipEntry) → AreBytes bs → take_entries c p n bs ≡ Some es → (length es ≡ n) × (bs ≡ skip_bytes c p es)
entries_put c p zero [] es bytes taken = (ap (λ o. length (entries_of o)) (sym taken), ap (λ o. skip_bytes c p (entries_of o)) taken)
entries_put c p zero (b ∷ bs) es bytes taken = absurd cc
entries_put c p (suc n) bs es bytes taken =
    let first = bind_some {A = SkipEntry × List ℕ} {B = List SkipEntry} (take_entry c p bs) (λ q. take_entries c p n q.1 >>= (λ more. Some (q.0 ∷ more))) es taken in
    let later = bind_some {A = List SkipEntry} {B = List SkipEntry} (take_entries c p n first.0.1) (λ more. Some (first.0.0 ∷ more)) es first.2 in
    let put = entry_put c p bs first.0.1 first.0.0 bytes first.1 in
    let others = entries_put c p n first.0.1 later.0 (last_bytes (entry_bytes c p first.0.0) first.0.1 (subst AreBytes put bytes)) later.1 in
    let whole : first.0.0 ∷ later.0 ≡ es = ap entries_of later.2 in
    (ap length (sym whole) ∙ ap suc others.0, put ∙ ap (λ xs. entry_bytes c p first.0.0 ++ xs) others.1 ∙ ap (skip_bytes c p) whole)

-- ---- what was put is taken back

abbrev stands : List ℕ → ℕ → Option (ℕ × List ℕ)
stands rest m = Some (m, rest)

-- what isn't recorded is 0, and the numbers of 32 bits fit
record Fits (c p : Bool) (e : SkipEntry) : Type 0 where
  pub last : e.last_doc < 2 ^ 32
  pub width : c ≡ false → e.count_width ≡ 0
  pub sum : e.count_sum < 2 ^ 32
  pub none : p ≡ false → e.count_sum ≡ 0

fits_of : (c p : Bool) (least : ℕ) (e : SkipEntry) → is_entry c p least e ≡ true → Fits c p e
fits_of true true least e sound = record { last = grind (arith, nat_tests); width = λ h. absurd cc; sum = grind (arith, nat_tests); none = λ h. absurd cc }
fits_of true false least e sound = record { last = grind (arith, nat_tests); width = λ h. absurd cc; sum = grind (arith, nat_tests); none = λ h. grind (arith, nat_tests) }
fits_of false true least e sound = record { last = grind (arith, nat_tests); width = λ h. grind (arith, nat_tests); sum = grind (arith, nat_tests); none = λ h. absurd cc }
fits_of false false least e sound = record { last = grind (arith, nat_tests); width = λ h. grind (arith, nat_tests); sum = grind (arith, nat_tests); none = λ h. grind (arith, nat_tests) }

-- an entry of these parts before others
abbrev made : SkipEntry → List ℕ → ℕ → ℕ → ℕ → Option (SkipEntry × List ℕ)
made e rest last width sum = Some (record { last_doc = last; doc_width = e.doc_width; count_width = width; count_sum = sum; least_id = e.least_id; greatest_count = e.greatest_count }, rest)

-- a document of an entry is one of 32 bits
pub entry_small : (c p : Bool) (least : ℕ) (e : SkipEntry) → is_entry c p least e ≡ true → e.last_doc < 2 ^ 32
entry_small c p least e sound = (fits_of c p least e sound).last

entry_back : (c p : Bool) (e : SkipEntry) (rest : List ℕ) → Fits c p e → take_entry c p (entry_bytes c p e ++ rest) ≡ Some (e, rest)
entry_back true true e rest fits =
    ap (take_entry true true) (sym (spelled true true e rest))
    ∙ ap (with_last true true) (u32_back e.last_doc (e.doc_width ∷ (e.count_width ∷ (u32_bytes e.count_sum ++ (e.least_id ∷ (e.greatest_count ∷ rest))))) fits.last)
    ∙ ap (with_sum e.last_doc e.doc_width e.count_width) (u32_back e.count_sum (e.least_id ∷ (e.greatest_count ∷ rest)) fits.sum)
entry_back true false e rest fits =
    ap (take_entry true false) (sym (spelled true false e rest))
    ∙ ap (with_last true false) (u32_back e.last_doc (e.doc_width ∷ (e.count_width ∷ (e.least_id ∷ (e.greatest_count ∷ rest)))) fits.last)
    ∙ ap (λ s. made e rest e.last_doc e.count_width s) (sym (fits.none refl))
entry_back false true e rest fits =
    ap (take_entry false true) (sym (spelled false true e rest))
    ∙ ap (with_last false true) (u32_back e.last_doc (e.doc_width ∷ (u32_bytes e.count_sum ++ (e.least_id ∷ (e.greatest_count ∷ rest)))) fits.last)
    ∙ ap (with_sum e.last_doc e.doc_width 0) (u32_back e.count_sum (e.least_id ∷ (e.greatest_count ∷ rest)) fits.sum)
    ∙ ap (λ w. made e rest e.last_doc w e.count_sum) (sym (fits.width refl))
entry_back false false e rest fits =
    ap (take_entry false false) (sym (spelled false false e rest))
    ∙ ap (with_last false false) (u32_back e.last_doc (e.doc_width ∷ (e.least_id ∷ (e.greatest_count ∷ rest))) fits.last)
    ∙ ap₂ (λ w s. made e rest e.last_doc w s) (sym (fits.width refl)) (sym (fits.none refl))

entries_back : (c p : Bool) (least : ℕ) (es : List SkipEntry) → are_entries c p least es ≡ true → take_entries c p (length es) (skip_bytes c p es) ≡ Some es
entries_back c p least [] sound = refl
entries_back c p least (e ∷ es) sound =
    let here = and_first (is_entry c p least e) (are_entries c p (e.last_doc + 1) es) sound in
    let there = and_last (is_entry c p least e) (are_entries c p (e.last_doc + 1) es) sound in
    ap (λ o. o >>= (λ q. take_entries c p (length es) q.1 >>= (λ more. Some (q.0 ∷ more)))) (entry_back c p e (skip_bytes c p es) (fits_of c p least e here))
    ∙ ap (λ o. o >>= (λ more. Some (e ∷ more))) (entries_back c p (e.last_doc + 1) es there)

-- ---- the whole

pub skips_taken : (c p : Bool) (n : ℕ) (bs : List ℕ) (es : List SkipEntry) → AreSkips c p n bs es → take_entries c p n bs ≡ Some es
skips_taken c p n bs es skips = ap₂ (λ k xs. take_entries c p k xs) (sym skips.many) skips.bytes_are ∙ entries_back c p 0 es skips.sound

pub merely_some : (c p : Bool) (n : ℕ) (bs : List ℕ) → ∥ ((es : List SkipEntry) × AreSkips c p n bs es) ∥₁ → IsSome (take_entries c p n bs)
merely_some c p n bs known = ∥∥₁_elim known (IsSome-prop (take_entries c p n bs)) (λ k. subst (λ o. IsSome o) (sym (skips_taken c p n bs k.0 k.1)) refl)
  where
    IsSome-prop : (o : Option (List SkipEntry)) → IsProp (IsSome o)
    IsSome-prop o = hlevel props

pub skips_checked : (c p : Bool) (n : ℕ) (bs : List ℕ) (es : List SkipEntry) → AreSkips c p n bs es → are_skips c p n 0 bs ≡ true
skips_checked c p n bs es skips = ap (λ o. option_map_or (are_entries c p 0) o false) (skips_taken c p n bs es skips) ∙ skips.sound

pub skips_are : (c p : Bool) (n : ℕ) (bs : List ℕ) → AreBytes bs → are_skips c p n 0 bs ≡ true → AreSkips c p n bs (entries_of (take_entries c p n bs))
skips_are c p n bs bytes checked = go (take_entries c p n bs) refl checked
  where
    go : (o : Option (List SkipEntry)) → take_entries c p n bs ≡ o → option_map_or (are_entries c p 0) o false ≡ true → AreSkips c p n bs (entries_of o)
    go None e sound = absurd cc
    go (Some es) e sound = (let put = entries_put c p n bs es bytes e in record { many = put.0; bytes_are = put.1; sound = sound })

-- ---- one reading

-- how many bytes an entry takes
abbrev size : Bool → Bool → ℕ
size counts positions = 7 + (if counts then 1 else 0) + (if positions then 4 else 0)

length-entry : (c p : Bool) (e : SkipEntry) → length (entry_bytes c p e) ≡ size c p
length-entry true true e = refl
length-entry true false e = refl
length-entry false true e = refl
length-entry false false e = refl

length-skips : (c p : Bool) (es : List SkipEntry) → length (skip_bytes c p es) ≡ length es * size c p
length-skips c p [] = omega arith
length-skips c p (e ∷ es) =
    let next : size c p + length es * size c p ≡ suc (length es) * size c p = omega (arith, suc-mul (length es) (size c p)) in
    length-append (entry_bytes c p e) (skip_bytes c p es) ∙ ap₂ (λ m n. m + n) (length-entry c p e) (length-skips c p es) ∙ next

-- equal bytes are of as many entries
same_count : (c p : Bool) (m n : ℕ) → m * size c p ≡ n * size c p → m ≡ n
same_count true true m n same = omega arith
same_count true false m n same = omega arith
same_count false true m n same = omega arith
same_count false false m n same = omega arith

pub one_reading : (c p : Bool) (m n : ℕ) (bs : List ℕ) (a b : List SkipEntry) → AreSkips c p m bs a → AreSkips c p n bs b → a ≡ b
one_reading c p m n bs a b first other =
    let bytes : skip_bytes c p a ≡ skip_bytes c p b = sym first.bytes_are ∙ other.bytes_are in
    let counts : length a ≡ length b = same_count c p (length a) (length b) (sym (length-skips c p a) ∙ ap length bytes ∙ length-skips c p b) in
    let many : n ≡ m = sym other.many ∙ sym counts ∙ first.many in
    ap entries_of (sym (skips_taken c p m bs a first) ∙ ap (λ k. take_entries c p k bs) (sym many) ∙ skips_taken c p n bs b other)

-- ---- one more

pub entry_after : (c p : Bool) (es : List SkipEntry) (e : SkipEntry) → skip_bytes c p (es ++ e ∷ []) ≡ skip_bytes c p es ++ entry_bytes c p e
entry_after c p [] e = append-nil (entry_bytes c p e)
entry_after c p (first ∷ es) e = ap (λ bs. entry_bytes c p first ++ bs) (entry_after c p es e) ∙ sym (append_assoc (entry_bytes c p first) (skip_bytes c p es) (entry_bytes c p e))
