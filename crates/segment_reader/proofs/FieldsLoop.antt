-- Fields of a section, one after another.
use Rattle.std.proofs.Common.{[], Bool, List, None, Option, Some, ap, arith, drop, false, get_or, length, length-drop, map, refl, subst, suc, sym, take, true, zero, ◌++◌, ◌+◌, ◌<◌, ◌≡◌, ◌≤◌, ◌∙◌, ◌∷◌, ◌^◌, ℕ}
use Rattle.std.proofs.lemmas.List.{length-map}
use Rattle.std.specs.Prelude.{slice_get}
use Rattle.front_coding.proofs.TermsTaken.{terms_once}
use Rattle.front_coding.specs.declared.term_starts.TermStart.{TermStart}
use Rattle.layouts.specs.TermSections.{FieldTerms, block_size, kind_byte}
use Rattle.segment_reader.proofs.HeadersTaken.{FieldThere, same_header}
use Rattle.segment_reader.proofs.TermsLoop.{coded_of}
use Rattle.segment_reader.specs.TermPlaces.{AreFields, AreTerms, IsField, IsReadField, IsSection, field_end, fields_end, fields_start, first_in, header_bytes, header_of, starts_of}
use Rattle.segment_reader.specs.ToldFields.{AreKept, AreTold, HasShape}
use Rattle.segment_reader.specs.declared.field_index.FieldIndex.{FieldIndex}

-- ---- one reading

pub same_field : (kind : Bool) (section : List ℕ) (at : TermStart) (p q : ℕ) (f g : FieldTerms) (end last : TermStart) → length section < 2 ^ 63 → f.field < 2 ^ 32 → f.field ≡ g.field → IsReadField (block_size kind) section at p q f end → IsReadField (block_size kind) section at p q g last → f ≡ g
same_field kind section at p q f g end last short small same a b =
    let size = block_size kind in
    let there = b.header.spelled ∙ ap (λ k. header_bytes k g.num_tokens (length g.terms) ++ drop (first_in at g).entry section) (sym same) in
    let few = a.header.terms_fit in
    let few_2 = b.header.terms_fit in
    let one = same_header (drop at.entry section) f.field f.num_tokens (length f.terms) g.num_tokens (length g.terms) (drop (first_in at f).entry section) (drop (first_in at g).entry section) small a.header.tokens_fit (omega (arith, few)) b.header.tokens_fit (omega (arith, few_2)) a.header.spelled there in
    let long : length (header_of g) ≡ length (header_of f) = ap (λ k. length (header_bytes k g.num_tokens (length g.terms))) (sym same) ∙ ap (λ k. length (header_bytes f.field k (length g.terms))) (sym one.0) ∙ ap (λ k. length (header_bytes f.field f.num_tokens k)) (sym one.1) in
    let first : first_in at g ≡ first_in at f = ap (λ k. record { entry = at.entry + k; postings = at.postings; positions = at.positions }) long in
    let bytes = drop (first_in at f).entry section in
    let little : 0 + length bytes < 2 ^ 64 = (let l = length-drop (first_in at f).entry section in omega (arith, short, l)) in
    let ours = coded_of size section (first_in at f) p q f.terms (drop end.entry section) a.read.terms in
    let theirs = coded_of size section (first_in at f) p q g.terms (drop last.entry section) (subst (λ s. AreTerms size section s p q g.terms (drop last.entry section)) first b.read.terms) in
    let terms = (terms_once size 0 [] bytes f.terms g.terms (drop end.entry section) (drop last.entry section) one.1 little ours theirs).0 in
    ap (λ k. record { field = k; num_tokens = f.num_tokens; terms = f.terms }) same ∙ ap (λ k. record { field = g.field; num_tokens = k; terms = f.terms }) one.0 ∙ ap (λ k. record { field = g.field; num_tokens = g.num_tokens; terms = k }) terms

-- ---- several

fields_pushed : (size : ℕ) (section : List ℕ) (at : TermStart) (p q : ℕ) (fs : List FieldTerms) (f : FieldTerms) → AreFields size section at p q fs → IsReadField size section (fields_end size at fs) p q f (field_end size (fields_end size at fs) f) → AreFields size section at p q (fs ++ f ∷ [])
fields_pushed size section at p q [] f all one = (one, tt)
fields_pushed size section at p q (g ∷ fs) f all one = (all.0, fields_pushed size section (field_end size at g) p q fs f all.1 one)

end_pushed : (size : ℕ) (at : TermStart) (fs : List FieldTerms) (f : FieldTerms) → fields_end size at (fs ++ f ∷ []) ≡ field_end size (fields_end size at fs) f
end_pushed size at [] f = refl
end_pushed size at (g ∷ fs) f = end_pushed size (field_end size at g) fs f

told_pushed : (kind : Bool) (at : TermStart) (fs : List FieldTerms) (is : List FieldIndex) (f : FieldTerms) (i : FieldIndex) → AreTold kind at fs is → i.kind.field ≡ f.field → i.num_tokens ≡ f.num_tokens → AreKept kind (first_in (fields_end (block_size kind) at fs) f) f.terms i → AreTold kind at (fs ++ f ∷ []) (is ++ i ∷ [])
told_pushed kind at [] [] f i told a b c = (a, b, c, tt)
told_pushed kind at [] (j ∷ is) f i told a b c = absurd told
told_pushed kind at (g ∷ fs) [] f i told a b c = absurd told
told_pushed kind at (g ∷ fs) (j ∷ is) f i told a b c = (told.0, told.1, told.2, told_pushed kind (field_end (block_size kind) at g) fs is f i told.3 a b c)

pub record Reading (kind : Bool) (section : List ℕ) (p q : ℕ) (numbers : List ℕ) (i : ℕ) (told : List FieldIndex) (start : TermStart) : Type 0 where
  pub done : List FieldTerms
  pub names : map (λ (f : FieldTerms). f.field) done ≡ take i numbers
  pub fields : AreFields (block_size kind) section fields_start p q done
  pub start_is : start ≡ fields_end (block_size kind) fields_start done
  pub told_are : AreTold kind fields_start done told
  pub entry : start.entry ≤ length section
  pub postings : start.postings ≤ p
  pub positions : start.positions ≤ q
  pub complete : (fs : List FieldTerms) → map (λ (f : FieldTerms). f.field) fs ≡ numbers → AreFields (block_size kind) section fields_start p q fs → AreFields (block_size kind) section start p q (drop i fs) × (fields_end (block_size kind) start (drop i fs) ≡ fields_end (block_size kind) fields_start fs)

pub nothing_read : (kind : Bool) (section : List ℕ) (p q : ℕ) (numbers : List ℕ) → 1 ≤ length section → Reading kind section p q numbers 0 [] fields_start
nothing_read kind section p q numbers some = record {
  done = [];
  names = refl;
  fields = tt;
  start_is = refl;
  told_are = tt;
  entry = some;
  postings = omega arith;
  positions = omega arith;
  complete = λ fs names fields. (fields, refl);
}

-- the field at an index of the list
drop_here : (i : ℕ) (fs : List FieldTerms) (numbers : List ℕ) → map (λ (f : FieldTerms). f.field) fs ≡ numbers → i < length numbers → (f : FieldTerms) × (f.field ≡ get_or numbers i 0) × (drop i fs ≡ f ∷ drop (i + 1) fs)
drop_here i fs [] names within = absurd (omega arith)
drop_here i [] (n ∷ ns) names within = (let long = ap length names in absurd (omega (arith, long)))
drop_here zero (f ∷ fs) (n ∷ ns) names within = (f, ap (λ xs. get_or xs 0 0) names, refl)
drop_here (suc i) (f ∷ fs) (n ∷ ns) names within =
    let here = drop_here i fs ns (ap (drop 1) names) (omega arith) in
    let next : suc (i + 1) ≡ suc i + 1 = omega arith in
    (here.0, here.1, here.2 ∙ ap (λ k. here.0 ∷ drop k (f ∷ fs)) next)

take_next : (i : ℕ) (numbers : List ℕ) → i < length numbers → take (i + 1) numbers ≡ take i numbers ++ get_or numbers i 0 ∷ []
take_next i [] within = absurd (omega arith)
take_next zero (n ∷ ns) within = refl
take_next (suc i) (n ∷ ns) within =
    let next : suc i + 1 ≡ suc (i + 1) = omega arith in
    ap (λ k. take k (n ∷ ns)) next ∙ ap (λ xs. n ∷ xs) (take_next i ns (omega arith))

map_pushed : (fs : List FieldTerms) (f : FieldTerms) → map (λ (g : FieldTerms). g.field) (fs ++ f ∷ []) ≡ map (λ (g : FieldTerms). g.field) fs ++ f.field ∷ []
map_pushed [] f = refl
map_pushed (g ∷ fs) f = ap (λ xs. g.field ∷ xs) (map_pushed fs f)

pub one_more : (kind : Bool) (section : List ℕ) (p q : ℕ) (numbers : List ℕ) (i : ℕ) (told : List FieldIndex) (start end : TermStart) (index : FieldIndex) → length section < 2 ^ 63 → i < length numbers → get_or numbers i 0 < 2 ^ 32 → index.kind.field ≡ get_or numbers i 0 → Reading kind section p q numbers i told start → FieldThere kind section start p q (get_or numbers i 0) index.num_tokens index.shape index.starts.items end → Reading kind section p q numbers (i + 1) (told ++ index ∷ []) end
one_more kind section p q numbers i told start end index short more small number reading there =
    let size = block_size kind in
    let f = there.told in
    let done = reading.done in
    let last : end ≡ field_end size start f = there.read.read.end_is in
    let was = reading.start_is in
    let first = there.read.read.terms.postings_end in
    let second = there.read.read.terms.positions_end in
    let ends_at : end ≡ field_end size (fields_end size fields_start done) f = last ∙ ap (λ s. field_end size s f) was in
    let read : IsReadField size section (fields_end size fields_start done) p q f (field_end size (fields_end size fields_start done) f) = subst (λ e. IsReadField size section (fields_end size fields_start done) p q f e) ends_at (subst (λ s. IsReadField size section s p q f end) was there.read) in
    let last_postings : end.postings ≡ (field_end size start f).postings = ap (λ (s : TermStart). s.postings) last in
    let last_positions : end.positions ≡ (field_end size start f).positions = ap (λ (s : TermStart). s.positions) last in
    record {
      done = done ++ f ∷ [];
      names = map_pushed done f ∙ ap (λ xs. xs ++ f.field ∷ []) reading.names ∙ ap (λ n. take i numbers ++ n ∷ []) there.field_is ∙ sym (take_next i numbers more);
      fields = fields_pushed size section fields_start p q done f reading.fields read;
      start_is = ends_at ∙ sym (end_pushed size fields_start done f);
      told_are = told_pushed kind fields_start done told f index reading.told_are (number ∙ sym there.field_is) (sym there.tokens_are) (record { shape = subst (λ s. HasShape kind (first_in s f) f.terms index.shape) was there.shape_is; starts = there.starts_are ∙ ap (λ s. starts_of size (first_in s f) f.terms) was });
      entry = there.read.read.within;
      postings = omega (arith, first, last_postings);
      positions = omega (arith, second, last_positions);
      complete = λ fs names fields.
          let left = reading.complete fs names fields in
          let here = drop_here i fs numbers names more in
          let all : AreFields size section start p q (here.0 ∷ drop (i + 1) fs) = subst (AreFields size section start p q) here.2 left.0 in
          let same : here.0 ≡ f = same_field kind section start p q here.0 f (field_end size start here.0) end short (omega (arith, small, here.1)) (here.1 ∙ sym there.field_is) all.0 there.read in
          let at : field_end size start here.0 ≡ end = ap (field_end size start) same ∙ sym last in
          (subst (λ s. AreFields size section s p q (drop (i + 1) fs)) at all.1, ap (λ s. fields_end size s (drop (i + 1) fs)) (sym at) ∙ sym (ap (fields_end size start) here.2) ∙ left.1);
    }

pub no_more : (kind : Bool) (section : List ℕ) (p q : ℕ) (numbers : List ℕ) (i : ℕ) (told : List FieldIndex) (start : TermStart) → i < length numbers → Reading kind section p q numbers i told start → ((f : FieldTerms) (rest : List ℕ) → f.field ≡ get_or numbers i 0 → IsField (block_size kind) section start p q f rest → ⊥) → (fs : List FieldTerms) → IsSection kind section p q numbers fs → ⊥
no_more kind section p q numbers i told start more reading none fs whole =
    let size = block_size kind in
    let left = reading.complete fs whole.names whole.fields in
    let here = drop_here i fs numbers whole.names more in
    let all : AreFields size section start p q (here.0 ∷ drop (i + 1) fs) = subst (AreFields size section start p q) here.2 left.0 in
    none here.0 (drop (field_end size start here.0).entry section) here.1 (record { header = all.0.header; terms = all.0.read.terms })

drop_past : (i : ℕ) (fs : List FieldTerms) → length fs ≤ i → drop i fs ≡ []
drop_past zero [] past = refl
drop_past zero (f ∷ fs) past = absurd (omega (arith, past))
drop_past (suc i) [] past = refl
drop_past (suc i) (f ∷ fs) past = drop_past i fs (omega (arith, past))

-- where all fields are read, the section ends at the last start
pub no_end : (kind : Bool) (section : List ℕ) (p q : ℕ) (numbers : List ℕ) (i : ℕ) (told : List FieldIndex) (start : TermStart) → length numbers ≤ i → Reading kind section p q numbers i told start → (start ≡ record { entry = length section; postings = p; positions = q } → ⊥) → (fs : List FieldTerms) → IsSection kind section p q numbers fs → ⊥
no_end kind section p q numbers i told start past reading other fs whole =
    let size = block_size kind in
    let left = reading.complete fs whole.names whole.fields in
    let long : length fs ≡ length numbers = sym (length-map fs (λ (f : FieldTerms). f.field)) ∙ ap length whole.names in
    let none = drop_past i fs (omega (arith, past, long)) in
    other (ap (fields_end size start) (sym none) ∙ left.1 ∙ whole.ends)

take_whole : (i : ℕ) (numbers : List ℕ) → length numbers ≤ i → take i numbers ≡ numbers
take_whole zero [] past = refl
take_whole zero (n ∷ ns) past = absurd (omega (arith, past))
take_whole (suc i) [] past = refl
take_whole (suc i) (n ∷ ns) past = ap (λ xs. n ∷ xs) (take_whole i ns (omega (arith, past)))

pub all_read : (kind : Bool) (section : List ℕ) (p q : ℕ) (numbers : List ℕ) (i : ℕ) (told : List FieldIndex) (start : TermStart) → slice_get section 0 ≡ Some (kind_byte kind) → length numbers ≤ i → (reading : Reading kind section p q numbers i told start) → start ≡ record { entry = length section; postings = p; positions = q } → IsSection kind section p q numbers reading.done
all_read kind section p q numbers i told start first past reading end = record { kind = first; names = reading.names ∙ take_whole i numbers past; fields = reading.fields; ends = sym reading.start_is ∙ end }

pub some_byte : (kind : Bool) (section : List ℕ) → slice_get section 0 ≡ Some (kind_byte kind) → 1 ≤ length section
some_byte kind [] is = absurd cc
some_byte kind (b ∷ bs) is = omega arith

-- ---- kinds

pub kinds_same : (a b : Bool) → kind_byte a ≡ kind_byte b → a ≡ b
kinds_same true true e = refl
kinds_same true false e = absurd (omega (arith, e))
kinds_same false true e = absurd (omega (arith, e))
kinds_same false false e = refl

abbrev pub byte_or : ℕ → Option ℕ → ℕ
byte_or d None = d
byte_or d (Some n) = n

-- a section that hasn't these fields in its kind has none in any
pub any_kind : (kind : Bool) (section : List ℕ) (p q : ℕ) (numbers : List ℕ) → slice_get section 0 ≡ Some (kind_byte kind) → ((fs : List FieldTerms) → IsSection kind section p q numbers fs → ⊥) → (other : Bool) (fs : List FieldTerms) → IsSection other section p q numbers fs → ⊥
any_kind kind section p q numbers first none other fs whole = none fs (subst (λ k. IsSection k section p q numbers fs) (kinds_same other kind (ap (byte_or 0) (sym whole.kind ∙ first))) whole)
