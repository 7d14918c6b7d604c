-- The terms of a dictionary that begin with a prefix.
use Rattle.std.proofs.Common.{[], Bool, Err, IfOk, Ok, Result, List, None, Option, Some, ap, arith, false, filter, find, if◌then◌else◌, length, map, nat_eq, nat_lt, not, option_map, refl, sym, suc, take, true, true≢false, zero, ◌&&◌, ◌+◌, ◌<◌, ◌==◌, ◌≡◌, ◌≤◌, ◌∙◌, ◌∷◌, bytes_eq, cond, subst, ℕ}
use Rattle.std.proofs.Math.Logic.{∥∥₁_elim}
use Rattle.std.proofs.lemmas.Bool.{lt-ltb}
use Rattle.std.proofs.lemmas.Bool.Decides.{nat_tests}
use Rattle.std.proofs.lemmas.Map.Text.{is_eq-slice_cmp}
use Rattle.std.proofs.lemmas.Slice.Eq.{bytes_eq-Decides}
use Rattle.std.specs.Cmp.Lexicographic.{nat_list_cmp_total, slice_cmp}
use Rattle.std.specs.List.{AllByRecursion, starts_with}
use Rattle.std.specs.Ordering.{is_eq, is_ge, is_lt, nat_cmp, ordering_then}
use Rattle.std.specs.Prelude.{slice_index}
use Rattle.std.specs.declared.cmp.Ordering.{Ordering}
use Rattle.std.specs.declared.cmp.Ordering.TheVariants.{Equal, Greater, Less}
use Rattle.definitions.proofs.Lists.{both_true, cmp_self as is_equal}
use Rattle.definitions.proofs.PrefixRanges.{end_with, prefix_range}
use Rattle.definitions.proofs.TokenTexts.{each_kept as all_filtered}
use Rattle.definitions.specs.Prefixes.{is_before, is_from, prefix_end}
use Rattle.docsets.specs.Entries.{Entry}
use Rattle.segment_reader.proofs.DictionariesPlaced.{is_dictionary}
use Rattle.segment_reader.proofs.Found.{TermsAscend-prop}
use Rattle.segment_reader.proofs.ReaderCalls.{dictionary_is}
use Rattle.segment_reader.specs.Dictionaries.{Placed, Walked, ahead}
use Rattle.segment_reader.specs.Readers.{Contents, Reader, dictionary_in, info_in}
use Rattle.segment_reader.specs.Searching as searching
use Rattle.segment_reader.specs.Searching.{between, is_below}
use Rattle.layouts.specs.InvertedIndexes.{IndexedField}
use Rattle.layouts.specs.TermSections.{TermsAscend}
use Rattle.leaf_weights.specs.Suffixes.{HaveBytes, read_places}
use Rattle.segment_reader.specs.SegmentReaders.{index_of, lengths_of, max_doc_of}
use Rattle.segment_reader.proofs.PartsTogether.{known_together}
use Rattle.segment_reader.specs.Together.{AreTogether}
use Rattle.segment_reader.specs.declared.segment_reader.SegmentReader.{SegmentReader}

-- ---- what begins with a prefix is between it and its end

is_less : (b : ℕ) → nat_cmp b (b + 1) ≡ Less
is_less b = ap (λ t. cond t Less (cond (b == b + 1) Equal Greater)) (lt-ltb b (b + 1) (omega arith))

before_alike : (b : ℕ) (cs : List ℕ) (end : Option (List ℕ)) → is_before end cs ≡ true → is_before (end_with b end) (b ∷ cs) ≡ true
before_alike b cs (Some bytes) is = ap (λ o. is_lt (ordering_then o (slice_cmp nat_cmp cs bytes))) (is_equal b) ∙ is
before_alike b cs None is = go (nat_lt b 255)
  where
    go : (t : Bool) → is_before (if t then Some ((b + 1) ∷ []) else None) (b ∷ cs) ≡ true
    go true = ap (λ o. is_lt (ordering_then o (slice_cmp nat_cmp cs []))) (is_less b)
    go false = refl

begins_there : (p k : List ℕ) → starts_with nat_eq k p ≡ true → (is_from p k ≡ true) × (is_before (prefix_end p) k ≡ true)
begins_there [] [] is = (refl, refl)
begins_there [] (c ∷ cs) is = (refl, refl)
begins_there (b ∷ bs) [] is = absurd (true≢false (sym is))
begins_there (b ∷ bs) (c ∷ cs) is =
    let parts = both_true (nat_eq b c) (starts_with nat_eq cs bs) is in
    let same : b ≡ c = (let test = parts.0 in grind (arith, nat_tests, test)) in
    let rest = begins_there bs cs parts.1 in
    subst (λ n. (is_from (b ∷ bs) (n ∷ cs) ≡ true) × (is_before (prefix_end (b ∷ bs)) (n ∷ cs) ≡ true)) same
    (ap (λ o. is_ge (ordering_then o (slice_cmp nat_cmp cs bs))) (is_equal b) ∙ rest.0, before_alike b cs (prefix_end bs) rest.1)

-- the test of a range of a dictionary
abbrev is_between : List ℕ → List ℕ → Bool
is_between p k = not (is_below p k) && searching.is_before (prefix_end p) k

not_below : (o : Ordering) → not (is_lt o) ≡ is_ge o
not_below Less = refl
not_below Equal = refl
not_below Greater = refl

same_before : (end : Option (List ℕ)) (k : List ℕ) → searching.is_before end k ≡ is_before end k
same_before None k = refl
same_before (Some bytes) k = refl

same_test : (p k : List ℕ) → is_between p k ≡ (is_from p k && is_before (prefix_end p) k)
same_test p k = ap (λ b. b && searching.is_before (prefix_end p) k) (not_below (slice_cmp nat_cmp k p)) ∙ ap (λ b. is_from p k && b) (same_before (prefix_end p) k)

begins_between : (p k : List ℕ) → starts_with nat_eq k p ≡ true → is_between p k ≡ true
begins_between p k is =
    let there = begins_there p k is in
    same_test p k ∙ ap (λ b. b && is_before (prefix_end p) k) there.0 ∙ there.1

all_small : (k : List ℕ) → ((i : ℕ) → slice_index k i < 256) → AllByRecursion (λ b. b < 256) k
all_small [] small = tt
all_small (b ∷ bs) small = (small 0, all_small bs (λ i. small (suc i)))

between_begins : (p k : List ℕ) → ((i : ℕ) → slice_index k i < 256) → is_between p k ≡ true → starts_with nat_eq k p ≡ true
between_begins p k small is = prefix_range p k (all_small k small) ∙ sym (same_test p k) ∙ is

-- ---- the first that pass one test, and those that pass another

taken_filter : {X : Type 0} (s g : X → Bool) (P : X → Type 0) → ((x : X) → s x ≡ true → g x ≡ true) → ((x : X) → P x → g x ≡ true → s x ≡ true) → (n : ℕ) (xs : List X) → AllByRecursion P (take n (filter g xs)) → take n (filter s xs) ≡ take n (filter g xs)
taken_filter s g P up down zero xs all = refl
taken_filter s g P up down (suc n) [] all = refl
taken_filter {X} s g P up down (suc n) (x ∷ xs) all = go (g x) (s x) refl refl all (λ rest. taken_filter s g P up down n xs rest) (λ rest. taken_filter s g P up down (suc n) xs rest)
  where
    go : (a b : Bool) → g x ≡ a → s x ≡ b
        → AllByRecursion P (take (suc n) (if a then x ∷ filter g xs else filter g xs))
        → (AllByRecursion P (take n (filter g xs)) → take n (filter s xs) ≡ take n (filter g xs))
        → (AllByRecursion P (take (suc n) (filter g xs)) → take (suc n) (filter s xs) ≡ take (suc n) (filter g xs))
        → take (suc n) (if b then x ∷ filter s xs else filter s xs) ≡ take (suc n) (if a then x ∷ filter g xs else filter g xs)
    go true true passes both rest later same = ap (λ ys. x ∷ ys) (later rest.1)
    go true false passes fails rest later same = absurd (true≢false (sym (down x rest.0 passes) ∙ fails))
    go false true fails passes rest later same = absurd (true≢false (sym (up x passes) ∙ fails))
    go false false fails both rest later same = same rest

-- the first terms of a range are the first that begin with the prefix
pub first_suffixes : (p : List ℕ) (n : ℕ) (terms : List Placed) → HaveBytes (take n (between p (prefix_end p) terms)) → take n (filter (λ (d : Placed). starts_with nat_eq d.0 p) terms) ≡ take n (between p (prefix_end p) terms)
first_suffixes p n terms bytes = taken_filter (λ (d : Placed). starts_with nat_eq d.0 p) (λ (d : Placed). is_between p d.0) (λ (d : Placed). (i : ℕ) → slice_index d.0 i < 256) (λ d is. begins_between p d.0 is) (λ d small is. between_begins p d.0 small is) n terms bytes

-- no more terms begin with a prefix than a dictionary has
fewer_filtered : {X : Type 0} (f : X → Bool) (xs : List X) → length (filter f xs) ≤ length xs
fewer_filtered f [] = omega arith
fewer_filtered {X} f (x ∷ xs) = go (f x) (fewer_filtered f xs)
  where
    go : (b : Bool) → length (filter f xs) ≤ length xs → length (if b then x ∷ filter f xs else filter f xs) ≤ length (x ∷ xs)
    go true rest = omega (arith, rest)
    go false rest = omega (arith, rest)

pub few_suffixes : (field own_field most : ℕ) (payload : List ℕ) (terms : List Placed) (index own : Reader) → terms ≡ dictionary_in index field → index ≡ own → field ≡ own_field → length terms ≤ most → length (filter (λ (d : Placed). starts_with nat_eq d.0 payload) (dictionary_in own own_field)) ≤ most
few_suffixes field own_field most payload terms index own own_terms lent same few =
    let fewer = fewer_filtered (λ (d : Placed). starts_with nat_eq d.0 payload) (dictionary_in own own_field) in
    let long = ap length (own_terms ∙ ap (λ i. dictionary_in i field) lent ∙ ap (dictionary_in own) same) in
    omega (arith, fewer, long, few)

-- ---- each term of a dictionary is found in it

all_less : (s : List ℕ) (ts : List Placed) → TermsAscend (s ∷ map (λ (t : Placed). t.0) ts) → AllByRecursion (λ (t : Placed). slice_cmp nat_cmp s t.0 ≡ Less) ts
all_less s [] a = tt
all_less s (t ∷ ts) a = (a.0, further ts (all_less t.0 ts a.1))
  where
    further : (us : List Placed) → AllByRecursion (λ (u : Placed). slice_cmp nat_cmp t.0 u.0 ≡ Less) us → AllByRecursion (λ (u : Placed). slice_cmp nat_cmp s u.0 ≡ Less) us
    further [] all = tt
    further (u ∷ us) all = (nat_list_cmp_total.trans s t.0 u.0 a.0 all.0, further us all.1)

ascend_behind : (t : Placed) (ts : List Placed) → TermsAscend (map (λ (u : Placed). u.0) (t ∷ ts)) → TermsAscend (map (λ (u : Placed). u.0) ts)
ascend_behind t [] a = tt
ascend_behind t (u ∷ us) a = a.1

pub all_found : (terms : List Placed) → TermsAscend (map (λ (t : Placed). t.0) terms) → AllByRecursion (λ (d : Placed). info_in d.0 terms ≡ Some d.1) terms
all_found [] a = tt
all_found (t ∷ ts) a = (ap (λ b. option_map (λ (u : Placed). u.1) (if b then Some t else find (λ (u : Placed). bytes_eq u.0 t.0) ts)) ((bytes_eq-Decides t.0 t.0).1 refl), further ts (all_less t.0 ts a) (all_found ts (ascend_behind t ts a)))
  where
    further : (us : List Placed) → AllByRecursion (λ (u : Placed). slice_cmp nat_cmp t.0 u.0 ≡ Less) us → AllByRecursion (λ (u : Placed). info_in u.0 ts ≡ Some u.1) us → AllByRecursion (λ (u : Placed). info_in u.0 (t ∷ ts) ≡ Some u.1) us
    further [] less all = tt
    further (u ∷ us) less all =
        let other : bytes_eq t.0 u.0 ≡ false = sym (is_eq-slice_cmp t.0 u.0) ∙ ap is_eq less.0 in
        (ap (λ b. option_map (λ (v : Placed). v.1) (if b then Some t else find (λ (v : Placed). bytes_eq v.0 u.0) ts)) other ∙ all.0, further us less.1 all.1)

-- ---- what is read

abbrev contents_in : (r : SegmentReader) → AreTogether (max_doc_of r) (lengths_of r) (index_of r) → Contents (index_of r)
contents_in r together = record { schema = together.schema; num_docs = max_doc_of r; norms = lengths_of r; fields = together.fields; is_reader = together.reads }

pub ascend_in : (r : SegmentReader) (field : ℕ) → TermsAscend (map (λ (t : Placed). t.0) (dictionary_in (index_of r) field))
ascend_in r field = ∥∥₁_elim (known_together r) (TermsAscend-prop (map (λ (t : Placed). t.0) (dictionary_in (index_of r) field))) (λ (together : AreTogether (max_doc_of r) (lengths_of r) (index_of r)).
    let reader = together.reads in
    let docs = reader.docs_few in
    let known = is_dictionary together.schema (max_doc_of r) (lengths_of r) together.fields (index_of r).sections reader.terms_short reader.postings_short reader.positions_short (omega (arith, docs)) reader.sections field in
    subst (λ (ts : List Placed). TermsAscend (map (λ (t : Placed). t.0) ts)) (sym (dictionary_is (index_of r) field (contents_in r together))) known.is.ascend)

pub range_held : (r : SegmentReader) (index : Reader) (field : ℕ) (p : List ℕ) (terms : List Placed) (range : Walked) → index ≡ index_of r → range ≡ ahead (between p (prefix_end p) terms) → terms ≡ dictionary_in index field → AllByRecursion (λ (d : Placed). info_in d.0 (dictionary_in index field) ≡ Some d.1) range.rest
range_held r index field p terms range lent is own =
    let all = all_found (dictionary_in (index_of r) field) (ascend_in r field) in
    subst (λ (i : Reader). AllByRecursion (λ (d : Placed). info_in d.0 (dictionary_in i field) ≡ Some d.1) range.rest) (sym lent)
    (subst (λ (ts : List Placed). AllByRecursion (λ (d : Placed). info_in d.0 (dictionary_in (index_of r) field) ≡ Some d.1) ts) (ap (λ ts. between p (prefix_end p) ts) (sym (own ∙ ap (λ i. dictionary_in i field) lent)) ∙ ap (λ (w : Walked). w.rest) (sym is))
    (all_filtered (λ (d : Placed). info_in d.0 (dictionary_in (index_of r) field) ≡ Some d.1) (λ (d : Placed). is_between p d.0) (dictionary_in (index_of r) field) all))

pub read_found : (fields : List IndexedField) (field own_field most : ℕ) (p payload : List ℕ) (terms : List Placed) (range : Walked) (index own : Reader) (es : List (List Entry)) → range ≡ ahead (between p (prefix_end p) terms) → terms ≡ dictionary_in index field → index ≡ own → field ≡ own_field → p ≡ payload → HaveBytes (take most range.rest) → es ≡ read_places fields field (take most range.rest) → es ≡ read_places fields own_field (take most (filter (λ (d : Placed). starts_with nat_eq d.0 payload) (dictionary_in own own_field)))
read_found fields field own_field most p payload terms range index own es is own_terms lent same bytes_are bytes found =
    found
    ∙ ap (λ (w : Walked). read_places fields field (take most w.rest)) is
    ∙ ap (read_places fields field) (sym (first_suffixes p most terms (subst (λ (w : Walked). HaveBytes (take most w.rest)) is bytes)))
    ∙ ap (λ ts. read_places fields field (take most (filter (λ (d : Placed). starts_with nat_eq d.0 p) ts))) (own_terms ∙ ap (λ i. dictionary_in i field) lent)
    ∙ ap (λ f. read_places fields f (take most (filter (λ (d : Placed). starts_with nat_eq d.0 p) (dictionary_in own f)))) same
    ∙ ap (λ q. read_places fields own_field (take most (filter (λ (d : Placed). starts_with nat_eq d.0 q) (dictionary_in own own_field)))) bytes_are

-- two things that are said of a result together
pub both_ok : {A E : Type 0} {P Q R : A → Type 0} (r : Result A E) → IfOk r P → IfOk r Q → ((a : A) → P a → Q a → R a) → IfOk r R
both_ok (Ok a) p q make = make a p q
both_ok (Err e) p q make = tt
