-- The lengths of a merge, by the segments that are its members.
use Rattle.std.proofs.Common.{[], Bool, List, ap, arith, drop, false, find, get_or, if◌then◌else◌, length, length-append, map, option_map, refl, subst, sym, true, true≢false, ◌==◌, ◌||◌, ◌≡◌, ◌∙◌, ◌∷◌, Some, ℕ}
use Rattle.std.proofs.lemmas.Bool.Decides.{nat_tests}
use Rattle.std.proofs.lemmas.List.{length-map}
use Rattle.std.specs.List.{AllByRecursion, items_where_true, list_any}
use Rattle.std.specs.Option.{option_map_or}
use Rattle.definitions.proofs.Lists.{or_true}
use Rattle.definitions.specs.Alive.{Segment, live}
use Rattle.definitions.specs.Analyzers.{Analyzer}
use Rattle.definitions.specs.KeptLengths.{length_fields, norms_of}
use Rattle.definitions.specs.Merging.{documents_in, num_living}
use Rattle.definitions.specs.Schema.{Schema}
use Rattle.layouts.specs.FieldNorms.{IsNorms, norms_bytes}
use Rattle.layouts.specs.InvertedIndexes.{field_ids}
use Rattle.merging.proofs.NormsOfLiving.{norms_living}
use Rattle.merging.specs.LivingNorms.{AreOf}
use Rattle.merging.specs.MergedNorms.{IsFlagged, merged_ids, merged_norms}
use Rattle.merging.specs.declared.member_norms.MemberNorms.{MemberNorms}
use Rattle.segment.proofs.Reading.{documents_lengths, documents_many, opened_lengths}
use Rattle.segment.proofs.Counts.{living_long}
use Rattle.segment.specs.Members.{AreOpened, IsMember, Member, StandFor, living_count, with_lengths}

-- members that stand for documents were opened
pub standing_opened : (schema : Schema) (analyze : Analyzer) (ms : List Member) (segments : List Segment) → StandFor schema analyze ms segments → AreOpened schema ms
standing_opened schema analyze [] [] stand = tt
standing_opened schema analyze [] (rows ∷ segments) stand = absurd stand
standing_opened schema analyze (m ∷ ms) [] stand = absurd stand
standing_opened schema analyze (m ∷ ms) (rows ∷ segments) stand =
    let flags = length-map rows (λ row. row.1) in
    let docs = length-map rows (λ row. row.0) in
    let told = ap length stand.1 in
    let many = documents_many schema analyze (documents_in rows) m.0 stand.0 in
    ((stand.0.opened, omega (arith, flags, docs, told, many)), standing_opened schema analyze ms segments stand.2)

-- ---- the fields that keep lengths

any_name : (field : ℕ) (norms : List (ℕ × List ℕ)) → list_any (λ (p : ℕ × List ℕ). p.0 == field) norms ≡ list_any (λ n. n == field) (map (λ (p : ℕ × List ℕ). p.0) norms)
any_name field [] = refl
any_name field (p ∷ norms) = ap (λ b. (p.0 == field) || b) (any_name field norms)

each_among : (whole xs : List ℕ) → ((x : ℕ) → list_any (λ n. n == x) xs ≡ true → list_any (λ n. n == x) whole ≡ true) → AllByRecursion (λ x. list_any (λ n. n == x) whole ≡ true) xs
each_among whole [] up = tt
each_among whole (x ∷ xs) up =
    let same : (x == x) ≡ true = grind (arith, nat_tests) in
    (up x (ap (λ b. b || list_any (λ n. n == x) xs) same), each_among whole xs (λ y has. up y (ap (λ b. (x == y) || b) has ∙ or_true (x == y))))

ids_long : (n field : ℕ) (norms : List (ℕ × List ℕ)) → AllByRecursion (λ (p : ℕ × List ℕ). length p.1 ≡ n) norms → list_any (λ (p : ℕ × List ℕ). p.0 == field) norms ≡ true → length (field_ids norms field) ≡ n
ids_long n field [] each among = absurd (true≢false (sym among))
ids_long n field (p ∷ norms) each among = go (p.0 == field) among (ids_long n field norms each.1)
  where
    go : (b : Bool) → (b || list_any (λ (q : ℕ × List ℕ). q.0 == field) norms) ≡ true → (list_any (λ (q : ℕ × List ℕ). q.0 == field) norms ≡ true → length (field_ids norms field) ≡ n) → length (option_map_or (λ ids. ids) (option_map (λ (q : ℕ × List ℕ). q.1) (if b then Some p else find (λ (q : ℕ × List ℕ). q.0 == field) norms)) []) ≡ n
    go true a rest = each.0
    go false a rest = rest a

-- ---- member by member

abbrev view : MemberNorms → List (ℕ × List ℕ) × List Bool
view n = (n.norms, n.alive.now)

abbrev AreSame : List MemberNorms → List Member → Type 0
AreSame ns ms = map view ns ≡ map with_lengths ms

first_same : (n : MemberNorms) (ns : List MemberNorms) (m : Member) (ms : List Member) → AreSame (n ∷ ns) (m ∷ ms) → view n ≡ with_lengths m
first_same n ns m ms same = ap (λ vs. get_or vs 0 (with_lengths m)) same

-- each has as many ids of a field as it has flags
abbrev IsLong : List (ℕ × List ℕ) × List Bool → Type 0
IsLong v = AllByRecursion (λ (p : ℕ × List ℕ). length p.1 ≡ length v.1) v.0

member_long : (schema : Schema) (m : Member) → IsMember schema m → IsLong (with_lengths m)
member_long schema m is = subst (λ norms. AllByRecursion (λ (p : ℕ × List ℕ). length p.1 ≡ length m.1) norms) (sym (opened_lengths schema m.0 is.0)) (subst (λ k. AllByRecursion (λ (p : ℕ × List ℕ). length p.1 ≡ k) is.0.norms) (sym is.1) is.0.norms_are.counts)

pub norms_flagged : (schema : Schema) (ns : List MemberNorms) (ms : List Member) → AreSame ns ms → AreOpened schema ms → AllByRecursion IsFlagged ns
norms_flagged schema [] ms same opened = tt
norms_flagged schema (n ∷ ns) [] same opened = absurd (let long = ap length same in omega (arith, long))
norms_flagged schema (n ∷ ns) (m ∷ ms) same opened = (subst IsLong (sym (first_same n ns m ms same)) (member_long schema m opened.0), norms_flagged schema ns ms (ap (drop 1) same) opened.1)

ids_counted : (schema : Schema) (field : ℕ) (ns : List MemberNorms) (ms : List Member) → list_any (λ n. n == field) (length_fields schema) ≡ true → AreSame ns ms → AreOpened schema ms → length (merged_ids field ns) ≡ living_count ms
ids_counted schema field [] [] among same opened = refl
ids_counted schema field [] (m ∷ ms) among same opened = absurd (let long = ap length same in omega (arith, long))
ids_counted schema field (n ∷ ns) [] among same opened = absurd (let long = ap length same in omega (arith, long))
ids_counted schema field (n ∷ ns) (m ∷ ms) among same opened =
    let one = first_same n ns m ms same in
    let flagged : IsLong (view n) = subst IsLong (sym one) (member_long schema m opened.0) in
    let names : map (λ (p : ℕ × List ℕ). p.0) n.norms ≡ length_fields schema = ap (λ v. map (λ (p : ℕ × List ℕ). p.0) v.0) one ∙ ap (map (λ (p : ℕ × List ℕ). p.0)) (opened_lengths schema m.0 opened.0.0) ∙ opened.0.0.norms_are.names in
    let has : list_any (λ (p : ℕ × List ℕ). p.0 == field) n.norms ≡ true = any_name field n.norms ∙ ap (list_any (λ k. k == field)) names ∙ among in
    let here = living_long n.alive.now (field_ids n.norms field) (ids_long (length n.alive.now) field n.norms flagged has) in
    let flags = ap (λ v. num_living v.1) one in
    let later = ids_counted schema field ns ms among (ap (drop 1) same) opened.1 in
    let whole = length-append (items_where_true n.alive.now (field_ids n.norms field)) (merged_ids field ns) in
    omega (arith, here, flags, later, whole)

-- ---- all fields

field_names : (fields : List ℕ) (ns : List MemberNorms) → map (λ (p : ℕ × List ℕ). p.0) (merged_norms fields ns) ≡ fields
field_names [] ns = refl
field_names (field ∷ fields) ns = ap (λ fs. field ∷ fs) (field_names fields ns)

fields_counted : (schema : Schema) (fields : List ℕ) (ns : List MemberNorms) (ms : List Member) → AllByRecursion (λ field. list_any (λ n. n == field) (length_fields schema) ≡ true) fields → AreSame ns ms → AreOpened schema ms → AllByRecursion (λ (p : ℕ × List ℕ). length p.1 ≡ living_count ms) (merged_norms fields ns)
fields_counted schema [] ns ms among same opened = tt
fields_counted schema (field ∷ fields) ns ms among same opened = (ids_counted schema field ns ms among.0 same opened, fields_counted schema fields ns ms among.1 same opened)

pub norms_written : (schema : Schema) (fields bytes : List ℕ) (ns : List MemberNorms) (ms : List Member) → fields ≡ length_fields schema → AreSame ns ms → AreOpened schema ms → bytes ≡ norms_bytes (merged_norms fields ns) → IsNorms (length_fields schema) (living_count ms) bytes (merged_norms fields ns)
norms_written schema fields bytes ns ms named same opened whole = record {
  names = field_names fields ns ∙ named;
  counts = fields_counted schema fields ns ms (subst (AllByRecursion (λ field. list_any (λ n. n == field) (length_fields schema) ≡ true)) (sym named) (each_among (length_fields schema) (length_fields schema) (λ x has. has))) same opened;
  spelled = whole;
}

-- ---- of documents

are_of : (schema : Schema) (analyze : Analyzer) (ns : List MemberNorms) (ms : List Member) (segments : List Segment) → AreSame ns ms → StandFor schema analyze ms segments → AreOf schema analyze ns segments
are_of schema analyze [] [] [] same stand = tt
are_of schema analyze [] [] (rows ∷ segments) same stand = absurd stand
are_of schema analyze [] (m ∷ ms) segments same stand = absurd (let long = ap length same in omega (arith, long))
are_of schema analyze (n ∷ ns) [] segments same stand = absurd (let long = ap length same in omega (arith, long))
are_of schema analyze (n ∷ ns) (m ∷ ms) [] same stand = absurd stand
are_of schema analyze (n ∷ ns) (m ∷ ms) (rows ∷ segments) same stand =
    let one = first_same n ns m ms same in
    (ap (λ v. v.0) one ∙ documents_lengths schema analyze (documents_in rows) m.0 stand.0, ap (λ v. v.1) one ∙ stand.1, are_of schema analyze ns ms segments (ap (drop 1) same) stand.2)

pub norms_standing : (schema : Schema) (analyze : Analyzer) (fields bytes : List ℕ) (ns : List MemberNorms) (ms : List Member) (segments : List Segment) → fields ≡ length_fields schema → AreSame ns ms → StandFor schema analyze ms segments → bytes ≡ norms_bytes (merged_norms fields ns) → IsNorms (length_fields schema) (living_count ms) bytes (norms_of schema analyze (live segments))
norms_standing schema analyze fields bytes ns ms segments named same stand whole =
    subst (IsNorms (length_fields schema) (living_count ms) bytes)
    (ap (λ fs. merged_norms fs ns) named ∙ norms_living schema analyze ns segments (are_of schema analyze ns ms segments same stand))
    (norms_written schema fields bytes ns ms named same (standing_opened schema analyze ms segments stand) whole)
