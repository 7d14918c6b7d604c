-- Members, taken one after the other.
use Rattle.std.proofs.Common.{[], IfSome, IsSome, None, Option, Some, ◌+◌, ◌++◌, ◌<◌, ◌∙◌, ◌∷◌, ◌≡◌, ◌≢◌, Bool, List, append_assoc, append-nil, ap, arith, drop, get_or, length, map, refl, subst, suc, sym, ℕ}
use Rattle.std.proofs.Math.Seq.{drop-cons}
use Rattle.std.specs.Option.{option_to_list}
use Rattle.std.specs.List.{AllByRecursion, AllZip}
use Rattle.definitions.specs.Schema.{Schema}
use Rattle.segment.specs.Opened.{IsOpened, bytes_of, num_docs_of}
use Rattle.segment.specs.declared.segment.Segment.{Segment}
use Rattle.segment_definitions.specs.ListBodies.{IsMember, IsOfPart, Member, Part, fresh, kept}
use Rattle.segment_definitions.specs.Segments.{IsSegment}
use Rattle.index_file.specs.Lists.{AreNext, IsListed, IsNext, member_of}
use Rattle.index_file.specs.declared.member.Member as code
use Rattle.index_file.proofs.OpenedSegments.{one_number, opened_few, opened_is}
use Rattle.segment_definitions.proofs.OneList.{one_segment}

-- These members stand so far, and parts and flags are left: what follows makes the whole, and any whole has these in front.
pub record AreSoFar (schema : Schema) (before : List Member) (parts : List Part) (sets : List (List Bool)) (parts_left : List Part) (sets_left : List (List Bool)) (members : List Member) : Type 0 where
  pub adds : (rest : List Member) → AreNext schema before parts_left sets_left rest → AreNext schema before parts sets (members ++ rest)
  pub ends : (after : List Member) → AreNext schema before parts sets after → (rest : List Member) × AreNext schema before parts_left sets_left rest

-- the first of what is left
next_first : (schema : Schema) (before : List Member) (part : Part) (parts : List Part) (flags : List Bool) (sets : List (List Bool)) (rest : List Member) → AreNext schema before (part ∷ parts) (flags ∷ sets) rest
    → (m : Member) × (more : List Member) × IsNext schema before part flags m × AreNext schema before parts sets more
next_first schema before part parts flags sets [] are = absurd are
next_first schema before part parts flags sets (m ∷ more) are = (m, more, are.0, are.1)

pub one_more : (schema : Schema) (before : List Member) (parts : List Part) (sets : List (List Bool)) (part : Part) (parts_left : List Part) (flags : List Bool) (sets_left : List (List Bool)) (members : List Member) (m : Member)
    → AreSoFar schema before parts sets (part ∷ parts_left) (flags ∷ sets_left) members → IsNext schema before part flags m → AreSoFar schema before parts sets parts_left sets_left (members ++ m ∷ [])
one_more schema before parts sets part parts_left flags sets_left members m are next = record {
  adds = λ rest more. subst (AreNext schema before parts sets) (sym (append_assoc members (m ∷ []) rest)) (are.adds (m ∷ rest) (next, more));
  ends = λ after all. (let rest = are.ends after all in let first = next_first schema before part parts_left flags sets_left rest.0 rest.1 in (first.1, first.3));
}

-- no part is left
pub all_so_far : (schema : Schema) (before : List Member) (parts : List Part) (sets : List (List Bool)) (members : List Member) → AreSoFar schema before parts sets [] [] members → AreNext schema before parts sets members
all_so_far schema before parts sets members are = subst (AreNext schema before parts sets) (append-nil members) (are.adds [] tt)

-- the next part has no member with its flags, so that there is no list
pub none_next : (schema : Schema) (before : List Member) (parts : List Part) (sets : List (List Bool)) (part : Part) (parts_left : List Part) (flags : List Bool) (sets_left : List (List Bool)) (members after : List Member)
    → AreSoFar schema before parts sets (part ∷ parts_left) (flags ∷ sets_left) members → ((m : Member) → ¬ IsNext schema before part flags m) → ¬ AreNext schema before parts sets after
none_next schema before parts sets part parts_left flags sets_left members after are none all =
    let rest = are.ends after all in
    let first = next_first schema before part parts_left flags sets_left rest.0 rest.1 in
    none first.0 first.2

-- ---- members and what a body says

pub next_parts : (schema : Schema) (before : List Member) (parts : List Part) (sets : List (List Bool)) (after : List Member) → AreNext schema before parts sets after
    → AllZip (IsOfPart before) parts after × AllByRecursion (IsMember (IsSegment schema)) after × (sets ≡ map (λ m. m.1) after)
next_parts schema before [] [] [] are = (tt, tt, refl)
next_parts schema before [] [] (m ∷ ms) are = absurd are
next_parts schema before [] (flags ∷ sets) ms are = absurd are
next_parts schema before (part ∷ parts) [] ms are = absurd are
next_parts schema before (part ∷ parts) (flags ∷ sets) [] are = absurd are
next_parts schema before (part ∷ parts) (flags ∷ sets) (m ∷ ms) are =
    let rest = next_parts schema before parts sets ms are.1 in
    let same : flags ∷ sets ≡ m.1 ∷ map (λ n. n.1) ms = ap (λ fs. fs ∷ sets) (sym are.0.flags_are) ∙ ap (λ more. m.1 ∷ more) rest.2 in
    ((are.0.of_part, rest.0), (are.0.member, rest.1), same)

pub parts_next : (schema : Schema) (before : List Member) (parts : List Part) (after : List Member) → AllZip (IsOfPart before) parts after → AllByRecursion (IsMember (IsSegment schema)) after
    → AreNext schema before parts (map (λ m. m.1) after) after
parts_next schema before [] [] are all = tt
parts_next schema before [] (m ∷ ms) are all = absurd are
parts_next schema before (part ∷ parts) [] are all = absurd are
parts_next schema before (part ∷ parts) (m ∷ ms) are all = (record { of_part = are.0; flags_are = refl; member = all.0 }, parts_next schema before parts ms are.1 all.1)

-- ---- the next member

pub here_left : {X Y : Type 0} (f : X → Y) (xs : List X) (i : ℕ) (d : X) → i < length xs → map f (drop i xs) ≡ f (get_or xs i d) ∷ map f (drop (i + 1) xs)
here_left f xs i d inside =
    let next : suc i ≡ i + 1 = omega arith in
    ap (map f) (drop-cons xs i d inside) ∙ ap (λ n. f (get_or xs i d) ∷ map f (drop n xs)) next

-- the flags of a member don't say of which part it is
same_part : (before : List Member) (part : Part) (bytes : List ℕ) (flags others : List Bool) → IsOfPart before part (bytes, flags) → IsOfPart before part (bytes, others)
same_part before (kept index) bytes flags others is = is
same_part before (fresh segment) bytes flags others is = is

pub next_member : (schema : Schema) (before : List Member) (part : Part) (segment : Segment) (m : code.Member) → IsOpened schema segment → IsOfPart before part (bytes_of segment, []) → m.segment ≡ segment → length m.alive ≡ num_docs_of segment
    → IsNext schema before part m.alive (member_of m) × IsListed schema m
next_member schema before part segment m opened of_part same flagged =
    let own : IsOpened schema m.segment = subst (IsOpened schema) (sym same) opened in
    let many : length m.alive ≡ num_docs_of m.segment = flagged ∙ ap num_docs_of (sym same) in
    let few = opened_few schema m.segment own in (
      record {
        of_part = subst (λ s. IsOfPart before part (bytes_of s, m.alive)) (sym same) (same_part before part (bytes_of segment) [] m.alive of_part);
        flags_are = refl;
        member = (subst (λ n. IsSegment schema n (bytes_of m.segment)) (sym many) (opened_is schema m.segment own), omega (arith, many, few));
      },
      record { opened = own; flagged = many },
    )

-- no member has flags of another length than its segment has documents
pub no_member : (schema : Schema) (before : List Member) (part : Part) (segment : Segment) (flags : List Bool) → IsOpened schema segment → IsOfPart before part (bytes_of segment, []) → length flags ≢ num_docs_of segment → (m : Member) → ¬ IsNext schema before part flags m
no_member schema before part segment flags opened of_part other m next =
    let same : m.0 ≡ bytes_of segment = one_segment before part m (bytes_of segment, []) next.of_part of_part in
    let theirs : IsSegment schema (length m.1) (bytes_of segment) = subst (IsSegment schema (length m.1)) same next.member.0 in
    other (ap length (sym next.flags_are) ∙ one_number schema (length m.1) (num_docs_of segment) (bytes_of segment) theirs (opened_is schema segment opened))

-- where the next part has no segment there is no list
pub none_taken : (schema : Schema) (before : List Member) (parts : List Part) (sets : List (List Bool)) (part : Part) (parts_left : List Part) (sets_left : List (List Bool)) (members after : List Member)
    → AreSoFar schema before parts sets (part ∷ parts_left) sets_left members → 0 < length sets_left → ((m : Member) → IsOfPart before part m → ¬ IsMember (IsSegment schema) m) → ¬ AreNext schema before parts sets after
none_taken schema before parts sets part parts_left [] members after are some none all = omega (arith, some)
none_taken schema before parts sets part parts_left (flags ∷ sets_left) members after are some none all =
    none_next schema before parts sets part parts_left flags sets_left members after are (λ m next. none m next.of_part next.member) all

-- nor where its flags are of another length
pub none_flagged : (schema : Schema) (before : List Member) (parts : List Part) (sets : List (List Bool)) (part : Part) (parts_left : List Part) (sets_left more : List (List Bool)) (popped : Option (List Bool)) (members after : List Member) (segment : Segment)
    → AreSoFar schema before parts sets (part ∷ parts_left) sets_left members → sets_left ≡ option_to_list popped ++ more → IsSome popped → IsOpened schema segment → IsOfPart before part (bytes_of segment, []) → IfSome popped (λ flags. length flags ≢ num_docs_of segment)
    → ¬ AreNext schema before parts sets after
none_flagged schema before parts sets part parts_left sets_left more None members after segment are is some opened of_part other all = cc
none_flagged schema before parts sets part parts_left sets_left more (Some flags) members after segment are is some opened of_part other all =
    none_next schema before parts sets part parts_left flags more members after (subst (λ left. AreSoFar schema before parts sets (part ∷ parts_left) left members) is are) (no_member schema before part segment flags opened of_part other) all

-- no part is left, and no flags
pub all_left : (schema : Schema) (before : List Member) (parts : List Part) (sets : List (List Bool)) (parts_left : List Part) (sets_left : List (List Bool)) (members : List Member)
    → AreSoFar schema before parts sets parts_left sets_left members → parts_left ≡ [] → length sets_left ≡ 0 → AreNext schema before parts sets members
all_left schema before parts sets parts_left [] members are none few = all_so_far schema before parts sets members (subst (λ ps. AreSoFar schema before parts sets ps [] members) none are)
all_left schema before parts sets parts_left (flags ∷ sets_left) members are none few = absurd (omega (arith, few))
