-- The segments of parts, taken out of a body and of the list before it.
use Rattle.std.proofs.Common.{[], ◌&&◌, ◌++◌, ◌+◌, ◌-◌, ◌<◌, ◌≤◌, ◌∙◌, ◌∷◌, ◌≡◌, Err, IfOk, List, Ok, OnOk, Result, Some, ap, append_assoc, arith, drop, flat_map, length, map, nat_le, nat_lt, option_map, refl, slice_get, subst, suc, sym, take, true, zero, ℕ}
use Rattle.std.specs.List.{AllByRecursion}
use Rattle.std.proofs.lemmas.List.{drop-drop, take_at}
use Rattle.std.proofs.lemmas.Bool.Decides.{nat_tests}
use Rattle.std.proofs.lemmas.Option.{slice_get-map}
use Rattle.definitions.proofs.Lists.{both_true}
use Rattle.segment.specs.Opened.{bytes_of}
use Rattle.segment.specs.declared.segment.Segment.{Segment}
use Rattle.index_file.specs.Places.{places_rise}
use Rattle.segment_definitions.specs.ListBodies.{IsOfPart, Part, fresh, kept, part_bytes}
use Rattle.index_file.specs.Lists.{IsListed, member_of}
use Rattle.index_file.specs.Reading.{IsLeft}
use Rattle.index_file.specs.declared.member.Member as code
use Rattle.index_file.specs.declared.segment_opener.Opener.{Opener}
use Rattle.index_file.specs.declared.part_reader.PartReader.{PartReader}

-- what stands at an index begins what is left from there on
pub dropped_here : {X : Type 0} (xs : List X) (n : ℕ) (x : X) (rest : List X) → drop n xs ≡ x ∷ rest → (slice_get xs n ≡ Some x) × (drop (suc n) xs ≡ rest)
dropped_here [] zero x rest is = cc
dropped_here [] (suc n) x rest is = cc
dropped_here {X} (y ∷ ys) zero x rest is =
    let first : y ≡ x = cc in
    let others : ys ≡ rest = cc in
    (ap Some first, others)
dropped_here (y ∷ ys) (suc n) x rest is = dropped_here ys n x rest is

-- the one that is taken behind those that are skipped stands at its index
pub taken_at : {X : Type 0} (all before left : List X) (passed index : ℕ) (m : X) → drop passed all ≡ before → passed ≤ index → drop (index - passed) before ≡ m ∷ left
    → (slice_get all index ≡ Some m) × (drop (index + 1) all ≡ left)
taken_at all before left passed index m was from is =
    let there : passed + (index - passed) ≡ index = omega (arith, from) in
    let next : suc index ≡ index + 1 = omega arith in
    let whole : drop index all ≡ m ∷ left = ap (λ n. drop n all) (sym there) ∙ sym (drop-drop (index - passed) passed all) ∙ ap (drop (index - passed)) was ∙ is in
    let here = dropped_here all index m left whole in
    (here.0, ap (λ n. drop n all) (sym next) ∙ here.1)

-- an index that follows stands behind those that are passed, inside the list, and the others follow it
pub kept_follows : (least len index : ℕ) (parts : List Part) → places_rise least len (kept index ∷ parts) ≡ true → (least ≤ index) × (index < len) × (places_rise (index + 1) len parts ≡ true)
kept_follows least len index parts rise =
    let here = both_true (nat_le least index && nat_lt index len) (places_rise (index + 1) len parts) rise in
    let tests = both_true (nat_le least index) (nat_lt index len) here.0 in
    ((let t = tests.0 in grind (arith, nat_tests)), (let t = tests.1 in grind (arith, nat_tests)), here.1)

pub if_ok_on : {T E : Type 0} (r : Result T E) (P : T → Type 0) (Q : Type 0) → ((x : T) → P x → Q) → IfOk r P → OnOk r Q
if_ok_on (Ok x) P Q f holds = f x holds
if_ok_on (Err e) P Q f holds = tt

pub kept_part : (all : List code.Member) (index : ℕ) (m : code.Member) (segment : Segment) → slice_get all index ≡ Some m → m.segment ≡ segment → IsOfPart (map member_of all) (kept index) (bytes_of segment, [])
kept_part all index m segment is same =
    (m.alive, slice_get-map member_of all index ∙ ap (option_map member_of) is ∙ ap (λ s. Some (bytes_of s, m.alive)) same)

-- a new segment stands behind its code and its length
pub fresh_taken : (segment : List ℕ) (parts : List Part) (more bytes : List ℕ) → bytes ≡ flat_map part_bytes (fresh segment ∷ parts) ++ more → take (length segment) (drop 9 bytes) ≡ segment
fresh_taken segment parts more bytes is =
    ap (λ bs. take (length segment) (drop 9 bs)) is ∙ ap (take (length segment)) (append_assoc segment (flat_map part_bytes parts) more) ∙ take_at segment (flat_map part_bytes parts ++ more) (length segment) refl

-- what is left behind a part that is kept
pub kept_left : (all : List code.Member) (parts : List Part) (more : List ℕ) (index : ℕ) (m : code.Member) (old new : PartReader) → IsLeft all (kept index ∷ parts) more old
    → drop (index - old.passed) old.before.items ≡ m ∷ new.before.items → new.passed ≡ index + 1 → new.bytes ≡ drop 5 old.bytes → new.opener ≡ old.opener → IsLeft all parts more new
kept_left all parts more index m old new is found passed bytes opener =
    let follows = kept_follows old.passed (length all) index parts is.rise in
    record {
      listed = subst (λ (o : Opener). AllByRecursion (IsListed o.schema.now) all) (sym opener) is.listed;
      before = ap (λ n. drop n all) passed ∙ (taken_at all old.before.items new.before.items old.passed index m is.before follows.0 found).1;
      rise = subst (λ n. places_rise n (length all) parts ≡ true) (sym passed) follows.2;
      bytes = bytes ∙ ap (drop 5) is.bytes;
    }
