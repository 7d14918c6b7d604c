-- What a reader of a file knows between two of its records.
use Rattle.std.proofs.Common.{[], ◌++◌, ◌-◌, ◌<◌, ◌≤◌, ◌^◌, ◌∙◌, ◌∷◌, ◌≡◌, ◌≢◌, ◌⊎◌, List, None, Some, ap, arith, drop, get_or, inl, inr, length, length-append, refl, subst, sym, true, ℕ}
use Rattle.std.specs.List.{AllZip, last_or}
use Rattle.std.proofs.lemmas.List.{length-drop}
use Rattle.definitions.proofs.Lists.{some_same as some_is}
use Rattle.definitions.specs.Analyzers.{Analyzer}
use Rattle.definitions.specs.Schema.{Schema}
use Rattle.definitions.specs.Settings.{Settings}
use Rattle.definitions.specs.Values.{Document}
use Rattle.definitions.specs.declared.fault.Fault.{Fault}
use Rattle.definitions.specs.declared.fault.Fault.TheVariants as faults
use Rattle.layouts.specs.RecordBodies.{first_in}
use Rattle.layouts.specs.RecordFiles.{HasRecord, IsDamaged, sized_body}
use Rattle.index_file.proofs.Scanned.{IsScanned, scan_breaks, scan_ends, scan_goes_on, scan_starts}
use Rattle.index_file.specs.Outcomes.{IsRefusal}
use Rattle.segment_definitions.specs.ListBodies.{Makes, Member}
use Rattle.segment_definitions.specs.IndexFiles.{AreMade, IsGroup, LeavesGroups, TakesSegments}
use Rattle.segment_definitions.specs.Segments.{IsSegment}
use Rattle.segment_definitions.proofs.OneList.{bodies_taken, one_list, same_lists, some_same}
use Rattle.index_file.specs.Lists.{LeavesList}
use Rattle.index_file.specs.Reading.{HasFirst, HasList, IsReadUpTo}

not_none : {X : Type 0} (x : X) → Some x ≡ None → ⊥
not_none x e = cc

-- ---- one list more

made_more : (is_segment : ℕ → List ℕ → Type 0) (before : List Member) (bodies : List (List ℕ)) (lists : List (List Member)) (body : List ℕ) (last after : List Member)
    → AreMade is_segment before bodies lists → last_or (Some before) lists ≡ Some last → Makes is_segment last after body → AreMade is_segment before (bodies ++ body ∷ []) (lists ++ after ∷ [])
made_more is_segment before [] [] body last after are is makes =
    let same : before ≡ last = cc in
    (subst (λ ms. Makes is_segment ms after body) (sym same) makes, tt)
made_more is_segment before [] (list ∷ lists) body last after are is makes = absurd are
made_more is_segment before (b ∷ bodies) [] body last after are is makes = absurd are
made_more is_segment before (b ∷ bodies) (list ∷ lists) body last after are is makes = (are.0, made_more is_segment list bodies lists body last after are.1 is makes)

last_more : (o : List Member) (lists : List (List Member)) (after : List Member) → last_or (Some o) (lists ++ after ∷ []) ≡ Some after
last_more o [] after = refl
last_more o (list ∷ lists) after = last_more list lists after

-- a body that may follow makes a list of the last one
made_last : (is_segment : ℕ → List ℕ → Type 0) (before : List Member) (bodies : List (List ℕ)) (lists all : List (List Member)) (body : List ℕ) (last : List Member)
    → AreMade is_segment before bodies lists → last_or (Some before) lists ≡ Some last → AreMade is_segment before (bodies ++ body ∷ []) all → (after : List Member) × Makes is_segment last after body
made_last is_segment before [] [] [] body last are is all = absurd all
made_last is_segment before [] [] (list ∷ lists) body last are is all =
    let same : before ≡ last = cc in
    (list, subst (λ ms. Makes is_segment ms list body) same all.0)
made_last is_segment before [] (list ∷ lists) all body last are is also = absurd are
made_last is_segment before (b ∷ bodies) [] all body last are is also = absurd are
made_last is_segment before (b ∷ bodies) (list ∷ lists) [] body last are is also = absurd also
made_last is_segment before (b ∷ bodies) (list ∷ lists) (other ∷ others) body last are is also =
    let same : list ≡ other = one_list is_segment before list other b are.0 also.0 in
    made_last is_segment list bodies lists others body last are.1 is (subst (λ ms. AreMade is_segment ms (bodies ++ body ∷ []) others) (sym same) also.1)

-- ---- the records

scanned : (schema : Schema) (settings : Settings) (bytes rest : List ℕ) (members : List Member) (read : IsReadUpTo schema settings bytes rest members) → IsScanned TakesSegments bytes (read.first ∷ read.bodies) rest
scanned schema settings bytes rest members read = record {
  whole = read.bytes_are;
  short = read.short;
  taken = bodies_taken read.first read.bodies (schema, settings, read.lists, read.made, read.follow);
  next = read.next;
  index = read.index;
}

-- likewise of bodies that were scanned
scanned_so : (schema : Schema) (settings : Settings) (bytes rest : List ℕ) (first : List ℕ) (bodies : List (List ℕ)) (lists : List (List Member)) (members : List Member) → IsScanned TakesSegments bytes (first ∷ bodies) rest
    → first_in first ≡ Some (schema, settings) → AreMade (IsSegment schema) [] bodies lists → last_or (Some []) lists ≡ Some members → IsReadUpTo schema settings bytes rest members
scanned_so schema settings bytes rest first bodies lists members are made follow last = record { first = first; bodies = bodies; lists = lists; index = are.index; bytes_are = are.whole; short = are.short; next = are.next; made = made; follow = follow; last = last }

-- the first record
pub read_first : (schema : Schema) (settings : Settings) (bytes rest : List ℕ) → 10 ≤ length bytes → get_or bytes 0 0 ≡ 165 → HasFirst (schema, settings) bytes rest → IsReadUpTo schema settings bytes rest []
read_first schema settings bytes rest long open_gate has =
    scanned_so schema settings bytes rest has.body [] [] [] (scan_goes_on TakesSegments bytes [] (has.body ∷ []) bytes has.body rest true (scan_starts TakesSegments bytes [] refl long open_gate) open_gate has.short has.bytes_are has.more (λ it. taken, λ takes. refl) refl refl) has.says tt refl
  where
    taken : TakesSegments [] has.body
    taken = (schema, settings, [], has.says, tt)

-- one record more
pub read_more : (schema : Schema) (settings : Settings) (bytes rest after : List ℕ) (members next : List Member) → IsReadUpTo schema settings bytes rest members → get_or rest 0 0 ≡ 165 → HasList schema members next rest after → IsReadUpTo schema settings bytes after next
read_more schema settings bytes rest after members next read open_gate has =
    let more = made_more (IsSegment schema) [] read.bodies read.lists has.body members next read.follow read.last has.makes in
    let taken : TakesSegments (read.first ∷ read.bodies) has.body = (schema, settings, read.lists ++ next ∷ [], read.made, more) in
    scanned_so schema settings bytes after read.first (read.bodies ++ has.body ∷ []) (read.lists ++ next ∷ []) next
    (scan_goes_on TakesSegments bytes (read.first ∷ read.bodies) (read.first ∷ (read.bodies ++ has.body ∷ [])) rest has.body after true (scanned schema settings bytes rest members read) open_gate has.short has.bytes_are has.more (λ it. taken, λ takes. refl) refl refl) read.made more (last_more [] read.lists next)

-- at a closed gate the file ends
pub read_all : (schema : Schema) (settings : Settings) (bytes rest : List ℕ) (members : List Member) → IsReadUpTo schema settings bytes rest members → get_or rest 0 0 ≢ 165 → LeavesList schema settings bytes (length bytes - length rest) members
read_all schema settings bytes rest members read closed = record {
  first = read.first;
  bodies = read.bodies;
  lists = read.lists;
  ends = scan_ends TakesSegments bytes (read.first ∷ read.bodies) rest (scanned schema settings bytes rest members read) closed;
  made = read.made;
  follow = read.follow;
  last = read.last;
}

-- and where no record may follow it is damaged there
pub read_breaks : (schema : Schema) (settings : Settings) (bytes rest : List ℕ) (members : List Member) → IsReadUpTo schema settings bytes rest members → get_or rest 0 0 ≡ 165
    → ((body : List ℕ) (gate : ℕ) (more : List ℕ) (after : List Member) → length body < 2 ^ 64 → drop 1 rest ≡ sized_body body ++ gate ∷ more → ¬ Makes (IsSegment schema) members after body)
    → IsDamaged TakesSegments bytes (length bytes - length rest)
read_breaks schema settings bytes rest members read open_gate none = scan_breaks TakesSegments bytes (read.first ∷ read.bodies) rest (scanned schema settings bytes rest members read) open_gate broken
  where
    broken : ¬ HasRecord TakesSegments (read.first ∷ read.bodies) (drop 1 rest)
    broken has =
        let (other, its, lists, made, follow) = has.taken in
        let same : (schema, settings) ≡ (other, its) = some_same (first_in read.first) (schema, settings) (other, its) read.made made in
        let theirs : AreMade (IsSegment schema) [] (read.bodies ++ has.body ∷ []) lists = subst (λ (s : Schema). AreMade (IsSegment s) [] (read.bodies ++ has.body ∷ []) lists) (sym (ap (λ (p : Schema × Settings). p.0) same)) follow in
        let makes = made_last (IsSegment schema) [] read.bodies read.lists lists has.body members read.follow read.last theirs in
        none has.body has.gate has.rest makes.0 has.short has.bytes_are makes.1

-- where there is no first record it is damaged at its begin
pub first_breaks : (bytes : List ℕ) → 10 ≤ length bytes → get_or bytes 0 0 ≡ 165
    → ((body : List ℕ) (gate : ℕ) (more : List ℕ) → length body < 2 ^ 64 → drop 1 bytes ≡ sized_body body ++ gate ∷ more → first_in body ≡ None)
    → IsDamaged TakesSegments bytes 0
first_breaks bytes long open_gate none = subst (IsDamaged TakesSegments bytes) (nat_self (length bytes)) (scan_breaks TakesSegments bytes [] bytes (scan_starts TakesSegments bytes [] refl long open_gate) open_gate broken)
  where
    nat_self : (n : ℕ) → n - n ≡ 0
    nat_self n = omega arith

    broken : ¬ HasRecord TakesSegments [] (drop 1 bytes)
    broken has =
        let (schema, settings, lists, made, follow) = has.taken in
        not_none (schema, settings) (sym made ∙ none has.body has.gate has.rest has.short has.bytes_are)

-- ---- refusals

pub refused_at : (fault result : Fault) (offset : ℕ) (P : ℕ → Type 0) → ((fault ≡ faults.OutOfMemory) × (result ≡ faults.OutOfMemory)) ⊎ ((fault ≢ faults.OutOfMemory) × (result ≡ faults.Damaged (Some offset))) → (fault ≢ faults.OutOfMemory → P offset)
    → (result ≡ faults.OutOfMemory) ⊎ ((x : ℕ) × (result ≡ faults.Damaged (Some x)) × P x)
refused_at fault result offset P (inl both) f = inl both.1
refused_at fault result offset P (inr both) f = inr (offset, both.1, f both.0)

pub refusal_of : (takes : List (List ℕ) → List ℕ → Type 0) (bytes : List ℕ) (fault : Fault) → (fault ≡ faults.OutOfMemory) ⊎ ((x : ℕ) × (fault ≡ faults.Damaged (Some x)) × IsDamaged takes bytes x) → (fault ≡ faults.OutOfMemory) ⊎ IsRefusal takes bytes fault
refusal_of takes bytes fault (inl memory) = inl memory
refusal_of takes bytes fault (inr damaged) = inr (inr damaged)

-- what is damaged of each such file is so of this one
pub damage_here : (fault : Fault) (P Q : ℕ → Type 0) → ((x : ℕ) → P x → Q x) → (fault ≡ faults.OutOfMemory) ⊎ ((x : ℕ) × (fault ≡ faults.Damaged (Some x)) × P x) → (fault ≡ faults.OutOfMemory) ⊎ ((x : ℕ) × (fault ≡ faults.Damaged (Some x)) × Q x)
damage_here fault P Q f (inl memory) = inl memory
damage_here fault P Q f (inr (x, is, holds)) = inr (x, is, f x holds)

-- what is left behind a record is less than before
pub shorter : (schema : Schema) (before after : List Member) (bytes rest : List ℕ) → HasList schema before after bytes rest → length rest < length bytes
shorter schema before after bytes rest has =
    omega (arith, ap length has.bytes_are, length-append (sized_body has.body) rest, length-drop 1 bytes, has.more)

-- ---- the groups of a file

last_zip : {X Y : Type 0} (R : X → Y → Type 0) (x a : X) (y b : Y) (xs : List X) (ys : List Y) → R x y → AllZip R xs ys → last_or (Some x) xs ≡ Some a → last_or (Some y) ys ≡ Some b → R a b
last_zip R x a y b [] [] here are last other = subst (λ p. R p b) (some_is x a last) (subst (R x) (some_is y b other) here)
last_zip R x a y b [] (z ∷ zs) here are last other = absurd are
last_zip R x a y b (w ∷ ws) [] here are last other = absurd are
last_zip R x a y b (w ∷ ws) (z ∷ zs) here are last other = last_zip R w a z b ws zs are.0 are.1 last other

-- the members are segments of the documents of which a file leaves groups
pub groups_left : (schema : Schema) (settings : Settings) (analyze : Analyzer) (bytes : List ℕ) (gate : ℕ) (members : List Member) (groups : List (List Document)) → LeavesList schema settings bytes gate members → LeavesGroups schema settings analyze bytes groups
    → AllZip (IsGroup schema analyze) members groups
groups_left schema settings analyze bytes gate members groups left (lists, file, last) =
    let same : left.lists ≡ file.members = same_lists schema bytes left.first file.first left.bodies file.bodies left.lists file.members left.ends.file file.file left.follow file.follow in
    go lists (subst (λ ms. AllZip (AllZip (IsGroup schema analyze)) ([] ∷ ms) lists) (sym same) file.groups) last
  where
    go : (lists : List (List (List Document))) → AllZip (AllZip (IsGroup schema analyze)) ([] ∷ left.lists) lists → last_or None lists ≡ Some groups → AllZip (IsGroup schema analyze) members groups
    go [] are last = absurd are
    go (first ∷ lists) are last = last_zip (AllZip (IsGroup schema analyze)) [] members first groups left.lists lists are.0 are.1 left.last last
