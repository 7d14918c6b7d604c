-- A body makes one list of segments, and a file leaves one list after each record.
use Rattle.std.proofs.Common.{[], Bool, List, Option, Some, ap, ap₂, append_assoc, length, map, refl, slice_get, subst, suc, sym, ◌++◌, ◌<◌, ◌^◌, ◌∙◌, ◌∷◌, ◌≡◌, ℕ}
use Rattle.std.specs.List.{AllByRecursion, AllZip}
use Rattle.definitions.specs.Schema.{Schema}
use Rattle.definitions.specs.Settings.{Settings}
use Rattle.definitions.specs.Analyzers.{Analyzer}
use Rattle.definitions.specs.Values.{Document}
use Rattle.layouts.specs.RecordFiles.{AreTaken, IsDamaged, IsFile}
use Rattle.layouts.proofs.FilesOfRecords.{files_are_whole, one_reading}
use Rattle.segment_definitions.specs.ListBodies.{IsMember, IsOfPart, Makes, Member, Part, fresh, kept}
use Rattle.segment_definitions.specs.IndexFiles.{AreBodies, AreMade, IsRecordFile, TakesSegments}
use Rattle.segment_definitions.specs.Segments.{IsSegment}
use Rattle.segment_definitions.proofs.AliveFlags.{all_sets}
use Rattle.segment_definitions.proofs.SegmentParts.{body_told}

-- the alive sets of a list
abbrev flags_in : List Member → List (List Bool)
flags_in members = map (λ m. m.1) members

module _ (is_segment : ℕ → List ℕ → Type 0) where
  few_flags : (members : List Member) → AllByRecursion (IsMember is_segment) members → AllByRecursion (λ f. length f < 2 ^ 32) (flags_in members)
  few_flags [] are = tt
  few_flags (m ∷ members) are = (are.0.1, few_flags members are.1)

  as_many : (before : List Member) (parts : List Part) (after : List Member) → AllZip (IsOfPart before) parts after → length parts ≡ length (flags_in after)
  as_many before [] [] are = refl
  as_many before [] (m ∷ after) are = elim are [ ]
  as_many before (p ∷ parts) [] are = elim are [ ]
  as_many before (p ∷ parts) (m ∷ after) are = ap suc (as_many before parts after are.1)

pub some_same : {X : Type 0} (o : Option X) (x y : X) → o ≡ Some x → o ≡ Some y → x ≡ y
some_same o x y first second = let same : Some x ≡ Some y = sym first ∙ second in cc

pub one_segment : (before : List Member) (p : Part) (m n : Member) → IsOfPart before p m → IsOfPart before p n → m.0 ≡ n.0
one_segment before (kept index) m n first second = ap (λ (q : Member). q.0) (some_same (slice_get before index) (m.0, first.0) (n.0, second.0) first.1 second.1)
one_segment before (fresh segment) m n first second = sym first ∙ second

-- the segments and the flags are the members
same_members : (before : List Member) (parts : List Part) (after others : List Member) → AllZip (IsOfPart before) parts after → AllZip (IsOfPart before) parts others → flags_in after ≡ flags_in others → after ≡ others
same_members before [] [] [] are also same = refl
same_members before [] [] (n ∷ others) are also same = elim also [ ]
same_members before [] (m ∷ after) others are also same = elim are [ ]
same_members before (p ∷ parts) [] others are also same = elim are [ ]
same_members before (p ∷ parts) (m ∷ after) [] are also same = elim also [ ]
same_members before (p ∷ parts) (m ∷ after) (n ∷ others) are also same =
    let bytes : m.0 ≡ n.0 = one_segment before p m n are.0 also.0 in
    let flags : m.1 ≡ n.1 = cc in
    let rest : flags_in after ≡ flags_in others = cc in
    ap₂ (λ x xs. x ∷ xs) (ap₂ (λ a b. (a, b)) bytes flags) (same_members before parts after others are.1 also.1 rest)

pub one_list : (is_segment : ℕ → List ℕ → Type 0) (before after others : List Member) (body : List ℕ) → Makes is_segment before after body → Makes is_segment before others body → after ≡ others
one_list is_segment before after others body m n =
    let told = body_told m.parts n.parts (flags_in after) (flags_in others) m.fit n.fit m.num_parts_fits n.num_parts_fits (sym m.body_is ∙ n.body_is) in
    let also : AllZip (IsOfPart before) m.parts others = subst (λ ps. AllZip (IsOfPart before) ps others) (sym told.0) n.parts_are in
    let long : length (flags_in after) ≡ length (flags_in others) = sym (as_many is_segment before m.parts after m.parts_are) ∙ as_many is_segment before m.parts others also in
    same_members before m.parts after others m.parts_are also (all_sets (flags_in after) (flags_in others) (few_flags is_segment after m.members) (few_flags is_segment others n.members) long told.1)

pub one_history : (is_segment : ℕ → List ℕ → Type 0) (before : List Member) (bodies : List (List ℕ)) (lists others : List (List Member)) → AreMade is_segment before bodies lists → AreMade is_segment before bodies others → lists ≡ others
one_history is_segment before [] [] [] are also = refl
one_history is_segment before [] [] (other ∷ others) are also = elim also [ ]
one_history is_segment before [] (after ∷ lists) others are also = elim are [ ]
one_history is_segment before (body ∷ bodies) [] others are also = elim are [ ]
one_history is_segment before (body ∷ bodies) (after ∷ lists) [] are also = elim also [ ]
one_history is_segment before (body ∷ bodies) (after ∷ lists) (other ∷ others) are also =
    let first : after ≡ other = one_list is_segment before after other body are.0 also.0 in
    ap₂ (λ x xs. x ∷ xs) first (one_history is_segment after bodies lists others are.1 (subst (λ l. AreMade is_segment l bodies others) (sym first) also.1))

-- ---- bodies that are taken

-- bodies of which the first make lists
made_front : (is_segment : ℕ → List ℕ → Type 0) (before : List Member) (front rest : List (List ℕ)) (lists : List (List Member)) → AreMade is_segment before (front ++ rest) lists → (some : List (List Member)) × AreMade is_segment before front some
made_front is_segment before [] rest lists are = ([], tt)
made_front is_segment before (body ∷ front) rest [] are = elim are [ ]
made_front is_segment before (body ∷ front) rest (after ∷ lists) are = let more = made_front is_segment after front rest lists are.1 in (after ∷ more.0, (are.0, more.1))

bodies_front : (first : List ℕ) (front rest : List (List ℕ)) → AreBodies (first ∷ (front ++ rest)) → AreBodies (first ∷ front)
bodies_front first front rest (schema, settings, lists, made, follow) = let some = made_front (IsSegment schema) [] front rest lists follow in (schema, settings, some.0, made, some.1)

-- bodies of one index are taken one after the other
taken_all : (first : List ℕ) (before rest : List (List ℕ)) → AreBodies (first ∷ (before ++ rest)) → AreTaken TakesSegments (first ∷ before) rest
taken_all first before [] are = tt
taken_all first before (body ∷ rest) are =
    let whole : AreBodies (first ∷ ((before ++ body ∷ []) ++ rest)) = subst (λ l. AreBodies (first ∷ l)) (sym (append_assoc before (body ∷ []) rest)) are in
    (bodies_front first (before ++ body ∷ []) rest whole, taken_all first (before ++ body ∷ []) rest whole)

pub bodies_taken : (first : List ℕ) (bodies : List (List ℕ)) → AreBodies (first ∷ bodies) → AreTaken TakesSegments [] (first ∷ bodies)
bodies_taken first bodies are = (bodies_front first [] bodies are, taken_all first [] bodies are)

-- ---- files

-- the lists that a file of these bodies leaves
pub same_lists : (schema : Schema) (bytes : List ℕ) (first other : List ℕ) (bodies more : List (List ℕ)) (lists others : List (List Member)) → IsFile (first ∷ bodies) bytes → IsFile (other ∷ more) bytes → AreMade (IsSegment schema) [] bodies lists → AreMade (IsSegment schema) [] more others → lists ≡ others
same_lists schema bytes first other bodies more lists others file again are also =
    let same : first ∷ bodies ≡ other ∷ more = one_reading (first ∷ bodies) (other ∷ more) bytes file again in
    let left : bodies ≡ more = cc in
    one_history (IsSegment schema) [] bodies lists others are (subst (λ l. AreMade (IsSegment schema) [] l others) (sym left) also)

pub undamaged : (schema : Schema) (settings : Settings) (analyze : Analyzer) (bytes : List ℕ) (lists : List (List (List Document))) (offset : ℕ) → IsRecordFile schema settings analyze bytes lists → ¬ IsDamaged TakesSegments bytes offset
undamaged schema settings analyze bytes lists offset f = files_are_whole TakesSegments (f.first ∷ f.bodies) bytes offset f.file (bodies_taken f.first f.bodies (schema, settings, f.members, f.made, f.follow))
