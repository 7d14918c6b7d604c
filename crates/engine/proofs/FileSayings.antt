-- What the file of an index says: one list of segments, and with one record more the list that it makes.
use Rattle.std.proofs.Common.{[], List, None, Option, Some, ap, inl, inr, refl, subst, sym, ◌++◌, ◌∙◌, ◌∷◌, ◌≡◌, ◌≢◌, ℕ}
use Rattle.std.proofs.lemmas.Option.{same_Some}
use Rattle.std.specs.List.{AllZip, last_or}
use Rattle.definitions.specs.Analyzers.{Analyzer}
use Rattle.definitions.specs.Schema.{Schema}
use Rattle.definitions.specs.Settings.{Settings}
use Rattle.definitions.specs.Values.{Document}
use Rattle.layouts.proofs.FilesOfRecords.{files_are_indexes, files_are_whole, one_reading}
use Rattle.layouts.specs.RecordBodies.{first_in}
use Rattle.layouts.specs.RecordFiles.{IsDamaged, IsFile, IsFresh, IsNoIndex}
use Rattle.engine.specs.Files.{BodiesLeave, IsFileOf, LeavesMembers, Rests, SayGroups, is_first}
use Rattle.definitions.specs.Disk.{Unsynced}
use Rattle.index_file.specs.Lists.{LeavesList}
use Rattle.segment_definitions.proofs.OneList.{bodies_taken, one_history}
use Rattle.segment_definitions.specs.ListBodies.{Makes, Member}
use Rattle.segment_definitions.specs.IndexFiles.{AreMade, IsGroup, LeavesGroups, TakesSegments}
use Rattle.segment_definitions.specs.Segments.{IsSegment}

-- ---- one body more

pub last_more : {X : Type 0} (o : Option X) (xs : List X) (x : X) → last_or o (xs ++ x ∷ []) ≡ Some x
last_more o [] x = refl
last_more o (y ∷ xs) x = last_more (Some y) xs x

pub made_more : (is_segment : ℕ → List ℕ → Type 0) (before : List Member) (bodies : List (List ℕ)) (lists : List (List Member)) (last after : List Member) (body : List ℕ) → AreMade is_segment before bodies lists → last_or (Some before) lists ≡ Some last → Makes is_segment last after body → AreMade is_segment before (bodies ++ body ∷ []) (lists ++ after ∷ [])
made_more is_segment before [] [] last after body made is makes = (subst (λ l. Makes is_segment l after body) (sym (same_Some _ _ is)) makes, tt)
made_more is_segment before [] (list ∷ lists) last after body made is makes = absurd made
made_more is_segment before (first ∷ bodies) [] last after body made is makes = absurd made
made_more is_segment before (first ∷ bodies) (list ∷ lists) last after body made is makes = (made.0, made_more is_segment list bodies lists last after body made.1 is makes)

pub leave_next : (schema : Schema) (settings : Settings) (bodies : List (List ℕ)) (members after : List Member) (body : List ℕ) → BodiesLeave schema settings bodies members → Makes (IsSegment schema) members after body → BodiesLeave schema settings (bodies ++ body ∷ []) after
leave_next schema settings bodies members after body l makes = record {
  first = l.first;
  later = l.later ++ body ∷ [];
  lists = l.lists ++ after ∷ [];
  bodies_are = ap (λ bs. bs ++ body ∷ []) l.bodies_are;
  made = l.made;
  follow = made_more (IsSegment schema) [] l.later l.lists members after body l.follow l.last makes;
  last = last_more (Some []) l.lists after;
}

-- a first body leaves nothing
pub leave_first : (schema : Schema) (settings : Settings) (body : List ℕ) → first_in body ≡ Some (schema, settings) → BodiesLeave schema settings (body ∷ []) []
leave_first schema settings body says = record {
  first = body;
  later = [];
  lists = [];
  bodies_are = refl;
  made = says;
  follow = tt;
  last = refl;
}

-- ---- one list

pub one_list : (s t : Schema) (u v : Settings) (m n : List Member) (bytes : List ℕ) → LeavesMembers s u m bytes → LeavesMembers t v n bytes → (s ≡ t) × (u ≡ v) × (m ≡ n)
one_list s t u v m n bytes (bodies, file, l) (others, other, k) =
    let both : l.first ∷ l.later ≡ k.first ∷ k.later = sym l.bodies_are ∙ one_reading bodies others bytes file other ∙ k.bodies_are in
    let heads : l.first ≡ k.first = cc in
    let tails : l.later ≡ k.later = cc in
    let made : (s, u) ≡ (t, v) = same_Some _ _ (sym l.made ∙ ap first_in heads ∙ k.made) in
    let schema : s ≡ t = ap (λ (p : Schema × Settings). p.0) made in
    let follow : AreMade (IsSegment s) [] l.later k.lists = subst (λ q. AreMade (IsSegment q) [] l.later k.lists) (sym schema) (subst (λ ls. AreMade (IsSegment t) [] ls k.lists) (sym tails) k.follow) in
    let lists : l.lists ≡ k.lists = one_history (IsSegment s) [] l.later l.lists k.lists l.follow follow in
    (schema, ap (λ (p : Schema × Settings). p.1) made, same_Some _ _ (sym l.last ∙ ap (last_or (Some [])) lists ∙ k.last))

-- what may be left of a file that was being created leaves no segments
pub fresh_leaves_none : (s : Schema) (u : Settings) (m : List Member) (bytes : List ℕ) → LeavesMembers s u m bytes → IsFresh is_first bytes → m ≡ []
fresh_leaves_none s u m bytes (bodies, file, l) (inl none) = absurd (files_are_indexes l.first l.later bytes (subst (λ bs. IsFile bs bytes) l.bodies_are file) none)
fresh_leaves_none s u m bytes (bodies, file, l) (inr (body, takes, one)) =
    let both : l.first ∷ l.later ≡ body ∷ [] = sym l.bodies_are ∙ one_reading bodies (body ∷ []) bytes file one in
    let heads : l.first ≡ body = cc in
    (one_list s s u u m [] bytes (bodies, file, l) (body ∷ [], one, leave_first s u body (ap first_in (sym heads) ∙ l.made))).2

-- ---- groups

-- the lists' last stand for each other
pub last_of_both : {X Y : Type 0} (R : X → Y → Type 0) (x : X) (y : Y) (xs : List X) (ys : List Y) (last : Y) → R x y → AllZip R xs ys → last_or (Some y) ys ≡ Some last → (m : X) × (last_or (Some x) xs ≡ Some m) × R m last
last_of_both R x y [] [] last r h is = (x, refl, subst (R x) (same_Some _ _ is) r)
last_of_both R x y [] (b ∷ ys) last r h is = absurd h
last_of_both R x y (a ∷ xs) [] last r h is = absurd h
last_of_both R x y (a ∷ xs) (b ∷ ys) last r h is = last_of_both R a b xs ys last h.0 h.1 is

-- a file after each of whose records documents stand in groups is a file of the last of them
pub last_groups : (schema : Schema) (settings : Settings) (analyze : Analyzer) (groups : List (List Document)) (bytes : List ℕ) → LeavesGroups schema settings analyze bytes groups → IsFileOf schema settings analyze groups bytes
last_groups schema settings analyze groups bytes (lists, f, last) =
    let found = go lists f.groups last in (
      f.first ∷ f.bodies,
      f.file,
      record {
        members = found.0;
        leave = record { first = f.first; later = f.bodies; lists = f.members; bodies_are = refl; made = f.made; follow = f.follow; last = found.1 };
        are_groups = found.2;
      },
    )
  where
    go : (ls : List (List (List Document))) → AllZip (AllZip (IsGroup schema analyze)) ([] ∷ f.members) ls → last_or None ls ≡ Some groups → (m : List Member) × (last_or (Some []) f.members ≡ Some m) × AllZip (IsGroup schema analyze) m groups
    go [] h is = absurd h
    go (one ∷ ls) h is = last_of_both (AllZip (IsGroup schema analyze)) [] one f.members ls groups h.0 h.1 is

-- what rests says the groups of its segments
pub rests_say : (schema : Schema) (settings : Settings) (analyze : Analyzer) (members : List Member) (groups : List (List Document)) (content : List ℕ) (unsynced : Unsynced) (gate : ℕ) (r : Rests schema settings members content unsynced gate) → AllZip (IsGroup schema analyze) members groups → SayGroups schema settings analyze r.bodies groups
rests_say schema settings analyze members groups content unsynced gate r are = record { members = members; leave = r.leave; are_groups = are }

-- ---- what is opened

-- the bodies of a file leave its list
pub list_leaves : (schema : Schema) (settings : Settings) (bytes : List ℕ) (gate : ℕ) (members : List Member) (l : LeavesList schema settings bytes gate members) → BodiesLeave schema settings (l.first ∷ l.bodies) members
list_leaves schema settings bytes gate members l = record {
  first = l.first;
  later = l.bodies;
  lists = l.lists;
  bodies_are = refl;
  made = l.made;
  follow = l.follow;
  last = l.last;
}

-- likewise of equal ones
pub leave_same : (s t : Schema) (u v : Settings) (bodies : List (List ℕ)) (m n : List Member) → t ≡ s → v ≡ u → n ≡ m → BodiesLeave s u bodies m → BodiesLeave t v bodies n
leave_same s t u v bodies m n schema settings members leave = subst (λ q. BodiesLeave q v bodies n) (sym schema) (subst (λ q. BodiesLeave s q bodies n) (sym settings) (subst (BodiesLeave s u bodies) (sym members) leave))

-- ---- what a file is of

-- the segments that a file leaves are of the groups that it is of
pub of_its_groups : (s t : Schema) (u v : Settings) (cut : Analyzer) (members : List Member) (groups : List (List Document)) (bytes : List ℕ) → LeavesMembers s u members bytes → IsFileOf t v cut groups bytes → (s ≡ t) × (u ≡ v) × AllZip (IsGroup s cut) members groups
of_its_groups s t u v cut members groups bytes leaves (bodies, file, says) =
    let same = one_list s t u v members says.members bytes leaves (bodies, file, says.leave) in
    (same.0, same.1, subst (λ q. AllZip (IsGroup q cut) members groups) (sym same.0) (subst (λ ms. AllZip (IsGroup t cut) ms groups) (sym same.2) says.are_groups))

-- a file has a byte
pub no_bytes : (bodies : List (List ℕ)) (bytes : List ℕ) → IsFile bodies bytes → bytes ≢ []
no_bytes bodies bytes (IsFile.ends gate rest closed) h = cc
no_bytes bodies bytes (IsFile.record_then body more rest short file) h = cc

-- a file of groups is an index
pub file_is_index : (s : Schema) (u : Settings) (cut : Analyzer) (groups : List (List Document)) (bytes : List ℕ) → IsFileOf s u cut groups bytes → ¬ IsNoIndex bytes
file_is_index s u cut groups bytes (bodies, file, says) none =
    let l = says.leave in
    files_are_indexes l.first l.later bytes (subst (λ bs. IsFile bs bytes) l.bodies_are file) none

-- and is not damaged
pub file_is_whole : (s : Schema) (u : Settings) (cut : Analyzer) (groups : List (List Document)) (bytes : List ℕ) (offset : ℕ) → IsFileOf s u cut groups bytes → ¬ IsDamaged TakesSegments bytes offset
file_is_whole s u cut groups bytes offset (bodies, file, says) =
    let l = says.leave in
    files_are_whole TakesSegments (l.first ∷ l.later) bytes offset (subst (λ bs. IsFile bs bytes) l.bodies_are file) (bodies_taken l.first l.later (s, u, l.lists, l.made, l.follow))
