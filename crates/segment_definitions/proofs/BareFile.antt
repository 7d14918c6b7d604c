-- The file of the least segment: its groups, and that it leaves no others.
use Rattle.std.proofs.Common.{[], List, None, Some, arith, inl, inr, false, length, refl, replicate, subst, sym, true, ◌++◌, ◌<◌, ◌^◌, ◌∷◌, ◌≡◌}
use Rattle.std.specs.List.{AllZip, items_where_true, last_or}
use Rattle.definitions.specs.Analyzers.{raw_and_default}
use Rattle.definitions.specs.NumberCodes.{vint_bytes}
use Rattle.definitions.specs.Settings.{default_settings}
use Rattle.definitions.specs.Values.{Document}
use Rattle.definitions.proofs.OnLiterals.{definitions_on_literals}
use Rattle.layouts.specs.RecordBodies.{first_in}
use Rattle.layouts.specs.RecordFiles.{AreShort, HasRecord, IsDamaged, IsFile, records, sized_body}
use Rattle.layouts.proofs.FilesOfRecords.{file_of, one_frame, too_few}
use Rattle.segment_definitions.specs.ListBodies.{Makes, Member, fresh, kept, segments_body}
use Rattle.segment_definitions.specs.SegmentExamples.{bare_bodies, bare_body, bare_segment}
use Rattle.segment_definitions.specs.IndexFiles.{AreBodies, AreMade, IsGroup, IsRecordFile, TakesSegments}
use Rattle.segment_definitions.specs.Segments.{IsSegment, IsSegmentOf}
use Rattle.segment_definitions.proofs.LeastSegment.{least_segment}
use Rattle.segment_definitions.proofs.OneList.{bodies_taken, same_lists}
use Rattle.segment_definitions.proofs.SegmentDocs.{segment_alone}
use Rattle.segment_definitions.proofs.SegmentParts.{one_u32}

-- ---- groups

-- the least segment is of one document
one_document : (docs : List Document) → IsSegmentOf [] raw_and_default docs bare_segment → length docs ≡ 1
one_document docs s =
    let few : length docs < 2 ^ 32 = omega (arith, s.written.num_docs_fit) in
    sym (one_u32 1 (length docs) _ _ (omega arith) few s.written.bytes_are).0

pub none_dead : ¬ IsGroup [] raw_and_default (bare_segment, false ∷ []) ([] ∷ [])
none_dead g = go g.docs g.living
  where
    go : (docs : List Document) → [] ∷ [] ≡ items_where_true (false ∷ []) docs → ⊥
    go [] is = cc
    go (doc ∷ docs) is = cc

pub none_left_out : ¬ IsGroup [] raw_and_default (bare_segment, true ∷ []) []
none_left_out g = go g.docs (one_document g.docs g.segment) g.living
  where
    go : (docs : List Document) → length docs ≡ 1 → [] ≡ items_where_true (true ∷ []) docs → ⊥
    go [] long is = omega (arith, long)
    go (doc ∷ docs) long is = cc

pub a_flag_each : ¬ IsGroup [] raw_and_default (bare_segment, true ∷ true ∷ []) ([] ∷ [])
a_flag_each g = omega (arith, one_document g.docs g.segment, g.flagged)

-- ---- the file

pub made : first_in bare_body ≡ Some ([], default_settings)
unfolding definitions_on_literals first_in
made = refl

pub short_body : AreShort (bare_body ∷ [])
unfolding definitions_on_literals
short_body = (omega arith, tt)

pub short_bodies : AreShort bare_bodies
unfolding segments_body vint_bytes
short_bodies = (omega arith, (omega arith, tt))

alone : IsSegment [] 1 bare_segment
alone = segment_alone [] raw_and_default ([] ∷ []) bare_segment least_segment

added : Makes (IsSegment []) [] ((bare_segment, true ∷ []) ∷ []) (segments_body (fresh bare_segment ∷ []) ((true ∷ []) ∷ []))
unfolding vint_bytes
added = record { parts = fresh bare_segment ∷ []; parts_are = (refl, tt); ascend = tt; fit = (omega arith, tt); num_parts_fits = omega arith; members = ((alone, omega arith), tt); body_is = refl }

died : Makes (IsSegment []) ((bare_segment, true ∷ []) ∷ []) ((bare_segment, false ∷ []) ∷ []) (segments_body (kept 0 ∷ []) ((false ∷ []) ∷ []))
died = record { parts = kept 0 ∷ []; parts_are = ((true ∷ [], refl), tt); ascend = (omega arith, tt); fit = (omega arith, tt); num_parts_fits = omega arith; members = ((alone, omega arith), tt); body_is = refl }

living : IsGroup [] raw_and_default (bare_segment, true ∷ []) ([] ∷ [])
living = record { docs = [] ∷ []; segment = least_segment; flagged = refl; living = refl }

dead : IsGroup [] raw_and_default (bare_segment, false ∷ []) []
dead = record { docs = [] ∷ []; segment = least_segment; flagged = refl; living = refl }

-- the lists that it leaves, after the first record's
abbrev bare_lists : List (List Member)
bare_lists = ((bare_segment, true ∷ []) ∷ []) ∷ ((bare_segment, false ∷ []) ∷ []) ∷ []

whole_file : IsFile (bare_body ∷ bare_bodies) (records (bare_body ∷ bare_bodies) ++ 0 ∷ 165 ∷ [])
whole_file = file_of (bare_body ∷ bare_bodies) 0 (165 ∷ []) (λ e. omega (arith, e)) (short_body.0, short_bodies)

follow : AreMade (IsSegment []) [] bare_bodies bare_lists
follow = (added, (died, tt))

pub all_lists : IsRecordFile [] default_settings raw_and_default (records (bare_body ∷ bare_bodies) ++ 0 ∷ 165 ∷ []) ([] ∷ (([] ∷ []) ∷ []) ∷ ([] ∷ []) ∷ [])
all_lists = record {
  first = bare_body;
  bodies = bare_bodies;
  members = bare_lists;
  file = whole_file;
  made = made;
  follow = follow;
  groups = (tt, ((living, tt), ((dead, tt), tt)));
}

last_group : (lists : List (List (List Document))) → AllZip (AllZip (IsGroup [] raw_and_default)) ([] ∷ bare_lists) lists → last_or None lists ≡ Some (([] ∷ []) ∷ []) → ⊥
last_group [] groups last = elim groups [ ]
last_group (a ∷ []) groups last = elim groups.1 [ ]
last_group (a ∷ b ∷ []) groups last = elim groups.1.1 [ ]
last_group (a ∷ b ∷ c ∷ []) groups last =
    let same : c ≡ ([] ∷ []) ∷ [] = cc in
    let dead = subst (λ gs. AllZip (IsGroup [] raw_and_default) ((bare_segment, false ∷ []) ∷ []) gs) same groups.1.1.0 in
    none_dead dead.0
last_group (a ∷ b ∷ c ∷ d ∷ more) groups last = elim groups.1.1.1 [ ]

pub no_other : (lists : List (List (List Document))) → IsRecordFile [] default_settings raw_and_default (records (bare_body ∷ bare_bodies) ++ 0 ∷ 165 ∷ []) lists → last_or None lists ≡ Some (([] ∷ []) ∷ []) → ⊥
no_other lists f last =
    let members : f.members ≡ bare_lists = same_lists [] (records (bare_body ∷ bare_bodies) ++ 0 ∷ 165 ∷ []) f.first bare_body f.bodies bare_bodies f.members bare_lists f.file whole_file f.follow follow in
    last_group lists (subst (λ ms. AllZip (AllZip (IsGroup [] raw_and_default)) ([] ∷ ms) lists) members f.groups) last

-- ---- damage behind its first record

first_alone : AreBodies (bare_body ∷ [])
first_alone = ([], default_settings, [], made, tt)

-- no body of byte 3 follows
no_byte_3 : ¬ TakesSegments (bare_body ∷ []) (3 ∷ replicate 8 0)
unfolding segments_body
no_byte_3 (schema, settings, [], made, are) = elim are [ ]
no_byte_3 (schema, settings, after ∷ lists, made, are) = let is = are.0.body_is in cc

pub byte_3_damaged : IsDamaged TakesSegments (records (bare_body ∷ []) ++ 165 ∷ (sized_body (3 ∷ replicate 8 0) ++ 0 ∷ [])) 37
unfolding definitions_on_literals
byte_3_damaged = record {
  bodies = bare_body ∷ [];
  rest = sized_body (3 ∷ replicate 8 0) ++ 0 ∷ [];
  begins = λ no_index. elim no_index [ inl few ↦ omega (arith, few) | inr closed ↦ closed refl ];
  bytes_are = refl;
  stands = refl;
  short = short_body;
  taken = bodies_taken bare_body [] first_alone;
  broken = λ (has : HasRecord TakesSegments (bare_body ∷ []) (sized_body (3 ∷ replicate 8 0) ++ 0 ∷ [])). no_byte_3 (subst (TakesSegments (bare_body ∷ [])) (sym (one_frame (3 ∷ replicate 8 0) has.body (0 ∷ []) (has.gate ∷ has.rest) (omega arith) has.short has.bytes_are).0) has.taken);
}

pub cut_damaged : IsDamaged TakesSegments (records (bare_body ∷ []) ++ 165 ∷ []) 37
unfolding definitions_on_literals
cut_damaged = record {
  bodies = bare_body ∷ [];
  rest = [];
  begins = λ no_index. elim no_index [ inl few ↦ omega (arith, few) | inr closed ↦ closed refl ];
  bytes_are = refl;
  stands = refl;
  short = short_body;
  taken = bodies_taken bare_body [] first_alone;
  broken = too_few _ _ _ 0 refl (omega arith);
}
