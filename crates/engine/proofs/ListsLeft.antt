-- What a crash leaves, by the lists of its files: what is said of files by their bodies alone stays so in an opening, and
-- one record more gives one list more.
use Rattle.std.proofs.Common.{[], IfOk, IsTrue, Err, List, None, Ok, Result, Some, ap, ap₂, inl, inr, length, refl, subst, sym, ◌++◌, ◌∙◌, ◌∷◌, ◌≡◌, ◌⊎◌, ⊎_elim, Bool, ℕ}
use Rattle.std.specs.List.{AllZip, last_or}
use Rattle.common.specs.declared.analyzer.Analyzer as analyzers
use Rattle.common.specs.declared.device.Device as devices
use Rattle.definitions.proofs.CallRuns.{weaker}
use Rattle.definitions.specs.Analyzers.{Analyzer}
use Rattle.definitions.specs.Disk.{IsImage, Unsynced, settled}
use Rattle.definitions.specs.Moments.{LeavesOnly}
use Rattle.definitions.specs.Schema.{Schema}
use Rattle.definitions.specs.Settings.{Settings}
use Rattle.definitions.specs.Step.{configuration_of, reopened}
use Rattle.definitions.specs.Values.{Document}
use Rattle.engine.proofs.FileSayings.{last_groups, last_more, made_more, of_its_groups}
use Rattle.engine.specs.Files.{BodiesLeave, HasSameBodies, IsFileOf, IsOldOrSame, LeavesNone, LeavesOneOf}
use Rattle.engine.specs.Indexes.{ImagesLeave, IndexRests, IndexStands, IsOpened, IsReopened, analyzer_after, analyzer_of, device_of, gate_of, members_of, schema_of, settings_of}
use Rattle.engine.specs.declared.index.Index.{Index}
use Rattle.engine.specs.declared.refused_opening.Refused.{Refused}
use Rattle.index_file.proofs.Images.{rest_images}
use Rattle.index_file.specs.Kept.{IsOldOrFirst, LeavesNow}
use Rattle.index_state.specs.Standing.{IsMadeAlike}
use Rattle.index_state.specs.declared.index_state.IndexState.{IndexState}
use Rattle.layouts.proofs.FilesOfRecords.{empty_is_no_index, files_are_indexes, one_reading}
use Rattle.layouts.specs.RecordBodies.{first_in}
use Rattle.layouts.specs.RecordFiles.{IsAtRest, IsFile, IsFresh, IsNoIndex, IsOneOf}
use Rattle.segment_definitions.proofs.OneList.{one_history}
use Rattle.segment_definitions.specs.ListBodies.{Makes, Member}
use Rattle.segment_definitions.specs.IndexFiles.{AreMade, IsGroup, IsRecordFile, LeavesGroups}
use Rattle.segment_definitions.specs.Segments.{IsSegment}

-- ---- files of the same bodies

-- every record of the one gives its list where those of the other do
pub same_record : (schema : Schema) (settings : Settings) (cut : Analyzer) (bytes image : List ℕ) (lists : List (List (List Document))) → HasSameBodies bytes image → IsRecordFile schema settings cut bytes lists → IsRecordFile schema settings cut image lists
same_record schema settings cut bytes image lists (bodies, file, new) f =
    let same : bodies ≡ f.first ∷ f.bodies = one_reading bodies (f.first ∷ f.bodies) bytes file f.file in
    record { first = f.first; bodies = f.bodies; members = f.members; file = subst (λ bs. IsFile bs image) same new; made = f.made; follow = f.follow; groups = f.groups }

-- they are of the same groups
pub same_groups : (schema : Schema) (settings : Settings) (cut : Analyzer) (groups : List (List Document)) (bytes image : List ℕ) → HasSameBodies bytes image → IsFileOf schema settings cut groups bytes → IsFileOf schema settings cut groups image
same_groups schema settings cut groups bytes image (bodies, file, new) (others, is, says) = (others, subst (λ bs. IsFile bs image) (one_reading bodies others bytes file is) new, says)

-- they give the same lists
pub same_lists : (schema : Schema) (settings : Settings) (cut : Analyzer) (groups : List (List Document)) (bytes image : List ℕ) → HasSameBodies bytes image → LeavesGroups schema settings cut bytes groups → LeavesGroups schema settings cut image groups
same_lists schema settings cut groups bytes image same (lists, f, last) = (lists, same_record schema settings cut bytes image lists same f, last)

pub same_one_of : (schema : Schema) (settings : Settings) (cut : Analyzer) (one other : List (List Document)) (bytes image : List ℕ) → HasSameBodies bytes image → LeavesOneOf schema settings cut one other bytes → LeavesOneOf schema settings cut one other image
same_one_of schema settings cut one other bytes image same (inl leaves) = inl (same_lists schema settings cut one bytes image same leaves)
same_one_of schema settings cut one other bytes image same (inr leaves) = inr (same_lists schema settings cut other bytes image same leaves)

pub same_none : (cut : Analyzer) (bytes image : List ℕ) → HasSameBodies bytes image → LeavesNone cut bytes → LeavesNone cut image
same_none cut bytes image ([], file, new) (inl none) = inl (empty_is_no_index image new)
same_none cut bytes image (body ∷ bodies, file, new) (inl none) = absurd (files_are_indexes body bodies bytes file none)
same_none cut bytes image same (inr (schema, settings, leaves)) = inr (schema, settings, same_lists schema settings cut [] bytes image same leaves)

-- they are of the same two, and fresh alike
pub same_one_file : (a b : List (List ℕ)) (bytes image : List ℕ) → HasSameBodies bytes image → IsOneOf a b bytes → IsOneOf a b image
same_one_file a b bytes image (bodies, file, new) (inl is) = inl (subst (λ bs. IsFile bs image) (one_reading bodies a bytes file is) new)
same_one_file a b bytes image (bodies, file, new) (inr is) = inr (subst (λ bs. IsFile bs image) (one_reading bodies b bytes file is) new)

pub same_fresh : (takes : List ℕ → Bool) (bytes image : List ℕ) → HasSameBodies bytes image → IsFresh takes bytes → IsFresh takes image
same_fresh takes bytes image ([], file, new) fresh = inl (empty_is_no_index image new)
same_fresh takes bytes image (body ∷ bodies, file, new) (inl none) = absurd (files_are_indexes body bodies bytes file none)
same_fresh takes bytes image (body ∷ bodies, file, new) (inr one) = inr (one.0, one.1, subst (λ bs. IsFile bs image) (one_reading (body ∷ bodies) (one.0 ∷ []) bytes file one.2) new)

-- ---- one list more

-- a first body alone gives the empty list
pub first_gives_none : (schema : Schema) (settings : Settings) (cut : Analyzer) (body image : List ℕ) → first_in body ≡ Some (schema, settings) → IsFile (body ∷ []) image → LeavesGroups schema settings cut image []
first_gives_none schema settings cut body image says file = ([] ∷ [], record { first = body; bodies = []; members = []; file = file; made = says; follow = tt; groups = (tt, tt) }, refl)

zip_more : {X Y : Type 0} (R : X → Y → Type 0) (xs : List X) (ys : List Y) (x : X) (y : Y) → AllZip R xs ys → R x y → AllZip R (xs ++ x ∷ []) (ys ++ y ∷ [])
zip_more R [] [] x y all r = (r, tt)
zip_more R [] (b ∷ ys) x y all r = absurd all
zip_more R (a ∷ xs) [] x y all r = absurd all
zip_more R (a ∷ xs) (b ∷ ys) x y all r = (all.0, zip_more R xs ys x y all.1 r)

pub lists_next : (schema : Schema) (settings : Settings) (cut : Analyzer) (bodies : List (List ℕ)) (members after : List Member) (groups next : List (List Document)) (bytes image body : List ℕ) → BodiesLeave schema settings bodies members → IsFile bodies bytes
    → LeavesGroups schema settings cut bytes groups → Makes (IsSegment schema) members after body → AllZip (IsGroup schema cut) after next → IsFile (bodies ++ body ∷ []) image → LeavesGroups schema settings cut image next
lists_next schema settings cut bodies members after groups next bytes image body l file (lists, f, last) makes are new =
    let same : bodies ≡ f.first ∷ f.bodies = one_reading bodies (f.first ∷ f.bodies) bytes file f.file in
    let both : l.first ∷ l.later ≡ f.first ∷ f.bodies = sym l.bodies_are ∙ same in
    let tails : l.later ≡ f.bodies = cc in
    let one : l.lists ≡ f.members = one_history (IsSegment schema) [] f.bodies l.lists f.members (subst (λ bs. AreMade (IsSegment schema) [] bs l.lists) tails l.follow) f.follow in
    let ends : last_or (Some []) f.members ≡ Some members = ap (last_or (Some [])) (sym one) ∙ l.last in (
      lists ++ next ∷ [],
      record {
        first = f.first;
        bodies = f.bodies ++ body ∷ [];
        members = f.members ++ after ∷ [];
        file = subst (λ bs. IsFile (bs ++ body ∷ []) image) same new;
        made = f.made;
        follow = made_more (IsSegment schema) [] f.bodies f.members members after body f.follow ends makes;
        groups = zip_more (AllZip (IsGroup schema cut)) ([] ∷ f.members) lists after next f.groups are;
      },
      last_more None lists next,
    )

-- ---- at every moment

module _ {D : Type 0} (moment : D → ℕ) (left_since : D → ℕ → List ℕ → Type 0) (content : D → List ℕ) (unsynced : D → Unsynced) where
  -- of an opening
  pub stays : (old new : D) (P : List ℕ → Type 0) → IsImage (content old) (unsynced old) (content old) → LeavesOnly moment left_since old new (IsOldOrSame content unsynced old) → LeavesNow content unsynced old P → ((image : List ℕ) → HasSameBodies (content old) image → P (content old) → P image)
      → LeavesOnly moment left_since old new P
  stays old new P remains run now keeps = weaker moment left_since old new (IsOldOrSame content unsynced old) P run (λ image is. ⊎_elim (λ before. now image before) (λ same. keeps image same (now (content old) remains)) is)

  -- of a create
  pub begins : (old new : D) (body : List ℕ) (P : List ℕ → Type 0) → LeavesOnly moment left_since old new (IsOldOrFirst content unsynced old body) → LeavesNow content unsynced old P → ((image : List ℕ) → IsNoIndex image → P image) → ((image : List ℕ) → IsFile (body ∷ []) image → P image)
      → LeavesOnly moment left_since old new P
  begins old new body P run now none first =
      weaker moment left_since old new (IsOldOrFirst content unsynced old body) P run
      (λ image is. elim is [
        | inl (inl before) ↦ now image before
        | inl (inr few) ↦ none image few
        | inr one ↦ first image one
      ])

-- ---- of an index

module _ {D A : Type 0} {d : devices.Ghosts D} {a : analyzers.Ghosts A} (analyze : A → Analyzer) where
  -- an append
  pub appends_lists : (old : Index D A d a) (new : D) (after : List Member) (groups next : List (List Document)) (body : List ℕ) → IsImage (d.content (device_of old)) (d.unsynced (device_of old)) (d.content (device_of old)) → (rests : IndexRests old) → ImagesLeave analyze old groups
      → Makes (IsSegment (schema_of old)) (members_of old) after body → AllZip (IsGroup (schema_of old) (analyze (analyzer_of old))) after next → LeavesOnly d.moment d.left_since (device_of old) new (IsOneOf rests.bodies (rests.bodies ++ body ∷ []))
      → LeavesOnly d.moment d.left_since (device_of old) new (LeavesOneOf (schema_of old) (settings_of old) (analyze (analyzer_of old)) groups next)
  appends_lists old new after groups next body remains rests leave makes are run =
      let bytes : List ℕ = d.content (device_of old) in
      let schema = schema_of old in
      let settings = settings_of old in
      let cut = analyze (analyzer_of old) in
      weaker d.moment d.left_since (device_of old) new (IsOneOf rests.bodies (rests.bodies ++ body ∷ [])) (LeavesOneOf schema settings cut groups next) run
      (λ image is. elim is [
        | inl first ↦ inl (same_lists schema settings cut groups bytes image (rests.bodies, rests.at_rest.file, first) (leave bytes remains))
        | inr second ↦ inr (lists_next schema settings cut rests.bodies (members_of old) after groups next bytes image body rests.leave rests.at_rest.file (leave bytes remains) makes are second)
      ])

  -- and after it, of the state and the device
  pub installs_lists : (old : Index D A d a) (state : IndexState A a) (new : D) (gate : ℕ) (after : List Member) (groups next : List (List Document)) (body : List ℕ) → IsImage (d.content (device_of old)) (d.unsynced (device_of old)) (d.content (device_of old)) → (rests : IndexRests old) → ImagesLeave analyze old groups
      → Makes (IsSegment (schema_of old)) (members_of old) after body → AllZip (IsGroup (schema_of old) (analyze (analyzer_of old))) after next → IsMadeAlike old.index_state state → IsAtRest (d.content new) gate (rests.bodies ++ body ∷ [])
      → d.unsynced new ≡ settled (length (d.content new)) → LeavesNow d.content d.unsynced new (λ image. LeavesGroups state.schema state.settings (analyze state.analyzer) image next)
  installs_lists old state new gate after groups next body remains rests leave makes are made rest synced image is =
      let bytes : List ℕ = d.content (device_of old) in
      let now : List ℕ = d.content new in
      let file : IsFile (rests.bodies ++ body ∷ []) image = rest_images (rests.bodies ++ body ∷ []) now image gate rest (subst (λ (u : Unsynced). IsImage now u image) synced is) in
      subst (λ s. LeavesGroups s state.settings (analyze state.analyzer) image next) (sym made.schema)
      (subst (λ u. LeavesGroups (schema_of old) u (analyze state.analyzer) image next) (sym made.settings)
      (subst (λ (z : A). LeavesGroups (schema_of old) (settings_of old) (analyze z) image next) (sym made.analyzer)
      (lists_next (schema_of old) (settings_of old) (analyze (analyzer_of old)) rests.bodies (members_of old) after groups next bytes image body rests.leave rests.at_rest.file (leave bytes remains) makes are file)))

  -- a file that was settled
  abbrev pub IsSettled : List (List ℕ) → Index D A d a → Type 0
  IsSettled bodies index = IsAtRest (d.content (device_of index)) (gate_of index) bodies × (d.unsynced (device_of index) ≡ settled (length (d.content (device_of index))))

  -- an index that was opened stands for the last list, and each image gives it
  reopens : (index : Index D A d a) (device : D) (bodies : List (List ℕ)) (cut : Analyzer) (schema : Schema) (settings : Settings) (groups : List (List Document)) → IsOpened analyze cut device index → IsTrue (d.honest device) → analyze (analyzer_of index) ≡ cut → IsFile bodies (d.content device)
      → IsSettled bodies index → LeavesGroups schema settings cut (d.content device) groups → IsReopened analyze index (configuration_of schema cut settings) groups
  reopens index device bodies cut schema settings groups opened h same file settles leaves =
      let bytes : List ℕ = d.content device in
      let now : List ℕ = d.content (device_of index) in
      let of = of_its_groups (schema_of index) schema (settings_of index) settings cut (members_of index) groups bytes (opened.file h) (last_groups schema settings cut groups bytes leaves) in
      record {
        stands = subst (λ m. IndexStands analyze index m (reopened groups)) (ap₂ (λ s n. configuration_of s cut n) of.0 of.1) (opened.stands groups of.2);
        images = λ image is.
            let new : IsFile bodies image = rest_images bodies now image (gate_of index) settles.0 (subst (λ (u : Unsynced). IsImage now u image) settles.1 is) in
            subst (λ s. LeavesGroups s (settings_of index) (analyze (analyzer_of index)) image groups) (sym of.0)
            (subst (λ u. LeavesGroups schema u (analyze (analyzer_of index)) image groups) (sym of.1)
            (subst (λ c. LeavesGroups schema settings c image groups) (sym same) (same_lists schema settings cut groups bytes image (bodies, file, new) leaves)));
      }

  pub reopens_one : (result : Result (Index D A d a) (Refused D A)) (device : D) (analyzer : A) (bodies : List (List ℕ)) (schema : Schema) (settings : Settings) (one other : List (List Document)) → IfOk result (IsOpened analyze (analyze analyzer) device) → IsTrue (d.honest device)
      → analyzer_after result ≡ analyzer → IsFile bodies (d.content device) → IfOk result (IsSettled bodies) → LeavesOneOf schema settings (analyze analyzer) one other (d.content device)
      → IfOk result (λ index. IsReopened analyze index (configuration_of schema (analyze analyzer) settings) one ⊎ IsReopened analyze index (configuration_of schema (analyze analyzer) settings) other)
  reopens_one (Err refused) device analyzer bodies schema settings one other opened h same file settles leaves = tt
  reopens_one (Ok index) device analyzer bodies schema settings one other opened h same file settles leaves =
      let cut = analyze analyzer in
      ⊎_elim (λ first. inl (reopens index device bodies cut schema settings one opened h (ap analyze same) file settles first))
      (λ second. inr (reopens index device bodies cut schema settings other opened h (ap analyze same) file settles second)) leaves

  pub reopens_none : (result : Result (Index D A d a) (Refused D A)) (device : D) (analyzer : A) (bodies : List (List ℕ)) → IfOk result (IsOpened analyze (analyze analyzer) device) → IsTrue (d.honest device) → analyzer_after result ≡ analyzer → IsFile bodies (d.content device)
      → IfOk result (IsSettled bodies) → LeavesNone (analyze analyzer) (d.content device)
      → IfOk result (λ index. IsReopened analyze index (configuration_of (schema_of index) (analyze analyzer) (settings_of index)) [])
  reopens_none (Err refused) device analyzer bodies opened h same file settles leaves = tt
  reopens_none (Ok index) device analyzer bodies opened h same file settles (inl none) =
      let found = opened.file h in
      let l = found.2 in
      absurd (files_are_indexes l.first l.later (d.content device) (subst (λ bs. IsFile bs (d.content device)) l.bodies_are found.1) none)
  reopens_none (Ok index) device analyzer bodies opened h same file settles (inr (schema, settings, leaves)) =
      let cut = analyze analyzer in
      let bytes : List ℕ = d.content device in
      let of = of_its_groups (schema_of index) schema (settings_of index) settings cut (members_of index) [] bytes (opened.file h) (last_groups schema settings cut [] bytes leaves) in
      let here : LeavesGroups (schema_of index) (settings_of index) cut bytes [] = subst (λ s. LeavesGroups s (settings_of index) cut bytes []) (sym of.0) (subst (λ u. LeavesGroups schema u cut bytes []) (sym of.1) leaves) in
      reopens index device bodies cut (schema_of index) (settings_of index) [] opened h (ap analyze same) file settles here
