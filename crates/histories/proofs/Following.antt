-- Events lead where the definitions say.
use Rattle.std.proofs.Common.{[], Err, IfOk, IsTrue, List, None, Ok, Result, Some, ap, ap₂, inl, inr, refl, subst, sym, true, true≢false, ◌∙◌, ◌∷◌, ◌≡◌, ◌≢◌, ◌≤◌, ◌⊎◌, ⊎_elim, ℕ, length, false, Bool}
use Rattle.std.specs.Bool.{⊤}
use Rattle.common.specs.declared.analyzer.Analyzer as analyzers
use Rattle.common.specs.declared.device.Device as devices
use Rattle.definitions.proofs.CallAnswers.{left_answered, left_closed}
use Rattle.definitions.proofs.CallImages.{settled-image}
use Rattle.definitions.proofs.CallRuns.{started, weaker}
use Rattle.definitions.proofs.OwnFaults.{is_failure, refused_by_no_failure}
use Rattle.definitions.specs.Analyzers.{Analyzer}
use Rattle.definitions.specs.Calls as calls
use Rattle.definitions.specs.Moments.{LeavesOnly}
use Rattle.definitions.specs.Disk.{IsImage, Unsynced, settled}
use Rattle.definitions.specs.Schema.{Schema}
use Rattle.definitions.specs.Settings.{Settings}
use Rattle.definitions.specs.Step.{configuration_of, reopened}
use Rattle.definitions.specs.Values.{Document}
use Rattle.definitions.specs.declared.fault.Fault.{Fault}
use Rattle.definitions.specs.declared.fault.Fault.TheVariants as faults
use Rattle.histories.proofs.Calling.{rests_still}
use Rattle.engine.proofs.Commits.{stands_groups}
use Rattle.engine.proofs.FileSayings.{of_its_groups, rests_say}
use Rattle.histories.specs.Calls.{IsCalled, IsOpening, IsTold, ending, groups_after, unless_refused}
use Rattle.engine.proofs.ListsLeft.{same_groups, stays}
use Rattle.histories.proofs.GivenLists.{given_last, same_have}
use Rattle.histories.specs.Lists.{HasLists, ImagesHaveLists}
use Rattle.engine.specs.Files.{HasSameBodies, IsFileOf, LeavesOneOf}
use Rattle.engine.specs.Indexes.{CrashLeavesEither, IndexRests, IndexStands, KeepsFile, KeepsMaking, analyzer_of, device_after, device_of, gate_of, members_of, schema_of, settings_of}
use Rattle.engine.specs.declared.index.Index.{Index}
use Rattle.histories.proofs.Devices.{other_kept}
use Rattle.histories.specs.Events.{Event, MayLead, Outcome, Standing, called, cut_off, opened, other_after, other_within, standing_of}
use Rattle.histories.specs.Leading.{CutsOff, IsRestarted, LeadsTo, Recovers, Reopens}
use Rattle.engine.specs.declared.refused_opening.Refused.{Refused}
use Rattle.index_file.proofs.Images.{rest_images}
use Rattle.index_file.specs.Kept.{LeavesNow}
use Rattle.index_state.proofs.Outcomes.{status_refuses}
use Rattle.layouts.specs.RecordFiles.{IsOneOf}

abbrev is_done : {T : Type 0} → Result T Fault → Bool
is_done (Ok t) = true
is_done (Err fault) = false

abbrev error_in : Result ⊤ Fault → Fault
error_in (Ok u) = faults.OutOfMemory
error_in (Err fault) = fault

no_device : (c : calls.Configuration) (x : calls.Index) (call : calls.Call) (fault : Fault) → calls.call_fault c x call ≡ Some fault → fault ≢ faults.Device
no_device c x call fault is device = true≢false (sym (ap is_failure device) ∙ refused_by_no_failure c x call fault is)

module _ {D A : Type 0} (d : devices.Ghosts D) (a : analyzers.Ghosts A)
    (only_now : (device : D) (image : List ℕ) → IsTrue (d.honest device) → d.left_since device (d.moment device) image → IsImage (d.content device) (d.unsynced device) image)
    (counts_now : (device : D) (t : ℕ) (image : List ℕ) → IsTrue (d.honest device) → t ≤ d.moment device → IsImage (d.content device) (d.unsynced device) image → d.left_since device t image)
    (remains : (device : D) → IsTrue (d.honest device) → IsImage (d.content device) (d.unsynced device) (d.content device)) where
  -- ---- what a device may hold

  -- a file of these or those groups
  abbrev IsEitherFile : Schema → Settings → Analyzer → List (List Document) → List (List Document) → List ℕ → Type 0
  IsEitherFile schema settings cut one other image = IsFileOf schema settings cut one image ⊎ IsFileOf schema settings cut other image

  -- a crash leaves files of these or those groups alone
  abbrev pub MayHold : Schema → Settings → Analyzer → D → List (List Document) → List (List Document) → Type 0
  MayHold schema settings cut device one other = LeavesNow d.content d.unsynced device (IsEitherFile schema settings cut one other)

  -- likewise of an index's device
  abbrev pub MayHoldIn : Index D A d a → D → List (List Document) → List (List Document) → Type 0
  MayHoldIn index device one other = MayHold (schema_of index) (settings_of index) (a.analyze (analyzer_of index)) device one other

  -- an index that rests holds its groups
  rests_hold : (index : Index D A d a) (c : calls.Configuration) (x : calls.Index) (other : List (List Document)) → IndexStands a.analyze index c x → IndexRests index → MayHoldIn index (device_of index) x.state.groups other
  rests_hold index c x other s rests image is =
      let device = device_of index in
      let says = rests_say (schema_of index) (settings_of index) (a.analyze (analyzer_of index)) (members_of index) x.state.groups (d.content device) (d.unsynced device) (gate_of index) rests (stands_groups a.analyze index.index_state c x s) in
      inl (rests.bodies, rest_images rests.bodies (d.content device) image (gate_of index) rests.at_rest (subst (λ (u : Unsynced). IsImage (d.content device) u image) rests.synced is), says)

  -- of files of the same bodies
  same_either : (schema : Schema) (settings : Settings) (cut : Analyzer) (one other : List (List Document)) (bytes image : List ℕ) → HasSameBodies bytes image → IsEitherFile schema settings cut one other bytes → IsEitherFile schema settings cut one other image
  same_either schema settings cut one other bytes image same is = ⊎_elim (λ first. inl (same_groups schema settings cut one bytes image same first)) (λ second. inr (same_groups schema settings cut other bytes image same second)) is

  -- what a crash of a call leaves is of the groups before it or after it
  either_says : (old new : Index D A d a) (one other : List (List Document)) (image : List ℕ) → (either : CrashLeavesEither a.analyze old new one other) → IsOneOf either.first either.second image → IsEitherFile (schema_of old) (settings_of old) (a.analyze (analyzer_of old)) one other image
  either_says old new one other image either is = ⊎_elim
      (λ first. inl (either.first, first, either.says_one))
      (λ second. ⊎_elim (λ says. inl (either.second, second, says)) (λ says. inr (either.second, second, says)) either.says_other)
      is

  either_file : (old new : Index D A d a) (one other : List (List Document)) (image : List ℕ) → CrashLeavesEither a.analyze old new one other → d.left_since (device_of new) (d.moment (device_of old)) image
      → IsEitherFile (schema_of old) (settings_of old) (a.analyze (analyzer_of old)) one other image
  either_file old new one other image either left = either_says old new one other image either (either.images.each_image image left)

  -- of both at once
  left_both : (old new : D) (P Q : List ℕ → Type 0) → LeavesOnly d.moment d.left_since old new P → LeavesOnly d.moment d.left_since old new Q → LeavesOnly d.moment d.left_since old new (λ image. P image × Q image)
  left_both old new P Q first second = record {
    later = first.later;
    each_image = λ image left. (first.each_image image left, second.each_image image left);
    before = λ t image le left. ⊎_elim (λ past. inl past) (λ p. ⊎_elim (λ past. inl past) (λ q. inr (p, q)) (second.before t image le left)) (first.before t image le left);
  }

  -- a file of these or those groups whose every record gives its list
  given_either : (schema : Schema) (settings : Settings) (cut : Analyzer) (one other : List (List Document)) (image : List ℕ) → IsEitherFile schema settings cut one other image → HasLists schema settings cut image → LeavesOneOf schema settings cut one other image
  given_either schema settings cut one other image is have = ⊎_elim (λ first. inl (given_last schema settings cut one image first have)) (λ second. inr (given_last schema settings cut other image second have)) is

  -- an index that is made alike holds the same
  hold_alike : (old new : Index D A d a) (device : D) (one other : List (List Document)) → KeepsMaking old new → MayHoldIn old device one other → MayHoldIn new device one other
  hold_alike old new device one other made hold =
      subst (λ s. MayHold s (settings_of new) (a.analyze (analyzer_of new)) device one other) (sym made.schema)
      (subst (λ u. MayHold (schema_of old) u (a.analyze (analyzer_of new)) device one other) (sym made.settings)
      (subst (λ (z : A). MayHold (schema_of old) (settings_of old) (a.analyze z) device one other) (sym made.analyzer) hold))

  -- what a restarted device holds is what the crash left
  restarted_now : (device : D) (image : List ℕ) (P : List ℕ → Type 0) → IsRestarted d a device image → P image → LeavesNow d.content d.unsynced device P
  restarted_now device image P restarted p now is =
      let there : IsImage image (settled (length image)) now = subst (λ (l : List ℕ). IsImage l (settled (length image)) now) restarted.content (subst (λ (u : Unsynced). IsImage (d.content device) u now) restarted.synced is) in
      subst P (sym (settled-image image now there)) p

  -- an opening leaves what was there
  opened_keeps : (cut : Analyzer) (P : List ℕ → Type 0) → ((bytes image : List ℕ) → HasSameBodies bytes image → P bytes → P image) → (device : D) (result : Result (Index D A d a) (Refused D A)) → IsOpening a.analyze cut device result → IsTrue (d.honest device) → LeavesNow d.content d.unsynced device P
      → LeavesOnly d.moment d.left_since device (device_after result) P
  opened_keeps cut P keeps device result opening h now =
      stays d.moment d.left_since d.content d.unsynced device (device_after result) P (remains device h) (opening.images h) now (λ image same is. keeps (d.content device) image same is)

  -- openings and crashes of them leave what was there, where it is said of files by their bodies
  recovered : (cut : Analyzer) (P : List ℕ → Type 0) → ((bytes image : List ℕ) → HasSameBodies bytes image → P bytes → P image) → (one two : D) → Recovers d a cut one two → IsTrue (d.honest one) → LeavesNow d.content d.unsynced one P → IsTrue (d.honest two) × LeavesNow d.content d.unsynced two P
  recovered cut P keeps _ _ (Recovers.at_once device) h now = (h, now)
  recovered cut P keeps _ _ (Recovers.refused one two result opening rest) h now =
      let run = opened_keeps cut P keeps one result opening h now in
      let honest = opening.honest ∙ h in
      recovered cut P keeps (device_after result) two rest honest (λ image is. run.each_image image (counts_now (device_after result) (d.moment one) image honest run.later is))
  recovered cut P keeps _ _ (Recovers.crashed one two three result opening crash rest) h now =
      let run = opened_keeps cut P keeps one result opening h now in
      recovered cut P keeps two three rest crash.restarted.honest (restarted_now two crash.image P crash.restarted (run.each_image crash.image crash.left))

  -- ---- every record of each image gives its list

  abbrev pub HaveLists : Index D A d a → calls.Configuration → D → Type 0
  HaveLists index c device = LeavesNow d.content d.unsynced device (HasLists (schema_of index) (settings_of index) c.analyze)

  -- the analyzer of an index that stands
  cuts_so : (c : calls.Configuration) (x : calls.Index) (index : Index D A d a) → IndexStands a.analyze index c x → c.analyze ≡ a.analyze (analyzer_of index)
  cuts_so c x index s = ap (λ (m : calls.Configuration). m.analyze) s.made

  lists_of : (c : calls.Configuration) (x : calls.Index) (index : Index D A d a) → IndexStands a.analyze index c x → HaveLists index c (device_of index) → ImagesHaveLists a.analyze index
  lists_of c x index s have image is = subst (λ cut. HasLists (schema_of index) (settings_of index) cut image) (cuts_so c x index s) (have image is)

  lists_alike : (c : calls.Configuration) (x : calls.Index) (old new : Index D A d a) (image : List ℕ) → IndexStands a.analyze old c x → KeepsMaking old new → HasLists (schema_of old) (settings_of old) (a.analyze (analyzer_of old)) image → HasLists (schema_of new) (settings_of new) c.analyze image
  lists_alike c x old new image s made has =
      subst (λ t. HasLists t (settings_of new) c.analyze image) (sym made.schema) (subst (λ u. HasLists (schema_of old) u c.analyze image) (sym made.settings) (subst (λ cut. HasLists (schema_of old) (settings_of old) cut image) (sym (cuts_so c x old s)) has))

  -- after a call, where a file rested or stayed
  lists_called : (c : calls.Configuration) (x : calls.Index) (old new : Index D A d a) (call : calls.Call) (outcome : Outcome) → IndexStands a.analyze old c x → IsTrue (d.honest (device_of old)) → IsCalled a.analyze old new call outcome → IndexRests old ⊎ KeepsFile old new → HaveLists old c (device_of old) → HaveLists new c (device_of new)
  lists_called c x old new call outcome s h did (inl rests) have image is =
      let run = did.lists c x s h rests (lists_of c x old s have) in
      lists_alike c x old new image s did.made (run.each_image image (counts_now (device_of new) (d.moment (device_of old)) image (did.honest ∙ h) run.later is))
  lists_called c x old new call outcome s h did (inr file) have image is =
      lists_alike c x old new image s did.made (lists_of c x old s have image (subst (λ (q : D). IsImage (d.content q) (d.unsynced q) image) file.0 is))

  -- ---- an index agrees with a standing

  module _ (H : Type 0) where
    pub record Agrees (c : calls.Configuration) (s : Standing) (index : Index D A d a) : Type 0 where
      pub stands : IndexStands a.analyze index c s.index
      pub honest : IsTrue (d.honest (device_of index))
      pub file : (IndexRests index × (s.other ≡ s.index.state.groups)) ⊎ ((s.index.status ≡ calls.closed) × MayHoldIn index (device_of index) s.index.state.groups s.other)
      -- under a premise every record of each image gives its list
      pub lists : H → HaveLists index c (device_of index)

    -- what it may hold
    held : (c : calls.Configuration) (s : Standing) (index : Index D A d a) → Agrees c s index → MayHoldIn index (device_of index) s.index.state.groups s.other
    held c s index agrees = ⊎_elim (λ rests. rests_hold index c s.index s.other agrees.stands rests.0) (λ closed. closed.1) agrees.file

    -- an index that is opened agrees with one of two
    opened_agrees : (c : calls.Configuration) (old : Index D A d a) (x : calls.Index) (device : D) (one other : List (List Document)) (mid : Index D A d a) → IndexStands a.analyze old c x → IsTrue (d.honest device) → MayHoldIn old device one other → (H → HaveLists old c device)
        → Reopens d a (a.analyze (analyzer_of old)) device mid → Agrees c (standing_of one) mid ⊎ Agrees c (standing_of other) mid
    opened_agrees c old x device one other mid s h hold have reopens =
        let schema = schema_of old in
        let settings = settings_of old in
        let cut = a.analyze (analyzer_of old) in
        let last = reopens.last in
        let left = recovered cut (IsEitherFile schema settings cut one other) (same_either schema settings cut one other) device last reopens.recovers h hold in
        let is = reopens.opens.opened in
        let stand : (groups : List (List Document)) → IsFileOf schema settings cut groups (d.content last) → Agrees c (standing_of groups) mid =
        λ groups file.
        (let of = of_its_groups (schema_of mid) schema (settings_of mid) settings cut (members_of mid) groups (d.content last) (is.file left.0) file in
        let made : configuration_of (schema_of mid) cut (settings_of mid) ≡ c = ap₂ (λ t n. configuration_of t cut n) of.0 of.1 ∙ sym s.made in
        record {
          stands = subst (λ m. IndexStands a.analyze mid m (reopened groups)) made (is.stands groups of.2);
          honest = reopens.opens.honest ∙ left.0;
          file = inl (is.rests left.0, refl);
          lists = λ premise image now. (
              let P : List ℕ → Type 0 = HasLists schema settings c.analyze in
              let then = recovered cut P (same_have schema settings c.analyze) device last reopens.recovers h (have premise) in
              let run = opened_keeps cut P (same_have schema settings c.analyze) last (Ok mid) reopens.opens then.0 then.1 in
              subst (λ t. HasLists t (settings_of mid) c.analyze image) (sym of.0) (subst (λ u. HasLists schema u c.analyze image) (sym of.1)
              (run.each_image image (counts_now (device_of mid) (d.moment last) image (reopens.opens.honest ∙ left.0) run.later now))));
        }) in
        ⊎_elim (λ first. inl (stand one first)) (λ second. inr (stand other second)) (left.1 (d.content last) (remains last left.0))

    -- ---- a call

    -- the file after a call, where it rested before
    rested_file : (c : calls.Configuration) (s : Standing) (old new : Index D A d a) (call : calls.Call) (outcome : Outcome) (y : calls.Index) → Agrees c s old → IndexRests old → s.other ≡ s.index.state.groups → IsCalled a.analyze old new call outcome
        → calls.Leaves c s.index call (ending outcome) y
        → (IndexRests new × (other_after c s call outcome ≡ y.state.groups)) ⊎ ((y.status ≡ calls.closed) × MayHoldIn new (device_of new) y.state.groups (other_after c s call outcome))
    rested_file c s old new call (Ok answer) y agrees rests same did leaves =
        inl (did.rests c s.index agrees.stands agrees.honest rests, sym (ap (λ (z : calls.Index). z.state.groups) (left_answered c s.index call leaves refl).1))
    rested_file c s old new call (Err fault) y agrees rests same did leaves = go fault y leaves did
      where
        kept : (f : Fault) (z : calls.Index) → IsCalled a.analyze old new call (Err f) → f ≢ faults.Device → z.state.groups ≡ s.index.state.groups
            → (IndexRests new × (other_after c s call (Err f) ≡ z.state.groups)) ⊎ ((z.status ≡ calls.closed) × MayHoldIn new (device_of new) z.state.groups (other_after c s call (Err f)))
        kept f z made other groups = inl (rests_still a.analyze only_now old new made.made (made.kept other) rests, other_kept c s call f other ∙ (same ∙ sym groups))

        go : (f : Fault) (z : calls.Index) → calls.Leaves c s.index call (Err f) z → IsCalled a.analyze old new call (Err f)
            → (IndexRests new × (other_after c s call (Err f) ≡ z.state.groups)) ⊎ ((z.status ≡ calls.closed) × MayHoldIn new (device_of new) z.state.groups (other_after c s call (Err f)))
        go _ _ (calls.Leaves.refused f is) made = kept f s.index made (no_device c s.index call f is) refl
        go _ _ (calls.Leaves.memory_refused open_ writes) made = kept faults.OutOfMemory s.index made (λ e. cc) refl
        go _ _ (calls.Leaves.limit_refused is writes) made = kept faults.Limit s.index made (λ e. cc) refl
        go _ _ (calls.Leaves.half_written _ calls.IsWant.no_memory is writes) made = kept faults.OutOfMemory (record { state = s.index.state; status = calls.writer_closed }) made (λ e. cc) refl
        go _ _ (calls.Leaves.half_written _ calls.IsWant.limit_met is writes) made = kept faults.Limit (record { state = s.index.state; status = calls.writer_closed }) made (λ e. cc) refl
        go _ _ (calls.Leaves.device_failed is writes) made =
            let either = made.any_moment c s.index agrees.stands agrees.honest rests in
            let after = (calls.after c s.index.state call).groups in
            let is_after : groups_after c s.index call ≡ after = ap (λ o. unless_refused o after s.index.state.groups) is in
            let hold : MayHoldIn old (device_of new) s.index.state.groups (groups_after c s.index call) =
            λ image now. either_file old new s.index.state.groups (groups_after c s.index call) image either (counts_now (device_of new) (d.moment (device_of old)) image (made.honest ∙ agrees.honest) either.images.later now) in
            inr (refl, hold_alike old new (device_of new) s.index.state.groups after made.made (subst (MayHoldIn old (device_of new) s.index.state.groups) is_after hold))
        go _ _ (calls.Leaves.slot_damaged is reads) made = kept (faults.Damaged None) s.index made (λ e. cc) refl

    -- a closed index keeps its file
    closed_keeps : (c : calls.Configuration) (x y : calls.Index) (old new : Index D A d a) (call : calls.Call) (outcome : Outcome) → IsCalled a.analyze old new call outcome → calls.Leaves c x call (ending outcome) y → x.status ≡ calls.closed → KeepsFile old new
    closed_keeps c x y old new call (Ok answer) did leaves closed = absurd (true≢false (ap is_done (left_closed c x call leaves closed).0))
    closed_keeps c x y old new call (Err fault) did leaves closed =
        did.kept (λ device. let is : faults.Device ≡ faults.Closed = sym device ∙ ap error_in (left_closed c x call leaves closed).0 in cc)

    -- and what it may have
    closed_other : (c : calls.Configuration) (s : Standing) (y : calls.Index) (call : calls.Call) (outcome : Outcome) → calls.Leaves c s.index call (ending outcome) y → s.index.status ≡ calls.closed → other_after c s call outcome ≡ s.other
    closed_other c s y call (Ok answer) leaves closed = absurd (true≢false (ap is_done (left_closed c s.index call leaves closed).0))
    closed_other c s y call (Err fault) leaves closed =
        other_kept c s call fault (λ device. let is : faults.Device ≡ faults.Closed = sym device ∙ ap error_in (left_closed c s.index call leaves closed).0 in cc)

    closed_file : (c : calls.Configuration) (s : Standing) (old new : Index D A d a) (call : calls.Call) (outcome : Outcome) (y : calls.Index) → IsCalled a.analyze old new call outcome → s.index.status ≡ calls.closed → MayHoldIn old (device_of old) s.index.state.groups s.other
        → calls.Leaves c s.index call (ending outcome) y → (y.status ≡ calls.closed) × MayHoldIn new (device_of new) y.state.groups (other_after c s call outcome)
    closed_file c s old new call outcome y did closed hold leaves =
        let same : y ≡ s.index = (left_closed c s.index call leaves closed).1 in
        let file = closed_keeps c s.index y old new call outcome did leaves closed in
        let moved : MayHoldIn new (device_of new) s.index.state.groups s.other = subst (λ (q : D). MayHoldIn new q s.index.state.groups s.other) (sym file.0) (hold_alike old new (device_of old) s.index.state.groups s.other did.made hold) in (
          ap (λ (z : calls.Index). z.status) same ∙ closed,
          subst (λ (z : calls.Index). MayHoldIn new (device_of new) z.state.groups (other_after c s call outcome)) (sym same)
              (subst (MayHoldIn new (device_of new) s.index.state.groups) (sym (closed_other c s y call outcome leaves closed)) moved),
        )

    called_agrees : (c : calls.Configuration) (s : Standing) (old new : Index D A d a) (call : calls.Call) (outcome : Outcome) → Agrees c s old → IsCalled a.analyze old new call outcome
        → (y : calls.Index) × calls.Leaves c s.index call (ending outcome) y × IsTold c s.index call outcome × Agrees c (record { index = y; other = other_after c s call outcome }) new
    called_agrees c s old new call outcome agrees did =
        let told = did.stands c s.index agrees.stands in (
          told.0,
          told.1,
          told.2,
          record {
            stands = told.3;
            honest = did.honest ∙ agrees.honest;
            file = ⊎_elim (λ rests. rested_file c s old new call outcome told.0 agrees rests.0 rests.1 did told.1) (λ closed. inr (closed_file c s old new call outcome told.0 did closed.0 closed.1 told.1)) agrees.file;
            lists = λ premise. (
                let kept = ⊎_elim (λ rests. inl rests.0) (λ closed. inr (closed_keeps c s.index told.0 old new call outcome did told.1 closed.0)) agrees.file in
                lists_called c s.index old new call outcome agrees.stands agrees.honest did kept (agrees.lists premise));
          },
        )

    -- ---- a call that was cut off

    -- a closed index left what it held
    left_closed_file : (c : calls.Configuration) (s : Standing) (old : Index D A d a) (call : calls.Call) (device : D) → Agrees c s old → (cuts : CutsOff d a old call device) → s.index.status ≡ calls.closed → IsImage (d.content (device_of old)) (d.unsynced (device_of old)) cuts.crashes.image
    left_closed_file c s old call device agrees cuts closed =
        let told = cuts.would_be.stands c s.index agrees.stands in
        let file = closed_keeps c s.index told.0 old cuts.new call cuts.outcome cuts.would_be told.1 closed in
        only_now (device_of old) cuts.crashes.image agrees.honest (subst (λ (q : D). d.left_since q (d.moment (device_of old)) cuts.crashes.image) file.0 cuts.crashes.left)

    -- what a device is restarted with
    cut_hold : (c : calls.Configuration) (s : Standing) (old : Index D A d a) (call : calls.Call) (device : D) → Agrees c s old → CutsOff d a old call device → MayHoldIn old device s.index.state.groups (other_within c s call)
    cut_hold c s old call device agrees cuts =
        let cut = a.analyze (analyzer_of old) in
        let image = cuts.crashes.image in
        let P : List (List Document) → List ℕ → Type 0 = IsEitherFile (schema_of old) (settings_of old) cut s.index.state.groups in
        ⊎_elim
        (λ rests.
        (let after = (calls.after c s.index.state call).groups in
        let same : groups_after c s.index call ≡ other_within c s call = ap (λ groups. unless_refused (calls.call_fault c s.index call) after groups) (sym rests.1) in
        let left = either_file old cuts.new s.index.state.groups (groups_after c s.index call) image (cuts.would_be.any_moment c s.index agrees.stands agrees.honest rests.0) cuts.crashes.left in
        subst (MayHoldIn old device s.index.state.groups) same (restarted_now device image (P (groups_after c s.index call)) cuts.crashes.restarted left)))
        (λ closed.
        (let refused : calls.call_fault c s.index call ≡ Some faults.Closed = status_refuses c s.index call faults.Closed (ap (λ status. calls.status_fault status (calls.only_reads call)) closed.0) in
        let same : s.other ≡ other_within c s call = sym (ap (λ o. unless_refused o (calls.after c s.index.state call).groups s.other) refused) in
        subst (MayHoldIn old device s.index.state.groups) same (restarted_now device image (P s.other) cuts.crashes.restarted (closed.1 image (left_closed_file c s old call device agrees cuts closed.0)))))
        agrees.file

    -- and by its lists
    cut_lists : (c : calls.Configuration) (s : Standing) (old : Index D A d a) (call : calls.Call) (device : D) → Agrees c s old → CutsOff d a old call device → H → HaveLists old c device
    cut_lists c s old call device agrees cuts premise =
        let image = cuts.crashes.image in
        let P : List ℕ → Type 0 = HasLists (schema_of old) (settings_of old) c.analyze in
        let have = agrees.lists premise in
        restarted_now device image P cuts.crashes.restarted (⊎_elim
        (λ rests. subst (λ cut. HasLists (schema_of old) (settings_of old) cut image) (sym (cuts_so c s.index old agrees.stands))
        ((cuts.would_be.lists c s.index agrees.stands agrees.honest rests.0 (lists_of c s.index old agrees.stands have)).each_image image cuts.crashes.left))
        (λ closed. have image (left_closed_file c s old call device agrees cuts closed.0))
        agrees.file)

    -- ---- each image by its lists

    pub lists_now : (c : calls.Configuration) (s : Standing) (index : Index D A d a) → Agrees c s index → H → LeavesNow d.content d.unsynced (device_of index) (LeavesOneOf (schema_of index) (settings_of index) (a.analyze (analyzer_of index)) s.index.state.groups s.other)
    lists_now c s index agrees premise image is =
        given_either (schema_of index) (settings_of index) (a.analyze (analyzer_of index)) s.index.state.groups s.other image (held c s index agrees image is) (lists_of c s.index index agrees.stands (agrees.lists premise) image is)

    -- while a call is made
    pub lists_inside : (c : calls.Configuration) (s : Standing) (old new : Index D A d a) (call : calls.Call) (outcome : Outcome) → Agrees c s old → IsCalled a.analyze old new call outcome → H
        → LeavesOnly d.moment d.left_since (device_of old) (device_of new) (LeavesOneOf (schema_of old) (settings_of old) (a.analyze (analyzer_of old)) s.index.state.groups (other_within c s call))
    lists_inside c s old new call outcome agrees did premise =
        let schema = schema_of old in
        let settings = settings_of old in
        let cut = a.analyze (analyzer_of old) in
        let one = s.index.state.groups in
        let P : List (List Document) → List ℕ → Type 0 = LeavesOneOf schema settings cut one in
        let after = (calls.after c s.index.state call).groups in
        ⊎_elim
        (λ rests.
        (let other = groups_after c s.index call in
        let same : other ≡ other_within c s call = ap (λ groups. unless_refused (calls.call_fault c s.index call) after groups) (sym rests.1) in
        let either = did.any_moment c s.index agrees.stands agrees.honest rests.0 in
        let have = did.lists c s.index agrees.stands agrees.honest rests.0 (lists_of c s.index old agrees.stands (agrees.lists premise)) in
        subst (λ groups. LeavesOnly d.moment d.left_since (device_of old) (device_of new) (P groups)) same
        (weaker d.moment d.left_since (device_of old) (device_of new) (λ image. IsOneOf either.first either.second image × HasLists schema settings cut image) (P other)
        (left_both (device_of old) (device_of new) (IsOneOf either.first either.second) (HasLists schema settings cut) either.images have)
        (λ image is. given_either schema settings cut one other image (either_says old new one other image either is.0) is.1))))
        (λ closed.
        (let told = did.stands c s.index agrees.stands in
        let file = closed_keeps c s.index told.0 old new call outcome did told.1 closed.0 in
        let refused : calls.call_fault c s.index call ≡ Some faults.Closed = status_refuses c s.index call faults.Closed (ap (λ status. calls.status_fault status (calls.only_reads call)) closed.0) in
        let same : s.other ≡ other_within c s call = sym (ap (λ o. unless_refused o after s.other) refused) in
        subst (λ groups. LeavesOnly d.moment d.left_since (device_of old) (device_of new) (P groups)) same
        (subst (λ (q : D). LeavesOnly d.moment d.left_since (device_of old) q (P s.other)) (sym file.0)
        (started d.moment d.left_since (device_of old) (P s.other) (λ image left. lists_now c s old agrees premise image (only_now (device_of old) image agrees.honest left))))))
        agrees.file

    -- ---- a history

    pub follows : (c : calls.Configuration) (s : Standing) (first last : Index D A d a) (events : List Event) → Agrees c s first → LeadsTo d a first events last → (t : Standing) × MayLead c s events t × Agrees c t last
    follows c s first last [] agrees leads = (s, refl, subst (Agrees c s) (sym leads) agrees)
    follows c s first last (called call outcome ∷ events) agrees (mid, did, rest) =
        let told = called_agrees c s first mid call outcome agrees did in
        let on = follows c (record { index = told.0; other = other_after c s call outcome }) mid last events told.3 rest in
        (on.0, (told.0, told.1, told.2, on.1), on.2)
    follows c s first last (cut_off call ∷ events) agrees (device, cuts, mid, reopens, rest) =
        ⊎_elim
        (λ one. (let on = follows c (standing_of s.index.state.groups) mid last events one rest in (on.0, inl on.1, on.2)))
        (λ other. (let on = follows c (standing_of (other_within c s call)) mid last events other rest in (on.0, inr on.1, on.2)))
        (opened_agrees c first s.index device s.index.state.groups (other_within c s call) mid agrees.stands cuts.crashes.restarted.honest (cut_hold c s first call device agrees cuts) (cut_lists c s first call device agrees cuts) reopens)
    follows c s first last (opened ∷ events) agrees (mid, reopens, rest) =
        ⊎_elim
        (λ one. (let on = follows c (standing_of s.index.state.groups) mid last events one rest in (on.0, inl on.1, on.2)))
        (λ other. (let on = follows c (standing_of s.other) mid last events other rest in (on.0, inr on.1, on.2)))
        (opened_agrees c first s.index (device_of first) s.index.state.groups s.other mid agrees.stands agrees.honest (held c s first agrees) agrees.lists reopens)
