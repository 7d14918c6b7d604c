-- What a crash leaves at any moment of a line, by the lists of its files, and what stands after a device failed in one.
use Rattle.std.proofs.Common.{[], Bool, IsTrue, List, None, Ok, Option, Some, ap, inl, inr, refl, subst, sym, true, true≢false, ◌∙◌, ◌∷◌, ◌≡◌, ◌≢◌, ◌≤◌, ◌⊎◌, ⊎_elim, ℕ}
use Rattle.common.specs.declared.analyzer.Analyzer as analyzers
use Rattle.common.specs.declared.device.Device as devices
use Rattle.definitions.proofs.CallRuns.{started, weaker}
use Rattle.definitions.proofs.OwnFaults.{taken_or_kept}
use Rattle.definitions.specs.Analyzers.{Analyzer}
use Rattle.definitions.specs.Calls as calls
use Rattle.definitions.specs.Disk.{IsImage}
use Rattle.definitions.specs.Moments.{LeavesOnly}
use Rattle.definitions.specs.Requests as requests
use Rattle.definitions.specs.Schema.{Schema}
use Rattle.definitions.specs.Settings.{Settings}
use Rattle.definitions.specs.Step as steps
use Rattle.definitions.specs.Values.{Document}
use Rattle.definitions.specs.declared.fault.Fault.TheVariants as faults
use Rattle.engine.proofs.FileSayings.{last_groups, no_bytes}
use Rattle.engine.proofs.ListsLeft.{same_none, same_one_file, same_one_of, stays}
use Rattle.engine.specs.Files.{HasSameBodies, LeavesNone, LeavesOneOf}
use Rattle.engine.specs.Indexes.{ImagesLeave, KeepsFile, analyzer_of, device_of, schema_of, settings_of}
use Rattle.engine.specs.declared.index.Index.{Index}
use Rattle.index.proofs.LineCrashes.{asks_index, if_err_at, index_or, left_groups, not_read}
use Rattle.index.proofs.SessionSteps.{ready_taken}
use Rattle.index.proofs.Stages.{open_stands}
use Rattle.index.specs.Asking.{Asks, AsksIndex, AsksOf, Creates, LeavesOn, LeftOn}
use Rattle.index.specs.Replied.{AreGiven, HasNoDocuments}
use Rattle.index.specs.Sessions.{HasHeld, HasStage, HoldsOn, IsIndex, MakesIndex, device_on, honest_on}
use Rattle.index.specs.declared.stage.Stage.{Stage}
use Rattle.index.specs.declared.stage.Stage.TheVariants.{Spare, Standing}
use Rattle.index_file.specs.Kept.{LeavesNow}
use Rattle.layouts.specs.RecordFiles.{IsNoIndex, IsOneOf}
use Rattle.segment_definitions.specs.IndexFiles.{LeavesGroups}

-- what makes an index, or opens one, is no call of one
makes_no_call : (schema : Schema) (r : requests.Request) (call : calls.Call) → MakesIndex (Some r) → steps.call_in schema r ≡ Ok call → ⊥
makes_no_call schema (requests.create_index d more) call makes read = not_read _ call read
makes_no_call schema requests.open_index call makes read = not_read _ call read
makes_no_call schema (requests.add_doc d) call makes read = makes
makes_no_call schema (requests.delete_docs d) call makes read = makes
makes_no_call schema (requests.merge_groups from to) call makes read = makes
makes_no_call schema requests.commit_all call makes read = makes
makes_no_call schema (requests.search_docs d k) call makes read = makes
makes_no_call schema (requests.count_docs d) call makes read = makes

-- a file that gives lists has a byte
has_byte : (schema : Schema) (settings : Settings) (cut : Analyzer) (one other : List (List Document)) (bytes : List ℕ) → LeavesOneOf schema settings cut one other bytes → bytes ≢ []
has_byte schema settings cut one other bytes (inl (lists, f, last)) = no_bytes (f.first ∷ f.bodies) bytes f.file
has_byte schema settings cut one other bytes (inr (lists, f, last)) = no_bytes (f.first ∷ f.bodies) bytes f.file

one_file_has_byte : (a b : List (List ℕ)) (bytes : List ℕ) → IsOneOf a b bytes → bytes ≢ []
one_file_has_byte a b bytes (inl file) = no_bytes a bytes file
one_file_has_byte a b bytes (inr file) = no_bytes b bytes file

-- what a session stands for after what was asked of it
abbrev stage_after : steps.Analysis → steps.Stage → Option requests.Request → steps.Stage
stage_after a stage asked = (steps.step (record { analysis = a; stage = stage }) asked).1.stage

-- bytes of what a device holds before what was asked, or after it
abbrev pub AreEither : steps.Analysis → steps.Stage → Option requests.Request → List ℕ → Type 0
AreEither a stage asked image = AreGiven a.analyze (steps.held_by stage) image ⊎ AreGiven a.analyze (steps.held_by (stage_after a stage asked)) image

module _ {D A : Type 0} (d : devices.Ghosts D) (an : analyzers.Ghosts A) (knows : A → List ℕ → Bool) (analyze : A → Analyzer)
    (only_now : (device : D) (image : List ℕ) → IsTrue (d.honest device) → d.left_since device (d.moment device) image → IsImage (d.content device) (d.unsynced device) image)
    (counts_now : (device : D) (t : ℕ) (image : List ℕ) → IsTrue (d.honest device) → t ≤ d.moment device → IsImage (d.content device) (d.unsynced device) image → d.left_since device t image)
    (remains : (device : D) → IsTrue (d.honest device) → IsImage (d.content device) (d.unsynced device) (d.content device)) where
  -- what a crash leaves at any moment from one device to another
  abbrev Runs : D → D → (List ℕ → Type 0) → Type 0
  Runs old new P = LeavesOnly d.moment d.left_since old new P

  abbrev pub RunsOn : Option (Stage D A d an) → Option (Stage D A d an) → (List ℕ → Type 0) → Type 0
  RunsOn (Some old) (Some new) P = Runs (device_on old) (device_on new) P
  RunsOn _ _ P = ⊥

  -- of a device of which no call was made
  kept_runs : (old new : D) (P : List ℕ → Type 0) → IsTrue (d.honest old) → new ≡ old → LeavesNow d.content d.unsynced old P → Runs old new P
  kept_runs old new P honest same now = subst (λ (e : D). Runs old e P) (sym same) (started d.moment d.left_since old P (λ image left. now image (only_now old image honest left)))

  pub run_leaves : (before after : Option (Stage D A d an)) (P : List ℕ → Type 0) (image : List ℕ) → RunsOn before after P → LeftOn before after image → P image
  run_leaves None after P image runs left = absurd runs
  run_leaves (Some old) None P image runs left = absurd runs
  run_leaves (Some old) (Some new) P image runs left = runs.each_image image left

  -- and at the end
  pub run_ends : (before after : Option (Stage D A d an)) (P : List ℕ → Type 0) → RunsOn before after P → IsTrue (honest_on after) → LeavesOn after P
  run_ends None after P runs honest = absurd runs
  run_ends (Some old) None P runs honest = absurd runs
  run_ends (Some old) (Some new) P runs honest = λ image is. runs.each_image image (counts_now (device_on new) (d.moment (device_on old)) image honest runs.later is)

  -- ---- an index is to be made, or opened

  making_runs : (old new : Stage D A d an) (P : List ℕ → Type 0) (asked : Option requests.Request) → IsTrue (d.honest (device_on old)) → LeavesNow d.content d.unsynced (device_on old) P
      → ((image : List ℕ) → HasSameBodies (d.content (device_on old)) image → P (d.content (device_on old)) → P image) → (Creates old new → Runs (device_on old) (device_on new) P) → MakesIndex asked → Asks knows analyze old new asked → Runs (device_on old) (device_on new) P
  making_runs old new P _ honest now keeps creates makes (Asks.nothing asked same) = kept_runs (device_on old) (device_on new) P honest same now
  making_runs old new P _ honest now keeps creates makes (Asks.to_create fields numbers unready created) = creates created
  making_runs old new P _ honest now keeps creates makes (Asks.to_open unready opens) = stays d.moment d.left_since d.content d.unsynced (device_on old) (device_on new) P (remains (device_on old) honest) (opens honest) now keeps
  making_runs old new P _ honest now keeps creates makes (Asks.of_index was after r old_is then_is asks) = go asks
    where
      go : AsksIndex analyze was after r → Runs (device_on old) (device_on new) P
      go (inl same) = kept_runs (device_on old) (device_on new) P honest (ap device_on then_is ∙ same ∙ sym (ap device_on old_is)) now
      go (inr (call, read, writing)) = absurd (makes_no_call (schema_of was) r call makes read)

  -- a device with a byte is as it was after a create
  byte_runs : (old new : Stage D A d an) (P : List ℕ → Type 0) → IsTrue (d.honest (device_on old)) → LeavesNow d.content d.unsynced (device_on old) P → (P (d.content (device_on old)) → d.content (device_on old) ≢ []) → Creates old new → Runs (device_on old) (device_on new) P
  byte_runs old new P honest now some creates =
      let device = device_on old in
      weaker d.moment d.left_since device (device_on new) (IsImage (d.content device) (d.unsynced device)) P (creates.stays honest (some (now (d.content device) (remains device honest)))).images_kept now

  -- files of one of two lists
  pub one_of_line : (before after : Option (Stage D A d an)) (schema : Schema) (settings : Settings) (cut : Analyzer) (one other : List (List Document)) (asked : Option requests.Request) → IsTrue (honest_on before) → LeavesOn before (LeavesOneOf schema settings cut one other) → MakesIndex asked
      → AsksOf knows analyze before after asked → RunsOn before after (LeavesOneOf schema settings cut one other)
  one_of_line None after schema settings cut one other asked honest now makes asks = absurd now
  one_of_line (Some old) None schema settings cut one other asked honest now makes asks = absurd asks
  one_of_line (Some old) (Some new) schema settings cut one other asked honest now makes asks =
      let P : List ℕ → Type 0 = LeavesOneOf schema settings cut one other in
      making_runs old new P asked honest now (λ image same is. same_one_of schema settings cut one other (d.content (device_on old)) image same is) (byte_runs old new P honest now (has_byte schema settings cut one other (d.content (device_on old)))) makes asks

  -- no index, or the empty list
  pub none_line : (before after : Option (Stage D A d an)) (cut : Analyzer) (asked : Option requests.Request) → IsTrue (honest_on before) → LeavesOn before (LeavesNone cut) → MakesIndex asked → AsksOf knows analyze before after asked → RunsOn before after (LeavesNone cut)
  none_line None after cut asked honest now makes asks = absurd now
  none_line (Some old) None cut asked honest now makes asks = absurd asks
  none_line (Some old) (Some new) cut asked honest now makes asks = making_runs old new (LeavesNone cut) asked honest now (λ image same is. same_none cut (d.content (device_on old)) image same is) (λ creates. creates.none cut honest now) makes asks

  -- files of one of two lists of bodies
  pub open_line : (before after : Option (Stage D A d an)) (one other : List (List ℕ)) (asked : Option requests.Request) → IsTrue (honest_on before) → LeavesOn before (IsOneOf one other) → MakesIndex asked → AsksOf knows analyze before after asked → RunsOn before after (IsOneOf one other)
  open_line None after one other asked honest now makes asks = absurd now
  open_line (Some old) None one other asked honest now makes asks = absurd asks
  open_line (Some old) (Some new) one other asked honest now makes asks =
      let P : List ℕ → Type 0 = IsOneOf one other in
      making_runs old new P asked honest now (λ image same is. same_one_file one other (d.content (device_on old)) image same is) (byte_runs old new P honest now (one_file_has_byte one other (d.content (device_on old)))) makes asks

  -- ---- a ready index

  module _ (a : steps.Analysis) (before : Index D A d an) (schema : Schema) (settings : Settings) (x : calls.Index) (is : IsIndex knows analyze a before schema settings x) where
    -- what is said of an index's file with its own words, and with those of a session
    as_known : (Q : Schema → Settings → Analyzer → Type 0) → Q (schema_of before) (settings_of before) (analyze (analyzer_of before)) → Q schema settings a.analyze
    as_known Q q =
        let cut : analyze (analyzer_of before) ≡ a.analyze = sym (ap (λ (b : steps.Analysis). b.analyze) is.analysis) in
        subst (λ (k : Analyzer). Q schema settings k) cut (subst (λ (u : Settings). Q schema u (analyze (analyzer_of before))) is.numbers (subst (λ (t : Schema). Q t (settings_of before) (analyze (analyzer_of before))) is.fields q))

    as_own : (Q : Schema → Settings → Analyzer → Type 0) → Q schema settings a.analyze → Q (schema_of before) (settings_of before) (analyze (analyzer_of before))
    as_own Q q =
        let cut : a.analyze ≡ analyze (analyzer_of before) = ap (λ (b : steps.Analysis). b.analyze) is.analysis in
        subst (λ (k : Analyzer). Q (schema_of before) (settings_of before) k) cut (subst (λ (u : Settings). Q (schema_of before) u a.analyze) (sym is.numbers) (subst (λ (t : Schema). Q t settings a.analyze) (sym is.fields) q))

    -- the lists before what was asked, or after it
    abbrev Gives : Option requests.Request → List ℕ → Type 0
    Gives asked = AreEither a (steps.index_of schema settings x) asked

    index_runs : (after : Index D A d an) (r : requests.Request) → IsTrue (d.honest (device_of before)) → x.status ≡ calls.ready → LeavesNow d.content d.unsynced (device_of before) (λ image. LeavesGroups schema settings a.analyze image x.state.groups) → AsksIndex analyze before after r
        → Runs (device_of before) (device_of after) (Gives (Some r))
    index_runs after r honest ready now (inl same) = kept_runs (device_of before) (device_of after) (Gives (Some r)) honest same (λ image given. inl (now image given))
    index_runs after r honest ready now (inr (call, read, writing)) =
        let c = steps.configuration_of schema a.analyze settings in
        let writes = writing.writes c x (open_stands d an knows analyze before c x ready is.stands) in
        let own : ImagesLeave analyze before x.state.groups = as_own (λ t u k. LeavesNow d.content d.unsynced (device_of before) (λ image. LeavesGroups t u k image x.state.groups)) now in
        let reads : steps.call_in schema r ≡ Ok call = subst (λ (t : Schema). steps.call_in t r ≡ Ok call) is.fields read in
        let after_groups = (calls.after c x.state call).groups in
        let runs : Runs (device_of before) (device_of after) (LeavesOneOf schema settings a.analyze x.state.groups after_groups) =
        as_known (λ t u k. Runs (device_of before) (device_of after) (LeavesOneOf t u k x.state.groups after_groups)) (writes.lists honest (is.rests honest ready) own) in
        let later : calls.call_fault c x call ≡ None → (image : List ℕ) → LeavesGroups schema settings a.analyze image after_groups → AreGiven a.analyze (steps.held_by (stage_after a (steps.index_of schema settings x) (Some r))) image =
        λ taken image gives.
        subst (λ (t : steps.Stage). AreGiven a.analyze (steps.held_by t) image) (sym (asks_index a schema settings x r call reads))
        (subst (λ (groups : List (List Document)). LeavesGroups schema settings a.analyze image groups) (left_groups c x r call reads taken) gives) in
        ⊎_elim
        (λ (taken : calls.call_fault c x call ≡ None). weaker d.moment d.left_since (device_of before) (device_of after) (LeavesOneOf schema settings a.analyze x.state.groups after_groups) (Gives (Some r)) runs (λ image one. ⊎_elim (λ first. inl first) (λ second. inr (later taken image second)) one))
        (λ kept. kept_runs (device_of before) (device_of after) (Gives (Some r)) honest (if_err_at writing.change kept.0 (λ fault. fault ≢ faults.Device → KeepsFile before after) kept.1 writing.kept kept.2).0 (λ image given. inl (now image given)))
        (taken_or_kept c x writes.left.0 call writing.change writes.left.1)

    stage_runs : (new : Stage D A d an) (asked : Option requests.Request) → IsTrue (d.honest (device_of before)) → x.status ≡ calls.ready → LeavesNow d.content d.unsynced (device_of before) (λ image. LeavesGroups schema settings a.analyze image x.state.groups) → Asks knows analyze (Standing before) new asked
        → Runs (device_of before) (device_on new) (Gives asked)
    stage_runs new _ honest ready now (Asks.nothing asked same) = kept_runs (device_of before) (device_on new) (Gives asked) honest same (λ image given. inl (now image given))
    stage_runs new _ honest ready now (Asks.to_create fields numbers unready creates) = absurd (true≢false (sym (ap steps.takes_calls ready) ∙ unready a (steps.index_of schema settings x) is))
    stage_runs new _ honest ready now (Asks.to_open unready opens) = absurd (true≢false (sym (ap steps.takes_calls ready) ∙ unready a (steps.index_of schema settings x) is))
    stage_runs new _ honest ready now (Asks.of_index was after r old_is then_is asks) =
        subst (λ (t : Stage D A d an). Runs (device_of before) (device_on t) (Gives (Some r))) (sym then_is)
        (index_runs after r honest ready now (subst (λ (e : Index D A d an). AsksIndex analyze e after r) (sym (ap (index_or before) old_is)) asks))

  pub ready_gives : (a : steps.Analysis) (stage : steps.Stage) (before after : Option (Stage D A d an)) (asked : Option requests.Request) → IsTrue (honest_on before) → HasStage knows analyze a before stage → steps.is_ready stage ≡ true → LeavesOn before (AreGiven a.analyze (steps.held_by stage))
      → AsksOf knows analyze before after asked → RunsOn before after (AreEither a stage asked)
  ready_gives a stage None after asked honest stands ready now asks = absurd now
  ready_gives a stage (Some old) None asked honest stands ready now asks = absurd asks
  ready_gives a (steps.no_index held) (Some old) (Some new) asked honest stands ready now asks = absurd (true≢false (sym ready))
  ready_gives a (steps.index_of schema settings x) (Some (Spare device analyzer)) (Some new) asked honest stands ready now asks = absurd stands
  ready_gives a (steps.index_of schema settings x) (Some (Standing before)) (Some new) asked honest stands ready now asks = stage_runs a before schema settings x stands new asked honest (ready_taken x.status ready) now asks

  -- ---- what a failed device holds

  pub holds_one_of : (after : Option (Stage D A d an)) (schema : Schema) (settings : Settings) (cut : Analyzer) (one other : List (List Document)) (Q : steps.Held → Type 0) → IsTrue (honest_on after) → LeavesOn after (LeavesOneOf schema settings cut one other) → ((now : steps.Held) → HoldsOn cut after now → Q now)
      → Q (steps.file_of schema settings one) ⊎ Q (steps.file_of schema settings other)
  holds_one_of None schema settings cut one other Q honest now stands = absurd now
  holds_one_of (Some stage) schema settings cut one other Q honest now stands =
      let content = d.content (device_on stage) in
      ⊎_elim (λ first. inl (stands (steps.file_of schema settings one) (honest, last_groups schema settings cut one content first)))
      (λ second. inr (stands (steps.file_of schema settings other) (honest, last_groups schema settings cut other content second)))
      (now content (remains (device_on stage) honest))

  no_index_held : (device : D) (cut : Analyzer) (bytes : List ℕ) → IsTrue (d.honest device) → d.content device ≡ bytes → IsNoIndex bytes → (held : steps.Held) × HasNoDocuments held × HasHeld d.honest d.content cut device held
  no_index_held device cut [] honest is none = (steps.no_file, tt, (honest, is))
  no_index_held device cut (byte ∷ bytes) honest is none = (steps.other_bytes (byte ∷ bytes) faults.NoIndex, refl, (honest, is, λ h. cc, inl (refl, none)))

  pub holds_none : (after : Option (Stage D A d an)) (cut : Analyzer) (Q : steps.Held → Type 0) → IsTrue (honest_on after) → LeavesOn after (LeavesNone cut) → ((now : steps.Held) → HoldsOn cut after now → Q now) → (held : steps.Held) × HasNoDocuments held × Q held
  holds_none None cut Q honest now stands = absurd now
  holds_none (Some stage) cut Q honest now stands = go (now content (remains (device_on stage) honest))
    where
      content : List ℕ
      content = d.content (device_on stage)

      go : LeavesNone cut content → (held : steps.Held) × HasNoDocuments held × Q held
      go (inl none) = let h = no_index_held (device_on stage) cut content honest refl none in (h.0, h.1, stands h.0 h.2)
      go (inr (schema, settings, gives)) = (steps.file_of schema settings [], refl, stands (steps.file_of schema settings []) (honest, last_groups schema settings cut [] content gives))
