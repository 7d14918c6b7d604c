-- What a crash leaves at any moment of a line.
use Rattle.std.proofs.Common.{Bool, Err, IfErr, IsTrue, List, None, Ok, Option, Result, Some, ap, inl, inr, refl, subst, sym, true≢false, ◌∙◌, ◌≡◌, ◌≢◌, ◌⊎◌, ⊎_elim, ℕ}
use Rattle.std.specs.Bool.{⊤}
use Rattle.common.specs.declared.analyzer.Analyzer as analyzers
use Rattle.common.specs.declared.device.Device as devices
use Rattle.definitions.proofs.OwnFaults.{taken_or_kept}
use Rattle.definitions.proofs.Steps.{answered_call}
use Rattle.definitions.specs.Analyzers.{Analyzer}
use Rattle.definitions.specs.Calls as calls
use Rattle.definitions.specs.Disk.{IsImage, Unsynced}
use Rattle.definitions.specs.Requests as requests
use Rattle.definitions.specs.Schema.{Schema}
use Rattle.definitions.specs.Settings.{Settings}
use Rattle.definitions.specs.Step as steps
use Rattle.definitions.specs.Values.{Document}
use Rattle.definitions.specs.declared.fault.Fault.{Fault}
use Rattle.definitions.specs.declared.fault.Fault.TheVariants as faults
use Rattle.engine.proofs.Commits.{stands_groups}
use Rattle.engine.proofs.FileSayings.{rests_say}
use Rattle.engine.specs.Files.{IsFileOf}
use Rattle.engine.specs.Indexes.{IndexRests, KeepsFile, analyzer_of, device_of, gate_of, members_of, schema_of, settings_of}
use Rattle.engine.specs.declared.index.Index.{Index}
use Rattle.index.proofs.Stages.{open_stands}
use Rattle.index.specs.Asking.{Asks, AsksIndex, AsksOf, LeftOn}
use Rattle.index.specs.Replied.{AreHeld}
use Rattle.index.specs.Sessions.{HasStage, IsIndex, IsStage, device_on, honest_on}
use Rattle.index.specs.declared.stage.Stage.{Stage}
use Rattle.index.specs.declared.stage.Stage.TheVariants.{Spare, Standing}
use Rattle.index_file.proofs.Images.{rest_images}
use Rattle.layouts.specs.RecordFiles.{IsFile}
use Rattle.serde_json.specs.Data as json

abbrev failed_call : Fault → Result calls.Call Fault
failed_call fault = Err fault

pub not_read : (fault : Fault) (call : calls.Call) → failed_call fault ≡ Ok call → ⊥
not_read fault call e = cc

-- what a request leaves of an index's groups, where its call isn't refused
pub left_groups : (c : calls.Configuration) (x : calls.Index) (r : requests.Request) (call : calls.Call) → steps.call_in c.schema r ≡ Ok call → calls.call_fault c x call ≡ None → (calls.after c x.state call).groups ≡ (steps.index_step c x r).1.state.groups
left_groups c x r call read taken = sym (ap (λ (p : json.Data × calls.Index). p.1.state.groups) (answered_call c x r call read taken))

pub if_err_at : (r : Result ⊤ Fault) (fault : Fault) (P : Fault → Type 0) → r ≡ Err fault → IfErr r P → P fault
if_err_at r fault P is h = subst (λ q. IfErr q P) is h

-- a request that reads as a call is asked of the index that stands
pub asks_index : (a : steps.Analysis) (schema : Schema) (settings : Settings) (x : calls.Index) (r : requests.Request) (call : calls.Call) → steps.call_in schema r ≡ Ok call
    → (steps.stage_step a (steps.index_of schema settings x) r).1 ≡ steps.index_of schema settings (steps.index_step (steps.configuration_of schema a.analyze settings) x r).1
asks_index a schema settings x (requests.create_index d more) call read = absurd (not_read _ call read)
asks_index a schema settings x requests.open_index call read = absurd (not_read _ call read)
asks_index a schema settings x (requests.add_doc d) call read = refl
asks_index a schema settings x (requests.delete_docs d) call read = refl
asks_index a schema settings x (requests.merge_groups from to) call read = refl
asks_index a schema settings x requests.commit_all call read = refl
asks_index a schema settings x (requests.search_docs d k) call read = refl
asks_index a schema settings x (requests.count_docs d) call read = refl

abbrev pub index_or : {D A : Type 0} {d : devices.Ghosts D} {an : analyzers.Ghosts A} → Index D A d an → Stage D A d an → Index D A d an
index_or other (Spare device analyzer) = other
index_or other (Standing index) = index

module _ {D A : Type 0} (d : devices.Ghosts D) (an : analyzers.Ghosts A) (knows : A → List ℕ → Bool) (analyze : A → Analyzer)
    (only_now : (device : D) (image : List ℕ) → IsTrue (d.honest device) → d.left_since device (d.moment device) image → IsImage (d.content device) (d.unsynced device) image) where
  -- a file of an index's groups, with the words of a session
  as_known : (a : steps.Analysis) (index : Index D A d an) (schema : Schema) (settings : Settings) (x : calls.Index) (groups : List (List Document)) (image : List ℕ) → IsIndex knows analyze a index schema settings x
      → IsFileOf (schema_of index) (settings_of index) (analyze (analyzer_of index)) groups image → IsFileOf schema settings a.analyze groups image
  as_known a index schema settings x groups image is file =
      let cut : analyze (analyzer_of index) ≡ a.analyze = sym (ap (λ (b : steps.Analysis). b.analyze) is.analysis) in
      subst (λ (k : Analyzer). IsFileOf schema settings k groups image) cut
      (subst (λ (u : Settings). IsFileOf schema u (analyze (analyzer_of index)) groups image) is.numbers
      (subst (λ (t : Schema). IsFileOf t (settings_of index) (analyze (analyzer_of index)) groups image) is.fields file))

  -- what a crash leaves of an index that rests
  resting_image : (a : steps.Analysis) (index : Index D A d an) (schema : Schema) (settings : Settings) (x : calls.Index) (image : List ℕ) → IsIndex knows analyze a index schema settings x → x.status ≡ calls.ready → IndexRests index
      → IsImage (d.content (device_of index)) (d.unsynced (device_of index)) image → IsFileOf schema settings a.analyze x.state.groups image
  resting_image a index schema settings x image is ready rests now =
      let c = steps.configuration_of schema a.analyze settings in
      let device = device_of index in
      let says = rests_say (schema_of index) (settings_of index) (analyze (analyzer_of index)) (members_of index) x.state.groups (d.content device) (d.unsynced device) (gate_of index) rests (stands_groups analyze index.index_state c x (open_stands d an knows analyze index c x ready is.stands)) in
      let file = rest_images rests.bodies (d.content device) image (gate_of index) rests.at_rest (subst (λ (u : Unsynced). IsImage (d.content device) u image) rests.synced now) in
      as_known a index schema settings x x.state.groups image is (rests.bodies, file, says)

  -- a crash of a ready index whose device was left alone
  kept_leaves : (a : steps.Analysis) (before : Index D A d an) (schema : Schema) (settings : Settings) (x : calls.Index) (image : List ℕ) → IsTrue (d.honest (device_of before)) → IsIndex knows analyze a before schema settings x → x.status ≡ calls.ready
      → (after : Index D A d an) → device_of after ≡ device_of before → d.left_since (device_of after) (d.moment (device_of before)) image → IsFileOf schema settings a.analyze x.state.groups image
  kept_leaves a before schema settings x image honest is ready after same left =
      resting_image a before schema settings x image is ready (is.rests honest ready)
      (only_now (device_of before) image honest (subst (λ (e : D). d.left_since e (d.moment (device_of before)) image) same left))

  -- a crash inside a call of a ready index
  index_leaves : (a : steps.Analysis) (before : Index D A d an) (schema : Schema) (settings : Settings) (x : calls.Index) (r : requests.Request) (image : List ℕ) → IsTrue (d.honest (device_of before)) → IsIndex knows analyze a before schema settings x → x.status ≡ calls.ready
      → (after : Index D A d an) → AsksIndex analyze before after r → d.left_since (device_of after) (d.moment (device_of before)) image
      → IsFileOf schema settings a.analyze x.state.groups image ⊎ AreHeld a.analyze (steps.held_by (steps.step (record { analysis = a; stage = steps.index_of schema settings x }) (Some r)).1.stage) image
  index_leaves a before schema settings x r image honest is ready after (inl same) left = inl (kept_leaves a before schema settings x image honest is ready after same left)
  index_leaves a before schema settings x r image honest is ready after (inr (call, read, writing)) left =
      let c = steps.configuration_of schema a.analyze settings in
      let writes = writing.writes c x (open_stands d an knows analyze before c x ready is.stands) in
      let either = writes.any_moment honest (is.rests honest ready) in
      let reads : steps.call_in schema r ≡ Ok call = subst (λ (t : Schema). steps.call_in t r ≡ Ok call) is.fields read in
      let after_groups = (calls.after c x.state call).groups in
      let later : calls.call_fault c x call ≡ None → IsFileOf (schema_of before) (settings_of before) (analyze (analyzer_of before)) after_groups image → AreHeld a.analyze (steps.held_by (steps.step (record { analysis = a; stage = steps.index_of schema settings x }) (Some r)).1.stage) image =
      λ taken file.
      (subst (λ (t : steps.Stage). AreHeld a.analyze (steps.held_by t) image) (sym (asks_index a schema settings x r call reads))
      (subst (λ (groups : List (List Document)). IsFileOf schema settings a.analyze groups image) (left_groups c x r call reads taken)
      (as_known a before schema settings x after_groups image is file))) in
      ⊎_elim
      (λ (taken : calls.call_fault c x call ≡ None).
      ⊎_elim (λ (first : IsFile either.first image). inl (as_known a before schema settings x x.state.groups image is (either.first, first, either.says_one)))
      (λ (second : IsFile either.second image). ⊎_elim (λ says. inl (as_known a before schema settings x x.state.groups image is (either.second, second, says))) (λ says. inr (later taken (either.second, second, says))) either.says_other)
      (either.images.each_image image left))
      (λ kept. inl (kept_leaves a before schema settings x image honest is ready after (if_err_at writing.change kept.0 (λ fault. fault ≢ faults.Device → KeepsFile before after) kept.1 writing.kept kept.2).0 left))
      (taken_or_kept c x writes.left.0 call writing.change writes.left.1)

  pub ready_leaves : (a : steps.Analysis) (old new : Stage D A d an) (schema : Schema) (settings : Settings) (x : calls.Index) (asked : Option requests.Request) (image : List ℕ)
      → IsTrue (d.honest (device_on old)) → IsStage knows analyze a old (steps.index_of schema settings x) → x.status ≡ calls.ready → Asks knows analyze old new asked
      → d.left_since (device_on new) (d.moment (device_on old)) image
      → IsFileOf schema settings a.analyze x.state.groups image ⊎ AreHeld a.analyze (steps.held_by (steps.step (record { analysis = a; stage = steps.index_of schema settings x }) asked).1.stage) image
  ready_leaves a (Spare device analyzer) new schema settings x asked image honest stands ready asks left = absurd stands
  ready_leaves a (Standing before) new schema settings x _ image honest stands ready (Asks.nothing asked same) left =
      inl (resting_image a before schema settings x image stands ready (stands.rests honest ready)
      (only_now (device_of before) image honest (subst (λ (e : D). d.left_since e (d.moment (device_of before)) image) same left)))
  ready_leaves a (Standing before) new schema settings x _ image honest stands ready (Asks.to_create fields numbers unready creates) left =
      absurd (true≢false (sym (ap steps.takes_calls ready) ∙ unready a (steps.index_of schema settings x) stands))
  ready_leaves a (Standing before) new schema settings x _ image honest stands ready (Asks.to_open unready opens) left =
      absurd (true≢false (sym (ap steps.takes_calls ready) ∙ unready a (steps.index_of schema settings x) stands))
  ready_leaves a (Standing before) new schema settings x _ image honest stands ready (Asks.of_index was after r is then_is asks) left =
      index_leaves a before schema settings x r image honest stands ready after
      (subst (λ (e : Index D A d an). AsksIndex analyze e after r) (sym (ap (index_or before) is)) asks)
      (subst (λ (t : Stage D A d an). d.left_since (device_on t) (d.moment (device_of before)) image) then_is left)

  -- ---- of sessions

  pub ready_line : (s : steps.Session) (before after : Option (Stage D A d an)) (schema : Schema) (settings : Settings) (x : calls.Index) (line image : List ℕ) → IsTrue (honest_on before) → HasStage knows analyze s.analysis before s.stage → s.stage ≡ steps.index_of schema settings x → x.status ≡ calls.ready
      → AsksOf knows analyze before after (steps.line_request line) → LeftOn before after image
      → AreHeld s.analysis.analyze (steps.held_by s.stage) image ⊎ AreHeld s.analysis.analyze (steps.held_by (steps.after_line s line).stage) image
  ready_line s None after schema settings x line image honest stands is ready asks left = absurd stands
  ready_line s (Some old) None schema settings x line image honest stands is ready asks left = absurd asks
  ready_line s (Some old) (Some new) schema settings x line image honest stands is ready asks left =
      let there : steps.Session = record { analysis = s.analysis; stage = steps.index_of schema settings x } in
      let same : there ≡ s = ap (λ (t : steps.Stage). record { analysis = s.analysis; stage = t }) (sym is) in
      subst (λ (z : steps.Session). AreHeld z.analysis.analyze (steps.held_by z.stage) image ⊎ AreHeld z.analysis.analyze (steps.held_by (steps.step z (steps.line_request line)).1.stage) image) same
      (ready_leaves s.analysis old new schema settings x (steps.line_request line) image honest (subst (λ (t : steps.Stage). IsStage knows analyze s.analysis old t) is stands) ready asks left)
