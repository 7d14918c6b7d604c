-- What stands after an index was made or opened.
use Rattle.std.proofs.Common.{[], Bool, Err, IfErr, IfOk, IsTrue, List, None, Ok, OnOk, Option, Result, Some, ap, arith, cond, false, inl, inr, refl, subst, sym, true, true≢false, ◌∙◌, ◌∷◌, ◌≡◌, ◌≢◌, ◌⊎◌, ℕ}
use Rattle.common.specs.declared.analyzer.Analyzer as analyzers
use Rattle.common.specs.declared.device.Device as devices
use Rattle.definitions.specs.Analyzers.{Analyzer}
use Rattle.definitions.specs.Calls as calls
use Rattle.definitions.specs.Disk.{HasCause}
use Rattle.definitions.specs.Making.{are_analyzed, making_fault}
use Rattle.definitions.specs.Replying.{stops}
use Rattle.std.specs.Prelude.{IsErrOf}
use Rattle.std.specs.Bool.{⊤}
use Rattle.std.specs.Option.{option_or}
use Rattle.definitions.specs.Replies.{ok_reply, reply_of}
use Rattle.definitions.specs.Schema.{Schema}
use Rattle.definitions.specs.Settings.{Settings}
use Rattle.definitions.specs.Step as steps
use Rattle.definitions.specs.Values.{Document}
use Rattle.definitions.specs.declared.fault.Fault.{Fault}
use Rattle.definitions.specs.declared.fault.Fault.TheVariants as faults
use Rattle.definitions.proofs.ReplyTexts.{error_text, ok_text}
use Rattle.index_file.specs.Kept.{IsKept}
use Rattle.index_file.specs.Outcomes.{IsRefusal}
use Rattle.std.specs.List.{AllZip}
use Rattle.engine.specs.Files.{IsCreateRefusal, IsFileOf, IsOpenRefusal, LeavesMembers}
use Rattle.segment_definitions.specs.ListBodies.{Member}
use Rattle.segment_definitions.specs.IndexFiles.{IsGroup, TakesSegments}
use Rattle.engine.specs.Indexes.{IndexRests, IndexStands, IsOpened, analyzer_after, analyzer_of, device_after, device_of, ending_of, gate_of, members_of, schema_of, settings_of}
use Rattle.index.specs.Replying.{change_text}
use Rattle.index.specs.Sessions.{HasHeld, HasStage, IsIndex, IsSpare, IsStage, LeavesStage, StandsAs, analysis_of, device_on, left_by, stage_after}
use Rattle.engine.specs.declared.index.Index.{Index}
use Rattle.engine.specs.declared.refused_opening.Refused.{Refused}
use Rattle.index.specs.declared.stage.Stage.{Stage}
use Rattle.index.specs.declared.stage.Stage.TheVariants.{Spare, Standing}
use Rattle.index.proofs.Answering.{going_on}
use Rattle.index.proofs.Causes.{making_goes_on}
use Rattle.index_file.proofs.Faults.{is_limit}
use Rattle.index_state.proofs.Outcomes.{closed_is_not_ready}
use Rattle.engine.proofs.Commits.{stands_groups}
use Rattle.engine.proofs.FileSayings.{file_is_index, file_is_whole, no_bytes, of_its_groups, rests_say}
use Rattle.index.proofs.Asked.{device_stays as stage_device}
use Rattle.index_file.proofs.ErrorsKept.{error_or_memory as error_in}
use Rattle.layouts.proofs.FilesOfRecords.{files_are_indexes, files_are_whole, one_damage}
use Rattle.layouts.specs.RecordFiles.{IsDamaged, IsFile, IsNoIndex}
use Rattle.segment_definitions.proofs.OneList.{bodies_taken}
use Rattle.serde_json.specs.Data as json

-- ---- what a device holds

module _ {D : Type 0} (honest : D → Bool) (content : D → List ℕ) (cut : Analyzer) where
  pub held_honest : (device : D) (held : steps.Held) → HasHeld honest content cut device held → IsTrue (honest device)
  held_honest device steps.no_file h = h.0
  held_honest device (steps.file_of s u d) h = h.0
  held_honest device (steps.other_bytes bytes fault) h = h.0

  -- a device that is as it was holds what it held
  pub held_kept : (old new : D) (held : steps.Held) → HasHeld honest content cut old held → honest new ≡ honest old → content new ≡ content old → HasHeld honest content cut new held
  held_kept old new steps.no_file h same is = (subst (λ (b : Bool). IsTrue b) (sym same) h.0, is ∙ h.1)
  held_kept old new (steps.file_of s u d) h same is = (subst (λ (b : Bool). IsTrue b) (sym same) h.0, subst (λ (l : List ℕ). IsFileOf s u cut d l) (sym is) h.1)
  held_kept old new (steps.other_bytes bytes fault) h same is = (subst (λ (b : Bool). IsTrue b) (sym same) h.0, is ∙ h.1, h.2, h.3)

-- no byte is no index
no_index_yet : IsNoIndex []
no_index_yet = inl (omega arith)

-- what isn't opened is refused in one way
damage_begins : (bytes : List ℕ) (place : ℕ) → IsDamaged TakesSegments bytes place → ¬ IsNoIndex bytes
damage_begins bytes place damaged = damaged.begins

pub one_refusal : (bytes : List ℕ) (first second : Fault) → IsRefusal TakesSegments bytes first → IsRefusal TakesSegments bytes second → first ≡ second
one_refusal bytes first second (inl (is, none)) (inl (also, still)) = is ∙ sym also
one_refusal bytes first second (inl (is, none)) (inr (place, also, damaged)) = absurd (damage_begins bytes place damaged none)
one_refusal bytes first second (inr (place, is, damaged)) (inl (also, none)) = absurd (damage_begins bytes place damaged none)
one_refusal bytes first second (inr (place, is, damaged)) (inr (other, also, broken)) =
    is ∙ ap (λ (n : ℕ). faults.Damaged (Some n)) (one_damage TakesSegments bytes place other damaged broken) ∙ sym also

-- and a file of segments isn't refused
file_unrefused : (s : Schema) (u : Settings) (ms : List Member) (bytes : List ℕ) (fault : Fault) → LeavesMembers s u ms bytes → ¬ IsRefusal TakesSegments bytes fault
file_unrefused s u ms bytes fault (bodies, file, l) (inl (is, none)) = files_are_indexes l.first l.later bytes (subst (λ bs. IsFile bs bytes) l.bodies_are file) none
file_unrefused s u ms bytes fault (bodies, file, l) (inr (place, is, damaged)) =
    files_are_whole TakesSegments (l.first ∷ l.later) bytes place (subst (λ bs. IsFile bs bytes) l.bodies_are file) (bodies_taken l.first l.later (s, u, l.lists, l.made, l.follow)) damaged

-- ---- an index is made or opened

-- what ended well met no fault
no_answer : (fault : Fault) → IsErrOf {T = ⊤} (Ok tt) fault → ⊥
no_answer fault e = cc

-- the reply to a refusal
refused_text : {S : Type 0} (fault : Fault) (s : S) (p : json.Data × S) → p ≡ steps.refusing fault s → change_text (Err fault) ≡ reply_of p.0
refused_text fault s p is = error_text fault ∙ ap (λ q. reply_of q.0) (sym is)

module _ {D A : Type 0} (d : devices.Ghosts D) (an : analyzers.Ghosts A) (knows : A → List ℕ → Bool) (analyze : A → Analyzer) where
  -- what is told, and what stands
  abbrev IsTold : steps.Analysis → Option (Stage D A d an) → Result ⊤ Fault → json.Data × steps.Stage → Type 0
  IsTold a stage change p = (change_text change ≡ reply_of p.0) × HasStage knows analyze a stage p.1

  -- what stands after a refusal
  refused_stage : (a : steps.Analysis) (device : D) (analyzer : A) (fault : Fault) (held : steps.Held) (p : json.Data × steps.Stage) → p ≡ steps.refusing fault (steps.no_index held) → IsSpare d.honest d.content knows analyze a device analyzer held → IsTold a (Some (Spare device analyzer)) (Err fault) p
  refused_stage a device analyzer fault held p is spare = (refused_text fault (steps.no_index held) p is, subst (λ (q : json.Data × steps.Stage). HasStage {d = d} {an = an} knows analyze a (Some (Spare device analyzer)) q.1) (sym is) spare)

  -- and after an answer
  answered_stage : (a : steps.Analysis) (held : steps.Held) (index : Index D A d an) (s : Schema) (u : Settings) (x : calls.Index) (p : json.Data × steps.Stage) → p ≡ (ok_reply, steps.index_of s u x) → IsIndex knows analyze a index s u x → LeavesStage knows analyze a held (Some (Standing index)) (Ok tt) p
  answered_stage a held index s u x p is stands = record {
    told = λ on. (sym ok_text ∙ ap (λ q. reply_of q.0) (sym is), subst (λ (q : json.Data × steps.Stage). HasStage knows analyze a (Some (Standing index)) q.1) (sym is) stands);
    spare = tt;
    emptied = λ device. absurd (no_answer faults.Device device);
  }

  -- an index was made
  pub made_stage : (a : steps.Analysis) (device : D) (analyzer : A) (held : steps.Held) (s : Schema) (u : Settings) (index : Index D A d an) → IsSpare d.honest d.content knows analyze a device analyzer held
      → making_fault (knows analyzer) s u ≡ None → (IsTrue (d.honest device) → d.content device ≡ []) → IndexStands analyze index (steps.configuration_of s (analyze analyzer) u) steps.fresh_index
      → (schema_of index ≡ s) × (settings_of index ≡ u) → analyzer_of index ≡ analyzer → (IsTrue (d.honest device) → IndexRests index)
      → LeavesStage knows analyze a held (Some (Standing index)) (Ok tt) (steps.created a.knows s u held)
  made_stage a device analyzer (steps.file_of t v e) s u index spare none empty stands of by rests = absurd (no_bytes spare.1.1.0 (d.content device) spare.1.1.1 (empty spare.1.0))
  made_stage a device analyzer (steps.other_bytes bytes fault) s u index spare none empty stands of by rests = absurd (spare.1.2 (sym spare.1.1 ∙ empty spare.1.0))
  made_stage a device analyzer steps.no_file s u index spare none empty stands of by rests =
      let fault : making_fault a.knows s u ≡ None = subst (λ (b : steps.Analysis). making_fault b.knows s u ≡ None) (sym spare.0) none in
      let step : steps.created a.knows s u steps.no_file ≡ (ok_reply, steps.index_of s u steps.fresh_index) = ap (λ (o : Option Fault). steps.refused_or (option_or o None) (steps.no_index steps.no_file) (ok_reply, steps.index_of s u steps.fresh_index)) fault in
      answered_stage a steps.no_file index s u steps.fresh_index (steps.created a.knows s u steps.no_file) step
      (record {
        analysis = spare.0 ∙ ap (analysis_of knows analyze) (sym by);
        fields = of.0;
        numbers = of.1;
        stands = inl (subst (λ (b : steps.Analysis). IndexStands analyze index (steps.configuration_of s b.analyze u) steps.fresh_index) (sym spare.0) stands);
        rests = λ h ready. rests spare.1.0;
        known = inl refl;
      })

  -- what is spare after a call that changed nothing
  spare_kept : (a : steps.Analysis) (old new : D) (analyzer given : A) (held : steps.Held) → IsSpare d.honest d.content knows analyze a old analyzer held → given ≡ analyzer → d.honest new ≡ d.honest old → d.content new ≡ d.content old → IsSpare d.honest d.content knows analyze a new given held
  spare_kept a old new analyzer given held spare same honest content = (spare.0 ∙ ap (analysis_of knows analyze) (sym same), held_kept d.honest d.content a.analyze old new held spare.1 honest content)

  -- none was made
  pub unmade_stage : (a : steps.Analysis) (device : D) (analyzer : A) (held : steps.Held) (s : Schema) (u : Settings) (r : Refused D A) → IsSpare d.honest d.content knows analyze a device analyzer held
      → (r.fault ≡ faults.OutOfMemory) ⊎ (making_fault (knows analyzer) s u ≡ Some r.fault) ⊎ ((making_fault (knows analyzer) s u ≡ None) × IsCreateRefusal r.fault)
      → r.analyzer ≡ analyzer → d.honest r.device ≡ d.honest device → (IsTrue (d.honest device) → r.fault ≡ faults.NotEmpty → d.content device ≢ []) → (IsTrue (d.honest device) → r.fault ≢ faults.Device → IsKept d.moment d.left_since d.content d.unsynced device r.device)
      → LeavesStage {d = d} {an = an} knows analyze a held (Some (Spare r.device r.analyzer)) (Err r.fault) (steps.created a.knows s u held)
  unmade_stage a device analyzer held s u r spare exact returned honest full kept = record {
    told = λ on. refused_stage a r.device r.analyzer r.fault held (steps.created a.knows s u held) (step on held spare.1 exact) (stays (going_on r.fault faults.Device on refl));
    spare = stays;
    emptied = λ device now holds. (spare.0 ∙ ap (analysis_of knows analyze) (sym returned), holds);
  }
    where
      stays : r.fault ≢ faults.Device → IsSpare d.honest d.content knows analyze a r.device r.analyzer held
      stays other = spare_kept a device r.device analyzer r.analyzer held spare returned honest (kept (held_honest d.honest d.content a.analyze device held spare.1) other).content_kept

      from_analysis : (o : Option Fault) → making_fault (knows analyzer) s u ≡ o → making_fault a.knows s u ≡ o
      from_analysis o is = subst (λ (b : steps.Analysis). making_fault b.knows s u ≡ o) (sym spare.0) is

      not_empty : (h : steps.Held) → HasHeld d.honest d.content a.analyze device h → making_fault a.knows s u ≡ None → r.fault ≡ faults.NotEmpty → steps.created a.knows s u h ≡ steps.refusing r.fault (steps.no_index h)
      not_empty steps.no_file has none is = absurd (full has.0 is has.1)
      not_empty (steps.file_of t v e) has none is =
          ap (λ (o : Option Fault). steps.refused_or (option_or o (Some faults.NotEmpty)) (steps.no_index (steps.file_of t v e)) (ok_reply, steps.index_of s u steps.fresh_index)) none
          ∙ ap (λ (f : Fault). steps.refusing f (steps.no_index (steps.file_of t v e))) (sym is)
      not_empty (steps.other_bytes bytes fault) has none is =
          ap (λ (o : Option Fault). steps.refused_or (option_or o (Some faults.NotEmpty)) (steps.no_index (steps.other_bytes bytes fault)) (ok_reply, steps.index_of s u steps.fresh_index)) none
          ∙ ap (λ (f : Fault). steps.refusing f (steps.no_index (steps.other_bytes bytes fault))) (sym is)

      step : stops r.fault ≡ false → (h : steps.Held) → HasHeld d.honest d.content a.analyze device h → (r.fault ≡ faults.OutOfMemory) ⊎ (making_fault (knows analyzer) s u ≡ Some r.fault) ⊎ ((making_fault (knows analyzer) s u ≡ None) × IsCreateRefusal r.fault) → steps.created a.knows s u h ≡ steps.refusing r.fault (steps.no_index h)
      step on h has (inl memory) = absurd (going_on r.fault faults.OutOfMemory on refl memory)
      step on h has (inr (inl refused)) = ap (λ (o : Option Fault). steps.refused_or (option_or o (steps.if_empty h)) (steps.no_index h) (ok_reply, steps.index_of s u steps.fresh_index)) (from_analysis (Some r.fault) refused)
      step on h has (inr (inr (none, inl is_device))) = absurd (going_on r.fault faults.Device on refl is_device)
      step on h has (inr (inr (none, inr is))) = not_empty h has (from_analysis None none) is

  -- an index was opened
  pub opened_stage : (a : steps.Analysis) (device : D) (analyzer : A) (held : steps.Held) (index : Index D A d an) → IsSpare d.honest d.content knows analyze a device analyzer held
      → IsOpened analyze (analyze analyzer) device index → are_analyzed (knows analyzer) (schema_of index) ≡ true → analyzer_of index ≡ analyzer
      → LeavesStage knows analyze a held (Some (Standing index)) (Ok tt) (steps.opened a.knows held)
  opened_stage a device analyzer steps.no_file index spare opened known by = let file = opened.file spare.1.0 in absurd (no_bytes file.0 (d.content device) file.1 spare.1.1)
  opened_stage a device analyzer (steps.other_bytes bytes fault) index spare opened known by =
      absurd (file_unrefused (schema_of index) (settings_of index) (members_of index) bytes fault (subst (LeavesMembers (schema_of index) (settings_of index) (members_of index)) spare.1.1 (opened.file spare.1.0)) spare.1.3)
  opened_stage a device analyzer (steps.file_of s u e) index spare opened known by =
      let is = of_its_groups (schema_of index) s (settings_of index) u a.analyze (members_of index) e (d.content device) (opened.file spare.1.0) spare.1.1 in
      let cut : a.analyze ≡ analyze analyzer = ap (λ (b : steps.Analysis). b.analyze) spare.0 in
      let knows_all : are_analyzed a.knows s ≡ true = subst (λ (b : steps.Analysis). are_analyzed b.knows s ≡ true) (sym spare.0) (subst (λ (t : Schema). are_analyzed (knows analyzer) t ≡ true) is.0 known) in
      let step : steps.opened a.knows (steps.file_of s u e) ≡ (ok_reply, steps.index_of s u (steps.reopened e)) = ap (λ (b : Bool). cond b (ok_reply, steps.index_of s u (steps.reopened e)) (steps.refusing faults.UnknownTokenizer (steps.no_index (steps.file_of s u e)))) knows_all in
      let stands : IndexStands analyze index (steps.configuration_of (schema_of index) (analyze analyzer) (settings_of index)) (steps.reopened e) = opened.stands e (subst (λ k. AllZip (IsGroup (schema_of index) k) (members_of index) e) cut is.2) in
      let stand : IndexStands analyze index (steps.configuration_of s (analyze analyzer) u) (steps.reopened e) =
      subst (λ (t : Schema). IndexStands analyze index (steps.configuration_of t (analyze analyzer) u) (steps.reopened e)) is.0 (subst (λ (v : Settings). IndexStands analyze index (steps.configuration_of (schema_of index) (analyze analyzer) v) (steps.reopened e)) is.1 stands) in
      answered_stage a (steps.file_of s u e) index s u (steps.reopened e) (steps.opened a.knows (steps.file_of s u e)) step
      (record {
        analysis = spare.0 ∙ ap (analysis_of knows analyze) (sym by);
        fields = is.0;
        numbers = is.1;
        stands = inl (subst (λ (b : steps.Analysis). IndexStands analyze index (steps.configuration_of s b.analyze u) (steps.reopened e)) (sym spare.0) stand);
        rests = λ h ready. opened.rests spare.1.0;
        known = inl refl;
      })

  -- none was opened
  pub unopened_stage : (a : steps.Analysis) (device : D) (analyzer : A) (held : steps.Held) (r : Refused D A) → IsSpare d.honest d.content knows analyze a device analyzer held
      → (IsTrue (d.honest device) → (r.fault ≡ faults.Device) ⊎ (r.fault ≡ faults.OutOfMemory) ⊎ IsOpenRefusal (knows analyzer) (d.content device) r.fault)
      → r.analyzer ≡ analyzer → d.honest r.device ≡ d.honest device → (IsTrue (d.honest device) → r.fault ≢ faults.Device → IsKept d.moment d.left_since d.content d.unsynced device r.device)
      → LeavesStage {d = d} {an = an} knows analyze a held (Some (Spare r.device r.analyzer)) (Err r.fault) (steps.opened a.knows held)
  unopened_stage a device analyzer held r spare refused returned honest kept = record {
    told = λ on. refused_stage a r.device r.analyzer r.fault held (steps.opened a.knows held) (step on held spare.1 (refused is_honest)) (stays (going_on r.fault faults.Device on refl));
    spare = stays;
    emptied = λ device now holds. (spare.0 ∙ ap (analysis_of knows analyze) (sym returned), holds);
  }
    where
      is_honest : IsTrue (d.honest device)
      is_honest = held_honest d.honest d.content a.analyze device held spare.1

      stays : r.fault ≢ faults.Device → IsSpare d.honest d.content knows analyze a r.device r.analyzer held
      stays other = spare_kept a device r.device analyzer r.analyzer held spare returned honest (kept is_honest other).content_kept

      unknown : (s t : Schema) (u v : Settings) (e : List (List Document)) (ms : List Member) → IsFileOf s u a.analyze e (d.content device) → LeavesMembers t v ms (d.content device) → are_analyzed (knows analyzer) t ≡ false → r.fault ≡ faults.UnknownTokenizer → steps.opened a.knows (steps.file_of s u e) ≡ steps.refusing r.fault (steps.no_index (steps.file_of s u e))
      unknown s t u v e ms file other is fault =
          let same : t ≡ s = (of_its_groups t s v u a.analyze ms e (d.content device) other file).0 in
          let lacks : are_analyzed a.knows s ≡ false = subst (λ (b : steps.Analysis). are_analyzed b.knows s ≡ false) (sym spare.0) (subst (λ (g : Schema). are_analyzed (knows analyzer) g ≡ false) same is) in
          ap (λ (b : Bool). cond b (ok_reply, steps.index_of s u (steps.reopened e)) (steps.refusing faults.UnknownTokenizer (steps.no_index (steps.file_of s u e)))) lacks
          ∙ ap (λ (g : Fault). steps.refusing g (steps.no_index (steps.file_of s u e))) (sym fault)

      step : stops r.fault ≡ false → (h : steps.Held) → HasHeld d.honest d.content a.analyze device h → (r.fault ≡ faults.Device) ⊎ (r.fault ≡ faults.OutOfMemory) ⊎ IsOpenRefusal (knows analyzer) (d.content device) r.fault → steps.opened a.knows h ≡ steps.refusing r.fault (steps.no_index h)
      step on h has (inl is_device) = absurd (going_on r.fault faults.Device on refl is_device)
      step on h has (inr (inl memory)) = absurd (going_on r.fault faults.OutOfMemory on refl memory)
      step on steps.no_file has (inr (inr (inl (inl (is, none))))) = ap (λ (g : Fault). steps.refusing g (steps.no_index steps.no_file)) (sym is)
      step on steps.no_file has (inr (inr (inl (inr (place, is, damaged))))) = absurd (damaged.begins (subst (λ (l : List ℕ). IsNoIndex l) (sym has.1) no_index_yet))
      step on steps.no_file has (inr (inr (inr (is, (s, u, e, file, lacks))))) = absurd (no_bytes file.0 (d.content device) file.1 has.1)
      step on (steps.file_of s u e) has (inr (inr (inl (inl (is, none))))) = absurd (file_is_index s u a.analyze e (d.content device) has.1 none)
      step on (steps.file_of s u e) has (inr (inr (inl (inr (place, is, damaged))))) = absurd (file_is_whole s u a.analyze e (d.content device) place has.1 damaged)
      step on (steps.file_of s u e) has (inr (inr (inr (is, (t, v, f, file, lacks))))) = unknown s t u v e f has.1 file lacks is
      step on (steps.other_bytes bytes fault) has (inr (inr (inl refusal))) =
          ap (λ (g : Fault). steps.refusing g (steps.no_index (steps.other_bytes bytes fault))) (one_refusal bytes fault r.fault has.3 (subst (λ (l : List ℕ). IsRefusal TakesSegments l r.fault) has.1 refusal))
      step on (steps.other_bytes bytes fault) has (inr (inr (inr (is, (t, v, f, file, lacks))))) = absurd (file_unrefused t v f bytes fault (subst (LeavesMembers t v f) has.1 file) has.3)

  -- what a call that makes an index leaves
  pub create_left : (a : steps.Analysis) (device : D) (analyzer : A) (held : steps.Held) (s : Schema) (u : Settings) (outcome : Result (Index D A d an) (Refused D A)) → IsSpare d.honest d.content knows analyze a device analyzer held
      → OnOk outcome (making_fault (knows analyzer) s u ≡ None) → (IsTrue (d.honest device) → OnOk outcome (d.content device ≡ []))
      → IfOk outcome (λ index. IndexStands analyze index (steps.configuration_of s (analyze analyzer) u) steps.fresh_index)
      → IfOk outcome (λ index. (schema_of index ≡ s) × (settings_of index ≡ u) × (members_of index ≡ []))
      → IfErr outcome (λ r. (r.fault ≡ faults.OutOfMemory) ⊎ (making_fault (knows analyzer) s u ≡ Some r.fault) ⊎ ((making_fault (knows analyzer) s u ≡ None) × IsCreateRefusal r.fault))
      → analyzer_after outcome ≡ analyzer → d.honest (device_after outcome) ≡ d.honest device
      → (IsTrue (d.honest device) → IfErr outcome (λ r. r.fault ≡ faults.NotEmpty → d.content device ≢ []))
      → (IsTrue (d.honest device) → IfErr outcome (λ r. r.fault ≢ faults.Device → IsKept d.moment d.left_since d.content d.unsynced device r.device))
      → (IsTrue (d.honest device) → IfOk outcome IndexRests)
      → LeavesStage knows analyze a held (Some ((left_by outcome).0)) ((left_by outcome).1) (steps.created a.knows s u held)
  create_left a device analyzer held s u (Ok index) spare none empty stands of exact by honest full kept rests = made_stage a device analyzer held s u index spare none empty stands (of.0, of.1) by rests
  create_left a device analyzer held s u (Err r) spare none empty stands of exact by honest full kept rests = unmade_stage a device analyzer held s u r spare exact by honest full kept

  -- what a call that opens an index leaves
  pub open_left : (a : steps.Analysis) (device : D) (analyzer : A) (held : steps.Held) (outcome : Result (Index D A d an) (Refused D A)) → IsSpare d.honest d.content knows analyze a device analyzer held
      → IfOk outcome (IsOpened analyze (analyze analyzer) device)
      → IfOk outcome (λ index. are_analyzed (knows analyzer) (schema_of index) ≡ true)
      → (IsTrue (d.honest device) → IfErr outcome (λ r. (r.fault ≡ faults.Device) ⊎ (r.fault ≡ faults.OutOfMemory) ⊎ IsOpenRefusal (knows analyzer) (d.content device) r.fault))
      → analyzer_after outcome ≡ analyzer → d.honest (device_after outcome) ≡ d.honest device
      → (IsTrue (d.honest device) → IfErr outcome (λ r. r.fault ≢ faults.Device → IsKept d.moment d.left_since d.content d.unsynced device r.device))
      → LeavesStage knows analyze a held (Some ((left_by outcome).0)) ((left_by outcome).1) (steps.opened a.knows held)
  open_left a device analyzer held (Ok index) spare opened known refused by honest kept = opened_stage a device analyzer held index spare opened known by
  open_left a device analyzer held (Err r) spare opened known refused by honest kept = unopened_stage a device analyzer held r spare refused by honest kept

  -- ---- the device

  -- a ready index stands for itself
  pub open_stands : (index : Index D A d an) (c : calls.Configuration) (x : calls.Index) → x.status ≡ calls.ready → StandsAs knows analyze index c x → IndexStands analyze index c x
  open_stands index c x ready (inl stands) = stands
  open_stands index c x ready (inr (closed, y, also, stands)) = absurd (closed_is_not_ready (sym closed ∙ ready))

  -- what an honest device of an index holds
  pub index_held : (a : steps.Analysis) (index : Index D A d an) (s : Schema) (u : Settings) (x : calls.Index) → IsIndex knows analyze a index s u x → IsTrue (d.honest (device_of index)) → HasHeld d.honest d.content a.analyze (device_of index) (steps.file_of s u x.state.groups)
  index_held a index s u x h honest = elim h.known [
    | inl ready ↦
        let rests = h.rests honest ready in
        let cut : a.analyze ≡ analyze (analyzer_of index) = ap (λ (b : steps.Analysis). b.analyze) h.analysis in
        let are = stands_groups analyze index.index_state (steps.configuration_of s a.analyze u) x (open_stands index (steps.configuration_of s a.analyze u) x ready h.stands) in
        let says = rests_say (schema_of index) (settings_of index) (analyze (analyzer_of index)) (members_of index) x.state.groups (d.content (device_of index)) (d.unsynced (device_of index)) (gate_of index) rests are in
        let file : IsFileOf (schema_of index) (settings_of index) (analyze (analyzer_of index)) x.state.groups (d.content (device_of index)) = (rests.bodies, rests.at_rest.file, says) in
        (honest, subst (λ (t : Schema). IsFileOf t u a.analyze x.state.groups (d.content (device_of index))) h.fields (subst (λ (v : Settings). IsFileOf (schema_of index) v a.analyze x.state.groups (d.content (device_of index))) h.numbers (subst (λ (k : Analyzer). IsFileOf (schema_of index) (settings_of index) k x.state.groups (d.content (device_of index))) (sym cut) file)))
    | inr held ↦ held
  ]

  -- and what stands without it
  pub standing_spare : (a : steps.Analysis) (index : Index D A d an) (device : D) (analyzer : A) (s : steps.Stage) → device ≡ device_of index → analyzer ≡ analyzer_of index → IsStage knows analyze a (Standing index) s → IsTrue (d.honest device) → IsSpare d.honest d.content knows analyze a device analyzer (steps.held_by s)
  standing_spare a index device analyzer (steps.no_index held) same by h honest = absurd h
  standing_spare a index device analyzer (steps.index_of s u x) same by h honest = (
    h.analysis ∙ ap (analysis_of knows analyze) (sym by),
    subst (λ (e : D). HasHeld d.honest d.content a.analyze e (steps.file_of s u x.state.groups)) (sym same) (index_held a index s u x h (subst (λ (e : D). IsTrue (d.honest e)) same honest)),
  )

-- its failures have their cause
pub stage_failures : {D A : Type 0} {d : devices.Ghosts D} {an : analyzers.Ghosts A} (old device : D) (outcome : Result (Index D A d an) (Refused D A)) → device ≡ old → HasCause (d.failed device) (d.failed (device_after outcome)) (ending_of outcome) → HasCause (d.failed old) (d.failed (device_on (stage_after outcome))) (ending_of outcome)
stage_failures {d = d} old device outcome same cause =
    subst (λ e. HasCause (d.failed old) (d.failed e) (ending_of outcome)) (sym (stage_device outcome))
    (subst (λ e. HasCause (d.failed e) (d.failed (device_after outcome)) (ending_of outcome)) same cause)

-- it is as honest as it was
pub stage_honest : {D A : Type 0} {d : devices.Ghosts D} {an : analyzers.Ghosts A} (old device : D) (outcome : Result (Index D A d an) (Refused D A)) → device ≡ old → d.honest (device_after outcome) ≡ d.honest device → d.honest (device_on (stage_after outcome)) ≡ d.honest old
stage_honest {d = d} old device outcome same honest = ap d.honest (stage_device outcome) ∙ honest ∙ ap d.honest same

-- and as it was after an error that isn't `Device`
pub stage_kept : {D A : Type 0} {d : devices.Ghosts D} {an : analyzers.Ghosts A} (old device : D) (outcome : Result (Index D A d an) (Refused D A)) → device ≡ old
    → (IsTrue (d.honest device) → IfErr outcome (λ r. r.fault ≢ faults.Device → IsKept d.moment d.left_since d.content d.unsynced device r.device)) → IsTrue (d.honest old)
    → IfErr (ending_of outcome) (λ fault. fault ≢ faults.Device → IsKept d.moment d.left_since d.content d.unsynced old (device_on (stage_after outcome)))
stage_kept old device (Ok index) same kept honest = tt
stage_kept {d = d} old device (Err r) same kept honest =
    subst (λ e. r.fault ≢ faults.Device → IsKept d.moment d.left_since d.content d.unsynced e r.device) same (kept (subst (λ e. IsTrue (d.honest e)) (sym same) honest))

no_limit : (fault other : Fault) → is_limit other ≡ false → fault ≡ other → IsErrOf {T = ⊤} (Err fault) faults.Limit → ⊥
no_limit fault other is same limit = true≢false (sym (ap is_limit (ap error_in limit)) ∙ ap is_limit same ∙ is)

-- an index is made or not, and no limit is met
pub made_no_limit : {D A : Type 0} {d : devices.Ghosts D} {an : analyzers.Ghosts A} (knows : List ℕ → Bool) (s : Schema) (u : Settings) (outcome : Result (Index D A d an) (Refused D A))
    → IfErr outcome (λ r. (r.fault ≡ faults.OutOfMemory) ⊎ (making_fault knows s u ≡ Some r.fault) ⊎ ((making_fault knows s u ≡ None) × IsCreateRefusal r.fault))
    → ¬ IsErrOf (ending_of outcome) faults.Limit
made_no_limit knows s u (Ok index) exact limit = no_answer faults.Limit limit
made_no_limit knows s u (Err r) exact limit = elim exact [
  | inl memory ↦ no_limit r.fault faults.OutOfMemory refl memory limit
  | inr (inl refused) ↦ true≢false (sym (ap stops (ap error_in limit)) ∙ making_goes_on knows s u r.fault refused)
  | inr (inr (none, inl device)) ↦ no_limit r.fault faults.Device refl device limit
  | inr (inr (none, inr held)) ↦ no_limit r.fault faults.NotEmpty refl held limit
]

-- nor where one is opened
pub opened_no_limit : {D A : Type 0} {d : devices.Ghosts D} {an : analyzers.Ghosts A} (knows : List ℕ → Bool) (bytes : List ℕ) (outcome : Result (Index D A d an) (Refused D A))
    → IfErr outcome (λ r. (r.fault ≡ faults.Device) ⊎ (r.fault ≡ faults.OutOfMemory) ⊎ IsOpenRefusal knows bytes r.fault)
    → ¬ IsErrOf (ending_of outcome) faults.Limit
opened_no_limit knows bytes (Ok index) refused limit = no_answer faults.Limit limit
opened_no_limit knows bytes (Err r) refused limit = elim refused [
  | inl device ↦ no_limit r.fault faults.Device refl device limit
  | inr (inl memory) ↦ no_limit r.fault faults.OutOfMemory refl memory limit
  | inr (inr (inl (inl (is, none)))) ↦ no_limit r.fault faults.NoIndex refl is limit
  | inr (inr (inl (inr (place, is, damaged)))) ↦ no_limit r.fault (faults.Damaged (Some place)) refl is limit
  | inr (inr (inr unknown)) ↦ no_limit r.fault faults.UnknownTokenizer refl unknown.0 limit
]
