-- What a line comes to, whatever documents the segments of an index are of.
use Rattle.std.proofs.Common.{Err, None, Ok, Option, Result, Some, ap, false, inl, inr, is_some, refl, subst, sym, true, true≢false, ◌∙◌, ◌≡◌, ◌≢◌, ◌⊎◌, List, ℕ}
use Rattle.std.specs.Bool.{⊤}
use Rattle.std.specs.Prelude.{Bool, IsErrAnd}
use Rattle.std.specs.Cow.{cow_str_bytes}
use Rattle.std.specs.declared.borrow.CowStr.{CowStr}
use Rattle.common.specs.declared.analyzer.Analyzer as analyzers
use Rattle.common.specs.declared.device.Device as devices
use Rattle.definitions.specs.Analyzers.{Analyzer}
use Rattle.definitions.specs.FaultNames.{reply_text}
use Rattle.definitions.specs.Requests as requests
use Rattle.definitions.specs.Schema.{Schema}
use Rattle.definitions.specs.SchemaGrammar.{schema_in}
use Rattle.definitions.specs.Settings.{Settings}
use Rattle.definitions.specs.Step as steps
use Rattle.definitions.specs.declared.fault.Fault.{Fault}
use Rattle.definitions.specs.declared.fault.Fault.TheVariants as faults
use Rattle.engine.specs.declared.index.Index.{Index}
use Rattle.index.specs.AskedRequests.{index_request_of}
use Rattle.index.specs.Outcomes.{BothStand, Comes, ComesTo, IndexComesTo, IsMade, IsRead, IsShadowOn, Tells, index_asked, index_made, index_read, no_memory, no_request, saying_done, takes_in, takes_on, unasked}
use Rattle.index.specs.Sessions.{analyzer_on, device_on}
use Rattle.index.specs.declared.requests.IndexRequest.{IndexRequest}
use Rattle.index.specs.declared.stage.Stage.{Stage}
use Rattle.index.specs.declared.stage.Stage.TheVariants.{Spare, Standing}
use Rattle.index.proofs.SessionSteps.{already_made, already_opened, asked_step, unread_step}
use Rattle.index_file.proofs.Faults.{memory_or_other}
use Rattle.serde_json.specs.Data as json

-- what no index is asked
module _ {D A : Type 0} (d : devices.Ghosts D) (an : analyzers.Ghosts A) (knows : A → List ℕ → Bool) (analyze : A → Analyzer) where
  spare_asked : (a : steps.Analysis) (device : D) (analyzer : A) (s : steps.Stage) (r : IndexRequest) → IsShadowOn {d = d} {an = an} knows analyze a (Spare device analyzer) s → steps.stage_step a s (index_request_of r) ≡ steps.refusing faults.NotOpen s
  spare_asked a device analyzer (steps.no_index held) r shadow = asked_step a (steps.no_index held) r
  spare_asked a device analyzer (steps.index_of schema settings x) r shadow = absurd shadow

module _ {D A : Type 0} {d : devices.Ghosts D} {an : analyzers.Ghosts A} (knows : A → List ℕ → Bool) (analyze : A → Analyzer) where
  -- what the definitions have is ready where what stands is
  shadow_ready : (a : steps.Analysis) (old : Stage D A d an) (s : steps.Stage) → IsShadowOn knows analyze a old s → steps.is_ready s ≡ takes_on old
  shadow_ready a (Spare device analyzer) (steps.no_index held) shadow = refl
  shadow_ready a (Spare device analyzer) (steps.index_of schema settings x) shadow = absurd shadow
  shadow_ready a (Standing index) (steps.no_index held) shadow = absurd shadow
  shadow_ready a (Standing index) (steps.index_of schema settings x) shadow = ap steps.takes_calls shadow.3.status

  module _ {Z : Type 0} where
    -- what leaves what stands as it is
    still_comes : (o : Option (Stage D A d an)) (asked : Option requests.Request) (outcome : Result json.Data Fault) (result : Result (CowStr Z) Fault) → is_some o ≡ true → ((stage : Stage D A d an) → o ≡ Some stage → Comes knows analyze stage stage asked outcome) → Tells outcome result
        → ComesTo knows analyze o o asked result
    still_comes None asked outcome result full comes tells = absurd (true≢false (sym full))
    still_comes (Some stage) asked outcome result full comes tells = record { outcome = outcome; tells = tells; comes = comes stage refl }

    -- memory is wanting before anything is asked
    pub memory_comes : (o : Option (Stage D A d an)) (asked : Option requests.Request) (result : Result (CowStr Z) Fault) → is_some o ≡ true → IsErrAnd result (λ e. e ≡ faults.OutOfMemory) → ComesTo knows analyze o o asked result
    memory_comes o asked (Ok text) full memory = absurd memory
    memory_comes o asked (Err e) full memory = still_comes o asked (Err faults.OutOfMemory) (Err e) full (λ stage is. no_memory asked refl) (refl, memory)

    -- nothing is asked for
    pub none_comes : (o : Option (Stage D A d an)) (asked : Option requests.Request) (text : CowStr Z) → is_some o ≡ true → None ≡ asked → cow_str_bytes text ≡ reply_text faults.BadRequest → ComesTo knows analyze o o asked (Ok text)
    none_comes o asked text full is told =
        subst (λ q. ComesTo knows analyze o o q (Ok text)) is (still_comes o None (Err faults.BadRequest) (Ok text) full (λ stage _. no_request refl) (refl, told))

    -- something is asked of no index
    pub spare_comes : (o after : Option (Stage D A d an)) (device : D) (analyzer : A) (r : IndexRequest) (text : CowStr Z) → o ≡ Some (Spare device analyzer) → o ≡ after → cow_str_bytes text ≡ reply_text faults.NotOpen → ComesTo knows analyze o after (Some (index_request_of r)) (Ok text)
    spare_comes o after device analyzer r text was same told =
        subst (λ p. ComesTo knows analyze o p (Some (index_request_of r)) (Ok text)) same
        (subst (λ p. ComesTo knows analyze p p (Some (index_request_of r)) (Ok text)) (sym was)
        (record { outcome = Err faults.NotOpen; tells = (refl, told); comes = unasked (index_request_of r) faults.NotOpen (λ a s shadow. spare_asked d an knows analyze a device analyzer s r shadow) refl }))

    -- or of the one that stands
    pub index_comes : (old new : Index D A d an) (before after : Option (Stage D A d an)) (r : requests.Request) (result : Result (CowStr Z) Fault) → before ≡ Some (Standing old) → after ≡ Some (Standing new) → IndexComesTo analyze old new r result → ComesTo knows analyze before after (Some r) result
    index_comes old new before after r result was is came =
        subst (λ o. ComesTo knows analyze o after (Some r) result) (sym was)
        (subst (λ o. ComesTo knows analyze (Some (Standing old)) o (Some r) result) (sym is)
        (record { outcome = came.outcome; tells = came.tells; comes = index_asked old new r came.outcome refl refl came.made came.ends }))

    -- one is ready, so that no other is made or opened
    pub already_created : (o : Option (Stage D A d an)) (value : json.Data) (more : Option json.Data) (text : CowStr Z) → is_some o ≡ true → takes_in o ≡ true → cow_str_bytes text ≡ reply_text faults.AlreadyOpen → ComesTo knows analyze o o (Some (requests.create_index value more)) (Ok text)
    already_created o value more text full ready told =
        still_comes o (Some (requests.create_index value more)) (Err faults.AlreadyOpen) (Ok text) full
        (λ stage is. unasked (requests.create_index value more) faults.AlreadyOpen
        (λ a s shadow. already_made (record { analysis = a; stage = s }) value more (shadow_ready a stage s shadow ∙ sym (ap takes_in is) ∙ ready)) refl)
        (refl, told)

    pub already_read : (o : Option (Stage D A d an)) (text : CowStr Z) → is_some o ≡ true → takes_in o ≡ true → cow_str_bytes text ≡ reply_text faults.AlreadyOpen → ComesTo knows analyze o o (Some requests.open_index) (Ok text)
    already_read o text full ready told =
        still_comes o (Some requests.open_index) (Err faults.AlreadyOpen) (Ok text) full
        (λ stage is. unasked requests.open_index faults.AlreadyOpen
        (λ a s shadow. already_opened (record { analysis = a; stage = s }) (shadow_ready a stage s shadow ∙ sym (ap takes_in is) ∙ ready)) refl)
        (refl, told)

    -- what an index is to be made of isn't read
    pub unread_comes : (o : Option (Stage D A d an)) (value : json.Data) (more : Option json.Data) (fault : Fault) (result : Result (CowStr Z) Fault) → is_some o ≡ true → takes_in o ≡ false
        → (fault ≢ faults.OutOfMemory → (schema_in value ≡ Err fault) ⊎ ((fields : Schema) × (schema_in value ≡ Ok fields) × (steps.settings_sent fields more ≡ Err fault))) → Tells (Err fault) result → ComesTo knows analyze o o (Some (requests.create_index value more)) result
    unread_comes o value more fault result full unready unread tells =
        still_comes o (Some (requests.create_index value more)) (Err fault) result full
        (λ stage is. elim (memory_or_other fault) [
          | inl memory ↦ subst (λ e. Comes knows analyze stage stage (Some (requests.create_index value more)) (Err e)) (sym memory) (no_memory (Some (requests.create_index value more)) refl)
          | inr other ↦ unasked (requests.create_index value more) fault
              (λ a s shadow. unread_step (record { analysis = a; stage = s }) value more fault (shadow_ready a stage s shadow ∙ sym (ap takes_in is) ∙ unready) (unread other)) refl
        ])
        tells

    -- an index is made, or opened
    pub made_comes : (before after : Option (Stage D A d an)) (value : json.Data) (more : Option json.Data) (schema : Schema) (settings : Settings) (change : Result ⊤ Fault) (result : Result (CowStr Z) Fault) → takes_in before ≡ false → schema_in value ≡ Ok schema → steps.settings_sent schema more ≡ Ok settings
        → BothStand (λ old new. IsMade knows analyze (device_on old) (analyzer_on old) schema settings (new, change)) before after → Tells (saying_done change) result → ComesTo knows analyze before after (Some (requests.create_index value more)) result
    made_comes None after value more schema settings change result unready read sent made tells = absurd made
    made_comes (Some old) None value more schema settings change result unready read sent made tells = absurd made
    made_comes (Some old) (Some new) value more schema settings change result unready read sent made tells =
        record { outcome = saying_done change; tells = tells; comes = index_made value more schema settings change unready read sent made }

    pub read_comes : (before after : Option (Stage D A d an)) (change : Result ⊤ Fault) (result : Result (CowStr Z) Fault) → takes_in before ≡ false → BothStand (λ old new. IsRead knows analyze (device_on old) (analyzer_on old) (new, change)) before after → Tells (saying_done change) result
        → ComesTo knows analyze before after (Some requests.open_index) result
    read_comes None after change result unready read tells = absurd read
    read_comes (Some old) None change result unready read tells = absurd read
    read_comes (Some old) (Some new) change result unready read tells = record { outcome = saying_done change; tells = tells; comes = index_read change unready read }
