-- Histories begin with an index that was created or opened.
use Rattle.std.proofs.Common.{[], Err, IfOk, IsTrue, List, Ok, Result, ap, ap₂, subst, sym, ⊎_elim, ◌∙◌, ◌≡◌, ◌⊎◌}
use Rattle.common.specs.declared.analyzer.Analyzer as analyzers
use Rattle.common.specs.declared.device.Device as devices
use Rattle.definitions.specs.Analyzers.{Analyzer}
use Rattle.definitions.specs.Calls as calls
use Rattle.definitions.specs.Schema.{Schema}
use Rattle.definitions.specs.Settings.{Settings}
use Rattle.definitions.specs.Step.{configuration_of, fresh_index, reopened}
use Rattle.definitions.specs.Values.{Document}
use Rattle.engine.proofs.FileSayings.{of_its_groups}
use Rattle.engine.specs.Files.{IsFileOf}
use Rattle.histories.specs.Lists.{HasLists, ImagesHaveLists}
use Rattle.engine.specs.Indexes.{ImagesLeave, IndexRests, IndexStands, IsOpened, IsReopened, device_after, device_of, members_of, schema_of, settings_of}
use Rattle.engine.specs.declared.index.Index.{Index}
use Rattle.engine.specs.declared.refused_opening.Refused.{Refused}
use Rattle.histories.specs.Leading.{Begins}
use Rattle.index_file.specs.Kept.{LeavesNow}

module _ {D A : Type 0} (d : devices.Ghosts D) (a : analyzers.Ghosts A) where
  pub created_begins : (c : calls.Configuration) (device : D) (result : Result (Index D A d a) (Refused D A)) → IsTrue (d.honest device) → IfOk result (λ index. IndexStands a.analyze index c fresh_index)
      → d.honest (device_after result) ≡ d.honest device → IfOk result IndexRests → IfOk result (λ index. Begins d a index c [])
  created_begins c device (Err refused) honest stands same rests = tt
  created_begins c device (Ok index) honest stands same rests = record { honest = same ∙ honest; stands = stands; rests = rests }

  pub opened_begins : (schema : Schema) (settings : Settings) (cut : Analyzer) (groups : List (List Document)) (device : D) (result : Result (Index D A d a) (Refused D A)) → IsTrue (d.honest device) → IsFileOf schema settings cut groups (d.content device)
      → IfOk result (IsOpened a.analyze cut device) → d.honest (device_after result) ≡ d.honest device → IfOk result (λ index. Begins d a index (configuration_of schema cut settings) groups)
  opened_begins schema settings cut groups device (Err refused) honest file opened same = tt
  opened_begins schema settings cut groups device (Ok index) honest file opened same =
      let of = of_its_groups (schema_of index) schema (settings_of index) settings cut (members_of index) groups (d.content device) (opened.file honest) file in
      record {
        honest = same ∙ honest;
        stands = subst (λ m. IndexStands a.analyze index m (reopened groups)) (ap₂ (λ s n. configuration_of s cut n) of.0 of.1) (opened.stands groups of.2);
        rests = opened.rests honest;
      }

  -- where every record of each image gives its list, by the analyzer of the configuration
  pub lists_begin : (c : calls.Configuration) (groups : List (List Document)) (index : Index D A d a) → Begins d a index c groups → ImagesHaveLists a.analyze index → LeavesNow d.content d.unsynced (device_of index) (HasLists (schema_of index) (settings_of index) c.analyze)
  lists_begin c groups index begins have image is = subst (λ cut. HasLists (schema_of index) (settings_of index) cut image) (sym (ap (λ (m : calls.Configuration). m.analyze) begins.stands.made)) (have image is)

  -- an opening over one last list
  pub opened_leaves : (c : calls.Configuration) (groups : List (List Document)) (result : Result (Index D A d a) (Refused D A)) → IfOk result (λ index. IsReopened a.analyze index c groups ⊎ IsReopened a.analyze index c groups) → IfOk result (λ index. ImagesLeave a.analyze index groups)
  opened_leaves c groups (Err refused) either = tt
  opened_leaves c groups (Ok index) either = ⊎_elim (λ one. one.images) (λ other. other.images) either
