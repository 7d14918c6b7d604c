-- What events make of indexes: one of the values that a program has leads to another.
use Rattle.std.specs.Prelude.{[], ◌∷◌, ◌≡◌, IsTrue, List, Ok, Result, length, ℕ}
use Rattle.common.specs.declared.analyzer.Analyzer as analyzers
use Rattle.common.specs.declared.device.Device as devices
use Rattle.definitions.specs.Analyzers.{Analyzer}
use Rattle.definitions.specs.Calls as calls
use Rattle.definitions.specs.Disk.{settled}
use Rattle.definitions.specs.Step.{reopened}
use Rattle.definitions.specs.Values.{Document}
use Rattle.histories.specs.Calls.{IsCalled, IsOpening}
use Rattle.engine.specs.Indexes.{IndexRests, IndexStands, analyzer_of, device_after, device_of}
use Rattle.engine.specs.declared.index.Index.{Index}
use Rattle.engine.specs.declared.refused_opening.Refused.{Refused}
use Rattle.histories.specs.Events.{Event, Outcome, called, cut_off, opened}

module _ {D A : Type 0} (d : devices.Ghosts D) (a : analyzers.Ghosts A) where
  -- a history begins with an index in whose file, on an honest device, these groups are committed, and nothing waits
  pub record Begins (index : Index D A d a) (c : calls.Configuration) (groups : List (List Document)) : Type 0 where
    pub honest : IsTrue (d.honest (device_of index))
    pub stands : IndexStands a.analyze index c (reopened groups)
    pub rests : IndexRests index

  -- an honest device that holds what a crash left, all of it on the disk
  pub record IsRestarted (device : D) (image : List ℕ) : Type 0 where
    pub honest : IsTrue (d.honest device)
    pub content : d.content device ≡ image
    pub synced : d.unsynced device ≡ settled (length image)

  -- a crash at some moment from one device to another left what a third is restarted with
  pub record Crashes (from to device : D) : Type 0 where
    pub image : List ℕ
    pub left : d.left_since to (d.moment from) image
    pub restarted : IsRestarted device image

  -- from one device to another by openings that were refused, and crashes of openings at any moment
  pub data Recovers (analyze : Analyzer) : D → D → Type 0 where
    at_once : (device : D) → Recovers analyze device device
    refused :
        (one two : D) (result : Result (Index D A d a) (Refused D A)) → IsOpening a.analyze analyze one result
        → Recovers analyze (device_after result) two → Recovers analyze one two
    crashed :
        (one two three : D) (result : Result (Index D A d a) (Refused D A)) → IsOpening a.analyze analyze one result
        → Crashes one (device_after result) two → Recovers analyze two three → Recovers analyze one three

  -- from a device an index was opened at last, by an analyzer that cuts texts so
  pub record Reopens (analyze : Analyzer) (device : D) (index : Index D A d a) : Type 0 where
    pub last : D
    pub recovers : Recovers analyze device last
    pub opens : IsOpening a.analyze analyze last (Ok index)

  -- a call of the index had begun when a crash left what the device is restarted with
  pub record CutsOff (old : Index D A d a) (call : calls.Call) (device : D) : Type 0 where
    pub new : Index D A d a
    pub outcome : Outcome
    pub would_be : IsCalled a.analyze old new call outcome
    pub crashes : Crashes (device_of old) (device_of new) device

  -- from one index the events led to another; the analyzer stays the same function
  abbrev pub LeadsTo : Index D A d a → List Event → Index D A d a → Type 0
  LeadsTo old [] new = new ≡ old
  LeadsTo old (called call outcome ∷ events) new =
      (mid : Index D A d a) × IsCalled a.analyze old mid call outcome × LeadsTo mid events new
  LeadsTo old (cut_off call ∷ events) new =
      (device : D) × CutsOff old call device
      × (mid : Index D A d a) × Reopens (a.analyze (analyzer_of old)) device mid × LeadsTo mid events new
  LeadsTo old (opened ∷ events) new =
      (mid : Index D A d a) × Reopens (a.analyze (analyzer_of old)) (device_of old) mid × LeadsTo mid events new
