-- What a commit or a merge writes, and what a crash leaves, of whatever documents the segments are.
use Rattle.std.proofs.Common.{[], List, inl, inr, length, ◌++◌, ◌∷◌, ◌≡◌, ℕ}
use Rattle.std.proofs.Math.Logic.{∥∥₁_map, ∥∥₁_map₂}
use Rattle.common.specs.declared.analyzer.Analyzer as analyzers
use Rattle.common.specs.declared.device.Device as devices
use Rattle.definitions.specs.Calls as calls
use Rattle.definitions.specs.Disk.{IsImage, settled}
use Rattle.definitions.specs.Moments.{LeavesOnly}
use Rattle.definitions.specs.Schema.{Schema}
use Rattle.index_file.proofs.CallByCall.{resting}
use Rattle.index_file.specs.Frames.{frame_bytes}
use Rattle.index_state.specs.Records.{IsBodyOver, RecordsSegments}
use Rattle.index_state.specs.Standing.{IsMadeAlike}
use Rattle.layouts.specs.RecordFiles.{IsAtRest, IsOneOf}
use Rattle.segment_definitions.specs.ListBodies.{Makes, Member}
use Rattle.segment_definitions.specs.Segments.{IsSegment}
use Rattle.engine.proofs.FileSayings.{leave_next, leave_same}
use Rattle.engine.specs.Files.{LeavesEitherList}
use Rattle.engine.specs.Indexes.{IndexRests, device_of, gate_of, members_of, schema_of, settings_of}
use Rattle.engine.specs.declared.index.Index.{Index}

-- the body of a frame, which makes these segments of those before
pub record HasBody (schema : Schema) (call : calls.Call) (before after : List Member) (frame : List ℕ) : Type 0 where
  pub body : List ℕ
  pub framed : frame ≡ frame_bytes body
  pub makes : ∥ Makes (IsSegment schema) before after body ∥₁
  pub over : IsBodyOver call before after body

pub has_body : (schema : Schema) (call : calls.Call) (before after : List Member) (frame : List ℕ) → (body : List ℕ) × (frame ≡ frame_bytes body) × RecordsSegments schema call before after body → HasBody schema call before after frame
has_body schema call before after frame (body, framed, (makes, over)) = record { body = body; framed = framed; makes = makes; over = over }

module _ {D A : Type 0} {d : devices.Ghosts D} {a : analyzers.Ghosts A} (old : Index D A d a) where
  module _ (call : calls.Call) (after : List Member) (frame : List ℕ) (w : HasBody (schema_of old) call (members_of old) after frame) where
    -- a file that rests rests with the body behind the others
    pub rests_next : (new : Index D A d a) → IsMadeAlike old.index_state new.index_state → members_of new ≡ after → d.unsynced (device_of new) ≡ settled (length (d.content (device_of new)))
        → ((bodies : List (List ℕ)) → IsAtRest (d.content (device_of old)) (gate_of old) bodies → IsAtRest (d.content (device_of new)) (gate_of new) (bodies ++ w.body ∷ []))
        → ∥ IndexRests old ∥₁ → ∥ IndexRests new ∥₁
    rests_next new alike are synced appends rests =
        ∥∥₁_map₂ rests w.makes
        (λ (r : IndexRests old) makes. record {
          bodies = r.bodies ++ w.body ∷ [];
          at_rest = appends r.bodies r.at_rest;
          leave = leave_same (schema_of old) (schema_of new) (settings_of old) (settings_of new) (r.bodies ++ w.body ∷ []) after (members_of new) alike.schema alike.settings are (leave_next (schema_of old) (settings_of old) r.bodies (members_of old) after w.body r.leave makes);
          synced = synced;
        })

    -- a crash leaves a file of the segments before, or of these
    pub crash_next : (device : D)
        → ((bodies : List (List ℕ)) → IsAtRest (d.content (device_of old)) (gate_of old) bodies → d.unsynced (device_of old) ≡ settled (length (d.content (device_of old))) → LeavesOnly d.moment d.left_since (device_of old) device (IsOneOf bodies (bodies ++ w.body ∷ [])))
        → ∥ IndexRests old ∥₁ → ∥ LeavesEitherList d.moment d.left_since (device_of old) device (schema_of old) (settings_of old) (members_of old) after ∥₁
    crash_next device images rests =
        ∥∥₁_map₂ rests w.makes
        (λ (r : IndexRests old) makes. record {
          first = r.bodies;
          second = r.bodies ++ w.body ∷ [];
          leaves_one = r.leave;
          leaves_other = inr (leave_next (schema_of old) (settings_of old) r.bodies (members_of old) after w.body r.leave makes);
          images = images r.bodies r.at_rest r.synced;
        })

  -- where nothing was done, one of the segments before
  pub crash_same : ((image : List ℕ) → d.left_since (device_of old) (d.moment (device_of old)) image → IsImage (d.content (device_of old)) (d.unsynced (device_of old)) image)
      → ∥ IndexRests old ∥₁ → ∥ LeavesEitherList d.moment d.left_since (device_of old) (device_of old) (schema_of old) (settings_of old) (members_of old) (members_of old) ∥₁
  crash_same only_now rests =
      ∥∥₁_map rests
      (λ (r : IndexRests old). record {
        first = r.bodies;
        second = r.bodies;
        leaves_one = r.leave;
        leaves_other = inl r.leave;
        images = resting d.moment d.left_since d.content d.unsynced (device_of old) (gate_of old) r.bodies r.bodies r.at_rest r.synced only_now;
      })
