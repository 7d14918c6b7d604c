-- Files of segments: what stands behind the closed gate.
use Rattle.std.proofs.Common.{◌++◌, ◌+◌, ◌∷◌, List, subst, take, ℕ}
use Rattle.definitions.specs.Analyzers.{Analyzer}
use Rattle.definitions.specs.Schema.{Schema}
use Rattle.definitions.specs.Settings.{Settings}
use Rattle.definitions.specs.Values.{Document}
use Rattle.layouts.specs.RecordFiles.{EndsAt, IsFile}
use Rattle.layouts.proofs.FilesOfRecords.{any_rest, cut_at_rest, one_reading}
use Rattle.segment_definitions.specs.IndexFiles.{IsRecordFile}

-- other bytes are a file of the same lists where they are one of the same bodies
same_lists : (schema : Schema) (settings : Settings) (analyze : Analyzer) (content other : List ℕ) (bodies : List (List ℕ)) (lists : List (List (List Document)))
    → IsFile bodies content → IsFile bodies other → IsRecordFile schema settings analyze content lists → IsRecordFile schema settings analyze other lists
same_lists schema settings analyze content other bodies lists here there r = record {
  first = r.first;
  bodies = r.bodies;
  members = r.members;
  file = subst (λ bs. IsFile bs other) (one_reading bodies (r.first ∷ r.bodies) content here r.file) there;
  made = r.made;
  follow = r.follow;
  groups = r.groups;
}

pub lists_cut : (schema : Schema) (settings : Settings) (analyze : Analyzer) (content : List ℕ) (gate : ℕ) (bodies : List (List ℕ)) (lists : List (List (List Document)))
    → EndsAt content gate bodies → IsRecordFile schema settings analyze content lists → IsRecordFile schema settings analyze (take (gate + 1) content) lists
lists_cut schema settings analyze content gate bodies lists ends r = same_lists schema settings analyze content (take (gate + 1) content) bodies lists ends.file (cut_at_rest bodies content gate ends).file r

pub lists_followed : (schema : Schema) (settings : Settings) (analyze : Analyzer) (content more : List ℕ) (gate : ℕ) (bodies : List (List ℕ)) (lists : List (List (List Document)))
    → EndsAt content gate bodies → IsRecordFile schema settings analyze content lists → IsRecordFile schema settings analyze (content ++ more) lists
lists_followed schema settings analyze content more gate bodies lists ends r = same_lists schema settings analyze content (content ++ more) bodies lists ends.file (any_rest bodies content more gate ends).file r
