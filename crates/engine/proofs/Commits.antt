-- What a commit writes: a body that makes the groups after it.
use Rattle.std.proofs.Common.{List, subst, sym, ◌≡◌, ℕ}
use Rattle.std.specs.List.{AllZip}
use Rattle.common.specs.declared.analyzer.Analyzer as analyzers
use Rattle.definitions.specs.Analyzers.{Analyzer}
use Rattle.definitions.specs.Calls as calls
use Rattle.definitions.specs.Schema.{Schema}
use Rattle.definitions.specs.State.{State}
use Rattle.definitions.specs.Values.{Document}
use Rattle.index_file.specs.Frames.{frame_bytes}
use Rattle.index_state.proofs.Members.{in_groups}
use Rattle.index_state.specs.Commits.{AreSets, IsPrepared, frame_in, members_with, sets_in}
use Rattle.index_state.specs.Flags.{members}
use Rattle.index_state.specs.Records.{IsBodyOfCall, IsCommitBody, RecordsCall}
use Rattle.index_state.specs.Standing.{IsMadeAlike, Stands, members_of}
use Rattle.index_state.specs.declared.prepared.Prepared.{Prepared}
use Rattle.index_state.specs.declared.index_state.IndexState.{IndexState}
use Rattle.segment_definitions.specs.ListBodies.{Makes, Member}
use Rattle.segment_definitions.specs.IndexFiles.{IsGroup}
use Rattle.segment_definitions.specs.Segments.{IsSegment}

module _ {A : Type 0} {a : analyzers.Ghosts A} (analyze : A → Analyzer) where
  -- the documents of the segments that are committed stand in these groups
  abbrev pub AreGroups : IndexState A a → List (List Document) → Type 0
  AreGroups index groups = AllZip (IsGroup index.schema (analyze index.analyzer)) (members_of index) groups

  pub stands_groups : (index : IndexState A a) (c : calls.Configuration) (x : calls.Index) → Stands analyze index c x → AreGroups index x.state.groups
  stands_groups index c x s =
      let segments = index.segments.items in
      let sets = index.alive.items in
      let cut = analyze index.analyzer in
      subst (AllZip (IsGroup index.schema cut) (members segments sets)) (sym s.groups) (in_groups index.schema cut s.docs segments sets s.segments index.flagged)

  -- a framed body that makes these members, which are of the groups after a call, and records it
  pub record Written (old : IndexState A a) (c : calls.Configuration) (s : State) (call : calls.Call) (after : List Member) (frame : List ℕ) : Type 0 where
    pub body : List ℕ
    pub framed : frame ≡ frame_bytes body
    pub makes : Makes (IsSegment old.schema) (members_of old) after body
    pub are_groups : AllZip (IsGroup old.schema (analyze old.analyzer)) after (calls.after c s call).groups
    pub records : RecordsCall c s call (members_of old) after body

  -- of what makes the members, of their groups, and of what the body says
  pub written_of : (old : IndexState A a) (c : calls.Configuration) (x : calls.Index) (call : calls.Call) (after : List Member) (frame body : List ℕ) → Stands analyze old c x → frame ≡ frame_bytes body → Makes (IsSegment c.schema) (members_of old) after body
      → AllZip (IsGroup old.schema (analyze old.analyzer)) after (calls.after c x.state call).groups → IsBodyOfCall c x.state call (members_of old) after body → Written old c x.state call after frame
  written_of old c x call after frame body s framed makes are says =
      let groups : List (List Document) = (calls.after c x.state call).groups in
      record {
        body = body;
        framed = framed;
        makes = subst (λ (m : calls.Configuration). Makes (IsSegment m.schema) (members_of old) after body) s.made makes;
        are_groups = are;
        records = (makes, subst (λ (m : calls.Configuration). AllZip (IsGroup m.schema m.analyze) after groups) (sym s.made) are, says);
      }

  pub commit_written : (old mid : IndexState A a) (prepared : Prepared) (c : calls.Configuration) (x : calls.Index) → IsMadeAlike old mid → Stands analyze old c x → IsPrepared analyze mid (sets_in prepared) c x → AreSets mid (sets_in prepared)
      → (body : List ℕ) × (frame_in prepared ≡ frame_bytes body) × Makes (IsSegment c.schema) (members_of old) (members_with mid prepared) body × IsCommitBody c.schema c.analyze c.docs_per_segment x.state.pending (members_of old) (members_with mid prepared) body
      → Written old c x.state calls.commit_pending (members_with mid prepared) (frame_in prepared)
  commit_written old mid prepared c x alike s p flagged (body, framed, makes, says) =
      let sets = sets_in prepared in
      let segments = mid.segments.items in
      let groups : List (List Document) = (calls.after c x.state calls.commit_pending).groups in
      let cut = analyze mid.analyzer in
      let are : AllZip (IsGroup mid.schema cut) (members segments sets) groups = subst (AllZip (IsGroup mid.schema cut) (members segments sets)) (sym p.groups) (in_groups mid.schema cut p.docs segments sets p.segments flagged) in
      written_of old c x calls.commit_pending (members segments sets) (frame_in prepared) body s framed makes
      (subst (λ (t : Schema). AllZip (IsGroup t (analyze old.analyzer)) (members segments sets) groups) alike.schema (subst (λ a. AllZip (IsGroup mid.schema (analyze a)) (members segments sets) groups) alike.analyzer are)) says

-- what a body records of members, it records of the same ones
pub records_same : (c : calls.Configuration) (s : State) (call : calls.Call) (before after others : List Member) (body : List ℕ) → others ≡ after → RecordsCall c s call before after body → RecordsCall c s call before others body
records_same c s call before after others body same records = subst (λ ms. RecordsCall c s call before ms body) (sym same) records
