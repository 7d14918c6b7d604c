use Rattle.std.proofs.Common.{IsTrue, List, length, map, subst, sym, ◌∙◌, ◌∷◌, ◌≡◌, ◌≢◌, ◌⊎◌, inl, inr, ℕ}
use Rattle.std.specs.List.{AllZip}
use Rattle.definitions.proofs.CallRuns.{joined, weaker}
use Rattle.definitions.specs.Disk.{IsImage, Unsynced, settled}
use Rattle.definitions.specs.Step.{configuration_of, reopened}
use Rattle.definitions.specs.Values.{Document}
use Rattle.definitions.specs.declared.fault.Fault.TheVariants as faults
use Rattle.layouts.specs.RecordFiles.{IsAtRest, IsFile, IsFresh, IsOneOf}
use Rattle.index_file.proofs.ErrorsKept.{caused_later}
use Rattle.index_file.proofs.Openings.{err_both, err_map, ok_three, ok_two, ok_under}
use Rattle.index_file.specs.Kept.{IsKept, IsOldOrOf}
use Rattle.engine.proofs.FileSayings.{leave_same, list_leaves}
use Rattle.engine.proofs.ListsLeft.{IsSettled, reopens_none, reopens_one, same_fresh, same_none, same_one_file, same_one_of, stays}
use Rattle.engine.specs.Files.{IsOldOrSame, IsOpenFault, IsOpenRefusal, LeavesNone, LeavesOneOf, is_first}
use Rattle.engine.specs.Indexes.{IndexStands, IsOpened, device_after, device_of, ending_of, gate_of, members_of, schema_of, settings_of}
use Rattle.index_file.specs.Lists.{member_of}
use Rattle.segment_definitions.specs.ListBodies.{Member}
use Rattle.segment_definitions.specs.IndexFiles.{IsGroup}
use Rattle.engine.proofs.index.Index.open.Goals as goal

pub returns-in-Ok-clause-opened : goal.returns-in-Ok-clause-opened
returns-in-Ok-clause-opened g c =
    let d = g.D.Device in
    let analyze = g.A.Analyzer.analyze in
    let analyzer = analyze c.args.analyzer in
    let file = c.in-Ok.file in
    let list : List Member = map member_of file.members.items in
    let H : Type 0 = IsTrue (d.honest c.args.device) in
    let G : Type 0 = (groups : List (List Document)) × AllZip (IsGroup file.schema analyzer) list groups in
    let holds = λ (h : H). c.in-Ok.ensures.file h in
    let bodies = λ (h : H). (holds h).first ∷ (holds h).bodies in
    let rest = ok_under {H = H} c.open_file.result
    (λ h index. IsAtRest (d.content (device_of index)) (gate_of index) (bodies h) × (d.unsynced (device_of index) ≡ settled (length (d.content (device_of index)))))
    (λ h. ok_two c.open_file.result
    (λ index. IsAtRest (d.content (device_of index)) (gate_of index) (bodies h))
    (λ index. d.unsynced (device_of index) ≡ settled (length (d.content (device_of index))))
    (λ index. IsAtRest (d.content (device_of index)) (gate_of index) (bodies h) × (d.unsynced (device_of index) ≡ settled (length (d.content (device_of index)))))
    (c.open_file.ensures.at_rest (bodies h) (c.in-Ok.ensures.honest ∙ h) (holds h).ends)
    (c.open_file.ensures.unsynced (c.in-Ok.ensures.honest ∙ h))
    (λ index rests synced. (rests, synced))) in
    let stand = ok_under {H = G} c.open_file.result
    (λ of index. IndexStands analyze index (configuration_of file.schema analyzer file.settings) (reopened of.0))
    (λ of. c.open_file.ensures.stands of.0 of.1) in
    ok_three c.open_file.result
    (λ index. (schema_of index ≡ file.schema) × (settings_of index ≡ file.settings) × (members_of index ≡ list))
    (λ index. (of : G) → IndexStands analyze index (configuration_of file.schema analyzer file.settings) (reopened of.0))
    (λ index. (h : H) → IsAtRest (d.content (device_of index)) (gate_of index) (bodies h) × (d.unsynced (device_of index) ≡ settled (length (d.content (device_of index)))))
    (λ index. IsOpened analyze analyzer c.args.device index)
    c.open_file.ensures.made stand rest
    (λ index made stands rests. record {
      stands = λ groups are.
          let of : AllZip (IsGroup file.schema analyzer) list groups = subst (λ s. AllZip (IsGroup s analyzer) list groups) made.0 (subst (λ ms. AllZip (IsGroup (schema_of index) analyzer) ms groups) made.2 are) in
          subst (λ s. IndexStands analyze index (configuration_of s analyzer (settings_of index)) (reopened groups)) (sym made.0)
          (subst (λ u. IndexStands analyze index (configuration_of file.schema analyzer u) (reopened groups)) (sym made.1) (stands (groups, of)));
      file = λ h. (
        bodies h,
        subst (λ (l : List ℕ). IsFile (bodies h) l) (c.read_file.ensures.kept h).content_kept (holds h).ends.file,
        leave_same file.schema (schema_of index) file.settings (settings_of index) (bodies h) list (members_of index) made.0 made.1 made.2 (list_leaves file.schema file.settings (d.content c.read_file.new.device) file.gate list (holds h)),
      );
      rests = λ h. record {
        bodies = bodies h;
        at_rest = (rests h).0;
        leave = leave_same file.schema (schema_of index) file.settings (settings_of index) (bodies h) list (members_of index) made.0 made.1 made.2 (list_leaves file.schema file.settings (d.content c.read_file.new.device) file.gate list (holds h));
        synced = (rests h).1;
      };
    })

pub returns-in-Ok-clause-cause : goal.returns-in-Ok-clause-cause
returns-in-Ok-clause-cause g c =
    let d = g.D.Device in
    caused_later (d.failed c.args.device) (d.failed c.read_file.new.device) (d.failed (device_after c.open_file.result)) c.read_file.result (ending_of c.open_file.result) c.read_file.ensures.cause c.open_file.ensures.cause

pub returns-in-Ok-clause-images : goal.returns-in-Ok-clause-images
returns-in-Ok-clause-images g c h =
    let d = g.D.Device in
    let old = c.args.device in
    let mid = c.read_file.new.device in
    let P : List ℕ → Type 0 = IsOldOrSame d.content d.unsynced old in
    let kept = c.read_file.ensures.kept h in
    let holds = c.in-Ok.ensures.file h in
    let bodies : List (List ℕ) = holds.first ∷ holds.bodies in
    let file : IsFile bodies (d.content old) = subst (λ (l : List ℕ). IsFile bodies l) kept.content_kept holds.ends.file in
    joined d.moment d.left_since old mid (device_after c.open_file.result) P
    (weaker d.moment d.left_since old mid (IsImage (d.content old) (d.unsynced old)) P kept.images_kept (λ image is. inl is))
    (weaker d.moment d.left_since mid (device_after c.open_file.result) (IsOldOrOf d.content d.unsynced mid bodies) P (c.open_file.ensures.any_moment bodies (c.in-Ok.ensures.honest ∙ h) holds.ends)
    (λ image is. elim is [
      | inl now ↦ inl (subst (λ (u : Unsynced). IsImage (d.content old) u image) kept.unsynced_kept (subst (λ (l : List ℕ). IsImage l (d.unsynced mid) image) kept.content_kept now))
      | inr new ↦ inr (bodies, file, new)
    ]))

pub returns-in-Err-clause-images : goal.returns-in-Err-clause-images
returns-in-Err-clause-images g c h =
    let d = g.D.Device in
    let old = c.args.device in
    weaker d.moment d.left_since old c.read_file.new.device (IsImage (d.content old) (d.unsynced old)) (IsOldOrSame d.content d.unsynced old) (c.read_file.ensures.kept h).images_kept (λ image is. inl is)

pub returns-in-Ok-clause-lists : goal.returns-in-Ok-clause-lists
returns-in-Ok-clause-lists g c schema settings one other h now =
    let d = g.D.Device in
    let old = c.args.device in
    let cut = g.A.Analyzer.analyze c.args.analyzer in
    stays d.moment d.left_since d.content d.unsynced old (device_after c.open_file.result) (LeavesOneOf schema settings cut one other) (g.met.D.Device.remains old h) (returns-in-Ok-clause-images g c h) now (same_one_of schema settings cut one other (d.content old))

pub returns-in-Err-clause-lists : goal.returns-in-Err-clause-lists
returns-in-Err-clause-lists g c schema settings one other h now =
    let d = g.D.Device in
    let old = c.args.device in
    let cut = g.A.Analyzer.analyze c.args.analyzer in
    stays d.moment d.left_since d.content d.unsynced old c.read_file.new.device (LeavesOneOf schema settings cut one other) (g.met.D.Device.remains old h) (returns-in-Err-clause-images g c h) now (same_one_of schema settings cut one other (d.content old))

pub returns-in-Ok-clause-none : goal.returns-in-Ok-clause-none
returns-in-Ok-clause-none g c cut h now =
    let d = g.D.Device in
    let old = c.args.device in
    stays d.moment d.left_since d.content d.unsynced old (device_after c.open_file.result) (LeavesNone cut) (g.met.D.Device.remains old h) (returns-in-Ok-clause-images g c h) now (same_none cut (d.content old))

pub returns-in-Err-clause-none : goal.returns-in-Err-clause-none
returns-in-Err-clause-none g c cut h now =
    let d = g.D.Device in
    let old = c.args.device in
    stays d.moment d.left_since d.content d.unsynced old c.read_file.new.device (LeavesNone cut) (g.met.D.Device.remains old h) (returns-in-Err-clause-images g c h) now (same_none cut (d.content old))

pub returns-in-Ok-clause-any_moment : goal.returns-in-Ok-clause-any_moment
returns-in-Ok-clause-any_moment g c a b h now =
    let d = g.D.Device in
    let old = c.args.device in
    stays d.moment d.left_since d.content d.unsynced old (device_after c.open_file.result) (IsOneOf a b) (g.met.D.Device.remains old h) (returns-in-Ok-clause-images g c h) now (same_one_file a b (d.content old))

pub returns-in-Ok-clause-fresh : goal.returns-in-Ok-clause-fresh
returns-in-Ok-clause-fresh g c h now =
    let d = g.D.Device in
    let old = c.args.device in
    stays d.moment d.left_since d.content d.unsynced old (device_after c.open_file.result) (IsFresh is_first) (g.met.D.Device.remains old h) (returns-in-Ok-clause-images g c h) now (same_fresh is_first (d.content old))

pub returns-in-Ok-clause-one_of : goal.returns-in-Ok-clause-one_of
returns-in-Ok-clause-one_of g c schema settings one other h now =
    let d = g.D.Device in
    let old = c.args.device in
    let holds = c.in-Ok.ensures.file h in
    let bodies : List (List ℕ) = holds.first ∷ holds.bodies in
    let honest = c.in-Ok.ensures.honest ∙ h in
    reopens_one g.A.Analyzer.analyze c.open_file.result old c.args.analyzer bodies schema settings one other (returns-in-Ok-clause-opened g c) h c.open_file.ensures.analyzer
    (subst (λ (l : List ℕ). IsFile bodies l) (c.read_file.ensures.kept h).content_kept holds.ends.file)
    (ok_two c.open_file.result
    (λ index. IsAtRest (d.content (device_of index)) (gate_of index) bodies)
    (λ index. d.unsynced (device_of index) ≡ settled (length (d.content (device_of index))))
    (IsSettled g.A.Analyzer.analyze bodies)
    (c.open_file.ensures.at_rest bodies honest holds.ends) (c.open_file.ensures.unsynced honest) (λ index rests synced. (rests, synced)))
    (now (d.content old) (g.met.D.Device.remains old h))

pub returns-in-Ok-clause-empty : goal.returns-in-Ok-clause-empty
returns-in-Ok-clause-empty g c h now =
    let d = g.D.Device in
    let old = c.args.device in
    let holds = c.in-Ok.ensures.file h in
    let bodies : List (List ℕ) = holds.first ∷ holds.bodies in
    let honest = c.in-Ok.ensures.honest ∙ h in
    reopens_none g.A.Analyzer.analyze c.open_file.result old c.args.analyzer bodies (returns-in-Ok-clause-opened g c) h c.open_file.ensures.analyzer
    (subst (λ (l : List ℕ). IsFile bodies l) (c.read_file.ensures.kept h).content_kept holds.ends.file)
    (ok_two c.open_file.result
    (λ index. IsAtRest (d.content (device_of index)) (gate_of index) bodies)
    (λ index. d.unsynced (device_of index) ≡ settled (length (d.content (device_of index))))
    (IsSettled g.A.Analyzer.analyze bodies)
    (c.open_file.ensures.at_rest bodies honest holds.ends) (c.open_file.ensures.unsynced honest) (λ index rests synced. (rests, synced)))
    (now (d.content old) (g.met.D.Device.remains old h))

pub returns-in-Ok-clause-kept : goal.returns-in-Ok-clause-kept
returns-in-Ok-clause-kept g c h =
    let d = g.D.Device in
    let kept = c.read_file.ensures.kept h in
    err_map c.open_file.result (λ r. ((r.fault ≡ faults.Device) ⊎ (r.fault ≡ faults.OutOfMemory)) × (r.fault ≡ faults.OutOfMemory → r.device ≡ c.read_file.new.device)) (λ r. r.fault ≢ faults.Device → IsKept d.moment d.left_since d.content d.unsynced c.args.device r.device)
    (err_both c.open_file.result (λ r. (r.fault ≡ faults.Device) ⊎ (r.fault ≡ faults.OutOfMemory)) (λ r. r.fault ≡ faults.OutOfMemory → r.device ≡ c.read_file.new.device) c.open_file.ensures.refused c.open_file.ensures.same)
    (λ r both other. elim both.0 [
      | inl failed ↦ absurd (other failed)
      | inr memory ↦ subst (IsKept d.moment d.left_since d.content d.unsynced c.args.device) (sym (both.1 memory)) kept
    ])

pub returns-in-Err-clause-refused : goal.returns-in-Err-clause-refused
returns-in-Err-clause-refused g c h =
    let fault = c.in-Err.fault in
    let knows = g.A.Analyzer.knows_name c.args.analyzer in
    subst (λ (content : List ℕ). (fault ≡ faults.Device) ⊎ (fault ≡ faults.OutOfMemory) ⊎ IsOpenRefusal knows content fault) (c.read_file.ensures.kept h).content_kept (c.in-Err.ensures.refused h)

pub returns-in-Ok-clause-faults : goal.returns-in-Ok-clause-faults
returns-in-Ok-clause-faults g c =
    err_map c.open_file.result (λ r. (r.fault ≡ faults.Device) ⊎ (r.fault ≡ faults.OutOfMemory)) (λ r. IsOpenFault r.fault) c.open_file.ensures.refused
    (λ r refused. elim refused [
      | inl failed ↦ inl failed
      | inr memory ↦ inr (inl memory)
    ])
