use Rattle.std.proofs.Common.{IfErr, None, OnOk, Some, ap, inl, inr, refl, subst, sym, true≢false, ◌≡◌, ◌≢◌, ◌⊎◌}
use Rattle.definitions.proofs.OwnFaults.{any_err as any_fault}
use Rattle.definitions.specs.Calls as calls
use Rattle.definitions.specs.Disk.{HasCause}
use Rattle.definitions.specs.Requests as requests
use Rattle.definitions.specs.Step as steps
use Rattle.definitions.specs.declared.fault.Fault.TheVariants as faults
use Rattle.engine.specs.Indexes.{IndexStands, IsInFile, KeepsFile, device_of}
use Rattle.index.specs.AskedRequests.{index_request_of}
use Rattle.index.specs.Replying.{Answers, IndexMeets, IsFailed, IsUnwritten, OnlyStops}
use Rattle.index.proofs.Answering.{add_refused, change_answers, taken_answers, write_kept, write_refused}
use Rattle.index.proofs.Causes.{add_cause, any_answer, change_is_memory, memory_cause, memory_no_limit, met_limit, same_cause, same_error}
use Rattle.index.proofs.IndexFiles.{counted_still, in_file_still, searched_still, step_status, written_in_file}
use Rattle.index.proofs.KeptDevices.{unwritten_file}
use Rattle.index.proofs.Leavings.{add_closes, add_stays, after_error, any_error, error_of_change, reply_stops}
use Rattle.serde_json.specs.View.{view}
use Rattle.index.specs.Asking.{AsksIndex}
use Rattle.index.proofs.Failures.{closed_no_limit, memory_no_device, no_add_failed, writes_failed}
use Rattle.index.specs.Outcomes.{IndexComesTo, saying_done}
use Rattle.index.proofs.Endings.{add_ends, change_tells, commit_ends, merge_ends}
use Rattle.index_state.proofs.Shadows.{on_err as after_any}
use Rattle.index.proofs.answers.answer.Goals as goal

-- ---- an add

pub returns-in-Add-clause-answered : goal.returns-in-Add-clause-answered
returns-in-Add-clause-answered g c k x s =
    let d = view c.in-Add.doc.now in
    subst (λ r. Answers g.A.Analyzer.analyze c.add_value.new.self k x (index_request_of r) c.answer_change.result) (sym c.in-Add.is)
    (change_answers g.A.Analyzer.analyze c.add_value.new.self k x (requests.add_doc d) (calls.add_value d) c.add_value.result c.answer_change.result refl refl (c.add_value.ensures.left k x s) (add_refused c.add_value.result (λ fault. calls.call_fault k x (calls.add_value d) ≡ Some fault) (c.add_value.ensures.exact k x s)) c.answer_change.ensures.text c.answer_change.ensures.on)

pub returns-in-Add-clause-kept : goal.returns-in-Add-clause-kept
returns-in-Add-clause-kept g c k x s = any_answer c.answer_change.result ((x.status ≡ calls.ready) ⊎ KeepsFile c.args.index.now c.add_value.new.self) (inr c.add_value.ensures.file)

pub returns-in-Add-clause-rests : goal.returns-in-Add-clause-rests
returns-in-Add-clause-rests g c k x s is =
    let d = view c.in-Add.doc.now in
    let new = c.add_value.new.self in
    subst (λ r. OnOk c.answer_change.result (IsInFile new ((steps.index_step k x (index_request_of r)).1))) (sym c.in-Add.is)
    (any_answer c.answer_change.result (IsInFile new ((steps.index_step k x (requests.add_doc d)).1))
    (in_file_still c.args.index.now new x ((steps.index_step k x (requests.add_doc d)).1) c.add_value.ensures.made c.add_value.ensures.file (step_status k x (requests.add_doc d)) is))

pub returns-in-Add-clause-failures : goal.returns-in-Add-clause-failures
returns-in-Add-clause-failures g c k x s =
    let d = g.D.Device in
    let call = calls.add_value (view c.in-Add.doc.now) in
    subst (λ e. HasCause (d.failed (device_of c.args.index.now)) (d.failed e) c.answer_change.result) (sym c.add_value.ensures.file.0)
    (add_cause k x call (d.failed (device_of c.args.index.now)) c.add_value.result c.answer_change.result (c.add_value.ensures.exact k x s) c.answer_change.ensures.same)

pub returns-in-Add-clause-limit : goal.returns-in-Add-clause-limit
returns-in-Add-clause-limit g c k x s limit =
    subst (λ r. IndexMeets g.A.Analyzer.analyze c.args.index.now k x (Some (index_request_of r))) (sym c.in-Add.is)
    (met_limit c.add_value.result _ (c.add_value.ensures.limit k x s) (same_error c.add_value.result c.answer_change.result faults.Limit c.answer_change.ensures.same limit))

pub returns-in-Add-clause-honest : goal.returns-in-Add-clause-honest
returns-in-Add-clause-honest g c = ap g.D.Device.honest c.add_value.ensures.file.0

pub returns-in-Add-clause-left : goal.returns-in-Add-clause-left
returns-in-Add-clause-left g c k x s =
    let analyze = g.A.Analyzer.analyze in
    let old = c.args.index.now in
    let new = c.add_value.new.self in
    let value = view c.in-Add.doc.now in
    let r = requests.add_doc value in
    subst (λ r. IfErr c.answer_change.result (λ fault. fault ≢ faults.Device → OnlyStops analyze old new k x (index_request_of r) fault)) (sym c.in-Add.is)
    (reply_stops analyze new k x old r (calls.add_value value) c.add_value.result c.answer_change.result
    (add_stays analyze new k x old value c.add_value.result s (c.add_value.ensures.limit k x s) (λ doc. c.add_value.ensures.closed k x doc s))
    (λ accepted _. add_closes analyze new k x old value c.add_value.result s (λ doc. c.add_value.ensures.long k x doc s) accepted)
    c.answer_change.ensures.same (c.add_value.ensures.left k x s) (any_error c.add_value.result (λ _. KeepsFile old new) (λ _. c.add_value.ensures.file)))

-- ---- a deletion

pub returns-in-Delete-clause-answered : goal.returns-in-Delete-clause-answered
returns-in-Delete-clause-answered g c k x s =
    let d = view c.in-Delete.term.now in
    subst (λ r. Answers g.A.Analyzer.analyze c.delete.new.index k x (index_request_of r) c.answer_change-in-Delete.result) (sym c.in-Delete.is)
    (taken_answers g.A.Analyzer.analyze c.delete.new.index k x (requests.delete_docs d) c.delete.result c.answer_change-in-Delete.result (c.delete.ensures.ok k x s) (c.delete.ensures.err k x s) (c.delete.ensures.left k x s) c.answer_change-in-Delete.ensures.text c.answer_change-in-Delete.ensures.on)

pub returns-in-Delete-clause-kept : goal.returns-in-Delete-clause-kept
returns-in-Delete-clause-kept g c k x s = any_answer c.answer_change-in-Delete.result ((x.status ≡ calls.ready) ⊎ KeepsFile c.args.index.now c.delete.new.index) (inr c.delete.ensures.file)

pub returns-in-Delete-clause-rests : goal.returns-in-Delete-clause-rests
returns-in-Delete-clause-rests g c k x s is =
    let r = requests.delete_docs (view c.in-Delete.term.now) in
    let new = c.delete.new.index in
    subst (λ r. OnOk c.answer_change-in-Delete.result (IsInFile new ((steps.index_step k x (index_request_of r)).1))) (sym c.in-Delete.is)
    (any_answer c.answer_change-in-Delete.result (IsInFile new ((steps.index_step k x r).1))
    (in_file_still c.args.index.now new x ((steps.index_step k x r).1) c.delete.ensures.made c.delete.ensures.file (step_status k x r) is))

pub returns-in-Delete-clause-failures : goal.returns-in-Delete-clause-failures
returns-in-Delete-clause-failures g c k x s =
    let d = g.D.Device in
    let before = d.failed (device_of c.args.index.now) in
    let r = c.answer_change-in-Delete.result in
    subst (λ e. HasCause before (d.failed e) r) (sym c.delete.ensures.file.0)
    (memory_cause before r (change_is_memory c.delete.result r (c.delete.ensures.goes_on k x s) c.answer_change-in-Delete.ensures.same c.answer_change-in-Delete.ensures.err))

pub returns-in-Delete-clause-limit : goal.returns-in-Delete-clause-limit
returns-in-Delete-clause-limit g c k x s limit =
    let r = c.answer_change-in-Delete.result in
    absurd (memory_no_limit r (change_is_memory c.delete.result r (c.delete.ensures.goes_on k x s) c.answer_change-in-Delete.ensures.same c.answer_change-in-Delete.ensures.err) limit)

pub returns-in-Delete-clause-honest : goal.returns-in-Delete-clause-honest
returns-in-Delete-clause-honest g c = ap g.D.Device.honest c.delete.ensures.file.0

pub returns-in-Delete-clause-left : goal.returns-in-Delete-clause-left
returns-in-Delete-clause-left g c k x s =
    let old = c.args.index.now in
    let new = c.delete.new.index in
    let analyze = g.A.Analyzer.analyze in
    let r = requests.delete_docs (view c.in-Delete.term.now) in
    subst (λ r. IfErr c.answer_change-in-Delete.result (λ fault. fault ≢ faults.Device → OnlyStops analyze old new k x (index_request_of r) fault)) (sym c.in-Delete.is)
    (error_of_change c.delete.result c.answer_change-in-Delete.result (λ fault. fault ≢ faults.Device → OnlyStops analyze old new k x r fault) c.answer_change-in-Delete.ensures.same
    (after_error c.delete.result (IndexStands analyze new k x) (OnlyStops analyze old new k x r)
    (λ fault stands. record { file = c.delete.ensures.file; stands = inl (tt, stands) }) (c.delete.ensures.left k x s)))

-- ---- a merge

pub returns-in-Merge-clause-answered : goal.returns-in-Merge-clause-answered
returns-in-Merge-clause-answered g c k x s =
    let call = calls.merge_range c.in-Merge.from c.in-Merge.to in
    subst (λ r. Answers g.A.Analyzer.analyze c.merge.new.self k x (index_request_of r) c.answer_change-in-Merge.result) (sym c.in-Merge.is)
    (change_answers g.A.Analyzer.analyze c.merge.new.self k x (requests.merge_groups c.in-Merge.from c.in-Merge.to) call c.merge.result c.answer_change-in-Merge.result refl refl ((c.merge.ensures.writes k x s).left) (write_refused c.merge.result (λ fault. calls.call_fault k x call ≡ Some fault) ((c.merge.ensures.writes k x s).exact)) c.answer_change-in-Merge.ensures.text c.answer_change-in-Merge.ensures.on)

pub returns-in-Merge-clause-kept : goal.returns-in-Merge-clause-kept
returns-in-Merge-clause-kept g c k x s = write_kept (KeepsFile c.args.index.now c.merge.new.self) (IndexStands g.A.Analyzer.analyze c.merge.new.self k) (calls.merge_range c.in-Merge.from c.in-Merge.to) c.merge.result c.answer_change-in-Merge.result k x refl ((c.merge.ensures.writes k x s).left) c.merge.ensures.kept c.answer_change-in-Merge.ensures.on

pub returns-in-Merge-clause-rests : goal.returns-in-Merge-clause-rests
returns-in-Merge-clause-rests g c k x s is =
    let new = c.merge.new.self in
    let call = calls.merge_range c.in-Merge.from c.in-Merge.to in
    subst (λ r. OnOk c.answer_change-in-Merge.result (IsInFile new ((steps.index_step k x (index_request_of r)).1))) (sym c.in-Merge.is)
    (written_in_file g.A.Analyzer.analyze c.args.index.now new (requests.merge_groups c.in-Merge.from c.in-Merge.to) call c.merge.result c.answer_change-in-Merge.result k x refl ((c.merge.ensures.writes k x s).left) (write_refused c.merge.result (λ fault. calls.call_fault k x call ≡ Some fault) ((c.merge.ensures.writes k x s).exact)) c.merge.ensures.made c.merge.ensures.honest c.merge.ensures.kept ((c.merge.ensures.writes k x s).rests) c.answer_change-in-Merge.ensures.on is)

pub returns-in-Merge-clause-failures : goal.returns-in-Merge-clause-failures
returns-in-Merge-clause-failures g c k x s =
    let d = g.D.Device in
    same_cause (d.failed (device_of c.args.index.now)) (d.failed (device_of c.merge.new.self)) c.merge.result c.answer_change-in-Merge.result c.answer_change-in-Merge.ensures.same c.merge.ensures.cause

pub returns-in-Merge-clause-limit : goal.returns-in-Merge-clause-limit
returns-in-Merge-clause-limit g c k x s limit =
    subst (λ r. IndexMeets g.A.Analyzer.analyze c.args.index.now k x (Some (index_request_of r))) (sym c.in-Merge.is)
    (c.merge.ensures.limit k x s (same_error c.merge.result c.answer_change-in-Merge.result faults.Limit c.answer_change-in-Merge.ensures.same limit))

pub returns-in-Merge-clause-left : goal.returns-in-Merge-clause-left
returns-in-Merge-clause-left g c k x s =
    let analyze = g.A.Analyzer.analyze in
    let old = c.args.index.now in
    let new = c.merge.new.self in
    let r = requests.merge_groups c.in-Merge.from c.in-Merge.to in
    subst (λ r. IfErr c.answer_change-in-Merge.result (λ fault. fault ≢ faults.Device → OnlyStops analyze old new k x (index_request_of r) fault)) (sym c.in-Merge.is)
    (reply_stops analyze new k x old r (calls.merge_range c.in-Merge.from c.in-Merge.to) c.merge.result c.answer_change-in-Merge.result (λ _ _ _. any_fault c.merge.result _ (λ f limit. tt)) (λ _ adds _. absurd (true≢false (sym adds)))
    c.answer_change-in-Merge.ensures.same ((c.merge.ensures.writes k x s).left) c.merge.ensures.kept)

-- ---- a commit

pub returns-in-Commit-clause-answered : goal.returns-in-Commit-clause-answered
returns-in-Commit-clause-answered g c k x s =
    subst (λ r. Answers g.A.Analyzer.analyze c.commit.new.self k x (index_request_of r) c.answer_change-in-Commit.result) (sym c.in-Commit.is)
    (change_answers g.A.Analyzer.analyze c.commit.new.self k x requests.commit_all calls.commit_pending c.commit.result c.answer_change-in-Commit.result refl refl ((c.commit.ensures.writes k x s).left) (write_refused c.commit.result (λ fault. calls.call_fault k x calls.commit_pending ≡ Some fault) ((c.commit.ensures.writes k x s).exact)) c.answer_change-in-Commit.ensures.text c.answer_change-in-Commit.ensures.on)

pub returns-in-Commit-clause-kept : goal.returns-in-Commit-clause-kept
returns-in-Commit-clause-kept g c k x s = write_kept (KeepsFile c.args.index.now c.commit.new.self) (IndexStands g.A.Analyzer.analyze c.commit.new.self k) calls.commit_pending c.commit.result c.answer_change-in-Commit.result k x refl ((c.commit.ensures.writes k x s).left) c.commit.ensures.kept c.answer_change-in-Commit.ensures.on

pub returns-in-Commit-clause-rests : goal.returns-in-Commit-clause-rests
returns-in-Commit-clause-rests g c k x s is =
    let new = c.commit.new.self in
    subst (λ r. OnOk c.answer_change-in-Commit.result (IsInFile new ((steps.index_step k x (index_request_of r)).1))) (sym c.in-Commit.is)
    (written_in_file g.A.Analyzer.analyze c.args.index.now new requests.commit_all calls.commit_pending c.commit.result c.answer_change-in-Commit.result k x refl ((c.commit.ensures.writes k x s).left) (write_refused c.commit.result (λ fault. calls.call_fault k x calls.commit_pending ≡ Some fault) ((c.commit.ensures.writes k x s).exact)) c.commit.ensures.made c.commit.ensures.honest c.commit.ensures.kept ((c.commit.ensures.writes k x s).rests) c.answer_change-in-Commit.ensures.on is)

pub returns-in-Commit-clause-failures : goal.returns-in-Commit-clause-failures
returns-in-Commit-clause-failures g c k x s =
    let d = g.D.Device in
    same_cause (d.failed (device_of c.args.index.now)) (d.failed (device_of c.commit.new.self)) c.commit.result c.answer_change-in-Commit.result c.answer_change-in-Commit.ensures.same c.commit.ensures.cause

pub returns-in-Commit-clause-limit : goal.returns-in-Commit-clause-limit
returns-in-Commit-clause-limit g c k x s limit =
    subst (λ r. IndexMeets g.A.Analyzer.analyze c.args.index.now k x (Some (index_request_of r))) (sym c.in-Commit.is)
    (c.commit.ensures.limit k x s (same_error c.commit.result c.answer_change-in-Commit.result faults.Limit c.answer_change-in-Commit.ensures.same limit))

pub returns-in-Commit-clause-left : goal.returns-in-Commit-clause-left
returns-in-Commit-clause-left g c k x s =
    let analyze = g.A.Analyzer.analyze in
    let old = c.args.index.now in
    let new = c.commit.new.self in
    let r = requests.commit_all in
    subst (λ r. IfErr c.answer_change-in-Commit.result (λ fault. fault ≢ faults.Device → OnlyStops analyze old new k x (index_request_of r) fault)) (sym c.in-Commit.is)
    (reply_stops analyze new k x old r calls.commit_pending c.commit.result c.answer_change-in-Commit.result (λ _ adds _. absurd (true≢false (sym adds)))
    (λ accepted _ _. after_any c.commit.result (calls.call_fault k x calls.commit_pending ≡ None) accepted)
    c.answer_change-in-Commit.ensures.same ((c.commit.ensures.writes k x s).left) c.commit.ensures.kept)

-- ---- a search

pub returns-in-Search-clause-answered : goal.returns-in-Search-clause-answered
returns-in-Search-clause-answered g c k x s =
    subst (λ r. Answers g.A.Analyzer.analyze c.search.new.index k x (index_request_of r) c.search.result) (sym c.in-Search.is) (c.search.ensures.answered k x s)

pub returns-in-Search-clause-kept : goal.returns-in-Search-clause-kept
returns-in-Search-clause-kept g c k x s = any_answer c.search.result ((x.status ≡ calls.ready) ⊎ KeepsFile c.args.index.now c.search.new.index) (inr c.search.ensures.file)

pub returns-in-Search-clause-rests : goal.returns-in-Search-clause-rests
returns-in-Search-clause-rests g c k x s is =
    let new = c.search.new.index in
    let r = requests.search_docs (view c.in-Search.query.now) c.in-Search.k in
    subst (λ r. OnOk c.search.result (IsInFile new ((steps.index_step k x (index_request_of r)).1))) (sym c.in-Search.is)
    (any_answer c.search.result (IsInFile new ((steps.index_step k x r).1)) (subst (λ y. IsInFile new y) (sym (searched_still k x (view c.in-Search.query.now) c.in-Search.k)) (in_file_still c.args.index.now new x x c.search.ensures.made c.search.ensures.file refl is)))

pub returns-in-Search-clause-failures : goal.returns-in-Search-clause-failures
returns-in-Search-clause-failures g c k x s =
    let d = g.D.Device in
    let before = d.failed (device_of c.args.index.now) in
    subst (λ e. HasCause before (d.failed e) c.search.result) (sym c.search.ensures.file.0) (memory_cause before c.search.result (c.search.ensures.err k x s))

pub returns-in-Search-clause-limit : goal.returns-in-Search-clause-limit
returns-in-Search-clause-limit g c k x s limit = absurd (memory_no_limit c.search.result (c.search.ensures.err k x s) limit)

pub returns-in-Search-clause-honest : goal.returns-in-Search-clause-honest
returns-in-Search-clause-honest g c = ap g.D.Device.honest c.search.ensures.file.0

pub returns-in-Search-clause-left : goal.returns-in-Search-clause-left
returns-in-Search-clause-left g c k x s =
    let analyze = g.A.Analyzer.analyze in
    let old = c.args.index.now in
    let new = c.search.new.index in
    let r = requests.search_docs (view c.in-Search.query.now) c.in-Search.k in
    subst (λ r. IfErr c.search.result (λ fault. fault ≢ faults.Device → OnlyStops analyze old new k x (index_request_of r) fault)) (sym c.in-Search.is)
    (any_error c.search.result (OnlyStops analyze old new k x r) (λ fault. record { file = c.search.ensures.file; stands = inl (tt, c.search.ensures.left k x s) }))

-- ---- a count

pub returns-in-Count-clause-answered : goal.returns-in-Count-clause-answered
returns-in-Count-clause-answered g c k x s =
    subst (λ r. Answers g.A.Analyzer.analyze c.args.index.now k x (index_request_of r) c.count.result) (sym c.in-Count.is) (c.count.ensures.answered k x s)

pub returns-in-Count-clause-kept : goal.returns-in-Count-clause-kept
returns-in-Count-clause-kept g c k x s = any_answer c.count.result ((x.status ≡ calls.ready) ⊎ KeepsFile c.args.index.now c.args.index.now) (inr (refl, refl, refl))

pub returns-in-Count-clause-rests : goal.returns-in-Count-clause-rests
returns-in-Count-clause-rests g c k x s is =
    let index = c.args.index.now in
    let r = requests.count_docs (view c.in-Count.query.now) in
    subst (λ r. OnOk c.count.result (IsInFile index ((steps.index_step k x (index_request_of r)).1))) (sym c.in-Count.is)
    (any_answer c.count.result (IsInFile index ((steps.index_step k x r).1)) (subst (λ y. IsInFile index y) (sym (counted_still k x (view c.in-Count.query.now))) is))

pub returns-in-Count-clause-failures : goal.returns-in-Count-clause-failures
returns-in-Count-clause-failures g c k x s = memory_cause (g.D.Device.failed (device_of c.args.index.now)) c.count.result (c.count.ensures.err k x s)

pub returns-in-Count-clause-limit : goal.returns-in-Count-clause-limit
returns-in-Count-clause-limit g c k x s limit = absurd (memory_no_limit c.count.result (c.count.ensures.err k x s) limit)

pub returns-in-Count-clause-left : goal.returns-in-Count-clause-left
returns-in-Count-clause-left g c k x s =
    let analyze = g.A.Analyzer.analyze in
    let index = c.args.index.now in
    let r = requests.count_docs (view c.in-Count.query.now) in
    subst (λ r. IfErr c.count.result (λ fault. fault ≢ faults.Device → OnlyStops analyze index index k x (index_request_of r) fault)) (sym c.in-Count.is)
    (any_error c.count.result (OnlyStops analyze index index k x r) (λ fault. record { file = (refl, refl, refl); stands = inl (tt, s) }))

-- ---- the file

pub returns-in-Merge-clause-file : goal.returns-in-Merge-clause-file
returns-in-Merge-clause-file g c unwritten =
    unwritten_file c.args.index.now c.merge.new.self (Some (requests.merge_groups c.in-Merge.from c.in-Merge.to)) c.merge.result c.answer_change-in-Merge.result refl c.answer_change-in-Merge.ensures.text c.answer_change-in-Merge.ensures.on c.answer_change-in-Merge.ensures.same c.merge.ensures.kept
    (subst (λ r. IsUnwritten (Some (index_request_of r)) c.answer_change-in-Merge.result) c.in-Merge.is unwritten)

pub returns-in-Commit-clause-file : goal.returns-in-Commit-clause-file
returns-in-Commit-clause-file g c unwritten =
    unwritten_file c.args.index.now c.commit.new.self (Some requests.commit_all) c.commit.result c.answer_change-in-Commit.result refl c.answer_change-in-Commit.ensures.text c.answer_change-in-Commit.ensures.on c.answer_change-in-Commit.ensures.same c.commit.ensures.kept
    (subst (λ r. IsUnwritten (Some (index_request_of r)) c.answer_change-in-Commit.result) c.in-Commit.is unwritten)

-- ---- what is asked of the index

pub returns-in-Add-clause-asks : goal.returns-in-Add-clause-asks
returns-in-Add-clause-asks g c = inl c.add_value.ensures.file.0

pub returns-in-Delete-clause-asks : goal.returns-in-Delete-clause-asks
returns-in-Delete-clause-asks g c = inl c.delete.ensures.file.0

pub returns-in-Merge-clause-asks : goal.returns-in-Merge-clause-asks
returns-in-Merge-clause-asks g c =
    subst (λ r. AsksIndex g.A.Analyzer.analyze c.args.index.now c.merge.new.self (index_request_of r)) (sym c.in-Merge.is)
    (inr (calls.merge_range c.in-Merge.from c.in-Merge.to, refl, record { change = c.merge.result; writes = c.merge.ensures.writes; kept = c.merge.ensures.kept }))

pub returns-in-Commit-clause-asks : goal.returns-in-Commit-clause-asks
returns-in-Commit-clause-asks g c =
    subst (λ r. AsksIndex g.A.Analyzer.analyze c.args.index.now c.commit.new.self (index_request_of r)) (sym c.in-Commit.is)
    (inr (calls.commit_pending, refl, record { change = c.commit.result; writes = c.commit.ensures.writes; kept = c.commit.ensures.kept }))

pub returns-in-Search-clause-asks : goal.returns-in-Search-clause-asks
returns-in-Search-clause-asks g c = inl c.search.ensures.file.0

pub returns-in-Count-clause-asks : goal.returns-in-Count-clause-asks
returns-in-Count-clause-asks g c = inl refl

-- ---- a closed index, and a failed device

pub returns-in-Add-clause-closed : goal.returns-in-Add-clause-closed
returns-in-Add-clause-closed g c k x s closed limit =
    closed_no_limit k x (calls.add_value (view c.in-Add.doc.now)) c.add_value.result (IndexStands g.A.Analyzer.analyze c.add_value.new.self k) (c.add_value.ensures.left k x s) closed (same_error c.add_value.result c.answer_change.result faults.Limit c.answer_change.ensures.same limit)

pub returns-in-Add-clause-failed : goal.returns-in-Add-clause-failed
returns-in-Add-clause-failed g c k x s device =
    absurd (no_add_failed k x (calls.add_value (view c.in-Add.doc.now)) c.add_value.result (IndexStands g.A.Analyzer.analyze c.add_value.new.self k) refl refl (c.add_value.ensures.left k x s) (same_error c.add_value.result c.answer_change.result faults.Device c.answer_change.ensures.same device))

pub returns-in-Delete-clause-closed : goal.returns-in-Delete-clause-closed
returns-in-Delete-clause-closed g c k x s closed limit =
    let r = c.answer_change-in-Delete.result in
    memory_no_limit r (change_is_memory c.delete.result r (c.delete.ensures.goes_on k x s) c.answer_change-in-Delete.ensures.same c.answer_change-in-Delete.ensures.err) limit

pub returns-in-Delete-clause-failed : goal.returns-in-Delete-clause-failed
returns-in-Delete-clause-failed g c k x s device =
    let r = c.answer_change-in-Delete.result in
    absurd (memory_no_device r (change_is_memory c.delete.result r (c.delete.ensures.goes_on k x s) c.answer_change-in-Delete.ensures.same c.answer_change-in-Delete.ensures.err) device)

pub returns-in-Merge-clause-closed : goal.returns-in-Merge-clause-closed
returns-in-Merge-clause-closed g c k x s closed limit =
    closed_no_limit k x (calls.merge_range c.in-Merge.from c.in-Merge.to) c.merge.result (IndexStands g.A.Analyzer.analyze c.merge.new.self k) ((c.merge.ensures.writes k x s).left) closed (same_error c.merge.result c.answer_change-in-Merge.result faults.Limit c.answer_change-in-Merge.ensures.same limit)

pub returns-in-Merge-clause-failed : goal.returns-in-Merge-clause-failed
returns-in-Merge-clause-failed g c k x s device =
    let analyze = g.A.Analyzer.analyze in
    let old = c.args.index.now in
    let new = c.merge.new.self in
    subst (λ r. IsFailed analyze old new k x (index_request_of r)) (sym c.in-Merge.is)
    (writes_failed analyze old new k x (requests.merge_groups c.in-Merge.from c.in-Merge.to) (calls.merge_range c.in-Merge.from c.in-Merge.to) c.merge.result refl (c.merge.ensures.writes k x s)
    (same_error c.merge.result c.answer_change-in-Merge.result faults.Device c.answer_change-in-Merge.ensures.same device))

pub returns-in-Commit-clause-closed : goal.returns-in-Commit-clause-closed
returns-in-Commit-clause-closed g c k x s closed limit =
    closed_no_limit k x calls.commit_pending c.commit.result (IndexStands g.A.Analyzer.analyze c.commit.new.self k) ((c.commit.ensures.writes k x s).left) closed (same_error c.commit.result c.answer_change-in-Commit.result faults.Limit c.answer_change-in-Commit.ensures.same limit)

pub returns-in-Commit-clause-failed : goal.returns-in-Commit-clause-failed
returns-in-Commit-clause-failed g c k x s device =
    let analyze = g.A.Analyzer.analyze in
    let old = c.args.index.now in
    let new = c.commit.new.self in
    subst (λ r. IsFailed analyze old new k x (index_request_of r)) (sym c.in-Commit.is)
    (writes_failed analyze old new k x requests.commit_all calls.commit_pending c.commit.result refl (c.commit.ensures.writes k x s)
    (same_error c.commit.result c.answer_change-in-Commit.result faults.Device c.answer_change-in-Commit.ensures.same device))

pub returns-in-Search-clause-closed : goal.returns-in-Search-clause-closed
returns-in-Search-clause-closed g c k x s closed limit = memory_no_limit c.search.result (c.search.ensures.err k x s) limit

pub returns-in-Search-clause-failed : goal.returns-in-Search-clause-failed
returns-in-Search-clause-failed g c k x s device = absurd (memory_no_device c.search.result (c.search.ensures.err k x s) device)

pub returns-in-Count-clause-closed : goal.returns-in-Count-clause-closed
returns-in-Count-clause-closed g c k x s closed limit = memory_no_limit c.count.result (c.count.ensures.err k x s) limit

pub returns-in-Count-clause-failed : goal.returns-in-Count-clause-failed
returns-in-Count-clause-failed g c k x s device = absurd (memory_no_device c.count.result (c.count.ensures.err k x s) device)

-- ---- an index of whatever documents

pub returns-in-Add-clause-comes : goal.returns-in-Add-clause-comes
returns-in-Add-clause-comes g c =
    let analyze = g.A.Analyzer.analyze in
    let old = c.args.index.now in
    let new = c.add_value.new.self in
    let value = view c.in-Add.doc.now in
    let add = c.add_value.ensures in
    subst (λ r. IndexComesTo analyze old new (index_request_of r) c.answer_change.result) (sym c.in-Add.is)
    (record {
      made = add.made;
      outcome = saying_done c.add_value.result;
      tells = change_tells c.add_value.result c.answer_change.result c.answer_change.ensures.text c.answer_change.ensures.on c.answer_change.ensures.err c.answer_change.ensures.same;
      ends = λ k x shadow. add_ends analyze old new k x value c.add_value.result (add.refused k x shadow) (add.admitted k x shadow) add.same add.stopped add.ready add.same_beside add.waits add.file;
    })

pub returns-in-Delete-clause-comes : goal.returns-in-Delete-clause-comes
returns-in-Delete-clause-comes g c =
    let analyze = g.A.Analyzer.analyze in
    subst (λ r. IndexComesTo analyze c.args.index.now c.delete.new.index (index_request_of r) c.answer_change-in-Delete.result) (sym c.in-Delete.is)
    (record {
      made = c.delete.ensures.made;
      outcome = saying_done c.delete.result;
      tells = change_tells c.delete.result c.answer_change-in-Delete.result c.answer_change-in-Delete.ensures.text c.answer_change-in-Delete.ensures.on c.answer_change-in-Delete.ensures.err c.answer_change-in-Delete.ensures.same;
      ends = c.delete.ensures.ends;
    })

pub returns-in-Merge-clause-comes : goal.returns-in-Merge-clause-comes
returns-in-Merge-clause-comes g c =
    let analyze = g.A.Analyzer.analyze in
    let old = c.args.index.now in
    let new = c.merge.new.self in
    let merge = c.merge.ensures in
    subst (λ r. IndexComesTo analyze old new (index_request_of r) c.answer_change-in-Merge.result) (sym c.in-Merge.is)
    (record {
      made = merge.made;
      outcome = saying_done c.merge.result;
      tells = change_tells c.merge.result c.answer_change-in-Merge.result c.answer_change-in-Merge.ensures.text c.answer_change-in-Merge.ensures.on c.answer_change-in-Merge.ensures.err c.answer_change-in-Merge.ensures.same;
      ends = λ k x shadow. merge_ends analyze old new k x c.in-Merge.from c.in-Merge.to c.merge.result (merge.refused k x shadow) (merge.admitted k x shadow) merge.same merge.failed merge.waits merge.segments merge.kept;
    })

pub returns-in-Commit-clause-comes : goal.returns-in-Commit-clause-comes
returns-in-Commit-clause-comes g c =
    let analyze = g.A.Analyzer.analyze in
    let old = c.args.index.now in
    let new = c.commit.new.self in
    let commit = c.commit.ensures in
    subst (λ r. IndexComesTo analyze old new (index_request_of r) c.answer_change-in-Commit.result) (sym c.in-Commit.is)
    (record {
      made = commit.made;
      outcome = saying_done c.commit.result;
      tells = change_tells c.commit.result c.answer_change-in-Commit.result c.answer_change-in-Commit.ensures.text c.answer_change-in-Commit.ensures.on c.answer_change-in-Commit.ensures.err c.answer_change-in-Commit.ensures.same;
      ends = λ k x shadow. commit_ends analyze old new k x c.commit.result (commit.refused k x shadow) (commit.admitted k x shadow) commit.same commit.half_way commit.failed commit.idle commit.segments commit.kept;
    })

pub returns-in-Search-clause-comes : goal.returns-in-Search-clause-comes
returns-in-Search-clause-comes g c =
    subst (λ r. IndexComesTo g.A.Analyzer.analyze c.args.index.now c.search.new.index (index_request_of r) c.search.result) (sym c.in-Search.is) c.search.ensures.comes

pub returns-in-Count-clause-comes : goal.returns-in-Count-clause-comes
returns-in-Count-clause-comes g c =
    subst (λ r. IndexComesTo g.A.Analyzer.analyze c.args.index.now c.args.index.now (index_request_of r) c.count.result) (sym c.in-Count.is) c.count.ensures.comes
