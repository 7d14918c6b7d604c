-- A member that is read, or refused, goes before those that are left.
use Rattle.std.proofs.Common.{◌∙◌, ◌≡◌, Err, Global, List, Ok, Result, String, ap, string_bytes, subst, sym}
use Rattle.std.proofs.lemmas.Result.{err_from_is_err_and}
use Rattle.definitions.specs.Reading.{read_member, read_members}
use Rattle.definitions.specs.Values.{Document}
use Rattle.definitions.specs.declared.fault.Fault.{Fault}
use Rattle.serde_json.specs.View.{members_view, view}
use Rattle.serde_json.specs.declared.value.Value.{Value as Json}
use Rattle.document.specs.JsonRead.{added_to}
use Rattle.document.proofs.ReadingSteps.{member_added, member_refused}
use Rattle.document.proofs.json_reader.read_members.Goals as goal

pub loop-key-preserved : goal.loop-key-preserved
loop-key-preserved c =
    let schema = c.args.schema.now in
    let before = c.loop-key.doc in
    let after = c.read_member.new.doc in
    let member = view c.in-Some.member.now in
    let left : List (String Global × Json) → Result Document Fault = λ l. added_to before (read_members schema (members_view l)) in
    let at_key : added_to before (read_member schema c.as_str.result.now member) ≡ Ok after = c.in_ok-read_member.ensures.ok in
    let at_member = subst (λ key. added_to before (read_member schema key member) ≡ Ok after) c.as_str.ensures.value at_key in
    sym (member_added schema before after (string_bytes c.in-Some.key.now) member (members_view c.next.new.self) at_member)
    ∙ sym (ap left c.in-Some.ensures.steps)
    ∙ c.loop-key.invariant

pub returns-in_err-read_member-clause-err : goal.returns-in_err-read_member-clause-err
returns-in_err-read_member-clause-err c =
    let p = err_from_is_err_and c.from_residual.result c.from_residual.ensures.1 in
    let schema = c.args.schema.now in
    let before = c.loop-key.doc in
    let member = view c.in-Some.member.now in
    let fault = c.in_err-read_member.field-0.0 in
    let left : List (String Global × Json) → Result Document Fault = λ l. added_to before (read_members schema (members_view l)) in
    rw (p.1, p.2) (λ other.
    let at_key : read_member schema c.as_str.result.now member ≡ Err fault = c.in_err-read_member.ensures.err other in
    let at_member = subst (λ key. read_member schema key member ≡ Err fault) c.as_str.ensures.value at_key in
    sym c.loop-key.invariant
    ∙ ap left c.in-Some.ensures.steps
    ∙ member_refused schema before (string_bytes c.in-Some.key.now) member (members_view c.next.new.self) fault at_member)
