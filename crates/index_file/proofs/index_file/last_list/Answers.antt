-- A record that is read adds its list, and where there is none the file is damaged, whatever file it is.
use Rattle.std.proofs.Common.{[], List, ap₂, arith, get_or, length, map, rules, subst, sym, ◌-◌, ◌≡◌, ◌≢◌, ℕ}
use Rattle.definitions.specs.Settings.{Settings}
use Rattle.layouts.specs.RecordFiles.{IsDamaged}
use Rattle.segment_definitions.specs.IndexFiles.{TakesSegments}
use Rattle.index_file.specs.Lists.{LeavesList, member_of}
use Rattle.index_file.specs.Reading.{IsReadUpTo}
use Rattle.index_file.proofs.FilesRead.{read_all, read_breaks, read_more, refused_at, shorter}
use Rattle.index_file.proofs.index_file.last_list.Goals as goal

pub returns-in-Err-clause-err : goal.returns-in-Err-clause-err
returns-in-Err-clause-err c =
    let schema = c.args.opener.schema.now in
    let rest = c.loop-rest.rest in
    let members = map member_of c.loop-rest.members.items in
    let first : get_or c.as_slice.result.now 0 0 ≡ 165 = search rules in
    let open_gate : get_or rest 0 0 ≡ 165 = subst (λ (bs : List ℕ). get_or bs 0 0 ≡ 165) c.as_slice.ensures first in
    refused_at c.in-Err.fault c.at_gate.result (c.args.num_bytes - c.len.result) (λ x. (settings : Settings) (bytes : List ℕ) → length bytes ≡ c.args.num_bytes → IsReadUpTo schema settings bytes c.args.rest [] → IsDamaged TakesSegments bytes x) c.at_gate.ensures
    (λ other settings bytes long begun. subst (IsDamaged TakesSegments bytes) (ap₂ (λ m n. m - n) long (sym c.len.ensures.value)) (read_breaks schema settings bytes rest members (c.loop-rest.invariant.read settings bytes long begun) open_gate (c.in-Err.ensures.err other)))

pub loop-rest-preserved : goal.loop-rest-preserved
loop-rest-preserved c =
    let schema = c.args.opener.schema.now in
    let rest = c.loop-rest.rest in
    let members = map member_of c.loop-rest.members.items in
    let next = map member_of c.in-Ok.after.items in
    let has = c.in-Ok.ensures.ok in
    let first : get_or c.as_slice.result.now 0 0 ≡ 165 = search rules in
    let open_gate : get_or rest 0 0 ≡ 165 = subst (λ (bs : List ℕ). get_or bs 0 0 ≡ 165) c.as_slice.ensures first in
    let less = shorter schema members next rest c.take_next.new.rest has in
    let inside = c.loop-rest.invariant.inside in
    record {
      read = λ settings bytes long begun. read_more schema settings bytes rest c.take_next.new.rest members next (c.loop-rest.invariant.read settings bytes long begun) open_gate has;
      listed = c.in-Ok.ensures.listed;
      some = has.more;
      inside = omega (arith, less, inside);
    }

pub returns-clause-ok : goal.returns-clause-ok
returns-clause-ok c = λ settings bytes long begun.
    let schema = c.args.opener.schema.now in
    let rest = c.loop-rest.rest in
    let members = map member_of c.loop-rest.members.items in
    let first : get_or c.as_slice.result.now 0 0 ≢ 165 = search rules in
    let closed : get_or rest 0 0 ≢ 165 = subst (λ (bs : List ℕ). get_or bs 0 0 ≢ 165) c.as_slice.ensures first in
    subst (λ n. LeavesList schema settings bytes n members) (ap₂ (λ m n. m - n) long (sym c.len-2.ensures.value)) (read_all schema settings bytes rest members (c.loop-rest.invariant.read settings bytes long begun) closed)
