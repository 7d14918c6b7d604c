-- The first record says what the index is made of, and what the others leave is read behind it.
use Rattle.std.proofs.Common.{List, None, arith, drop, get_or, length, rules, subst, sym, ◌++◌, ◌<◌, ◌≡◌, ◌≤◌, ◌∷◌, ◌^◌, ℕ, map}
use Rattle.std.proofs.lemmas.Result.{err_from_is_err_and}
use Rattle.layouts.specs.RecordBodies.{first_in}
use Rattle.layouts.specs.RecordFiles.{IsDamaged, sized_body}
use Rattle.segment_definitions.specs.IndexFiles.{TakesSegments}
use Rattle.index_file.specs.Lists.{member_of}
use Rattle.index_file.specs.Reading.{HasFirst}
use Rattle.index_file.proofs.FilesRead.{damage_here, first_breaks, groups_left, read_first, refusal_of, refused_at}
use Rattle.index_file.proofs.index_file.IndexFile.open.Goals as goal

pub returns-in-Err-clause-err : goal.returns-in-Err-clause-err
returns-in-Err-clause-err c =
    let bytes = c.args.bytes in
    let long : 10 ≤ length bytes = omega (arith, c.if-len-lt-LEAST_BYTES.false, c.len.ensures.value) in
    let first : get_or c.as_slice.result.now 0 0 ≡ 165 = search rules in
    let open_gate : get_or bytes 0 0 ≡ 165 = subst (λ (bs : List ℕ). get_or bs 0 0 ≡ 165) c.as_slice.ensures first in
    refusal_of TakesSegments bytes c.at_gate.result (refused_at c.in-Err.fault c.at_gate.result 0 (λ x. IsDamaged TakesSegments bytes x) c.at_gate.ensures (λ other. first_breaks bytes long open_gate
    (subst (λ (bs : List ℕ). (body : List ℕ) (gate : ℕ) (more : List ℕ) → length body < 2 ^ 64 → drop 1 bs ≡ sized_body body ++ gate ∷ more → first_in body ≡ None) c.in_ok-rest.ensures.cases (c.in-Err.ensures.err other))))

pub returns-in_err-members-clause-err : goal.returns-in_err-members-clause-err
returns-in_err-members-clause-err c =
    let p = err_from_is_err_and c.from_residual-in_err-members.result c.from_residual-in_err-members.ensures.1 in
    let bytes = c.args.bytes in
    let long : 10 ≤ length bytes = omega (arith, c.if-len-lt-LEAST_BYTES.false, c.len.ensures.value) in
    let first : get_or c.as_slice.result.now 0 0 ≡ 165 = search rules in
    let open_gate : get_or bytes 0 0 ≡ 165 = subst (λ (bs : List ℕ). get_or bs 0 0 ≡ 165) c.as_slice.ensures first in
    let has : HasFirst c.in-Ok.made bytes c.take_first.new.rest = subst (λ (bs : List ℕ). HasFirst c.in-Ok.made bs c.take_first.new.rest) c.in_ok-rest.ensures.cases c.in-Ok.ensures.ok in
    let begun = read_first c.in-Ok.made.0 c.in-Ok.made.1 bytes c.take_first.new.rest long open_gate has in
    rw (p.1, p.2) (refusal_of TakesSegments bytes c.in_err-members.field-0.0 (damage_here c.in_err-members.field-0.0 _ _ (λ x holds. holds c.in-Ok.made.1 bytes (sym c.len-2.ensures.value) begun) c.in_err-members.ensures.err))

pub returns-clause-ok : goal.returns-clause-ok
returns-clause-ok c =
    let bytes = c.args.bytes in
    let long : 10 ≤ length bytes = omega (arith, c.if-len-lt-LEAST_BYTES.false, c.len.ensures.value) in
    let first : get_or c.as_slice.result.now 0 0 ≡ 165 = search rules in
    let open_gate : get_or bytes 0 0 ≡ 165 = subst (λ (bs : List ℕ). get_or bs 0 0 ≡ 165) c.as_slice.ensures first in
    let has : HasFirst c.in-Ok.made bytes c.take_first.new.rest = subst (λ (bs : List ℕ). HasFirst c.in-Ok.made bs c.take_first.new.rest) c.in_ok-rest.ensures.cases c.in-Ok.ensures.ok in
    let begun = read_first c.in-Ok.made.0 c.in-Ok.made.1 bytes c.take_first.new.rest long open_gate has in
    c.in_ok-members.ensures.ok c.in-Ok.made.1 bytes (sym c.len-2.ensures.value) begun

pub returns-clause-groups : goal.returns-clause-groups
returns-clause-groups c = λ analyze groups. groups_left c.in-Ok.made.0 c.in-Ok.made.1 analyze c.args.bytes c.in_ok-members.gate (map member_of c.in_ok-members.members.items) groups (returns-clause-ok c)
