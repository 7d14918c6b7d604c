-- A part that is kept stands at its index, behind those that are passed; a new one stands behind its length.
use Rattle.std.proofs.Common.{[], IfErr, IfOk, drop, length, map, subst, sym, take, ◌≡◌, ◌≢◌, ◌∙◌, ◌∷◌}
use Rattle.std.proofs.lemmas.Result.{IfErr-weaker, IfOk-weaker}
use Rattle.definitions.specs.declared.fault.Fault.TheVariants as faults
use Rattle.segment.specs.Opened.{bytes_of}
use Rattle.index_file.specs.Parts.{part_of}
use Rattle.segment_definitions.specs.ListBodies as layout
use Rattle.segment_definitions.specs.ListBodies.{IsMember, IsOfPart, fresh, kept}
use Rattle.segment_definitions.specs.Segments.{IsSegment}
use Rattle.index_file.specs.Lists.{member_of}
use Rattle.index_file.specs.Reading.{IsLeft}
use Rattle.index_file.proofs.PartsTaken.{fresh_taken, if_ok_on, kept_follows, kept_left, kept_part, taken_at}
use Rattle.index_file.proofs.part_reader.PartReader.take.Goals as goal

pub returns-in-Kept-clause-part : goal.returns-in-Kept-clause-part
returns-in-Kept-clause-part c = λ all parts more given.
    let reader = c.args.self.now in
    let index = c.in-Kept.index in
    let left : IsLeft all (kept index ∷ parts) more reader = subst (λ p. IsLeft all (part_of p ∷ parts) more reader) c.in-Kept.is given in
    let follows = kept_follows reader.passed (length all) index parts left.rise in
    subst (λ p. IfOk c.take_kept.result (λ s. IsOfPart (map member_of all) (part_of p) (bytes_of s, []))) (sym c.in-Kept.is)
    (IfOk-weaker c.take_kept.result _ _ (λ s found. kept_part all index found.0 s (taken_at all reader.before.items c.take_kept.new.self.before.items reader.passed index found.0 left.before follows.0 found.2).0 found.1) c.take_kept.ensures.ok)

pub returns-in-Kept-clause-left : goal.returns-in-Kept-clause-left
returns-in-Kept-clause-left c = λ all parts more given.
    let reader = c.args.self.now in
    let index = c.in-Kept.index in
    let left : IsLeft all (kept index ∷ parts) more reader = subst (λ p. IsLeft all (part_of p ∷ parts) more reader) c.in-Kept.is given in
    if_ok_on c.take_kept.result _ _ (λ s found. kept_left all parts more index found.0 reader c.take_kept.new.self left found.2 c.take_kept.ensures.passed c.take_kept.ensures.rest c.take_kept.ensures.opener) c.take_kept.ensures.ok

pub returns-in-Fresh-clause-err : goal.returns-in-Fresh-clause-err
returns-in-Fresh-clause-err c = λ all parts more given.
    let reader = c.args.self.now in
    let segment = c.in-Fresh.segment.now in
    let left : IsLeft all (fresh segment ∷ parts) more reader = subst (λ p. IsLeft all (part_of p ∷ parts) more reader) c.in-Fresh.is given in
    let same : take (length segment) (drop 9 reader.bytes) ≡ segment = fresh_taken segment parts more reader.bytes left.bytes in
    subst (λ p. IfErr c.open_fresh.result (λ fault. fault ≢ faults.OutOfMemory → (m : layout.Member) → IsOfPart (map member_of all) (part_of p) m → ¬ IsMember (IsSegment reader.opener.schema.now) m)) (sym c.in-Fresh.is)
    (IfErr-weaker c.open_fresh.result _ _ (λ fault none. λ other m of_part is. none other (length m.1) (subst (IsSegment reader.opener.schema.now (length m.1)) (sym of_part ∙ sym same) is.0)) c.open_fresh.ensures.err)

pub returns-in-Fresh-clause-part : goal.returns-in-Fresh-clause-part
returns-in-Fresh-clause-part c = λ all parts more given.
    let reader = c.args.self.now in
    let segment = c.in-Fresh.segment.now in
    let left : IsLeft all (fresh segment ∷ parts) more reader = subst (λ p. IsLeft all (part_of p ∷ parts) more reader) c.in-Fresh.is given in
    let same : take (length segment) (drop 9 reader.bytes) ≡ segment = fresh_taken segment parts more reader.bytes left.bytes in
    subst (λ p. IfOk c.open_fresh.result (λ s. IsOfPart (map member_of all) (part_of p) (bytes_of s, []))) (sym c.in-Fresh.is)
    (IfOk-weaker c.open_fresh.result _ _ (λ s is. sym (is ∙ same)) c.open_fresh.ensures.bytes)
