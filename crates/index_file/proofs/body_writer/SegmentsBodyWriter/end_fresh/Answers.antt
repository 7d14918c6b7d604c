use Rattle.std.proofs.Common.{ap, arith, drop, length, length-drop, ◌-◌, ◌∙◌, ◌≡◌, refl, ℕ}
use Rattle.index_file.proofs.FreshPlaces.{ended_put, ended_stands}
use Rattle.index_file.proofs.body_writer.SegmentsBodyWriter.end_fresh.Goals as goal

pub returns-clause-put : goal.returns-clause-put
returns-clause-put c before begun =
    let frame = c.args.frame.items in
    let start = c.args.start in
    let len = c.len.ensures ∙ c.args.frame.ok.0 in
    let left = length-drop start frame in
    let many : c.len.result - start ≡ length (drop start frame) = omega (arith, len, left) in
    ended_put frame c.overwrite.new.frame.items c.to_le_bytes.result start (c.len.result - start) c.requires.room c.requires.within many c.to_le_bytes.ensures c.overwrite.ensures before begun

pub returns-clause-place : goal.returns-clause-place
returns-clause-place c =
    let frame = c.args.frame.items in
    let start = c.args.start in
    let new = c.overwrite.new.frame in
    let len = c.len.ensures ∙ c.args.frame.ok.0 in
    let left = length-drop start frame in
    let many : c.len.result - start ≡ length (drop start frame) = omega (arith, len, left) in
    let ends : c.len-2.result - 8 ≡ length new.items - 8 = ap (λ (m : ℕ). m - 8) (c.len-2.ensures ∙ new.ok.0) in
    ended_stands frame new.items c.to_le_bytes.result start (c.len.result - start) c.requires.room c.requires.within many c.to_le_bytes.ensures c.overwrite.ensures (record { start = start - 8; end = c.len-2.result - 8 }) refl ends
