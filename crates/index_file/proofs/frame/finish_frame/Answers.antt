use Rattle.std.proofs.Common.{List, ap, ap₂, arith, drop, length, length-drop, rules, ◌++◌, ◌-◌, ◌≡◌, ◌≤◌, ◌∙◌, [], ◌∷◌, ℕ}
use Rattle.std.proofs.lemmas.List.{drop-append-le}
use Rattle.definitions.specs.Disk.{overwritten}
use Rattle.definitions.specs.NumberCodes.{u64_bytes}
use Rattle.index_file.specs.Frames.{frame_bytes}
use Rattle.index_file.proofs.frame.finish_frame.Goals as goal

-- the length lies over the room before the body
finished : (old mid new spelled : List ℕ) (n : ℕ) → 8 ≤ length old → mid ≡ old ++ 0 ∷ [] → n ≡ length old - 8 → spelled ≡ u64_bytes n → new ≡ overwritten 0 spelled mid → new ≡ frame_bytes (drop 8 old)
finished old mid new spelled n room pushed long bytes is =
    let count : n ≡ length (drop 8 old) = omega (arith, length-drop 8 old) in
    let after : drop 8 mid ≡ drop 8 old ++ 0 ∷ [] = ap (λ (l : List ℕ). drop 8 l) pushed ∙ drop-append-le 8 old (0 ∷ []) room in
    is ∙ ap (λ (l : List ℕ). overwritten 0 l mid) bytes ∙ ap₂ (λ (m : ℕ) (l : List ℕ). u64_bytes m ++ l) count after

pub returns : goal.returns
returns c = finished c.args.frame.now.items c.push.new.self.items c.overwrite.new.frame.items c.to_le_bytes.result (c.len.result - 8) c.requires c.in_ok-push.ensures.items (search rules) c.to_le_bytes.ensures c.overwrite.ensures
