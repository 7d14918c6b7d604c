-- Members of a list that was opened, as segments and alive sets.
use Rattle.std.proofs.Common.{[], ◌<◌, ◌^◌, ◌∷◌, ◌≡◌, List, Some, ap, arith, length, map, refl, subst, ℕ}
use Rattle.std.proofs.lemmas.List.{length-map}
use Rattle.std.proofs.lemmas.Option.{same_Some}
use Rattle.std.specs.List.{AllByRecursion, last_or}
use Rattle.definitions.proofs.Lists.{zip_length}
use Rattle.definitions.specs.Schema.{Schema}
use Rattle.definitions.specs.Settings.{Settings}
use Rattle.segment.specs.Opened.{IsOpened}
use Rattle.index_file.specs.Lists.{IsListed, LeavesList, member_of}
use Rattle.index_file.specs.declared.member.Member as code
use Rattle.segment_definitions.specs.ListBodies.{IsOfPart, Member}
use Rattle.segment_definitions.specs.IndexFiles.{AreMade}
use Rattle.segment_definitions.specs.Segments.{IsSegment}
use Rattle.index_state.specs.Flags.{AreFlagged, members}
use Rattle.index_state.specs.Parts.{flags_in, segment_in}

pub all_opened : (schema : Schema) (ms : List code.Member) → AllByRecursion (IsListed schema) ms → AllByRecursion (IsOpened schema) (map segment_in ms)
all_opened schema [] h = tt
all_opened schema (m ∷ ms) h = (h.0.opened, all_opened schema ms h.1)

pub all_flagged : (schema : Schema) (ms : List code.Member) → AllByRecursion (IsListed schema) ms → AreFlagged (map segment_in ms) (map flags_in ms)
all_flagged schema [] h = tt
all_flagged schema (m ∷ ms) h = (h.0.flagged, all_flagged schema ms h.1)

pub parts_are : (ms : List code.Member) → members (map segment_in ms) (map flags_in ms) ≡ map member_of ms
parts_are [] = refl
parts_are (m ∷ ms) = ap (λ rest. member_of m ∷ rest) (parts_are ms)

-- a list that bodies make has fewer members than 32 bits tell
made_few : (is_segment : ℕ → List ℕ → Type 0) (before : List Member) (bodies : List (List ℕ)) (lists : List (List Member)) (last : List Member) → length before < 2 ^ 32 → AreMade is_segment before bodies lists → last_or (Some before) lists ≡ Some last → length last < 2 ^ 32
made_few is_segment before [] [] last few made is = subst (λ (ms : List Member). length ms < 2 ^ 32) (same_Some _ _ is) few
made_few is_segment before [] (after ∷ lists) last few made is = absurd made
made_few is_segment before (body ∷ bodies) [] last few made is = absurd made
made_few is_segment before (body ∷ bodies) (after ∷ lists) last few made is =
    let parts = made.0.num_parts_fits in
    let each = zip_length (IsOfPart before) made.0.parts after made.0.parts_are in
    made_few is_segment after bodies lists last (omega (arith, parts, each)) made.1 is

-- and so has that which a file leaves
pub leaves_few : (schema : Schema) (settings : Settings) (bytes : List ℕ) (gate : ℕ) (ms : List code.Member) → LeavesList schema settings bytes gate (map member_of ms) → length ms < 2 ^ 32
leaves_few schema settings bytes gate ms leaves =
    let few = made_few (IsSegment schema) [] leaves.bodies leaves.lists (map member_of ms) (omega arith) leaves.follow leaves.last in
    let same = length-map ms member_of in
    omega (arith, few, same)
