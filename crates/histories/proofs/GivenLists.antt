-- Files whose every record gives its list.
use Rattle.std.proofs.Common.{[], List, Some, ap, refl, subst, sym, ◌∙◌, ◌∷◌, ◌≡◌, ℕ}
use Rattle.std.proofs.lemmas.Option.{same_Some}
use Rattle.std.specs.List.{AllZip, last_or}
use Rattle.definitions.specs.Analyzers.{Analyzer}
use Rattle.definitions.specs.Schema.{Schema}
use Rattle.definitions.specs.Settings.{Settings}
use Rattle.definitions.specs.Values.{Document}
use Rattle.engine.proofs.ListsLeft.{same_record}
use Rattle.engine.specs.Files.{HasSameBodies, IsFileOf}
use Rattle.layouts.proofs.FilesOfRecords.{one_reading}
use Rattle.segment_definitions.proofs.OneList.{one_history}
use Rattle.segment_definitions.specs.IndexFiles.{AreMade, IsGroup, LeavesGroups}
use Rattle.segment_definitions.specs.Segments.{IsSegment}
use Rattle.histories.specs.Lists.{HasLists}

-- every record of the one gives its list where those of the other do
pub same_have : (schema : Schema) (settings : Settings) (cut : Analyzer) (bytes image : List ℕ) → HasSameBodies bytes image → HasLists schema settings cut bytes → HasLists schema settings cut image
same_have schema settings cut bytes image same (lists, f) = (lists, same_record schema settings cut bytes image lists same f)

-- what stands last of one list may stand last of the other
with_last : {X Y : Type 0} (R : X → Y → Type 0) (m : X) (g : Y) (x : X) (y : Y) (xs : List X) (ys : List Y) → R m g → R x y → AllZip R xs ys → last_or (Some x) xs ≡ Some m → (z : Y) × (zs : List Y) × R x z × AllZip R xs zs × (last_or (Some z) zs ≡ Some g)
with_last R m g x y [] [] of r all is = (g, [], subst (λ q. R q g) (sym (same_Some _ _ is)) of, tt, refl)
with_last R m g x y [] (b ∷ ys) of r all is = absurd all
with_last R m g x y (a ∷ xs) [] of r all is = absurd all
with_last R m g x y (a ∷ xs) (b ∷ ys) of r all is =
    let w = with_last R m g a b xs ys of all.0 all.1 is in
    (y, w.0 ∷ w.1, r, (w.2, w.3), w.4)

-- a file whose every record gives its list gives the groups that it is of last
pub given_last : (schema : Schema) (settings : Settings) (cut : Analyzer) (groups : List (List Document)) (bytes : List ℕ) → IsFileOf schema settings cut groups bytes → HasLists schema settings cut bytes → LeavesGroups schema settings cut bytes groups
given_last schema settings cut groups bytes (bodies, file, says) (lists, f) =
    let l = says.leave in
    let both : l.first ∷ l.later ≡ f.first ∷ f.bodies = sym l.bodies_are ∙ one_reading bodies (f.first ∷ f.bodies) bytes file f.file in
    let tails : l.later ≡ f.bodies = cc in
    let one : l.lists ≡ f.members = one_history (IsSegment schema) [] f.bodies l.lists f.members (subst (λ bs. AreMade (IsSegment schema) [] bs l.lists) tails l.follow) f.follow in
    go lists f.groups (ap (last_or (Some [])) (sym one) ∙ l.last)
  where
    go : (ls : List (List (List Document))) → AllZip (AllZip (IsGroup schema cut)) ([] ∷ f.members) ls → last_or (Some []) f.members ≡ Some says.members → LeavesGroups schema settings cut bytes groups
    go [] all ends = absurd all
    go (first ∷ ls) all ends =
        let w = with_last (AllZip (IsGroup schema cut)) says.members groups [] first f.members ls says.are_groups all.0 all.1 ends in
        (w.0 ∷ w.1, record { first = f.first; bodies = f.bodies; members = f.members; file = f.file; made = f.made; follow = f.follow; groups = (w.2, w.3) }, w.4)
