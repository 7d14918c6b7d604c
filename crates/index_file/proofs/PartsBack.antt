-- Parts that were put are read back, and those that are read were put.
use Rattle.std.proofs.Common.{[], ◌++◌, ◌<◌, ◌∷◌, ◌≡◌, ◌∙◌, ◌^◌, List, None, Option, Some, ap, ap₂, append_assoc, length, option_map, refl, subst, suc, sym, zero, ℕ}
use Rattle.common.proofs.AliveSetBytes.{u32_back, u64_back}
use Rattle.common.proofs.TakenBack.{count_back, count_put, u32_put, u64_put}
use Rattle.definitions.specs.Json.{◌>>=◌}
use Rattle.definitions.specs.NumberCodes.{AreBytes, take_count, take_u32, take_u64, u64_bytes}
use Rattle.common.proofs.Many.{IsBack, IsPut, parts_are}
use Rattle.common.proofs.WordBytes.{back_bytes as bytes_after}
use Rattle.definitions.proofs.Lists.{bind_some}
use Rattle.segment_definitions.specs.ListBodies.{Fits, Part, fresh, kept, part_bytes}
use Rattle.index_file.specs.Parts.{fresh_behind, fresh_of, kept_at, take_part}

pub part_back : IsBack take_part Fits part_bytes
part_back (kept index) rest fits = ap (option_map kept_at) (u32_back index rest fits)
part_back (fresh segment) rest fits =
    ap (λ bs. take_u64 bs >>= fresh_behind) (append_assoc (u64_bytes (length segment)) segment rest)
    ∙ ap (λ o. o >>= fresh_behind) (u64_back (length segment) (segment ++ rest) fits)
    ∙ ap (option_map fresh_of) (count_back segment rest)

-- what a map makes of what was taken
taken_as : {A : Type 0} (f : A × List ℕ → Part × List ℕ) (o : Option (A × List ℕ)) (part : Part) (rest : List ℕ) → option_map f o ≡ Some (part, rest) → (p : A × List ℕ) × (o ≡ Some p) × (f p ≡ (part, rest))
taken_as f None part rest e = cc
taken_as f (Some p) part rest e = (p, refl, the_same (f p) (part, rest) e)
  where
    the_same : (p q : Part × List ℕ) → Some p ≡ Some q → p ≡ q
    the_same p q e = (let are = parts_are p q.0 q.1 e in ap₂ (λ x r. (x, r)) are.0 are.1)

kept_put : (bs rest : List ℕ) (part : Part) → AreBytes bs → option_map kept_at (take_u32 bs) ≡ Some (part, rest) → Fits part × (0 ∷ bs ≡ part_bytes part ++ rest)
kept_put bs rest part are e =
    let taken = taken_as kept_at (take_u32 bs) part rest e in
    let put = u32_put bs taken.0.0 taken.0.1 are taken.1 in
    subst (λ (p : Part × List ℕ). Fits p.0 × (0 ∷ bs ≡ part_bytes p.0 ++ p.1)) taken.2 (put.0, ap (λ xs. 0 ∷ xs) put.1)

fresh_put : (bs rest : List ℕ) (part : Part) → AreBytes bs → (take_u64 bs >>= fresh_behind) ≡ Some (part, rest) → Fits part × (1 ∷ bs ≡ part_bytes part ++ rest)
fresh_put bs rest part are e =
    let number = bind_some (take_u64 bs) fresh_behind (part, rest) e in
    let put = u64_put bs number.0.0 number.0.1 are number.1 in
    let taken = taken_as fresh_of (take_count number.0.0 number.0.1) part rest number.2 in
    let segment = taken.0.0 in
    let has = count_put number.0.0 number.0.1 segment taken.0.1 taken.1 in
    let small : length segment < 2 ^ 64 = subst (λ n. n < 2 ^ 64) (sym has.0) put.0 in
    let whole : bs ≡ (u64_bytes (length segment) ++ segment) ++ taken.0.1 =
    put.1 ∙ ap₂ (λ n r. u64_bytes n ++ r) (sym has.0) has.1 ∙ sym (append_assoc (u64_bytes (length segment)) segment taken.0.1) in
    subst (λ (p : Part × List ℕ). Fits p.0 × (1 ∷ bs ≡ part_bytes p.0 ++ p.1)) taken.2 (small, ap (λ xs. 1 ∷ xs) whole)

pub part_put : IsPut take_part Fits part_bytes
part_put [] rest part are e = cc
part_put (zero ∷ bs) rest part are e = kept_put bs rest part (bytes_after (0 ∷ []) bs are) e
part_put (suc zero ∷ bs) rest part are e = fresh_put bs rest part (bytes_after (1 ∷ []) bs are) e
part_put (suc (suc code) ∷ bs) rest part are e = cc
