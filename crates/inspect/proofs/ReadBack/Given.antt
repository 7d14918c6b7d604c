-- Values as texts give them to fields.
use Rattle.std.proofs.Common.{[], Bool, List, ◌<◌, ◌^◌, ◌∷◌, ◌≡◌, ◌≤◌, ◌⊎◌, ℕ, ℤ}
use Rattle.std.specs.Prelude.{⊤, FitsSigned}
use Rattle.std.specs.Cmp.Lexicographic.{slice_cmp}
use Rattle.std.specs.Int.{w64}
use Rattle.std.specs.List.{AllByRecursion}
use Rattle.std.specs.Ordering.{nat_cmp}
use Rattle.std.specs.declared.cmp.Ordering.TheVariants.{Less}
use Rattle.definitions.specs.Schema.{Kind, bool_kind, bytes_kind, date_kind, facet_kind, i64_kind, ip_addr_kind, json_kind, text_kind, u64_kind}
use Rattle.definitions.specs.Values.{IsFacet, Members, Value, Values, array, bool, bytes, date, facet, i64, ip_addr, member, no_members, no_values, null, object, str, u64, value}

-- the keys of an object
abbrev pub keys_of : Members → List (List ℕ)
keys_of no_members = []
keys_of (member k v ms) = k ∷ keys_of ms

-- each key stands before all that follow, in the order of their bytes
abbrev pub Ascend : List (List ℕ) → Type 0
Ascend [] = ⊤
Ascend (k ∷ ks) = AllByRecursion (λ l. slice_cmp nat_cmp k l ≡ Less) ks × Ascend ks

-- a value inside a JSON field: a whole number is an i64 where it fits, and keys ascend
abbrev mutual
  pub IsJson : Value → Type 0
  IsJson null = ⊤
  IsJson (bool b) = ⊤
  IsJson (str s) = ⊤
  IsJson (i64 z) = FitsSigned w64 z
  IsJson (u64 n) = (2 ^ 63 ≤ n) × (n < 2 ^ 64)
  IsJson (array vs) = AreJson vs
  IsJson (object ms) = Ascend (keys_of ms) × AreJsonMembers ms
  IsJson _ = ⊥

  pub AreJson : Values → Type 0
  AreJson no_values = ⊤
  AreJson (value v vs) = IsJson v × AreJson vs

  pub AreJsonMembers : Members → Type 0
  AreJsonMembers no_members = ⊤
  AreJsonMembers (member k v ms) = IsJson v × AreJsonMembers ms

-- a value of a field of that kind
abbrev pub IsGiven : Kind → Value → Type 0
IsGiven text_kind v = (s : List ℕ) × (v ≡ str s)
IsGiven u64_kind v = (n : ℕ) × (v ≡ u64 n) × (n < 2 ^ 64)
IsGiven i64_kind v = (z : ℤ) × (v ≡ i64 z) × FitsSigned w64 z
IsGiven bool_kind v = (b : Bool) × (v ≡ bool b)
IsGiven date_kind v = ((z : ℤ) × (v ≡ date z) × FitsSigned w64 z) ⊎ ((z : ℤ) × (v ≡ i64 z) × FitsSigned w64 z)
IsGiven facet_kind v = (steps : List (List ℕ)) × (v ≡ facet steps) × IsFacet steps
IsGiven bytes_kind v = (bs : List ℕ) × (v ≡ bytes bs) × AllByRecursion (λ b. b < 2 ^ 8) bs
IsGiven json_kind v = (ms : Members) × (v ≡ object ms) × IsJson (object ms)
IsGiven ip_addr_kind v = (n : ℕ) × (v ≡ ip_addr n) × (n < 2 ^ 128)
