-- JSON objects: what stands at their keys, and how they are made.
use Rattle.std.specs.Prelude.{[], ◌&&◌, ◌^◌, ◌∷◌, Bool, List, None, Option, Some, bytes_eq, false, find, if◌then◌else◌, option_and_then, option_map, true, ℕ}
use Rattle.std.specs.List.{list_any}
use Rattle.std.specs.Option.{option_map_or}
use Rattle.definitions.specs.Reading.{below}
use Rattle.serde_json.specs.Find.{as_array, as_number, as_object, as_str, as_u64, get}
use Rattle.serde_json.specs.Data.{put}
use Rattle.serde_json.specs.Data as json

infixl 10 ◌>>=◌
-- what follows from a value, where there is one
abbrev pub ◌>>=◌ : {A B : Type 0} → Option A → (A → Option B) → Option B
o >>= f = option_and_then f o

-- nothing unless the test passes
abbrev pub only_if : {A : Type 0} → Bool → Option A → Option A
only_if test o = if test then o else None

-- what a table has at a name
abbrev pub named : {A : Type 0} → List (List ℕ × A) → List ℕ → Option A
named table name = option_map (λ p. p.1) (find (λ p. bytes_eq name p.0) table)

-- ---- an object's keys

-- whether no member has another key
abbrev pub members_have_only : List (List ℕ) → json.Members → Bool
members_have_only keys json.no_members = true
members_have_only keys (json.member k d ms) = list_any (bytes_eq k) keys && members_have_only keys ms

-- whether a value is an object with no key but these
abbrev pub has_only : List (List ℕ) → json.Data → Bool
has_only keys d = option_map_or (members_have_only keys) (as_object d) false

-- ---- what stands at a key

-- the text at a key
abbrev pub text_at : List ℕ → json.Data → Option (List ℕ)
text_at k d = get k d >>= as_str

-- a number below a limit, if it is one
abbrev pub number_below : ℕ → json.Data → Option ℕ
number_below limit d = as_number d >>= as_u64 >>= below limit

-- the numbers of requests and queries: whole ones from 0 to 2^63 - 1
abbrev pub number_in : json.Data → Option ℕ
number_in d = number_below (2 ^ 63) d

-- the number at a key
abbrev pub number_at : List ℕ → json.Data → Option ℕ
number_at k d = get k d >>= number_in

-- what is read at a key, and where the key is absent this value
abbrev pub at_or : {A : Type 0} → A → (json.Data → Option A) → List ℕ → json.Data → Option A
at_or absent f k d = option_map_or f (get k d) (Some absent)

-- what is read of each element
abbrev pub each : {A : Type 0} → (json.Data → Option A) → json.Items → Option (List A)
each f json.no_items = Some []
each f (json.item d ds) = f d >>= (λ x. option_map (◌∷◌ x) (each f ds))

-- what is read of each element of an array
abbrev pub list_of : {A : Type 0} → (json.Data → Option A) → json.Data → Option (List A)
list_of f d = as_array d >>= each f

-- ---- making an object

-- members in the order of their keys' bytes
abbrev pub members_of : List (List ℕ × json.Data) → json.Members
members_of [] = json.no_members
members_of ((k, d) ∷ ms) = put k d (members_of ms)

-- the object of keys, each with what stands there
abbrev pub object_of : List (List ℕ × json.Data) → json.Data
object_of ms = json.object (members_of ms)
