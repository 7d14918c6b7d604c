-- Terms of values: those of addresses, those beside other keys, and what kinds of leaves there are.
use Rattle.std.proofs.Common.{[], ◌∙◌, ◌∷◌, ◌≡◌, Bool, List, None, Option, Some, ap, ap₂, bytes_eq, cond, false, find, option_and_then, option_map, refl, true, ℕ}
use Rattle.std.specs.Int.{to_be_bytes, w128}
use Rattle.std.specs.Result.{result_ok}
use Rattle.definitions.proofs.Lists.{bytes_swap as swapped}
use Rattle.definitions.specs.Addresses.{address_in}
use Rattle.definitions.specs.Json.{only_if, ◌>>=◌}
use Rattle.definitions.specs.Reading.{or_parse_error}
use Rattle.definitions.specs.Schema.{Kind, all_kinds, bool_kind, bytes_kind, date_kind, facet_kind, i64_kind, ip_addr_kind, json_kind, text_kind, u64_kind}
use Rattle.definitions.specs.Terms.{leaf_kinds, term_bytes, type_code, value_bytes}
use Rattle.definitions.specs.Values.{ip_addr}
use Rattle.settings.specs.Terms.{is_leaf_kind, value_term}
use Rattle.serde_json.specs.Find.{as_str}
use Rattle.serde_json.specs.Data as json

-- the term of an address by its text
pub address_term : (field : ℕ) (d : json.Data) (s : List ℕ) (bits : ℕ) → Some s ≡ as_str d → Some bits ≡ address_in s → Some (term_bytes field ip_addr_kind (to_be_bytes w128 bits)) ≡ value_term field ip_addr_kind d
address_term field json.null s bits text address = cc
address_term field (json.boolean b) s bits text address = cc
address_term field (json.number n) s bits text address = cc
address_term field (json.string t) s bits text address =
    let same : s ≡ t = cc in
    ap (λ o. (result_ok (or_parse_error (option_map ip_addr o)) >>= value_bytes ip_addr_kind) >>= (λ payload. Some (term_bytes field ip_addr_kind payload))) (address ∙ ap address_in same)
address_term field (json.array ds) s bits text address = cc
address_term field (json.object ms) s bits text address = cc

-- what follows from a value, where it was found under a test
pub found_then : {A B : Type 0} (test : Bool) (o : Option A) (x : A) (f : A → Option B) → Some x ≡ only_if test o → f x ≡ only_if test (o >>= f)
found_then true o x f found = ap (λ found_one. found_one >>= f) found
found_then false o x f found = cc

-- ---- kinds of leaves

-- the kind that is found, if leaves have it
abbrev kept : Option Kind → Option Kind
kept o = option_and_then (λ k. only_if (is_leaf_kind k) (Some k)) o

-- the first kinds are those of leaves
leaf_found : (test : Kind → Bool) → find test leaf_kinds ≡ kept (find test all_kinds)
leaf_found test = go (test text_kind) (test u64_kind) (test i64_kind) (test bool_kind) (test date_kind) (test facet_kind) (test bytes_kind) (test json_kind) (test ip_addr_kind)
  where
    last : Bool → Bool → Bool → Bool → Option Kind
    last f g h i = cond f (Some facet_kind) (cond g (Some bytes_kind) (cond h (Some json_kind) (cond i (Some ip_addr_kind) None)))

    first : Bool → Bool → Bool → Bool → Bool → Option Kind → Option Kind
    first a b c d e later = cond a (Some text_kind) (cond b (Some u64_kind) (cond c (Some i64_kind) (cond d (Some bool_kind) (cond e (Some date_kind) later))))

    go : (a b c d e f g h i : Bool) → first a b c d e None ≡ kept (first a b c d e (last f g h i))
    go true b c d e f g h i = refl
    go false true c d e f g h i = refl
    go false false true d e f g h i = refl
    go false false false true e f g h i = refl
    go false false false false true f g h i = refl
    go false false false false false true g h i = refl
    go false false false false false false true h i = refl
    go false false false false false false false true i = refl
    go false false false false false false false false true = refl
    go false false false false false false false false false = refl

same_found : {X : Type 0} (p q : X → Bool) → ((x : X) → p x ≡ q x) → (xs : List X) → find p xs ≡ find q xs
same_found p q same [] = refl
same_found p q same (x ∷ xs) = ap₂ (λ t o. cond t (Some x) o) (same x) (same_found p q same xs)

-- the kind of leaves that has a code is the kind that has it, if leaves have that
pub leaf_code : (code : ℕ) → find (λ k. bytes_eq (code ∷ []) (type_code k)) leaf_kinds ≡ option_and_then (λ k. only_if (is_leaf_kind k) (Some k)) (find (λ k. bytes_eq (type_code k) (code ∷ [])) all_kinds)
leaf_code code = leaf_found (λ k. bytes_eq (code ∷ []) (type_code k)) ∙ ap kept (same_found (λ k. bytes_eq (code ∷ []) (type_code k)) (λ k. bytes_eq (type_code k) (code ∷ [])) (λ k. swapped (code ∷ []) (type_code k)) all_kinds)
