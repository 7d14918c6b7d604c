-- JSON that is printed is read back.
use Rattle.std.proofs.Common.{[], List, Some, ap, ap₂, append-nil, arith, max, negsuc, pos, refl, subst, suc, sym, ◌∙◌, ◌∷◌, ◌++◌, ◌<◌, ◌^◌, ◌≡◌, ◌≤◌, ℕ}
use Rattle.std.specs.Prelude.{⊤, option_and_then, option_map}
use Rattle.std.specs.Ordering.{match_ordering}
use Rattle.json.specs.Json as tree_of
use Rattle.json.specs.Lex.{tokens}
use Rattle.json.specs.Tree as tree
use Rattle.json.specs.Tree.{HasNumbers, ItemsHaveNumbers, MembersHaveNumbers, json_tokens}
use Rattle.json.proofs.Printed.Decimals.{IsNumber-decimal, IsNumber-signed_decimal}
use Rattle.json.proofs.Printed.Tokens.{tokens-print}
use Rattle.json.proofs.Printed.Trees.{ArePrintable-json_tokens, value-json_tokens}
use Rattle.serde_json.specs.Data.{depth, items_depth, members_depth, put}
use Rattle.serde_json.specs.Read.{max_depth, number_of, of_items, of_json, of_members, read}
use Rattle.serde_json.specs.Written.{blank, blank_items, blank_members, compact_text, items_outline, members_outline, number_text, outline, unless_float}
use Rattle.serde_json.proofs.Numbers.{number_of-decimal, number_of-negative}
use Rattle.serde_json.proofs.Texts.{print-outline, unless_float-number_of}
use Rattle.serde_json.specs.Data as json
use Rattle.inspect.proofs.ReadBack.Given.{Ascend}
use Rattle.inspect.proofs.ReadBack.Keys.{AllBefore, Before, after_before, more_before}

-- ---- JSON without floats, whose numbers are in their ranges and whose keys ascend

abbrev pub json_keys : json.Members → List (List ℕ)
json_keys json.no_members = []
json_keys (json.member k d ms) = k ∷ json_keys ms

abbrev pub IsWhole : json.Num → Type 0
IsWhole (json.unsigned n) = n < 2 ^ 64
IsWhole (json.negative (pos n)) = ⊥
IsWhole (json.negative (negsuc n)) = n < 2 ^ 63
IsWhole (json.float x) = ⊥

abbrev mutual
  pub IsPlain : json.Data → Type 0
  IsPlain json.null = ⊤
  IsPlain (json.boolean b) = ⊤
  IsPlain (json.number n) = IsWhole n
  IsPlain (json.string s) = ⊤
  IsPlain (json.array ds) = ArePlain ds
  IsPlain (json.object ms) = Ascend (json_keys ms) × ArePlainMembers ms

  pub ArePlain : json.Items → Type 0
  ArePlain json.no_items = ⊤
  ArePlain (json.item d ds) = IsPlain d × ArePlain ds

  pub ArePlainMembers : json.Members → Type 0
  ArePlainMembers json.no_members = ⊤
  ArePlainMembers (json.member k d ms) = IsPlain d × ArePlainMembers ms

-- ---- numbers

pub whole_read : (n : json.Num) → IsWhole n → number_of (number_text n) ≡ Some n
whole_read (json.unsigned n) h = number_of-decimal n h
whole_read (json.negative (pos n)) h = absurd h
whole_read (json.negative (negsuc n)) h = number_of-negative n h
whole_read (json.float x) h = absurd h

whole_unfloated : (n : json.Num) → IsWhole n → unless_float (number_text n) ≡ number_text n
whole_unfloated (json.unsigned n) h = unless_float-number_of _ (json.unsigned n) (whole_read (json.unsigned n) h)
whole_unfloated (json.negative (pos n)) h = absurd h
whole_unfloated (json.negative (negsuc n)) h = unless_float-number_of _ (json.negative (negsuc n)) (whole_read (json.negative (negsuc n)) h)
whole_unfloated (json.float x) h = absurd h

-- ---- members, one behind the other

abbrev pub joined : json.Members → json.Members → json.Members
joined json.no_members later = later
joined (json.member k d ms) later = json.member k d (joined ms later)

pub joined_none : (ms : json.Members) → joined ms json.no_members ≡ ms
joined_none json.no_members = refl
joined_none (json.member k d ms) = ap (json.member k d) (joined_none ms)

pub joined_one : (before : json.Members) (k : List ℕ) (d : json.Data) (ms : json.Members) → joined (joined before (json.member k d json.no_members)) ms ≡ joined before (json.member k d ms)
joined_one json.no_members k d ms = refl
joined_one (json.member l e before) k d ms = ap (json.member l e) (joined_one before k d ms)

pub keys_joined : (ms : json.Members) (k : List ℕ) (d : json.Data) → json_keys (joined ms (json.member k d json.no_members)) ≡ json_keys ms ++ (k ∷ [])
keys_joined json.no_members k d = refl
keys_joined (json.member l e ms) k d = ap (λ ks. l ∷ ks) (keys_joined ms k d)

-- what stands last is put last
pub put_last : (ms : json.Members) (k : List ℕ) (d : json.Data) → Before (json_keys ms) k → put k d ms ≡ joined ms (json.member k d json.no_members)
put_last json.no_members k d h = refl
put_last (json.member l e ms) k d h =
    ap (λ o. match_ordering o (json.member k d (json.member l e ms)) (json.member l d ms) (json.member l e (put k d ms))) (after_before l k h.0)
    ∙ ap (json.member l e) (put_last ms k d h.1)

-- ---- values

pub none_before : (ks : List (List ℕ)) → AllBefore [] ks
none_before [] = tt
none_before (k ∷ ks) = (tt, none_before ks)

mutual
  of_outline : (d : json.Data) → IsPlain d → of_json (outline d) ≡ Some d
  of_outline json.null h = refl
  of_outline (json.boolean b) h = refl
  of_outline (json.number n) h = ap (option_map json.number) (whole_read n h)
  of_outline (json.string s) h = refl
  of_outline (json.array ds) h = ap (option_map json.array) (items_of_outline ds h)
  of_outline (json.object ms) h = ap (option_map json.object) (members_of_outline ms json.no_members (none_before (json_keys ms)) h.0 h.1)

  items_of_outline : (ds : json.Items) → ArePlain ds → of_items (items_outline ds) ≡ Some ds
  items_of_outline json.no_items h = refl
  items_of_outline (json.item d ds) h =
      ap (option_and_then (λ e. option_map (json.item e) (of_items (items_outline ds)))) (of_outline d h.0)
      ∙ ap (option_map (json.item d)) (items_of_outline ds h.1)

  members_of_outline : (ms before : json.Members) → AllBefore (json_keys before) (json_keys ms) → Ascend (json_keys ms) → ArePlainMembers ms → of_members (members_outline ms) before ≡ Some (joined before ms)
  members_of_outline json.no_members before all rises h = ap Some (sym (joined_none before))
  members_of_outline (json.member k d ms) before all rises h =
      ap (option_and_then (λ e. of_members (members_outline ms) (put k e before))) (of_outline d h.0)
      ∙ ap (of_members (members_outline ms)) (put_last before k d all.0)
      ∙ members_of_outline ms (joined before (json.member k d json.no_members)) (subst (λ ks. AllBefore ks (json_keys ms)) (sym (keys_joined before k d)) (more_before (json_keys before) k (json_keys ms) all.1 rises.0)) rises.1 h.1
      ∙ ap Some (joined_one before k d ms)

mutual
  numbered : (d : json.Data) → IsPlain d → HasNumbers (outline d)
  numbered json.null h = tt
  numbered (json.boolean b) h = tt
  numbered (json.number (json.unsigned n)) h = IsNumber-decimal n h
  numbered (json.number (json.negative (pos n))) h = absurd h
  numbered (json.number (json.negative (negsuc n))) h = IsNumber-signed_decimal (negsuc n) (omega (arith, h))
  numbered (json.number (json.float x)) h = absurd h
  numbered (json.string s) h = tt
  numbered (json.array ds) h = items_numbered ds h
  numbered (json.object ms) h = members_numbered ms h.1

  items_numbered : (ds : json.Items) → ArePlain ds → ItemsHaveNumbers (items_outline ds)
  items_numbered json.no_items h = tt
  items_numbered (json.item d ds) h = (numbered d h.0, items_numbered ds h.1)

  members_numbered : (ms : json.Members) → ArePlainMembers ms → MembersHaveNumbers (members_outline ms)
  members_numbered json.no_members h = tt
  members_numbered (json.member k d ms) h = (numbered d h.0, members_numbered ms h.1)

mutual
  blanked : (d : json.Data) → IsPlain d → blank (outline d) ≡ outline d
  blanked json.null h = refl
  blanked (json.boolean b) h = refl
  blanked (json.number n) h = ap tree_of.number (whole_unfloated n h)
  blanked (json.string s) h = refl
  blanked (json.array ds) h = ap tree_of.array (items_blanked ds h)
  blanked (json.object ms) h = ap tree_of.object (members_blanked ms h.1)

  items_blanked : (ds : json.Items) → ArePlain ds → blank_items (items_outline ds) ≡ items_outline ds
  items_blanked json.no_items h = refl
  items_blanked (json.item d ds) h = ap₂ tree_of.item (blanked d h.0) (items_blanked ds h.1)

  members_blanked : (ms : json.Members) → ArePlainMembers ms → blank_members (members_outline ms) ≡ members_outline ms
  members_blanked json.no_members h = refl
  members_blanked (json.member k d ms) h = ap₂ (tree_of.member k) (blanked d h.0) (members_blanked ms h.1)

mutual
  as_deep : (d : json.Data) → tree.depth (outline d) ≡ depth d
  as_deep json.null = refl
  as_deep (json.boolean b) = refl
  as_deep (json.number n) = refl
  as_deep (json.string s) = refl
  as_deep (json.array ds) = ap suc (items_as_deep ds)
  as_deep (json.object ms) = ap suc (members_as_deep ms)

  items_as_deep : (ds : json.Items) → tree.items_depth (items_outline ds) ≡ items_depth ds
  items_as_deep json.no_items = refl
  items_as_deep (json.item d ds) = ap₂ max (as_deep d) (items_as_deep ds)

  members_as_deep : (ms : json.Members) → tree.members_depth (members_outline ms) ≡ members_depth ms
  members_as_deep json.no_members = refl
  members_as_deep (json.member k d ms) = ap₂ max (as_deep d) (members_as_deep ms)

-- ---- texts

pub text_read : (d : json.Data) → IsPlain d → depth d ≤ max_depth → read (compact_text d) ≡ Some d
text_read d h shallow =
    let deep = as_deep d in
    let tokens_are = ap tokens (sym (print-outline d)) ∙ tokens-print (json_tokens (outline d)) (ArePrintable-json_tokens (outline d) (numbered d h)) in
    ap (λ ts. option_and_then of_json (option_and_then (λ p. tree_of.if_last p.0 p.1) (tree_of.value max_depth ts))) (tokens_are ∙ sym (append-nil _))
    ∙ ap (λ o. option_and_then of_json (option_and_then (λ p. tree_of.if_last p.0 p.1) o)) (value-json_tokens (outline d) max_depth [] (omega (arith, deep, shallow)))
    ∙ of_outline d h
