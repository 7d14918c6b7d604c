-- Indices that rise follow the list before, and a body makes a list exactly where they do.
use Rattle.std.proofs.Common.{[], ◌&&◌, ◌+◌, ◌<◌, ◌∷◌, ◌≡◌, ◌≤◌, ◌∙◌, ◌⊎◌, Bool, List, Some, ap, arith, filter_map, inl, inr, length, map, nat_le, nat_lt, refl, slice_get, subst, sym, true, ℕ}
use Rattle.std.specs.List.{AllByRecursion, AllZip}
use Rattle.std.proofs.lemmas.Bool.{cases_lt}
use Rattle.std.proofs.lemmas.Bool.Decides.{nat_tests}
use Rattle.std.proofs.lemmas.Option.{slice_get_past}
use Rattle.definitions.proofs.Lists.{both_true}
use Rattle.definitions.specs.Schema.{Schema}
use Rattle.layouts.specs.Deltas.{IsAscendingFrom}
use Rattle.segment_definitions.specs.ListBodies.{IsMember, IsOfPart, Makes, Member, Part, fresh, kept, place_of, segments_body}
use Rattle.segment_definitions.specs.Segments.{IsSegment}
use Rattle.index_file.specs.Bodies.{IsBody, IsShort}
use Rattle.index_file.specs.Places.{Says, places_rise}
use Rattle.index_file.proofs.BodiesBack.{one_body}

-- ---- the test

pub rise-ascend : (least len : ℕ) (parts : List Part) → places_rise least len parts ≡ true → IsAscendingFrom least (filter_map place_of parts)
rise-ascend least len [] rise = tt
rise-ascend least len (kept index ∷ parts) rise =
    let here = both_true (nat_le least index && nat_lt index len) (places_rise (index + 1) len parts) rise in
    let tests = both_true (nat_le least index) (nat_lt index len) here.0 in
    let from : least ≤ index = (let t = tests.0 in grind (arith, nat_tests)) in
    (from, rise-ascend (index + 1) len parts here.1)
rise-ascend least len (fresh segment ∷ parts) rise = rise-ascend least len parts rise

pub rise-below : (least len : ℕ) (parts : List Part) → places_rise least len parts ≡ true → AllByRecursion (λ index. index < len) (filter_map place_of parts)
rise-below least len [] rise = tt
rise-below least len (kept index ∷ parts) rise =
    let here = both_true (nat_le least index && nat_lt index len) (places_rise (index + 1) len parts) rise in
    let tests = both_true (nat_le least index) (nat_lt index len) here.0 in
    let within : index < len = (let t = tests.1 in grind (arith, nat_tests)) in
    (within, rise-below (index + 1) len parts here.1)
rise-below least len (fresh segment ∷ parts) rise = rise-below least len parts rise

pub follow-rise : (least len : ℕ) (parts : List Part) → IsAscendingFrom least (filter_map place_of parts) → AllByRecursion (λ index. index < len) (filter_map place_of parts) → places_rise least len parts ≡ true
follow-rise least len [] ascend below = refl
follow-rise least len (kept index ∷ parts) ascend below =
    let from : nat_le least index ≡ true = (let f = ascend.0 in grind (arith, nat_tests)) in
    let within : nat_lt index len ≡ true = (let f = below.0 in grind (arith, nat_tests)) in
    let rest = follow-rise (index + 1) len parts ascend.1 below.1 in
    cc
follow-rise least len (fresh segment ∷ parts) ascend below = follow-rise least len parts ascend below

-- ---- what a body makes

get-below : {X : Type 0} (xs : List X) (i : ℕ) (x : X) → slice_get xs i ≡ Some x → i < length xs
get-below {X} xs i x e = go (cases_lt i (length xs))
  where
    go : (i < length xs) ⊎ (length xs ≤ i) → i < length xs
    go (inl below) = below
    go (inr past) = (let none = sym e ∙ slice_get_past xs i past in cc)

pub of_parts-below : (before after : List Member) (parts : List Part) → AllZip (IsOfPart before) parts after → AllByRecursion (λ index. index < length before) (filter_map place_of parts)
of_parts-below before [] [] are = tt
of_parts-below before (m ∷ ms) [] are = absurd are
of_parts-below before [] (kept index ∷ parts) are = absurd are
of_parts-below before [] (fresh segment ∷ parts) are = absurd are
of_parts-below before (m ∷ ms) (kept index ∷ parts) are = (get-below before index (m.0, are.0.0) are.0.1, of_parts-below before ms parts are.1)
of_parts-below before (m ∷ ms) (fresh segment ∷ parts) are = of_parts-below before ms parts are.1

members-short : (schema : Schema) (ms : List Member) → AllByRecursion (IsMember (IsSegment schema)) ms → AllByRecursion IsShort (map (λ m. m.1) ms)
members-short schema [] are = tt
members-short schema (m ∷ ms) are = (are.0.1, members-short schema ms are.1)

zip-length : (before after : List Member) (parts : List Part) → AllZip (IsOfPart before) parts after → length (map (λ m. m.1) after) ≡ length parts
zip-length before [] [] are = refl
zip-length before (m ∷ ms) [] are = absurd are
zip-length before [] (part ∷ parts) are = absurd are
zip-length before (m ∷ ms) (part ∷ parts) are = (let more = zip-length before ms parts are.1 in omega (arith, more))

-- a body that makes a list says its parts, and its alive sets
pub made_body : (schema : Schema) (before after : List Member) (body : List ℕ) (makes : Makes (IsSegment schema) before after body) → IsBody makes.parts (map (λ m. m.1) after) body
made_body schema before after body makes = record {
  num_parts_fits = makes.num_parts_fits;
  fit = makes.fit;
  set_for_each = zip-length before after makes.parts makes.parts_are;
  short = members-short schema after makes.members;
  body_is = makes.body_is;
}

pub body_says : (schema : Schema) (before after : List Member) (parts : List Part) (sets : List (List Bool)) (body : List ℕ) → IsBody parts sets body → Makes (IsSegment schema) before after body → Says schema before after parts sets
body_says schema before after parts sets body is makes =
    let one = one_body makes.parts parts (map (λ m. m.1) after) sets body (made_body schema before after body makes) is in
    let says : Says schema before after makes.parts sets = record {
      flags = sym one.1;
      follow = record { ascend = makes.ascend; below = of_parts-below before after makes.parts makes.parts_are };
      parts_are = makes.parts_are;
      members = makes.members;
    } in
    subst (λ ps. Says schema before after ps sets) one.0 says

pub body_makes : (schema : Schema) (before after : List Member) (parts : List Part) (sets : List (List Bool)) (body : List ℕ) → IsBody parts sets body → Says schema before after parts sets → Makes (IsSegment schema) before after body
body_makes schema before after parts sets body is says = record {
  parts = parts;
  parts_are = says.parts_are;
  ascend = says.follow.ascend;
  fit = is.fit;
  num_parts_fits = is.num_parts_fits;
  members = says.members;
  body_is = is.body_is ∙ ap (segments_body parts) says.flags;
}
