-- Replies of scans, merged.
use Rattle.std.proofs.Common.{[], List, None, Option, Some, ap, arith, codes, false, flat_map, length, map, option_map, refl, subst, sum, sym, take, ◌<◌, ◌∙◌, ◌∷◌, ◌≡◌, ◌≤◌, ◌++◌, ℕ}
use Rattle.std.specs.Option.{option_or}
use Rattle.std.proofs.lemmas.List.{map-append, take-map}
use Rattle.definitions.proofs.Ranking.{map-ranked}
use Rattle.definitions.specs.Analyzers.{Analyzer}
use Rattle.definitions.specs.Json.{each, object_of, ◌>>=◌}
use Rattle.definitions.specs.Matching.{matches}
use Rattle.definitions.specs.Query.{Query}
use Rattle.definitions.specs.Replies.{count_reply, hit_data, hits_data, hits_reply}
use Rattle.definitions.specs.Scanning.{Hit, hit_of, ranked, scan, scan_count}
use Rattle.definitions.specs.Schema.{Schema}
use Rattle.definitions.specs.Scoring.{Similarity}
use Rattle.definitions.specs.Values.{Document}
use Rattle.serde_json.proofs.OnLiterals.{serde_json_on_literals}
use Rattle.serde_json.specs.Data.{Data, Items, array, item}
use Rattle.serde_json.specs.View.{items_of}
use Rattle.serde_json.specs.Written.{compact_text, has_float}
use Rattle.shards.proofs.MergedLists.{best_of_all, count_of_all}
use Rattle.shards.specs.Replies.{Scored, best_of, count_in, each_of, hits_in, hits_told, joined, merged, readings, scored, searched}

-- the first of what several give, with the rest
given_first : {B : Type 0} (o : Option B) (y : B) (rest : Option (List B)) (ys : List B) → o ≡ Some y → rest ≡ Some ys → o >>= (λ x. option_map (◌∷◌ x) rest) ≡ Some (y ∷ ys)
given_first {B} o y rest ys first others = ap (λ (p : Option B). p >>= (λ x. option_map (◌∷◌ x) rest)) first ∙ ap (option_map (◌∷◌ y)) others

given_none : {B : Type 0} (o : Option B) (rest : Option (List B)) → o ≡ None → o >>= (λ x. option_map (◌∷◌ x) rest) ≡ None
given_none {B} o rest none = ap (λ (p : Option B). p >>= (λ x. option_map (◌∷◌ x) rest)) none

-- ---- which reply is made

pub counts_merged : (k : ℕ) (ds : List Data) (total : ℕ) → Some total ≡ option_map sum (each_of count_in ds) → merged k ds ≡ Some (count_reply total)
counts_merged k ds total is = go (each_of count_in ds) is
  where
    go : (o : Option (List ℕ)) → Some total ≡ option_map sum o → option_or (option_map (λ counts. count_reply (sum counts)) o) (option_map (λ lists. hits_told (best_of k (joined lists))) (each_of hits_in ds)) ≡ Some (count_reply total)
    go None e = absurd (cc)
    go (Some counts) e = sym (ap (option_map count_reply) e)

-- where no counts are read, hits are
pub searched_merged : (k : ℕ) (ds : List Data) → None ≡ option_map sum (each_of count_in ds) → merged k ds ≡ searched k ds
searched_merged k ds none = go (each_of count_in ds) none
  where
    go : (o : Option (List ℕ)) → None ≡ option_map sum o → option_or (option_map (λ counts. count_reply (sum counts)) o) (searched k ds) ≡ searched k ds
    go (Some counts) e = absurd (cc)
    go None e = refl

pub hits_searched : (k : ℕ) (ds : List Data) (hits best : List Scored) → Some hits ≡ option_map joined (each_of hits_in ds) → best ≡ best_of k hits → searched k ds ≡ Some (hits_told best)
hits_searched k ds hits best is are = go (each_of hits_in ds) is ∙ ap (λ (b : List Scored). Some (hits_told b)) (sym are)
  where
    go : (o : Option (List (List Scored))) → Some hits ≡ option_map joined o → option_map (λ lists. hits_told (best_of k (joined lists))) o ≡ Some (hits_told (best_of k hits))
    go None e = absurd (cc)
    go (Some lists) e = sym (ap (option_map (λ (hs : List Scored). hits_told (best_of k hs))) e)

-- ---- replies of scans

-- a hit as its reply tells it
abbrev pub told : Hit → Scored
told h = (h.0, hit_data h)

score_told : (h : Hit) → scored (hit_data h) ≡ Some (told h)
unfolding serde_json_on_literals
score_told h = refl

items_told : (hs : List Hit) → each scored (hits_data hs) ≡ Some (map told hs)
items_told [] = refl
items_told (h ∷ hs) = given_first (scored (hit_data h)) (told h) (each scored (hits_data hs)) (map told hs) (score_told h) (items_told hs)

items_back : (hs : List Hit) → items_of (map (λ h. h.1) (map told hs)) ≡ hits_data hs
items_back [] = refl
items_back (h ∷ hs) = ap (item (hit_data h)) (items_back hs)

told_back : (hs : List Hit) → hits_told (map told hs) ≡ hits_reply hs
told_back hs = ap (λ (ds : Items). object_of ((codes "hits", array ds) ∷ [])) (items_back hs)

hits_read : (hs : List Hit) → hits_in (hits_reply hs) ≡ Some (map told hs)
unfolding serde_json_on_literals
hits_read hs = items_told hs

no_count_read : (hs : List Hit) → count_in (hits_reply hs) ≡ None
unfolding serde_json_on_literals
no_count_read hs = refl

count_read : (n : ℕ) → count_in (count_reply n) ≡ Some n
unfolding serde_json_on_literals
count_read n = refl

module _ {X : Type 0} (scan_of : X → List Hit) where
  no_counts : (lists : List X) → 0 < length lists → each_of count_in (map (λ docs. hits_reply (scan_of docs)) lists) ≡ None
  no_counts [] some = absurd (omega arith)
  no_counts (docs ∷ lists) some = given_none (count_in (hits_reply (scan_of docs))) (each_of count_in (map (λ d. hits_reply (scan_of d)) lists)) (no_count_read (scan_of docs))

  each_scan : (lists : List X) → each_of hits_in (map (λ docs. hits_reply (scan_of docs)) lists) ≡ Some (map (λ docs. map told (scan_of docs)) lists)
  each_scan [] = refl
  each_scan (docs ∷ lists) = given_first (hits_in (hits_reply (scan_of docs))) (map told (scan_of docs)) (each_of hits_in (map (λ d. hits_reply (scan_of d)) lists)) (map (λ d. map told (scan_of d)) lists) (hits_read (scan_of docs)) (each_scan lists)

  all_told : (lists : List X) → joined (map (λ docs. map told (scan_of docs)) lists) ≡ map told (flat_map scan_of lists)
  all_told [] = refl
  all_told (docs ∷ lists) = ap (λ hs. map told (scan_of docs) ++ hs) (all_told lists) ∙ sym (map-append told (scan_of docs) (flat_map scan_of lists))

  -- the reply in place of those of scans
  pub scans_merged : (k : ℕ) (lists : List X) → 0 < length lists → merged k (map (λ docs. hits_reply (scan_of docs)) lists) ≡ Some (hits_reply (take k (ranked (λ h. h.0) (flat_map scan_of lists))))
  scans_merged k lists some =
      let all : List Hit = flat_map scan_of lists in
      let best : List Hit = take k (ranked (λ h. h.0) all) in
      let ds : List Data = map (λ docs. hits_reply (scan_of docs)) lists in
      let none : None ≡ option_map sum (each_of count_in ds) = sym (ap (option_map sum) (no_counts lists some)) in
      let hits : Some (map told all) ≡ option_map joined (each_of hits_in ds) = sym (ap (option_map joined) (each_scan lists) ∙ ap Some (all_told lists)) in
      let first : map told best ≡ best_of k (map told all) = sym (take-map told k (ranked (λ h. h.0) all)) ∙ ap (take k) (map-ranked told (λ h. h.0) (λ h. h.0) (λ h. refl) all) in
      searched_merged k ds none ∙ hits_searched k ds (map told all) (map told best) hits first ∙ ap Some (told_back best)

-- the reply in place of those of counts
pub totals_merged : {X : Type 0} (k : ℕ) (count_of : X → ℕ) (lists : List X) → merged k (map (λ docs. count_reply (count_of docs)) lists) ≡ Some (count_reply (sum (map count_of lists)))
totals_merged {X} k count_of lists = counts_merged k (map (λ docs. count_reply (count_of docs)) lists) (sum (map count_of lists)) (sym (ap (option_map sum) (each_count lists)))
  where
    each_count : (ls : List X) → each_of count_in (map (λ docs. count_reply (count_of docs)) ls) ≡ Some (map count_of ls)
    each_count [] = refl
    each_count (docs ∷ ls) = given_first (count_in (count_reply (count_of docs))) (count_of docs) (each_of count_in (map (λ d. count_reply (count_of d)) ls)) (map count_of ls) (count_read (count_of docs)) (each_count ls)

-- ---- the reply that is made of texts

-- a text is that of the reply in place of several
abbrev pub Tells : ℕ → List Data → List ℕ → Type 0
Tells k ds text = (d : Data) × (merged k ds ≡ Some d) × (has_float d ≡ false → text ≡ compact_text d)

-- one value is read
one_reading : (o : Option (List Data)) (ds es : List Data) → o ≡ Some ds → o ≡ Some es → ds ≡ es
one_reading o ds es is are = cc

told_text : (k : ℕ) (ds : List Data) (text : List ℕ) (d : Data) → Tells k ds text → merged k ds ≡ Some d → has_float d ≡ false → text ≡ compact_text d
told_text k ds text d tells is whole = let same : tells.0 ≡ d = one_reply (merged k ds) tells.0 d tells.1 is in subst (λ (e : Data). (has_float e ≡ false → text ≡ compact_text e)) same tells.2 whole
  where
    one_reply : (o : Option Data) (e f : Data) → o ≡ Some e → o ≡ Some f → e ≡ f
    one_reply o e f is are = cc

-- what was read is merged to this text
pub text_merged : (k : ℕ) (texts : List (List ℕ)) (read ds : List Data) (text : List ℕ) (d : Data) → readings texts ≡ Some read → Tells k read text → readings texts ≡ Some ds → merged k ds ≡ Some d → has_float d ≡ false → text ≡ compact_text d
text_merged k texts read ds text d was tells is = let same : read ≡ ds = one_reading (readings texts) read ds was is in told_text k ds text d (subst (λ (es : List Data). Tells k es text) same tells)

-- the reply in place of those of searches
pub searches_merged : (schema : Schema) (analyze : Analyzer) (sim : Similarity) (q : Query) (k j : ℕ) (lists : List (List Document)) → k ≤ j → 0 < length lists
    → merged k (map (λ docs. hits_reply (scan schema analyze sim docs q j)) lists) ≡ Some (hits_reply (scan schema analyze sim (joined lists) q k))
searches_merged schema analyze sim q k j lists enough some =
    scans_merged (λ docs. scan schema analyze sim docs q j) k lists some
    ∙ ap (λ hs. Some (hits_reply hs)) (best_of_all (λ h. h.0) (hit_of schema analyze sim q) k j enough lists)

-- the reply in place of those of counts
pub counts_of_all_merged : (schema : Schema) (analyze : Analyzer) (q : Query) (k : ℕ) (lists : List (List Document))
    → merged k (map (λ docs. count_reply (scan_count schema analyze docs q)) lists) ≡ Some (count_reply (scan_count schema analyze (joined lists) q))
counts_of_all_merged schema analyze q k lists =
    totals_merged k (λ docs. scan_count schema analyze docs q) lists
    ∙ ap (λ n. Some (count_reply n)) (sym (count_of_all (λ doc. matches schema analyze doc q) lists))
