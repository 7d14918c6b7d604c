-- A field's terms with their recorders, as one more occurrence is recorded.
use Rattle.std.proofs.Common.{[], ◌++◌, ◌≡◌, ◌∙◌, ◌∷◌, Bool, List, None, Option, Some, Vec, ap, bytes_eq, cond, false, map, nat_eq, refl, subst, sym, true, ℕ}
use Rattle.std.specs.Cmp.Lexicographic.{pointwise}
use Rattle.std.specs.HashMap.{HashMap, UpdatesBy, get_by}
use Rattle.std.specs.Map.{KeepsOthers, lookup, update}
use Rattle.std.specs.declared.alloc.Global.{Global}
use Rattle.std.proofs.lemmas.Slice.Eq.{bytes_eq-Decides}
use Rattle.definitions.proofs.Lists.{unequal}
use Rattle.definitions.specs.Schema.{Entry, IndexRecordOption}
use Rattle.postings_writer.specs.Fields.{HasRecorders, Terms, option_of_key, with_occurrence}
use Rattle.postings_writer.specs.Recorders.{IsCountWithin, recorded_as, recorder_of}
use Rattle.postings_writer.specs.declared.recorder.Recorder.{Recorder}

-- the value at the key of these bytes
abbrev pub get_by_bytes : {X S : Type 0} → HashMap (Vec ℕ Global) X S → List ℕ → Option X
get_by_bytes m bytes = get_by (λ key. bytes_eq bytes key.items) m

-- entries by the bytes of their keys
pub lookup_items : {X : Type 0} (bytes : List ℕ) (es : List (Vec ℕ Global × X)) → lookup (bytes_eq bytes) (map (λ e. (e.0.items, e.1)) es) ≡ lookup (λ key. bytes_eq bytes key.items) es
lookup_items bytes [] = refl
lookup_items bytes (e ∷ es) = ap (λ o. cond (bytes_eq bytes e.0.items) (Some e.1) o) (lookup_items bytes es)

-- after a value is put at a key, what stands at any bytes
pub updates_bytes : {X S : Type 0} (key : List ℕ) (old new : HashMap (Vec ℕ Global) X S) (value : Option X) → UpdatesBy (λ x y. pointwise nat_eq x.items y.items) (λ k. pointwise nat_eq key k.items) old new value → (bytes : List ℕ) → get_by_bytes new bytes ≡ update bytes_eq (get_by_bytes old) key value bytes
unfolding KeepsOthers
updates_bytes key old new value updated bytes = go (bytes_eq key bytes) refl
  where
    go : (b : Bool) → bytes_eq key bytes ≡ b → get_by_bytes new bytes ≡ cond b value (get_by_bytes old bytes)
    go true e = subst (λ bs. get_by_bytes new bs ≡ value) ((bytes_eq-Decides key bytes).0 e) updated.1
    go false e = updated.3 (λ k. bytes_eq bytes k.items)
        (λ x y same. ap (λ bs. bytes_eq bs y.items) ((bytes_eq-Decides bytes x.items).0 same))
        (λ k same. subst (λ bs. bytes_eq bytes bs ≡ false) ((bytes_eq-Decides key k.items).0 same) (unequal key bytes e))

-- ---- recorders

-- the recorder of occurrences, where there are occurrences
pub recorder_push : (option : IndexRecordOption) (ps : List (ℕ × ℕ)) (p : ℕ × ℕ) → recorder_of option (ps ++ p ∷ []) ≡ Some (recorded_as option (ps ++ p ∷ []))
recorder_push option [] p = refl
recorder_push option (q ∷ ps) p = refl

pub recorder_is : (option : IndexRecordOption) (ps : List (ℕ × ℕ)) (r : Recorder) → recorder_of option ps ≡ Some r → r ≡ recorded_as option ps
recorder_is option [] r is = cc
recorder_is option (p ∷ ps) r is = cc

pub recorder_none : (option : IndexRecordOption) (ps : List (ℕ × ℕ)) → recorder_of option ps ≡ None → ps ≡ []
recorder_none option [] is = refl
recorder_none option (p ∷ ps) is = cc

-- one occurrence more of one term
recorded_more : (e : Entry) (old new : List ℕ → Option Recorder) (occurrences : List ℕ → List (ℕ × ℕ)) (key : List ℕ) (occurrence : ℕ × ℕ) (r : Recorder) → ((q : List ℕ) → old q ≡ recorder_of (option_of_key e q) (occurrences q)) → r ≡ recorded_as (option_of_key e key) (occurrences key ++ occurrence ∷ []) → ((q : List ℕ) → new q ≡ update bytes_eq old key (Some r) q) → (q : List ℕ) → new q ≡ recorder_of (option_of_key e q) (with_occurrence key occurrence occurrences q)
recorded_more e old new occurrences key occurrence r has is put q = put q ∙ go (bytes_eq key q) refl
  where
    go : (b : Bool) → bytes_eq key q ≡ b → cond b (Some r) (old q) ≡ recorder_of (option_of_key e q) (cond b (occurrences q ++ occurrence ∷ []) (occurrences q))
    go true same = ap Some (is ∙ ap (λ k. recorded_as (option_of_key e k) (occurrences k ++ occurrence ∷ [])) ((bytes_eq-Decides key q).0 same)) ∙ sym (recorder_push (option_of_key e q) (occurrences q) occurrence)
    go false other = has q

counted_more : (e : Entry) (occurrences : List ℕ → List (ℕ × ℕ)) (key : List ℕ) (occurrence : ℕ × ℕ) → ((q : List ℕ) → IsCountWithin (option_of_key e q) (occurrences q)) → IsCountWithin (option_of_key e key) (occurrences key ++ occurrence ∷ []) → (q : List ℕ) → IsCountWithin (option_of_key e q) (with_occurrence key occurrence occurrences q)
counted_more e occurrences key occurrence before within q = go (bytes_eq key q) refl
  where
    go : (b : Bool) → bytes_eq key q ≡ b → IsCountWithin (option_of_key e q) (cond b (occurrences q ++ occurrence ∷ []) (occurrences q))
    go true same = subst (λ k. IsCountWithin (option_of_key e k) (occurrences k ++ occurrence ∷ [])) ((bytes_eq-Decides key q).0 same) within
    go false other = before q

-- terms after a recorder is put at a key
pub has_recorders-updated : (e : Entry) (old new : Terms) (occurrences : List ℕ → List (ℕ × ℕ)) (key : List ℕ) (occurrence : ℕ × ℕ) (r : Recorder) → HasRecorders e occurrences old → r ≡ recorded_as (option_of_key e key) (occurrences key ++ occurrence ∷ []) → IsCountWithin (option_of_key e key) (occurrences key ++ occurrence ∷ []) → ((q : List ℕ) → lookup (bytes_eq q) new ≡ update bytes_eq (λ p. lookup (bytes_eq p) old) key (Some r) q) → HasRecorders e (with_occurrence key occurrence occurrences) new
has_recorders-updated e old new occurrences key occurrence r has is within put = record {
  recorders = recorded_more e (λ q. lookup (bytes_eq q) old) (λ q. lookup (bytes_eq q) new) occurrences key occurrence r has.recorders is put;
  counted = counted_more e occurrences key occurrence has.counted within;
}
