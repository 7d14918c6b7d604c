-- The keys of a text are its parts; other bytes have none.
use Rattle.std.proofs.Common.{Bor, IfOk, List, ap, map, subst, sym, ◌==◌, ◌∙◌, ◌≡◌, ℕ}
use Rattle.std.specs.List.{slice_split}
use Rattle.std.proofs.lemmas.Bool.{cond-true, false_from_ne_true}
use Rattle.std.proofs.lemmas.Str.{IsUtf8-from_is_utf8, is_utf8-from_IsUtf8}
use Rattle.definitions.specs.TermData.{path_data}
use Rattle.serde_json.specs.Data.{Data, array, null, string}
use Rattle.serde_json.specs.View.{items_of, view}
use Rattle.settings.proofs.JsonValues.{view-null}
use Rattle.settings.proofs.TermPaths.{texts_of}
use Rattle.settings.proofs.paths_to_json.path_to_json.Goals as goal

pub returns-in_ok-parts-in-Ok : goal.returns-in_ok-parts-in-Ok
returns-in_ok-parts-in-Ok c =
    let path = c.args.path.now in
    let parts : map (λ (k : Bor (List ℕ)). k.now) c.as_slice.result.now ≡ slice_split (◌==◌ 1) path = ap (map (λ (k : Bor (List ℕ)). k.now)) c.as_slice.ensures.value ∙ c.in_ok-parts-in-Ok.ensures ∙ ap (slice_split (◌==◌ 1)) c.in-Ok.ensures.cases.0 in
    let keys = texts_of c.as_slice.result.now ∙ ap (map string) parts in
    let told : array (items_of (map (λ (k : Bor (List ℕ)). string k.now) c.as_slice.result.now)) ≡ path_data path = ap (λ (ds : List Data). array (items_of ds)) keys ∙ sym (cond-true _ (array (items_of (map string (slice_split (◌==◌ 1) path)))) null (is_utf8-from_IsUtf8 path c.in-Ok.ensures.cases.1)) in
    subst (λ (d : Data). IfOk c.keys_to_json.result (λ json. view json ≡ d)) told c.keys_to_json.ensures

pub returns-in-Err : goal.returns-in-Err
returns-in-Err c = rw (false_from_ne_true _ (λ e. c.in-Err.ensures.cases.0 (IsUtf8-from_is_utf8 c.args.path.now e))) view-null
