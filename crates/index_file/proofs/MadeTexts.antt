-- What an index is made of, as a text that is read back.
use Rattle.std.proofs.Common.{ℕ, List, ◌≡◌, ◌≤◌, Bool, true, false, Some, None, refl, sym, ap, ◌∙◌, subst, IsUtf8, String, string_bytes}
use Rattle.std.specs.Str.{is_utf8}
use Rattle.std.proofs.lemmas.Str.{IsUtf8-from_is_utf8, IsUtf8-string_bytes, is_utf8-from_IsUtf8}
use Rattle.definitions.specs.Json.{only_if, ◌>>=◌}
use Rattle.definitions.specs.Schema.{Schema}
use Rattle.definitions.specs.Settings.{Settings}
use Rattle.layouts.specs.RecordBodies.{made_data, made_in, made_in_text}
use Rattle.serde_json.specs.Read.{read}
use Rattle.serde_json.specs.Data.{depth}
use Rattle.index_file.proofs.PlainData.{made_shallow}
use Rattle.serde_json.specs.Data as json

-- ---- texts

-- what a text holds is one
pub string_utf8 : {Z : Type 0} (s : String Z) → IsUtf8 (string_bytes s)
string_utf8 s = IsUtf8-string_bytes s

pub text_read : (text : List ℕ) (d : json.Data) → IsUtf8 text → read text ≡ Some d → made_in_text text ≡ made_in d
text_read text d utf8 is = ap (λ t. only_if t (read text >>= made_in)) (is_utf8-from_IsUtf8 text utf8) ∙ ap (λ o. o >>= made_in) is

pub text_refused : (text : List ℕ) → (IsUtf8 text → read text ≡ None) → made_in_text text ≡ None
text_refused text unread = go (is_utf8 text) refl
  where
    go : (t : Bool) → is_utf8 text ≡ t → only_if t (read text >>= made_in) ≡ None
    go false e = refl
    go true e = ap (λ o. o >>= made_in) (unread (IsUtf8-from_is_utf8 text e))

pub text_back : (schema : Schema) (settings : Settings) (d : json.Data) (text : List ℕ) → IsUtf8 text → d ≡ made_data schema settings → (depth d ≤ 127 → read text ≡ Some d) → made_in d ≡ Some (schema, settings) → made_in_text text ≡ Some (schema, settings)
text_back schema settings d text utf8 is written back =
    let shallow : depth d ≤ 127 = subst (λ (x : json.Data). depth x ≤ 127) (sym is) (made_shallow schema settings) in
    text_read text d utf8 (written shallow) ∙ back
