-- A field that is added keeps the names.
use Rattle.std.proofs.Common.{ap, ap₂, rules, subst, sym, ◌∙◌, ◌≡◌, ◌++◌, ◌∷◌, [], List, string_bytes, Ok, Some, length, bytes_eq}
use Rattle.std.specs.BTreeMap.{get_by_text}
use Rattle.std.specs.Map.{update}
use Rattle.std.proofs.lemmas.Map.Text.{btree_map_updates_text}
use Rattle.definitions.specs.Schema.{Entry, with_field}
use Rattle.schema.specs.Entries.{IsTyped, entry_of}
use Rattle.schema.specs.Names.{Numbers}
use Rattle.schema.proofs.FieldNames.{entry_of-name, may_be_added, numbers_with}
use Rattle.schema.proofs.schema.Schema.add.Goals as goal

pub invariant_of-self-2 : goal.invariant_of-self-2
invariant_of-self-2 c =
    let fields = c.self.inside.fields.items in
    let e = c.new-entry.result in
    let named : e.name ≡ c.args.name.now = ap (λ (x : Entry). x.name) c.new-entry.ensures ∙ entry_of-name _ c.args.field_type ∙ c.in_ok-from_str.ensures.ok in
    let typed : IsTyped e = (c.args.field_type, c.new-entry.ensures ∙ ap (λ n. entry_of n c.args.field_type) (sym (ap (λ (x : Entry). x.name) c.new-entry.ensures ∙ entry_of-name _ c.args.field_type))) in
    let items : c.push.new.self.items ≡ fields ++ (e ∷ []) = search rules in
    let added : with_field fields e ≡ Ok (fields ++ (e ∷ [])) = subst (λ (l : List Entry). with_field l e ≡ Ok (l ++ (e ∷ []))) (sym c.self.view_is) (c.in_ok-check.ensures e named) in
    let number : c.from_field_id-field.result ≡ length fields = search rules in
    let key : string_bytes c.in_ok-key.key ≡ e.name = c.in_ok-key.ensures.ok ∙ sym named in
    let updated = btree_map_updates_text (string_bytes c.in_ok-key.key) c.self.inside.numbers c.insert.new.self _ c.in_ok-insert.ensures.updates in
    subst (λ l. Numbers c.insert.new.self l) (sym items) (numbers_with c.self.inside.numbers c.insert.new.self fields e c.self.invariant (may_be_added fields _ e added) typed (λ q. updated q ∙ ap₂ (λ bs n. update bytes_eq (get_by_text c.self.inside.numbers) bs (Some n) q) key number))
