-- Documents are read back from what is printed of their fields.
use Rattle.std.proofs.Common.{[], Bool, Err, List, None, Ok, Some, ap, ap₂, arith, append-nil, append_assoc, cond, eqb-true, false, length, le-ltb, map, refl, subst, suc, sym, true, ◌+◌, ◌++◌, ◌<◌, ◌==◌, ◌∙◌, ◌∷◌, ◌≡◌, ◌≢◌, ◌≤◌, ℕ}
use Rattle.std.proofs.lemmas.Bool.{cond-false, eqb-false, ne_eqb}
use Rattle.std.proofs.lemmas.Option.{slice_get_past}
use Rattle.std.specs.List.{AllByRecursion, cons_option, enumerate_from, filter_map}
use Rattle.std.specs.Option.{option_map_or}
use Rattle.std.specs.Ordering.{match_ordering}
use Rattle.std.specs.Prelude.{IfSome, filter, nat_lt, option_map, slice_get}
use Rattle.std.specs.declared.cmp.Ordering.{Ordering}
use Rattle.std.specs.declared.cmp.Ordering.TheVariants.{Equal, Greater, Less}
use Rattle.std.proofs.lemmas.Map.Lookups.{exact_bytes}
use Rattle.serde_json.specs.Data.{depth, put}
use Rattle.serde_json.specs.Read.{read}
use Rattle.serde_json.specs.Data as json
use Rattle.definitions.specs.GivenDepths.{max_given_depth}
use Rattle.definitions.specs.Printed.{printed_fields, printed_list, printed_named}
use Rattle.definitions.specs.Reading.{read_data, read_field, read_member, read_members, then_read}
use Rattle.definitions.specs.Schema.{AreDistinct, Entry, Schema}
use Rattle.definitions.specs.Stored.{named_values, stored_pairs, stored_values}
use Rattle.definitions.specs.Values.{Document, Value, values_of}
use Rattle.definitions.specs.declared.fault.Fault.TheVariants.{NotAnObject}
use Rattle.schema.proofs.FieldNames.{field_named-exact}
use Rattle.inspect.proofs.ReadBack.Given.{Ascend, IsGiven}
use Rattle.inspect.proofs.ReadBack.Reading.{stored_given, stored_plain, then_ok}
use Rattle.inspect.specs.ReadBack.{ReadsBack, WasRead}
use Rattle.inspect.proofs.ReadBack.FieldValues.{by_field_same, named_of, stored_again, values_append, values_other, values_own, values_unstored}
use Rattle.inspect.proofs.ReadBack.Keys.{order_of}
use Rattle.inspect.proofs.ReadBack.Members.{all_put, plain_put, rises_put}
use Rattle.inspect.proofs.ReadBack.Texts.{ArePlainMembers, json_keys, text_read}
use Rattle.inspect.proofs.ReadBack.Values.{items_back, items_plain}

-- ---- what is read of members with one more

-- between the two parts of a document
abbrev Inserted : Document → Document → Document → Type 0
Inserted x z w = (a : Document) × (b : Document) × (z ≡ a ++ b) × (w ≡ a ++ (x ++ b))

-- what is read of members that begin with one
abbrev Begins : Schema → List ℕ → json.Data → json.Members → Document → Type 0
Begins schema l e ms z = (p : Document) × (q : Document) × (read_member schema l e ≡ Ok p) × (read_members schema ms ≡ Ok q) × (z ≡ p ++ q)

abbrev ReadWith : Schema → Document → Document → json.Members → Type 0
ReadWith schema x z ms = (w : Document) × (read_members schema ms ≡ Ok w) × Inserted x z w

put_read : (schema : Schema) (k : List ℕ) (d : json.Data) (x : Document) → read_member schema k d ≡ Ok x → (ms : json.Members) (z : Document) → AllByRecursion (λ l. l ≢ k) (json_keys ms) → read_members schema ms ≡ Ok z → ReadWith schema x z (put k d ms)
put_read schema k d x one json.no_members z new all = (x ++ [], ap (λ r. then_read ◌++◌ r (Ok [])) one, ([], [], cc, refl))
put_read schema k d x one (json.member l e ms) z new all =
    let parts : Begins schema l e ms z = then_ok ◌++◌ (read_member schema l e) (read_members schema ms) z all in
    go (order_of k l) refl parts (put_read schema k d x one ms parts.1 new.1 parts.3)
  where
    go : (o : Ordering) → order_of k l ≡ o → (parts : Begins schema l e ms z) → ReadWith schema x parts.1 (put k d ms) → ReadWith schema x z (match_ordering o (json.member k d (json.member l e ms)) (json.member l d ms) (json.member l e (put k d ms)))
    go Less is parts later = (x ++ z, ap₂ (then_read ◌++◌) one all, ([], z, refl, refl))
    go Equal is parts later = absurd (new.0 (sym (exact_bytes k l is)))
    go Greater is (p, q, first, rest, whole) (w, read_w, (a, b, z_is, w_is)) =
        (p ++ w, ap₂ (then_read ◌++◌) first read_w, (p ++ a, b, whole ∙ ap (λ y. p ++ y) z_is ∙ sym (append_assoc p a b), ap (λ y. p ++ y) w_is ∙ sym (append_assoc p a (x ++ b))))

-- ---- the values of each field

nothing_of : {X : Type 0} (xs ys : List X) → xs ++ ys ≡ [] → (xs ≡ []) × (ys ≡ [])
nothing_of [] ys e = (refl, e)
nothing_of (x ∷ xs) ys e = absurd (cc)

-- the inserted values are those of their field, which had none
inserted_own : (n : ℕ) (vs : List Value) (z w : Document) → values_of n z ≡ [] → Inserted (map (λ v. (n, v)) vs) z w → values_of n w ≡ vs
inserted_own n vs z w none (a, b, z_is, w_is) =
    let x = map (λ v. (n, v)) vs in
    let both = nothing_of (values_of n a) (values_of n b) (sym (values_append n a b) ∙ ap (values_of n) (sym z_is) ∙ none) in
    ap (values_of n) w_is ∙ values_append n a (x ++ b) ∙ ap₂ ◌++◌ both.0 (values_append n x b ∙ ap₂ ◌++◌ (values_own n vs) both.1) ∙ append-nil vs

-- and those of another field stay
inserted_other : (f n : ℕ) (vs : List Value) (z w : Document) → (n == f) ≡ false → Inserted (map (λ v. (n, v)) vs) z w → values_of f w ≡ values_of f z
inserted_other f n vs z w other (a, b, z_is, w_is) =
    let x = map (λ v. (n, v)) vs in
    ap (values_of f) w_is ∙ values_append f a (x ++ b) ∙ ap (λ ys. values_of f a ++ ys) (values_append f x b ∙ ap (λ ys. ys ++ values_of f b) (values_other f n vs other)) ∙ sym (values_append f a b) ∙ ap (values_of f) (sym z_is)

-- ---- the fields, one after another

abbrev AreGiven : Schema → Document → Type 0
AreGiven schema ps = AllByRecursion (λ p. IfSome (slice_get schema p.0) (λ e. IsGiven e.kind p.1)) ps

given_of : (schema : Schema) (n : ℕ) (e : Entry) → slice_get schema n ≡ Some e → (ps : Document) → AreGiven schema ps → AllByRecursion (IsGiven e.kind) (values_of n ps)
given_of schema n e at [] all = tt
given_of schema n e at ((g, v) ∷ ps) all = go (g == n) refl (given_of schema n e at ps all.1)
  where
    go : (s : Bool) → (g == n) ≡ s → AllByRecursion (IsGiven e.kind) (values_of n ps) → AllByRecursion (IsGiven e.kind) (map (λ p. p.1) (cond s ((g, v) ∷ filter (λ p. p.0 == n) ps) (filter (λ p. p.0 == n) ps)))
    go true own later = (subst (λ o. IfSome o (λ e. IsGiven e.kind v)) (ap (slice_get schema) (eqb-true g n own) ∙ at) all.0, later)
    go false own later = later

member_read : (schema : Schema) (n : ℕ) (e : Entry) (vs : List Value) → AreDistinct schema → slice_get schema n ≡ Some e → AllByRecursion (IsGiven e.kind) vs → read_member schema e.name (json.array (printed_list vs)) ≡ Ok (map (λ v. (n, v)) vs)
member_read schema n e vs distinct at given =
    ap (λ o. elim o [ None ↦ Ok [] | Some field ↦ option_map_or (λ e. read_field field e (json.array (printed_list vs))) (slice_get schema field) (Ok []) ]) ((field_named-exact schema e.name n distinct).1 (ap (option_map (λ (e : Entry). e.name)) at))
    ∙ ap (λ o. option_map_or (λ e. read_field n e (json.array (printed_list vs))) o (Ok [])) at
    ∙ items_back n e vs given

-- the members that are printed of some fields
abbrev members_from : ℕ → Schema → Document → json.Members
members_from n es ps = printed_fields (filter_map (named_values ps) (enumerate_from n es))

-- They are read as a document with the values of these fields. Their keys are names of these fields and ascend.
record AreRead (schema : Schema) (ps : Document) (n : ℕ) (es : Schema) : Type 0 where
  back : Document
  read : read_members schema (members_from n es ps) ≡ Ok back
  later : (f : ℕ) → n ≤ f → values_of f back ≡ values_of f ps
  earlier : (f : ℕ) → f < n → values_of f back ≡ []
  named : (name : List ℕ) → AllByRecursion (λ e. e.name ≢ name) es → AllByRecursion (λ l. l ≢ name) (json_keys (members_from n es ps))
  rises : Ascend (json_keys (members_from n es ps))
  plain : ArePlainMembers (members_from n es ps)

abbrev printed_of : ℕ → Entry → Schema → Document → List Value → json.Members
printed_of n e es ps vs = printed_fields (cons_option (named_of e vs) (filter_map (named_values ps) (enumerate_from (n + 1) es)))

fields_read : (schema : Schema) (ps : Document) → AreDistinct schema → AreGiven schema ps → (es : Schema) (n : ℕ) → ((i : ℕ) → slice_get schema (n + i) ≡ slice_get es i) → AreDistinct es → ((f : ℕ) → n + length es ≤ f → values_of f ps ≡ []) → AreRead schema ps n es
fields_read schema ps distinct given [] n at apart outside = record {
  back = [];
  read = refl;
  later = λ f from. sym (outside f (omega (arith, from)));
  earlier = λ f before. refl;
  named = λ name others. tt;
  rises = tt;
  plain = tt;
}
fields_read schema ps distinct given (e ∷ es) n at apart outside =
    go (values_of n ps) refl (fields_read schema ps distinct given es (n + 1) (λ i. ap (slice_get schema) (let is : n + 1 + i ≡ n + suc i = omega arith in is) ∙ at (suc i)) apart.1 (λ f from. outside f (omega (arith, from))))
  where
    here : slice_get schema n ≡ Some e
    here = ap (slice_get schema) (let is : n ≡ n + 0 = omega arith in is) ∙ at 0

    none_after : (f : ℕ) → (n == f) ≡ false → n ≤ f → n + 1 ≤ f
    none_after f other from = (let differs = eqb-false n f other in omega (arith, differs, from))

    cases : (f : ℕ) (back : Document) (vs : List Value) → values_of n ps ≡ vs → values_of n back ≡ vs → ((g : ℕ) → (n == g) ≡ false → n + 1 ≤ g → values_of g back ≡ values_of g ps) → n ≤ f → values_of f back ≡ values_of f ps
    cases f back vs is own others from = split (n == f) refl
      where
        split : (s : Bool) → (n == f) ≡ s → values_of f back ≡ values_of f ps
        split true same = ap (λ g. values_of g back) (sym (eqb-true n f same)) ∙ own ∙ sym is ∙ ap (λ g. values_of g ps) (eqb-true n f same)
        split false other = others f other (none_after f other from)

    go : (vs : List Value) → values_of n ps ≡ vs → AreRead schema ps (n + 1) es → AreRead schema ps n (e ∷ es)
    go [] is rest =
        let members : members_from n (e ∷ es) ps ≡ members_from (n + 1) es ps = ap (printed_of n e es ps) is in
        record {
          back = rest.back;
          read = ap (read_members schema) members ∙ rest.read;
          later = λ f from. cases f rest.back [] is (rest.earlier n (omega arith)) (λ g other after. rest.later g after) from;
          earlier = λ f before. rest.earlier f (omega (arith, before));
          named = λ name others. subst (λ ms. AllByRecursion (λ l. l ≢ name) (json_keys ms)) (sym members) (rest.named name others.1);
          rises = subst (λ ms. Ascend (json_keys ms)) (sym members) rest.rises;
          plain = subst ArePlainMembers (sym members) rest.plain;
        }
    go (v ∷ vs) is rest =
        let d = json.array (printed_list (v ∷ vs)) in
        let ms = members_from (n + 1) es ps in
        let members : members_from n (e ∷ es) ps ≡ put e.name d ms = ap (printed_of n e es ps) is in
        let all = subst (AllByRecursion (IsGiven e.kind)) is (given_of schema n e here ps given) in
        let one = member_read schema n e (v ∷ vs) distinct here all in
        let w = put_read schema e.name d (map (λ x. (n, x)) (v ∷ vs)) one ms rest.back (rest.named e.name apart.0) rest.read in
        record {
          back = w.0;
          read = ap (read_members schema) members ∙ w.1;
          later = λ f from. cases f w.0 (v ∷ vs) is (inserted_own n (v ∷ vs) rest.back w.0 (rest.earlier n (omega arith)) w.2) (λ g other after. inserted_other g n (v ∷ vs) rest.back w.0 other w.2 ∙ rest.later g after) from;
          earlier = λ f before. inserted_other f n (v ∷ vs) rest.back w.0 (ne_eqb n f (λ same. absurd (omega (arith, same, before)))) w.2 ∙ rest.earlier f (omega (arith, before));
          named = λ name others. subst (λ ms. AllByRecursion (λ l. l ≢ name) (json_keys ms)) (sym members) (all_put (λ l. l ≢ name) e.name d ms others.0 (rest.named name others.1));
          rises = subst (λ ms. Ascend (json_keys ms)) (sym members) (rises_put e.name d ms rest.rises);
          plain = subst ArePlainMembers (sym members) (plain_put e.name d ms (items_plain e (v ∷ vs) all) rest.plain);
        }

-- ---- whole documents

pub document_back : (schema : Schema) (doc : Document) → WasRead schema doc → ReadsBack schema doc
document_back schema doc given =
    let ps = stored_pairs schema doc in
    let d = printed_named (stored_values schema doc) in
    let all : AreRead schema ps 0 schema = fields_read schema ps given.distinct (stored_given schema doc given) schema 0 (λ i. ap (slice_get schema) (let is : 0 + i ≡ i = omega arith in is)) given.distinct (λ f past. values_unstored schema f doc (ap (λ o. option_map_or (λ (e : Entry). e.stored) o false) (slice_get_past schema f (omega (arith, past))))) in
    let text = text_read d (all.rises, all.plain) given.shallow in
    let shallow : depth d ≤ 127 = given.shallow in (
      all.back,
      ap (λ o. elim o [ None ↦ Err NotAnObject | Some d ↦ read_data schema d ]) text ∙ cond-false (nat_lt max_given_depth (depth d)) _ _ (le-ltb max_given_depth (depth d) (omega (arith, shallow))) ∙ all.read,
      by_field_same schema (stored_pairs schema all.back) ps (stored_again schema doc all.back (stored_plain schema doc given) (λ f. all.later f (omega arith))),
    )
