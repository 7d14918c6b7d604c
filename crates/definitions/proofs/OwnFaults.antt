-- What a call is refused by is none of its failures: want of memory, a limit, a device or damage.
use Rattle.std.proofs.Common.{[], Bool, Err, List, None, Ok, Option, Result, Some, ap, codes, false, if◌then◌else◌, int_le, int_lt, nat_lt, neg_ℤ, not, ok_or, option_map, pos, refl, slice_get, subst, sym, true, true≢false, ◌&&◌, ◌*◌, ◌++◌, ◌^◌, ◌∷◌, ◌≡◌, ◌||◌, ℕ, ℤ, inl, inr, ◌∙◌, ◌≢◌, ◌⊎◌, IfErr}
use Rattle.std.specs.Prelude.{⊤}
use Rattle.std.specs.List.{AllByRecursion}
use Rattle.std.specs.Option.{option_map_or, option_or}
use Rattle.std.specs.Result.{result_err}
use Rattle.base64.specs.Engines.{standard}
use Rattle.base64.specs.GeneralPurpose.{decoded_of}
use Rattle.definitions.specs.Addresses.{address_in}
use Rattle.definitions.specs.Calls.{Call, Configuration, Index, Status, add_document, add_json, add_value, call_fault, closed, commit_pending, count_all, delete_term, document_given, document_json, document_value, has_unknown_field, if_indexable, merge_range, only_reads, own_fault, ready, search_best, status_fault, writer_closed}
use Rattle.definitions.specs.Dates.{date_in}
use Rattle.definitions.specs.Facets.{facet_of_path}
use Rattle.definitions.specs.GivenDepths.{is_too_deep}
use Rattle.definitions.specs.Indexable.{is_indexable}
use Rattle.definitions.specs.Query.{Clauses, Queries, Query, all, boolean, boost, clause, const_score, depth, disjunction_max, empty, no_clauses, no_queries, phrase, phrase_prefix, query, term}
use Rattle.definitions.specs.Reading.{bool_json, bool_text, date_value, i64_number, i64_text, if_coerced, or_parse_error, read_data, read_field, read_items, read_json, read_kind, read_member, read_members, read_object, read_value, then_read, u64_number, u64_text}
use Rattle.definitions.specs.Refusing.{Test, clauses_fault, first_fault, is_not_indexed, is_score_too_large, is_unknown, max_depth, node_fault, own_tests, queries_fault, refusal, tree_fault}
use Rattle.definitions.specs.Schema.{Entry, Kind, Schema, bool_kind, bytes_kind, date_kind, facet_kind, field_named, i64_kind, ip_addr_kind, json_kind, text_kind, u64_kind}
use Rattle.definitions.specs.Scoring.{natural}
use Rattle.definitions.specs.State.{State, is_bad_range}
use Rattle.definitions.specs.Values.{Document, Value, bytes, date, facet, i64, ip_addr, str}
use Rattle.definitions.specs.declared.fault.Fault.{Fault}
use Rattle.definitions.specs.declared.fault.Fault.TheVariants as faults
use Rattle.serde_json.specs.Data as json
use Rattle.serde_json.specs.Find.{as_object}
use Rattle.serde_json.specs.Read.{read}
use Rattle.serde_json.specs.Written.{has_float, number_text}
use Rattle.definitions.specs.Calls as calls

-- want of memory, a limit, a device that failed, or damage
abbrev pub is_failure : Fault → Bool
is_failure faults.OutOfMemory = true
is_failure faults.Limit = true
is_failure faults.Device = true
is_failure (faults.Damaged gate) = true
is_failure _ = false

abbrev some : Fault → Option Fault
some fault = Some fault

-- what a status refuses by
abbrev pub is_of_status : Fault → Bool
is_of_status faults.Closed = true
is_of_status faults.WriterClosed = true
is_of_status _ = false

-- a refusal by neither
abbrev pub is_test : Fault → Bool
is_test fault = not (is_failure fault || is_of_status fault)

-- a reading that is refused so, if it is
abbrev Tested : {A : Type 0} → Result A Fault → Type 0
Tested (Ok x) = ⊤
Tested (Err fault) = is_test fault ≡ true

-- likewise of a refusal
abbrev Named : Option Fault → Type 0
Named None = ⊤
Named (Some fault) = is_test fault ≡ true

-- ---- documents

parsed : (o : Option Value) → Tested (or_parse_error o)
parsed (Some v) = tt
parsed None = refl

decoded : (o : Option Value) → Tested (ok_or o faults.InvalidBase64)
decoded (Some v) = tt
decoded None = refl

coerced : (coerce : Bool) (r : Result Value Fault) → Tested r → Tested (if_coerced coerce r)
coerced true r is = is
coerced false r is = refl

i64_numbers : (n : json.Num) → Tested (i64_number n)
i64_numbers (json.unsigned n) = go (nat_lt n (2 ^ 63))
  where
    go : (b : Bool) → Tested (if b then Ok (i64 (pos n)) else Err faults.OverflowError)
    go true = tt
    go false = refl
i64_numbers (json.negative z) = tt
i64_numbers (json.float x) = refl

u64_numbers : (n : json.Num) → Tested (u64_number n)
u64_numbers (json.unsigned n) = tt
u64_numbers (json.negative z) = refl
u64_numbers (json.float x) = refl

dates : (s : List ℕ) → Tested (date_value s)
dates s = found (date_in s)
  where
    within : (nanos : ℤ) (b : Bool) → Tested (if b then Ok (date nanos) else Err faults.OverflowError)
    within nanos true = tt
    within nanos false = refl

    found : (o : Option ℤ) → Tested (elim o [ None ↦ Err faults.ParseError | Some nanos ↦ if int_le (neg_ℤ (pos (2 ^ 63))) nanos && int_lt nanos (pos (2 ^ 63)) then Ok (date nanos) else Err faults.OverflowError ])
    found None = refl
    found (Some nanos) = within nanos (int_le (neg_ℤ (pos (2 ^ 63))) nanos && int_lt nanos (pos (2 ^ 63)))

kind_tested : (kind : Kind) (coerce : Bool) (d : json.Data) → Tested (read_kind kind coerce d)
kind_tested text_kind coerce json.null = coerced coerce (Ok (str (codes "null"))) tt
kind_tested text_kind coerce (json.boolean b) = coerced coerce (Ok (str (bool_json b))) tt
kind_tested text_kind coerce (json.number n) = coerced coerce (Ok (str (number_text n))) tt
kind_tested text_kind coerce (json.string s) = tt
kind_tested text_kind coerce (json.array ds) = refl
kind_tested text_kind coerce (json.object ms) = refl
kind_tested u64_kind coerce json.null = refl
kind_tested u64_kind coerce (json.boolean b) = refl
kind_tested u64_kind coerce (json.number n) = u64_numbers n
kind_tested u64_kind coerce (json.string s) = coerced coerce (or_parse_error (u64_text s)) (parsed (u64_text s))
kind_tested u64_kind coerce (json.array ds) = refl
kind_tested u64_kind coerce (json.object ms) = refl
kind_tested i64_kind coerce json.null = refl
kind_tested i64_kind coerce (json.boolean b) = refl
kind_tested i64_kind coerce (json.number n) = i64_numbers n
kind_tested i64_kind coerce (json.string s) = coerced coerce (or_parse_error (i64_text s)) (parsed (i64_text s))
kind_tested i64_kind coerce (json.array ds) = refl
kind_tested i64_kind coerce (json.object ms) = refl
kind_tested bool_kind coerce json.null = refl
kind_tested bool_kind coerce (json.boolean b) = tt
kind_tested bool_kind coerce (json.number n) = refl
kind_tested bool_kind coerce (json.string s) = coerced coerce (or_parse_error (bool_text s)) (parsed (bool_text s))
kind_tested bool_kind coerce (json.array ds) = refl
kind_tested bool_kind coerce (json.object ms) = refl
kind_tested date_kind coerce json.null = refl
kind_tested date_kind coerce (json.boolean b) = refl
kind_tested date_kind coerce (json.number n) = i64_numbers n
kind_tested date_kind coerce (json.string s) = dates s
kind_tested date_kind coerce (json.array ds) = refl
kind_tested date_kind coerce (json.object ms) = refl
kind_tested facet_kind coerce json.null = refl
kind_tested facet_kind coerce (json.boolean b) = refl
kind_tested facet_kind coerce (json.number n) = refl
kind_tested facet_kind coerce (json.string s) = parsed (option_map facet (facet_of_path s))
kind_tested facet_kind coerce (json.array ds) = refl
kind_tested facet_kind coerce (json.object ms) = refl
kind_tested bytes_kind coerce json.null = refl
kind_tested bytes_kind coerce (json.boolean b) = refl
kind_tested bytes_kind coerce (json.number n) = refl
kind_tested bytes_kind coerce (json.string s) = decoded (option_map bytes (decoded_of standard s))
kind_tested bytes_kind coerce (json.array ds) = refl
kind_tested bytes_kind coerce (json.object ms) = refl
kind_tested json_kind coerce json.null = refl
kind_tested json_kind coerce (json.boolean b) = refl
kind_tested json_kind coerce (json.number n) = refl
kind_tested json_kind coerce (json.string s) = refl
kind_tested json_kind coerce (json.array ds) = refl
kind_tested json_kind coerce (json.object ms) = tt
kind_tested ip_addr_kind coerce json.null = refl
kind_tested ip_addr_kind coerce (json.boolean b) = refl
kind_tested ip_addr_kind coerce (json.number n) = refl
kind_tested ip_addr_kind coerce (json.string s) = parsed (option_map ip_addr (address_in s))
kind_tested ip_addr_kind coerce (json.array ds) = refl
kind_tested ip_addr_kind coerce (json.object ms) = refl

value_tested : (e : Entry) (d : json.Data) → Tested (read_value e d)
value_tested e d = go (has_float d)
  where
    go : (b : Bool) → Tested (if b then Err faults.FloatValue else read_kind e.kind e.coerce d)
    go true = refl
    go false = kind_tested e.kind e.coerce d

then_tested : {A B C : Type 0} (f : A → B → C) (ra : Result A Fault) (rb : Result B Fault) → Tested ra → Tested rb → Tested (then_read f ra rb)
then_tested f (Ok a) (Ok b) first later = tt
then_tested f (Ok a) (Err fault) first later = later
then_tested f (Err fault) rb first later = first

items_tested : (field : ℕ) (e : Entry) (ds : json.Items) → Tested (read_items field e ds)
items_tested field e json.no_items = tt
items_tested field e (json.item d ds) = then_tested (λ v doc. (field, v) ∷ doc) (read_value e d) (read_items field e ds) (value_tested e d) (items_tested field e ds)

-- a value by itself
alone_tested : (field : ℕ) (e : Entry) (d : json.Data) → Tested {A = Document} (then_read (λ v doc. (field, v) ∷ doc) (read_value e d) (Ok []))
alone_tested field e d = then_tested (λ v doc. (field, v) ∷ doc) (read_value e d) (Ok []) (value_tested e d) tt

field_tested : (field : ℕ) (e : Entry) (d : json.Data) → Tested (read_field field e d)
field_tested field e (json.array ds) = items_tested field e ds
field_tested field e json.null = alone_tested field e json.null
field_tested field e (json.boolean b) = alone_tested field e (json.boolean b)
field_tested field e (json.number n) = alone_tested field e (json.number n)
field_tested field e (json.string s) = alone_tested field e (json.string s)
field_tested field e (json.object ms) = alone_tested field e (json.object ms)

member_tested : (schema : Schema) (key : List ℕ) (d : json.Data) → Tested (read_member schema key d)
member_tested schema key d = named (field_named schema key)
  where
    entered : (field : ℕ) (o : Option Entry) → Tested (option_map_or (λ e. read_field field e d) o (Ok []))
    entered field (Some e) = field_tested field e d
    entered field None = tt

    named : (o : Option ℕ) → Tested (elim o [ None ↦ Ok [] | Some field ↦ option_map_or (λ e. read_field field e d) (slice_get schema field) (Ok []) ])
    named None = tt
    named (Some field) = entered field (slice_get schema field)

members_tested : (schema : Schema) (ms : json.Members) → Tested (read_members schema ms)
members_tested schema json.no_members = tt
members_tested schema (json.member key d ms) = then_tested ◌++◌ (read_member schema key d) (read_members schema ms) (member_tested schema key d) (members_tested schema ms)

data_tested : (schema : Schema) (d : json.Data) → Tested (read_data schema d)
data_tested schema d = looked (is_too_deep d)
  where
    go : (o : Option json.Members) → Tested (elim o [ None ↦ Err faults.NotAnObject | Some ms ↦ read_members schema ms ])
    go None = refl
    go (Some ms) = members_tested schema ms

    looked : (deep : Bool) → Tested (if deep then Err faults.NotIndexable else read_object schema d)
    looked true = refl
    looked false = go (as_object d)

json_tested : (schema : Schema) (s : List ℕ) → Tested (read_json schema s)
json_tested schema s = go (read s)
  where
    go : (o : Option json.Data) → Tested (elim o [ None ↦ Err faults.NotAnObject | Some d ↦ read_data schema d ])
    go None = refl
    go (Some d) = data_tested schema d

indexable_tested : (schema : Schema) (r : Result Document Fault) → Tested r → Tested (if_indexable schema r)
indexable_tested schema (Ok doc) is = go (is_indexable schema doc)
  where
    go : (b : Bool) → Tested (if b then Ok doc else Err faults.NotIndexable)
    go true = tt
    go false = refl
indexable_tested schema (Err fault) is = is

given_tested : (schema : Schema) (doc : Document) → Tested (document_given schema doc)
given_tested schema doc = go (has_unknown_field schema doc)
  where
    go : (b : Bool) → Tested (if b then Err faults.UnknownField else if_indexable schema (Ok doc))
    go true = refl
    go false = indexable_tested schema (Ok doc) tt

-- ---- queries and terms

first_tested : (ts : List Test) → AllByRecursion (λ t. is_test t.1 ≡ true) ts → Named (first_fault ts)
first_tested [] are = tt
first_tested (t ∷ ts) are = go t.0 (first_tested ts are.1)
  where
    go : (failed : Bool) → Named (first_fault ts) → Named (if failed then Some t.1 else first_fault ts)
    go true later = are.0
    go false later = later

or_tested : (o p : Option Fault) → Named o → Named p → Named (option_or o p)
or_tested (Some fault) p first later = first
or_tested None p first later = later

-- the tests of a node, its score's last
abbrev node_tests : Schema → (List ℕ → ℕ) → ℕ → Query → List Test
node_tests schema weight b q = own_tests schema q ++ ((is_score_too_large weight b q, faults.ScoreTooLarge) ∷ [])

node_tested : (schema : Schema) (weight : List ℕ → ℕ) (b : ℕ) (q : Query) → Named (node_fault schema weight b q)
unfolding node_fault
node_tested schema weight b all = first_tested (node_tests schema weight b all) (refl, tt)
node_tested schema weight b empty = first_tested (node_tests schema weight b empty) (refl, tt)
node_tested schema weight b (term t option) = first_tested (node_tests schema weight b (term t option)) (refl, (refl, (refl, (refl, tt))))
node_tested schema weight b (phrase terms slop) = first_tested (node_tests schema weight b (phrase terms slop)) (refl, (refl, (refl, (refl, (refl, (refl, (refl, tt)))))))
node_tested schema weight b (phrase_prefix terms limit) = first_tested (node_tests schema weight b (phrase_prefix terms limit)) (refl, (refl, (refl, (refl, (refl, (refl, (refl, (refl, (refl, tt)))))))))
node_tested schema weight b (boolean cs least) = first_tested (node_tests schema weight b (boolean cs least)) (refl, tt)
node_tested schema weight b (disjunction_max qs tie) = first_tested (node_tests schema weight b (disjunction_max qs tie)) (refl, (refl, tt))
node_tested schema weight b (boost factor q) = first_tested (node_tests schema weight b (boost factor q)) (refl, tt)
node_tested schema weight b (const_score constant q) = first_tested (node_tests schema weight b (const_score constant q)) (refl, tt)

mutual
  tree_tested : (schema : Schema) (weight : List ℕ → ℕ) (b : ℕ) (q : Query) → Named (tree_fault schema weight b q)
  tree_tested schema weight b (boolean cs least) = or_tested (node_fault schema weight b (boolean cs least)) (clauses_fault schema weight b cs) (node_tested schema weight b (boolean cs least)) (clauses_tested schema weight b cs)
  tree_tested schema weight b (disjunction_max qs tie) = or_tested (node_fault schema weight b (disjunction_max qs tie)) (queries_fault schema weight b qs) (node_tested schema weight b (disjunction_max qs tie)) (queries_tested schema weight b qs)
  tree_tested schema weight b (boost factor q) = or_tested (node_fault schema weight b (boost factor q)) (tree_fault schema weight (b * natural factor) q) (node_tested schema weight b (boost factor q)) (tree_tested schema weight (b * natural factor) q)
  tree_tested schema weight b (const_score constant q) = or_tested (node_fault schema weight b (const_score constant q)) (tree_fault schema weight b q) (node_tested schema weight b (const_score constant q)) (tree_tested schema weight b q)
  tree_tested schema weight b all = node_tested schema weight b all
  tree_tested schema weight b empty = node_tested schema weight b empty
  tree_tested schema weight b (term t option) = node_tested schema weight b (term t option)
  tree_tested schema weight b (phrase terms slop) = node_tested schema weight b (phrase terms slop)
  tree_tested schema weight b (phrase_prefix terms limit) = node_tested schema weight b (phrase_prefix terms limit)

  clauses_tested : (schema : Schema) (weight : List ℕ → ℕ) (b : ℕ) (cs : Clauses) → Named (clauses_fault schema weight b cs)
  clauses_tested schema weight b no_clauses = tt
  clauses_tested schema weight b (clause occur q cs) = or_tested (tree_fault schema weight b q) (clauses_fault schema weight b cs) (tree_tested schema weight b q) (clauses_tested schema weight b cs)

  queries_tested : (schema : Schema) (weight : List ℕ → ℕ) (b : ℕ) (qs : Queries) → Named (queries_fault schema weight b qs)
  queries_tested schema weight b no_queries = tt
  queries_tested schema weight b (query q qs) = or_tested (tree_fault schema weight b q) (queries_fault schema weight b qs) (tree_tested schema weight b q) (queries_tested schema weight b qs)

query_tested : (schema : Schema) (weight : List ℕ → ℕ) (q : Query) → Named (refusal schema weight q)
query_tested schema weight q = go (nat_lt max_depth (depth q))
  where
    go : (b : Bool) → Named (if b then Some faults.TooDeep else tree_fault schema weight 1 q)
    go true = refl
    go false = tree_tested schema weight 1 q

-- ---- calls

err_tested : (r : Result Document Fault) → Tested r → Named (result_err r)
err_tested (Ok doc) is = tt
err_tested (Err fault) is = is

own_tested : (c : Configuration) (s : State) (call : Call) → Named (own_fault c s call)
own_tested c s (add_json text) = err_tested (document_json c.schema text) (indexable_tested c.schema (read_json c.schema text) (json_tested c.schema text))
own_tested c s (add_value d) = err_tested (document_value c.schema d) (indexable_tested c.schema (read_data c.schema d) (data_tested c.schema d))
own_tested c s (add_document doc) = err_tested (document_given c.schema doc) (given_tested c.schema doc)
own_tested c s (delete_term t) = first_tested ((is_unknown c.schema t, faults.UnknownField) ∷ (is_not_indexed c.schema t, faults.NotIndexed) ∷ []) (refl, (refl, tt))
own_tested c s commit_pending = tt
own_tested c s (merge_range from to) = go (is_bad_range from to s)
  where
    go : (b : Bool) → Named (if b then Some faults.BadRange else None)
    go true = refl
    go false = tt
own_tested c s (search_best q k) = query_tested c.schema c.similarity.weight q
own_tested c s (count_all q) = query_tested c.schema c.similarity.weight q

-- a call's own tests refuse by no failure and as no status does
pub own_is_test : (c : Configuration) (s : State) (call : Call) (fault : Fault) → own_fault c s call ≡ Some fault → is_test fault ≡ true
own_is_test c s call fault is = subst Named is (own_tested c s call)

no_failure : (failed other : Bool) → not (failed || other) ≡ true → failed ≡ false
no_failure false other is = refl
no_failure true other is = absurd (true≢false (sym is))

-- nothing that refuses a call is a failure
pub refused_by_no_failure : (c : Configuration) (x : Index) (call : Call) (fault : Fault) → call_fault c x call ≡ Some fault → is_failure fault ≡ false
refused_by_no_failure c x call fault is = at x.status is
  where
    some_same : (f g : Fault) → some f ≡ some g → f ≡ g
    some_same f g e = cc

    own : own_fault c x.state call ≡ Some fault → is_failure fault ≡ false
    own is = no_failure (is_failure fault) (is_of_status fault) (own_is_test c x.state call fault is)

    writes : (reads : Bool) → option_or (if reads then None else some faults.WriterClosed) (own_fault c x.state call) ≡ Some fault → is_failure fault ≡ false
    writes true is = own is
    writes false is = ap is_failure (sym (some_same faults.WriterClosed fault is))

    at : (status : Status) → option_or (status_fault status (only_reads call)) (own_fault c x.state call) ≡ Some fault → is_failure fault ≡ false
    at ready is = own is
    at writer_closed is = writes (only_reads call) is
    at closed is = ap is_failure (sym (some_same faults.Closed fault is))

-- only a closed writer refuses a call so, and it doesn't refuse what only reads
pub refused_by_closed_writer : (c : Configuration) (x : Index) (call : Call) → call_fault c x call ≡ Some faults.WriterClosed → (x.status ≡ writer_closed) × (only_reads call ≡ false)
refused_by_closed_writer c x call is = at x.status refl is
  where
    own : own_fault c x.state call ≡ Some faults.WriterClosed → ⊥
    own is = true≢false (sym (own_is_test c x.state call faults.WriterClosed is))

    writes : (reads : Bool) → option_or (if reads then None else some faults.WriterClosed) (own_fault c x.state call) ≡ Some faults.WriterClosed → reads ≡ false
    writes true is = absurd (own is)
    writes false is = refl

    at : (status : Status) → x.status ≡ status → option_or (status_fault status (only_reads call)) (own_fault c x.state call) ≡ Some faults.WriterClosed → (x.status ≡ writer_closed) × (only_reads call ≡ false)
    at ready stands is = absurd (own is)
    at writer_closed stands is = (stands, writes (only_reads call) is)
    at closed stands is = absurd (let same = is in cc)

-- a call that leaves the index as it was, or has a fault that no device has
pub taken_or_kept : (c : calls.Configuration) (x y : calls.Index) (call : calls.Call) (r : Result ⊤ Fault) → calls.Leaves c x call r y → (calls.call_fault c x call ≡ None) ⊎ ((fault : Fault) × (r ≡ Err fault) × (fault ≢ faults.Device))
taken_or_kept c x y call r (calls.Leaves.refused fault is) = inr (fault, refl, λ device. true≢false (sym (ap is_failure device) ∙ refused_by_no_failure c x call fault is))
taken_or_kept c x y call r (calls.Leaves.answered is) = inl is
taken_or_kept c x y call r (calls.Leaves.memory_refused open_ writes) = inr (faults.OutOfMemory, refl, λ device. cc)
taken_or_kept c x y call r (calls.Leaves.limit_refused is writes) = inl is
taken_or_kept c x y call r (calls.Leaves.half_written fault want is writes) = inl is
taken_or_kept c x y call r (calls.Leaves.device_failed is writes) = inl is
taken_or_kept c x y call r (calls.Leaves.slot_damaged is reads) = inl is

pub any_err : {T : Type 0} (r : Result T Fault) (P : Fault → Type 0) → ((fault : Fault) → P fault) → IfErr r P
any_err (Ok u) P h = tt
any_err (Err fault) P h = h fault
