use Rattle.std.proofs.Common.{[], Bool, List, ap, arith, get_or, length, map, refl, rules, subst, sym, take, ◌+◌, ◌++◌, ◌<◌, ◌≡◌, ◌≤◌, ◌∙◌, ◌∷◌, ◌^◌, ℕ}
use Rattle.std.proofs.lemmas.List.{get_or-map, length-map, map-append, take_all, take_more}
use Rattle.std.proofs.lemmas.Result.{err_from_is_err_and}
use Rattle.segment_reader.proofs.FieldsLoop.{Reading, all_read, any_kind, no_end, no_more, nothing_read, one_more, some_byte}
use Rattle.segment_reader.proofs.HeadersTaken.{FieldThere}
use Rattle.segment_reader.specs.TermPlaces.{fields_start}
use Rattle.segment_reader.specs.declared.field_index.FieldIndex.{FieldIndex}
use Rattle.segment_reader.specs.declared.field_kind.FieldKind.{FieldKind}
use Rattle.front_coding.specs.declared.term_starts.TermStart.{TermStart}
use Rattle.segment_reader.proofs.section_read.take_fields.Goals as goal

abbrev numbers : List FieldKind → List ℕ
numbers kinds = map (λ (k : FieldKind). k.field) kinds

abbrev kind_in : FieldIndex → FieldKind
kind_in i = i.kind

more_numbers : (kinds : List FieldKind) (i : ℕ) → i < length kinds → i < length (numbers kinds)
more_numbers kinds i more = (let long = length-map kinds (λ (k : FieldKind). k.field) in omega (arith, more, long))

past_numbers : (kinds : List FieldKind) (i : ℕ) → length kinds ≤ i → length (numbers kinds) ≤ i
past_numbers kinds i past = (let long = length-map kinds (λ (k : FieldKind). k.field) in omega (arith, past, long))

more_read : (which : Bool) (section : List ℕ) (p q : ℕ) (kinds : List FieldKind) (i : ℕ) (told now : List FieldIndex) (start end : TermStart) (index : FieldIndex) (d : FieldKind) → now ≡ told ++ index ∷ [] → index.kind ≡ get_or kinds i d → (get_or kinds i d).field < 2 ^ 32 → length section < 2 ^ 63 → i < length kinds → Reading which section p q (numbers kinds) i told start × (map kind_in told ≡ take i kinds) → FieldThere which section start p q index.kind.field index.num_tokens index.shape index.starts.items end → Reading which section p q (numbers kinds) (i + 1) now end × (map kind_in now ≡ take (i + 1) kinds)
more_read which section p q kinds i told now start end index d is kind small short more reading there =
    let at : get_or (numbers kinds) i 0 ≡ index.kind.field = get_or-map (λ (k : FieldKind). k.field) kinds i d 0 more ∙ sym (ap (λ (k : FieldKind). k.field) kind) in
    let few : get_or (numbers kinds) i 0 < 2 ^ 32 = omega (arith, small, get_or-map (λ (k : FieldKind). k.field) kinds i d 0 more) in
    let next = one_more which section p q (numbers kinds) i told start end index short (more_numbers kinds i more) few (sym at) reading.0 (subst (λ n. FieldThere which section start p q n index.num_tokens index.shape index.starts.items end) (sym at) there) in
    (subst (λ xs. Reading which section p q (numbers kinds) (i + 1) xs end) (sym is) next, ap (map kind_in) is ∙ map-append kind_in told (index ∷ []) ∙ ap (λ xs. xs ++ index.kind ∷ []) reading.1 ∙ ap (λ k. take i kinds ++ k ∷ []) kind ∙ sym (take_more kinds i d more))

pub returns-in_err-front_coded-clause-err : goal.returns-in_err-front_coded-clause-err
returns-in_err-front_coded-clause-err c =
    let p = err_from_is_err_and c.from_residual.result c.from_residual.ensures.1 in
    let refused = c.in_err-front_coded.ensures.err in
    rw (p.1, p.2) (λ other. (refused.0, λ kind fs whole. refused.1 kind whole.kind))

pub loop-kind-init : goal.loop-kind-init
loop-kind-init c =
    let kind = c.in_ok-front_coded.ensures.ok in
    let none : c.new-told.result.items ≡ [] = c.new-told.ensures.items in
    (subst (λ (told : List FieldIndex). Reading c.in_ok-front_coded.front_coded c.args.section.now c.args.lengths.postings c.args.lengths.positions (numbers c.args.kinds.now) 0 told fields_start) (sym none) (nothing_read c.in_ok-front_coded.front_coded c.args.section.now c.args.lengths.postings c.args.lengths.positions (numbers c.args.kinds.now) (some_byte c.in_ok-front_coded.front_coded c.args.section.now kind)), ap (map kind_in) none)

pub take_field-requires-clause-entry : goal.take_field-requires-clause-entry
take_field-requires-clause-entry c = c.loop-kind.invariant.0.entry

pub take_field-requires-clause-postings : goal.take_field-requires-clause-postings
take_field-requires-clause-postings c = c.loop-kind.invariant.0.postings

pub take_field-requires-clause-positions : goal.take_field-requires-clause-positions
take_field-requires-clause-positions c = c.loop-kind.invariant.0.positions

pub returns-in_err-num_tokens-clause-err : goal.returns-in_err-num_tokens-clause-err
returns-in_err-num_tokens-clause-err c =
    let kinds = c.args.kinds.now in
    let p = err_from_is_err_and c.from_residual-in_err-num_tokens.result c.from_residual-in_err-num_tokens.ensures.1 in
    let at = get_or-map (λ (k : FieldKind). k.field) kinds c.loop-kind.kind-index _ 0 c.loop-kind-test.true in
    rw (p.1, p.2) (λ other. let refused = c.in_err-num_tokens.ensures.err other in (refused.0, any_kind c.in_ok-front_coded.front_coded c.args.section.now c.args.lengths.postings c.args.lengths.positions (numbers kinds) c.in_ok-front_coded.ensures.ok (no_more c.in_ok-front_coded.front_coded c.args.section.now c.args.lengths.postings c.args.lengths.positions (numbers kinds) c.loop-kind.kind-index c.loop-kind.told.items c.loop-kind.start (more_numbers kinds c.loop-kind.kind-index c.loop-kind-test.true) c.loop-kind.invariant.0 (λ f rest is. refused.1 f rest (is ∙ at)))))

pub loop-kind-preserved : goal.loop-kind-preserved
loop-kind-preserved c =
    let read = c.in_ok-num_tokens.ensures.ok in
    more_read c.in_ok-front_coded.front_coded c.args.section.now c.args.lengths.postings c.args.lengths.positions c.args.kinds.now c.loop-kind.kind-index c.loop-kind.told.items c.push.new.self.items c.loop-kind.start c.in_ok-num_tokens.end _ _ c.in_ok-push.ensures.items refl (omega arith) (omega arith) c.loop-kind-test.true c.loop-kind.invariant (record { told = read.0; field_is = read.1; tokens_are = read.2; read = read.3; shape_is = read.4; starts_are = read.5 })

pub returns-then-not-is_end-clause-err : goal.returns-then-not-is_end-clause-err
returns-then-not-is_end-clause-err c =
    let kinds = c.args.kinds.now in
    let past : length kinds ≤ c.loop-kind.kind-index = omega arith in
    let other : c.loop-kind.start ≡ record { entry = length c.args.section.now; postings = c.args.lengths.postings; positions = c.args.lengths.positions } → ⊥ = λ is. search (rules, is) in
    λ unlike. (refl, any_kind c.in_ok-front_coded.front_coded c.args.section.now c.args.lengths.postings c.args.lengths.positions (numbers kinds) c.in_ok-front_coded.ensures.ok (no_end c.in_ok-front_coded.front_coded c.args.section.now c.args.lengths.postings c.args.lengths.positions (numbers kinds) c.loop-kind.kind-index c.loop-kind.told.items c.loop-kind.start (past_numbers kinds c.loop-kind.kind-index past) c.loop-kind.invariant.0 other))

pub returns-clause-ok : goal.returns-clause-ok
returns-clause-ok c =
    let kinds = c.args.kinds.now in
    let kind = c.in_ok-front_coded.ensures.ok in
    let past : length kinds ≤ c.loop-kind.kind-index = omega arith in
    let end : c.loop-kind.start ≡ record { entry = length c.args.section.now; postings = c.args.lengths.postings; positions = c.args.lengths.positions } = search rules in
    let reading = c.loop-kind.invariant.0 in
    (c.in_ok-front_coded.front_coded, reading.done, all_read c.in_ok-front_coded.front_coded c.args.section.now c.args.lengths.postings c.args.lengths.positions (numbers kinds) c.loop-kind.kind-index c.loop-kind.told.items c.loop-kind.start kind (past_numbers kinds c.loop-kind.kind-index past) reading end, reading.told_are)

pub returns-clause-kinds : goal.returns-clause-kinds
returns-clause-kinds c =
    let past : length c.args.kinds.now ≤ c.loop-kind.kind-index = omega arith in
    c.loop-kind.invariant.1 ∙ take_all c.loop-kind.kind-index c.args.kinds.now past
