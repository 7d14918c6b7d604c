use Rattle.std.proofs.Common.{◌<◌, ◌≡◌, List, Some, arith, length, nat_eq, rules, subst, sym, ℕ}
use Rattle.std.specs.Cmp.Lexicographic.{pointwise}
use Rattle.std.specs.HashMap.{UpdatesBy}
use Rattle.postings_writer.specs.PackedKeys.{IsMasked, IsShort, max_short}
use Rattle.postings_writer.proofs.FieldViews.{keys_put, updated_long, updated_short}
use Rattle.postings_writer.proofs.PackedKeys.{all_bytes}
use Rattle.postings_writer.proofs.field_postings.FieldPostings.insert.Goals as goal

pub invariant_of-self-then-key-le-MAX_SHORT_LEN : goal.invariant_of-self-then-key-le-MAX_SHORT_LEN
invariant_of-self-then-key-le-MAX_SHORT_LEN c =
    let put = c.in_ok-insert.ensures in
    (keys_put (IsMasked c.self.inside.mask) nat_eq c.self.inside.short c.insert.new.self c.masked.result c.args.recorder c.in_ok-insert.field-0 put.entries put.keys_stay c.self.invariant.0 c.masked.ensures.masked, c.self.invariant.1)

pub returns-then-key-le-MAX_SHORT_LEN : goal.returns-then-key-le-MAX_SHORT_LEN
returns-then-key-le-MAX_SHORT_LEN c =
    let key = c.args.key.now in
    let old = c.self.inside.short in
    let new = c.insert.new.self in
    let r = c.args.recorder in
    let put = c.in_ok-insert.ensures in
    let short : IsShort key = record { bytes = all_bytes key (λ i. omega (arith, c.type_inv.key i)); short = c.if-key-le-MAX_SHORT_LEN.true } in
    let all = keys_put (IsMasked c.self.inside.mask) nat_eq old new c.masked.result r c.in_ok-insert.field-0 put.entries put.keys_stay c.self.invariant.0 c.masked.ensures.masked in
    updated_short c.self.inside.mask old c.self.inside.long c.args.self.now record { masks = c.self.invariant.0; long_keys = c.self.invariant.1; view = c.self.view_is } key new r c.masked.ensures.masked.fits short all
    (subst (λ n. UpdatesBy nat_eq (nat_eq n) old new (Some r)) c.masked.ensures.is put.updates)

pub invariant_of-self-2 : goal.invariant_of-self-2
invariant_of-self-2 c =
    let put = c.in_ok-insert-2.ensures in
    let bytes : c.in_ok-to_vec.field-0.items ≡ c.args.key.now = search rules in
    let long : max_short < length c.args.key.now = (let isnt = c.if-key-le-MAX_SHORT_LEN.false in omega (arith, isnt)) in
    (c.self.invariant.0, keys_put (λ k. max_short < length k.items) (λ x y. pointwise nat_eq x.items y.items) c.self.inside.long c.insert-2.new.self c.in_ok-to_vec.field-0 c.args.recorder c.in_ok-insert-2.field-0 put.entries put.keys_stay c.self.invariant.1 (subst (λ (k : List ℕ). max_short < length k) (sym bytes) long))

pub returns : goal.returns
returns c =
    let key = c.args.key.now in
    let old = c.self.inside.long in
    let new = c.insert-2.new.self in
    let r = c.args.recorder in
    let bytes : c.in_ok-to_vec.field-0.items ≡ key = search rules in
    let long : max_short < length key = (let isnt = c.if-key-le-MAX_SHORT_LEN.false in omega (arith, isnt)) in
    let P : List ℕ → Type 0 = λ k. UpdatesBy (λ x y. pointwise nat_eq x.items y.items) (λ y. pointwise nat_eq k y.items) old new (Some r) in
    updated_long c.self.inside.mask c.self.inside.short old c.args.self.now record { masks = c.self.invariant.0; long_keys = c.self.invariant.1; view = c.self.view_is } key new r long (subst P bytes c.in_ok-insert-2.ensures.updates)
