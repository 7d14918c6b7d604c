use Rattle.std.proofs.Common.{◌++◌, ◌∙◌, Some, ap, arith, map, nat_eq, rules, subst, sym, ℕ}
use Rattle.std.specs.HashMap.{HashMap, UpdatesBy, get_by}
use Rattle.std.specs.List.{AllByRecursion}
use Rattle.std.specs.declared.hash.BuildHasherDefault.{BuildHasherDefault}
use Rattle.std.specs.declared.hash.FoldHasher.{FoldHasher}
use Rattle.postings_writer.specs.Fields.{HasRecorders, Terms, option_of_key}
use Rattle.postings_writer.specs.PackedKeys.{IsMasked, IsShort}
use Rattle.postings_writer.specs.declared.recorder.Recorder.{Recorder}
use Rattle.postings_writer.proofs.FieldViews.{AreMaps, found_short, updated_short}
use Rattle.postings_writer.proofs.KeptRecorders.{has_recorders-updated, recorder_is, recorder_none}
use Rattle.postings_writer.proofs.PackedKeys.{all_bytes}
use Rattle.postings_writer.proofs.WrittenPostings.{on_ok_both}
use Rattle.postings_writer.proofs.field_postings.FieldPostings.record.Goals as goal

pub returns-in-Some-clause-ok : goal.returns-in-Some-clause-ok
returns-in-Some-clause-ok c occurrences has =
    let key = c.args.key.now in
    let option = option_of_key c.args.entry.now key in
    let old = c.self.inside.short in
    let long = c.self.inside.long in
    let short : IsShort key = record { bytes = all_bytes key (λ i. omega (arith, c.type_inv.key i)); short = (let isnt = c.if-key-gt-MAX_SHORT_LEN.false in omega (arith, isnt)) } in
    let maps : AreMaps c.self.inside.mask old long c.args.self.now = record { masks = c.self.invariant.0; long_keys = c.self.invariant.1; view = c.self.view_is } in
    let found = ap (λ n. get_by (nat_eq n) old) c.masked.ensures.is ∙ found_short c.self.inside.mask old long c.args.self.now maps key short ∙ has.recorders key in
    let is = recorder_is option (occurrences key) c.in-Some.recorder.now (sym found ∙ sym c.in-Some.ensures.value) in
    let new = c.get_mut.follows.lender c.record.new.self in
    let holds = c.get_mut.follows.holds c.record.new.self in
    let news = subst (AllByRecursion (IsMasked c.self.inside.mask)) (sym holds.1) c.self.invariant.0 in
    let up = subst (λ n. UpdatesBy nat_eq (nat_eq n) old new (Some c.record.new.self)) c.masked.ensures.is (holds.3 (search rules)) in
    on_ok_both c.record.result (λ more within. has_recorders-updated c.args.entry.now c.args.self.now _ occurrences key (c.args.doc, c.args.position) c.record.new.self has more within (updated_short c.self.inside.mask old long c.args.self.now maps key new c.record.new.self c.masked.ensures.masked.fits short news up)) (c.record.ensures.ok option (occurrences key) is) (c.record.ensures.within option (occurrences key) is)

pub returns-in-Some-clause-err : goal.returns-in-Some-clause-err
returns-in-Some-clause-err c occurrences has =
    let key = c.args.key.now in
    let option = option_of_key c.args.entry.now key in
    let short : IsShort key = record { bytes = all_bytes key (λ i. omega (arith, c.type_inv.key i)); short = (let isnt = c.if-key-gt-MAX_SHORT_LEN.false in omega (arith, isnt)) } in
    let maps : AreMaps c.self.inside.mask c.self.inside.short c.self.inside.long c.args.self.now = record { masks = c.self.invariant.0; long_keys = c.self.invariant.1; view = c.self.view_is } in
    let found = ap (λ n. get_by (nat_eq n) c.self.inside.short) c.masked.ensures.is ∙ found_short c.self.inside.mask c.self.inside.short c.self.inside.long c.args.self.now maps key short ∙ has.recorders key in
    c.record.ensures.err option (occurrences key) (recorder_is option (occurrences key) c.in-Some.recorder.now (sym found ∙ sym c.in-Some.ensures.value))

pub returns-in-None-clause-ok : goal.returns-in-None-clause-ok
returns-in-None-clause-ok c occurrences has =
    let key = c.args.key.now in
    let option = option_of_key c.args.entry.now key in
    let long = c.self.inside.long in
    let short : IsShort key = record { bytes = all_bytes key (λ i. omega (arith, c.type_inv.key i)); short = (let isnt = c.if-key-gt-MAX_SHORT_LEN.false in omega (arith, isnt)) } in
    let maps : AreMaps c.self.inside.mask c.self.inside.short long c.args.self.now = record { masks = c.self.invariant.0; long_keys = c.self.invariant.1; view = c.self.view_is } in
    let found = ap (λ n. get_by (nat_eq n) c.self.inside.short) c.masked.ensures.is ∙ found_short c.self.inside.mask c.self.inside.short long c.args.self.now maps key short ∙ has.recorders key in
    let view = ap (λ (m : HashMap ℕ Recorder (BuildHasherDefault FoldHasher)). map (λ x. (Rattle.postings_writer.specs.PackedKeys.unpacked c.self.inside.mask x.0, x.1)) m.entries ++ map (λ x. (x.0.items, x.1)) long.entries) c.get_mut.follows.holds-at-none ∙ c.self.view_is in
    let P : Terms → Type 0 = λ terms. HasRecorders c.args.entry.now occurrences terms in
    c.begin.ensures.ok occurrences (subst P (sym view) has) (recorder_none option (occurrences key) (sym found ∙ sym c.in-None.ensures.value))
