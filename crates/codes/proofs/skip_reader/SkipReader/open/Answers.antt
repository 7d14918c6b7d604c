use Rattle.std.proofs.Common.{List, ap, arith, false, refl, rules, subst, sym, true, ◌/◌, ◌≡◌, ◌∙◌}
use Rattle.std.proofs.lemmas.Grind.{merely}
use Rattle.codes.proofs.SkipLaws.{skips_are, skips_checked}
use Rattle.codes.specs.SkipBlocks.{are_skips, begun, entries_of, take_entries}
use Rattle.layouts.specs.SkipEntries.{AreSkips, SkipEntry}
use Rattle.codes.proofs.skip_reader.SkipReader.open.Goals as goal

pub returns-then-not-are_skips-clause-err : goal.returns-then-not-are_skips-clause-err
returns-then-not-are_skips-clause-err c =
    let no : are_skips c.args.recorded.counts c.args.recorded.positions (c.args.doc_freq / 128) 0 c.args.bytes.now ≡ false = search rules in
    (refl, λ entries skips. (let apart : true ≡ false = sym (skips_checked c.args.recorded.counts c.args.recorded.positions (c.args.doc_freq / 128) c.args.bytes.now entries skips) ∙ no in absurd cc))

pub new-requires : goal.new-requires
new-requires c =
    let yes : are_skips c.args.recorded.counts c.args.recorded.positions (c.args.doc_freq / 128) 0 c.args.bytes.now ≡ true = search rules in
    merely (entries_of (take_entries c.args.recorded.counts c.args.recorded.positions (c.args.doc_freq / 128) c.args.bytes.now), skips_are c.args.recorded.counts c.args.recorded.positions (c.args.doc_freq / 128) c.args.bytes.now (λ i. omega (arith, c.type_inv.bytes i)) yes)

pub returns-clause-ok : goal.returns-clause-ok
returns-clause-ok c =
    let yes : are_skips c.args.recorded.counts c.args.recorded.positions (c.args.doc_freq / 128) 0 c.args.bytes.now ≡ true = search rules in
    let entries = entries_of (take_entries c.args.recorded.counts c.args.recorded.positions (c.args.doc_freq / 128) c.args.bytes.now) in
    let skips = skips_are c.args.recorded.counts c.args.recorded.positions (c.args.doc_freq / 128) c.args.bytes.now (λ i. omega (arith, c.type_inv.bytes i)) yes in
    let is : c.new.result ≡ begun c.args.recorded.counts c.args.recorded.positions c.args.doc_freq entries = c.new.ensures entries skips in
    let left : c.new.result.left ≡ entries = ap (λ s. s.left) is in
    let P : List SkipEntry → Type 0 = λ es. AreSkips c.args.recorded.counts c.args.recorded.positions (c.args.doc_freq / 128) c.args.bytes.now es in
    (subst P (sym left) skips, is ∙ ap (λ es. begun c.args.recorded.counts c.args.recorded.positions c.args.doc_freq es) (sym left))

pub returns-clause-one : goal.returns-clause-one
returns-clause-one c = λ entries skips. sym (ap (λ s. s.left) (c.new.ensures entries skips))
