use Rattle.std.proofs.Common.{Bor, ap, length, option_map, subst, sym, ◌++◌, ◌<◌, ◌≡◌, ◌∙◌}
use Rattle.std.specs.Result.{IfErr, IfOk, OnOk}
use Rattle.std.proofs.Math.Logic.{∥∥₁_elim, ∥∥₁_map}
use Rattle.std.proofs.Props.{props}
use Rattle.std.specs.List.{AllByRecursion-prop}
use Rattle.docsets.specs.Entries.{Entry}
use Rattle.segment_reader.specs.Readers.{postings_in}
use Rattle.segment_reader.specs.declared.term_info.TermInfo.{TermInfo}
use Rattle.merging.proofs.MemberPostings.{contents_of, counts_held, entries_counted, living_entries, none_from, none_held, nothing_written}
use Rattle.merging.specs.Members.{living_of}
use Rattle.merging.specs.Living.{has_some}
use Rattle.merging.specs.Written.{AreWritten, counts_in}
use Rattle.merging.proofs.member.Member.write_postings.Goals as goal
use Rattle.postings_writer.specs.TermWriting.{IsSumRefusal}

pub returns-in_default-clause-ok : goal.returns-in_default-clause-ok
returns-in_default-clause-ok c schema fields is =
    let none = sym (sym (ap (option_map (λ (i : Bor TermInfo). i.now)) c.in_default.is) ∙ c.requires.info) in
    subst (λ ps. AreWritten c.args.serializer.now c.args.serializer.now (living_of c.args.self.now.doc_ids ps)) (sym (none_held schema c.args.self.now fields c.args.field c.args.key.now is none)) (nothing_written c.args.serializer.now)

pub returns-in_default-clause-some : goal.returns-in_default-clause-some
returns-in_default-clause-some c schema fields is =
    let none = sym (sym (ap (option_map (λ (i : Bor TermInfo). i.now)) c.in_default.is) ∙ c.requires.info) in
    sym (ap (λ ps. has_some (living_of c.args.self.now.doc_ids ps)) (none_held schema c.args.self.now fields c.args.field c.args.key.now is none))

pub write_postings-requires-clause-within : goal.write_postings-requires-clause-within
write_postings-requires-clause-within c = none_from (length c.args.self.now.doc_ids.flags) _ (∥∥₁_map c.requires.known (λ k. (c.read_postings_from_terminfo-postings.ensures.ok (contents_of k.0 c.args.self.now k.1 k.2)).within))

pub write_postings-requires-clause-counted : goal.write_postings-requires-clause-counted
write_postings-requires-clause-counted c = ∥∥₁_elim c.requires.known (AllByRecursion-prop (λ (e : Entry). 0 < e.count) (λ e. hlevel props) _)
    (λ k. entries_counted _ (postings_in k.1 c.args.field c.args.key.now) (c.read_postings_from_terminfo-postings.ensures.ok (contents_of k.0 c.args.self.now k.1 k.2)).entries (counts_held k.0 c.args.self.now k.1 c.args.field c.args.key.now k.2))

pub returns-clause-ok : goal.returns-clause-ok
returns-clause-ok c schema fields is =
    let told = living_entries c.args.self.now.doc_ids _ (postings_in fields c.args.field c.args.key.now) (c.read_postings_from_terminfo-postings.ensures.ok (contents_of schema c.args.self.now fields is)).entries in
    subst (λ ps. OnOk c.write_postings.result (AreWritten c.args.serializer.now c.write_postings.new.serializer ps)) told c.write_postings.ensures.ok

pub returns-clause-some : goal.returns-clause-some
returns-clause-some c schema fields is =
    let told = living_entries c.args.self.now.doc_ids _ (postings_in fields c.args.field c.args.key.now) (c.read_postings_from_terminfo-postings.ensures.ok (contents_of schema c.args.self.now fields is)).entries in
    subst (λ ps. IfOk c.write_postings.result (λ some. some ≡ has_some ps)) told c.write_postings.ensures.some

pub returns-clause-err : goal.returns-clause-err
returns-clause-err c schema fields docs counts numbers is opened =
    let told = living_entries c.args.self.now.doc_ids _ (postings_in fields c.args.field c.args.key.now) (c.read_postings_from_terminfo-postings.ensures.ok (contents_of schema c.args.self.now fields is)).entries in
    subst (λ ps. IfErr c.write_postings.result (λ fault. IsSumRefusal fault (counts ++ counts_in c.args.serializer.now ps))) told (c.write_postings.ensures.err docs counts numbers opened)
