use Rattle.std.proofs.Common.{Bor, IfSome, List, Option, Some, ap, ap₂, cond, drop, length, option_map, refl, slice_get, subst, sym, ◌≡◌, ◌≤◌, ◌∙◌, ℕ}
use Rattle.std.proofs.Math.Logic.{∥∥₁_map}
use Rattle.std.proofs.lemmas.Result.{err_from_is_err_and}
use Rattle.definitions.specs.Schema.{basic}
use Rattle.merging.proofs.TermsMerged.{AreSoFar, all_so_far, begin_so_far, first_of, more_so_far, no_first, term_refused}
use Rattle.merging.specs.Members.{merged_in}
use Rattle.merging.specs.MergedTerm.{IsMergedTerm, IsTermRefusal}
use Rattle.merging.specs.MergedTerms.{told_in}
use Rattle.merging.specs.Walking.{Merger}
use Rattle.postings_writer.specs.Sections.{option_in}
use Rattle.terms.specs.Kinds.{kind_of}
use Rattle.merging.proofs.field_terms.merge_terms.Goals as goal

pub loop-key-init : goal.loop-key-init
loop-key-init c = record { so_far = λ schema num_docs all are. begin_so_far (kind_of c.args.kind) c.args.serializer.now (told_in c.args.field c.args.terms.keys c.args.members.now all) c.requires.nothing; members = refl }

pub merge_term-requires-clause-known : goal.merge_term-requires-clause-known
merge_term-requires-clause-known c = ∥∥₁_map c.requires.known (λ k. (k.0, k.1, k.2, k.3, k.4, subst (λ (o : Option (List ℕ)). IfSome o (λ ids. k.1 ≤ length ids)) (sym (c.loop-key.invariant.so_far k.0 k.1 k.2 k.3).added.same.2) k.5))

pub returns-in_err-merge_term-clause-err : goal.returns-in_err-merge_term-clause-err
returns-in_err-merge_term-clause-err c schema num_docs all are =
    let kind = kind_of c.args.kind in
    let was = c.args.serializer.now in
    let now = c.loop-key.serializer in
    let key = c.in-Some.key.now in
    let ms = c.args.members.now in
    let first : slice_get c.loop-key.terms.keys 0 ≡ Some key = sym c.key.ensures ∙ ap (option_map (λ (k : Bor (List ℕ)). k.now)) c.in-Some.is in
    let whole = told_in c.args.field c.args.terms.keys ms all in
    let before = subst (λ ks. AreSoFar kind was now (told_in c.args.field ks ms all) whole) (first_of c.loop-key.terms.keys key first) (c.loop-key.invariant.so_far schema num_docs all are) in
    let option : cond c.is_text_value-is_text.result now.writing.mode basic ≡ option_in kind was.writing.mode key = ap₂ (λ b m. cond b m basic) c.is_text_value-is_text.ensures before.added.same.1 in
    let p = err_from_is_err_and c.from_residual.result c.from_residual.ensures.1 in
    rw (p.1, p.2) (term_refused c.in_err-merge_term.field-0.0 kind was now (told_in c.args.field (drop 1 c.loop-key.terms.keys) ms all) whole key (merged_in c.args.field key ms all) before
    (subst (λ o. IsTermRefusal c.in_err-merge_term.field-0.0 now o (merged_in c.args.field key ms all)) option (c.in_err-merge_term.ensures.err schema num_docs all key are first)))

pub loop-key-preserved : goal.loop-key-preserved
loop-key-preserved c =
    let kind = kind_of c.args.kind in
    let was = c.args.serializer.now in
    let now = c.loop-key.serializer in
    let new = c.merge_term.new.serializer in
    let key = c.in-Some.key.now in
    let ms = c.args.members.now in
    let first : slice_get c.loop-key.terms.keys 0 ≡ Some key = sym c.key.ensures ∙ ap (option_map (λ (k : Bor (List ℕ)). k.now)) c.in-Some.is in
    record {
      so_far = λ schema num_docs all are.
          (let whole = told_in c.args.field c.args.terms.keys ms all in
          let before = subst (λ ks. AreSoFar kind was now (told_in c.args.field ks ms all) whole) (first_of c.loop-key.terms.keys key first) (c.loop-key.invariant.so_far schema num_docs all are) in
          let option : cond c.is_text_value-is_text.result now.writing.mode basic ≡ option_in kind was.writing.mode key = ap₂ (λ b m. cond b m basic) c.is_text_value-is_text.ensures before.added.same.1 in
          let done = subst (λ o. IsMergedTerm now new key o (merged_in c.args.field key ms all)) option (c.in_ok-merge_term.ensures.ok schema num_docs all key are first) in
          subst (λ ks. AreSoFar kind was new (told_in c.args.field ks ms all) whole) (sym (ap (λ (m : Merger). m.keys) c.advance.ensures))
          (more_so_far kind was now new (told_in c.args.field (drop 1 c.loop-key.terms.keys) ms all) whole key (merged_in c.args.field key ms all) before done));
      members = ap (λ (m : Merger). m.members) c.advance.ensures ∙ c.loop-key.invariant.members;
    }

pub returns-clause-ok : goal.returns-clause-ok
returns-clause-ok c schema num_docs all are =
    let kind = kind_of c.args.kind in
    let ms = c.args.members.now in
    let none = no_first c.loop-key.terms.keys (sym c.key.ensures ∙ ap (option_map (λ (k : Bor (List ℕ)). k.now)) c.in_default.is) in
    let whole = told_in c.args.field c.args.terms.keys ms all in
    all_so_far kind c.args.serializer.now c.loop-key.serializer whole (subst (λ ks. AreSoFar kind c.args.serializer.now c.loop-key.serializer (told_in c.args.field ks ms all) whole) none (c.loop-key.invariant.so_far schema num_docs all are))
