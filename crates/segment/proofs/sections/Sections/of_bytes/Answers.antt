use Rattle.std.proofs.Common.{[], ◌∷◌, List, Some, ap, arith, length, refl, rules, subst, ◌<◌, ◌≡◌, ◌≢◌, ◌≤◌, ◌∙◌, ◌^◌, ℕ}
use Rattle.std.proofs.lemmas.Bool.Decides.{nat_tests}
use Rattle.std.proofs.lemmas.Result.{err_from_is_err_and}
use Rattle.definitions.proofs.Lists.{no_numbers as nothing_more}
use Rattle.definitions.specs.NumberCodes.{AreBytes, take_u32}
use Rattle.layouts.specs.Stores.{max_docs}
use Rattle.segment.proofs.SectionsBack.{all_five, begun, no_end, no_number, no_sections, none_behind, none_first, written_so}
use Rattle.segment.proofs.sections.Sections.of_bytes.Goals as goal

pub returns-in_err-num_docs-clause-err : goal.returns-in_err-num_docs-clause-err
returns-in_err-num_docs-clause-err c =
    let p = err_from_is_err_and c.from_residual.result c.from_residual.ensures.1 in
    let e = c.in_err-num_docs.ensures.err in
    rw (p.1, p.2) (λ other. (e.0, no_number c.args.bytes (subst (λ (bs : List ℕ). (n : ℕ) (rest : List ℕ) → take_u32 bs ≡ Some (n, rest) → 0 < n → ¬ (n ≤ max_docs)) c.as_slice.ensures e.1)))

pub returns-in_err-terms-clause-err : goal.returns-in_err-terms-clause-err
returns-in_err-terms-clause-err c =
    let p = err_from_is_err_and c.from_residual-in_err-terms.result c.from_residual-in_err-terms.ensures.1 in
    let n = c.in_ok-num_docs.ensures in
    let number = begun c.args.bytes c.as_slice.result.now n.ok.0 c.advance.new.self c.in_ok-num_docs.num_docs c.as_slice.ensures n.bytes n.ok.1 c.advance.ensures in
    rw (p.1, p.2) (λ other.
    let e = c.in_err-terms.ensures.err other in
    (e.0, no_sections c.args.bytes c.advance.new.self c.in_ok-num_docs.num_docs number (none_first 4 c.advance.new.self e.1)))

pub returns-in_err-postings-clause-err : goal.returns-in_err-postings-clause-err
returns-in_err-postings-clause-err c =
    let p = err_from_is_err_and c.from_residual-in_err-postings.result c.from_residual-in_err-postings.ensures.1 in
    let n = c.in_ok-num_docs.ensures in
    let number = begun c.args.bytes c.as_slice.result.now n.ok.0 c.advance.new.self c.in_ok-num_docs.num_docs c.as_slice.ensures n.bytes n.ok.1 c.advance.ensures in
    rw (p.1, p.2) (λ other.
    let e = c.in_err-postings.ensures.err other in
    (e.0, no_sections c.args.bytes c.advance.new.self c.in_ok-num_docs.num_docs number (none_behind 4 c.advance.new.self c.take_section.new.rest c.in_ok-terms.terms c.in_ok-terms.ensures.ok (none_first 3 c.take_section.new.rest e.1))))

pub returns-in_err-positions-clause-err : goal.returns-in_err-positions-clause-err
returns-in_err-positions-clause-err c =
    let p = err_from_is_err_and c.from_residual-in_err-positions.result c.from_residual-in_err-positions.ensures.1 in
    let n = c.in_ok-num_docs.ensures in
    let number = begun c.args.bytes c.as_slice.result.now n.ok.0 c.advance.new.self c.in_ok-num_docs.num_docs c.as_slice.ensures n.bytes n.ok.1 c.advance.ensures in
    rw (p.1, p.2) (λ other.
    let e = c.in_err-positions.ensures.err other in
    (e.0, no_sections c.args.bytes c.advance.new.self c.in_ok-num_docs.num_docs number (none_behind 4 c.advance.new.self c.take_section.new.rest c.in_ok-terms.terms c.in_ok-terms.ensures.ok (none_behind 3 c.take_section.new.rest c.take_section-2.new.rest c.in_ok-postings.postings c.in_ok-postings.ensures.ok (none_first 2 c.take_section-2.new.rest e.1)))))

pub returns-in_err-norms-clause-err : goal.returns-in_err-norms-clause-err
returns-in_err-norms-clause-err c =
    let p = err_from_is_err_and c.from_residual-in_err-norms.result c.from_residual-in_err-norms.ensures.1 in
    let n = c.in_ok-num_docs.ensures in
    let number = begun c.args.bytes c.as_slice.result.now n.ok.0 c.advance.new.self c.in_ok-num_docs.num_docs c.as_slice.ensures n.bytes n.ok.1 c.advance.ensures in
    rw (p.1, p.2) (λ other.
    let e = c.in_err-norms.ensures.err other in
    (e.0, no_sections c.args.bytes c.advance.new.self c.in_ok-num_docs.num_docs number (none_behind 4 c.advance.new.self c.take_section.new.rest c.in_ok-terms.terms c.in_ok-terms.ensures.ok (none_behind 3 c.take_section.new.rest c.take_section-2.new.rest c.in_ok-postings.postings c.in_ok-postings.ensures.ok (none_behind 2 c.take_section-2.new.rest c.take_section-3.new.rest c.in_ok-positions.positions c.in_ok-positions.ensures.ok (none_first 1 c.take_section-3.new.rest e.1))))))

pub returns-in_err-store-clause-err : goal.returns-in_err-store-clause-err
returns-in_err-store-clause-err c =
    let p = err_from_is_err_and c.from_residual-in_err-store.result c.from_residual-in_err-store.ensures.1 in
    let n = c.in_ok-num_docs.ensures in
    let number = begun c.args.bytes c.as_slice.result.now n.ok.0 c.advance.new.self c.in_ok-num_docs.num_docs c.as_slice.ensures n.bytes n.ok.1 c.advance.ensures in
    rw (p.1, p.2) (λ other.
    let e = c.in_err-store.ensures.err other in
    (e.0, no_sections c.args.bytes c.advance.new.self c.in_ok-num_docs.num_docs number (none_behind 4 c.advance.new.self c.take_section.new.rest c.in_ok-terms.terms c.in_ok-terms.ensures.ok (none_behind 3 c.take_section.new.rest c.take_section-2.new.rest c.in_ok-postings.postings c.in_ok-postings.ensures.ok (none_behind 2 c.take_section-2.new.rest c.take_section-3.new.rest c.in_ok-positions.positions c.in_ok-positions.ensures.ok (none_behind 1 c.take_section-3.new.rest c.take_section-4.new.rest c.in_ok-norms.norms c.in_ok-norms.ensures.ok (none_first 0 c.take_section-4.new.rest e.1)))))))

pub returns-then-not-is_empty-clause-err : goal.returns-then-not-is_empty-clause-err
returns-then-not-is_empty-clause-err c =
    let n = c.in_ok-num_docs.ensures in
    let number = begun c.args.bytes c.as_slice.result.now n.ok.0 c.advance.new.self c.in_ok-num_docs.num_docs c.as_slice.ensures n.bytes n.ok.1 c.advance.ensures in
    let found = all_five c.advance.new.self c.take_section.new.rest c.take_section-2.new.rest c.take_section-3.new.rest c.take_section-4.new.rest c.take_section-5.new.rest c.in_ok-terms.terms c.in_ok-postings.postings c.in_ok-positions.positions c.in_ok-norms.norms c.in_ok-store.store c.in_ok-terms.ensures.ok c.in_ok-postings.ensures.ok c.in_ok-positions.ensures.ok c.in_ok-norms.ensures.ok c.in_ok-store.ensures.ok in
    let some : c.take_section-5.new.rest ≢ [] = search rules in
    λ other. (refl, no_end c.args.bytes c.advance.new.self c.take_section-5.new.rest c.in_ok-num_docs.num_docs (c.in_ok-terms.terms ∷ c.in_ok-postings.postings ∷ c.in_ok-positions.positions ∷ c.in_ok-norms.norms ∷ c.in_ok-store.store ∷ []) number found some)

pub returns-clause-ok : goal.returns-clause-ok
returns-clause-ok c =
    let n = c.in_ok-num_docs.ensures in
    let number = begun c.args.bytes c.as_slice.result.now n.ok.0 c.advance.new.self c.in_ok-num_docs.num_docs c.as_slice.ensures n.bytes n.ok.1 c.advance.ensures in
    let found = all_five c.advance.new.self c.take_section.new.rest c.take_section-2.new.rest c.take_section-3.new.rest c.take_section-4.new.rest c.take_section-5.new.rest c.in_ok-terms.terms c.in_ok-postings.postings c.in_ok-positions.positions c.in_ok-norms.norms c.in_ok-store.store c.in_ok-terms.ensures.ok c.in_ok-postings.ensures.ok c.in_ok-positions.ensures.ok c.in_ok-norms.ensures.ok c.in_ok-store.ensures.ok in
    let none : length c.take_section-5.new.rest ≡ 0 = grind (arith, nat_tests) in
    written_so c.args.bytes c.advance.new.self c.in_ok-num_docs.num_docs (record { terms = c.in_ok-terms.terms; postings = c.in_ok-postings.postings; positions = c.in_ok-positions.positions; norms = c.in_ok-norms.norms; store = c.in_ok-store.store }) (subst AreBytes c.as_slice.ensures n.bytes) (subst (λ (bs : List ℕ). length bs < 2 ^ 64) c.as_slice.ensures n.short) number n.ok.2 n.ok.3 (found ∙ ap (λ r. Some ((c.in_ok-terms.terms ∷ c.in_ok-postings.postings ∷ c.in_ok-positions.positions ∷ c.in_ok-norms.norms ∷ c.in_ok-store.store ∷ []), r)) (nothing_more c.take_section-5.new.rest none))

pub returns-clause-bytes : goal.returns-clause-bytes
returns-clause-bytes c = subst AreBytes c.as_slice.ensures c.in_ok-num_docs.ensures.bytes
