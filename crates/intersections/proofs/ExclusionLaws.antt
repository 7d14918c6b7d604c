-- Laws of several lists whose documents are left out.
use Rattle.std.proofs.Common.{◌+◌, ◌<◌, ◌∙◌, ◌≡◌, ◌≤◌, Bool, List, ap, arith, false, refl, sym, true, ℕ}
use Rattle.definitions.specs.Postings.{terminated}
use Rattle.definitions.specs.Scoring.{max_score}
use Rattle.docsets.specs.Entries.{Entry, Rising, first, from}
use Rattle.docsets.proofs.EntryLaws.{from-from}
use Rattle.intersections.proofs.DifferenceLaws.{has-first, has-kept, has-low}
use Rattle.intersections.specs.Differences.{has, unscored}
use Rattle.docsets.proofs.MemberLaws.{Rising-listed, from-listed, listed-found, listed-later, listed-out}
use Rattle.docsets.specs.Members.{at_least, enough, entries_at, listed}

-- a list by flags has the documents with a flag
has-listed : (flag : ℕ → Bool) (entry : ℕ → Entry) (d : ℕ) → ((n : ℕ) → (entry n).score ≤ max_score) → d < terminated → has (listed flag entry 0) d ≡ flag d
has-listed flag entry d small l =
    let cut : from d (listed flag entry 0) ≡ listed flag entry d = from-listed flag entry 0 d (omega arith) (omega (arith, l)) in
    let rises : Rising 0 (listed flag entry d) = Rising-listed flag entry d (λ n a b c. small n) in
    let same : has (listed flag entry d) d ≡ has (listed flag entry 0) d = has-kept d d (listed flag entry 0) (listed flag entry d) (ap (from d) (sym cut) ∙ from-from d d (listed flag entry 0) (omega arith)) (omega arith) in
    sym same ∙ (elim (flag d) as (λ b. flag d ≡ b → has (listed flag entry d) d ≡ b) [
      | true ↦ (λ e. has-first d (listed flag entry d) rises (ap first (listed-found flag entry d l e)) l)
      | false ↦ (λ e. (let later = listed-later flag entry (d + 1) (omega (arith, l)) in let at = ap first (listed-out flag entry d l e) in has-low d (listed flag entry d) rises (omega (arith, later, at))))
    ]) refl

pub has-one : (ess : List (List Entry)) (d : ℕ) → d < terminated → has (at_least 1 unscored ess) d ≡ enough 1 ess d
has-one ess d l = has-listed (enough 1 ess) (λ n. unscored n (entries_at n ess)) d (λ n. omega arith) l
