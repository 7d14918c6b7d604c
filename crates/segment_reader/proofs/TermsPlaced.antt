-- A term that is taken, with its ranges.
use Rattle.std.proofs.Common.{IfErr, IfOk, List, None, Option, Result, Some, ap, arith, drop, length, length-append, length-drop, subst, sym, ◌+◌, ◌-◌, ◌≡◌, ◌≤◌, ◌∙◌, ℕ}
use Rattle.std.proofs.Math.Seq.{drop-append_seam}
use Rattle.std.proofs.lemmas.List.{drop-drop}
use Rattle.definitions.specs.NumberCodes.{AreBytes}
use Rattle.definitions.specs.declared.fault.Fault.{Fault}
use Rattle.front_coding.proofs.TermsTaken.{term_put}
use Rattle.front_coding.specs.TakenKeys.{take_term}
use Rattle.front_coding.specs.declared.term_starts.TermStart.{TermStart}
use Rattle.layouts.specs.TermSections.{TermLengths, Told, before_in_block, coded_entry}
use Rattle.segment_reader.specs.TermPlaces.{EndsWithin, TermFits}

pub if_ok : {P Q : TermStart → Type 0} (r : Result TermStart Fault) → ((end : TermStart) → P end → Q end) → IfOk r P → IfOk r Q
if_ok (Rattle.std.proofs.Common.Ok end) to p = to end p
if_ok (Rattle.std.proofs.Common.Err e) to p = p

pub if_err : {P Q : Fault → Type 0} (r : Result TermStart Fault) → ((e : Fault) → P e → Q e) → IfErr r P → IfErr r Q
if_err (Rattle.std.proofs.Common.Ok end) to p = p
if_err (Rattle.std.proofs.Common.Err e) to p = to e p

pub none_some : {X : Type 0} {x : X} → ◌≡◌ {A = Option X} None (Some x) → ⊥
none_some is = cc

-- what follows a term is no longer than the section
pub rest_within : (size number : ℕ) (before key section : List ℕ) (offset : ℕ) (l : TermLengths) (rest : List ℕ) → AreBytes (drop offset section) → take_term size number before (drop offset section) ≡ Some ((key, l), rest) → length rest ≤ length section
rest_within size number before key section offset l rest bytes is =
    let put = term_put size number before (drop offset section) (key, l) rest bytes is in
    let whole = ap length put.spelled in
    let parts = length-append (coded_entry (before_in_block size number before) (key, l)) rest in
    let all = length-drop offset section in
    omega (arith, whole, parts, all)

-- what a term's end is, by what follows it
pub placed : (size number : ℕ) (before key section : List ℕ) (start end : TermStart) (l : TermLengths) (p q : ℕ) (rest : List ℕ) → AreBytes (drop start.entry section) → start.entry ≤ length section → take_term size number before (drop start.entry section) ≡ Some ((key, l), rest) → end.entry ≡ length section - length rest → EndsWithin start l p q end → (m : TermLengths) × (take_term size number before (drop start.entry section) ≡ Some ((key, m), drop end.entry section)) × (end.entry ≤ length section) × EndsWithin start m p q end
placed size number before key section start end l p q rest bytes within is end_is ends =
    let put = term_put size number before (drop start.entry section) (key, l) rest bytes is in
    let entry = coded_entry (before_in_block size number before) (key, l) in
    let whole = ap length put.spelled in
    let parts = length-append entry rest in
    let all = length-drop start.entry section in
    let at : end.entry ≡ start.entry + length entry = omega (arith, end_is, whole, parts, all, within) in
    let after : drop end.entry section ≡ rest = ap (λ n. drop n section) at ∙ sym (drop-drop (length entry) start.entry section) ∙ ap (drop (length entry)) put.spelled ∙ drop-append_seam entry rest in
    (l, is ∙ ap (λ (bs : List ℕ). Some ((key, l), bs)) (sym after), omega (arith, end_is), ends)

abbrev told_in : Told → Option (Told × List ℕ) → Told
told_in other None = other
told_in other (Some t) = t.0

-- the term that is taken is the one that was
pub taken_once : (size number : ℕ) (before bs : List ℕ) (t e : Told) (rest after : List ℕ) (start : TermStart) (p q : ℕ) → take_term size number before bs ≡ Some (t, rest) → take_term size number before bs ≡ Some (e, after) → (TermFits e.1 → start.postings + e.1.postings_len ≤ p → start.positions + e.1.positions_len ≤ q → ⊥) → TermFits t.1 → start.postings + t.1.postings_len ≤ p → start.positions + t.1.positions_len ≤ q → ⊥
taken_once size number before bs t e rest after start p q one two none fits p_end q_end =
    let same : e ≡ t = ap (told_in t) (sym two ∙ one) in
    subst (λ (x : Told). (TermFits x.1 → start.postings + x.1.postings_len ≤ p → start.positions + x.1.positions_len ≤ q → ⊥)) same none fits p_end q_end
