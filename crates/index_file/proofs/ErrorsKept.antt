-- Errors that are handed on.
use Rattle.std.proofs.Common.{Err, IfErr, Ok, OnOk, Result, arith, inl, inr, subst, sym, ◌≡◌, ◌+◌, ◌<◌, ◌^◌, ◌↔◌, ℕ}
use Rattle.std.proofs.lemmas.Bool.{cases_lt}
use Rattle.std.specs.Bool.{⊤}
use Rattle.std.specs.Prelude.{IsErrAnd, IsErrOf}
use Rattle.definitions.specs.Disk.{HasCause}
use Rattle.definitions.specs.declared.fault.Fault.{Fault}
use Rattle.definitions.specs.declared.fault.Fault.TheVariants as faults

-- what holds of an error holds of a result that has it
pub err_has : {T : Type 0} (r : Result T Fault) (fault : Fault) (P : Fault → Type 0) → IsErrAnd r (λ e. e ≡ fault) → P fault → IfErr r P
err_has (Ok x) fault P is p = tt
err_has (Err e) fault P is p = subst P (sym is) p

-- the error
abbrev pub error_or_memory : {T : Type 0} → Result T Fault → Fault
error_or_memory (Ok x) = faults.OutOfMemory
error_or_memory (Err e) = e

-- a call that went well, and then another
pub caused_later : {T U : Type 0} (before mid now : ℕ) (r : Result T Fault) (s : Result U Fault) → HasCause before mid r → HasCause mid now s → HasCause before now s
caused_later before mid now r s first second = record {
  later = omega (arith, first.later, second.later);
  cause = λ device. elim (second.cause device) [
    | inl rose ↦ inl (omega (arith, first.later, rose))
    | inr most ↦ elim (cases_lt before mid) [
      | inl below ↦ inl (omega (arith, below, second.later))
      | inr above ↦ inr (omega (arith, above, first.later, most))
    ]
  ];
}

answer_is_no_error : (u : ⊤) (fault : Fault) → IsErrOf (Ok u) fault → ⊥
answer_is_no_error u fault e = cc

-- a record within the limit leaves the closed gate below it
pub below_limit : (r : Result ⊤ Fault) (gate now len : ℕ) → OnOk r (now ≡ gate + len) → (IsErrOf r faults.Limit ↔ (2 ^ 63 < gate + 1 + len)) → OnOk r (now < 2 ^ 63)
below_limit (Err fault) gate now len is limit = tt
below_limit (Ok u) gate now len is limit = elim (cases_lt (2 ^ 63) (gate + 1 + len)) [
  | inl past ↦ absurd (answer_is_no_error u faults.Limit (limit.1 past))
  | inr within ↦ omega (arith, is, within)
]
