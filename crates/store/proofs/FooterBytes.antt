-- Footers: what was put is taken back, and what is taken was put.
use Rattle.std.proofs.Common.{ℕ, List, [], ◌++◌, ◌≡◌, ◌<◌, ◌^◌, ◌&&◌, Option, Some, None, nat_eq, sym, ap, ap₂, ◌∙◌, subst, arith, append_assoc, append-nil, length, length-append}
use Rattle.std.proofs.lemmas.Bool.Decides.{nat_tests}
use Rattle.common.proofs.AliveSetBytes.{u32_back, u64_back}
use Rattle.common.proofs.Many.{only_some as passed}
use Rattle.definitions.specs.Json.{only_if, ◌>>=◌}
use Rattle.definitions.specs.NumberCodes.{AreBytes, take_u32, take_u64, u32_bytes, u64_bytes}
use Rattle.common.proofs.TakenBack.{u32_put, u64_put}
use Rattle.common.proofs.WordBytes.{back_bytes as bytes_right}
use Rattle.definitions.proofs.Lists.{bind_some as bound, both_true as both}
use Rattle.layouts.specs.Stores.{footer_bytes}
use Rattle.store.specs.Footers.{take_footer}
use Rattle.store.proofs.Cuts.{append_same}
use Rattle.store.proofs.TakenGroups.{absent}

-- what follows each number
abbrev from_high : ℕ × List ℕ → ℕ × List ℕ → ℕ × List ℕ → Option (ℕ × List ℕ)
from_high version at low = take_u64 low.1 >>= (λ high. only_if (nat_eq version.0 2 && nat_eq low.0 0 && nat_eq high.0 0) (Some (at.0, high.1)))

abbrev from_low : ℕ × List ℕ → ℕ × List ℕ → Option (ℕ × List ℕ)
from_low version at = take_u64 at.1 >>= (λ low. from_high version at low)

abbrev from_at : ℕ × List ℕ → Option (ℕ × List ℕ)
from_at version = take_u64 version.1 >>= (λ at. from_low version at)

-- a footer's four numbers
four : (at : ℕ) (rest : List ℕ) → footer_bytes at ++ rest ≡ u32_bytes 2 ++ (u64_bytes at ++ (u64_bytes 0 ++ (u64_bytes 0 ++ rest)))
four at rest = append_assoc (u32_bytes 2 ++ u64_bytes at) (u64_bytes 0 ++ u64_bytes 0) rest ∙ append_assoc (u32_bytes 2) (u64_bytes at) ((u64_bytes 0 ++ u64_bytes 0) ++ rest)

pub footer_back : (at : ℕ) (rest : List ℕ) → at < 2 ^ 64 → take_footer (footer_bytes at ++ rest) ≡ Some (at, rest)
footer_back at rest small =
    let z : List ℕ = u64_bytes 0 in
    ap take_footer (four at rest)
    ∙ ap (λ o. o >>= from_at) (u32_back 2 (u64_bytes at ++ (z ++ (z ++ rest))) (omega arith))
    ∙ ap (λ o. o >>= from_low (2, u64_bytes at ++ (z ++ (z ++ rest)))) (u64_back at (z ++ (z ++ rest)) small)
    ∙ ap (λ o. o >>= from_high (2, u64_bytes at ++ (z ++ (z ++ rest))) (at, z ++ (z ++ rest))) (u64_back 0 (z ++ rest) (omega arith))
    ∙ ap (λ o. o >>= (λ high. only_if (nat_eq high.0 0) (Some (at, high.1)))) (u64_back 0 rest (omega arith))

pub footer_put : (bs : List ℕ) (at : ℕ) (rest : List ℕ) → AreBytes bs → take_footer bs ≡ Some (at, rest) → (at < 2 ^ 64) × (bs ≡ footer_bytes at ++ rest)
footer_put bs at rest small e =
    let one = bound (take_u32 bs) from_at (at, rest) e in
    let v = one.0 in
    let put1 = u32_put bs v.0 v.1 small one.1 in
    let s1 : AreBytes v.1 = bytes_right (u32_bytes v.0) v.1 (subst AreBytes put1.1 small) in
    let two = bound (take_u64 v.1) (from_low v) (at, rest) one.2 in
    let a = two.0 in
    let put2 = u64_put v.1 a.0 a.1 s1 two.1 in
    let s2 : AreBytes a.1 = bytes_right (u64_bytes a.0) a.1 (subst AreBytes put2.1 s1) in
    let three = bound (take_u64 a.1) (from_high v a) (at, rest) two.2 in
    let l = three.0 in
    let put3 = u64_put a.1 l.0 l.1 s2 three.1 in
    let s3 : AreBytes l.1 = bytes_right (u64_bytes l.0) l.1 (subst AreBytes put3.1 s2) in
    let fourth = bound (take_u64 l.1) (λ high. only_if (nat_eq v.0 2 && nat_eq l.0 0 && nat_eq high.0 0) (Some (a.0, high.1))) (at, rest) three.2 in
    let h = fourth.0 in
    let put4 = u64_put l.1 h.0 h.1 s3 fourth.1 in
    let last = passed (nat_eq v.0 2 && nat_eq l.0 0 && nat_eq h.0 0) (Some (a.0, h.1)) (at, rest) fourth.2 in
    let outer = both (nat_eq v.0 2 && nat_eq l.0 0) (nat_eq h.0 0) last.0 in
    let inner = both (nat_eq v.0 2) (nat_eq l.0 0) outer.0 in
    let t0 = inner.0 in
    let t1 = inner.1 in
    let t2 = outer.1 in
    let v2 : v.0 ≡ 2 = grind (arith, nat_tests) in
    let l0 : l.0 ≡ 0 = grind (arith, nat_tests) in
    let h0 : h.0 ≡ 0 = grind (arith, nat_tests) in
    let is : (a.0, h.1) ≡ (at, rest) = (let s = last.1 in cc) in
    let offset : a.0 ≡ at = ap (λ (p : ℕ × List ℕ). p.0) is in
    let after : h.1 ≡ rest = ap (λ (p : ℕ × List ℕ). p.1) is in
    let e4 : l.1 ≡ u64_bytes 0 ++ rest = put4.1 ∙ ap₂ (λ n xs. u64_bytes n ++ xs) h0 after in
    let e3 : a.1 ≡ u64_bytes 0 ++ (u64_bytes 0 ++ rest) = put3.1 ∙ ap₂ (λ n xs. u64_bytes n ++ xs) l0 e4 in
    let e2 : v.1 ≡ u64_bytes at ++ (u64_bytes 0 ++ (u64_bytes 0 ++ rest)) = put2.1 ∙ ap₂ (λ n xs. u64_bytes n ++ xs) offset e3 in
    let e1 : bs ≡ u32_bytes 2 ++ (u64_bytes at ++ (u64_bytes 0 ++ (u64_bytes 0 ++ rest))) = put1.1 ∙ ap₂ (λ n xs. u32_bytes n ++ xs) v2 e2 in
    (subst (λ n. n < 2 ^ 64) offset put2.0, e1 ∙ sym (four at rest))

-- bytes that aren't read begin with no footer
pub footer_none : (bs : List ℕ) → take_footer bs ≡ None → (at : ℕ) (rest : List ℕ) → at < 2 ^ 64 → bs ≡ footer_bytes at ++ rest → ⊥
footer_none bs none at rest small e = absent (take_footer bs) (at, rest) none (ap take_footer e ∙ footer_back at rest small)

pub footer_not_at_end : (file body end : List ℕ) → file ≡ body ++ end → length end ≡ 28 → ((at : ℕ) (rest : List ℕ) → at < 2 ^ 64 → end ≡ footer_bytes at ++ rest → ⊥) → (at : ℕ) (front : List ℕ) → at < 2 ^ 64 → file ≡ front ++ footer_bytes at → ⊥
footer_not_at_end file body end whole long apart at front small e =
    let same : body ++ end ≡ front ++ footer_bytes at = sym whole ∙ e in
    let fits : length body ≡ length front = omega (arith, ap length same, length-append body end, length-append front (footer_bytes at)) in
    let parts = append_same body end front (footer_bytes at) same fits in
    apart at [] small (parts.1 ∙ sym (append-nil (footer_bytes at)))
