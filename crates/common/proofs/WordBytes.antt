-- Words as they are put and read.
use Rattle.std.proofs.Common.{ℕ, zero, suc, subst, List, [], ◌∷◌, ◌++◌, ◌≡◌, ◌+◌, ◌%◌, sym, ap, ◌∙◌, append_assoc, arith, length, length-append}
use Rattle.std.proofs.lemmas.Grind.{flat_map-append}
use Rattle.std.proofs.lemmas.List.{append-nil}
use Rattle.std.specs.List.{flat_map}
use Rattle.std.specs.Int.{from_le_bytes, w64}
use Rattle.std.proofs.lemmas.Nat.{le_bytes_8}
use Rattle.definitions.specs.NumberCodes.{AreBytes, u64_bytes}

-- the words that were read and the bytes that are left are the bytes
pub record Reads (bytes words rest : List ℕ) : Type 0 where
  pub spelled : flat_map u64_bytes words ++ rest ≡ bytes
  pub eights : length rest % 8 ≡ 0
  pub digits : AreBytes rest

pub front_bytes : (xs ys : List ℕ) → AreBytes (xs ++ ys) → AreBytes xs
front_bytes [] ys bytes i = omega arith
front_bytes (x ∷ xs) ys bytes zero = bytes 0
front_bytes (x ∷ xs) ys bytes (suc i) = front_bytes xs ys (λ k. bytes (suc k)) i

pub back_bytes : (xs ys : List ℕ) → AreBytes (xs ++ ys) → AreBytes ys
back_bytes [] ys bytes i = bytes i
back_bytes (x ∷ xs) ys bytes i = back_bytes xs ys (λ k. bytes (suc k)) i

pub reads_more : (bytes words rest first after : List ℕ) (word : ℕ) → Reads bytes words rest → rest ≡ first ++ after → length first ≡ 8 → word ≡ from_le_bytes w64 first → Reads bytes (words ++ word ∷ []) after
reads_more bytes words rest first after word reads splits eight value =
    let digits : AreBytes (first ++ after) = subst AreBytes splits reads.digits in
    let spells : u64_bytes word ≡ first = le_bytes_8 first word eight (front_bytes first after digits) value in
    record {
      spelled = ap (λ bs. bs ++ after) (flat_map-append u64_bytes words (word ∷ []) ∙ ap (λ bs. flat_map u64_bytes words ++ bs) (append-nil (u64_bytes word) ∙ spells)) ∙ append_assoc (flat_map u64_bytes words) first after ∙ ap (λ bs. flat_map u64_bytes words ++ bs) (sym splits) ∙ reads.spelled;
      eights = (let all = reads.eights in let long : length rest ≡ length first + length after = ap length splits ∙ length-append first after in omega arith);
      digits = back_bytes first after digits;
    }
