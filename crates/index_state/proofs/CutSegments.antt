-- The first segments of a list, as many as there are sets.
use Rattle.std.proofs.Common.{[], ◌∙◌, ◌∷◌, ◌≡◌, Bool, List, ap, arith, length, refl, subst, sym, take, ℕ}
use Rattle.std.proofs.Math.Logic.{∥∥₁_map}
use Rattle.std.proofs.lemmas.List.{length-take-le, take_all}
use Rattle.std.specs.List.{AllByRecursion}
use Rattle.definitions.proofs.Lists.{all_take}
use Rattle.definitions.specs.Schema.{Schema}
use Rattle.segment.specs.Opened.{IsOpened, bytes_of}
use Rattle.segment.specs.declared.segment.Segment as code
use Rattle.segment_search.proofs.Flagging.{flagged_taken, flagged_within}
use Rattle.index_state.specs.Flags.{AreFlagged, members}

-- segments without a set are no members
members_taken : (segments : List code.Segment) (sets : List (List Bool)) → members (take (length sets) segments) sets ≡ members segments sets
members_taken [] [] = refl
members_taken (s ∷ segments) [] = refl
members_taken [] (flags ∷ sets) = refl
members_taken (s ∷ segments) (flags ∷ sets) = ap (λ ms. (bytes_of s, flags) ∷ ms) (members_taken segments sets)

module _ (segments cut : List code.Segment) (sets : List (List Bool)) (k : ℕ) (is : cut ≡ take k segments) (counted : k ≡ length sets) where
  cut_is : cut ≡ take (length sets) segments
  cut_is = is ∙ ap (λ n. take n segments) counted

  -- they are opened still
  pub cut_opened : (schema : Schema) → ∥ AllByRecursion (IsOpened schema) segments ∥₁ → ∥ AllByRecursion (IsOpened schema) cut ∥₁
  cut_opened schema opened = ∥∥₁_map opened (λ all. subst (AllByRecursion (IsOpened schema)) (sym is) (all_take (IsOpened schema) k segments all))

  -- where there are no more, these are all
  pub cut_whole : length segments ≡ length sets → cut ≡ segments
  cut_whole each = cut_is ∙ take_all (length sets) segments (omega (arith, each))

  -- with the sets they are the same members
  pub cut_members : members cut sets ≡ members segments sets
  cut_members = ap (λ ss. members ss sets) cut_is ∙ members_taken segments sets

  module _ (flags : AreFlagged segments sets) where
    -- and have them
    pub cut_flagged : AreFlagged cut sets
    cut_flagged = subst (λ ss. AreFlagged ss sets) (sym cut_is) (flagged_taken segments sets flags)

    -- one each
    pub cut_counted : length cut ≡ length sets
    cut_counted = ap length cut_is ∙ length-take-le (length sets) segments (flagged_within segments sets flags)
