-- Merged lengths of segments of documents.
use Rattle.std.proofs.Common.{[], Bool, List, Some, ap, ap₂, append_assoc, arith, false, find, if◌then◌else◌, map, option_map, refl, sym, true, ◌++◌, ◌==◌, ◌≡◌, ◌∙◌, ◌∷◌, ℕ}
use Rattle.std.proofs.lemmas.Bool.Decides.{nat_tests}
use Rattle.std.specs.List.{items_where_true}
use Rattle.std.specs.Option.{option_map_or}
use Rattle.definitions.proofs.MergedRows.{live_rows}
use Rattle.definitions.specs.Alive.{Segment, live}
use Rattle.definitions.specs.Analyzers.{Analyzer}
use Rattle.definitions.specs.KeptLengths.{length_fields, length_ids, norms_of}
use Rattle.definitions.specs.Merging.{documents_in, flags_of, merged_rows}
use Rattle.definitions.specs.Schema.{Schema}
use Rattle.definitions.specs.Scoring.{length_id}
use Rattle.layouts.specs.InvertedIndexes.{field_ids}
use Rattle.merging.specs.LivingNorms.{AreOf}
use Rattle.merging.specs.MergedNorms.{merged_ids, merged_norms}
use Rattle.merging.specs.declared.member_norms.MemberNorms.{MemberNorms}

-- a field among others is found with what is made of it
found : (g : ℕ → List ℕ) (before : List ℕ) (field : ℕ) (after : List ℕ) → field_ids (map (λ f. (f, g f)) (before ++ field ∷ after)) field ≡ g field
found g [] field after =
    let itself : (field == field) ≡ true = grind (arith, nat_tests) in
    ap (λ b. option_map_or (λ ids. ids) (option_map (λ (p : ℕ × List ℕ). p.1) (if b then Some (field, g field) else find (λ (p : ℕ × List ℕ). p.0 == field) (map (λ f. (f, g f)) after))) []) itself
found g (f ∷ before) field after = go (f == field) refl (found g before field after)
  where
    go : (b : Bool) → (f == field) ≡ b → field_ids (map (λ x. (x, g x)) (before ++ field ∷ after)) field ≡ g field → option_map_or (λ ids. ids) (option_map (λ (p : ℕ × List ℕ). p.1) (if b then Some (f, g f) else find (λ (p : ℕ × List ℕ). p.0 == field) (map (λ x. (x, g x)) (before ++ field ∷ after)))) [] ≡ g field
    go true same later = (let e : f ≡ field = (let s = same in grind (arith, nat_tests, s)) in ap g e)
    go false apart later = later

module _ (schema : Schema) (analyze : Analyzer) where
  ids_merged : (ms : List MemberNorms) (segments : List Segment) (before : List ℕ) (field : ℕ) (after : List ℕ) → length_fields schema ≡ before ++ field ∷ after → AreOf schema analyze ms segments → merged_ids field ms ≡ merged_rows (map (λ (rows : Segment). (flags_of rows, map (length_id schema analyze field) (documents_in rows))) segments)
  ids_merged [] [] before field after at are = refl
  ids_merged [] (rows ∷ segments) before field after at are = absurd are
  ids_merged (m ∷ ms) [] before field after at are = absurd are
  ids_merged (m ∷ ms) (rows ∷ segments) before field after at are =
      let own : field_ids m.norms field ≡ length_ids schema analyze (documents_in rows) field =
      ap (λ norms. field_ids norms field) are.0
      ∙ ap (λ fs. field_ids (map (λ f. (f, length_ids schema analyze (documents_in rows) f)) fs) field) at
      ∙ found (length_ids schema analyze (documents_in rows)) before field after in
      ap₂ (λ xs ys. xs ++ ys) (ap₂ items_where_true are.1 own) (ids_merged ms segments before field after at are.2)

  all_fields : (ms : List MemberNorms) (segments : List Segment) (before rest : List ℕ) → length_fields schema ≡ before ++ rest → AreOf schema analyze ms segments → merged_norms rest ms ≡ map (λ field. (field, length_ids schema analyze (live segments) field)) rest
  all_fields ms segments before [] at are = refl
  all_fields ms segments before (field ∷ rest) at are =
      ap₂ (λ ids more. (field, ids) ∷ more)
      (ids_merged ms segments before field rest at are ∙ sym (live_rows (length_id schema analyze field) segments))
      (all_fields ms segments (before ++ field ∷ []) rest (at ∙ sym (append_assoc before (field ∷ []) rest)) are)

  pub norms_living : (ms : List MemberNorms) (segments : List Segment) → AreOf schema analyze ms segments → merged_norms (length_fields schema) ms ≡ norms_of schema analyze (live segments)
  norms_living ms segments are = all_fields ms segments [] (length_fields schema) refl are
