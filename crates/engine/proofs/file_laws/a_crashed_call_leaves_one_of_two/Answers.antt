use Rattle.std.proofs.Common.{List, ap₂, inl, inr, subst, ⊎_elim}
use Rattle.definitions.specs.Step.{configuration_of, reopened}
use Rattle.definitions.specs.Values.{Document}
use Rattle.engine.proofs.FileSayings.{of_its_groups}
use Rattle.engine.specs.Files.{IsFileOf, LeavesMembers}
use Rattle.engine.specs.Indexes.{IndexStands, analyzer_of, members_of, schema_of, settings_of}
use Rattle.engine.proofs.file_laws.a_crashed_call_leaves_one_of_two.Goals as goal

pub returns : goal.returns
returns g c one other image device either left honest holds opened =
    let old = c.args.old.now in
    let index = c.args.opened.now in
    let cut = g.A.Analyzer.analyze (analyzer_of old) in
    let leaves = subst (LeavesMembers (schema_of index) (settings_of index) (members_of index)) holds (opened.file honest) in
    let stands : (groups : List (List Document)) → IsFileOf (schema_of old) (settings_of old) cut groups image → IndexStands g.A.Analyzer.analyze index (configuration_of (schema_of old) cut (settings_of old)) (reopened groups) =
    λ groups file.
    (let found = of_its_groups (schema_of index) (schema_of old) (settings_of index) (settings_of old) cut (members_of index) groups image leaves file in
    subst (λ m. IndexStands g.A.Analyzer.analyze index m (reopened groups)) (ap₂ (λ s n. configuration_of s cut n) found.0 found.1) (opened.stands groups found.2)) in
    ⊎_elim (λ first. inl (stands one (either.first, first, either.says_one)))
    (λ second. ⊎_elim (λ says. inl (stands one (either.second, second, says))) (λ says. inr (stands other (either.second, second, says))) either.says_other)
    (either.images.each_image image left)
