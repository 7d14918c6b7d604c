use Rattle.std.proofs.Common.{[], Bor, List, Option, Some, IfSome, ap, ap₂, length, not, option_map, refl, subst, sym, ◌<◌, ◌≡◌, ◌∙◌, ℕ}
use Rattle.std.specs.Cmp.Lexicographic.{lists_agrees}
use Rattle.std.specs.List.{slice_index_or}
use Rattle.std.specs.Ordering.{is_lt, is_some_and, nat_cmp}
use Rattle.std.specs.declared.cmp.Ordering.{Ordering}
use Rattle.merging.proofs.MergerSteps.{same_there}
use Rattle.merging.specs.KeyLists.{first_key}
use Rattle.merging.specs.Walking.{is_lead, key_at}
use Rattle.merging.proofs.term_merger.comes_before.Goals as goal

pub returns-in-Some-key : goal.returns-in-Some-key
returns-in-Some-key c =
    let members = c.args.members.now in
    let other = c.in-Some-other.other in
    let within : other < length members = subst (λ (o : Option ℕ). IfSome o (λ n. n < length members)) c.in-Some-other.is c.requires.within in
    let mine : first_key (slice_index_or members c.args.number []) ≡ Some c.in-Some.key.now =
    ap first_key (same_there members c.args.number [] c.index-members-number.result c.requires.own ∙ sym c.index-members-number.is) ∙ sym c.key.ensures ∙ ap (option_map (λ (k : Bor (List ℕ)). k.now)) c.in-Some.is in
    let theirs : key_at members c.args.other ≡ Some c.in-Some-key.other_key.now =
    ap (key_at members) c.in-Some-other.is ∙ ap first_key (same_there members other [] c.index-members-other.result within ∙ sym c.index-members-other.is) ∙ sym c.key-2.ensures ∙ ap (option_map (λ (k : Bor (List ℕ)). k.now)) c.in-Some-key.is in
    ap not (c.lt.ensures ∙ ap (λ (o : Option Ordering). is_some_and is_lt o) (lists_agrees {R = nat_cmp} {C = λ x y. Some (nat_cmp x y)} (λ x y. refl) c.in-Some-key.other_key.now c.in-Some.key.now))
    ∙ sym (ap₂ is_lead mine theirs)
