use Rattle.std.proofs.Common.{[], Bool, List, ap, arith, drop, get_or, length, map, nat_eq, refl, sym, ◌++◌, ◌+◌, ◌<◌, ◌∙◌, ◌≡◌, ◌≢◌, ◌≤◌, ℕ, true, false}
use Rattle.std.proofs.lemmas.Bool.Decides.{nat_tests}
use Rattle.std.proofs.lemmas.List.{at_drop_more, drop_all, get_or-map, length-append, length-map}
use Rattle.definitions.specs.Postings.{terminated}
use Rattle.docsets.specs.Entries.{Entry, Rising, first}
use Rattle.docsets.proofs.LeaderLaws.{one-on}
use Rattle.docsets.proofs.MemberLaws.{entries-off, least-get}
use Rattle.docsets.specs.Members.{entries_at, entries_of}
use mir.Val.{bool_byte}
use Rattle.scorers.proofs.TwoLeastLaws.{entries-behind}
use Rattle.scorers.proofs.two_least.count_least.Goals as goal

-- a list that isn't past a document has it where it stands on it
has : (d : ℕ) (es : List Entry) → Rising 0 es → d < terminated → d ≤ first es → bool_byte (nat_eq (first es) d) ≡ length (entries_of d es)
has d es r t l = (elim (nat_eq (first es) d) as (λ b. nat_eq (first es) d ≡ b → bool_byte b ≡ length (entries_of d es)) [
  | true ↦ (λ h. let here : first es ≡ d = grind (arith, nat_tests, h) in sym (one-on d es r here t))
  | false ↦ (λ h. let apart : first es ≢ d = grind (arith, nat_tests, h) in sym (ap length (entries-off d es r l apart)))
]) refl

at_most_one : (b : Bool) → bool_byte b ≤ 1
at_most_one true = omega arith
at_most_one false = omega arith

pub loop-i-init : goal.loop-i-init
loop-i-init g c =
    let two = c.args.two in
    let are = c.requires in
    let same = ap length (entries-behind two.doc two.index (map g.D.DocSet.entries c.args.docsets.now.items) are.before) in
    record { count = λ on. omega (arith, same); few = omega arith }

pub loop-i-preserved : goal.loop-i-preserved
loop-i-preserved g c =
    let entries = g.D.DocSet.entries in
    let items = c.args.docsets.now.items in
    let all = map entries items in
    let d = c.args.two.doc in
    let i = c.loop-i.i in
    let now = entries c.index.result.now in
    let rest = drop (i + 1) all in
    let inv = c.loop-i.invariant in
    let few = inv.few in
    let long = length-map items entries in
    let within : i < length all = omega (arith, long) in
    let here : get_or all i [] ≡ now = get_or-map entries items i c.index.result.now [] (omega arith) ∙ ap entries (sym c.index.ensures) in
    let next = at_drop_more (λ ess. length (entries_at d ess)) all i [] within in
    let split = ap (λ es. length (entries_of d es ++ entries_at d rest)) here ∙ length-append (entries_of d now) (entries_at d rest) in
    let leads = c.requires.doc in
    let low = least-get all i [] within in
    let same = ap first here in
    record {
      count = λ on. (let so_far = inv.count on in
          let one = ap (λ n. bool_byte (nat_eq n d)) c.doc.ensures ∙ has d now (g.met.D.DocSet.rising c.index.result.now) on (omega (arith, leads, low, same)) in
          omega (arith, so_far, next, split, one));
      few = (let small = at_most_one (nat_eq c.doc.result d) in omega (arith, few, small));
    }

pub returns : goal.returns
returns g c =
    let entries = g.D.DocSet.entries in
    let all = map entries c.args.docsets.now.items in
    let long = length-map c.args.docsets.now.items entries in
    let near = c.requires.near in
    let none = ap (λ ess. length (entries_at c.args.two.doc ess)) (drop_all c.loop-i.i all (omega (arith, long, near))) in
    λ on. (let count = c.loop-i.invariant.count on in omega (arith, count, none))
