-- Facts about states and what calls leave of them.
use Rattle.std.proofs.Common.{[], ⊎_elim, ◌++◌, ◌+◌, ◌-◌, ◌<◌, ◌∙◌, ◌∷◌, ◌≡◌, ◌≢◌, ◌≤◌, Bool, Err, List, Ok, Result, ap, ap₂, arith, drop, filter, le_of_lt, length, map, refl, subst, sym, take, ℕ}
use Rattle.std.specs.List.{AllByRecursion}
use Rattle.definitions.specs.Analyzers.{Analyzer}
use Rattle.definitions.specs.Calls.{Call, Configuration, add_document, add_json, add_value, after_document, commit_pending, count_all, delete_term, document_given, document_json, document_value, merge_range, search_best}
use Rattle.definitions.specs.EqualHistories.{HasRange, SameList, after_all, documents_within, with_segments_of, without_merges}
use Rattle.definitions.specs.Schema.{Schema}
use Rattle.definitions.specs.State.{State, added, after_add, after_commit, after_delete, after_merge, as_group, committed, deleted, deleted_terms, is_left, living, marked, num_segments, pieces}
use Rattle.definitions.specs.Values.{Document}
use Rattle.definitions.proofs.Joins.{joined, joined-cut, joined-map, joined-pieces, pieces-nil}
use Rattle.std.proofs.lemmas.List.{append-nil, length-append, length-drop, length-take, map-append}
use Rattle.std.proofs.lemmas.List.Concat.{flat_map-append}
use Rattle.std.proofs.lemmas.List.Elements.{filter-append}
use Rattle.std.proofs.lemmas.Bool.{cases_lt}
use Rattle.definitions.specs.declared.fault.Fault.{Fault}

-- ---- merges

-- one group joins to its documents
joined-as_group : (docs : List Document) → joined (as_group docs) ≡ docs
joined-as_group [] = refl
joined-as_group (doc ∷ docs) = append-nil (doc ∷ docs)

-- a merge keeps the list
pub committed-merge : (from to : ℕ) (s : State) → from ≤ to → committed (after_merge from to s) ≡ committed s
committed-merge from to s l =
    let within = documents_within from to s in
    let rest = flat_map-append (λ group. group) (as_group within) (drop to s.groups) ∙ ap (λ docs. docs ++ joined (drop to s.groups)) (joined-as_group within) in
    flat_map-append (λ group. group) (take from s.groups) (as_group within ++ drop to s.groups) ∙ (ap (λ docs. joined (take from s.groups) ++ docs) rest ∙ joined-cut from to s.groups l)

-- how many lists there are when others stand in place of a range
length-merged : (from to : ℕ) (gs one : List (List Document)) → from ≤ to → to ≤ length gs → length (take from gs ++ (one ++ drop to gs)) ≡ length one + (length gs - (to - from))
length-merged from to gs one l m = simp (length-append, length-take, length-drop) (omega arith)

-- some documents are one group
as_group-some : (docs : List Document) → docs ≢ [] → length (as_group docs) ≡ 1
as_group-some [] some = absurd (some refl)
as_group-some (doc ∷ docs) some = refl

-- a range with a document in it isn't empty
within-some : (from to : ℕ) (s : State) → documents_within from to s ≢ [] → from < to
within-some from to s some = ⊎_elim (λ l. l) (λ l. let e : to - from ≡ 0 = omega arith in absurd (some (ap (λ n. joined (take n (drop from s.groups))) e))) (cases_lt from to)

-- documents that are merged stand in one group
pub num_segments-merge : (from to : ℕ) (s : State) → to ≤ num_segments s → documents_within from to s ≢ [] → num_segments (after_merge from to s) ≡ num_segments s - (to - from - 1)
num_segments-merge from to s m some =
    let l = within-some from to s some in
    let one = as_group-some (documents_within from to s) some in
    let long = length-merged from to s.groups (as_group (documents_within from to s)) (le_of_lt l) m in
    omega arith

-- where there is none, no group is left of the range
pub num_segments-merge_nothing : (from to : ℕ) (s : State) → from ≤ to → to ≤ num_segments s → documents_within from to s ≡ [] → num_segments (after_merge from to s) ≡ num_segments s - (to - from)
num_segments-merge_nothing from to s l m none =
    let one : length (as_group (documents_within from to s)) ≡ 0 = ap (λ docs. length (as_group docs)) none in
    let long = length-merged from to s.groups (as_group (documents_within from to s)) l m in
    omega arith

-- ---- commits

-- the living of two lists are those of each
pub living-append : (xs ys : List (Document × Bool)) → living (xs ++ ys) ≡ living xs ++ living ys
living-append xs ys = ap (map (λ row. row.0)) (filter-append (λ row. row.1) xs ys) ∙ map-append (λ row. row.0) (filter (λ row. row.1) xs) (filter (λ row. row.1) ys)

-- a commit leaves what no pending term deletes, and then the pending documents that are left
pub committed-commit : (schema : Schema) (analyze : Analyzer) (n : ℕ) (s : State) → 1 ≤ n → committed (after_commit schema analyze n s) ≡ filter (is_left schema analyze (deleted_terms s.pending)) (committed s) ++ living (marked schema analyze s.pending)
committed-commit schema analyze n s l =
    let test = is_left schema analyze (deleted_terms s.pending) in
    let rows = marked schema analyze s.pending in
    let old = joined-map (filter test) refl (filter-append test) s.groups in
    let new = joined-map living refl living-append (pieces n rows) ∙ ap living (joined-pieces n rows l) in
    flat_map-append (λ group. group) (map (filter test) s.groups) (map living (pieces n rows)) ∙ ap₂ (λ docs more. docs ++ more) old new

-- where no term is deleted, every document is left
filter-is_left_nil : (schema : Schema) (analyze : Analyzer) (docs : List Document) → filter (is_left schema analyze []) docs ≡ docs
filter-is_left_nil schema analyze [] = refl
filter-is_left_nil schema analyze (doc ∷ docs) = ap (λ ds. doc ∷ ds) (filter-is_left_nil schema analyze docs)

-- then every group stays as it is
all_left : (schema : Schema) (analyze : Analyzer) (gs : List (List Document)) → map (filter (is_left schema analyze [])) gs ≡ gs
all_left schema analyze [] = refl
all_left schema analyze (g ∷ gs) = ap₂ (λ one more. one ∷ more) (filter-is_left_nil schema analyze g) (all_left schema analyze gs)

-- a commit of a state whose calls are taken away changes nothing
commit-no_calls : (schema : Schema) (analyze : Analyzer) (n : ℕ) (s : State) → after_commit schema analyze n (record s { pending = [] }) ≡ record s { pending = [] }
commit-no_calls schema analyze n s = ap (λ gs. record s { groups = gs; pending = [] }) (ap₂ (λ old new. old ++ map living new) (all_left schema analyze s.groups) (pieces-nil n) ∙ append-nil s.groups)

-- a commit without pending calls changes nothing
pub commit-nothing : (schema : Schema) (analyze : Analyzer) (n : ℕ) (s : State) → s.pending ≡ [] → after_commit schema analyze n s ≡ s
commit-nothing schema analyze n s e =
    let same : record s { pending = [] } ≡ s = ap (λ calls. record s { pending = calls }) (sym e) in
    ap (after_commit schema analyze n) (sym same) ∙ (commit-no_calls schema analyze n s ∙ same)

-- ---- states with equal lists

-- a state has its own list
pub SameList-refl : (s : State) → SameList s s
SameList-refl s = (refl, refl)

-- equal lists are equal either way
pub SameList-sym : (s t : State) → SameList s t → SameList t s
SameList-sym s t same = (sym same.0, sym same.1)

-- lists that equal one list are equal
pub SameList-trans : (s t u : State) → SameList s t → SameList t u → SameList s u
SameList-trans s t u first then = (first.0 ∙ then.0, first.1 ∙ then.1)

-- an add keeps lists equal
pub SameList-add : (doc : Document) (s t : State) → SameList s t → SameList (after_add doc s) (after_add doc t)
SameList-add doc s t same = (same.0, ap (λ calls. calls ++ added doc ∷ []) same.1)

-- a delete keeps lists equal
pub SameList-delete : (of : List ℕ) (s t : State) → SameList s t → SameList (after_delete of s) (after_delete of t)
SameList-delete of s t same = (same.0, ap (λ calls. calls ++ deleted of ∷ []) same.1)

-- the sizes of segments don't matter
pub SameList-commit : (schema : Schema) (analyze : Analyzer) (m n : ℕ) (s t : State) → 1 ≤ m → 1 ≤ n → SameList s t → SameList (after_commit schema analyze m s) (after_commit schema analyze n t)
SameList-commit schema analyze m n s t l k same = (committed-commit schema analyze m s l ∙ (ap₂ (λ docs calls. filter (is_left schema analyze (deleted_terms calls)) docs ++ living (marked schema analyze calls)) same.0 same.1 ∙ sym (committed-commit schema analyze n t k)), refl)

-- a merge on one side keeps lists equal
pub SameList-merge : (from to : ℕ) (s t : State) → from ≤ to → SameList s t → SameList (after_merge from to s) t
SameList-merge from to s t l same = (committed-merge from to s l ∙ same.0, same.1)

-- an add that may be refused keeps lists equal
SameList-document : (r : Result Document Fault) (s t : State) → SameList s t → SameList (after_document r s) (after_document r t)
SameList-document (Ok doc) s t same = SameList-add doc s t same
SameList-document (Err fault) s t same = same

-- ---- histories

-- without its merges, and at other sizes of segments, a history leaves the same list
history-without_merges : (c : Configuration) (m n : ℕ) → 1 ≤ m → 1 ≤ n → (calls : List Call) → AllByRecursion HasRange calls → (s t : State) → SameList s t → SameList (after_all (with_segments_of m c) s calls) (after_all (with_segments_of n c) t (without_merges calls))
history-without_merges c m n l k [] h s t same = same
history-without_merges c m n l k (add_json text ∷ calls) h s t same = history-without_merges c m n l k calls h.1 (after_document (document_json c.schema text) s) (after_document (document_json c.schema text) t) (SameList-document (document_json c.schema text) s t same)
history-without_merges c m n l k (add_value d ∷ calls) h s t same = history-without_merges c m n l k calls h.1 (after_document (document_value c.schema d) s) (after_document (document_value c.schema d) t) (SameList-document (document_value c.schema d) s t same)
history-without_merges c m n l k (add_document doc ∷ calls) h s t same = history-without_merges c m n l k calls h.1 (after_document (document_given c.schema doc) s) (after_document (document_given c.schema doc) t) (SameList-document (document_given c.schema doc) s t same)
history-without_merges c m n l k (delete_term of ∷ calls) h s t same = history-without_merges c m n l k calls h.1 (after_delete of s) (after_delete of t) (SameList-delete of s t same)
history-without_merges c m n l k (commit_pending ∷ calls) h s t same = history-without_merges c m n l k calls h.1 (after_commit c.schema c.analyze m s) (after_commit c.schema c.analyze n t) (SameList-commit c.schema c.analyze m n s t l k same)
history-without_merges c m n l k (merge_range from to ∷ calls) h s t same = history-without_merges c m n l k calls h.1 (after_merge from to s) t (SameList-merge from to s t h.0 same)
history-without_merges c m n l k (search_best q limit ∷ calls) h s t same = history-without_merges c m n l k calls h.1 s t same
history-without_merges c m n l k (count_all q ∷ calls) h s t same = history-without_merges c m n l k calls h.1 s t same

-- two histories that differ in merges and sizes of segments alone leave the same list
pub history-same_list : (c : Configuration) (m n : ℕ) → 1 ≤ m → 1 ≤ n → (calls others : List Call) → AllByRecursion HasRange calls → AllByRecursion HasRange others → without_merges calls ≡ without_merges others → (s t : State) → SameList s t → SameList (after_all (with_segments_of m c) s calls) (after_all (with_segments_of n c) t others)
history-same_list c m n l k calls others h g e s t same =
    let left = history-without_merges c m n l k calls h s t same in
    let right = history-without_merges c n n k k others g t t (SameList-refl t) in
    let first = after_all (with_segments_of m c) s calls in
    let middle = subst (λ rest. SameList first (after_all (with_segments_of n c) t rest)) e left in
    SameList-trans first (after_all (with_segments_of n c) t (without_merges others)) (after_all (with_segments_of n c) t others) middle (SameList-sym (after_all (with_segments_of n c) t others) (after_all (with_segments_of n c) t (without_merges others)) right)
