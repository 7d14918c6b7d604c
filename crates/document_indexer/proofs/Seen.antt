-- The steps of a loop: those that were recorded, and those that are left.
use Rattle.std.proofs.Common.{[], ◌++◌, ◌≡◌, ◌∙◌, Err, IfErr, List, Ok, OnOk, Result, ap, append-nil, append_assoc, refl, subst, sym}
use Rattle.definitions.specs.Schema.{Schema}
use Rattle.definitions.specs.declared.fault.Fault.{Fault}
use Rattle.document_indexer.specs.Contexts.{Context, IsReady, Records, Refuses}
use Rattle.document_indexer.specs.Steps.{Step}
use Rattle.document_indexer.proofs.Recording.{records_more, records_none, refused_first, refused_next}

-- some were recorded, and with those that are left they are all
pub record Seen (schema : Schema) (was now : Context) (left all : List Step) : Type 0 where
  pub seen : List Step
  pub split : all ≡ seen ++ left
  pub records : Records schema was now seen

-- none was
pub seen_none : (schema : Schema) (c : Context) (all : List Step) → IsReady schema c → Seen schema c c all all
seen_none schema c all ready = record { seen = []; split = refl; records = records_none schema c ready }

-- more were
pub seen_more : (schema : Schema) (a b c : Context) (left xs rest all : List Step) → Seen schema a b left all → left ≡ xs ++ rest → Records schema b c xs → Seen schema a c rest all
seen_more schema a b c left xs rest all s is more = record {
  seen = s.seen ++ xs;
  split = s.split ∙ ap (λ ys. s.seen ++ ys) is ∙ sym (append_assoc s.seen xs rest);
  records = records_more schema a b c s.seen xs s.records more;
}

-- all were
pub seen_all : (schema : Schema) (a b : Context) (left all : List Step) → Seen schema a b left all → left ≡ [] → Records schema a b all
seen_all schema a b left all s none = subst (Records schema a b) (sym (s.split ∙ ap (λ ys. s.seen ++ ys) none ∙ append-nil s.seen)) s.records

-- the next ones are refused
pub seen_refused : (schema : Schema) (a b : Context) (left xs rest all : List Step) (fault : Fault) → Seen schema a b left all → left ≡ xs ++ rest → Refuses schema b xs fault → Refuses schema a all fault
seen_refused schema a b left xs rest all fault s is refused =
    let P : List Step → Type 0 = λ ys. Refuses schema a ys fault in
    subst P (sym (s.split ∙ ap (λ ys. s.seen ++ ys) is)) (refused_next schema a b s.seen (xs ++ rest) fault s.records (refused_first schema b xs rest fault refused))

-- the last ones are recorded, where that succeeds
pub last_recorded : {A E : Type 0} (result : Result A E) (schema : Schema) (a b c : Context) (left xs all : List Step) → Seen schema a b left all → left ≡ xs ++ [] → OnOk result (Records schema b c xs) → OnOk result (Records schema a c all)
last_recorded (Ok x) schema a b c left xs all s is more = seen_all schema a c [] all (seen_more schema a b c left xs [] all s is more) refl
last_recorded (Err e) schema a b c left xs all s is more = tt

-- or they are refused
pub last_refused : {A : Type 0} (result : Result A Fault) (schema : Schema) (a b : Context) (left xs all : List Step) → Seen schema a b left all → left ≡ xs ++ [] → IfErr result (Refuses schema b xs) → IfErr result (Refuses schema a all)
last_refused (Ok x) schema a b left xs all s is refused = tt
last_refused (Err fault) schema a b left xs all s is refused = seen_refused schema a b left xs [] all fault s is refused
