-- The request in a value is that of its name.
use Rattle.std.proofs.Common.{◌≡◌, Bool, None, Option, Some, bytes_eq, codes, cond, drop, false, find, option_and_then, option_map, refl, true, if◌then◌else◌, List, ℕ}
use Rattle.definitions.specs.Json.{named, text_at}
use Rattle.definitions.specs.Requests.{Op, Request, add_op, add_request, commit_op, commit_request, count_op, count_request, create_op, create_request, delete_op, delete_request, merge_op, merge_request, open_op, open_request, ops, request_for, request_in, search_op, search_request}
use Rattle.serde_json.specs.Data as json

-- the request of the name that was found
abbrev of_found : json.Data → Option (List ℕ × Op) → Option Request
of_found d found = option_and_then (λ op. request_for op d) (option_map (λ p. p.1) found)

-- a name before others
taken : (d : json.Data) (p : List ℕ × Op) (rest : Option (List ℕ × Op)) (test : Bool) (later : Option Request) → of_found d rest ≡ later → of_found d (cond test (Some p) rest) ≡ (if test then request_for p.1 d else later)
taken d p rest true later is = refl
taken d p rest false later is = is

-- the names that are left after as many
abbrev after : ℕ → List (List ℕ × Op)
after n = drop n ops

-- the request of a name
abbrev named_request : json.Data → List ℕ → Option Request
named_request d name = if bytes_eq name (codes "create") then create_request d else (if bytes_eq name (codes "open") then open_request d else (if bytes_eq name (codes "add") then add_request d else (if bytes_eq name (codes "delete") then delete_request d else (if bytes_eq name (codes "merge") then merge_request d else (if bytes_eq name (codes "commit") then commit_request d else (if bytes_eq name (codes "search") then search_request d else (if bytes_eq name (codes "count") then count_request d else None)))))))

found_by_name : (d : json.Data) (name : List ℕ) → of_found d (find (λ p. bytes_eq name p.0) ops) ≡ named_request d name
found_by_name d name =
    taken d (codes "create", create_op) (find (λ p. bytes_eq name p.0) (after 1)) (bytes_eq name (codes "create")) _
    (taken d (codes "open", open_op) (find (λ p. bytes_eq name p.0) (after 2)) (bytes_eq name (codes "open")) _
    (taken d (codes "add", add_op) (find (λ p. bytes_eq name p.0) (after 3)) (bytes_eq name (codes "add")) _
    (taken d (codes "delete", delete_op) (find (λ p. bytes_eq name p.0) (after 4)) (bytes_eq name (codes "delete")) _
    (taken d (codes "merge", merge_op) (find (λ p. bytes_eq name p.0) (after 5)) (bytes_eq name (codes "merge")) _
    (taken d (codes "commit", commit_op) (find (λ p. bytes_eq name p.0) (after 6)) (bytes_eq name (codes "commit")) _
    (taken d (codes "search", search_op) (find (λ p. bytes_eq name p.0) (after 7)) (bytes_eq name (codes "search")) _
    (taken d (codes "count", count_op) None (bytes_eq name (codes "count")) None refl)))))))

-- the request of a name that may be absent
named_at : (d : json.Data) (o : Option (List ℕ)) → option_and_then (λ name. option_and_then (λ op. request_for op d) (named ops name)) o ≡ option_and_then (named_request d) o
named_at d None = refl
named_at d (Some name) = found_by_name d name

-- the request in a value is that of its name
pub request_by_name : (d : json.Data) → request_in d ≡ option_and_then (named_request d) (text_at (codes "op") d)
request_by_name d = named_at d (text_at (codes "op") d)
