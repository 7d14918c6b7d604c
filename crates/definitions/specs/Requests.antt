-- Requests as JSON: an object whose key `op` names the request.
use Rattle.std.specs.Prelude.{[], ◌∷◌, List, Option, Some, codes, ℕ}
use Rattle.definitions.specs.Json.{has_only, named, number_at, only_if, text_at, ◌>>=◌}
use Rattle.serde_json.specs.Find.{get}
use Rattle.serde_json.specs.Data as json

-- What a request asks for. A schema, settings, a document, a term or a query stands as it was sent.
pub data Request : Type 0 where
  create_index : json.Data → Option json.Data → Request
  open_index : Request
  add_doc : json.Data → Request
  delete_docs : json.Data → Request
  merge_groups : ℕ → ℕ → Request
  commit_all : Request
  search_docs : json.Data → ℕ → Request
  count_docs : json.Data → Request

-- the names of requests
pub data Op : Type 0 where
  create_op : Op
  open_op : Op
  add_op : Op
  delete_op : Op
  merge_op : Op
  commit_op : Op
  search_op : Op
  count_op : Op

-- the requests, each with its name
abbrev pub ops : List (List ℕ × Op)
ops = (codes "create", create_op) ∷ (codes "open", open_op) ∷ (codes "add", add_op) ∷ (codes "delete", delete_op) ∷ (codes "merge", merge_op) ∷ (codes "commit", commit_op) ∷ (codes "search", search_op) ∷ (codes "count", count_op) ∷ []

-- a new index; settings may be absent
abbrev pub create_request : json.Data → Option Request
create_request d = only_if (has_only (codes "op" ∷ codes "schema" ∷ codes "settings" ∷ []) d) (do
  schema ← get (codes "schema") d
  Some (create_index schema (get (codes "settings") d)))

-- the index that the device holds
abbrev pub open_request : json.Data → Option Request
open_request d = only_if (has_only (codes "op" ∷ []) d) (Some open_index)

-- a document to be added
abbrev pub add_request : json.Data → Option Request
add_request d = only_if (has_only (codes "op" ∷ codes "doc" ∷ []) d) (do
  doc ← get (codes "doc") d
  Some (add_doc doc))

-- a term whose documents are to be deleted
abbrev pub delete_request : json.Data → Option Request
delete_request d = only_if (has_only (codes "op" ∷ codes "term" ∷ []) d) (do
  t ← get (codes "term") d
  Some (delete_docs t))

-- groups to be merged
abbrev pub merge_request : json.Data → Option Request
merge_request d = only_if (has_only (codes "op" ∷ codes "from" ∷ codes "to" ∷ []) d) (do
  from ← number_at (codes "from") d
  to ← number_at (codes "to") d
  Some (merge_groups from to))

-- all that waits is to be seen
abbrev pub commit_request : json.Data → Option Request
commit_request d = only_if (has_only (codes "op" ∷ []) d) (Some commit_all)

-- the best k of the documents that match
abbrev pub search_request : json.Data → Option Request
search_request d = only_if (has_only (codes "op" ∷ codes "query" ∷ codes "k" ∷ []) d) (do
  q ← get (codes "query") d
  k ← number_at (codes "k") d
  Some (search_docs q k))

-- how many documents match
abbrev pub count_request : json.Data → Option Request
count_request d = only_if (has_only (codes "op" ∷ codes "query" ∷ []) d) (do
  q ← get (codes "query") d
  Some (count_docs q))

-- the request of that name, with no key but its own
abbrev pub request_for : Op → json.Data → Option Request
request_for create_op d = create_request d
request_for open_op d = open_request d
request_for add_op d = add_request d
request_for delete_op d = delete_request d
request_for merge_op d = merge_request d
request_for commit_op d = commit_request d
request_for search_op d = search_request d
request_for count_op d = count_request d

-- the request in a value, if it is one
abbrev pub request_in : json.Data → Option Request
request_in d = do
  name ← text_at (codes "op") d
  op ← named ops name
  request_for op d
