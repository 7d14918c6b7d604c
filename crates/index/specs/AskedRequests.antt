-- Requests as the definitions have them.
use Rattle.std.specs.Prelude.{option_map}
use Rattle.definitions.specs.Requests as definitions
use Rattle.index.specs.declared.requests.IndexRequest.{IndexRequest}
use Rattle.index.specs.declared.requests.IndexRequest.TheVariants.{Add, Commit, Count, Delete, Merge, Search}
use Rattle.index.specs.declared.requests.Request.{Request}
use Rattle.index.specs.declared.requests.Request.TheVariants.{Create, Index, Open}
use Rattle.serde_json.specs.View.{view}

-- what is asked of an index
abbrev pub index_request_of : IndexRequest → definitions.Request
index_request_of (Add doc) = definitions.add_doc (view doc.now)
index_request_of (Delete term) = definitions.delete_docs (view term.now)
index_request_of (Merge from to) = definitions.merge_groups from to
index_request_of Commit = definitions.commit_all
index_request_of (Search query k) = definitions.search_docs (view query.now) k
index_request_of (Count query) = definitions.count_docs (view query.now)

-- what a request that was read asks for
abbrev pub request_of : Request → definitions.Request
request_of (Create schema settings) =
    definitions.create_index (view schema.now) (option_map (λ d. view d.now) settings)
request_of Open = definitions.open_index
request_of (Index request) = index_request_of request
