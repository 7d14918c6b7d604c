-- Replies as JSON.
use Rattle.std.specs.Prelude.{[], ◌∷◌, List, codes, true, ℕ}
use Rattle.definitions.specs.FaultNames.{name_of}
use Rattle.definitions.specs.Json.{object_of}
use Rattle.definitions.specs.Printed.{printed_named}
use Rattle.definitions.specs.Scanning.{Hit}
use Rattle.definitions.specs.declared.fault.Fault.{Fault}
use Rattle.serde_json.specs.Written.{compact_text}
use Rattle.serde_json.specs.Data as json

-- what a request that only changes something is answered
abbrev pub ok_reply : json.Data
ok_reply = object_of ((codes "ok", json.boolean true) ∷ [])

-- what a request that is refused is answered
abbrev pub error_reply : Fault → json.Data
error_reply fault = object_of ((codes "error", json.string (name_of fault)) ∷ [])

-- a number as JSON
abbrev pub number_data : ℕ → json.Data
number_data n = json.number (json.unsigned n)

-- a hit's document, as it is stored, and its score
abbrev pub hit_data : Hit → json.Data
hit_data h = object_of ((codes "doc", printed_named h.1) ∷ (codes "score", number_data h.0) ∷ [])

-- the hits in order
abbrev pub hits_data : List Hit → json.Items
hits_data [] = json.no_items
hits_data (h ∷ hs) = json.item (hit_data h) (hits_data hs)

-- what a search is answered
abbrev pub hits_reply : List Hit → json.Data
hits_reply hs = object_of ((codes "hits", json.array (hits_data hs)) ∷ [])

-- what a count is answered
abbrev pub count_reply : ℕ → json.Data
count_reply n = object_of ((codes "count", number_data n) ∷ [])

-- the text of a reply, without spaces
abbrev pub reply_of : json.Data → List ℕ
reply_of d = compact_text d
