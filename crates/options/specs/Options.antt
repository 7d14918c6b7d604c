-- What the options of a field say.
use Rattle.std.specs.Prelude.{⊤, ◌||◌, ◌≡◌, ◌⊎◌, Bool, List, None, Option, Some, codes, false, true, ℕ}
use Rattle.std.specs.Option.{option_or}
use Rattle.definitions.specs.Schema.{IndexRecordOption, basic, with_freqs_and_positions}

-- how the texts of a text or JSON field are indexed; `gap` is of text fields alone
pub record Indexing : Type 0 where
  pub tokenizer : List ℕ
  pub fieldnorms : Bool
  pub record_option : IndexRecordOption
  pub gap : ℕ

-- what the options of a text field say
pub record TextData : Type 0 where
  pub stored : Bool
  pub indexing : Option Indexing
  pub fast : Bool
  pub coerce : Bool

-- what the options of a number or bool field say
pub record NumericData : Type 0 where
  pub stored : Bool
  pub indexed : Bool
  pub fieldnorms : Bool
  pub fast : Bool
  pub coerce : Bool

-- what the options of a date, bytes or address field say
pub record ValueData : Type 0 where
  pub stored : Bool
  pub indexed : Bool
  pub fieldnorms : Bool
  pub fast : Bool

-- what the options of a facet field say
pub record FacetData : Type 0 where
  pub stored : Bool

-- what the options of a JSON field say
pub record JsonData : Type 0 where
  pub stored : Bool
  pub indexing : Option Indexing
  pub fast : Bool
  pub expand_dots : Bool

-- the names of the analyzers that are always there
abbrev pub IsKnownTokenizer : List ℕ → Type 0
IsKnownTokenizer name = (name ≡ codes "raw") ⊎ (name ≡ codes "default")

-- not indexed, or by an analyzer that is always there
abbrev pub HasKnownTokenizer : Option Indexing → Type 0
HasKnownTokenizer None = ⊤
HasKnownTokenizer (Some i) = IsKnownTokenizer i.tokenizer

-- the analyzer `default`, documents and lengths, and a gap of 1
abbrev pub default_indexing : Indexing
default_indexing = record { tokenizer = codes "default"; fieldnorms = true; record_option = basic; gap = 1 }

-- nothing set
abbrev pub default_text : TextData
default_text = record { stored = false; indexing = None; fast = false; coerce = false }

-- nothing set
abbrev pub default_numeric : NumericData
default_numeric = record { stored = false; indexed = false; fieldnorms = false; fast = false; coerce = false }

-- nothing set
abbrev pub default_value : ValueData
default_value = record { stored = false; indexed = false; fieldnorms = false; fast = false }

-- nothing set
abbrev pub default_facet : FacetData
default_facet = record { stored = false }

-- nothing set
abbrev pub default_json : JsonData
default_json = record { stored = false; indexing = None; fast = false; expand_dots = false }

-- the analyzer `default`, positions and lengths
abbrev pub text_constant : TextData
text_constant = record default_text { indexing = Some (record default_indexing { record_option = with_freqs_and_positions }) }

-- the analyzer `raw`, documents and lengths
abbrev pub string_constant : TextData
string_constant = record default_text { indexing = Some (record default_indexing { tokenizer = codes "raw" }) }

-- what either says, and the indexing of the first where it has one
abbrev pub text_or : TextData → TextData → TextData
text_or a b = record { stored = a.stored || b.stored; indexing = option_or a.indexing b.indexing; fast = a.fast || b.fast; coerce = a.coerce || b.coerce }

-- what either says
abbrev pub numeric_or : NumericData → NumericData → NumericData
numeric_or a b = record { stored = a.stored || b.stored; indexed = a.indexed || b.indexed; fieldnorms = a.fieldnorms || b.fieldnorms; fast = a.fast || b.fast; coerce = a.coerce || b.coerce }

-- what either says
abbrev pub value_or : ValueData → ValueData → ValueData
value_or a b = record { stored = a.stored || b.stored; indexed = a.indexed || b.indexed; fieldnorms = a.fieldnorms || b.fieldnorms; fast = a.fast || b.fast }

-- what either says
abbrev pub facet_or : FacetData → FacetData → FacetData
facet_or a b = record { stored = a.stored || b.stored }

-- what either says, and the indexing of the first where it has one
abbrev pub json_or : JsonData → JsonData → JsonData
json_or a b = record { stored = a.stored || b.stored; indexing = option_or a.indexing b.indexing; fast = a.fast || b.fast; expand_dots = a.expand_dots || b.expand_dots }
