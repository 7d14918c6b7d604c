-- Analyzers: how a text is cut into tokens.
use Rattle.std.specs.Prelude.{[], ◌||◌, ◌∷◌, Bool, IsUtf8, List, None, Option, Some, bytes_eq, codes, filter, filter_map, if◌then◌else◌, length, map, nat_le, not, ℕ}
use Rattle.std.specs.List.{enumerate_from, slice_split}
use Rattle.std.specs.Char.{is_ascii_alphanumeric, to_ascii_lowercase}
use Rattle.definitions.specs.Values.{AreTokens, Token, Value, pre_tok_str, str}

-- a name and a text give tokens
abbrev pub Analyzer : Type 0
Analyzer = List ℕ → List ℕ → List Token

-- a token of one place
abbrev pub one_token : ℕ → List ℕ → Token
one_token place s = record { position = place; position_length = 1; text = s }

-- one token, the whole text
abbrev pub raw : List ℕ → List Token
raw s = one_token 0 s ∷ []

-- ASCII letters and digits, and every byte of a character past ASCII
abbrev pub is_word_byte : ℕ → Bool
is_word_byte b = is_ascii_alphanumeric b || nat_le 128 b

-- the longest runs of word bytes: the parts round the other bytes that aren't empty
abbrev pub runs : List ℕ → List (List ℕ)
runs s = filter (λ run. not (bytes_eq run [])) (slice_split (λ b. not (is_word_byte b)) s)

-- the longest run that is a token
abbrev pub max_run_len : ℕ
max_run_len = 40

-- a run and its number; a longer one takes its number and gives no token
abbrev pub run_token : ℕ × List ℕ → Option Token
run_token r = if nat_le (length r.1) max_run_len then Some (one_token r.0 (map to_ascii_lowercase r.1)) else None

-- the runs, numbered from 0, with ASCII letters lowered
abbrev pub default_tokens : List ℕ → List Token
default_tokens s = filter_map run_token (enumerate_from 0 (runs s))

-- whether it is a name that the analyzer below knows
abbrev pub is_raw_or_default : List ℕ → Bool
is_raw_or_default name = bytes_eq name (codes "raw") || bytes_eq name (codes "default")

-- the analyzer of these two names
abbrev pub raw_and_default : Analyzer
raw_and_default name s = if bytes_eq name (codes "raw") then raw s else (if bytes_eq name (codes "default") then default_tokens s else [])

-- the longest token that is indexed
abbrev pub max_token_len : ℕ
max_token_len = 65530

-- longer tokens are dropped, and count nowhere
abbrev pub kept : List Token → List Token
kept ts = filter (λ t. nat_le (length t.text) max_token_len) ts

-- the tokens of a text value, of a pre-tokenised one its own
abbrev pub tokens_of : Analyzer → List ℕ → Value → Option (List Token)
tokens_of analyze tokenizer (str s) = Some (kept (analyze tokenizer s))
tokens_of analyze tokenizer (pre_tok_str s ts) = Some (kept ts)
tokens_of analyze tokenizer _ = None

-- of a text, positions don't fall
abbrev pub IsAnalyzer : Analyzer → Type 0
IsAnalyzer analyze = (name s : List ℕ) → IsUtf8 s → AreTokens (analyze name s)
