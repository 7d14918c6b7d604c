-- The tokens by which a text is asked for: of two words that are a pair the pair alone.
use Rattle.std.specs.Prelude.{[], ◌&&◌, ◌+◌, ◌==◌, ◌||◌, ◌∷◌, Bool, List, None, Option, Some, false, if◌then◌else◌}
use Rattle.definitions.specs.Analyzers.{Analyzer}
use Rattle.definitions.specs.Values.{Token}
use Rattle.languages.specs.Tokens.{languages}

-- whether a word is the second of the pair before it
abbrev pub is_second : Option Token → Token → Bool
is_second None token = false
is_second (Some pair) token = token.position_length == 1 && pair.position_length == 2 && pair.position + 1 == token.position

-- whether a word is the first of the pair behind it
abbrev pub is_first : Token → List Token → Bool
is_first token [] = false
is_first token (pair ∷ _) = token.position_length == 1 && pair.position_length == 2 && pair.position == token.position

-- the tokens without the words of pairs beside them; the token before the first one is given
unfoldable pub asked_behind : Option Token → List Token → List Token
asked_behind before [] = []
asked_behind before (token ∷ behind) =
    let rest = asked_behind (Some token) behind in
    if is_second before token || is_first token behind then rest else token ∷ rest

abbrev pub asked : List Token → List Token
asked tokens = asked_behind None tokens

-- the analyzer by which texts are asked for
abbrev pub asked_languages : Analyzer
asked_languages name s = asked (languages name s)
