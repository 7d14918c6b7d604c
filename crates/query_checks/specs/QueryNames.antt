-- The forms of queries, as the definitions have them.
use Rattle.definitions.specs.QueryGrammar as definitions
use Rattle.query_checks.specs.declared.query_forms.Form.{Form}
use Rattle.query_checks.specs.declared.query_forms.Form.TheVariants.{All, Boolean, Boost, ConstScore, DisjunctionMax, Empty, Phrase, PhrasePrefix, Term}

-- a form
abbrev pub form_of : Form → definitions.Form
form_of All = definitions.all_form
form_of Empty = definitions.none_form
form_of Term = definitions.term_form
form_of Phrase = definitions.phrase_form
form_of PhrasePrefix = definitions.prefix_form
form_of Boolean = definitions.bool_form
form_of DisjunctionMax = definitions.dismax_form
form_of Boost = definitions.boost_form
form_of ConstScore = definitions.const_form
