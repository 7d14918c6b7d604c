-- What a character is to the words round it.
use Rattle.std.specs.Prelude.{◌||◌, Bool, false, if◌then◌else◌, true, ℕ}
use Rattle.std.specs.Int.{is_in_range}
use Rattle.ucd_category.specs.declared.GeneralCategoryGroup.TheVariants.{Letter, Mark, Number}
use Rattle.ucd_category.specs.GeneralCategory.{general_category}
use Rattle.ucd_category.specs.GeneralCategoryGroup.{in_group}
use Rattle.ucd_script.specs.declared.Script.{Script}
use Rattle.ucd_script.specs.declared.Script.TheVariants.{Han, Hiragana, Katakana, Khmer as KhmerScript, Lao as LaoScript, Myanmar as MyanmarScript, Thai as ThaiScript}
use Rattle.ucd_script.specs.Script.{script}
use Rattle.languages.specs.declared.writing.Writing.{Writing}
use Rattle.languages.specs.declared.writing.Writing.TheVariants.{HanAndKana, Khmer, Lao, Myanmar, Spaced, Thai}

-- a mark: an accent, a vowel sign, a sign of voicing
abbrev pub is_mark : ℕ → Bool
is_mark c = in_group Mark (general_category c)

-- letters, marks and digits are characters of words; every other one separates
abbrev pub is_word_char : ℕ → Bool
is_word_char c = in_group Letter (general_category c) || in_group Mark (general_category c) || in_group Number (general_category c)

-- letters of Japanese that belong to no one script: 〆, 〱 to 〵, 〼 and ー
abbrev pub is_shared_letter : ℕ → Bool
is_shared_letter c = is_in_range 0x3006 0x3006 c || is_in_range 0x3031 0x3035 c || is_in_range 0x303C 0x303C c || is_in_range 0x30FC 0x30FC c

-- whether the words of a script stand apart, or side by side
abbrev pub writing_of : Script → Writing
writing_of Han = HanAndKana
writing_of Hiragana = HanAndKana
writing_of Katakana = HanAndKana
writing_of ThaiScript = Thai
writing_of LaoScript = Lao
writing_of KhmerScript = Khmer
writing_of MyanmarScript = Myanmar
writing_of _ = Spaced

-- the same of a character
abbrev pub writing : ℕ → Writing
writing c = if is_shared_letter c then HanAndKana else writing_of (script c)

-- whether words of that writing stand apart
abbrev pub is_spaced : Writing → Bool
is_spaced Spaced = true
is_spaced _ = false

-- whether two words in a row stand side by side, in one writing
abbrev pub are_neighbours : Writing → Writing → Bool
are_neighbours HanAndKana HanAndKana = true
are_neighbours Thai Thai = true
are_neighbours Lao Lao = true
are_neighbours Khmer Khmer = true
are_neighbours Myanmar Myanmar = true
are_neighbours _ _ = false
