-- Texts as they are compared: without case, and in one form of Unicode.
use Rattle.std.specs.Prelude.{List, ℕ}
use Rattle.caseless.specs.Caseless.{default_case_fold}
use Rattle.unicode_normalization.specs.Forms.{nfd, nfkc, nfkd}

-- the characters of a text without case: the key of Unicode's compatibility caseless matching, in NFKC where that has NFKD
abbrev pub folded : List ℕ → List ℕ
folded cs = nfkc (default_case_fold (nfkd (default_case_fold (nfd cs))))
