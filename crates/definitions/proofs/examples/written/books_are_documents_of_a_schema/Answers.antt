use Rattle.std.proofs.Common.{arith, codes, refl}
use Rattle.definitions.specs.Examples.{text_entry, indexed_entry}
use Rattle.definitions.specs.Schema.{IsEntry, u64_kind}
use Rattle.definitions.proofs.OnLiterals.{definitions_on_literals}
use Rattle.definitions.proofs.examples.written.books_are_documents_of_a_schema.Goals as goal

title_is_entry : IsEntry (text_entry "title")
unfolding definitions_on_literals
title_is_entry = record { good_name = refl; text_name = (codes "title", (refl, refl)); text_tokenizer = (codes "default", (refl, refl)); few_apart = omega arith; only_its_options = refl }

year_is_entry : IsEntry (indexed_entry "year" u64_kind)
unfolding definitions_on_literals
year_is_entry = record { good_name = refl; text_name = (codes "year", (refl, refl)); text_tokenizer = (codes "", (refl, refl)); few_apart = omega arith; only_its_options = refl }

pub returns-clause-schema : goal.returns-clause-schema
returns-clause-schema c = record { entries = (title_is_entry, (year_is_entry, tt)); distinct = (((λ e. cc), tt), (tt, tt)); count_fits = omega arith }
