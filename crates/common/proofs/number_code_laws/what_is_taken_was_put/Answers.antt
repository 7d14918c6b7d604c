use Rattle.common.proofs.TakenBack.{bytes_put, text_put, u32_put, u64_put, vint_put}
use Rattle.common.proofs.number_code_laws.what_is_taken_was_put.Goals as goal

pub returns-clause-vint : goal.returns-clause-vint
returns-clause-vint c = λ bs rest n. vint_put bs n rest

pub returns-clause-u32 : goal.returns-clause-u32
returns-clause-u32 c = λ bs rest n. u32_put bs n rest

pub returns-clause-u64 : goal.returns-clause-u64
returns-clause-u64 c = λ bs rest n. u64_put bs n rest

pub returns-clause-bytes : goal.returns-clause-bytes
returns-clause-bytes c = λ bs rest xs. bytes_put bs xs rest

pub returns-clause-text : goal.returns-clause-text
returns-clause-text c = λ bs rest text. text_put bs text rest
