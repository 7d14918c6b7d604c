-- The head that the code takes.
use Rattle.document_values.specs.Shown.{value_of}
use Rattle.layouts.specs.DocumentReading as taking
use Rattle.document_values.specs.declared.heads.Head.{Head}
use Rattle.document_values.specs.declared.heads.Head.TheVariants.{Array, Leaf, Object}

abbrev pub head_of : Head → taking.Head
head_of (Leaf v) = taking.leaf (value_of v)
head_of (Array n) = taking.array_head n
head_of (Object n) = taking.object_head n
