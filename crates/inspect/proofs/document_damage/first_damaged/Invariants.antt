-- The segments that are left, and that those before them are whole.
use Rattle.std.proofs.Common.{drop, take, ◌≡◌}
use Rattle.std.specs.List.{AllByRecursion}
use Rattle.inspect.specs.Documents.{IsWhole}
use Rattle.inspect.proofs.document_damage.first_damaged.Given as goal

abbrev pub invariant-loop-number : goal.invariant-loop-number
invariant-loop-number l = record {
  left : l.left.items ≡ drop l.number l.fn.members.items;
  read : AllByRecursion (IsWhole l.schema) (take l.number l.fn.members.items);
}
