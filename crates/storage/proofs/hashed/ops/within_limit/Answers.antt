use Rattle.std.proofs.Common.{sym, arith}
use Rattle.std.proofs.lemmas.List.{length-take-le}
use Rattle.storage.proofs.hashed.ops.within_limit.Goals as goal

pub slice_bounds-result-end : goal.slice_bounds-result-end
slice_bounds-result-end c = sym (length-take-le 1048576 c.args.cells.now (omega arith))

pub returns-else-cells-le-LIMIT : goal.returns-else-cells-le-LIMIT
returns-else-cells-le-LIMIT c = record { long = omega (arith, length-take-le 1048576 c.args.cells.now (omega arith)); lent = λ few. absurd (omega arith) }
