use Rattle.std.proofs.Common.{ap}
use Rattle.model.specs.Outputs.{empty_name, output_of}
use Rattle.model.proofs.Spelling.{same_name}
use Rattle.model.proofs.output.Output.empty.Goals as goal

pub returns-clause-whole : goal.returns-clause-whole
returns-clause-whole c = ap (λ n. output_of n 0) (same_name c.empty.result empty_name c.empty.ensures)
