use Rattle.kfdd.proofs.Assignments.{one_number}
use Rattle.kfdd.proofs.AssignmentOrder.{strict_order}
use Rattle.kfdd.proofs.FirstDifference.{first_difference}
use Rattle.kfdd.proofs.comparing.walk_finds_first.Goals as goal

pub returns : goal.returns
returns g c = record {
  numbers = one_number;
  order = strict_order;
  first = first_difference g.A.Arithmetic.ring g.met.A.Arithmetic.closed g.met.A.Arithmetic.laws;
}
