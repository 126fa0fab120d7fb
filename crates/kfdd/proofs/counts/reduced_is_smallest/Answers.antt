use Rattle.kfdd.proofs.Reaching.{marks_reached}
use Rattle.kfdd.proofs.Smallest.{smallest}
use Rattle.kfdd.proofs.counts.reduced_is_smallest.Goals as goal

pub returns : goal.returns
returns g c = record {
  marks = marks_reached g.A.Arithmetic.ring;
  smallest = smallest g.A.Arithmetic.ring g.met.A.Arithmetic.closed g.met.A.Arithmetic.laws;
}
