use Rattle.kfdd.proofs.CanonicalNumbers.{canonical}
use Rattle.kfdd.proofs.recipe.canonical_form.Goals as goal

pub returns : goal.returns
returns g c = canonical g.A.Arithmetic.ring g.met.A.Arithmetic.closed g.met.A.Arithmetic.laws
