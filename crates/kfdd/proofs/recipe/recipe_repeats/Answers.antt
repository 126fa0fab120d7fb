use Rattle.kfdd.proofs.RecipeLaws.{recipe_repeats}
use Rattle.kfdd.proofs.recipe.recipe_repeats.Goals as goal

pub returns : goal.returns
returns g c = recipe_repeats g.A.Arithmetic.ring g.met.A.Arithmetic.closed g.met.A.Arithmetic.laws
