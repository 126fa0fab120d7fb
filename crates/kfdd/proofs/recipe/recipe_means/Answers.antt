use Rattle.kfdd.proofs.RecipeLaws.{recipe_means}
use Rattle.kfdd.proofs.recipe.recipe_means.Goals as goal

pub returns : goal.returns
returns g c = recipe_means g.A.Arithmetic.ring g.met.A.Arithmetic.closed g.met.A.Arithmetic.laws
