use Rattle.kfdd.proofs.Examples.{examples}
use Rattle.kfdd.proofs.recipe.examples_stand.Goals as goal

pub returns : goal.returns
returns c = examples
