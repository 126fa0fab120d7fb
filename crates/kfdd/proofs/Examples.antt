-- The examples, by computing.
use Rattle.std.proofs.Common.{refl}
use Rattle.kfdd.specs.Joining.{join}
use Rattle.kfdd.specs.Recipe.{sum, minus, times}
use Rattle.kfdd.specs.NetRecipe.{build_net}
use Rattle.kfdd.specs.Examples.{Examples}
use Rattle.kfdd.proofs.ComparedExamples.{compared_examples}

pub examples : Examples
unfolding join sum minus times build_net
examples = record {
  s_yes_no = refl;
  s_amounts = refl;
  n_yes_no = refl;
  n_amounts = refl;
  s_twice_yes_no = refl;
  n_twice_yes_no = refl;
  s_twice_amounts = refl;
  n_twice_amounts = refl;
  product = λ o. refl;
  no_room = λ o. refl;
  told_as = (refl, refl);
  product_and_sum = λ o. refl;
  compared = compared_examples;
}
