-- Assignments to the facts of an order, as numbers.
use Rattle.std.specs.Prelude.{◌≡◌, ℕ, zero, suc, ◌+◌, ◌^◌, ◌<◌, Bool, cond, List}
use Rattle.model.specs.Assignments.{holds}
use Rattle.model.specs.Rings.{Ring}
use Rattle.model.specs.declared.root.Root.{Root}
use Rattle.model.specs.declared.decomposition.Decomposition.{Decomposition}
use Rattle.model.specs.declared.node.Node.{Node}
use Rattle.kfdd.specs.Values.{value}

-- the sum of 2 ^ i over the facts i below n that hold under x
abbrev pub number : ℕ → (ℕ → Bool) → ℕ
number zero x = 0
number (suc n) x = number n x + cond (x n) (2 ^ n) 0

-- every choice of which facts below n hold has exactly one number below 2 ^ n
pub record OneNumber (n : ℕ) (x : ℕ → Bool) : Type 0 where
  pub below : number n x < 2 ^ n
  pub agrees : (i : ℕ) → i < n → holds (number n x) i ≡ x i
  pub only : (y : ℕ) → y < 2 ^ n → ((i : ℕ) → i < n → holds y i ≡ x i) → y ≡ number n x

-- what a root is worth under the assignment number x
abbrev pub worth : Ring → List Decomposition → List Node → Root → ℕ → ℕ
worth R types ns r x = value R types (holds x) ns r
