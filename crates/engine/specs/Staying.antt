-- What no call of an engine changes.
use Rattle.std.specs.Prelude.{◌≡◌, ℕ}
use Rattle.storage.specs.Stores.{KeepsMemory}
use Rattle.engine.specs.declared.engine.Engine.{Engine}

-- the order, the capacity of the store, and the memory that was lent to the store and to the memo
pub record Stays {A S M : Type 0} {a : _} {s : _} {m : _} (room lent : S → ℕ) (lent_memo : M → ℕ) (before after : Engine A S M a s m) : Type 0 where
  pub order : after.order ≡ before.order
  pub store : KeepsMemory room lent before.store after.store
  pub memo : lent_memo after.memo ≡ lent_memo before.memo
