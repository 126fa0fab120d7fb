use Rattle.std.proofs.Common.{refl, inr, arith}
use Rattle.std.proofs.lemmas.Result.{err_from_is_err_and}
use Rattle.storage.proofs.Stored.{placed_at, placed_small, refused_full}
use Rattle.storage_cases.proofs.generic.recall_or_add.Goals as goal

pub returns-in_err-find_or_add : goal.returns-in_err-find_or_add
returns-in_err-find_or_add g c =
    let p = err_from_is_err_and c.from_residual.result c.from_residual.ensures.1 in
    rw (p.1, p.2) (refused_full _ _ c.args.node c.in_err-find_or_add.field-0.0 _ c.in_err-find_or_add.ensures.nodes)

pub overflow_cast-root : goal.overflow_cast-root
overflow_cast-root g c =
    omega (arith, placed_small _ _ c.args.node c.in_ok-find_or_add.field-0 _ (g.met.S.Store.stored c.args.store.now) c.in_ok-find_or_add.ensures.nodes)

pub returns : goal.returns
returns g c = inr (c.in_ok-find_or_add.field-0, refl, placed_at _ _ c.args.node c.in_ok-find_or_add.field-0 _ c.in_ok-find_or_add.ensures.nodes)
