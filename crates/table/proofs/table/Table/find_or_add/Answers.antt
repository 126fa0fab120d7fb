use Rattle.std.proofs.Common.{ℕ, List, [], ◌∷◌, ◌++◌, Ok, sym, ◌∙◌, subst, arith}
use Rattle.table.specs.Tables.{capacity_of, keys_of, FindsOrAdds, found, appended, refused}
use Rattle.table.proofs.table.Table.find_or_add.Goals as goal

pub returns-in-Some-clause-keys : goal.returns-in-Some-clause-keys
returns-in-Some-clause-keys g c = found c.in-Some.number c.in-Some.ensures

pub returns-then-number-self-clause-keys : goal.returns-then-number-self-clause-keys
returns-then-number-self-clause-keys g c = refused _ c.in_default.ensures (c.args.self.now.count ∙ c.if-number-self.true)

pub append-requires : goal.append-requires
append-requires g c = record { absent = c.in_default.ensures; room = omega (arith, c.args.self.now.count, c.args.self.now.filled.few) }

pub returns-clause-keys : goal.returns-clause-keys
returns-clause-keys g c =
    let t = c.args.self.now in
    let F : ℕ → List g.row.K.Denot → Type 0 = λ n ks. FindsOrAdds g.K.PartialEq.eq (capacity_of t) (keys_of t) c.args.key (Ok n) ks in
    let new = appended c.in_default.ensures (omega (arith, t.count, t.filled.few)) in
    subst (F _) (sym c.append.ensures.keys) (subst (λ n. F n (keys_of t ++ (c.args.key ∷ []))) t.count new)
