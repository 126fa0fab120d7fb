use Rattle.std.proofs.Common.{take, sym, ap, ◌∙◌, arith}
use Rattle.std.proofs.lemmas.List.{take-take, take_all}
use Rattle.table.specs.Tables.{keys_of}
use Rattle.table.proofs.table.Table.cut.Goals as goal

pub loop-preserved : goal.loop-preserved
loop-preserved g c =
    let so = c.loop.invariant in
    let said = c.drop_last.ensures in
    record {
      len = omega (arith, so.len);
      keys = ap (take c.args.count) said.keys ∙ take-take c.args.count _ (keys_of c.loop.self) (omega (arith, so.len)) ∙ so.keys;
      memory = record { capacity = said.memory.capacity ∙ so.memory.capacity; lent = said.memory.lent ∙ so.memory.lent };
    }

pub returns-clause-keys : goal.returns-clause-keys
returns-clause-keys g c = sym (take_all c.args.count (keys_of c.loop.self) (omega (arith, c.loop.self.count, c.loop.invariant.len))) ∙ c.loop.invariant.keys
