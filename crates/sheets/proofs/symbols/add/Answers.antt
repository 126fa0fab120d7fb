use Rattle.table.specs.Tables.{capacity_of, keys_of}
use Rattle.sheets.proofs.Lookups.{adds_fresh}
use Rattle.sheets.proofs.symbols.add.Goals as goal

pub returns : goal.returns
returns c =
    let said = c.find_or_add.ensures in
    let names = c.args.names.now in
    record {
      keys = adds_fresh (capacity_of names) (keys_of names) (keys_of c.find_or_add.new.self) c.args.symbol c.find_or_add.result names.apart c.requires.fresh c.requires.room said.keys;
      capacity = said.memory.capacity;
    }
