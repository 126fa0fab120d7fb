-- The table of the names that a rule sheet knows.
use Rattle.table.specs.declared.table.Table.{Table}
use Rattle.sheets.specs.contracts.symbol.SymbolKey.TheImpl as hashed
use Rattle.sheets.specs.contracts.symbol.SymbolPartialEq.TheImpl as compared
use Rattle.sheets.specs.declared.symbol.Symbol.{Symbol}

abbrev pub SymbolTable : Type 0
SymbolTable = Table Symbol hashed.ghosts compared.ghosts
