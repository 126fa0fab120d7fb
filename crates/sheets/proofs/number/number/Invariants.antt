use Rattle.sheets.proofs.Numerals.{Reading}
use Rattle.sheets.proofs.number.number.Given as goal

abbrev pub invariant-loop-b : goal.invariant-loop-b
invariant-loop-b l = Reading l.word l.b-index l.value
