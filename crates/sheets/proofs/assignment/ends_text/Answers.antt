use Rattle.std.proofs.Common.{refl, inl, arith, ltb-false, ltb-true}
use Rattle.std.proofs.lemmas.List.{nil_from_length}
use Rattle.sheets.proofs.DigitLines.{one_byte_ends}
use Rattle.sheets.proofs.assignment.ends_text.Goals as goal

pub returns-in-empty : goal.returns-in-empty
returns-in-empty c = (λ _. inl (nil_from_length c.args.rest.now (omega (arith, ltb-true, ltb-false))), λ _. refl)

pub returns-in-len1 : goal.returns-in-len1
returns-in-len1 c = one_byte_ends c.args.rest.now (omega (arith, ltb-true, ltb-false))
