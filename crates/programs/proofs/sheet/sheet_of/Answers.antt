use Rattle.std.proofs.Common.{rules, ◌∙◌, ap, take}
use Rattle.programs.proofs.Cuts.{front, said}
use Rattle.programs.proofs.sheet.sheet_of.Goals as goal

pub returns-clause-read : goal.returns-clause-read
returns-clause-read c =
    said _ c.in_ok-counts.counts c.read_rules.ensures.read c.map_err.ensures.cases (search rules) (search rules) (search rules)
    (c.truncate.ensures.items ∙ ap (take c.in_ok-counts.counts.gates) (front _ _ _ (search rules)))
    (c.truncate-2.ensures.items ∙ ap (take c.in_ok-counts.counts.outputs) (front _ _ _ (search rules)))
