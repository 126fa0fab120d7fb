use Rattle.std.proofs.Common.{◌≡◌, ◌-◌, take, ap, ◌∙◌, arith}
use Rattle.model.specs.Spelling.{spelling}
use Rattle.sheets.specs.RuleSheets.{lists}
use Rattle.sheets.proofs.Lookups.{lists_any}
use Rattle.sheets.proofs.draft.Draft.lists.Goals as goal

pub returns : goal.returns
returns c =
    let n = c.args.self.now.output_count in
    let e : n - 0 ≡ n = omega arith in
    c.is_listed.ensures ∙ lists_any _ c.args.name ∙ ap (λ k. lists (take k c.args.self.now.outputs.now) (spelling c.args.name)) e
