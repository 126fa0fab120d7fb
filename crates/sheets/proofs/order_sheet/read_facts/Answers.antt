use Rattle.std.proofs.Common.{List, [], Ok, Err, sym, ap, ◌∙◌, subst, rules}
use Rattle.std.proofs.lemmas.Result.{err_from_is_err_and}
use Rattle.model.specs.Orders.{facts_of}
use Rattle.model.specs.Refusals.{fault}
use Rattle.model.specs.declared.fact.Fact.{Fact}
use Rattle.sheets.specs.Cursors.{to_come}
use Rattle.sheets.specs.Lines.{Line, speaking}
use Rattle.sheets.specs.OrderSheets.{FactStep}
use Rattle.sheets.specs.Sheets.{Reads, done, goes_on, stops, unopened, opened}
use Rattle.sheets.proofs.order_sheet.read_facts.Goals as goal

pub returns-in_err-line-items : goal.returns-in_err-line-items
returns-in_err-line-items c =
    let p = err_from_is_err_and c.from_residual.result c.from_residual.ensures.1 in
    rw (p.1, p.2) (unopened _ c.in_err-line-items.ensures)

pub loop-line-init : goal.loop-line-init
loop-line-init c =
    let opening = c.in_ok-line-items.ensures in
    let lines = ap to_come c.into_iter-line-iterator.ensures.into_iter_gives ∙ ap speaking opening.1 in (
      search rules,
      search rules,
      λ r reads.
          let L : List Line → Type 0 = λ ls. Reads FactStep [] ls r in
          let S : List Fact → Type 0 = λ fs. Reads FactStep fs (to_come c.into_iter-line-iterator.result) r in
          opened opening.0 (subst L lines (subst S c.requires reads)),
    )

pub loop-line-preserved : goal.loop-line-preserved
loop-line-preserved c = (
  search rules,
  search rules,
  λ r rest.
      let L : List Line → Type 0 = λ ls. Reads FactStep (facts_of c.loop-line.order) ls r in
      c.loop-line.invariant.2 r (subst L (sym c.in-Some.ensures.steps) (goes_on _ c.in_ok-read_fact.ensures rest)),
)

pub returns-in_err-read_fact : goal.returns-in_err-read_fact
returns-in_err-read_fact c =
    let p = err_from_is_err_and c.from_residual-in_err-read_fact.result c.from_residual-in_err-read_fact.ensures.1 in
    let said = c.in_err-read_fact.ensures in
    let L : List Line → Type 0 = λ ls. Reads FactStep (facts_of c.loop-line.order) ls (Err (fault said.0 c.in-Some.line.line)) in
    rw (p.1, p.2, said.1) (c.loop-line.invariant.2 _ (subst L (sym c.in-Some.ensures.steps) (stops said.0 said.2)))

pub returns : goal.returns
returns c =
    let L : List Line → Type 0 = λ ls. Reads FactStep (facts_of c.loop-line.order) ls (Ok (facts_of c.loop-line.order)) in
    c.loop-line.invariant.2 _ (subst L (sym c.in-None.ensures.steps.0) done)
