use Rattle.engine.proofs.Parts.{sum_parts, minus_parts, product_parts_shannon, product_parts_davio}
use Rattle.engine.proofs.diagrams.Diagrams.parts.Goals as goal

pub returns-in-Sum : goal.returns-in-Sum
returns-in-Sum g c =
    let laws = g.met.A.Arithmetic in
    sum_parts g.A.Arithmetic.ring laws.closed laws.laws _ _ c.requires.reduced c.args.question c.requires.held c.requires.long c.args.fact c.requires.topmost
    c.in-Sum.a c.in-Sum.b _ _ c.split-a.ensures c.split-b.ensures c.in-Sum.is

pub returns-in-Minus : goal.returns-in-Minus
returns-in-Minus g c =
    let laws = g.met.A.Arithmetic in
    minus_parts g.A.Arithmetic.ring laws.closed laws.laws _ _ c.requires.reduced c.args.question c.requires.held c.requires.long c.args.fact c.requires.topmost
    c.in-Minus.a _ c.split-a-in-Minus.ensures c.in-Minus.is

pub returns-in-Shannon : goal.returns-in-Shannon
returns-in-Shannon g c =
    let laws = g.met.A.Arithmetic in
    product_parts_shannon g.A.Arithmetic.ring laws.closed laws.laws _ _ c.requires.reduced c.args.question c.requires.held c.requires.long c.args.fact c.requires.topmost
    c.in-Times.a c.in-Times.b _ _ c.split-a-in-Times.ensures c.split-b-in-Times.ensures c.in-Times.is _ c.decomposition.ensures c.in-Shannon.is

pub returns-in-PositiveDavio : goal.returns-in-PositiveDavio
returns-in-PositiveDavio g c =
    let laws = g.met.A.Arithmetic in
    product_parts_davio g.A.Arithmetic.ring laws.closed laws.laws _ _ c.requires.reduced c.args.question c.requires.held c.requires.long c.args.fact c.requires.topmost
    c.in-Times.a c.in-Times.b _ _ c.split-a-in-Times.ensures c.split-b-in-Times.ensures c.in-Times.is _ c.decomposition.ensures c.in-PositiveDavio.is
