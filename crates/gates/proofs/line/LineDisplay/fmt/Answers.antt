use Rattle.std.proofs.Common.{ℕ, List, ◌∷◌, ◌++◌, decimal, rules, sym, ◌∙◌, subst}
use Rattle.std.specs.Fmt.{HasWritten}
use Rattle.model.specs.Gates.{word_of}
use Rattle.gates.specs.Lines.{spaced}
use Rattle.gates.proofs.Shown.{shows_number, shows_one, shows_two}
use Rattle.gates.proofs.line.LineDisplay.fmt.Goals as goal

pub returns-in-0-clause-writes : goal.returns-in-0-clause-writes
returns-in-0-clause-writes g c plain ok =
    let line = c.args.self.now in
    let gate = line.gate in
    let W : List ℕ → Type 0 = λ ns. HasWritten g.W.Write.write_str_gives c.args.f.now (decimal line.signal ++ (32 ∷ (word_of line.kind ++ spaced ns))) c.write.new.self in
    subst W (sym (shows_number line.kind gate.number gate.first gate.second (sym (c.arity.ensures gate.first gate.second) ∙ c.in-0.is))) (search rules)

pub returns-in-1-clause-writes : goal.returns-in-1-clause-writes
returns-in-1-clause-writes g c plain ok =
    let line = c.args.self.now in
    let gate = line.gate in
    let W : List ℕ → Type 0 = λ ns. HasWritten g.W.Write.write_str_gives c.args.f.now (decimal line.signal ++ (32 ∷ (word_of line.kind ++ spaced ns))) c.write-in-1.new.self in
    subst W (sym (shows_one line.kind gate.number gate.first gate.second (sym (c.arity.ensures gate.first gate.second) ∙ c.in-1.is))) (search rules)

pub returns-in_default-clause-writes : goal.returns-in_default-clause-writes
returns-in_default-clause-writes g c plain ok =
    let line = c.args.self.now in
    let gate = line.gate in
    let W : List ℕ → Type 0 = λ ns. HasWritten g.W.Write.write_str_gives c.args.f.now (decimal line.signal ++ (32 ∷ (word_of line.kind ++ spaced ns))) c.write-in_default.new.self in
    let uses = c.arity.ensures gate.first gate.second in
    subst W (sym (shows_two line.kind gate.number gate.first gate.second (λ e. search (rules, uses, e)) (λ e. search (rules, uses, e)))) (search rules)
