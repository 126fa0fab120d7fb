-- The lists that reading a rule sheet fills, cut to what it read.
use Rattle.std.proofs.Common.{rules, ◌≡◌, ℕ, ◌-◌, List, ◌++◌, length, take, replicate, Ok, Err, Result, MatchResult, arith, ap, subst, ◌∙◌}
use Rattle.std.proofs.Math.Seq.{take-append_seam}
use Rattle.model.specs.Gates.{empty_gate}
use Rattle.model.specs.Outputs.{empty_output}
use Rattle.model.specs.declared.fact.Fact.{Fact}
use Rattle.model.specs.declared.fault.Fault.{Fault}
use Rattle.model.specs.declared.gate.Gate.{Gate}
use Rattle.model.specs.declared.output.Output.{Output}
use Rattle.sheets.specs.Notations.{marked_as}
use Rattle.sheets.specs.RuleSheets.{counted, gates_left, outputs_left, padded, ReadsRules, Room, room_of, Rules, RuleSheet}
use Rattle.sheets.specs.declared.counts.Counts.{Counts}
use Rattle.sheets.specs.declared.notation.Notation.{Notation}
use Rattle.sheets.specs.declared.symbol.Symbol.{Symbol}
use Rattle.std.specs.Result.{IsErrAnd}
use Rattle.programs.specs.Reading.{Judged}
use Rattle.programs.specs.declared.refused.Refused.{Refused}

pub front : {X : Type 0} (n : ℕ) (xs ys : List X) → n ≡ length xs → take n (xs ++ ys) ≡ xs
front n xs ys e = ap (λ k. take k (xs ++ ys)) e ∙ take-append_seam xs ys

cut : {X : Type 0} (empty : X) (n : ℕ) (xs : List X) → take (length xs) (padded empty n xs) ≡ xs
cut empty n xs = take-append_seam xs (replicate (n - length xs) empty)

from : (notation : Notation) (facts : List Fact) (room : Room) (text : List ℕ) (counts : Counts) (gates : List Gate) (outputs : List Output) (verdict : Result Rules Fault)
    → RuleSheet notation facts room text verdict → Ok counts ≡ counted verdict → gates ≡ gates_left room.gates verdict → outputs ≡ outputs_left room.outputs verdict
    → (symbols : List Symbol) × RuleSheet notation facts room text (Ok (record { symbols = symbols; gates = take counts.gates gates; outputs = take counts.outputs outputs }))
from notation facts room text counts gates outputs (Ok rules) judged answer gates_are outputs_are =
    let g : take counts.gates gates ≡ rules.gates = grind (arith, cut empty_gate room.gates rules.gates) in
    let o : take counts.outputs outputs ≡ rules.outputs = grind (arith, cut empty_output room.outputs rules.outputs) in
    (rules.symbols, rw (g, o) judged)
from notation facts room text counts gates outputs (Err f) judged answer gates_are outputs_are = grind arith

pub said : {facts : List Fact} {text : List ℕ} {notation : Notation} {room : Room} {r : Result Counts Fault} {m : Result Counts Refused} {gates gates' : List Gate} {outputs outputs' : List Output} (P : Fault → Refused → Type 0) (counts : Counts)
    → ReadsRules notation facts room text r gates outputs → MatchResult r (λ x. m ≡ Ok x) (λ e. IsErrAnd m (P e)) → m ≡ Ok counts
    → notation ≡ marked_as text → room ≡ room_of 1000 1000 64 → gates' ≡ take counts.gates gates → outputs' ≡ take counts.outputs outputs
    → (symbols : List Symbol) × Judged facts text (Ok (record { symbols = symbols; gates = gates'; outputs = outputs' }))
said {facts} {text} {notation} {room} {r = Ok x} {gates = gates} {outputs = outputs} P counts reads matched ok n o g h =
    let e : Ok counts ≡ Ok x = grind arith in
    let judged : RuleSheet (marked_as text) facts room text reads.verdict = subst (λ k. RuleSheet k facts room text reads.verdict) n reads.judged in
    let there : Judged facts text reads.verdict = subst (λ k. RuleSheet (marked_as text) facts k text reads.verdict) o judged in
    let left : gates ≡ gates_left 1000 reads.verdict = reads.gates_are ∙ ap (λ k. gates_left k.gates reads.verdict) o in
    let right : outputs ≡ outputs_left 64 reads.verdict = reads.outputs_are ∙ ap (λ k. outputs_left k.outputs reads.verdict) o in
    rw (g, h) (from (marked_as text) facts (room_of 1000 1000 64) text counts gates outputs reads.verdict there (e ∙ reads.answer) left right)
said {r = Err f} P counts reads matched ok n o g h = absurd (subst (λ m. IsErrAnd m (P f)) ok matched)
