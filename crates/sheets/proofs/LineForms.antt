-- A line of a rule sheet has one form.
use Rattle.std.proofs.Common.{◌≡◌, ℕ, List, [], get_or, drop, sym, refl, ap, ◌∙◌, arith}
use mathlib.Core.HLevel.{is_prop→PathP}
use native.Mathlib.Nat.{ℕ_set}
use Rattle.std.proofs.lemmas.Bool.{true≢false, false≢true}
use Rattle.model.specs.Gates.{word_of}
use Rattle.model.specs.declared.gate.GateKind.{GateKind}
use Rattle.model.specs.declared.gate.GateKind.TheVariants.{Const}
use Rattle.sheets.specs.Notations.{Side, side_tokens}
use Rattle.sheets.specs.RuleSheets.{definition, Form, output, RuleLine}
use Rattle.sheets.specs.Sides.{arity_of, binary, constant, GateSide, gate_tokens, unary, Word}
use Rattle.sheets.specs.declared.notation.Notation.{Notation}
use Rattle.sheets.specs.declared.notation.Notation.TheVariants.{Gates, Formulas}
use Rattle.sheets.proofs.Atoms.{one_numeral, one_word}
use Rattle.sheets.proofs.FormulaSpelling.{one_formula}
use Rattle.sheets.proofs.GateSides.{one_kind}

-- ---- right-hand sides of gate sheets

unary_alike : (k j : GateKind) (one : arity_of k ≡ 1) (one' : arity_of j ≡ 1) (a b : Word) → k ≡ j → a ≡ b → ◌≡◌ {A = GateSide} (unary k one a) (unary j one' b)
unary_alike k j one one' a b e f i = unary (e i) (is_prop→PathP (λ i. arity_of (e i) ≡ 1) (λ i. ℕ_set (arity_of (e i)) 1) one one' i) (f i)

binary_alike : (k j : GateKind) (two : arity_of k ≡ 2) (two' : arity_of j ≡ 2) (a b c d : Word) → k ≡ j → a ≡ c → b ≡ d → ◌≡◌ {A = GateSide} (binary k two a b) (binary j two' c d)
binary_alike k j two two' a b c d e f g i = binary (e i) (is_prop→PathP (λ i. arity_of (e i) ≡ 2) (λ i. ℕ_set (arity_of (e i)) 2) two two' i) (f i) (g i)

abbrev token : ℕ → List (List ℕ) → List ℕ
token n ts = get_or ts n []

-- gate words with different numbers of arguments
other_arity : (k j : GateKind) (m n : ℕ) → arity_of k ≡ m → arity_of j ≡ n → (m ≡ n → ⊥) → word_of k ≡ word_of j → ⊥
other_arity k j m n p q apart e = apart (sym p ∙ ap arity_of (one_kind k j e) ∙ q)

one_gate : (s t : GateSide) → gate_tokens s ≡ gate_tokens t → s ≡ t
one_gate (constant m) (constant n) e = ap constant (one_numeral m n (ap (token 1) e))
one_gate (constant m) (unary j one b) e = absurd (other_arity Const j 0 1 refl one (λ q. omega arith) (ap (token 0) e))
one_gate (constant m) (binary j two b d) e = absurd (other_arity Const j 0 2 refl two (λ q. omega arith) (ap (token 0) e))
one_gate (unary k one a) (constant n) e = absurd (other_arity k Const 1 0 one refl (λ q. omega arith) (ap (token 0) e))
one_gate (unary k one a) (unary j one' b) e = unary_alike k j one one' a b (one_kind k j (ap (token 0) e)) (one_word a b (ap (token 1) e))
one_gate (unary k one a) (binary j two b d) e = absurd (other_arity k j 1 2 one two (λ q. omega arith) (ap (token 0) e))
one_gate (binary k two a c) (constant n) e = absurd (other_arity k Const 2 0 two refl (λ q. omega arith) (ap (token 0) e))
one_gate (binary k two a c) (unary j one b) e = absurd (other_arity k j 2 1 two one (λ q. omega arith) (ap (token 0) e))
one_gate (binary k two a c) (binary j two' b d) e =
    binary_alike k j two two' a c b d (one_kind k j (ap (token 0) e)) (one_word a b (ap (token 1) e)) (one_word c d (ap (token 2) e))

-- ---- by notation

pub one_side : (notation : Notation) (s t : Side notation) → side_tokens notation s ≡ side_tokens notation t → s ≡ t
one_side Gates s t e = one_gate s t e
one_side Formulas f g e = one_formula f g e

pub one_form : (notation : Notation) (ts : List (List ℕ)) (l m : RuleLine notation) → Form ts l → Form ts m → l ≡ m
one_form notation ts (output v) (output w) f g = ap output (one_word v w (ap (token 1) (sym f.tokens ∙ g.tokens)))
one_form notation ts (output v) (definition w side) f g = absurd (true≢false (sym f.kind ∙ g.kind))
one_form notation ts (definition v side) (output w) f g = absurd (false≢true (sym f.kind ∙ g.kind))
one_form notation ts (definition v s) (definition w t) f g =
    let same = sym f.tokens ∙ g.tokens in
    let words : v ≡ w = one_word v w (ap (token 0) same) in
    let sides : s ≡ t = one_side notation s t (ap (drop 2) same) in
    λ i. definition (words i) (sides i)
