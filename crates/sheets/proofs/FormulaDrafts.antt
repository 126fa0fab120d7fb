-- What the readers of formulas make of a draft, step by step.
use Rattle.std.proofs.Common.{◌≡◌, ℕ, ◌+◌, Bool, true, false, not, ◌&&◌, ◌||◌, List, [], ◌∷◌, ◌++◌, length, set, sym, refl, ap, ◌∙◌, arith}
use Rattle.std.proofs.lemmas.List.{length-append}
use Rattle.model.specs.Gates.{constant_gate, one_argument, two_arguments}
use Rattle.model.specs.declared.gate.Gate.{Gate}
use Rattle.model.specs.declared.gate.GateKind.{GateKind}
use Rattle.sheets.specs.Drafts.{Others, written_from}
use Rattle.sheets.specs.FormulaReads.{Drawn, over}
use Rattle.sheets.specs.Formulas.{after_one, after_two, constant, Making, standing}
use Rattle.sheets.specs.RuleSheets.{all_known}
use Rattle.sheets.specs.Sides.{Emitted, Word, written}
use Rattle.sheets.specs.Symbols.{known, signal_or_zero}
use Rattle.sheets.specs.declared.draft.Draft.{Draft}
use Rattle.sheets.specs.declared.symbol.Symbol.{Symbol}
use Rattle.sheets.proofs.Drafts.{others_then}
use Rattle.sheets.proofs.GateSides.{noted_none, noted_one}

-- ---- gates behind gates

pub written_append : {X : Type 0} (p : ℕ) (xs ys zs : List X) → written_from p (xs ++ ys) zs ≡ written_from (p + length xs) ys (written_from p xs zs)
written_append p [] ys zs = let e : p ≡ p + 0 = omega arith in ap (λ n. written_from n ys zs) e
written_append p (x ∷ xs) ys zs =
    let e : p + 1 + length xs ≡ p + length (x ∷ xs) = omega arith in
    written_append (p + 1) xs ys (set zs p x) ∙ ap (λ n. written_from n ys (written_from (p + 1) xs (set zs p x))) e

all_known_append : (ss : List Symbol) (vs ws : List Word) → all_known ss (vs ++ ws) ≡ (all_known ss vs && all_known ss ws)
all_known_append ss [] ws = refl
all_known_append ss (v ∷ vs) ws = ap (λ b. known ss (written v) && b) (all_known_append ss vs ws) ∙ and_assoc (known ss (written v)) (all_known ss vs) (all_known ss ws)
  where
    and_assoc : (a b c : Bool) → (a && (b && c)) ≡ ((a && b) && c)
    and_assoc true b c = refl
    and_assoc false b c = refl

noted_both : (u a b : Bool) → ((u || not a) || not b) ≡ (u || not (a && b))
noted_both true a b = refl
noted_both false true b = refl
noted_both false false b = refl

-- a gate was put behind those of a draft
pub record Put (d : Draft) (g : Gate) (signal : ℕ) (d' : Draft) : Type 0 where
  pub signal_is : signal ≡ d.facts + d.gate_count
  pub gates : d'.gates.now ≡ set d.gates.now d.gate_count g
  pub count : d'.gate_count ≡ d.gate_count + 1
  pub unknown : d'.unknown ≡ d.unknown
  pub others : Others d d'

module _ (ss : List Symbol) (d : Draft) where
  pub drawn_constant : (n r : ℕ) (d' : Draft) → Put d (constant_gate n) r d' → Drawn ss d (constant n) [] r d'
  drawn_constant n r d' put = record { signal_is = put.signal_is; gates = put.gates; count = put.count; unknown = put.unknown ∙ noted_none d.unknown; others = put.others }

  -- a name is looked up, and nothing else changes
  pub drawn_name : (w : Word) (r : ℕ) (d' : Draft) → r ≡ signal_or_zero ss (written w) → d'.unknown ≡ (d.unknown || not (known ss (written w))) → d'.gates.now ≡ d.gates.now → d'.gate_count ≡ d.gate_count → Others d d'
      → Drawn ss d (standing (signal_or_zero ss (written w))) (w ∷ []) r d'
  drawn_name w r d' signal unknown gates count others = record {
    signal_is = signal;
    gates = gates;
    count = omega (arith, count);
    unknown = unknown ∙ noted_one d.unknown (known ss (written w));
    others = others;
  }

  module _ (a : Making) (ws : List Word) (s : ℕ) (d₁ : Draft) (left : Drawn ss d a ws s d₁) where
    abbrev first : List Gate
    first = (over d a).gates

    -- the first number that is no signal then
    next_then : d₁.facts + d₁.gate_count ≡ d.facts + d.gate_count + length first
    next_then = omega (arith, left.others.facts, left.count)

    pub drawn_one : (k : GateKind) (r : ℕ) (d₂ : Draft) → Put d₁ (one_argument k s) r d₂ → Drawn ss d (after_one k a) ws r d₂
    drawn_one k r d₂ put =
        let g = one_argument k (over d a).signal in
        record {
          signal_is = put.signal_is ∙ next_then;
          gates = put.gates ∙ (λ i. set (left.gates i) (left.count i) (one_argument k (left.signal_is i))) ∙ sym (written_append d.gate_count first (g ∷ []) d.gates.now);
          count = omega (arith, put.count, left.count, length-append first (g ∷ []));
          unknown = put.unknown ∙ left.unknown;
          others = others_then d d₁ d₂ left.others put.others;
        }

    module _ (b : Making) (vs : List Word) (u : ℕ) (d₂ : Draft) (right : Drawn ss d₁ b vs u d₂) where
      -- what the right operand makes
      abbrev more : Emitted
      more = b (d.facts + d.gate_count + length first)

      same_more : over d₁ b ≡ more
      same_more = ap b next_then

      both_count : d₂.gate_count ≡ d.gate_count + length first + length more.gates
      both_count = omega (arith, right.count, left.count, ap (λ e. length e.gates) same_more)

      both_gates : d₂.gates.now ≡ written_from (d.gate_count + length first) more.gates (written_from d.gate_count first d.gates.now)
      both_gates = right.gates ∙ (λ i. written_from (left.count i) (same_more i).gates (left.gates i))

      pub drawn_two : (k : GateKind) (r : ℕ) (d₃ : Draft) → Put d₂ (two_arguments k s u) r d₃ → Drawn ss d (after_two k a b) (ws ++ vs) r d₃
      drawn_two k r d₃ put =
          let g = two_arguments k (over d a).signal more.signal in
          let c = d.gate_count in
          record {
            signal_is = put.signal_is ∙ (omega (arith, both_count, right.others.facts, left.others.facts));
            gates = put.gates ∙ (λ i. set (both_gates i) (both_count i) (two_arguments k (left.signal_is i) ((right.signal_is ∙ ap (λ e. e.signal) same_more) i)))
                ∙ sym (written_append c first (more.gates ++ (g ∷ [])) d.gates.now ∙ written_append (c + length first) more.gates (g ∷ []) (written_from c first d.gates.now));
            count = omega (arith, put.count, both_count, length-append first (more.gates ++ (g ∷ [])), length-append more.gates (g ∷ []));
            unknown = put.unknown ∙ right.unknown ∙ ap (λ x. x || not (all_known ss vs)) left.unknown ∙ noted_both d.unknown (all_known ss ws) (all_known ss vs) ∙ ap (λ x. d.unknown || not x) (sym (all_known_append ss ws vs));
            others = others_then d d₂ d₃ (others_then d d₁ d₂ left.others right.others) put.others;
          }

-- what the draft says of a gate that was put into it, where that gate is known
pub put_as : (d d' : Draft) (g h : Gate) (signal : ℕ) → g ≡ h → signal ≡ d.facts + d.gate_count → d'.gates.now ≡ set d.gates.now d.gate_count g → d'.gate_count ≡ d.gate_count + 1 → d'.unknown ≡ d.unknown → Others d d' → Put d h signal d'
put_as d d' g h signal e at gates count unknown others = record { signal_is = at; gates = gates ∙ ap (set d.gates.now d.gate_count) e; count = count; unknown = unknown; others = others }
