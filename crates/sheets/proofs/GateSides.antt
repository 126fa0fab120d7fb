-- The right-hand sides of gate sheets.
use Rattle.std.proofs.Common.{◌≡◌, ℕ, ◌-◌, ◌<◌, Bool, true, false, cond, not, ◌&&◌, ◌||◌, eqb, List, [], ◌∷◌, ◌++◌, length, get_or, replicate, Ok, Err, decimal, Result, sym, refl, ap, ◌∙◌, subst, arith, MatchResult}
use Rattle.std.proofs.lemmas.List.{length-append, length-replicate, take_at}
use Rattle.model.proofs.Bytes.{every_replicate}
use Rattle.model.proofs.Names.{name_short, padded_holds}
use Rattle.model.specs.Gates.{constant_gate, word_of}
use Rattle.model.specs.Names.{is_name}
use Rattle.model.specs.Refusals.{fault}
use Rattle.model.specs.Spelling.{spelling}
use Rattle.model.specs.declared.fault.Fault.{Fault}
use Rattle.model.specs.declared.fault.Refusal.TheVariants.{NoForm}
use Rattle.model.specs.declared.gate.Gate.{Gate}
use Rattle.model.specs.declared.gate.GateKind.{GateKind}
use Rattle.model.specs.declared.gate.GateKind.TheVariants.{Const, Sum, Times, Minus, Not, Or}
use Rattle.model.specs.declared.name.Name.{Name}
use Rattle.sheets.specs.Drafts.{ReadBinary, ReadGate, ReadUnary}
use Rattle.sheets.specs.Sides.{arity_of, constant, unary, binary, GateSide, gate_tokens, Numeral, Word, written}
use Rattle.sheets.specs.Tokens.{Next}
use Rattle.sheets.specs.declared.draft.Draft.{Draft}
use Rattle.sheets.specs.declared.symbol.Symbol.{Symbol}
use Rattle.sheets.specs.declared.token.Token.TheVariants.{Identifier}
use Rattle.sheets.proofs.NextToken.{same_rest, same_word}

-- a word that has the form of a name is one
pub named : (word : List ℕ) → is_name word ≡ true → (n : Name) × (spelling n ≡ word)
named word h =
    let bytes = word ++ replicate (16 - length word) 0 in
    let short = name_short word h in
    let long : length bytes ≡ 16 = omega (arith, length-append word (replicate (16 - length word) 0), length-replicate {A = ℕ} (16 - length word) 0) in
    let zeros = every_replicate (eqb 0) (16 - length word) 0 refl in
    (record { bytes = bytes; len = length word; whole = long; short = short; formed = padded_holds word (replicate (16 - length word) 0) h zeros }, take_at word _ (length word) refl)

-- ---- gate words

pub kind_name : (k : GateKind) → is_name (word_of k) ≡ true
kind_name Const = refl
kind_name Sum = refl
kind_name Times = refl
kind_name Minus = refl
kind_name Not = refl
kind_name Or = refl

pub kind_some : (k : GateKind) → 0 < length (word_of k)
kind_some Const = omega arith
kind_some Sum = omega arith
kind_some Times = omega arith
kind_some Minus = omega arith
kind_some Not = omega arith
kind_some Or = omega arith

-- the first letters differ
by_letter : ℕ → GateKind
by_letter b = cond (eqb b 99) Const (cond (eqb b 115) Sum (cond (eqb b 116) Times (cond (eqb b 109) Minus (cond (eqb b 110) Not Or))))

letter_kind : (k : GateKind) → by_letter (get_or (word_of k) 0 0) ≡ k
unfolding by_letter
letter_kind Const = refl
letter_kind Sum = refl
letter_kind Times = refl
letter_kind Minus = refl
letter_kind Not = refl
letter_kind Or = refl

pub one_kind : (k j : GateKind) → word_of k ≡ word_of j → k ≡ j
one_kind k j e = sym (letter_kind k) ∙ ap (λ w. by_letter (get_or w 0 0)) e ∙ letter_kind j

-- a line that goes on with a gate word goes on with a name
pub word_next : (ts rest : List (List ℕ)) (k : GateKind) → ts ≡ word_of k ∷ rest → Next ts (Identifier (named (word_of k) (kind_name k)).0) rest
word_next ts rest k e =
    let n = named (word_of k) (kind_name k) in
    (e ∙ ap (λ w. w ∷ rest) (sym n.1), subst (λ w. 0 < length w) (sym n.1) (kind_some k))

-- ---- what follows a gate word

module _ (k : GateKind) (ts : List (List ℕ)) where
  -- what the tokens say of the kind and the arguments
  abbrev Writes : GateSide → Type 0
  Writes s = word_of k ∷ ts ≡ gate_tokens s

  kind_of : (w : List ℕ) (us : List (List ℕ)) → word_of k ∷ ts ≡ w ∷ us → word_of k ≡ w
  kind_of w us e = same_word (word_of k ∷ ts) ts us refl e

  rest_of : (w : List ℕ) (us : List (List ℕ)) → word_of k ∷ ts ≡ w ∷ us → ts ≡ us
  rest_of w us e = same_rest (word_of k ∷ ts) ts us refl e

  other_arity : (j : GateKind) → word_of k ≡ word_of j → arity_of k ≡ arity_of j
  other_arity j e = ap arity_of (one_kind k j e)

  pub no_constant : arity_of k ≡ 0 → ((n : Numeral) → ts ≡ decimal n.value ∷ [] → ⊥) → (s : GateSide) → Writes s → ⊥
  no_constant none unread (constant n) e = unread n (rest_of _ _ e)
  no_constant none unread (unary j one a) e = omega (arith, other_arity j (kind_of _ _ e))
  no_constant none unread (binary j two a b) e = omega (arith, other_arity j (kind_of _ _ e))

  pub no_unary : arity_of k ≡ 1 → ((a : Word) → ts ≡ written a ∷ [] → ⊥) → (s : GateSide) → Writes s → ⊥
  no_unary one unread (constant n) e = omega (arith, other_arity Const (kind_of _ _ e))
  no_unary one unread (unary j one' a) e = unread a (rest_of _ _ e)
  no_unary one unread (binary j two a b) e = omega (arith, other_arity j (kind_of _ _ e))

  pub no_binary : arity_of k ≡ 2 → ((a b : Word) → ts ≡ written a ∷ (written b ∷ []) → ⊥) → (s : GateSide) → Writes s → ⊥
  no_binary two unread (constant n) e = omega (arith, other_arity Const (kind_of _ _ e))
  no_binary two unread (unary j one a) e = omega (arith, other_arity j (kind_of _ _ e))
  no_binary two unread (binary j two' a b) e = unread a b (rest_of _ _ e)

-- each begins with a gate word
pub no_word : (ts : List (List ℕ)) → ((k : GateKind) (rest : List (List ℕ)) → ts ≡ word_of k ∷ rest → ⊥) → (s : GateSide) → ts ≡ gate_tokens s → ⊥
no_word ts none (constant n) e = none Const _ e
no_word ts none (unary k one a) e = none k _ e
no_word ts none (binary k two a b) e = none k _ e

-- ---- names that are not known

pub noted_none : (u : Bool) → u ≡ (u || not true)
noted_none true = refl
noted_none false = refl

pub noted_one : (u a : Bool) → (u || not a) ≡ (u || not (a && true))
noted_one true a = refl
noted_one false true = refl
noted_one false false = refl

pub noted_two : (u a b : Bool) → ((u || not a) || not b) ≡ (u || not (a && (b && true)))
noted_two true a b = refl
noted_two false true true = refl
noted_two false true false = refl
noted_two false false b = refl

-- ---- the three forms of a gate

module _ (ss : List Symbol) (d d' : Draft) (k : GateKind) (ts : List (List ℕ)) (line : ℕ) where
  abbrev Gated : Result Gate Fault → Type 0
  Gated r = MatchResult r (λ g. ReadGate ss d (word_of k ∷ ts) g d') (λ f. (f ≡ fault NoForm line) × ((s : GateSide) → word_of k ∷ ts ≡ gate_tokens s → ⊥))

  pub from_unary : (r : Result Gate Fault) → arity_of k ≡ 1 → MatchResult r (λ g. ReadUnary ss d k ts g d') (λ f. (f ≡ fault NoForm line) × ((a : Word) → ts ≡ written a ∷ [] → ⊥)) → Gated r
  from_unary (Ok g) one read = record { side = unary k one read.argument; tokens = ap (λ us. word_of k ∷ us) read.tokens; made = read.made; noted = read.noted }
  from_unary (Err f) one (e, none) = (e, no_unary k ts one none)

  pub from_binary : (r : Result Gate Fault) → arity_of k ≡ 2 → MatchResult r (λ g. ReadBinary ss d k ts g d') (λ f. (f ≡ fault NoForm line) × ((a b : Word) → ts ≡ written a ∷ (written b ∷ []) → ⊥)) → Gated r
  from_binary (Ok g) two read = record { side = binary k two read.left read.right; tokens = ap (λ us. word_of k ∷ us) read.tokens; made = read.made; noted = read.noted }
  from_binary (Err f) two (e, none) = (e, no_binary k ts two none)

pub from_constant : (ss : List Symbol) (d : Draft) (k : GateKind) (ts : List (List ℕ)) (line : ℕ) (r : Result Gate Fault) → k ≡ Const
    → MatchResult r (λ g. (n : Numeral) × (ts ≡ decimal n.value ∷ []) × (g ≡ constant_gate n.value)) (λ f. (f ≡ fault NoForm line) × ((n : Numeral) → ts ≡ decimal n.value ∷ [] → ⊥)) → Gated ss d d k ts line r
from_constant ss d k ts line (Ok g) is (n, tokens, made) = record {
  side = constant n;
  tokens = λ i. word_of (is i) ∷ tokens i;
  made = made;
  noted = record { unknown = noted_none d.unknown; gates = refl; count = refl; others = record { names = refl; outputs = refl; output_count = refl; facts = refl } };
}
from_constant ss d k ts line (Err f) is (e, none) = (e, no_constant k ts (ap arity_of is) none)
