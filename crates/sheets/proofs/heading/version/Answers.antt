use Rattle.std.proofs.Common.{◌≡◌, ℕ, ◌<◌, List, [], Ok, Err, Result, Option, OkIff, MatchOption, ◌∷◌, ◌++◌, Some, None, decimal, sym, ap, ◌∙◌, arith}
use Rattle.std.proofs.lemmas.Slice.Eq.{strip_prefix_is}
use Rattle.std.proofs.lemmas.Fmt.{decimal_injective}
use Rattle.std.specs.Result.{result_ok}
use Rattle.sheets.specs.Sheets.{Heading}
use Rattle.sheets.proofs.Headings.{after_mark, after_space}
use Rattle.sheets.proofs.heading.version.Goals as goal
use Rattle.sheets.proofs.heading.version.Goals.{In_ok-strip_prefix, In_ok-digits}
use Rattle.std.proofs.lemmas.Bool.Decides.{Decides-eqb}

-- the line is the mark and what is left of it
marked : (c : In_ok-strip_prefix) → c.args.line.now ≡ c.args.mark.now ++ c.in_ok-strip_prefix.field-0.now
marked c = strip_prefix_is Decides-eqb c.args.line.now c.args.mark.now (Some c.in_ok-strip_prefix.field-0) c.in_ok-strip_prefix.ensures.cases

-- which is a space and the digits
spaced : (c : In_ok-digits) → c.in_ok-strip_prefix.field-0.now ≡ (32 ∷ []) ++ c.in_ok-digits.digits.now
spaced c = strip_prefix_is Decides-eqb c.in_ok-strip_prefix.field-0.now (32 ∷ []) (Some c.in_ok-digits.digits) c.in_ok-digits.ensures.cases

pub returns-in_err-strip_prefix : goal.returns-in_err-strip_prefix
returns-in_err-strip_prefix c =
    rw c.from_residual.ensures
    (λ v h. strip_prefix_is Decides-eqb c.args.line.now c.args.mark.now None c.in_err-strip_prefix.ensures.cases (32 ∷ decimal v) h.1)

pub returns-in_err-digits : goal.returns-in_err-digits
returns-in_err-digits c =
    let way = (goal.at.returns-in_err-digits c).In_ok-strip_prefix in
    rw c.from_residual-in_err-digits.ensures
    (λ v h. strip_prefix_is Decides-eqb c.in_ok-strip_prefix.field-0.now (32 ∷ []) None c.in_err-digits.ensures.cases (decimal v) (after_mark _ _ _ (marked way) v h))

pub returns-in_err-number : goal.returns-in_err-number
returns-in_err-number c =
    let at = goal.at.returns-in_err-number c in
    rw c.from_residual-in_err-number.ensures
    (λ v h. c.in_err-number.ensures v (omega (arith, h.0)) (after_space _ _ (spaced at.In_ok-digits) v (after_mark _ _ _ (marked at.In_ok-strip_prefix) v h)))

-- the number as one of 16 bits, if it is one
narrowed : {E : Type 0} (mark line : List ℕ) (n : ℕ) (r : Result ℕ E) (o : Option ℕ) → o ≡ result_ok r → OkIff r (n < 65536) n → line ≡ mark ++ (32 ∷ decimal n)
    → ((v : ℕ) → Heading mark line v → n ≡ v) → MatchOption o ((v : ℕ) → Heading mark line v → ⊥) (λ v. Heading mark line v)
narrowed mark line n (Ok x) o is said read one = rw (is, said.1) (omega (arith, said.0), read)
narrowed mark line n (Err e) o is said read one = rw is (λ v h. said (omega (arith, one v h, h.0)))

pub returns : goal.returns
returns c =
    let at = goal.at.returns c in
    let said = c.in_ok-number.ensures in
    let n = c.in_ok-number.field-0 in
    let one : (v : ℕ) → Heading c.args.mark.now c.args.line.now v → n ≡ v =
    λ v h. decimal_injective n v (omega (arith, said.0)) (omega (arith, h.0)) (sym said.1 ∙ after_space _ _ (spaced at.In_ok-digits) v (after_mark _ _ _ (marked at.In_ok-strip_prefix) v h)) in
    narrowed c.args.mark.now c.args.line.now n _ c.ok.result c.ok.ensures.value c.try_from.ensures
    (marked at.In_ok-strip_prefix ∙ ap (λ xs. c.args.mark.now ++ xs) (spaced at.In_ok-digits ∙ ap (λ ds. 32 ∷ ds) said.1)) one
