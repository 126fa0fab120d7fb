use Rattle.std.proofs.Common.{◌≡◌, ◌≢◌, ℕ, Ok, Err, Result, MatchResult, sym, ap, refl, ◌∙◌, of_calls, rules}
use Rattle.model.specs.Letters.{letter_of, Lettered}
use Rattle.sheets.specs.Tokens.{sign}
use Rattle.model.specs.declared.decomposition.Decomposition.{Decomposition}
use Rattle.model.specs.declared.decomposition.Decomposition.TheVariants.{Shannon, PositiveDavio, NegativeDavio}
use Rattle.model.specs.declared.decomposition.UnknownLetter.{UnknownLetter}
use Rattle.sheets.specs.declared.token.Token.{Token}
use Rattle.sheets.specs.declared.token.Token.TheVariants.{TypeLetter, Other}
use Rattle.std.proofs.lemmas.Bool.{ne_eqb}
use Rattle.std.proofs.lemmas.Result.{MatchResult-weaker}
use Rattle.sheets.proofs.token.single.Goals as goal

letter_sign : (t : Decomposition) → TypeLetter t ≡ sign (letter_of t)
letter_sign Shannon = refl
letter_sign PositiveDavio = refl
letter_sign NegativeDavio = refl

told : (c : ℕ) (r : Result Decomposition UnknownLetter) (token : Token) → Lettered c r → (((t : Decomposition) → c ≢ letter_of t) → Other c ≡ sign c) → MatchResult r (λ t. token ≡ TypeLetter t) (λ _. token ≡ Other c) → token ≡ sign c
told c (Ok t) token said other answer = answer ∙ letter_sign t ∙ ap sign (sym said)
told c (Err e) token said other answer = answer ∙ other said

-- src/token.rt:100:1
pub returns-in_default : goal.returns-in_default
returns-in_default c =
    told c.args.c c.try_from.result c.map_or.result c.try_from.ensures
    (λ no. rw (ne_eqb c.args.c 83 (no Shannon), ne_eqb c.args.c 80 (no PositiveDavio), ne_eqb c.args.c 78 (no NegativeDavio)) (search rules))
    (MatchResult-weaker c.try_from.result c.map_or.ensures (λ t p. search (of_calls, rules)) (λ _ p. p))
