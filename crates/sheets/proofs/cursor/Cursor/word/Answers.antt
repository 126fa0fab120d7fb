use Rattle.std.proofs.Common.{◌≡◌, ℕ, ◌<◌, true, false, List, ◌∷◌, Some, None, Option, Result, MatchResult, MatchOption, of_calls, rules, length, sym, ap, ◌∙◌, subst}
use Rattle.std.specs.Option.{ok_or, IsSomeAnd}
use Rattle.model.specs.Names.{begins, is_name, is_word_byte}
use Rattle.model.specs.Refusals.{fault}
use Rattle.model.specs.declared.fault.Fault.{Fault}
use Rattle.model.specs.declared.fault.Refusal.TheVariants.{NoForm}
use Rattle.sheets.specs.Tokens.{tokens, Next, Stuck, Numbered}
use Rattle.sheets.specs.declared.token.Token.{Token}
use Rattle.sheets.specs.declared.token.Token.TheVariants.{Number}
use Rattle.sheets.proofs.Words.{first_run, Run}
use Rattle.sheets.proofs.cursor.Cursor.word.Goals as goal
use Rattle.sheets.proofs.cursor.Cursor.word.Goals.{After-split_at}

passed : (c : After-split_at) → Run c.args.self.now.rest.now c.split_at.result.0.now c.split_at.result.1.now
passed c = rw (c.split_at.ensures.front, c.split_at.ensures.back, c.word_bytes.ensures.run) (first_run c.args.self.now.rest.now c.requires)

pub returns-in-Ok-clause-next : goal.returns-in-Ok-clause-next
returns-in-Ok-clause-next c =
    let run = passed (goal.at.returns-in-Ok-clause-next c).After-split_at in
    let spelt = c.in-Ok.ensures.1 in
    let L : List ℕ → Type 0 = λ w. 0 < length w in
    (run.next ∙ ap (λ w. w ∷ tokens c.split_at.result.1.now) (sym spelt), subst L (sym spelt) run.some)

-- a run that is no name is a number or refused
numbered : (word : List ℕ) (ts after : List (List ℕ)) (line : ℕ) (r : Option ℕ) (o : Option Token) (f : Fault) (w : Result Token Fault) (P : ℕ → Token → Type 0)
    → w ≡ ok_or o f → f ≡ fault NoForm line → MatchOption r (o ≡ None) (λ v. IsSomeAnd o (P v)) → ((v : ℕ) (t : Token) → P v t → t ≡ Number v)
    → Numbered word r → ts ≡ word ∷ after → begins is_word_byte word ≡ true → is_name word ≡ false
    → MatchResult w (λ t. Next ts t after) (λ e. (e ≡ fault NoForm line) × Stuck ts)
numbered word ts after line None None f w P is at said gives read next begun other =
    rw is (at, (word, after, next, record { run = begun; no_name = other; no_number = read }))
numbered word ts after line None (Some t) f w P is at said gives read next begun other = absurd cc
numbered word ts after line (Some v) None f w P is at said gives read next begun other = absurd said
numbered word ts after line (Some v) (Some t) f w P is at said gives read next begun other =
    rw (is, gives v t said) (next ∙ ap (λ x. x ∷ after) read.1, read.0)

pub returns-clause-next : goal.returns-clause-next
returns-clause-next c =
    let run = passed (goal.at.returns-clause-next c).After-split_at in
    numbered _ _ _ _ c.number.result c.map.result c.refuse.result c.ok_or.result _ c.ok_or.ensures.value c.refuse.ensures c.map.ensures.cases (λ v t p. search (of_calls, rules)) c.number.ensures run.next run.begun c.in_default.ensures
