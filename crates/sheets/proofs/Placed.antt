-- An answer about a line, and the place of the line.
use Rattle.std.proofs.Common.{◌≡◌, ℕ, Ok, Err, MatchResult, Result, ap, ◌∙◌}
use Rattle.std.proofs.lemmas.Result.{err_from_is_err_and}
use Rattle.std.specs.Result.{IsErrAnd}
use Rattle.model.specs.Refusals.{fault}
use Rattle.model.specs.declared.fault.Fault.{Fault}
use Rattle.model.specs.declared.fault.Refusal.{Refusal}

abbrev pub Placed : Result (Unit {0}) Refusal → ℕ → Result (Unit {0}) Fault → Type 0
Placed answer place r = MatchResult answer (λ x. r ≡ Ok x) (λ refusal. r ≡ Err (fault refusal place))

pub placed_from : (answer : Result (Unit {0}) Refusal) (r : Result (Unit {0}) Fault) (place : ℕ) (P : Refusal → Fault → Type 0)
    → MatchResult answer (λ x. r ≡ Ok x) (λ e. IsErrAnd r (P e)) → ((e : Refusal) (f : Fault) → P e f → f ≡ fault e place) → Placed answer place r
placed_from (Ok x) r place P h gives = h
placed_from (Err e) r place P h gives = let p = err_from_is_err_and r h in p.1 ∙ ap Err (gives e p.0 p.2)

-- what is read, by such an answer
pub read_placed : (Read : Result (Unit {0}) Refusal → Type 0) (answer : Result (Unit {0}) Refusal) (r : Result (Unit {0}) Fault) (place line : ℕ) → place ≡ line → Read answer → Placed answer place r
    → MatchResult r (λ _. Read (Ok tt)) (λ f. (refusal : Refusal) × (f ≡ fault refusal line) × Read (Err refusal))
read_placed Read (Ok x) r place line at read is = rw is read
read_placed Read (Err e) r place line at read is = rw is (e, ap (fault e) at, read)
