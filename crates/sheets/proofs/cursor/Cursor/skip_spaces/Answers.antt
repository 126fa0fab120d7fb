use Rattle.std.proofs.Common.{ℕ, List, get_or, sym, ap, ◌∙◌, subst, ◌≢◌}
use Rattle.sheets.specs.Tokens.{tokens}
use Rattle.sheets.proofs.Words.{skipped_stops, tokens_skipped}
use Rattle.sheets.proofs.cursor.Cursor.skip_spaces.Goals as goal

pub returns-clause-ahead : goal.returns-clause-ahead
returns-clause-ahead c = ap tokens c.after_spaces-self.ensures ∙ tokens_skipped c.args.self.now.rest.now

pub returns-clause-stops : goal.returns-clause-stops
returns-clause-stops c = subst (λ (bs : List ℕ). get_or bs 0 0 ≢ 32) (sym c.after_spaces-self.ensures) (skipped_stops c.args.self.now.rest.now)
