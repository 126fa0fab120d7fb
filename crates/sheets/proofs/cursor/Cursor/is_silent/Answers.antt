use Rattle.std.proofs.Common.{◌≡◌, ◌≢◌, ℕ, Bool, List, get_or, Some, None, Option, Bor, sym, ap, ◌∙◌, subst, of_calls, rules}
use Rattle.std.proofs.Math.Dec.{eqb}
use Rattle.std.specs.Bool.{IsTrue}
use Rattle.std.specs.List.{slice_get}
use Rattle.std.specs.Option.{option_copied, MatchOption}
use Rattle.sheets.specs.Lines.{says_nothing}
use Rattle.sheets.proofs.Words.{comment_left, nothing_left, skipped_nothing, skipped_stops}
use Rattle.sheets.proofs.cursor.Cursor.is_silent.Goals as goal

-- the test of the first byte after the spaces, if there is one
told : (bs : List ℕ) (first : Option (Bor ℕ)) (r : Bool) (P : Bor ℕ → Type 0) → option_copied first ≡ slice_get bs 0 → get_or bs 0 0 ≢ 32
    → MatchOption first (IsTrue r) P → ((b : Bor ℕ) → P b → r ≡ eqb b.now 35) → r ≡ says_nothing bs
told bs None r P first stops said gives = said ∙ nothing_left bs first
told bs (Some b) r P first stops said gives = gives b said ∙ comment_left bs b.now first stops

pub returns : goal.returns
returns c =
    let bs = c.args.self.now.rest.now in
    let S : List ℕ → Type 0 = λ xs. get_or xs 0 0 ≢ 32 in
    told c.after_spaces.result.now c.first.result c.is_none_or.result _ c.first.ensures.value (subst S (sym c.after_spaces.ensures) (skipped_stops bs)) c.is_none_or.ensures (λ b p. search (of_calls, rules))
    ∙ ap says_nothing c.after_spaces.ensures ∙ skipped_nothing bs
