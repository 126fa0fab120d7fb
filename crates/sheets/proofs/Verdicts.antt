-- A text has one verdict.
use Rattle.std.proofs.Common.{◌≡◌, ℕ, ◌<◌, true, false, List, length, get_or, take, Ok, Err, Result, sym, refl, ap, ◌∙◌, subst, ⊎_elim, arith}
use Rattle.std.proofs.lemmas.List.{get_or-take, length-take-le}
use Rattle.std.proofs.lemmas.Bool.{cases_order, true≢false}
use Rattle.model.proofs.Bytes.{every_at}
use Rattle.model.specs.Names.{every}
use Rattle.model.specs.Refusals.{fault}
use Rattle.model.specs.declared.fault.Fault.{Fault}
use Rattle.model.specs.declared.fault.Refusal.{Refusal}
use Rattle.model.specs.declared.fault.Refusal.TheVariants.{BadByte}
use Rattle.sheets.specs.Lines.{Line, heading, later, lines_from, speaking}
use Rattle.sheets.specs.Sheets.{allowed, Opens, too_long, bad_byte, bad_heading, wrong_version, opens, Plain, Reads, done, goes_on, stops, Sheet, unopened, opened}
use Rattle.sheets.specs.Tokens.{tokens}
use Rattle.sheets.proofs.Headings.{one_version}

-- two answers that cannot both be
pub ok_or_err : {S E : Type 0} {s : S} {e : E} → ◌≡◌ {A = Result S E} (Ok s) (Err e) → ⊥
ok_or_err q = let z : ◌≡◌ {A = ℕ} 0 1 = cc in omega arith

pub same_ok : {S E : Type 0} {s t : S} → ◌≡◌ {A = Result S E} (Ok s) (Ok t) → s ≡ t
same_ok q = cc

pub same_err : {S E : Type 0} {e f : E} → ◌≡◌ {A = Result S E} (Err e) (Err f) → e ≡ f
same_err q = cc

module _ (mark text : List ℕ) where
  -- a byte before the first one that is not allowed
  allowed_before : (p q : ℕ) → every allowed (take q text) ≡ true → q < length text → p < q → allowed (get_or text p 0) ≡ true
  allowed_before p q all inside lt =
      ap allowed (sym (get_or-take q text p 0 lt)) ∙ every_at allowed (take q text) p (omega (arith, length-take-le q text (omega arith))) all

  no_clash : (p : ℕ) → allowed (get_or text p 0) ≡ true → allowed (get_or text p 0) ≡ false → ⊥
  no_clash p h k = true≢false (sym h ∙ k)

  one_byte : (p q : ℕ) → p < length text → q < length text → every allowed (take p text) ≡ true → every allowed (take q text) ≡ true → allowed (get_or text p 0) ≡ false → allowed (get_or text q 0) ≡ false → p ≡ q
  one_byte p q inp inq allp allq badp badq =
      ⊎_elim (λ e. e)
      (⊎_elim
      (λ lt. absurd (no_clash p (allowed_before p q allq inq lt) badp))
      (λ lt. absurd (no_clash q (allowed_before q p allp inp lt) badq)))
      (cases_order p q)

  pub plain_byte : Plain text → (p : ℕ) → p < length text → allowed (get_or text p 0) ≡ false → ⊥
  plain_byte plain p inside bad = no_clash p (every_at allowed text p inside plain.printable) bad

  -- the refusals of the text as a whole, against those of a plain text
  pub one_refusal : (r s : Result (Unit {0}) Fault) → Opens mark text r → Opens mark text s → r ≡ s
  one_refusal _ _ (too_long l) (too_long m) = refl
  one_refusal _ _ (too_long l) (bad_byte m q inq allq badq) = absurd (omega arith)
  one_refusal _ _ (too_long l) (bad_heading plain none) = absurd (omega (arith, plain.short))
  one_refusal _ _ (too_long l) (wrong_version plain v h other) = absurd (omega (arith, plain.short))
  one_refusal _ _ (too_long l) (opens plain h) = absurd (omega (arith, plain.short))
  one_refusal _ _ (bad_byte l p inp allp badp) (too_long m) = absurd (omega arith)
  one_refusal _ _ (bad_byte l p inp allp badp) (bad_byte m q inq allq badq) = ap (λ k. Err (fault BadByte k)) (one_byte p q inp inq allp allq badp badq)
  one_refusal _ _ (bad_byte l p inp allp badp) (bad_heading plain none) = absurd (plain_byte plain p inp badp)
  one_refusal _ _ (bad_byte l p inp allp badp) (wrong_version plain v h other) = absurd (plain_byte plain p inp badp)
  one_refusal _ _ (bad_byte l p inp allp badp) (opens plain h) = absurd (plain_byte plain p inp badp)
  one_refusal _ _ (bad_heading plain none) (too_long m) = absurd (omega (arith, plain.short))
  one_refusal _ _ (bad_heading plain none) (bad_byte m q inq allq badq) = absurd (plain_byte plain q inq badq)
  one_refusal _ _ (bad_heading plain none) (bad_heading plain' none') = refl
  one_refusal _ _ (bad_heading plain none) (wrong_version plain' v h other) = absurd (none v h)
  one_refusal _ _ (bad_heading plain none) (opens plain' h) = absurd (none 1 h)
  one_refusal _ _ (wrong_version plain v h other) (too_long m) = absurd (omega (arith, plain.short))
  one_refusal _ _ (wrong_version plain v h other) (bad_byte m q inq allq badq) = absurd (plain_byte plain q inq badq)
  one_refusal _ _ (wrong_version plain v h other) (bad_heading plain' none) = absurd (none v h)
  one_refusal _ _ (wrong_version plain v h other) (wrong_version plain' w k another) = refl
  one_refusal _ _ (wrong_version plain v h other) (opens plain' k) = absurd (other (one_version mark (heading (lines_from 0 text)) v 1 h k))
  one_refusal _ _ (opens plain h) (too_long m) = absurd (omega (arith, plain.short))
  one_refusal _ _ (opens plain h) (bad_byte m q inq allq badq) = absurd (plain_byte plain q inq badq)
  one_refusal _ _ (opens plain h) (bad_heading plain' none) = absurd (none 1 h)
  one_refusal _ _ (opens plain h) (wrong_version plain' v k other) = absurd (other (one_version mark (heading (lines_from 0 text)) v 1 k h))
  one_refusal _ _ (opens plain h) (opens plain' k) = refl

module _ {S : Type 0} (Step : S → List (List ℕ) → Result S Refusal → Type 0) (one_step : (s : S) (ts : List (List ℕ)) (r q : Result S Refusal) → Step s ts r → Step s ts q → r ≡ q) where
  pub one_reading : (s : S) (ls : List Line) (r q : Result S Fault) → Reads Step s ls r → Reads Step s ls q → r ≡ q
  one_reading s _ _ _ done done = refl
  one_reading s _ r q (goes_on {l = l} {ls = ls} s' step rest) (goes_on s'' step' rest') =
      let same : s'' ≡ s' = same_ok (one_step s (tokens l.bytes) (Ok s'') (Ok s') step' step) in
      let R : S → Type 0 = λ t. Reads Step t ls q in
      one_reading s' ls r q rest (subst R same rest')
  one_reading s _ _ _ (goes_on {l = l} s' step rest) (stops refusal step') = absurd (ok_or_err (one_step s (tokens l.bytes) _ _ step step'))
  one_reading s _ _ _ (stops {l = l} refusal step) (goes_on s'' step' rest') = absurd (ok_or_err (one_step s (tokens l.bytes) _ _ step' step))
  one_reading s _ _ _ (stops {l = l} refusal step) (stops refusal' step') =
      ap (λ k. Err (fault k l.first)) (same_err (one_step s (tokens l.bytes) _ _ step step'))

  pub one_verdict : (mark : List ℕ) (start : S) (text : List ℕ) (r q : Result S Fault) → Sheet Step mark start text r → Sheet Step mark start text q → r ≡ q
  one_verdict mark start text _ _ (unopened f h) (unopened g k) = ap Err (same_err (one_refusal mark text _ _ h k))
  one_verdict mark start text _ _ (unopened f h) (opened k reads) = absurd (ok_or_err (one_refusal mark text _ _ k h))
  one_verdict mark start text _ _ (opened h reads) (unopened g k) = absurd (ok_or_err (one_refusal mark text _ _ h k))
  one_verdict mark start text r q (opened h reads) (opened k reads') = one_reading start (speaking (later (lines_from 0 text))) r q reads reads'
