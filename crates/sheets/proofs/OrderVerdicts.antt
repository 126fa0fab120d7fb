-- The laws of order sheets: one verdict, and by the tokens alone.
use Rattle.std.proofs.Common.{◌≡◌, ℕ, List, [], ◌∷◌, ◌++◌, map, length, get_or, drop, Ok, Err, codes, Result, sym, refl, ap, ◌∙◌, subst, arith}
use Rattle.model.proofs.Adding.{one_answer, added_last}
use Rattle.model.proofs.Spelling.{same_name}
use Rattle.model.specs.Letters.{letter_of}
use Rattle.model.specs.Orders.{Adds}
use Rattle.model.specs.Refusals.{number_of}
use Rattle.model.specs.declared.decomposition.Decomposition.{Decomposition}
use Rattle.model.specs.declared.decomposition.Decomposition.TheVariants.{Shannon, PositiveDavio, NegativeDavio}
use Rattle.model.specs.declared.fact.Fact.{Fact}
use Rattle.model.specs.declared.fault.Fault.{Fault}
use Rattle.model.specs.declared.fault.Refusal.{Refusal}
use Rattle.sheets.specs.Lines.{Line, heading, lines_from}
use Rattle.sheets.specs.OrderLaws.{Alike, token_lines, OrderLaws}
use Rattle.sheets.specs.OrderSheets.{FactLine, FactStep, crowded, formless, turned_down, taken, OrderSheet}
use Rattle.sheets.specs.Sheets.{Heading, Opens, too_long, bad_byte, bad_heading, wrong_version, opens, Plain, Reads, done, goes_on, stops, unopened, opened}
use Rattle.sheets.specs.Tokens.{tokens}
use Rattle.sheets.proofs.Verdicts.{ok_or_err, same_ok, same_err, one_verdict, one_refusal, plain_byte}

same_letter : (s t : Decomposition) → letter_of s ≡ letter_of t → s ≡ t
same_letter Shannon Shannon e = refl
same_letter Shannon PositiveDavio e = absurd (omega arith)
same_letter Shannon NegativeDavio e = absurd (omega arith)
same_letter PositiveDavio Shannon e = absurd (omega arith)
same_letter PositiveDavio PositiveDavio e = refl
same_letter PositiveDavio NegativeDavio e = absurd (omega arith)
same_letter NegativeDavio Shannon e = absurd (omega arith)
same_letter NegativeDavio PositiveDavio e = absurd (omega arith)
same_letter NegativeDavio NegativeDavio e = refl

one_fact : (ts : List (List ℕ)) (f g : Fact) → FactLine ts f → FactLine ts g → f ≡ g
one_fact ts f g h k =
    let same = sym h.written ∙ k.written in
    let types : f.decomposition ≡ g.decomposition = same_letter f.decomposition g.decomposition (ap (λ us. get_or (get_or us 0 []) 0 0) same) in
    let names : f.name ≡ g.name = same_name f.name g.name (ap (λ us. get_or us 1 []) same) in
    λ i. record { decomposition = types i; name = names i }

-- a line has one verdict
pub one_step : (fs : List Fact) (ts : List (List ℕ)) (r s : Result (List Fact) Refusal) → FactStep fs ts r → FactStep fs ts s → r ≡ s
one_step fs ts _ _ (crowded h) (crowded k) = refl
one_step fs ts _ _ (crowded h) (formless k none) = absurd (omega arith)
one_step fs ts _ _ (crowded h) (turned_down k f refusal line adds) = absurd (omega arith)
one_step fs ts _ _ (crowded h) (taken k f gs line adds) = absurd (omega arith)
one_step fs ts _ _ (formless h none) (crowded k) = absurd (omega arith)
one_step fs ts _ _ (formless h none) (formless k none') = refl
one_step fs ts _ _ (formless h none) (turned_down k f refusal line adds) = absurd (none f line)
one_step fs ts _ _ (formless h none) (taken k f gs line adds) = absurd (none f line)
one_step fs ts _ _ (turned_down h f refusal line adds) (crowded k) = absurd (omega arith)
one_step fs ts _ _ (turned_down h f refusal line adds) (formless k none) = absurd (none f line)
one_step fs ts _ _ (turned_down h f refusal line adds) (turned_down k g refusal' line' adds') =
    let A : Fact → Type 0 = λ x. Adds fs x (Err refusal') fs in
    ap Err (same_err (one_answer fs fs fs f _ _ adds (subst A (one_fact ts g f line' line) adds')))
one_step fs ts _ _ (turned_down h f refusal line adds) (taken k g gs line' adds') =
    let A : Fact → Type 0 = λ x. Adds fs x (Ok tt) gs in
    absurd (ok_or_err (one_answer fs gs fs f _ _ (subst A (one_fact ts g f line' line) adds') adds))
one_step fs ts _ _ (taken h f gs line adds) (crowded k) = absurd (omega arith)
one_step fs ts _ _ (taken h f gs line adds) (formless k none) = absurd (none f line)
one_step fs ts _ _ (taken h f gs line adds) (turned_down k g refusal line' adds') =
    let A : Fact → Type 0 = λ x. Adds fs x (Ok tt) gs in
    absurd (ok_or_err (one_answer fs gs fs g _ _ (subst A (one_fact ts f g line line') adds) adds'))
one_step fs ts _ _ (taken h f gs line adds) (taken k g hs line' adds') =
    ap Ok (added_last fs gs f adds ∙ ap (λ x. fs ++ (x ∷ [])) (one_fact ts f g line line') ∙ sym (added_last fs hs g adds'))

-- the first line of a plain text decides how it opens
same_opening : (mark a b : List ℕ) (r : Result (Unit {0}) Fault) → Plain a → Plain b → heading (lines_from 0 a) ≡ heading (lines_from 0 b) → Opens mark a r → Opens mark b r
same_opening mark a b _ plain plain' e (too_long l) = absurd (omega (arith, plain.short))
same_opening mark a b _ plain plain' e (bad_byte l p inside all bad) = absurd (plain_byte mark a plain p inside bad)
same_opening mark a b _ plain plain' e (bad_heading p none) = bad_heading plain' (subst (λ line. (v : ℕ) → Heading mark line v → ⊥) e none)
same_opening mark a b _ plain plain' e (wrong_version p v h other) = wrong_version plain' v (subst (λ line. Heading mark line v) e h) other
same_opening mark a b _ plain plain' e (opens p h) = opens plain' (subst (λ line. Heading mark line 1) e h)

-- lines with the same tokens are read alike, whatever their places
head_same : (l m : Line) (ls ms : List Line) → map (λ k. tokens k.bytes) (l ∷ ls) ≡ map (λ k. tokens k.bytes) (m ∷ ms) → tokens l.bytes ≡ tokens m.bytes
head_same l m ls ms e = ap (λ us. get_or us 0 []) e

tail_same : (l m : Line) (ls ms : List Line) → map (λ k. tokens k.bytes) (l ∷ ls) ≡ map (λ k. tokens k.bytes) (m ∷ ms) → map (λ k. tokens k.bytes) ls ≡ map (λ k. tokens k.bytes) ms
tail_same l m ls ms e = ap (drop 1) e

read_alike : (fs : List Fact) (ls ms : List Line) (r s : Result (List Fact) Fault) → map (λ k. tokens k.bytes) ls ≡ map (λ k. tokens k.bytes) ms → Reads FactStep fs ls r → Reads FactStep fs ms s → Alike r s
read_alike fs _ _ _ _ e done done = refl
read_alike fs _ _ _ s e done (goes_on gs step rest) = absurd (omega (arith, ap length e))
read_alike fs _ _ _ _ e done (stops refusal step) = absurd (omega (arith, ap length e))
read_alike fs _ _ r _ e (goes_on gs step rest) done = absurd (omega (arith, ap length e))
read_alike fs _ _ r s e (goes_on {l = l} {ls = ls} gs step rest) (goes_on {l = m} {ls = ms} hs step' rest') =
    let T : List (List ℕ) → Type 0 = λ ts. FactStep fs ts (Ok hs) in
    let same : hs ≡ gs = same_ok (one_step fs (tokens l.bytes) (Ok hs) (Ok gs) (subst T (sym (head_same l m ls ms e)) step') step) in
    let R : List Fact → Type 0 = λ fs. Reads FactStep fs ms s in
    read_alike gs ls ms r s (tail_same l m ls ms e) rest (subst R same rest')
read_alike fs _ _ r _ e (goes_on {l = l} {ls = ls} gs step rest) (stops {l = m} {ls = ms} refusal step') =
    let T : List (List ℕ) → Type 0 = λ ts. FactStep fs ts (Err refusal) in
    absurd (ok_or_err (one_step fs (tokens l.bytes) _ _ step (subst T (sym (head_same l m ls ms e)) step')))
read_alike fs _ _ _ _ e (stops refusal step) done = absurd (omega (arith, ap length e))
read_alike fs _ _ _ s e (stops {l = l} {ls = ls} refusal step) (goes_on {l = m} {ls = ms} hs step' rest') =
    let T : List (List ℕ) → Type 0 = λ ts. FactStep fs ts (Ok hs) in
    absurd (ok_or_err (one_step fs (tokens l.bytes) _ _ (subst T (sym (head_same l m ls ms e)) step') step))
read_alike fs _ _ _ _ e (stops {l = l} {ls = ls} refusal step) (stops {l = m} {ls = ms} refusal' step') =
    let T : List (List ℕ) → Type 0 = λ ts. FactStep fs ts (Err refusal') in
    ap number_of (same_err (one_step fs (tokens l.bytes) _ _ step (subst T (sym (head_same l m ls ms e)) step')))

by_tokens : (a b : List ℕ) → Plain a → Plain b → heading (lines_from 0 a) ≡ heading (lines_from 0 b) → token_lines a ≡ token_lines b → (r s : Result (List Fact) Fault) → OrderSheet a r → OrderSheet b s → Alike r s
by_tokens a b plain plain' e same _ _ (unopened f h) (unopened g k) =
    ap (λ x. number_of x.refusal) (same_err (one_refusal (codes "ORD") b _ _ (same_opening (codes "ORD") a b _ plain plain' e h) k))
by_tokens a b plain plain' e same _ s (unopened f h) (opened k reads) =
    absurd (ok_or_err (one_refusal (codes "ORD") b _ _ k (same_opening (codes "ORD") a b _ plain plain' e h)))
by_tokens a b plain plain' e same r _ (opened h reads) (unopened g k) =
    absurd (ok_or_err (one_refusal (codes "ORD") b _ _ (same_opening (codes "ORD") a b _ plain plain' e h) k))
by_tokens a b plain plain' e same r s (opened h reads) (opened k reads') = read_alike [] _ _ r s same reads reads'

pub order_laws : OrderLaws
order_laws = record {
  one_verdict = one_verdict FactStep one_step (codes "ORD") [];
  by_tokens = by_tokens;
}
