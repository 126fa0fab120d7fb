-- The laws of keys.
use Rattle.std.proofs.Common.{sym, ap, ◌∙◌}
use Rattle.std.specs.Cmp.{IsEquivalence}
use Rattle.std.specs.Prelude.{◌≡◌, ℕ, Bool, true, nat_eq, refl}
use Rattle.std.proofs.lemmas.Bool.{eqb-true, eq-eqb}
use Rattle.table.specs.Keys.{KeyLaws}

-- those of every key, from what its equality owes and what `Key` adds
pub key_laws : {K : Type 0} {same : K → K → Bool} {code : K → ℕ} → IsEquivalence same → ((x y : K) → same x y ≡ true → code x ≡ code y) → KeyLaws same code
key_laws equal same_code = record {
  reflexive = equal.refl;
  symmetric = λ x y h. equal.symm y x ∙ h;
  transitive = λ x y z h k. equal.congr x y z h ∙ k;
  same_code = same_code;
}

-- those of keys that are compared and hashed by a number of theirs
pub laws_by : {K : Type 0} (number : K → ℕ) (hash : ℕ → ℕ) → KeyLaws (λ x y. nat_eq (number x) (number y)) (λ x. hash (number x))
laws_by number hash = record {
  reflexive = λ x. eq-eqb (number x) (number x) refl;
  symmetric = λ x y h. eq-eqb (number y) (number x) (sym (eqb-true (number x) (number y) h));
  transitive = λ x y z h k. eq-eqb (number x) (number z) (eqb-true (number x) (number y) h ∙ eqb-true (number y) (number z) k);
  same_code = λ x y h. ap hash (eqb-true (number x) (number y) h);
}
