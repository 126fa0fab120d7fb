-- What a node is worth on either side of its fact, from its children's values.
use Rattle.std.proofs.Common.{◌≡◌, ℕ, Bool, true, false, not, T, refl}
use Rattle.model.specs.Rings.{Ring, Closed, Laws}
use Rattle.model.specs.declared.decomposition.Decomposition.{Decomposition}
use Rattle.model.specs.declared.decomposition.Decomposition.TheVariants.{Shannon, PositiveDavio, NegativeDavio}
use Rattle.arithmetic.proofs.RingLaws.{cancel}
use Rattle.kfdd.specs.Values.{mix}
use Rattle.kfdd.specs.FirstDifference.{preferred}

pub mix_value : (R : Ring) → Closed R → (t : Decomposition) (b : Bool) (l h : ℕ) → T (R.value l) → T (R.value h) → T (R.value (mix R t b l h))
mix_value R c Shannon false l h p q = p
mix_value R c Shannon true l h p q = q
mix_value R c PositiveDavio false l h p q = p
mix_value R c PositiveDavio true l h p q = c.sum_value l h p q
mix_value R c NegativeDavio false l h p q = c.sum_value l h p q
mix_value R c NegativeDavio true l h p q = p

-- on the preferred side a node is worth its low
pub mix_preferred : (R : Ring) (t : Decomposition) (l h : ℕ) → mix R t (preferred t) l h ≡ l
mix_preferred R Shannon l h = refl
mix_preferred R PositiveDavio l h = refl
mix_preferred R NegativeDavio l h = refl

module _ (R : Ring) (closed : Closed R) (laws : Laws R) where
  abbrev V : ℕ → Type 0
  V n = T (R.value n)

  -- on the other side, equal lows leave the highs to tell
  pub mix_other : (t : Decomposition) (l h h' : ℕ) → V l → V h → V h' → mix R t (not (preferred t)) l h ≡ mix R t (not (preferred t)) l h' → h ≡ h'
  mix_other Shannon l h h' p q r e = e
  mix_other PositiveDavio l h h' p q r e = cancel R closed laws l h h' p q r e
  mix_other NegativeDavio l h h' p q r e = cancel R closed laws l h h' p q r e
