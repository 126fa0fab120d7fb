use Rattle.std.proofs.Common.{◌≡◌, ℕ, List, codes, Decides, subst}
use Rattle.std.proofs.lemmas.Slice.Eq.{slice_eq-Decides, bytes_eq-Decides}
use Rattle.std.proofs.lemmas.Bool.Decides.{same_from_decides, Decides-eqb}
use Rattle.model.specs.Spelling.{spelling}
use Rattle.sheets.proofs.rule_sheet.begins_output.Goals as goal

pub returns : goal.returns
returns c =
    let D : List ℕ → List ℕ → Type 0 = λ bs mark. Decides c.eq.result (bs ≡ mark) in
    let same = slice_eq-Decides Decides-eqb _ _ _ c.eq.ensures in
    same_from_decides _ _ (subst (D (spelling c.args.name.now)) c.as_slice.ensures (subst (λ bs. D bs c.as_slice.result.now) c.as_bytes.ensures same)) (bytes_eq-Decides (spelling c.args.name.now) (codes "out"))
