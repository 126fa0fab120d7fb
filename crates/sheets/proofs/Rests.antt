-- A list whose elements are empty from a place on stays so when one more is written there.
use Rattle.std.proofs.Common.{◌≡◌, ℕ, ◌+◌, ◌-◌, List, length, drop, set, replicate, sym, ap, ◌∙◌, arith}
use Rattle.std.proofs.lemmas.List.{drop-drop, drop-replicate, drop-set-lt, length-set}

pub put_rest : {X : Type 0} (e : X) (xs : List X) (p : ℕ) (y : X) → drop p xs ≡ replicate (length xs - p) e → drop (p + 1) (set xs p y) ≡ replicate (length (set xs p y) - (p + 1)) e
put_rest e xs p y rest =
    let n : (length xs - p) - 1 ≡ length (set xs p y) - (p + 1) = omega (arith, length-set xs p y) in
    drop-set-lt (p + 1) xs p y (omega arith) ∙ sym (drop-drop 1 p xs) ∙ ap (drop 1) rest ∙ drop-replicate 1 (length xs - p) e ∙ ap (λ m. replicate m e) n
