use Rattle.std.proofs.Common.{◌≡◌, ℕ, ◌++◌, length, drop, replicate, sym, ap, ◌∙◌, arith}
use Rattle.std.proofs.lemmas.List.{length-append, length-drop}
use Rattle.model.specs.Names.{holds_name}
use Rattle.model.proofs.Names.{name_short, padded_holds, zeros_left}
use Rattle.model.proofs.name.ops.NameTryFromRefSliceU8.try_from.Goals as goal

pub invariant_of-result : goal.invariant_of-result
invariant_of-result c =
    let word = c.args.word.now in
    let named = sym c.if-not-is_name.ensures in
    let rest = drop (length word) (replicate 16 0) in
    let is : c.copy_from_slice.new.self ++ rest ≡ word ++ rest = ap (λ bytes. bytes ++ rest) c.copy_from_slice.ensures.after in
    record {
      whole = ap length is ∙ length-append word rest ∙ omega (arith, length-drop {A = ℕ} (length word) (replicate 16 0), name_short word named);
      short = name_short word named;
      formed = ap (λ bytes. holds_name bytes (length word)) is ∙ padded_holds word rest named (zeros_left (length word));
    }
