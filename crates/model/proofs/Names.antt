-- How a word stands in the 16 bytes of a name, and what a name's bytes are.
use Rattle.std.proofs.Common.{◌≡◌, ℕ, ◌-◌, ◌<◌, ◌≤◌, true, eqb, List, ◌++◌, length, drop, replicate, refl, arith}
use Rattle.std.proofs.Math.Seq.{drop-append_seam, take-append_seam}
use Rattle.std.proofs.lemmas.List.{drop-replicate}
use Rattle.std.proofs.lemmas.Bool.{and_parts, or_right, leb-true}
use Rattle.std.proofs.lemmas.Bool.Decides.{nat_tests}
use Rattle.model.specs.Names.{every, is_word_byte, is_name, holds_name}
use Rattle.model.proofs.Bytes.{every_replicate}

pub name_short : (word : List ℕ) → is_name word ≡ true → length word ≤ 16
name_short word h = leb-true (length word) 16 (and_parts _ _ h).1

pub name_bytes : (word : List ℕ) → is_name word ≡ true → every is_word_byte word ≡ true
name_bytes word h = (and_parts _ _ (and_parts _ _ h).0).1

-- a word, and zeros behind it
pub padded_holds : (word rest : List ℕ) → is_name word ≡ true → every (eqb 0) rest ≡ true → holds_name (word ++ rest) (length word) ≡ true
padded_holds word rest named zeros = rw (take-append_seam word rest, drop-append_seam word rest, named, zeros, or_right (eqb (length word) 0) true refl) refl

pub zeros_left : (n : ℕ) → every (eqb 0) (drop n (replicate 16 0)) ≡ true
zeros_left n = rw (drop-replicate {X = ℕ} n 16 0) (every_replicate (eqb 0) (16 - n) 0 refl)

pub word_byte_low : (b : ℕ) → is_word_byte b ≡ true → b < 128
word_byte_low b h = grind (arith, nat_tests)
