-- What a name is written with, and that this says which name it is.
use Rattle.std.proofs.Common.{◌≡◌, ℕ, ◌-◌, ◌<◌, ◌≤◌, Bool, true, ◌&&◌, ◌==◌, nat_eq, eqb, List, [], ◌∷◌, ◌++◌, length, get_or, take, drop, replicate, Decides, sym, refl, ap, ◌∙◌, ⊎_elim, arith}
use mathlib.Core.Bool.{Bool-set}
use mathlib.Core.HLevel.{is_prop→PathP}
use native.Mathlib.Bridge.{le_prop}
use native.Mathlib.Nat.{ℕ_set}
use Rattle.std.proofs.lemmas.List.{length-take-le, length-drop, take-append-drop}
use Rattle.std.proofs.lemmas.Bool.{and_parts, or_cases, eqb-true}
use Rattle.std.proofs.lemmas.Bool.Decides.{Decides-and, Decides-eqb}
use Rattle.std.specs.Cmp.Lexicographic.{bytes_decides, pointwise}
use Rattle.model.specs.Names.{every, is_word_byte, is_name, holds_name}
use Rattle.model.specs.Spelling.{spelling}
use Rattle.model.specs.declared.name.Name.{Name}
use Rattle.model.proofs.Bytes.{every_at}
use Rattle.model.proofs.Names.{name_bytes, word_byte_low}

pub spelling_length : (n : Name) → length (spelling n) ≡ n.len
spelling_length n = length-take-le n.len n.bytes (omega (arith, n.whole, n.short))

-- a name that is not empty has the form of one
pub spelling_is_name : (n : Name) → 0 < length (spelling n) → is_name (spelling n) ≡ true
spelling_is_name n some =
    ⊎_elim
    (λ none. let z = eqb-true n.len 0 none in absurd (omega (arith, spelling_length n)))
    (λ named. named)
    (or_cases (eqb n.len 0) (is_name (spelling n)) (and_parts _ _ n.formed).0)

pub spelling_low : (n : Name) (i : ℕ) → i < length (spelling n) → get_or (spelling n) i 0 < 128
spelling_low n i lt =
    word_byte_low _ (every_at is_word_byte (spelling n) i lt (name_bytes (spelling n) (spelling_is_name n (omega arith))))

zeros : (xs : List ℕ) → every (eqb 0) xs ≡ true → xs ≡ replicate (length xs) 0
zeros [] h = refl
zeros (x ∷ xs) h =
    let both = and_parts (eqb 0 x) (every (eqb 0) xs) h in
    rw (← eqb-true 0 x both.0, ← zeros xs both.1)

padded : (n : Name) → spelling n ++ replicate (16 - n.len) 0 ≡ n.bytes
padded n =
    let rest : drop n.len n.bytes ≡ replicate (length (drop n.len n.bytes)) 0 = zeros (drop n.len n.bytes) (and_parts _ _ n.formed).1 in
    let long : length (drop n.len n.bytes) ≡ 16 - n.len = length-drop n.len n.bytes ∙ ap (λ k. k - n.len) n.whole in
    ap (λ l. spelling n ++ l) (ap (λ k. replicate k 0) (sym long) ∙ sym rest) ∙ take-append-drop n.len n.bytes

-- two names that are written alike are held alike
pub same_len : (a b : Name) → spelling a ≡ spelling b → a.len ≡ b.len
same_len a b e = sym (spelling_length a) ∙ ap length e ∙ spelling_length b

pub same_bytes : (a b : Name) → spelling a ≡ spelling b → a.bytes ≡ b.bytes
same_bytes a b e = sym (padded a) ∙ (λ i. e i ++ replicate (16 - same_len a b e i) 0) ∙ padded b

held_alike : (xs ys : List ℕ) (m n : ℕ) (w : length xs ≡ 16) (w' : length ys ≡ 16) (s : m ≤ 16) (s' : n ≤ 16) (f : holds_name xs m ≡ true) (f' : holds_name ys n ≡ true) → xs ≡ ys → m ≡ n
    → ◌≡◌ {A = Name} (record { bytes = xs; len = m; whole = w; short = s; formed = f }) (record { bytes = ys; len = n; whole = w'; short = s'; formed = f' })
held_alike xs ys m n w w' s s' f f' p q i = record {
  bytes = p i;
  len = q i;
  whole = is_prop→PathP (λ i. length (p i) ≡ 16) (λ i. ℕ_set (length (p i)) 16) w w' i;
  short = is_prop→PathP (λ i. q i ≤ 16) (λ i. le_prop) s s' i;
  formed = is_prop→PathP (λ i. holds_name (p i) (q i) ≡ true) (λ i. Bool-set (holds_name (p i) (q i)) true) f f' i;
}

pub same_name : (a b : Name) → spelling a ≡ spelling b → a ≡ b
same_name a b e = held_alike a.bytes b.bytes a.len b.len a.whole b.whole a.short b.short a.formed b.formed (same_bytes a b e) (same_len a b e)

-- what `==` at two names tests, and that it decides whether they are written alike
abbrev pub alike : Name → Name → Bool
alike a b = pointwise nat_eq a.bytes b.bytes && (a.len == b.len)

pub alike_decides : (a b : Name) → Decides (alike a b) (spelling a ≡ spelling b)
alike_decides a b =
    let held : Decides (alike a b) ((a.bytes ≡ b.bytes) × (a.len ≡ b.len)) = Decides-and _ _ (bytes_decides a.bytes b.bytes) (Decides-eqb a.len b.len) in
    (λ e. let both = held.0 e in (λ i. take (both.1 i) (both.0 i)), λ e. held.1 (same_bytes a b e, same_len a b e))
