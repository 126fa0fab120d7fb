-- The symbol table of a rule sheet: names, and the signals that they stand for.
use Rattle.std.specs.Prelude.{◌≡◌, ℕ, ◌*◌, ◌%◌, ◌^◌, Bool, true, cond, List, [], ◌∷◌, is_some, Some, None, fold, Option, bit_xor}
use Rattle.std.proofs.Common.{sym, ap, ◌∙◌, refl}
use Rattle.std.proofs.lemmas.Slice.Eq.{bytes_eq-Decides}
use Rattle.model.proofs.Spelling.{alike, alike_decides}
use Rattle.std.specs.Option.{unwrap_or}
use Rattle.std.specs.Str.{bytes_eq}
use Rattle.model.specs.Spelling.{spelling}
use Rattle.model.specs.declared.name.Name.{Name}
use Rattle.table.specs.Keys.{KeyLaws}
use Rattle.sheets.specs.declared.symbol.Symbol.{Symbol}

abbrev pub symbol : Name → ℕ → Symbol
symbol name signal = record { name = name; signal = signal }

-- symbols are told apart by how their names are written
abbrev pub same_symbol : Symbol → Symbol → Bool
same_symbol a b = bytes_eq (spelling a.name) (spelling b.name)

-- the hash of a name, byte by byte
abbrev pub hash_step : ℕ → ℕ → ℕ
hash_step h b = (bit_xor h b * 16777619) % 2 ^ 32

abbrev pub hash_of : List ℕ → ℕ
hash_of word = fold hash_step 2166136261 word

pub symbol_laws : KeyLaws same_symbol (λ s. hash_of (spelling s.name))
symbol_laws = record {
  reflexive = λ x. (bytes_eq-Decides (spelling x.name) (spelling x.name)).1 refl;
  symmetric = λ x y h. (bytes_eq-Decides (spelling y.name) (spelling x.name)).1 (sym ((bytes_eq-Decides (spelling x.name) (spelling y.name)).0 h));
  transitive = λ x y z h k. (bytes_eq-Decides (spelling x.name) (spelling z.name)).1 ((bytes_eq-Decides (spelling x.name) (spelling y.name)).0 h ∙ (bytes_eq-Decides (spelling y.name) (spelling z.name)).0 k);
  same_code = λ x y h. ap hash_of ((bytes_eq-Decides (spelling x.name) (spelling y.name)).0 h);
}

-- so have symbols whose names `==` finds equal
pub same_hash : (x y : Symbol) → alike x.name y.name ≡ true → hash_of (spelling x.name) ≡ hash_of (spelling y.name)
same_hash x y h = symbol_laws.same_code x y ((bytes_eq-Decides (spelling x.name) (spelling y.name)).1 ((alike_decides x.name y.name).0 h))

-- the signal that a name stands for, if it is known
abbrev pub signal_of : List Symbol → List ℕ → Option ℕ
signal_of [] word = None
signal_of (s ∷ ss) word = cond (bytes_eq (spelling s.name) word) (Some s.signal) (signal_of ss word)

abbrev pub known : List Symbol → List ℕ → Bool
known ss word = is_some (signal_of ss word)

-- the same, with 0 where it is not known
abbrev pub signal_or_zero : List Symbol → List ℕ → ℕ
signal_or_zero ss word = unwrap_or (signal_of ss word) 0
