-- What a name is, and how 16 bytes and a length hold one.
use Rattle.std.specs.List.{list_all}
use Rattle.std.specs.Prelude.{ℕ, Bool, false, ◌&&◌, ◌||◌, List, [], ◌∷◌, length, take, drop, ◌==◌, nat_eq, nat_le}

-- a to z
abbrev pub is_letter : ℕ → Bool
is_letter b = nat_le 97 b && nat_le b 122

-- 0 to 9
abbrev pub is_digit : ℕ → Bool
is_digit b = nat_le 48 b && nat_le b 57

-- a to z, 0 to 9 and _
abbrev pub is_word_byte : ℕ → Bool
is_word_byte b = is_letter b || is_digit b || b == 95

-- all of them pass the test
abbrev pub every : (ℕ → Bool) → List ℕ → Bool
every = list_all

-- the first byte passes the test
abbrev pub begins : (ℕ → Bool) → List ℕ → Bool
begins test [] = false
begins test (b ∷ bs) = test b

-- a letter first, then letters, digits and _, at most 16 bytes in all
abbrev pub is_name : List ℕ → Bool
is_name bs = begins is_letter bs && every is_word_byte bs && nat_le (length bs) 16

-- the first bytes are a name, or there are none, and the rest are 0
abbrev pub holds_name : List ℕ → ℕ → Bool
holds_name bytes len = (len == 0 || is_name (take len bytes)) && every (nat_eq 0) (drop len bytes)
