-- What every sheet has: its first line, and later lines that are read one by one.
use Rattle.std.specs.Prelude.{◌≡◌, ℕ, ◌^◌, ◌<◌, ◌≤◌, Bool, true, false, ◌&&◌, ◌||◌, List, [], ◌∷◌, ◌++◌, length, take, Ok, Err, decimal, Result, ◌==◌, ◌≢◌, nat_le, slice_index}
use Rattle.model.specs.Names.{every}
use Rattle.model.specs.Refusals.{fault}
use Rattle.model.specs.declared.fault.Fault.{Fault}
use Rattle.model.specs.declared.fault.Refusal.{Refusal}
use Rattle.model.specs.declared.fault.Refusal.TheVariants.{TextTooLong, BadByte, BadHeading, WrongVersion}
use Rattle.sheets.specs.Lines.{Line, lines_from, heading, later, speaking}
use Rattle.sheets.specs.Tokens.{tokens}

-- a newline, or a printable character
abbrev pub allowed : ℕ → Bool
allowed b = b == 10 || (nat_le 32 b && nat_le b 126)

pub record Plain (text : List ℕ) : Type 0 where
  pub short : length text ≤ 65535
  pub printable : every allowed text ≡ true

-- the mark, one space and a 16-bit number
abbrev pub Heading : List ℕ → List ℕ → ℕ → Type 0
Heading mark line version = (version < 2 ^ 16) × (line ≡ mark ++ (32 ∷ decimal version))

-- the checks up to the first line, in their order
pub data Opens (mark text : List ℕ) : Result (Unit {0}) Fault → Type 0 where
  too_long : 65535 < length text → Opens mark text (Err (fault TextTooLong 0))
  bad_byte : length text ≤ 65535 → (p : ℕ) → p < length text → every allowed (take p text) ≡ true → allowed (slice_index text p) ≡ false → Opens mark text (Err (fault BadByte p))
  bad_heading : Plain text → ((v : ℕ) → Heading mark (heading (lines_from 0 text)) v → ⊥) → Opens mark text (Err (fault BadHeading 0))
  wrong_version : Plain text → (v : ℕ) → Heading mark (heading (lines_from 0 text)) v → (v ≢ 1) → Opens mark text (Err (fault WrongVersion 0))
  opens : Plain text → Heading mark (heading (lines_from 0 text)) 1 → Opens mark text (Ok tt)

module _ {S : Type 0} (Step : S → List (List ℕ) → Result S Refusal → Type 0) where
  -- line by line: the first line that is refused counts, at its first byte
  pub data Reads : S → List Line → Result S Fault → Type 0 where
    done : {s : S} → Reads s [] (Ok s)
    goes_on : {s : S} {l : Line} {ls : List Line} {r : Result S Fault} → (s' : S) → Step s (tokens l.bytes) (Ok s') → Reads s' ls r → Reads s (l ∷ ls) r
    stops : {s : S} {l : Line} {ls : List Line} → (refusal : Refusal) → Step s (tokens l.bytes) (Err refusal) → Reads s (l ∷ ls) (Err (fault refusal l.first))

  -- the verdict on a text, with what is there before its first line
  pub data Sheet (mark : List ℕ) (start : S) (text : List ℕ) : Result S Fault → Type 0 where
    unopened : (f : Fault) → Opens mark text (Err f) → Sheet mark start text (Err f)
    opened : {r : Result S Fault} → Opens mark text (Ok tt) → Reads start (speaking (later (lines_from 0 text))) r → Sheet mark start text r

-- the verdict that an answer gives, with what it leaves
abbrev pub verdict : {S : Type 0} → Result (Unit {0}) Fault → S → Result S Fault
verdict (Ok x) s = Ok s
verdict (Err f) s = Err f
