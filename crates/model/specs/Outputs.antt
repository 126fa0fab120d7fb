-- Outputs of a net.
use Rattle.std.specs.Prelude.{ℕ, replicate, refl}
use Rattle.std.proofs.Common.{lit≤}
use Rattle.model.specs.declared.name.Name.{Name}
use Rattle.model.specs.declared.output.Output.{Output}

-- the name of no bytes
abbrev pub empty_name : Name
empty_name = record { bytes = replicate 16 0; len = 0; whole = refl; short = lit≤ tt; formed = refl }

abbrev pub output_of : Name → ℕ → Output
output_of name signal = record { name = name; signal = signal }

-- no output
abbrev pub empty_output : Output
empty_output = output_of empty_name 0
