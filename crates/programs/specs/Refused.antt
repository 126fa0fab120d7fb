-- How a refusal is told.
use Rattle.std.specs.Prelude.{ℕ, List, ◌∷◌, ◌++◌, codes, decimal}
use Rattle.model.specs.Refusals.{layer_of, number_of}
use Rattle.programs.specs.declared.refused.Refused.{Refused}

-- the file, `refused`, and the number, the layer and the place, parted by spaces
abbrev pub refused_text : Refused → List ℕ
refused_text r =
    r.file.now ++ (codes " refused " ++ (decimal (number_of r.fault.refusal) ++ (32 ∷ (decimal (layer_of r.fault.refusal) ++ (32 ∷ decimal r.fault.place)))))
