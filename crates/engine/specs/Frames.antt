-- The questions that stand half answered.
use Rattle.std.specs.Prelude.{List, reverse}
use Rattle.arrayvec.specs.ArrayVec.{ArrayVec}
use Rattle.engine.specs.declared.frame.Frame.{Frame}

-- the newest first
abbrev pub open_frames : ArrayVec Frame → List Frame
open_frames fs = reverse fs.items
