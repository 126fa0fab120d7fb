-- What becomes of a draft from step to step.
use Rattle.std.proofs.Common.{refl, ◌∙◌}
use Rattle.sheets.specs.Drafts.{Others, SameLists}
use Rattle.sheets.specs.declared.draft.Draft.{Draft}

pub others_then : (c d e : Draft) → Others c d → Others d e → Others c e
others_then c d e p q = record { names = q.names ∙ p.names; outputs = q.outputs ∙ p.outputs; output_count = q.output_count ∙ p.output_count; facts = q.facts ∙ p.facts }

pub lists_then : (c d e : Draft) → SameLists c d → SameLists d e → SameLists c e
lists_then c d e p q = record { capacity = q.capacity ∙ p.capacity; gates = q.gates ∙ p.gates; outputs = q.outputs ∙ p.outputs }

pub same_lists : (d : Draft) → SameLists d d
same_lists d = record { capacity = refl; gates = refl; outputs = refl }
