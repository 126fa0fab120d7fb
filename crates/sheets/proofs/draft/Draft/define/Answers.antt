use Rattle.std.proofs.Common.{is_some, sym, refl, ap, ◌∙◌}
use Rattle.std.proofs.lemmas.Bool.Decides.{not_from_Decides}
use Rattle.sheets.specs.Drafts.{unknown, repeated, too_large, defined}
use Rattle.sheets.proofs.Drafts.{same_lists}
use Rattle.sheets.proofs.draft.Draft.define.Goals as goal

pub returns-then-self : goal.returns-then-self
returns-then-self c = record { judged = unknown c.if-self.true; lent = same_lists _ }

pub returns-then-is_some : goal.returns-then-is_some
returns-then-is_some c = record {
  judged = repeated c.if-self.false (sym (ap is_some c.look_up.ensures) ∙ sym c.if-is_some.ensures);
  lent = same_lists _;
}

pub returns-then-not-has_room : goal.returns-then-not-has_room
returns-then-not-has_room c = record {
  judged = too_large c.if-self.false (sym (ap is_some c.look_up.ensures) ∙ sym c.if-is_some.ensures) (not_from_Decides _ c.has_room.ensures c.if-not-has_room.true);
  lent = same_lists _;
}

pub returns : goal.returns
returns c = record {
  judged =
      defined c.if-self.false (sym (ap is_some c.look_up.ensures) ∙ sym c.if-is_some.ensures) (c.has_room.ensures.0 c.if-not-has_room.false) c.add.ensures.keys (record { gates = refl; gate_count = refl; outputs = refl; output_count = refl; facts = refl; unknown = refl });
  lent = record { capacity = c.add.ensures.capacity; gates = refl; outputs = refl };
}
