use Rattle.std.proofs.Common.{refl}
use Rattle.storage.proofs.RunLaws.{alike, does_clear, does_seek, does_cut, does_capacity, does_len, does_read}
use Rattle.storage.proofs.calls.perform.Goals as goal

pub returns-in-Clear : goal.returns-in-Clear
returns-in-Clear g c = record { does = does_clear _ _ _ _ c.in-Clear.is c.clear.ensures.nodes; memory = c.clear.ensures.memory; alike = alike _ }

pub returns-in-FindOrAdd : goal.returns-in-FindOrAdd
returns-in-FindOrAdd g c =
    record { does = does_seek _ _ _ c.in-FindOrAdd.node _ _ c.in-FindOrAdd.is c.find_or_add.ensures.nodes; memory = c.find_or_add.ensures.memory; alike = alike _ }

pub returns-in-Cut : goal.returns-in-Cut
returns-in-Cut g c = record { does = does_cut _ _ _ c.in-Cut.count _ c.in-Cut.is c.cut.ensures.nodes; memory = c.cut.ensures.memory; alike = alike _ }

pub returns-in-Capacity : goal.returns-in-Capacity
returns-in-Capacity g c = record { does = does_capacity _ _ _ _ c.in-Capacity.is c.capacity.ensures; memory = record { capacity = refl; lent = refl }; alike = alike _ }

pub returns-in-Len : goal.returns-in-Len
returns-in-Len g c = record { does = does_len _ _ _ _ c.in-Len.is c.len.ensures; memory = record { capacity = refl; lent = refl }; alike = alike _ }

pub returns-in-NodeAt : goal.returns-in-NodeAt
returns-in-NodeAt g c = record { does = does_read _ _ _ c.in-NodeAt.place _ c.in-NodeAt.is c.node.ensures; memory = record { capacity = refl; lent = refl }; alike = alike _ }
