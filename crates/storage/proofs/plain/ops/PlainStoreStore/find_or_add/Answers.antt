use Rattle.std.proofs.Common.{◌≡◌, ◌+◌, ◌<◌, [], ◌∷◌, ◌++◌, length, take, Ok, Err, sym, ap, ◌∙◌, subst, arith}
use Rattle.std.proofs.lemmas.List.{length_push, length-set, take_more_set}
use Rattle.storage.specs.Stores.{FindsOrAdds, found, appended, refused, Stored, capacity_for}
use Rattle.storage.proofs.Stored.{stored_more}
use Rattle.storage.proofs.plain.ops.PlainStoreStore.find_or_add.Goals as goal
use Rattle.storage.proofs.plain.ops.PlainStoreStore.find_or_add.Goals.{After-write}

pub returns-in-Some-clause-nodes : goal.returns-in-Some-clause-nodes
returns-in-Some-clause-nodes c = found c.in-Some.place c.in-Some.ensures

pub returns-then-place-capacity-clause-nodes : goal.returns-then-place-capacity-clause-nodes
returns-then-place-capacity-clause-nodes c =
    let s = c.args.self.now in
    let nodes = take s.len s.cells.now in
    let full : length nodes ≡ capacity_for (length s.cells.now) = s.count ∙ c.if-place-capacity.true ∙ c.capacity.ensures in
    subst (λ f. FindsOrAdds (capacity_for (length s.cells.now)) nodes c.args.node (Err f) nodes) (sym c.at.ensures) (refused c.in_default.ensures full)

-- the nodes then
more : (c : After-write) → take (c.args.self.now.len + 1) c.write.new.self.cells.now ≡ take c.args.self.now.len c.args.self.now.cells.now ++ (c.args.node ∷ [])
more c =
    let s = c.args.self.now in
    ap (take (s.len + 1)) c.write.ensures.cells ∙ take_more_set s.cells.now s.len c.args.node (omega (arith, s.count, s.stored.within, c.capacity.ensures, c.if-place-capacity.false))

room : (c : After-write) → length (take c.args.self.now.len c.args.self.now.cells.now) < capacity_for (length c.args.self.now.cells.now)
room c = omega (arith, c.args.self.now.count, c.args.self.now.stored.within, c.capacity.ensures, c.if-place-capacity.false)

long : (c : After-write) → length c.write.new.self.cells.now ≡ length c.args.self.now.cells.now
long c = ap length c.write.ensures.cells ∙ length-set c.args.self.now.cells.now c.args.self.now.len c.args.node

pub invariant_of-self : goal.invariant_of-self
invariant_of-self c =
    let s = c.args.self.now in
    let after = (goal.at.invariant_of-self c).After-write in
    let new = stored_more _ (take s.len s.cells.now) c.args.node s.stored c.in_default.ensures (room after) in
    record {
      count = ap length (more after) ∙ length_push (take s.len s.cells.now) c.args.node ∙ ap (λ k. k + 1) s.count;
      stored = subst (λ k. Stored (capacity_for k) (take (s.len + 1) c.write.new.self.cells.now)) (sym (long after)) (subst (Stored _) (sym (more after)) new);
    }

pub returns-clause-nodes : goal.returns-clause-nodes
returns-clause-nodes c =
    let s = c.args.self.now in
    let after = (goal.at.returns-clause-nodes c).After-write in
    let nodes = take s.len s.cells.now in
    let F = FindsOrAdds (capacity_for (length s.cells.now)) nodes c.args.node in
    subst (F (Ok s.len)) (sym (more after)) (subst (λ k. F (Ok k) (nodes ++ (c.args.node ∷ []))) s.count (appended c.in_default.ensures (room after)))
