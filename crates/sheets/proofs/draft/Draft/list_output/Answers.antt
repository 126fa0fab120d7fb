use Rattle.std.proofs.Common.{◌≡◌, ℕ, Some, None, Option, Err, ◌<◌, length, set, is_some, sym, refl, ap, ◌∙◌, arith}
use Rattle.std.proofs.lemmas.List.{length-set}
use Rattle.std.specs.Option.{ok_or}
use Rattle.std.proofs.lemmas.Result.{err_from_is_err_and}
use Rattle.model.specs.declared.fault.Refusal.{Refusal}
use Rattle.model.specs.declared.fault.Refusal.TheVariants.{UnknownName}
use Rattle.model.specs.Outputs.{empty_output, output_of}
use Rattle.model.specs.Spelling.{spelling}
use Rattle.table.specs.Tables.{keys_of}
use Rattle.sheets.specs.Drafts.{unknown, repeated, too_large, listed}
use Rattle.sheets.proofs.Lookups.{found_zero}
use Rattle.sheets.proofs.Rests.{put_rest}
use Rattle.sheets.proofs.Drafts.{same_lists}
use Rattle.sheets.proofs.draft.Draft.list_output.Goals as goal

-- a name with no signal is refused with the refusal that is given
given : (o : Option ℕ) (e f : Refusal) → Err f ≡ ok_or o e → f ≡ e
given None e f h = cc
given (Some x) e f h = absurd cc

pub returns-in_err-signal : goal.returns-in_err-signal
returns-in_err-signal c =
    let none = c.in_err-signal.ensures in
    record {
      judged =
          let out = err_from_is_err_and c.from_residual.result c.from_residual.ensures.1 in
          rw (out.1, out.2, given c.look_up.result UnknownName _ none.value)
          (unknown (ap is_some (sym c.look_up.ensures) ∙ sym none.variant));
      lent = same_lists _;
    }

pub returns-then-lists : goal.returns-then-lists
returns-then-lists c =
    let found = found_zero (keys_of c.args.self.now.names.now) (spelling c.args.name) c.in_ok-signal.signal (sym c.in_ok-signal.ensures.ok_part ∙ c.look_up.ensures) in
    record { judged = repeated found.0 (sym c.if-lists.ensures); lent = same_lists _ }

pub returns-then-place-self : goal.returns-then-place-self
returns-then-place-self c =
    let found = found_zero (keys_of c.args.self.now.names.now) (spelling c.args.name) c.in_ok-signal.signal (sym c.in_ok-signal.ensures.ok_part ∙ c.look_up.ensures) in
    record {
      judged = too_large found.0 (sym c.if-lists.ensures) c.if-place-self.true;
      lent = same_lists _;
    }

pub returns : goal.returns
returns c =
    let d = c.args.self.now in
    let found = found_zero (keys_of c.args.self.now.names.now) (spelling c.args.name) c.in_ok-signal.signal (sym c.in_ok-signal.ensures.ok_part ∙ c.look_up.ensures) in
    let room : d.output_count < length d.outputs.now = omega (arith, c.if-place-self.false, d.outputs_fit) in
    record {
      judged =
          listed found.0 (sym c.if-lists.ensures) room refl refl refl refl refl
          (ap (λ k. set d.outputs.now d.output_count (output_of c.args.name k)) found.1) refl;
      lent = record { capacity = refl; gates = refl; outputs = refl };
    }

pub invariant_of-self-clause-outputs_fit : goal.invariant_of-self-clause-outputs_fit
invariant_of-self-clause-outputs_fit c =
    let d = c.args.self.now in
    omega (arith, c.if-place-self.false, d.outputs_fit, length-set d.outputs.now d.output_count (output_of c.args.name c.in_ok-signal.signal))

pub invariant_of-self-clause-outputs_rest : goal.invariant_of-self-clause-outputs_rest
invariant_of-self-clause-outputs_rest c =
    let d = c.args.self.now in
    put_rest empty_output d.outputs.now d.output_count (output_of c.args.name c.in_ok-signal.signal) d.outputs_rest
