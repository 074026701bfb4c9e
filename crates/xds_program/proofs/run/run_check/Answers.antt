use Rattle.std.proofs.Common.{Bool, List, ℕ, refl, subst, string_bytes, ◌∙◌}
use Rattle.std.specs.Prelude.{is_some}
use Rattle.std.specs.Option.{option_map}
use Rattle.xds_frames.specs.Devices.{seen}
use Rattle.xds_program.specs.Outcomes.{RunsWanted, Streams, TellsBehind, TellsCause}
use Rattle.xds_program.proofs.Behind.{drawn, drawn_check, is_some-map}
use Rattle.xds_program.proofs.run.run_check.Goals as goal

pub returns : goal.returns
returns g c =
    let task = c.task.inside in
    let cause = string_bytes c.check_as-status.new.cause in
    let is_note = c.if-status-eq-DONE.is_note in
    let first = seen g.E.Write.contents c.args.errors.now c.check_as-status.new.errors in
    let last = seen g.E.Write.contents c.check_as-status.new.errors c.tell_cause.new.errors in
    let s : Streams = record {
      input = seen g.I.Read.remaining c.args.input.now c.check_as-status.new.input;
      output = seen g.O.Write.contents c.args.output.now c.check_as-status.new.output;
      errors = first;
    } in
    drawn_check _ _ _ _ _ _ c.task.view_is (drawn _ (TellsBehind (RunsWanted task.so_far task.explain (is_some (option_map string_bytes task.picture)))) _ _ _ c.drawn_or_done.ensures (record {
      cause = cause;
      first = first;
      last = last;
      joined = record { before = refl; between = refl; after = refl; failed_before = refl; failed_between = refl; failed_after = refl };
      ends = subst (λ (b : Bool). RunsWanted task.so_far task.explain b cause c.check_as-status.result s) (c.is_some.ensures ∙ is_some-map string_bytes task.picture) c.check_as-status.ensures;
      is_note = is_note;
      told = subst (λ (t : List ℕ). TellsCause is_note t last) c.as_str.ensures.value c.tell_cause.ensures;
    }))
