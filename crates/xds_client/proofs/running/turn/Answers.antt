use Rattle.std.proofs.Common.{refl}
use Rattle.xds_resource.proofs.Refusing.{err_is}
use Rattle.xds_frames.specs.Devices.{seen}
use Rattle.xds_client.specs.Turning.{Turns, client_of, devices, variant_of}
use Rattle.xds_client.proofs.Turns.{none_replied, replied, turn_cut, turn_reads, turn_takes, turn_unanswered, turn_unprinted, turn_unwritten}
use Rattle.xds_client.proofs.running.turn.Goals as goal

pub returns-in_err-reply-clause-turns : goal.returns-in_err-reply-clause-turns
returns-in_err-reply-clause-turns g c =
    let v = variant_of c.args.client.now in
    let k = client_of c.args.client.now in
    let left = client_of c.answer_next.new.self in
    let after = c.answer_next.new.decoder in
    err_is
    (λ r. Turns v c.args.kind k c.args.decoder.now r left after
    (devices (seen g.R.Read.remaining c.args.reader.now c.args.reader.now) (seen g.W.Write.contents c.args.writer.now c.args.writer.now) (seen g.O.Write.contents c.args.output.now c.args.output.now) c.args.reader.now.calls c.args.reader.now.calls))
    c.from_residual.result c.in_err-reply.field-0.0 c.from_residual.ensures.1 (turn_unanswered v c.args.kind k left c.args.decoder.now after _ _ _ _ _ _ c.args.reader.now.calls c.args.reader.now.calls _ c.in_err-reply.ensures.gives)

pub returns-in_err-write_whole-in-Some-clause-turns : goal.returns-in_err-write_whole-in-Some-clause-turns
returns-in_err-write_whole-in-Some-clause-turns g c =
    let v = variant_of c.args.client.now in
    let k = client_of c.args.client.now in
    let left = client_of c.answer_next.new.self in
    let after = c.answer_next.new.decoder in
    let exit = c.in_err-write_whole-in-Some in
    err_is
    (λ r. Turns v c.args.kind k c.args.decoder.now r left after
    (devices (seen g.R.Read.remaining c.args.reader.now c.args.reader.now) (seen g.W.Write.contents c.args.writer.now c.args.writer.now) (seen g.O.Write.contents c.args.output.now c.write_whole.new.writer) c.args.reader.now.calls c.args.reader.now.calls))
    c.from_residual-in_err-write_whole-in-Some.result exit.field-0.0 c.from_residual-in_err-write_whole-in-Some.ensures.1
    (turn_unprinted v c.args.kind k left c.args.decoder.now after _ _ _ _ _ _ c.args.reader.now.calls c.args.reader.now.calls _ _ c.in-Some.reply c.as_bytes.result.now _ (replied v c.args.kind k left c.args.decoder.now after _ _ c.in_ok-reply.ensures.gives c.in-Some.is) c.as_bytes.ensures.value exit.ensures.failed)

pub returns-in_err-write_whole-in-Some-2-clause-turns : goal.returns-in_err-write_whole-in-Some-2-clause-turns
returns-in_err-write_whole-in-Some-2-clause-turns g c =
    let v = variant_of c.args.client.now in
    let k = client_of c.args.client.now in
    let left = client_of c.answer_next.new.self in
    let after = c.answer_next.new.decoder in
    let exit = c.in_err-write_whole-in-Some-2 in
    let told = c.in_ok-write_whole-in-Some in
    err_is
    (λ r. Turns v c.args.kind k c.args.decoder.now r left after
    (devices (seen g.R.Read.remaining c.args.reader.now c.args.reader.now) (seen g.W.Write.contents c.args.writer.now c.write_whole-in-Some.new.writer) (seen g.O.Write.contents c.args.output.now c.write_whole.new.writer) c.args.reader.now.calls c.args.reader.now.calls))
    c.from_residual-in_err-write_whole-in-Some-2.result exit.field-0.0 c.from_residual-in_err-write_whole-in-Some-2.ensures.1
    (turn_unwritten v c.args.kind k left c.args.decoder.now after _ _ _ _ _ _ c.args.reader.now.calls c.args.reader.now.calls _ _ _ _ c.in-Some.reply c.as_bytes.result.now c.as_slice.result.now _ (replied v c.args.kind k left c.args.decoder.now after _ _ c.in_ok-reply.ensures.gives c.in-Some.is)
    c.as_bytes.ensures.value told.ensures.written told.ensures.none_failed c.as_slice.ensures.value exit.ensures.failed)

pub returns-in_ok-write_whole-in-Some-2-clause-turns : goal.returns-in_ok-write_whole-in-Some-2-clause-turns
returns-in_ok-write_whole-in-Some-2-clause-turns g c =
    let v = variant_of c.args.client.now in
    let k = client_of c.args.client.now in
    let left = client_of c.answer_next.new.self in
    let after = c.answer_next.new.decoder in
    let told = c.in_ok-write_whole-in-Some in
    let wrote = c.in_ok-write_whole-in-Some-2 in
    turn_takes v c.args.kind k left c.args.decoder.now after _ _ _ _ _ _ c.args.reader.now.calls c.args.reader.now.calls _ _ _ _ c.in-Some.reply c.as_bytes.result.now c.as_slice.result.now (replied v c.args.kind k left c.args.decoder.now after _ _ c.in_ok-reply.ensures.gives c.in-Some.is)
    c.as_bytes.ensures.value told.ensures.written told.ensures.none_failed c.as_slice.ensures.value wrote.ensures.written wrote.ensures.none_failed refl

pub returns-in_err-fill-in-None-clause-turns : goal.returns-in_err-fill-in-None-clause-turns
returns-in_err-fill-in-None-clause-turns g c =
    let v = variant_of c.args.client.now in
    let k = client_of c.args.client.now in
    let left = client_of c.answer_next.new.self in
    let after = c.answer_next.new.decoder in
    let exit = c.in_err-fill-in-None in
    err_is
    (λ r. Turns v c.args.kind k c.args.decoder.now r left c.fill.new.decoder
    (devices (seen g.R.Read.remaining c.args.reader.now c.fill.new.reader) (seen g.W.Write.contents c.args.writer.now c.args.writer.now) (seen g.O.Write.contents c.args.output.now c.args.output.now) c.args.reader.now.calls c.fill.new.reader.calls))
    c.from_residual-in_err-fill-in-None.result exit.field-0.0 c.from_residual-in_err-fill-in-None.ensures.1
    (turn_cut v c.args.kind k left c.args.decoder.now after _ _ _ _ _ _ c.args.reader.now.calls c.fill.new.reader.calls _ _ c.fill.new.decoder _ (none_replied v c.args.kind k left c.args.decoder.now after _ c.in_ok-reply.ensures.gives c.in-None.is) exit.ensures.filled)

pub returns-in_ok-fill-in-None-clause-turns : goal.returns-in_ok-fill-in-None-clause-turns
returns-in_ok-fill-in-None-clause-turns g c =
    let v = variant_of c.args.client.now in
    let k = client_of c.args.client.now in
    let left = client_of c.answer_next.new.self in
    let after = c.answer_next.new.decoder in
    let filled = c.in_ok-fill-in-None in
    turn_reads v c.args.kind k left c.args.decoder.now after _ _ _ _ _ _ c.args.reader.now.calls c.fill.new.reader.calls _ _ c.fill.new.decoder (none_replied v c.args.kind k left c.args.decoder.now after _ c.in_ok-reply.ensures.gives c.in-None.is) filled.ensures.filled filled.ensures.called
