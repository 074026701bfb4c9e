use Rattle.std.proofs.Common.{arith}
use Rattle.std.proofs.lemmas.Str.{IsUtf8-string_bytes}
use Rattle.xds_message.specs.Batches.{batch_object}
use Rattle.xds_message.proofs.BatchLemmas.{has_float-batch_object, depth-batch_object, SpellsBatch-batch_object}
use Rattle.xds_message.proofs.batch.Batch.write.Goals as goal

pub returns-clause-text : goal.returns-clause-text
returns-clause-text c =
    let whole = has_float-batch_object c.args.self.now c.in_ok-to_value.ensures.sound in
    grind arith

pub returns-clause-reads_back : goal.returns-clause-reads_back
returns-clause-reads_back c =
    let b = c.args.self.now in
    let sound = c.in_ok-to_value.ensures.sound in
    let within = depth-batch_object b sound in
    (batch_object b, (IsUtf8-string_bytes c.in_ok-to_string.field-0, grind arith), SpellsBatch-batch_object b sound)
