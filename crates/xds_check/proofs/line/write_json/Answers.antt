use Rattle.std.proofs.Common.{arith}
use Rattle.std.proofs.lemmas.Str.{IsUtf8-string_bytes}
use Rattle.xds_resource.specs.Any.{write_type, stamped_write}
use Rattle.xds_message.specs.StampedWrites.{write_object}
use Rattle.xds_message.proofs.StampedWriteLemmas.{SpellsWrite-write_object}
use Rattle.xds_check.proofs.line.write_json.Goals as goal

pub returns-clause-reads_back : goal.returns-clause-reads_back
returns-clause-reads_back c =
    let t = write_type c.args.write.now in
    let w = stamped_write c.args.write.now in
    (write_object t w, (IsUtf8-string_bytes c.in_ok-to_string.field-0, grind arith), SpellsWrite-write_object t w c.any_is_writable.ensures.writable c.any_is_writable.ensures.stamp)
