use Rattle.std.proofs.Common.{rules, arith}
use Rattle.xds_json.proofs.Lists.{no_texts}
use Rattle.xds_json.proofs.fields.texts_of.Goals as goal

pub returns-in_default : goal.returns-in_default
returns-in_default c = λ other. (search rules, λ texts e. no_texts c.args.items.now.items c.loop-item.item-index c.item-item.result (omega arith) (grind arith) texts e)
