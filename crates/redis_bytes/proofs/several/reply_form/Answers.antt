use Rattle.redis_bytes.proofs.OneReply.{error_faults, error_forms, value_faults, value_forms}
use Rattle.redis_bytes.proofs.several.reply_form.Goals as goal

pub returns-in-Ok-clause-bytes : goal.returns-in-Ok-clause-bytes
returns-in-Ok-clause-bytes c = value_forms c.args.policy c.args.answers.items c.in_ok-given.given.items c.in_ok-given.ensures c.in-Ok.value c.value_form.result c.in-Ok.ensures.reply c.value_form.ensures.bytes

pub returns-in-Ok-clause-fault : goal.returns-in-Ok-clause-fault
returns-in-Ok-clause-fault c = value_faults c.args.policy c.args.answers.items c.in_ok-given.given.items c.in_ok-given.ensures c.in-Ok.value c.value_form.result c.in-Ok.ensures.reply c.value_form.ensures.fault

pub returns-in-Err-clause-bytes : goal.returns-in-Err-clause-bytes
returns-in-Err-clause-bytes c = error_forms c.args.policy c.args.answers.items c.in_ok-given.given.items c.in_ok-given.ensures c.in-Err.error c.error_form.result c.in-Err.ensures.reply c.error_form.ensures.bytes

pub returns-in-Err-clause-fault : goal.returns-in-Err-clause-fault
returns-in-Err-clause-fault c = error_faults c.args.policy c.args.answers.items c.in_ok-given.given.items c.in_ok-given.ensures c.in-Err.error c.error_form.result c.in-Err.ensures.reply c.error_form.ensures.fault
