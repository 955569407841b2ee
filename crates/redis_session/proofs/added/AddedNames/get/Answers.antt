use Rattle.std.proofs.Common.{◌∙◌}
use Rattle.redis_session.proofs.AddedRows.{found_row}
use Rattle.redis_session.proofs.added.AddedNames.get.Goals as goal

pub returns : goal.returns
returns c = rw (← c.self.view_is) (c.copied.ensures ∙ c.get.ensures.value ∙ found_row c.args.name.now c.self.inside.rows.entries)
