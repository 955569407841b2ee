use Rattle.redis_session.proofs.AddedRows.{lookup-insert_entry}
use Rattle.redis_session.proofs.added.AddedNames.add.Goals as goal

pub returns-clause-added : goal.returns-clause-added
returns-clause-added c = λ q.
    rw (c.in_ok-insert.ensures.entries, ← c.self.view_is, ← c.in_ok-name.ensures, ← c.kind_added.ensures)
    (lookup-insert_entry q c.in_ok-name.name c.kind_added.result c.self.inside.rows.entries)
