use Rattle.std.proofs.Common.{◌∙◌, sym, subst}
use Rattle.redis_session.specs.Leads.{Leads}
use Rattle.redis_session.specs.SessionStates.{SessionState}
use Rattle.redis_session.specs.SessionView.{view_of}
use Rattle.redis_session.proofs.Serving.{leaves_by}
use Rattle.redis_session.proofs.session.Session.end_link.Goals as goal

pub returns : goal.returns
returns c =
    let before = view_of c.self.inside in
    let alone = record before { peers = c.leave.new.self } in
    let last = subst (λ (s : SessionState). Leads s c.lose_all.new.self) c.want_map.ensures c.lose_all.ensures in
    record {
      mid = c.end_connection.new.self;
      ends = c.end_connection.ensures.ended;
      none = c.end_connection.ensures.not;
      others = c.end_connection.ensures.others;
      alone = alone;
      leaves = leaves_by c.args.link before c.end_connection.new.self c.leave.new.self (c.self.view_is ∙ c.note_unreached.ensures) c.leave.ensures;
      leads = subst (λ (s : SessionState). Leads alone s) (sym c.want_again.ensures) last;
    }
