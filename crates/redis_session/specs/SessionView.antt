-- Which part of a session contracts see.
use Rattle.redis_session.specs.SessionStates.{SessionState, given_of, settings_of}
use Rattle.redis_session.specs.declared.session.Session.TheInside.{Inside}

abbrev pub view_of : Inside → SessionState
view_of s = record {
  machine = s.machine;
  rules = s.rules;
  given = given_of s.reply;
  directory = s.directory;
  peers = s.peers;
  asks = s.asks;
  load = s.load;
  deadlines = s.deadlines;
  now = s.now;
  settings = settings_of s.settings;
}
