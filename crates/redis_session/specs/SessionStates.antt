-- What contracts see of a session.
use Rattle.std.specs.Prelude.{◌==◌, ℕ, Bool, false, List, [], Option, None, Some}
use Rattle.session_core.specs.Part.{Phase, PartState, Answered}
use Rattle.session_core.specs.State.{State, part_at, start}
use Rattle.redis_routing.specs.Names.{Names, names_of}
use Rattle.redis_routing.specs.Registry.{Registrations}
use Rattle.redis_session.specs.Added.{Added}
use Rattle.redis_session.specs.Asks.{Asks}
use Rattle.redis_session.specs.Deadlines.{Deadlines}
use Rattle.redis_session.specs.Directory.{Directory}
use Rattle.redis_session.specs.Peers.{Peers}
use Rattle.redis_session.specs.Rules.{KeptRules}
use Rattle.redis_session.specs.Told.{error_reply, unfit_reply}
use Rattle.redis_session.specs.declared.session.replying.LastReply.{LastReply}
use Rattle.redis_session.specs.declared.session.replying.LastReply.TheVariants as last
use Rattle.redis_session.specs.declared.load.Load.{Load}
use Rattle.redis_session.specs.declared.settings.Settings.{Settings}

-- The reply that was given last.
pub data Given : Type 0 where
  Nothing : Given
  -- the answer to the one part of this call
  OfPart : (call : ℕ) → Given
  -- these bytes, for this call
  Bytes : (call : ℕ) → (bytes : List ℕ) → Given

abbrev pub given_of : LastReply → Given
given_of last.Nothing = Nothing
given_of (last.OfPart call) = OfPart call
given_of (last.Made call bytes) = Bytes call bytes.items
given_of (last.Error call cause effect) = Bytes call (error_reply cause effect)
given_of (last.Unfit call) = Bytes call unfit_reply

-- it is the reply to this call
abbrev pub is_reply_of : ℕ → Given → Bool
is_reply_of call Nothing = false
is_reply_of call (OfPart own) = own == call
is_reply_of call (Bytes own bytes) = own == call

-- What a session was told when it began, as far as contracts say something of it.
pub record SessionSettings : Type 0 where
  -- the request with which each link begins; empty: none
  pub login : List ℕ
  -- how many bytes a reply may have
  pub most_reply_bytes : ℕ
  -- how many calls are kept at most
  pub most_calls : ℕ
  -- how many bytes their requests have at most
  pub most_bytes : ℕ
  -- how often nodes may refuse a part before it is given up
  pub retries : ℕ
  -- the names of the commands that only read
  pub read_only : List (List ℕ)
  -- the multi-key commands that the tables lack
  pub registered : Registrations
  -- the names that shared links take besides those of the table
  pub added : Added

abbrev pub settings_of : Settings → SessionSettings
settings_of s = record {
  login = s.login.items;
  most_reply_bytes = s.most_reply_bytes;
  most_calls = s.most_calls;
  most_bytes = s.most_bytes;
  retries = s.retries;
  read_only = s.read_only;
  registered = s.registry;
  added = s.added;
}

pub record SessionState : Type 0 where
  -- its links and its calls
  pub machine : State
  -- how the replies to its calls are made
  pub rules : KeptRules
  pub given : Given
  -- the nodes that it knows, and which of them serves each slot
  pub directory : Directory
  -- the node at the other end of each link
  pub peers : Peers
  -- the node to which the last `ASK` sent each part
  pub asks : Asks
  -- when the times of its calls are over
  pub deadlines : Deadlines
  -- how much it keeps for its calls
  pub load : Load
  -- the time that was noted last
  pub now : ℕ
  pub settings : SessionSettings

-- a session of no links and no calls, which knows no node, with these settings
abbrev pub new_session : SessionSettings → SessionState
new_session settings = record {
  machine = start;
  rules = [];
  given = Nothing;
  directory = record { nodes = []; table = record { map = []; moved = []; count = 0 } };
  peers = [];
  asks = [];
  load = record { calls = 0; bytes = 0 };
  deadlines = [];
  now = 0;
  settings = settings;
}

-- what it was told of names when it began
abbrev pub names_by : SessionSettings → Names
names_by settings = names_of settings.read_only settings.registered

abbrev pub names : SessionState → Names
names s = names_by s.settings

-- the last reply is forgotten
abbrev pub without_reply : SessionState → SessionState
without_reply s = record s { given = Nothing }

-- the answer that a part has, if it has one
abbrev pub answer_of : Phase → List ℕ
answer_of (Answered reply) = reply
answer_of other = []

abbrev pub answer_in : Option PartState → List ℕ
answer_in None = []
answer_in (Some p) = answer_of p.phase

-- the bytes of the reply that was given last
abbrev pub bytes_of : Given → State → List ℕ
bytes_of Nothing s = []
bytes_of (OfPart call) s = answer_in (part_at call 0 s)
bytes_of (Bytes call bytes) s = bytes

abbrev pub last_reply : SessionState → List ℕ
last_reply s = bytes_of s.given s.machine
