-- Steps of a session's own, one after the other.
use Rattle.std.proofs.Common.{◌≡◌, ◌≢◌, ◌⊎◌, inl, inr, ◌++◌, [], ◌∷◌, ◌∙◌, ℕ, zero, suc, List, Bool, true, false, Ok, Err, OnOk, OnErr, None, Some, Vec, Global, refl, subst, sym, ap}
use Rattle.std.specs.Prelude.{Result}
use Rattle.std.specs.Fmt.{digits}
use Rattle.std.proofs.lemmas.List.{append_assoc, append-nil}
use Rattle.std.proofs.lemmas.Option.{same_Some}
use Rattle.cluster_slots.specs.Address.{Address}
use Rattle.session_core.specs.Channel.{Channel}
use Rattle.session_core.specs.LinkEvents as link
use Rattle.session_core.specs.State.{State, Event, Open, On, Forget, Begin, GiveUp, End, Finish, Leave, Trim, Happens, IsLink}
use Rattle.session_core.specs.declared.link.BreakCause.{BreakCause}
use Rattle.session_core.specs.declared.link.Ticket.{Ticket}
use Rattle.session_core.specs.declared.link.Ticket.TheVariants as ticket
use Rattle.session_core.specs.declared.ordered_part.Seat.{Seat}
use Rattle.session_core.specs.Part.{Phase, PartState, Refused, is_waiting}
use Rattle.session_machine.specs.Part.{Keeps}
use Rattle.session_machine.specs.Puts.{put_for}
use Rattle.session_machine.specs.Took.{IsKeptIn, IsTook}
use Rattle.session_machine.specs.declared.took.Took.{Took}
use Rattle.session_machine.specs.declared.took.Took.TheVariants.{Nothing, Kept, Back, Login, Map, Asking, Broken}
use Rattle.redis_session.specs.Asks.{Asks, KeepsOtherAsks, SetsAsk, asked_node}
use Rattle.redis_session.specs.Directory.{Grows}
use Rattle.redis_session.specs.Learned.{IsInMap, JoinsKept, JoinsOf, JoinsRedirect, JoinsTook, Learns, LearnsKept, LearnsOf, LearnsRedirect, LearnsReply, LearnsTook, NoAsks, NoPeers, Readies, ReadiesOf, SendsKept, SendsOf, SendsOrForgets, SendsRedirect, SendsTook, Sets, host_at}
use Rattle.redis_session.specs.Leads.{Acts, AsksLogin, BeginsLink, ChangesPeer, Does, Ends, Finishes, Frees, GivesReply, Hails, Hears, IsConnected, IsOpened, IsOwn, Knows, Leads, LearnsThen, Notes, Opens, Serves, TakesAll, TakesReplies, TakesReply, map_request}
use Rattle.redis_session.specs.Loads.{Lightens}
use Rattle.redis_session.specs.Peers.{IsReadyTo, Peers, peer_at}
use Rattle.redis_session.specs.SessionStates.{SessionState, is_reply_of, without_reply}
use Rattle.redis_session.specs.Table.{Table}
use Rattle.redis_session.specs.declared.load.Load.{Load}
use Rattle.redis_session.proofs.Elements.{all_as}
use Rattle.std.proofs.lemmas.List.Elements.{All-append, All-nil}

acts_on : (events more : List Event) (old mid new : SessionState) → Acts old events mid → Acts mid more new → Acts old (events ++ more) new
acts_on [] more old mid new acts rest = subst (λ s. Acts s more new) acts rest
acts_on (e ∷ events) more old mid new acts rest = (acts.0, acts.1, acts.2, acts_on events more acts.0 mid new acts.3 rest)

pub leads_nowhere : (old new : SessionState) → new ≡ old → Leads old new
leads_nowhere old new same = record { events = []; acts = same }

-- no call leaves with this
abbrev pub LeavesNone : Event → Type 0
LeavesNone (Leave call) = ⊥
LeavesNone other = Unit {0}

frees_none : (e : Event) (old new : SessionState) → LeavesNone e → new.asks ≡ old.asks → new.load ≡ old.load → Frees e old new
frees_none (Leave call) old new none asks load = absurd none
frees_none (Open number most) old new none asks load = (asks, load)
frees_none (On number event) old new none asks load = (asks, load)
frees_none (Forget number) old new none asks load = (asks, load)
frees_none (Begin call caller parts) old new none asks load = (asks, load)
frees_none (GiveUp call) old new none asks load = (asks, load)
frees_none (End call part cause) old new none asks load = (asks, load)
frees_none (Finish call state) old new none asks load = (asks, load)
frees_none Trim old new none asks load = (asks, load)

pub does_by : (old new : SessionState) (e : Event) → LeavesNone e → Happens old.machine e new.machine → new ≡ record old { machine = new.machine } → Does e old new
does_by old new e none happens others = record {
  happens = happens;
  frees = frees_none e old new none (ap (λ (s : SessionState). s.asks) others) (ap (λ (s : SessionState). s.load) others);
  others = subst (λ (s : SessionState). s ≡ record old { machine = s.machine; asks = s.asks; load = s.load }) (sym others) refl;
}

pub leads_by : (old new : SessionState) (e : Event) → LeavesNone e → Happens old.machine e new.machine → IsOwn old e → new ≡ record old { machine = new.machine } → Leads old new
leads_by old new e none happens own others = record { events = e ∷ []; acts = (new, does_by old new e none happens others, own, refl) }

pub leads_on : (old mid new : SessionState) → Leads old mid → Leads mid new → Leads old new
leads_on old mid new first then = record { events = first.events ++ then.events; acts = acts_on first.events then.events old mid new first.acts then.acts }

-- a call leaves, and then the session goes on
pub leads_leave : (start before now : SessionState) (call : ℕ) (machine : State) (asks : Asks) (load : Load) (new : SessionState) → Leads start now → before ≡ now → Happens before.machine (Leave call) machine
    → is_reply_of call before.given ≡ false → KeepsOtherAsks call before.asks asks → Lightens before.load load → Leads (record before { machine = machine; asks = asks; load = load }) new → Leads start new
leads_leave start before now call machine asks load new first same happens own fewer lighter then =
    let mid = record before { machine = machine; asks = asks; load = load } in
    leads_on start now new first (subst (λ (s : SessionState). Leads s new) same
    (leads_on before mid new (record { events = Leave call ∷ []; acts = (mid, record { happens = happens; frees = (fewer, lighter); others = refl }, own, refl) }) then))

-- A step of the links and calls, then more.
pub leads_through : (start before now : SessionState) (machine : State) (new : SessionState) → Leads start now → before ≡ now
    → Leads before (record before { machine = machine }) → Leads (record before { machine = machine }) new → Leads start new
leads_through start before now machine new first same step then =
    leads_on start now new first (subst (λ (s : SessionState). Leads s new) same (leads_on before (record before { machine = machine }) new step then))

-- It happens or nothing changes, as this answer says.
pub leads_if : (old new : SessionState) (e : Event) (answer : Bool) → LeavesNone e → IsOwn old e → (answer ≡ true → Happens old.machine e new.machine) → (answer ≡ false → new.machine ≡ old.machine)
    → new ≡ record old { machine = new.machine } → Leads old new
leads_if old new e true none own does not others = leads_by old new e none (does refl) own others
leads_if old new e false none own does not others = leads_nowhere old new (others ∙ ap (λ (m : State). record old { machine = m }) (not refl))

pub leads_ok : {X E : Type 0} (old new : SessionState) (e : Event) (result : Result X E) → LeavesNone e → IsOwn old e → OnOk result (Happens old.machine e new.machine) → OnErr result (new.machine ≡ old.machine)
    → new ≡ record old { machine = new.machine } → Leads old new
leads_ok old new e (Ok x) none own does not others = leads_by old new e none does own others
leads_ok old new e (Err y) none own does not others = leads_nowhere old new (others ∙ ap (λ (m : State). record old { machine = m }) not)

-- a part is asked, with `ASKING` before it or without
own_put : (s : SessionState) (asks : Bool) (node number call part : ℕ) (request : List ℕ) → IsReadyTo node number s.peers
    → (asks ≡ false → Serves s call part node) → (asks ≡ true → asked_node call part s.asks ≡ Some node) → IsOwn s (On number (link.Put (put_for asks call part request)))
own_put s true node number call part request ready serves sent = record { node = node; ready = ready; serves = sent refl }
own_put s false node number call part request ready serves sent = record { node = node; ready = ready; serves = serves refl }

-- the map is asked for
abbrev pub slots_bytes : List ℕ
slots_bytes = 42 ∷ 50 ∷ 13 ∷ 10 ∷ 36 ∷ 55 ∷ 13 ∷ 10 ∷ 67 ∷ 76 ∷ 85 ∷ 83 ∷ 84 ∷ 69 ∷ 82 ∷ 13 ∷ 10 ∷ 36 ∷ 53 ∷ 13 ∷ 10 ∷ 83 ∷ 76 ∷ 79 ∷ 84 ∷ 83 ∷ 13 ∷ 10 ∷ []

slots_same : slots_bytes ≡ map_request
unfolding digits
slots_same = refl

pub own_map : (s : SessionState) (node number count : ℕ) → IsReadyTo node number s.peers → count ≡ s.directory.table.count
    → IsOwn s (On number (link.Put ((ticket.Map count, slots_bytes) ∷ [])))
own_map s node number count ready is = (is, slots_same, record { node = node; ready = ready; serves = tt })

pub leads_asked : {E : Type 0} (old new : SessionState) (asks : Bool) (node number call part : ℕ) (result : Result Bool E)
    → IsReadyTo node number old.peers → (asks ≡ false → Serves old call part node) → (asks ≡ true → asked_node call part old.asks ≡ Some node)
    → (result ≡ Ok true → (request : List ℕ) × Happens old.machine (On number (link.Put (put_for asks call part request))) new.machine)
    → (result ≡ Ok false → new.machine ≡ old.machine) → OnErr result (new.machine ≡ old.machine) → new ≡ record old { machine = new.machine } → Leads old new
leads_asked old new asks node number call part (Ok true) ready serves sent does not fails others =
    let it = does refl in leads_by old new (On number (link.Put (put_for asks call part it.0))) tt it.1 (own_put old asks node number call part it.0 ready serves sent) others
leads_asked old new asks node number call part (Ok false) ready serves sent does not fails others = leads_nowhere old new (others ∙ ap (λ (m : State). record old { machine = m }) (not refl))
leads_asked old new asks node number call part (Err y) ready serves sent does not fails others = leads_nowhere old new (others ∙ ap (λ (m : State). record old { machine = m }) fails)

pub ends_on : (number : ℕ) (old mid new : SessionState) → Ends number old mid → Leads mid new → Ends number old new
ends_on number old mid new first then = record {
  mid = first.mid;
  ends = first.ends;
  none = first.none;
  others = first.others;
  alone = first.alone;
  leaves = first.leaves;
  leads = leads_on first.alone mid new first.leads then;
}

-- a number names one link
pub same_link : (s : State) (number : ℕ) (c other : Channel) → IsLink s number c → IsLink s number other → c ≡ other
same_link s number c other is its = same_Some c other (same_Some (Some c) (Some other) (sym is ∙ its))

pub gives_on : (caller call : ℕ) (old mid new : SessionState) → Leads (without_reply old) mid → Finishes caller call mid new → GivesReply caller call old new
gives_on caller call old mid new leads finishes = record { mid = mid; leads = leads; finishes = finishes }

pub on_ok : {X E P : Type 0} (result : Result X E) → P → OnOk result P
on_ok (Ok x) p = p
on_ok (Err y) p = tt

pub on_err : {X E P : Type 0} (result : Result X E) → P → OnErr result P
on_err (Ok x) p = tt
on_err (Err y) p = p

-- ---- what was taken on a link

-- one reply more
pub takes_more : (count number : ℕ) (old mid new : SessionState) → TakesReplies count number old mid → TakesReply number mid new → TakesReplies (suc count) number old new
takes_more zero number old mid new same takes = (new, subst (λ (s : SessionState). TakesReply number s new) same takes, refl)
takes_more (suc count) number old mid new first takes = (first.0, first.1, takes_more count number first.0 mid new first.2 takes)

-- no more, and then the session goes on
pub takes_all : (count number : ℕ) (old mid new : SessionState) → TakesReplies count number old mid → Leads mid new → TakesAll number old new
takes_all count number old mid new takes leads = record { count = count; mid = mid; takes = takes; leads = leads }

-- the last refusal of a part is the reply that it keeps
kept_reply : (reply other : List ℕ) (phase : Phase) → Keeps reply phase → phase ≡ Refused other → other ≡ reply
kept_reply reply other phase (inl answered) is = absurd (cc (answered, is))
kept_reply reply other phase (inr refused) is = cc

kept_learns : (host : List ℕ) (seat : Seat) (reply : List ℕ) (s : State) (old new : Table) → IsKeptIn seat.call seat.part reply s → LearnsKept host seat s old new → LearnsRedirect host seat.call seat.part reply s old new
kept_learns host seat reply s old new kept learns =
    let same : learns.1 ≡ kept.0 = same_Some learns.1 kept.0 (sym learns.2 ∙ kept.1) in
    let phase : kept.0.phase ≡ Refused learns.0 = ap (λ (p : PartState). p.phase) (sym same) ∙ learns.3 in
    subst (λ (r : List ℕ). LearnsRedirect host seat.call seat.part r s old new) (kept_reply reply learns.0 kept.0.phase kept.2 phase) learns.4

-- ---- what is learned

pub or_stays : {A B C : Type 0} → (A → B) → A ⊎ C → B ⊎ C
or_stays f (inl a) = inl (f a)
or_stays f (inr c) = inr c

pub grows_not : (N : Address → Type 0) (nodes : List Address) → Grows N nodes nodes
grows_not N nodes = ([], sym (append-nil nodes), All-nil N)

pub grows_on : (N : Address → Type 0) (old mid new : List Address) → Grows N old mid → Grows N mid new → Grows N old new
grows_on N old mid new first then = (
  first.0 ++ then.0,
  then.1 ∙ ap (λ (nodes : List Address). nodes ++ then.0) first.1 ∙ append_assoc old first.0 then.0,
  All-append N first.0 then.0 first.2 then.2,
)

pub grows_as : (N M : Address → Type 0) (old new : List Address) → ((node : Address) → N node → M node) → Grows N old new → Grows M old new
grows_as N M old new then grows = (grows.0, grows.1, all_as N M grows.0 then grows.2)

pub knows_nothing : (N : Address → Type 0) (old new : SessionState) → new ≡ old → Knows N old new
knows_nothing N old new same = subst (λ (s : SessionState). Knows N old s) (sym same) (record { nodes = grows_not N old.directory.nodes; others = refl })

pub knows_on : (N : Address → Type 0) (old mid new : SessionState) → Knows N old mid → Knows N mid new → Knows N old new
knows_on N old mid new first then = record {
  nodes = grows_on N old.directory.nodes mid.directory.nodes new.directory.nodes first.nodes then.nodes;
  others = then.others ∙ ap (λ (s : SessionState). record s { directory = record s.directory { nodes = new.directory.nodes } }) first.others;
}

pub knows_as : (N M : Address → Type 0) (old new : SessionState) → ((node : Address) → N node → M node) → Knows N old new → Knows M old new
knows_as N M old new then knows = record { nodes = grows_as N M old.directory.nodes new.directory.nodes then knows.nodes; others = knows.others }

module _ (N : Table → Address → Type 0) (T : Table → Table → Type 0) (P : Peers → Peers → Type 0) (A : List Address → Asks → Asks → Type 0) where
  pub learns_nothing : (old new : SessionState) → A old.directory.nodes old.asks old.asks → new ≡ old → Learns N T P A old new
  learns_nothing old new asks same = subst (λ (s : SessionState). Learns N T P A old s) (sym same)
      (record { nodes = grows_not (N old.directory.table) old.directory.nodes; table = inr refl; peers = inr refl; asks = asks; others = refl })

  pub learns_then : (old mid new : SessionState) → Learns N T P A old mid → Leads mid new → LearnsThen N T P A old new
  learns_then old mid new learns leads = record { wiser = mid; learns = learns; leads = leads }

  pub leads_only : (old new : SessionState) → A old.directory.nodes old.asks old.asks → Leads old new → LearnsThen N T P A old new
  leads_only old new asks leads = learns_then old old new (learns_nothing old old asks refl) leads

-- then nodes become known
pub sets_knows : (T : Table → Table → Type 0) (old mid new : SessionState) → Sets T old mid → Knows (IsInMap mid.directory.table) mid new → Sets T old new
sets_knows T old mid new learns knows = record {
  nodes = subst (λ (s : SessionState). Grows (IsInMap s.directory.table) old.directory.nodes new.directory.nodes) (sym knows.others)
      (grows_on (IsInMap mid.directory.table) old.directory.nodes mid.directory.nodes new.directory.nodes learns.nodes knows.nodes);
  table = subst (λ (s : SessionState). T old.directory.table s.directory.table ⊎ (s.directory.table ≡ old.directory.table)) (sym knows.others) learns.table;
  peers = subst (λ (s : SessionState). NoPeers old.peers s.peers ⊎ (s.peers ≡ old.peers)) (sym knows.others) learns.peers;
  asks = subst (λ (s : SessionState). s.asks ≡ old.asks) (sym knows.others) learns.asks;
  others = knows.others
      ∙ ap (λ (s : SessionState). record s { directory = record s.directory { nodes = new.directory.nodes } }) learns.others
      ∙ ap (λ (s : SessionState). record old { directory = s.directory; peers = s.peers; asks = s.asks }) (sym knows.others);
}

-- what is learned is also this
module _ (N M : Table → Address → Type 0) (T U : Table → Table → Type 0) (P Q : Peers → Peers → Type 0) (A B : List Address → Asks → Asks → Type 0) (old new : SessionState) where
  pub learns_as : ((table : Table) (node : Address) → N table node → M table node) → ((a b : Table) → T a b → U a b) → ((a b : Peers) → P a b → Q a b)
      → ((nodes : List Address) (a b : Asks) → A nodes a b → B nodes a b) → Learns N T P A old new → Learns M U Q B old new
  learns_as n f g h learns = record {
    nodes = grows_as (N new.directory.table) (M new.directory.table) old.directory.nodes new.directory.nodes (n new.directory.table) learns.nodes;
    table = or_stays (f old.directory.table new.directory.table) learns.table;
    peers = or_stays (g old.peers new.peers) learns.peers;
    asks = h new.directory.nodes old.asks new.asks learns.asks;
    others = learns.others;
  }

pub then_as : (N M : Table → Address → Type 0) (T U : Table → Table → Type 0) (P : Peers → Peers → Type 0) (A B : List Address → Asks → Asks → Type 0) (old new : SessionState)
    → ((table : Table) (node : Address) → N table node → M table node) → ((a b : Table) → T a b → U a b) → ((nodes : List Address) (a b : Asks) → A nodes a b → B nodes a b)
    → LearnsThen N T P A old new → LearnsThen M U P B old new
then_as N M T U P A B old new n f h then =
    record { wiser = then.wiser; learns = learns_as N M T U P P A B old then.wiser n f (λ a b p. p) h then.learns; leads = then.leads }

-- no peer changes
pub no_peers : (P : Peers → Peers → Type 0) (a b : Peers) → NoPeers a b → P a b
no_peers P a b none = absurd none

-- what was learned of a part is noted, and then the session goes on
pub sent_then : (N : SessionState → Table → Address → Type 0) (T : SessionState → Table → Table → Type 0) (P : Peers → Peers → Type 0) (A : SessionState → List Address → Asks → Asks → Type 0)
    (before old mid new : SessionState) → old ≡ before → Learns (N old) (T old) NoPeers (A old) old mid → Leads mid new → LearnsThen (N before) (T before) P (A before) before new
sent_then N T P A before old mid new same learns leads = subst (λ (s : SessionState). LearnsThen (N s) (T s) P (A s) s new) same
    (learns_then (N old) (T old) P (A old) old mid new
    (learns_as (N old) (N old) (T old) (T old) NoPeers P (A old) (A old) old mid (λ table node n. n) (λ a b t. t) (no_peers P) (λ n a b s. s) learns) leads)

-- the last refusal of a part, which it keeps, names a node
kept_joins : (host : List ℕ) (seat : Seat) (reply : List ℕ) (s : State) (table : Table) (node : Address) → IsKeptIn seat.call seat.part reply s → JoinsKept host seat s table node → JoinsRedirect host seat.call seat.part reply s table node
kept_joins host seat reply s table node kept joins =
    let same : joins.1 ≡ kept.0 = same_Some joins.1 kept.0 (sym joins.2 ∙ kept.1) in
    let phase : kept.0.phase ≡ Refused joins.0 = ap (λ (p : PartState). p.phase) (sym same) ∙ joins.3 in
    subst (λ (r : List ℕ). JoinsRedirect host seat.call seat.part r s table node) (kept_reply reply joins.0 kept.0.phase kept.2 phase) joins.4

-- a part that keeps a reply does not wait
waits_not : (reply : List ℕ) (phase : Phase) → Keeps reply phase → is_waiting phase ≡ true → ⊥
waits_not reply phase (inl answered) waits = absurd (cc (ap is_waiting answered, waits))
waits_not reply phase (inr refused) waits = absurd (cc (ap is_waiting refused, waits))

-- the last refusal of a part, which it keeps, sends it on
kept_sends : (host : List ℕ) (seat : Seat) (reply : List ℕ) (s : State) (nodes : List Address) (old new : Asks) → IsKeptIn seat.call seat.part reply s → SendsKept host seat s nodes old new → SendsOrForgets host seat.call seat.part reply s nodes old new
kept_sends host seat reply s nodes old new kept sends = record {
  asks = by sends;
  moved = λ it at waits says. absurd (waits_not reply it.phase (subst (λ (p : PartState). Keeps reply p.phase) (same_Some kept.0 it (sym kept.1 ∙ at)) kept.2) waits);
}
  where
    by : SendsKept host seat s nodes old new → SendsRedirect host seat.call seat.part reply s nodes old new ⊎ SetsAsk seat.call seat.part None old new ⊎ (new ≡ old)
    by (inl sent) =
        let same : sent.1 ≡ kept.0 = same_Some sent.1 kept.0 (sym sent.2 ∙ kept.1) in
        let phase : kept.0.phase ≡ Refused sent.0 = ap (λ (p : PartState). p.phase) (sym same) ∙ sent.3 in
        inl (subst (λ (r : List ℕ). SendsRedirect host seat.call seat.part r s nodes old new) (kept_reply reply sent.0 kept.0.phase kept.2 phase) sent.4)
    by (inr same) = inr (inr same)

module _ (number : ℕ) (old : SessionState) (machine : State) (new : SessionState) where
  -- what was taken, and what was noted of it
  pub takes_one : (took : Took) → IsTook number old.machine took machine → took ≢ Nothing → ((cause : BreakCause) → took ≢ Broken cause)
      → Notes number took (record old { machine = machine }) new → TakesReply number old new
  takes_one took is some whole notes = by took is some whole notes
    where
      mid : SessionState
      mid = record old { machine = machine }

      taken_by : (ticket : Ticket) (reply : List ℕ) → Happens old.machine (On number (link.Take ticket reply)) machine
          → LearnsThen (JoinsOf mid number ticket reply) (LearnsOf mid number ticket reply) (ReadiesOf number ticket reply) (SendsOf mid number ticket reply) mid new → TakesReply number old new
      taken_by ticket reply happens notes = record {
        ticket = ticket;
        reply = reply;
        mid = mid;
        taken = record { happens = happens; frees = (refl, refl); others = refl };
        wiser = notes.wiser;
        learns = notes.learns;
        leads = notes.leads;
      }

      by : (took : Took) → IsTook number old.machine took machine → took ≢ Nothing → ((cause : BreakCause) → took ≢ Broken cause)
          → Notes number took mid new → TakesReply number old new
      by Nothing is some whole notes = absurd (some refl)
      by (Broken cause) is some whole notes = absurd (whole cause refl)
      by (Kept seat) is some whole notes = let part = ticket.Part seat.call seat.part in taken_by part is.0 is.1
          (then_as (JoinsKept (host_at number mid) seat machine) (JoinsOf mid number part is.0) (LearnsKept (host_at number mid) seat machine) (LearnsOf mid number part is.0) (ReadiesOf number part is.0) (SendsKept (host_at number mid) seat machine) (SendsOf mid number part is.0) mid new
          (λ table node. kept_joins (host_at number mid) seat is.0 machine table node is.2) (λ a b. kept_learns (host_at number mid) seat is.0 machine a b is.2) (λ nodes a b. kept_sends (host_at number mid) seat is.0 machine nodes a b is.2) notes)
      by (Back seat reply) is some whole notes = taken_by (ticket.Part seat.call seat.part) reply.items is.0 notes
      by (Login reply) is some whole notes = taken_by ticket.Login reply.items is notes
      by (Map count reply) is some whole notes = taken_by (ticket.Map count) reply.items is notes
      by (Asking reply) is some whole notes = taken_by ticket.Asking reply.items is notes

pub map_noted : (number : ℕ) (took : Took) (count : ℕ) (reply : Vec ℕ Global) (bytes : List ℕ) (old new : SessionState) → took ≡ Map count reply → bytes ≡ reply.items
    → Sets (LearnsReply count (host_at number old) bytes) old new → Notes number took old new
map_noted number took count reply bytes old new is same sets = subst (λ (t : Took). Notes number t old new) (sym is)
    (subst (λ (b : List ℕ). LearnsThen IsInMap (LearnsReply count (host_at number old) b) NoPeers NoAsks old new) same
    (learns_then IsInMap (LearnsReply count (host_at number old) bytes) NoPeers NoAsks old new new sets (leads_nowhere new new refl)))

-- nothing was taken, so no part is sent anywhere
pub sends_none : (s : SessionState) (number : ℕ) (took : Took) → (took ≡ Nothing) ⊎ ((cause : BreakCause) × (took ≡ Broken cause)) → SendsTook s number took s.directory.nodes s.asks s.asks
sends_none s number took (inl is) = subst (λ (t : Took). SendsTook s number t s.directory.nodes s.asks s.asks) (sym is) refl
sends_none s number took (inr is) = subst (λ (t : Took). SendsTook s number t s.directory.nodes s.asks s.asks) (sym is.1) refl

pub back_noted : (number : ℕ) (took : Took) (seat : Seat) (reply : Vec ℕ Global) (bytes : List ℕ) (old new : SessionState) → took ≡ Back seat reply → bytes ≡ reply.items
    → LearnsThen (JoinsRedirect (host_at number old) seat.call seat.part bytes old.machine) (LearnsRedirect (host_at number old) seat.call seat.part bytes old.machine) NoPeers
    (SendsOrForgets (host_at number old) seat.call seat.part bytes old.machine) old new → Notes number took old new
back_noted number took seat reply bytes old new is same learns = subst (λ (t : Took). Notes number t old new) (sym is)
    (subst (λ (b : List ℕ). LearnsThen (JoinsRedirect (host_at number old) seat.call seat.part b old.machine) (LearnsRedirect (host_at number old) seat.call seat.part b old.machine) NoPeers
    (SendsOrForgets (host_at number old) seat.call seat.part b old.machine) old new) same learns)

pub login_noted : (number : ℕ) (took : Took) (reply : Vec ℕ Global) (bytes : List ℕ) (old new : SessionState) → took ≡ Login reply → bytes ≡ reply.items
    → Hails number bytes old new → Notes number took old new
login_noted number took reply bytes old new is same hails = subst (λ (t : Took). Notes number t old new) (sym is)
    (subst (λ (b : List ℕ). LearnsThen (JoinsTook old number (Login reply)) (LearnsTook old number (Login reply)) (Readies number b) NoAsks old new) same (record {
      wiser = new;
      learns = record {
        nodes = subst (λ (s : SessionState). Grows (JoinsTook old number (Login reply) new.directory.table) old.directory.nodes s.directory.nodes) (sym hails.others)
            (grows_not (JoinsTook old number (Login reply) new.directory.table) old.directory.nodes);
        table = inr (ap (λ (s : SessionState). s.directory.table) hails.others);
        peers = hails.peers;
        asks = ap (λ (s : SessionState). s.asks) hails.others;
        others = hails.others ∙ ap (λ (s : SessionState). record old { directory = s.directory; peers = new.peers; asks = s.asks }) (sym hails.others);
      };
      leads = leads_nowhere new new refl;
    }))

pub takes_next : (number : ℕ) (start before now new : SessionState) (machine : State) (took : Took) → (x : ℕ) × TakesReplies x number start now → before ≡ now
    → IsTook number before.machine took machine → took ≢ Nothing → ((cause : BreakCause) → took ≢ Broken cause) → Notes number took (record before { machine = machine }) new
    → (x : ℕ) × TakesReplies x number start new
takes_next number start before now new machine took so_far same is some whole notes = (
  suc so_far.0,
  takes_more so_far.0 number start now new so_far.1
      (subst (λ (s : SessionState). TakesReply number s new) same (takes_one number before machine new took is some whole notes)),
)

pub takes_last : (number : ℕ) (start new : SessionState) → (x : ℕ) × TakesReplies x number start new → TakesAll number start new
takes_last number start new takes = takes_all takes.0 number start new new takes.1 (leads_nowhere new new refl)

-- what came can be taken by nobody
pub breaks_off : (number : ℕ) (start before now new : SessionState) (machine : State) (took : Took) (cause : BreakCause) → (x : ℕ) × TakesReplies x number start now → before ≡ now
    → IsTook number before.machine took machine → took ≡ Broken cause → new ≡ record before { machine = machine } → TakesAll number start new
breaks_off number start before now new machine took cause so_far same is broken then =
    takes_all so_far.0 number start now new so_far.1
    (subst (λ (s : SessionState). Leads now s) (sym then) (subst (λ (s : SessionState). Leads s (record before { machine = machine })) same
    (leads_by before (record before { machine = machine }) (On number (link.Break cause)) tt (subst (λ (t : Took). IsTook number before.machine t machine) broken is) tt refl)))

pub all_then : (number : ℕ) (old mid new : SessionState) → TakesAll number old mid → Leads mid new → TakesAll number old new
all_then number old mid new takes then = takes_all takes.count number old takes.mid new takes.takes (leads_on takes.mid mid new takes.leads then)

pub hears_by : (number : ℕ) (bytes : List ℕ) (old mid new : SessionState) → Does (On number (link.Hear bytes)) old mid → TakesAll number mid new → Hears number bytes old new
hears_by number bytes old mid new hears takes = record { mid = mid; hears = hears; takes = takes }

-- ---- links

pub login_asked : (number : ℕ) (old : SessionState) (machine : State) (request : List ℕ) → request ≡ old.settings.login
    → Happens old.machine (On number (link.Put ((ticket.Login, request) ∷ []))) machine → AsksLogin number old (record old { machine = machine })
login_asked number old machine request is happens =
    inr (record { happens = subst (λ (r : List ℕ). Happens old.machine (On number (link.Put ((ticket.Login, r) ∷ []))) machine) is happens; frees = (refl, refl); others = refl })

pub opens_by : (number node : ℕ) (old mid ready new : SessionState) → IsOpened number old mid → BeginsLink number node mid ready → Leads ready new → Opens number node old new
opens_by number node old mid ready new opened begins leads = record { mid = mid; opened = opened; ready = ready; begins = begins; leads = leads }

-- Whatever peer a link had, it ends without one.
pub ends_changed : (number : ℕ) (old mid new : SessionState) → ChangesPeer number old mid → Ends number mid new → Ends number old new
ends_changed number old mid new changes ended = record {
  mid = record old { machine = ended.mid.machine };
  ends = λ connected. subst (λ (s : SessionState). Happens s.machine (On number link.End) ended.mid.machine) changes.others (ended.ends (there connected));
  none = λ not. ended.none (λ connected. not (back connected)) ∙ ap (λ (s : SessionState). s.machine) changes.others;
  others = refl;
  alone = ended.alone;
  leaves = record {
    peers = record {
      is = ended.leaves.peers.is;
      others = λ other ne. ended.leaves.peers.others other ne ∙ ap (λ (s : SessionState). peer_at other s.peers) ended.others ∙ changes.peers other ne;
    };
    others = ended.leaves.others ∙ ap (λ (s : SessionState). record s { peers = ended.alone.peers }) ended.others
        ∙ ap (λ (s : SessionState). record s { machine = ended.mid.machine; peers = ended.alone.peers }) changes.others;
  };
  leads = ended.leads;
}
  where
    there : IsConnected old number → IsConnected mid number
    there connected = subst (λ (s : SessionState). IsConnected s number) (sym changes.others) connected

    back : IsConnected mid number → IsConnected old number
    back connected = subst (λ (s : SessionState). IsConnected s number) changes.others connected
