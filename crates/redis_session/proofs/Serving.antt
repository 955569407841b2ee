-- Links, their nodes, and what these serve.
use Rattle.std.proofs.Common.{◌≡◌, ◌==◌, ◌<◌, ◌++◌, ◌∷◌, [], inl, inr, ℕ, List, All, Contains, Bool, true, false, Option, None, Some, length, arith, refl, sym, subst, ap, ◌∙◌}
use Rattle.std.specs.Prelude.{IfSome, get_or, is_some, slice_get}
use Rattle.std.proofs.lemmas.List.Elements.{All-contains, Contains-get_or}
use Rattle.std.proofs.lemmas.Bool.Decides.{nat_tests}
use Rattle.cluster_slots.specs.Address.{Address}
use Rattle.session_core.specs.Part.{PartState}
use Rattle.session_core.specs.State.{part_at}
use Rattle.session_core.specs.declared.part.PartOrder.{PartOrder}
use Rattle.session_core.specs.declared.part.PartOrder.TheVariants.{OfSlot, Whole, Free}
use Rattle.redis_session.specs.Begins.{has_slot}
use Rattle.redis_session.specs.Directory.{Directory, IsNodeOf, IsPrimary}
use Rattle.redis_session.specs.Learned.{IsInMap, host_at, host_in, host_of}
use Rattle.redis_session.specs.Leads.{AsksLogin, BeginsLink, ChangesPeer, Hails, IsNodeBy, IsNodeFor, Knows, Serves, SetsPeerOf}
use Rattle.redis_session.specs.Peers.{Peers, SetsPeer, made_ready, peer_at}
use Rattle.redis_session.specs.Rules.{is_several, node_in, rule_in}
use Rattle.redis_session.specs.SessionStates.{SessionState}
use Rattle.redis_session.specs.SplitReplies.{is_error}
use Rattle.redis_session.specs.declared.peers.Peer.{Peer}
use Rattle.redis_session.specs.declared.rules.ReplyRule.{ReplyRule}
use Rattle.redis_session.specs.declared.rules.ReplyRule.TheVariants.{One, Several, Split}
use Rattle.redis_session.proofs.Elements.{all_one}
use Rattle.redis_session.proofs.Leads.{knows_as, knows_on}

-- ---- which node serves a part

without_slot : (directory : Directory) (rule : ReplyRule) (part : ℕ) (order : PartOrder) (node : ℕ) → has_slot order ≡ false → IsNodeBy directory rule part node → IsNodeFor directory rule part order node
without_slot directory rule part (OfSlot slot) node none is = absurd (cc none)
without_slot directory rule part Whole node none is = is
without_slot directory rule part Free node none is = is

named_by : (directory : Directory) (rule : ReplyRule) (part node : ℕ) → node_in rule part ≡ Some node → IsNodeBy directory rule part node
named_by directory One part node is = absurd (cc is)
named_by directory (Split request) part node is = absurd (cc is)
named_by directory (Several policy nodes) part node is = is

primary_by : (directory : Directory) (rule : ReplyRule) (part node : ℕ) → is_several rule ≡ false → IsPrimary node directory → IsNodeBy directory rule part node
primary_by directory One part node one is = is
primary_by directory (Split request) part node one is = is
primary_by directory (Several policy nodes) part node one is = absurd (cc one)

module _ (s : SessionState) (call part : ℕ) where
  pub slot_serves : (slot : ℕ) (found : Option ℕ) → ((p : PartState) → part_at call part s.machine ≡ Some p → p.order ≡ OfSlot slot) → IfSome found (λ node. IsNodeOf slot node s.directory) → IfSome found (Serves s call part)
  slot_serves slot None order is = tt
  slot_serves slot (Some node) order is = λ p at. subst (λ (o : PartOrder). IsNodeFor s.directory (rule_in s.rules call) part o node) (sym (order p at)) is

  pub named_serves : (found : Option ℕ) → ((p : PartState) → part_at call part s.machine ≡ Some p → has_slot p.order ≡ false) → found ≡ node_in (rule_in s.rules call) part → IfSome found (Serves s call part)
  named_serves None order is = tt
  named_serves (Some node) order is = λ p at. without_slot s.directory (rule_in s.rules call) part p.order node (order p at) (named_by s.directory (rule_in s.rules call) part node (sym is))

  pub primary_serves : (found : Option ℕ) → ((p : PartState) → part_at call part s.machine ≡ Some p → has_slot p.order ≡ false) → is_several (rule_in s.rules call) ≡ false
      → IfSome found (λ node. IsPrimary node s.directory) → IfSome found (Serves s call part)
  primary_serves None order one is = tt
  primary_serves (Some node) order one is = λ p at. without_slot s.directory (rule_in s.rules call) part p.order node (order p at) (primary_by s.directory (rule_in s.rules call) part node one is)

-- ---- nodes that become known

pub knows_more : (before old : SessionState) (directory : Directory) (added : Option ℕ) (address : Address) → before ≡ old → is_some added ≡ true
    → IfSome added (λ node. (node ≡ length before.directory.nodes) × (directory ≡ record before.directory { nodes = before.directory.nodes ++ address ∷ [] })) → Knows (λ known. known ≡ address) old (record before { directory = directory })
knows_more before old directory None address same some is = absurd (cc some)
knows_more before old directory (Some node) address same some is = subst (λ (s : SessionState). Knows (λ known. known ≡ address) s (record before { directory = directory })) same
    (record { nodes = (address ∷ [], ap (λ (d : Directory). d.nodes) is.1, all_one (λ known. known ≡ address) address refl); others = ap (λ (d : Directory). record before { directory = d }) (is.1 ∙ ap (λ (d : Directory). record before.directory { nodes = d.nodes }) (sym is.1)) })

-- one more node of the map becomes known
pub knows_listed : (start before mid new : SessionState) (items nodes : List Address) (k : ℕ) (x : Address) → before ≡ start → All (IsInMap before.directory.table) nodes → items ≡ nodes → k < length items → x ≡ get_or items k x
    → Knows (IsInMap start.directory.table) start mid → Knows (λ known. known ≡ x) mid new → Knows (IsInMap start.directory.table) start new
knows_listed start before mid new items nodes k x same all are within is so_far knows =
    let among : Contains nodes x = subst (λ (list : List Address). Contains list x) are (subst (Contains items) (sym is) (Contains-get_or items k x within)) in
    let there : IsInMap start.directory.table x =
    subst (λ (s : SessionState). IsInMap s.directory.table x) same (All-contains (IsInMap before.directory.table) nodes x all among) in
    knows_on (IsInMap start.directory.table) start mid new so_far
    (knows_as (λ known. known ≡ x) (IsInMap start.directory.table) mid new (λ known is_it. subst (IsInMap start.directory.table) (sym is_it) there) knows)

-- ---- the node of a link

pub hails_by : (number : ℕ) (reply : List ℕ) (before old : SessionState) (peers : Peers) → before ≡ old → is_error reply ≡ false → SetsPeer number (made_ready (peer_at number before.peers)) before.peers peers
    → (peer_at number before.peers ≡ None → peers ≡ before.peers) → Hails number reply old (record before { peers = peers })
hails_by number reply before old peers same accepted sets none = subst (λ (s : SessionState). Hails number reply s (record before { peers = peers })) same (by (peer_at number before.peers) refl)
  where
    by : (p : Option Peer) → peer_at number before.peers ≡ p → Hails number reply before (record before { peers = peers })
    by None is = record { peers = inr (none is); others = refl }
    by (Some peer) is = record {
      peers = inl (record { peer = peer; peer_is = is; accepted = accepted; sets = subst (λ p. SetsPeer number (made_ready p) before.peers peers) is sets });
      others = refl;
    }

nil_if : (xs : List ℕ) → (length xs == 0) ≡ true → xs ≡ []
nil_if [] is = refl
nil_if (x ∷ xs) is = absurd (grind (arith, nat_tests))

pub begins_ready : (number node : ℕ) (before old : SessionState) (ready : Bool) (peers : Peers) → before ≡ old → ready ≡ (length before.settings.login == 0) → ready ≡ true
    → SetsPeer number (Some (record { node = node; is_ready = ready })) before.peers peers → BeginsLink number node old (record before { peers = peers })
begins_ready number node before old ready peers same is at_once sets = subst (λ (s : SessionState). BeginsLink number node s (record before { peers = peers })) same (record {
  joint = record before { peers = peers };
  joins = record { peers = subst (λ r. SetsPeer number (Some (record { node = node; is_ready = r })) before.peers peers) is sets; others = refl };
  asks = inl (nil_if before.settings.login (sym is ∙ at_once), refl);
})

pub begins_asked : (number node : ℕ) (before old new : SessionState) (ready : Bool) (peers : Peers) → before ≡ old → ready ≡ (length before.settings.login == 0)
    → SetsPeer number (Some (record { node = node; is_ready = ready })) before.peers peers → AsksLogin number (record before { peers = peers }) new → BeginsLink number node old new
begins_asked number node before old new ready peers same is sets asks = subst (λ (s : SessionState). BeginsLink number node s new) same (record {
  joint = record before { peers = peers };
  joins = record { peers = subst (λ r. SetsPeer number (Some (record { node = node; is_ready = r })) before.peers peers) is sets; others = refl };
  asks = asks;
})

pub changes_by : (number : ℕ) (peer : Option Peer) (before old new : SessionState) (peers : Peers) → before ≡ old → SetsPeer number peer before.peers peers → new ≡ record before { peers = peers } → ChangesPeer number old new
changes_by number peer before old new peers same sets is = subst (λ (s : SessionState). ChangesPeer number s new) same (subst (λ (s : SessionState). ChangesPeer number before s) (sym is) (record { peers = sets.others; others = refl }))

pub leaves_by : (number : ℕ) (before mid : SessionState) (peers : Peers) → before ≡ mid → SetsPeer number None before.peers peers → SetsPeerOf number None mid (record before { peers = peers })
leaves_by number before mid peers same sets = subst (λ (s : SessionState). SetsPeerOf number None s (record before { peers = peers })) same (record { peers = sets; others = refl })

pub host_is : (link node : ℕ) (s : SessionState) → (peer : Peer) × (peer_at link s.peers ≡ Some peer) × (peer.node ≡ node) → host_in (slice_get s.directory.nodes node) ≡ host_at link s
host_is link node s at = ap (λ n. host_in (slice_get s.directory.nodes n)) (sym at.2) ∙ ap (λ p. host_of p s.directory.nodes) (sym at.1)
