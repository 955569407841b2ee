-- Redirects in errors.
use Rattle.std.proofs.Common.{◌≡◌, ◌++◌, ◌∙◌, ◌⊎◌, inl, inr, ℕ, List, Bool, true, false, Ok, Err, OnErr, Option, None, Some, take, drop, refl, sym, ap, subst}
use Rattle.std.specs.Prelude.{Result, IfOk, IfSome, MatchOption, bytes_eq, codes, slice_get}
use Rattle.std.specs.Cmp.Lexicographic.{bytes_decides}
use Rattle.std.proofs.lemmas.List.{take-append-drop}
use Rattle.resp.specs.Forms.{crlf}
use Rattle.redis_routing.specs.RedirectText.{IsNoRedirect, IsRedirectText}
use Rattle.redis_routing.specs.declared.info.Redirect.{Redirect}
use Rattle.session_core.specs.declared.ordered_part.Seat.{Seat}
use Rattle.session_core.specs.Part.{PartState, Refused}
use Rattle.session_core.specs.State.{State, part_at}
use Rattle.cluster_slots.specs.Address.{Address}
use Rattle.redis_routing.specs.declared.info.Redirect.TheVariants.{Ask, Moved}
use Rattle.redis_session.specs.Asks.{Asks, SetsAsk}
use Rattle.redis_session.specs.Directory.{Directory, Grows}
use Rattle.redis_session.specs.Learned.{IsInMap, IsRedirectIn, JoinsKept, JoinsRedirect, JoinsTold, Learns, LearnsKept, LearnsRedirect, LearnsReply, LearnsTold, ForgetsAsk, IsSentOn, MaySend, NoPeers, SendsKept, SendsOn, SendsOrForgets, SendsRedirect, SendsTold, Sets, host_at}
use Rattle.redis_session.specs.Leads.{Knows}
use Rattle.redis_session.specs.Table.{LearnsMoved, Table}
use Rattle.redis_session.specs.SessionStates.{SessionState}
use Rattle.redis_session.proofs.Leads.{grows_as, grows_not, learns_as, or_stays}
use Rattle.redis_session.proofs.SentParts.{unset}

-- bytes without what they begin with
stripped : (n : ℕ) (bytes prefix rest : List ℕ) → bytes_eq (take n bytes) prefix ≡ true → rest ≡ drop n bytes → bytes ≡ prefix ++ rest
stripped n bytes prefix rest same is = sym (take-append-drop n bytes) ∙ ap (λ p. p ++ drop n bytes) ((bytes_decides (take n bytes) prefix).0 same) ∙ ap (λ r. prefix ++ r) (sym is)

-- bytes without their end
stripped_end : (n : ℕ) (bytes suffix rest : List ℕ) → bytes_eq (drop n bytes) suffix ≡ true → rest ≡ take n bytes → bytes ≡ rest ++ suffix
stripped_end n bytes suffix rest same is = sym (take-append-drop n bytes) ∙ ap (λ s. take n bytes ++ s) ((bytes_decides (drop n bytes) suffix).0 same) ∙ ap (λ r. r ++ suffix) (sym is)

-- an error without its mark and the end of its line
pub error_text : (n m : ℕ) (reply rest text : List ℕ) → bytes_eq (take n reply) (codes "-") ≡ true → rest ≡ drop n reply
    → bytes_eq (drop m rest) crlf ≡ true → text ≡ take m rest → reply ≡ codes "-" ++ (text ++ crlf)
error_text n m reply rest text begins is ends text_is =
    stripped n reply (codes "-") rest begins is ∙ ap (λ r. codes "-" ++ r) (stripped_end m rest crlf text ends text_is)

pub redirect_read : {E : Type 0} (answering text reply : List ℕ) (result : Result (Option (ℕ × Redirect)) E) → reply ≡ codes "-" ++ (text ++ crlf)
    → IfOk result (λ told. MatchOption told (IsNoRedirect answering text) (λ r. IsRedirectText answering text r.0 r.1))
    → IfOk result (λ told. IfSome told (λ to. IsRedirectIn answering reply to.0 to.1))
redirect_read answering text reply (Ok (Some told)) is read = (text, is, read)
redirect_read answering text reply (Ok None) is read = tt
redirect_read answering text reply (Err y) is read = tt

-- ---- what a session learns of them

module _ (host : List ℕ) (it : PartState) (s : State) (seat : Seat) (there : part_at seat.call seat.part s ≡ Some it) (old new : SessionState) where
  -- a refusal of the part
  pub told_learns : {E : Type 0} (reply : List ℕ) (told : Result (Option (ℕ × Redirect)) E) → IfOk told (λ t. IfSome t (λ to. SendsOn host it reply to.0 to.1))
      → Learns (JoinsTold told) (LearnsTold told) NoPeers (SendsTold seat told) old new
      → Learns (JoinsRedirect host seat.call seat.part reply s) (LearnsRedirect host seat.call seat.part reply s) NoPeers (MaySend host seat.call seat.part reply s) old new
  told_learns {E = E} reply told sends =
      learns_as (JoinsTold told) (JoinsRedirect host seat.call seat.part reply s) (LearnsTold told) (LearnsRedirect host seat.call seat.part reply s) NoPeers NoPeers (SendsTold seat told) (MaySend host seat.call seat.part reply s) old new
      as_named as_redirect (λ a b none. none) as_sent
    where
      is_sent : (slot : ℕ) (redirect : Redirect) → told ≡ Ok (Some (slot, redirect)) → SendsOn host it reply slot redirect
      is_sent slot redirect is = subst (λ (t : Result (Option (ℕ × Redirect)) E). IfOk t (λ o. IfSome o (λ to. SendsOn host it reply to.0 to.1))) is sends

      as_named : (table : Table) (node : Address) → JoinsTold told table node → JoinsRedirect host seat.call seat.part reply s table node
      as_named table node j = record { it = it; part_is = there; slot = j.0; redirect = j.1; sent = is_sent j.0 j.1 j.2; named = j.3 }

      as_redirect : (a b : Table) → LearnsTold told a b → LearnsRedirect host seat.call seat.part reply s a b
      as_redirect a b l = record { it = it; part_is = there; slot = l.0; node = l.1; sent = is_sent l.0 (Moved l.1) l.2; learns = l.3 }

      as_sent : (nodes : List Address) (a b : Asks) → SendsTold seat told nodes a b → MaySend host seat.call seat.part reply s nodes a b
      as_sent nodes a b (inl l) =
          inl (record { it = it; part_is = there; slot = l.0; address = l.1; sent = is_sent l.0 (Ask l.1) l.2; node = l.3; node_is = l.4; sends = l.5 })
      as_sent nodes a b (inr same) = inr same

pub kept_learned : (host : List ℕ) (it : PartState) (s : State) (seat : Seat) (reply : List ℕ) (old new : SessionState) → part_at seat.call seat.part s ≡ Some it → it.phase ≡ Refused reply
    → Learns (JoinsRedirect host seat.call seat.part reply s) (LearnsRedirect host seat.call seat.part reply s) NoPeers (MaySend host seat.call seat.part reply s) old new
    → Learns (JoinsKept host seat s) (LearnsKept host seat s) NoPeers (SendsKept host seat s) old new
kept_learned host it s seat reply old new there refused =
    learns_as (JoinsRedirect host seat.call seat.part reply s) (JoinsKept host seat s) (LearnsRedirect host seat.call seat.part reply s) (LearnsKept host seat s) NoPeers NoPeers (MaySend host seat.call seat.part reply s) (SendsKept host seat s) old new
    (λ table node joins. (reply, it, there, refused, joins)) (λ a b learns. (reply, it, there, refused, learns)) (λ a b none. none) (λ nodes a b sends. or_stays (λ sent. (reply, it, there, refused, sent)) sends)

-- what was learned of a refusal, and then a `MOVED` forgets where the part was sent
pub then_forgets : (link call part : ℕ) (reply : List ℕ) (old mid new : SessionState) → IsSentOn link call part reply old mid → ForgetsAsk call part reply mid new
    → Learns (JoinsRedirect (host_at link old) call part reply old.machine) (LearnsRedirect (host_at link old) call part reply old.machine) NoPeers (SendsOrForgets (host_at link old) call part reply old.machine) old new
then_forgets link call part reply old mid new learns forgets = record {
  nodes = subst (λ (s : SessionState). Grows (JoinsRedirect (host_at link old) call part reply old.machine s.directory.table) old.directory.nodes s.directory.nodes) (sym forgets.others) learns.nodes;
  table = subst (λ (s : SessionState). LearnsRedirect (host_at link old) call part reply old.machine old.directory.table s.directory.table ⊎ (s.directory.table ≡ old.directory.table)) (sym forgets.others) learns.table;
  peers = subst (λ (s : SessionState). NoPeers old.peers s.peers ⊎ (s.peers ≡ old.peers)) (sym forgets.others) learns.peers;
  asks = record {
    asks = subst (λ (d : Directory). Asked d.nodes new.asks) (ap (λ (s : SessionState). s.directory) (sym forgets.others)) (by learns.asks forgets.asks);
    moved = λ it at waits says. forgets.moved says;
  };
  others = forgets.others ∙ ap (λ (s : SessionState). record s { asks = new.asks }) learns.others
      ∙ ap (λ (s : SessionState). record old { directory = s.directory; peers = s.peers; asks = new.asks }) (sym forgets.others);
}
  where
    Asked : List Address → Asks → Type 0
    Asked nodes asks = SendsRedirect (host_at link old) call part reply old.machine nodes old.asks asks ⊎ SetsAsk call part None old.asks asks ⊎ (asks ≡ old.asks)

    stays : MaySend (host_at link old) call part reply old.machine mid.directory.nodes old.asks mid.asks → Asked mid.directory.nodes mid.asks
    stays (inl sent) = inl sent
    stays (inr same) = inr (inr same)

    by : MaySend (host_at link old) call part reply old.machine mid.directory.nodes old.asks mid.asks → SetsAsk call part None mid.asks new.asks ⊎ (new.asks ≡ mid.asks) → Asked mid.directory.nodes new.asks
    by sent (inr same) = subst (Asked mid.directory.nodes) (sym same) (stays sent)
    by (inl sent) (inl forgot) = inr (inl (unset call part (Some sent.node) old.asks mid.asks new.asks sent.sends forgot))
    by (inr same) (inl forgot) = inr (inl (subst (λ (a : Asks). SetsAsk call part None a new.asks) same forgot))

-- a node became known, and then the table learned of it
pub told_moved : {E : Type 0} (told : Result (Option (ℕ × Redirect)) E) (seat : Seat) (slot : ℕ) (node : Address) (old mid new : SessionState) → told ≡ Ok (Some (slot, Moved node)) → Knows (λ known. known ≡ node) old mid
    → LearnsMoved slot node mid.directory.table new.directory.table → new ≡ record mid { directory = record mid.directory { table = new.directory.table } }
    → Learns (JoinsTold told) (LearnsTold told) NoPeers (SendsTold seat told) old new
told_moved told seat slot node old mid new is knows learns others =
    let then : new ≡ record old { directory = record mid.directory { table = new.directory.table } } =
    others ∙ ap (λ (s : SessionState). record s { directory = record mid.directory { table = new.directory.table } }) knows.others in
    record {
      nodes = subst (λ (s : SessionState). Grows (JoinsTold told new.directory.table) old.directory.nodes s.directory.nodes) (sym others)
          (grows_as (λ known. known ≡ node) (JoinsTold told new.directory.table) old.directory.nodes mid.directory.nodes (λ known same. (slot, Moved node, is, sym same)) knows.nodes);
      table = inl (slot, node, is, subst (λ (t : Table). LearnsMoved slot node t new.directory.table) (ap (λ (s : SessionState). s.directory.table) knows.others) learns);
      peers = inr (ap (λ (s : SessionState). s.peers) then);
      asks = inr (ap (λ (s : SessionState). s.asks) then);
      others = subst (λ (s : SessionState). s ≡ record old { directory = s.directory; peers = s.peers; asks = s.asks }) (sym then) refl;
    }

-- a node became known, and the part is sent there once
pub told_asked : {E : Type 0} (told : Result (Option (ℕ × Redirect)) E) (seat : Seat) (slot node : ℕ) (address : Address) (old mid new : SessionState) → told ≡ Ok (Some (slot, Ask address)) → Knows (λ known. known ≡ address) old mid
    → slice_get mid.directory.nodes node ≡ Some address → SetsAsk seat.call seat.part (Some node) mid.asks new.asks → new ≡ record mid { asks = new.asks }
    → Learns (JoinsTold told) (LearnsTold told) NoPeers (SendsTold seat told) old new
told_asked told seat slot node address old mid new is knows node_is sends others =
    let then : new ≡ record old { directory = mid.directory; asks = new.asks } =
    others ∙ ap (λ (s : SessionState). record s { directory = mid.directory; asks = new.asks }) knows.others in
    record {
      nodes = subst (λ (s : SessionState). Grows (JoinsTold told new.directory.table) old.directory.nodes s.directory.nodes) (sym others)
          (grows_as (λ known. known ≡ address) (JoinsTold told new.directory.table) old.directory.nodes mid.directory.nodes (λ known same. (slot, Ask address, is, sym same)) knows.nodes);
      table = inr (ap (λ (s : SessionState). s.directory.table) others ∙ ap (λ (s : SessionState). s.directory.table) knows.others);
      peers = inr (ap (λ (s : SessionState). s.peers) then);
      asks = inl (
        slot,
        address,
        is,
        node,
        subst (λ (s : SessionState). slice_get s.directory.nodes node ≡ Some address) (sym others) node_is,
        subst (λ (a : Asks). SetsAsk seat.call seat.part (Some node) a new.asks) (ap (λ (s : SessionState). s.asks) knows.others) sends,
      );
      others = subst (λ (s : SessionState). s ≡ record old { directory = s.directory; peers = s.peers; asks = s.asks }) (sym then) refl;
    }

-- ---- and of maps

pub filled_sets : {E : Type 0} (asked : ℕ) (host reply : List ℕ) (result : Result Bool E) (before old : SessionState) (directory : Directory) → before ≡ old
    → IfOk result (λ fills. fills ≡ true → LearnsReply asked host reply before.directory.table directory.table) → IfOk result (λ fills. fills ≡ false → directory ≡ before.directory)
    → OnErr result (directory ≡ before.directory) → directory ≡ record before.directory { table = directory.table } → Sets (LearnsReply asked host reply) old (record before { directory = directory })
filled_sets {E = E} asked host reply result before old directory same learns stays fails others =
    subst (λ (s : SessionState). Sets (LearnsReply asked host reply) s (record before { directory = directory })) same
    (record {
      nodes = subst (λ (d : Directory). Grows (IsInMap directory.table) before.directory.nodes d.nodes) (sym others) (grows_not (IsInMap directory.table) before.directory.nodes);
      table = by result learns stays fails;
      peers = inr refl;
      asks = refl;
      others = refl;
    })
  where
    by : (r : Result Bool E) → IfOk r (λ fills. fills ≡ true → LearnsReply asked host reply before.directory.table directory.table) → IfOk r (λ fills. fills ≡ false → directory ≡ before.directory)
        → OnErr r (directory ≡ before.directory) → LearnsReply asked host reply before.directory.table directory.table ⊎ (directory.table ≡ before.directory.table)
    by (Ok true) learnt stay fail = inl (learnt refl)
    by (Ok false) learnt stay fail = inr (ap (λ (d : Directory). d.table) (stay refl))
    by (Err y) learnt stay fail = inr (ap (λ (d : Directory). d.table) fail)
